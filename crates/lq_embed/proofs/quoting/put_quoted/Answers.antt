use Rattle.std.proofs.Common.{◌∙◌, ◌∷◌, ◌++◌, [], ap}
use Rattle.lq_embed.specs.Quoting.{escaped_for}
use Rattle.lq_embed.proofs.QuoteLemmas.{pushed_first, pushed_last}
use Rattle.lq_embed.proofs.quoting.put_quoted.Goals as goal

pub loop-byte-init : goal.loop-byte-init
loop-byte-init c =
    ap (λ l. l ++ (escaped_for c.args.op c.args.text.now ++ 34 ∷ [])) c.in_ok-push.ensures.items
    ∙ pushed_first c.args.op c.args.text.now c.args.out.now.items

pub returns-clause-value : goal.returns-clause-value
returns-clause-value c = c.in_ok-push-4.ensures.items
    ∙ pushed_last c.args.op c.args.text.now c.loop-byte.byte-index c.loop-byte.out.items _
    c.loop-byte-test.false c.loop-byte.invariant
