use Rattle.std.proofs.Common.{◌++◌}
use Rattle.lq_embed.specs.Quoting.{quoted_for}
use Rattle.lq_embed.proofs.QuoteLemmas.{Written}
use Rattle.lq_embed.proofs.quoting.put_quoted.Given as goal

abbrev pub invariant-loop-byte : goal.invariant-loop-byte
invariant-loop-byte l = Written l.op l.text l.byte-index l.out.items
    (l.fn.out.items ++ quoted_for l.op l.text)
