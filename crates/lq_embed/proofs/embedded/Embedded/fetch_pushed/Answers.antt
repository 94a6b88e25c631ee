use Rattle.std.proofs.Common.{ap, refl}
use Rattle.lq_predicate.specs.Stack.{only_part}
use Rattle.lq_predicate.specs.Stacked.{Stacked}
use Rattle.lq_embed.specs.SessionState.{holds, with_pushed}
use Rattle.lq_embed.proofs.CallLemmas.{fetches-made}
use Rattle.lq_embed.proofs.PushedLemmas.{fetches-alone, fetches-none}
use Rattle.lq_embed.proofs.embedded.Embedded.fetch_pushed.Goals as goal

pub returns-in-Err : goal.returns-in-Err
returns-in-Err c = fetches-none (only_part c.args.self.now.stack.items) c.in-Err.refusal
    c.in-Err.ensures.refused
    (ap (λ (s : Stacked). with_pushed (holds c.args.self.now) s) c.in-Err.ensures.err)
    c.refused.ensures.status c.refused.ensures.after

pub returns-in-Ok : goal.returns-in-Ok
returns-in-Ok c = fetches-alone (only_part c.args.self.now.stack.items) c.in-Ok.predicate
    c.in-Ok.ensures.value
    (ap (λ (s : Stacked). with_pushed (holds c.args.self.now) s) c.in-Ok.ensures.ok)
    (fetches-made c.look-response.ensures refl c.fetched.ensures.status c.fetched.ensures.out
    c.fetched.ensures.after)
