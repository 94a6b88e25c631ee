use Rattle.std.proofs.Common.{ap, inr, refl, subst, sym}
use Rattle.lq_desk.specs.Reply.{answer_of}
use Rattle.lq_predicate.specs.Stack.{only_part}
use Rattle.lq_predicate.specs.Stacked.{Stacked}
use Rattle.lq_update.specs.declared.open_options.OpenOptions.{OpenOptions as QueryOptions}
use Rattle.lq_embed.specs.Opening.{OpensBy, asked_options}
use Rattle.lq_embed.specs.Requests.{stack_left, open_pushed}
use Rattle.lq_embed.specs.SessionState.{holds, with_pushed}
use Rattle.lq_embed.proofs.CallLemmas.{kept-refused, opens-made}
use Rattle.lq_embed.proofs.PushedLemmas.{none-code, opens-alone, opens-none}
use Rattle.lq_embed.proofs.embedded.Embedded.open_pushed_by.Goals as goal

pub returns-in-Err : goal.returns-in-Err
returns-in-Err c = record {
  opened = holds c.refused.new.self;
  opens = opens-none (asked_options c.args.options.now)
      (only_part c.args.self.now.stack.items) c.in-Err.refusal
      c.in-Err.ensures.refused
      (ap (λ (s : Stacked). with_pushed (holds c.args.self.now) s) c.in-Err.ensures.err)
      c.refused.ensures.status c.refused.ensures.after;
  kept = sym (kept-refused c.args.options.now.no_result _ _ _
      (none-code _ _ _ c.in-Err.ensures.refused c.refused.ensures.status));
}

pub returns : goal.returns
returns c = subst (λ (asked : QueryOptions). OpensBy (holds c.args.self.now)
    (holds c.keep_by.new.self)
    (stack_left c.args.self.now.stack (only_part c.args.self.now.stack.items)) c.args.options.now
    (open_pushed c.args.self.now.stack.pushes asked
    (only_part c.args.self.now.stack.items)) c.opened-status.result c.args.out.now
    c.opened-status.new.out) c.asked_options-options.ensures (record {
      opened = holds c.opened-status.new.self;
      opens = opens-alone c.asked_options-options.result
          (only_part c.args.self.now.stack.items) c.in-Ok.predicate
          c.in-Ok.ensures.value
          (ap (λ (s : Stacked). with_pushed (holds c.args.self.now) s) c.in-Ok.ensures.ok)
          (opens-made (answer_of c.turn-reply.result) (inr c.turn-reply.ensures) refl
          c.opened-status.ensures.status c.opened-status.ensures.out
          c.opened-status.ensures.after);
      kept = c.keep_by.ensures;
    })
