use Rattle.std.proofs.Common.{◌∙◌, ℕ, List, sym, ap}
use Rattle.std.specs.Prelude.{◌==◌, Err}
use Rattle.lq_value.specs.declared.refusal.Refusal.TheVariants.{NotUtf8}
use Rattle.lq_update.specs.declared.open_options.OpenOptions.{OpenOptions as QueryOptions}
use Rattle.lq_script_request.specs.Request.{asks_open, request_for}
use Rattle.lq_desk.specs.Reply.{answer_of}
use Rattle.lq_embed.specs.Opening.{asked_options}
use Rattle.lq_embed.specs.SessionState.{holds}
use Rattle.lq_embed.proofs.CallLemmas.{kept-refused, opens-as, opens-made, opens-not_utf8, if-not_utf8, if-utf8}
use Rattle.lq_embed.proofs.embedded.Embedded.open_by.Goals as goal

pub returns-in_default : goal.returns-in_default
returns-in_default c = record {
  opened = holds c.args.self.now;
  opens = opens-not_utf8 (if-not_utf8 c.args.formula.now _ _ c.in_default.ensures.cases.0)
      c.status.ensures;
  kept = sym (kept-refused c.args.options.now.no_result _ _ _ (ap (λ (n : ℕ). n == 0)
      c.status.ensures));
}

pub returns : goal.returns
returns c =
    let text = c.in-Ok.ensures.cases in record {
      opened = holds c.opened-status.new.self;
      opens = opens-as (if-utf8 c.args.formula.now _ (Err NotUtf8) text.1
          ∙ ap (λ (formula : List ℕ). request_for (asks_open formula
          (asked_options c.args.options.now))) (sym text.0)
          ∙ ap (λ (asked : QueryOptions). request_for (asks_open c.in-Ok.query.now asked))
          (sym c.asked_options-options.ensures))
          (opens-made (answer_of c.answer_request-reply.result)
          c.answer_request-reply.ensures.asks c.answer_request-reply.ensures.beside
          c.opened-status.ensures.status c.opened-status.ensures.out c.opened-status.ensures.after);
      kept = c.keep_by.ensures;
    }
