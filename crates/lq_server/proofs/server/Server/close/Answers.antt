use Rattle.std.proofs.Common.{ℕ, sym, subst}
use Rattle.std.specs.Prelude.{Result}
use Rattle.lq_value.specs.declared.refusal.Refusal.{Refusal}
use Rattle.lq_server.specs.Closed.{IsCloseAnswer}
use Rattle.lq_server_slots.specs.Hold.{ReaderHold}
use Rattle.lq_server_slots.specs.Own.{IsOwn}
use Rattle.lq_server.proofs.OwnLemmas.{closed_answer, hold}
use Rattle.lq_server.proofs.server.Server.close.Goals as goal

pub returns : goal.returns
returns g c =
    let i = c.reader.inside in
    let old : ReaderHold = hold i.reading i.seat i.slot i.hang_up_asked in
    let f = c.close-closed in
    let new : ReaderHold = record old { reading = f.new.reading; seat = f.new.seat } in
    let own : IsOwn old = subst IsOwn (sym c.reader.view_is) c.requires.own in
    subst (λ (r : ReaderHold). IsCloseAnswer r new c.ok_or.result) c.reader.view_is
    (subst (λ (x : Result ℕ Refusal). IsCloseAnswer old new x) (sym c.ok_or.ensures.value)
    (closed_answer old f.new.seat f.new.reading _ own c.update_facts.ensures f.ensures.closed))
