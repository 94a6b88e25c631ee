use Rattle.std.proofs.Common.{None, refl, subst, arith, rules, ◌∙◌, ◌+◌, ◌-◌, ◌≡◌}
use Rattle.std.specs.Prelude.{IsSome}
use Rattle.lq_server_slots.specs.Hold.{LockHold}
use Rattle.lq_server_slots.specs.Slots.{slot_in}
use Rattle.lq_server_slots.proofs.ApplyLemmas.{state_kept}
use Rattle.lq_server_slots.proofs.SyncLemmas.{seat_joined, joined_asks}
use Rattle.lq_server_slots.proofs.TakenLemmas.{taken_out}
use Rattle.lq_board.specs.Slot.{slot_at}
use Rattle.lq_server_slots.proofs.TableLemmas.{in_else, in_here, slots_kept-step, slots_stay}
use Rattle.lq_server_slots.proofs.server_state.ServerState.finish.Goals as goal

pub invariant_of-self : goal.invariant_of-self
invariant_of-self g c =
    let i = c.self.invariant in
    let was = c.self.inside.slots in
    let f = c.join.ensures in
    let seat = c.args.seat in
    let low = c.requires.seat.0 in
    let index = c.in-Some.index in
    let at = c.in-Some.ensures ∙ c.slot.ensures.value in
    let back = seat_joined was.keeper c.join.new.keeper seat.slot seat.asks seat.name f.keeper low
    (omega (arith, at, index.within, i.6.known)) in
    let fits = rw at at (i.6.each index.index index.within) in
    state_kept g.N.Named.board g.N.Named.start was _ c.self.inside.volume c.self.inside.seats i
    (rw c.remove.ensures.table
    (slots_kept-step was was c.join.new.keeper index.index None (slots_stay was i.6) index.within
    (rw at back.0) (rw (at, back.1) refl)
    (rw (at, back.1)
    (joined_asks _ _ _ seat.name seat.asks c.args.hang_up_asked fits (f.was_out low).out
    (f.was_out low).name c.requires.seat.1)) tt))

pub returns-clause-freed : goal.returns-clause-freed
returns-clause-freed g c = search (rules, arith, in_here)

pub returns-clause-taken : goal.returns-clause-taken
returns-clause-taken g c =
    let was = c.self.inside.slots in
    let index = c.in-Some.index in
    let at = c.in-Some.ensures ∙ c.slot.ensures.value in
    let here : c.args.seat.slot - 1 ≡ index.index = omega (arith, at) in
    subst (λ (h : LockHold). IsSome (slot_in h.slots.subscriptions (c.args.seat.slot - 1)))
    c.self.view_is
    (rw here
    (taken_out _ (slot_at was.keeper.slots (index.index + 1)) was.keeper.book
    (c.self.invariant.6.each index.index index.within)
    (rw at (c.join.ensures.was_out c.requires.seat.0).out)))

pub returns-clause-others : goal.returns-clause-others
returns-clause-others g c = search (rules, arith, in_else)
