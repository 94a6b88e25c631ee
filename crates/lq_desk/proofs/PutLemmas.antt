-- Puts, notices and acts at one slot, and what they leave as it was.
use Rattle.std.proofs.Common.{◌≡◌, ℕ, zero, suc, ◌+◌, ◌≤◌, refl, ap, length, length-append, ◌∙◌, arith, Some, None, Option, Bool, true, false, inl, inr}
use Rattle.std.specs.Option.{option_map}
use Rattle.std.proofs.lemmas.Bool.{both_ways, cases_Bool}
use Rattle.std.proofs.lemmas.Bool.Decides.{nat_tests}
use Rattle.lq_predicate.specs.Query.{Query}
use Rattle.lq_update.specs.declared.open_options.Flags.{Flags}
use Rattle.lq_desk_world.specs.declared.event.Act.{Act}
use Rattle.lq_desk_world.specs.declared.event.Act.TheVariants as act
use Rattle.lq_desk_world.specs.Events.{Answer, Moved}
use Rattle.lq_desk_sub.specs.Held.{Held}
use Rattle.lq_desk.specs.Slot.{KeptSlot, put_slot, close_slot, after_put, after_puts, can_move, filled, is_ending, noticed}
use Rattle.lq_desk.specs.Act.{act_of, close_turn, read_turn}

-- a put leaves the slot taken
pub put-some : (k : KeptSlot) → (put_slot k).1 ≡ Some (after_put k)
put-some k = grind arith

-- what a put answers and leaves
pub put-did : (k l : KeptSlot) (was : Bool) → (Moved was, Some l) ≡ put_slot k
    → (l ≡ after_put k) × (was ≡ can_move k)
put-did k l was does = grind arith

-- what a subscription asks for: its query and its flags
abbrev pub asking : Held → Query × Flags
asking h = (h.query, h.flags)

-- what a put leaves
pub record Keeps (k l : KeptSlot) : Type 0 where
  pub asks : asking l.held ≡ asking k.held
  pub sent : l.held.sent ≡ k.held.sent
  pub mark : l.held.mark ≡ k.held.mark
  pub port : l.port ≡ k.port
  pub hang_up_asked : l.hang_up_asked ≡ k.hang_up_asked

-- a put keeps the query and its flags, the number of messages made, the mark, the port and whether
-- the end was asked for
put-keeps : (k : KeptSlot) → Keeps k (after_put k)
put-keeps k = grind arith

-- and so do several
pub puts-keep : (n : ℕ) (k : KeptSlot) → Keeps k (after_puts n k)
puts-keep zero k = grind arith
puts-keep (suc n) k = grind (arith, puts-keep n (after_put k), put-keeps k)

-- a put that can't move a parcel leaves the slot
put-quiet : (k : KeptSlot) → can_move k ≡ false → after_put k ≡ k
put-quiet k still = grind arith

-- and so do several
pub puts-quiet : (n : ℕ) (k : KeptSlot) → can_move k ≡ false → after_puts n k ≡ k
puts-quiet zero k still = refl
puts-quiet (suc n) k still = ap (after_puts n) (put-quiet k still) ∙ puts-quiet n k still

-- and so do as many as the port has places
pub filled-quiet : (k : KeptSlot) → can_move k ≡ false → filled k ≡ k
filled-quiet k still = puts-quiet k.port k still

-- a put makes no queue shorter, and one longer if it moves a parcel
pub put-longer : (k : KeptSlot) → (length k.queue ≤ length (after_put k).queue)
    × (can_move k ≡ true → length (after_put k).queue ≡ length k.queue + 1)
put-longer k = grind (arith, length-append)

-- several puts make no queue shorter
pub puts-longer : (n : ℕ) (k : KeptSlot) → length k.queue ≤ length (after_puts n k).queue
puts-longer zero k = omega arith
puts-longer (suc n) k = omega (arith, (put-longer k).0, puts-longer n (after_put k))

-- where something can move after puts, each of them moved a parcel
puts-move : (n : ℕ) (k : KeptSlot) → can_move (after_puts n k) ≡ true
    → length (after_puts n k).queue ≡ length k.queue + n
puts-move zero k moves = omega arith
puts-move (suc n) k moves = elim (cases_Bool (can_move k)) [
  | inl is ↦ omega (arith, puts-move n (after_put k) moves, (put-longer k).1 is)
  | inr is ↦ absurd (both_ways (can_move k) is (rw (puts-quiet (suc n) k is) at moves))
]

-- nothing moves in a full port
pub filled-still : (k : KeptSlot) → can_move (filled k) ≡ false
filled-still k = grind (arith, nat_tests, puts-move k.port k, (puts-keep k.port k).port)

-- puts don't alter whether a slot is ending
pub filled-ends : (k : KeptSlot) → is_ending (filled k) ≡ is_ending k
filled-ends k = let keeps = puts-keep k.port k in rw (keeps.mark, keeps.hang_up_asked)

-- ---- notices

-- a notice keeps the query and its flags, the number of messages made, the port and what is in it
pub noticed-keeps : (n : ℕ) (k : KeptSlot) → (asking (noticed n k).held ≡ asking k.held)
    × ((noticed n k).held.sent ≡ k.held.sent) × ((noticed n k).port ≡ k.port)
    × ((noticed n k).queue ≡ k.queue)
noticed-keeps n k = grind arith

-- a notice leaves a slot whose end wasn't asked for, or that has ended
pub noticed-quiet : (n : ℕ) (k : KeptSlot) → is_ending k ≡ false → noticed n k ≡ k
noticed-quiet n k is = grind arith

-- after a notice a slot isn't ending
pub noticed-still : (n : ℕ) (k : KeptSlot) → is_ending (noticed n k) ≡ false
noticed-still n k = grind arith

-- ---- acts

-- what is in a slot after this was done there asks for what it did there before, and made as many
-- messages
abbrev pub KeepsSub : (KeptSlot → Answer × Option KeptSlot) → Type 0
KeepsSub does = (k j : KeptSlot) → (does k).1 ≡ Some j
    → (asking j.held ≡ asking k.held) × (j.held.sent ≡ k.held.sent)

-- an act
pub act-keeps : (number : ℕ) (a : Act) → KeepsSub (act_of number a)
act-keeps number a k j is = grind arith

-- a read with its turn
pub read_turn-keeps : (number : ℕ) → KeepsSub (read_turn number)
read_turn-keeps number k j is =
    let u = noticed number k in
    let read = act-keeps number act.Take (filled u) j is in
    let puts = puts-keep u.port u in
    let notice = noticed-keeps number k in
    (read.0 ∙ (puts.asks ∙ notice.0), read.1 ∙ (puts.sent ∙ notice.1))

-- a close with its turn
pub close_turn-keeps : (number : ℕ) → KeepsSub (close_turn number)
close_turn-keeps number k j is = by (close_slot number (noticed number k)).1 refl is
  where
    by : (o : Option KeptSlot) → (close_slot number (noticed number k)).1 ≡ o
        → option_map filled o ≡ Some j
        → (asking j.held ≡ asking k.held) × (j.held.sent ≡ k.held.sent)
    by None was is = cc
    by (Some t) was is =
        let same : filled t ≡ j = cc in
        let close = act-keeps number act.Close (noticed number k) t was in
        let puts = puts-keep t.port t in
        let notice = noticed-keeps number k in
        rw (← same)
        (puts.asks ∙ (close.0 ∙ notice.0), puts.sent ∙ (close.1 ∙ notice.1))
