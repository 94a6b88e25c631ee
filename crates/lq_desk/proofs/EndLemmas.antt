-- The reads and the end of a subscription, each act at it, and a change of it.
use Rattle.std.proofs.Common.{◌≡◌, ℕ, ◌+◌, ◌-◌, ◌≤◌, List, [], ◌∷◌, ◌++◌, refl, ap, take, drop, length, ◌∙◌, sym, arith, append_assoc, length-append, Some, None, Option, Bool, true, false}
use Rattle.std.specs.Prelude.{◌==◌, ◌&&◌, nat_lt, is_none, if◌then◌else◌}
use Rattle.std.specs.Option.{option_map}
use Rattle.std.proofs.lemmas.Bool.Decides.{nat_tests}
use Rattle.std.proofs.lemmas.List.{drop-append-le, drop-drop, length-map, map-append, take-append-le}
use Rattle.lq_volume.specs.declared.change.Change.{Change as Change_}
use Rattle.lq_volume.specs.Book.{Book, grown, number_of, state_of}
use Rattle.lq_update.specs.declared.message.Message.{Message}
use Rattle.lq_update.specs.declared.mark.Cause.{Cause}
use Rattle.lq_update.specs.declared.mark.Cause.TheVariants.{Overrun}
use Rattle.lq_update.specs.declared.parcel.Parcel.{Parcel}
use Rattle.lq_update.specs.declared.parcel.Parcel.TheVariants.{Update}
use Rattle.lq_update.specs.Updates.{updates_of, step_of}
use Rattle.lq_update.specs.Laws.{ChangesAddSteps, UpdatesStay}
use Rattle.lq_desk_world.specs.declared.event.Act.{Act}
use Rattle.lq_desk_world.specs.declared.event.Act.TheVariants as act
use Rattle.lq_desk_world.specs.World.{Subscribed, Ending, covered_by, covered, updates_due, mark_behind, whole, is_over, with_end, first_in_port, change_overruns, after_change}
use Rattle.lq_desk_world.specs.Events.{Took, reading_if, acting}
use Rattle.lq_desk_world.specs.Fair.{IsFair}
use Rattle.lq_desk_sub.specs.Held.{ended_by, with_messages}
use Rattle.lq_desk.specs.Slot.{slot_after, is_mark_read, read_if}
use Rattle.lq_desk.specs.Act.{act_of}
use Rattle.lq_desk.specs.DeskState.{held_for, slot_for}
use Rattle.lq_desk.proofs.ListLemmas.{get-between}
use Rattle.lq_desk.proofs.SlotLemmas.{parcels, put-same, queue-length, slot_told}

-- ---- a read

-- the mark was put and the port is empty just where all was taken, if it has ended
read-alike : (t p l k n : ℕ) (o : Option Ending) → p ≤ l → l ≡ t + length (mark_behind t o) → k ≤ p
    → n ≡ p - k → (nat_lt t p && (n == 0)) ≡ (if is_none o then false else k == l)
read-alike t p l k n o put list taken wait = grind (arith, nat_tests)

-- all is read in the slot just where it is over in the world
is_read-same : (b : Book) (s : Subscribed) → IsFair b s → is_mark_read (slot_for b s) ≡ is_over b s
is_read-same b s f = read-alike (length (updates_due b s)) s.put (length (whole b s)) s.taken _
    s.end f.put (simp (length-append, length-map)) f.taken (queue-length b s f)

-- a read is answered alike, of a parcel or of none
read-if : (b : Book) (s : Subscribed) → IsFair b s → (o : Option Parcel)
    → read_if (slot_for b s) o
    ≡ ((reading_if b s o).0, option_map (slot_for b) (reading_if b s o).1)
read-if b s f None = rw (is_read-same b s f)
read-if b s f (Some p) = ap (λ ps. (Took p, Some (record (slot_for b s) { queue = ps })))
    (drop-drop 1 s.taken (take s.put (whole b s)))

-- ---- the end

-- what was put stands in a list that begins with the messages told
front : (us : List Message) (n : ℕ) (ps : List Parcel) → n ≤ length us
    → take n (parcels us ++ ps) ≡ take n (parcels us)
front us n ps inside =
    take-append-le n (parcels us) ps (omega (arith, length-map us (λ m. Update m)))

-- of one that hasn't ended
module _ (b : Book) (s : Subscribed) (f : IsFair b s) (live : s.end ≡ None) where
  -- it is told all up to the book's number
  told-live : updates_due b s ≡ updates_of s.query s.flags b s.opened (number_of b)
  told-live = rw live

  -- no more was put than it was told
  put-inside : s.put ≤ length (updates_due b s)
  put-inside =
      let us = updates_due b s in
      let none : length (mark_behind (length us) s.end) ≡ 0 = rw live in
      omega (
        arith,
        f.put,
        none,
        length-append (parcels us) (mark_behind (length us) s.end),
        length-map us (λ m. Update m),
      )

  -- it ends, where its list up to its end is what it was told
  end-same : (d : Book) (cause : Cause) (n : ℕ)
      → updates_due b s ≡ updates_of s.query s.flags d s.opened n
      → record (slot_for b s) { held = ended_by (held_for b s) cause n }
      ≡ slot_for d (with_end s cause n)
  end-same d cause n same =
      let us = updates_due b s in
      let ended : record (slot_for b s) { held = ended_by (held_for b s) cause n }
      ≡ slot_told (with_end s cause n) us = simp (front us s.put, put-inside) in
      ended ∙ ap (slot_told (with_end s cause n)) same

  -- it ends now
  ends-now : (cause : Cause)
      → record (slot_for b s) { held = ended_by (held_for b s) cause (number_of b) }
      ≡ slot_for b (with_end s cause (number_of b))
  ends-now cause = end-same b cause (number_of b) told-live

-- each act is answered alike
pub act-same : (b : Book) (a : Act) (s : Subscribed) → IsFair b s
    → act_of (number_of b) a (slot_for b s)
    ≡ ((acting b a s).0, option_map (slot_for b) (acting b a s).1)
act-same b act.Put s f = put-same b s f
act-same b act.Take s f = ap (read_if (slot_for b s)) (get-between s.taken s.put (whole b s))
    ∙ read-if b s f (first_in_port b s)
act-same b act.HangUp s f = refl
act-same b act.Notice s f = grind (arith, ends-now b s f)
act-same b act.Close s f = grind (arith, ends-now b s f)
act-same b act.Finish s f = rw (is_read-same b s f) (grind arith)

-- ---- a change

-- a live subscription's slot with more messages
more-told : (s : Subscribed) (us step : List Message) → s.end ≡ None → s.put ≤ length us
    → record (slot_told s us) { held = with_messages (slot_told s us).held step }
    ≡ slot_told s (us ++ step)
more-told s us step live inside =
    let size : length us + length step ≡ length (us ++ step) = sym (length-append us step) in
    let rest : drop s.put us ++ step ≡ drop s.put (us ++ step) =
    sym (drop-append-le s.put us step inside) in
    let out : nat_lt (length us) s.put ≡ nat_lt (length (us ++ step)) s.put =
    grind (arith, nat_tests) in
    let queue : take s.put (parcels us ++ []) ≡ take s.put (parcels (us ++ step) ++ []) =
    rw (map-append (λ m. Update m) us step, append_assoc (parcels us) (parcels step) [])
    (front us s.put [] inside ∙ sym (front us s.put (parcels step ++ []) inside)) in
    rw live cc

-- after one more change to the book of a fair subscription
module _ (stay : UpdatesStay) (add : ChangesAddSteps) (b : Book) (c : Change_) (s : Subscribed)
    (f : IsFair b s) (numbered : (state_of b).number ≡ number_of b) where
  -- the book with that change
  abbrev after : Book
  after = grown b (c ∷ [])

  -- of one that has ended nothing changes
  ended-same : (e : Ending) → s.end ≡ Some e → slot_for b s ≡ slot_for after s
  ended-same e is =
      let to : covered b s ≡ e.change = ap (covered_by b) is in
      let told : updates_due after s ≡ updates_due b s =
      rw is (stay s.query s.flags after b s.opened e.change (c ∷ [], refl) f.begun
      (omega (arith, f.opened, to)) (omega (arith, f.covered, to))) in
      ap (slot_told s) (sym told)

  -- of a live one
  module _ (live : s.end ≡ None) where
    -- the messages of that change
    abbrev step : List Message
    step = step_of s.query s.flags (state_of b) c (length (updates_due b s) + 1)

    -- it was opened by the book's number
    opened_before : s.opened ≤ number_of b
    opened_before = omega (arith, f.opened, ap (covered_by b) live)

    -- the change has the next number
    number_after : number_of after ≡ number_of b + 1
    number_after = omega (arith, length-append b.changes (c ∷ []))

    -- if they are held, the slot is what it leaves after the change
    goes-on : record (slot_for b s) { held = with_messages (held_for b s) step } ≡ slot_for after s
    goes-on =
        let told : updates_due after s ≡ updates_due b s ++ step =
        rw live (ap (updates_of s.query s.flags after s.opened) number_after
        ∙ add s.query s.flags b c s.opened (number_of b) refl opened_before) in
        more-told s (updates_due b s) step live (put-inside b s f live)
        ∙ ap (slot_told s) (sym told)

    -- if they are too many, it is what it leaves at its end before the change
    overruns : record (slot_for b s) { held = ended_by (held_for b s) Overrun (state_of b).number }
        ≡ slot_for after (with_end s Overrun (number_of b))
    overruns =
        rw numbered (end-same b s f live after Overrun (number_of b) (told-live b s f live
        ∙ sym (stay s.query s.flags after b s.opened (number_of b) (c ∷ [], refl) f.begun
        opened_before (omega arith))))

  -- each slot after the change is what its subscription leaves then
  pub change-same : slot_after (state_of b) c (slot_for b s) ≡ slot_for after (after_change b c s)
  change-same = by s.end (change_overruns b c s) refl refl
    where
      by : (o : Option Ending) (x : Bool) → s.end ≡ o → change_overruns b c s ≡ x
          → slot_after (state_of b) c (slot_for b s) ≡ slot_for after (after_change b c s)
      by (Some e) x is too_many = grind (arith, ended-same e is)
      by None true is too_many = grind (arith, overruns is)
      by None false is too_many = grind (arith, goes-on is)
