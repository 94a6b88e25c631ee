-- Marks that a call leaves, and those that it makes: which changes they cover.
use Rattle.std.proofs.Common.{◌≡◌, ◌≢◌, ℕ, ◌<◌, List, length, Bool, true, false, Option, Some, None, refl, sym, ap, subst, slice_set}
use Rattle.std.specs.Prelude.{is_none, if◌then◌else◌}
use mathlib.Core.Logic.{dite}
use native.Mathlib.Decide.{ℕ_discrete}
use Rattle.lq_update.specs.declared.mark.Mark.{Mark}
use Rattle.lq_desk_sub.specs.Held.{Held, Prepared, after_messages, after_messages_by, overruns}
use Rattle.lq_server_slots.specs.declared.subscription.Subscription.{Subscription}
use Rattle.lq_server_slots.specs.Marking.{MarkCovers, held_committed, held_noticed}
use Rattle.lq_server_slots.specs.Slots.{MarksCover, SlotMarkCovers, slot_in}
use Rattle.lq_server_slots.proofs.TableLemmas.{in_here, in_else}

-- ---- one subscription

-- a mark that stays is no new one
pub mark_covers-same : (n : ℕ) (o m : Option Mark) → m ≡ o → MarkCovers n o m
mark_covers-same n None m e = rw e tt
mark_covers-same n (Some k) m e = e

-- two steps, each of which makes marks of this number
pub mark_covers-on : (n : ℕ) (a b c : Option Mark) → MarkCovers n a b → MarkCovers n b c
    → MarkCovers n a c
mark_covers-on n None None c before next = next
mark_covers-on n None (Some k) c before next = rw next before
mark_covers-on n (Some k) b c before next =
    subst (λ (o : Option Mark). MarkCovers n o c) before next

-- a notice makes a mark of the number that it is given
pub noticed_covers : (asked : Bool) (n : ℕ) (h g : Held) → g ≡ held_noticed asked n h
    → MarkCovers n h.mark g.mark
noticed_covers asked n h g is = rw is (by asked h.mark refl)
  where
    by : (a : Bool) (o : Option Mark) → h.mark ≡ o → MarkCovers n o (held_noticed a n h).mark
    by a (Some k) was = rw was refl
    by true None was = rw was refl
    by false None was = rw was tt

-- a commit makes a mark of the number that the change was prepared at
pub committed_covers : (p : Prepared) (h : Held) (n : ℕ) → h ≡ held_committed p
    → (p.held.mark ≡ None → p.before ≡ n) → MarkCovers n p.held.mark h.mark
committed_covers p h n is before = rw is (by p.held.mark refl)
  where
    after : (b : Bool) → p.held.mark ≡ None
        → MarkCovers n None (after_messages_by p.held p.ready p.before b).mark
    after true was = before was
    after false was = rw was tt

    by : (o : Option Mark) → p.held.mark ≡ o → MarkCovers n o (held_committed p).mark
    by None was = subst (λ (live : Bool).
        MarkCovers n None (if live then after_messages p.held p.ready p.before else p.held).mark)
        (sym (ap is_none was)) (after (overruns p.held p.ready) was)
    by (Some k) was = rw was refl

-- ---- all slots

-- a slot that stays has no new mark
pub slot_covers-same : (n : ℕ) (o : Option Subscription) → SlotMarkCovers n o o
slot_covers-same n None = refl
slot_covers-same n (Some s) = mark_covers-same n s.sub.held.mark s.sub.held.mark refl

slot_covers-on : (n : ℕ) (a b c : Option Subscription) → SlotMarkCovers n a b
    → SlotMarkCovers n b c → SlotMarkCovers n a c
slot_covers-on n None b c before next =
    subst (λ (o : Option Subscription). SlotMarkCovers n o c) before next
slot_covers-on n (Some s) None c before next = absurd before
slot_covers-on n (Some s) (Some t) None before next = next
slot_covers-on n (Some s) (Some t) (Some u) before next =
    mark_covers-on n s.sub.held.mark t.sub.held.mark u.sub.held.mark before next

-- slots that stay have no new mark
pub marks_cover-same : (n : ℕ) (slots : List (Option Subscription)) → MarksCover n slots slots
marks_cover-same n slots = λ i low. slot_covers-same n (slot_in slots i)

-- two steps over all slots
pub marks_cover-on : (n : ℕ) (a b c : List (Option Subscription)) → MarksCover n a b
    → MarksCover n b c → MarksCover n a c
marks_cover-on n a b c before next =
    λ i low. slot_covers-on n (slot_in a i) (slot_in b i) (slot_in c i) (before i low) (next i low)

-- a step at one slot
pub marks_cover-set : (n : ℕ) (a b : List (Option Subscription)) (k : ℕ) (s t : Subscription)
    → MarksCover n a b → k < length b → Some s ≡ slot_in b k
    → MarkCovers n s.sub.held.mark t.sub.held.mark → MarksCover n a (slice_set b k (Some t))
marks_cover-set n a b k s t before within there step =
    marks_cover-on n a b (slice_set b k (Some t)) before (λ i low. dite (ℕ_discrete i k)
    (λ (e : i ≡ k). rw (e, ← there, in_here b k (Some t) within) step)
    (λ (ne : i ≢ k). rw (in_else b k i (Some t) ne) (slot_covers-same n (slot_in b i))))
