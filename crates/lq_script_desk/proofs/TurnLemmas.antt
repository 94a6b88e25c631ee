-- What a turn does to a slot's fold: its own event, and the notices and puts around it.
use Rattle.std.proofs.Common.{◌≡◌, ◌⊎◌, ℕ, zero, suc, ◌+◌, List, [], ◌∷◌, ◌++◌, length, refl, arith, inl, inr, true, Option, Some, None}
use Rattle.lq_update.specs.Fold.{Folding}
use Rattle.lq_desk_world.specs.World.{World, Subscribed, taken_before_free}
use Rattle.lq_desk_world.specs.declared.event.Event.{Event}
use Rattle.lq_desk_world.specs.declared.event.Event.TheVariants.{Change, Put, Take, Notice, Close}
use Rattle.lq_desk_world.specs.Events.{Answer}
use Rattle.lq_desk_world.specs.Turns.{at_each, one_notice, places_at, put_events, turn_of}
use Rattle.lq_desk_world.specs.Headline.{reads_of, updates_in}
use Rattle.lq_script_desk.specs.Answered.{slot_named}
use Rattle.lq_script_desk.specs.Folds.{Folds, fold_at, is_folded, with_fold}
use Rattle.lq_script_desk.specs.History.{StaysTaken}
use Rattle.lq_script_desk.specs.Turned.{Follow, folded_slot}
use Rattle.lq_script_desk.proofs.EventLemmas.{Does, IsQuiet, finishes, leaves, opens, reads}
use Rattle.lq_script_desk.proofs.FoldLemmas.{Begins, GoesOn, fold-set, one-more, opened-reads}

-- ---- what a turn adds to its event

-- notices and puts alone
abbrev pub AreAdded : List Event → Type 0
AreAdded [] = Unit {0}
AreAdded (Notice k ∷ events) = AreAdded events
AreAdded (Put k ∷ events) = AreAdded events
AreAdded (e ∷ events) = ⊥

-- such events and others
added-append : (xs ys : List Event) → AreAdded xs → AreAdded ys → AreAdded (xs ++ ys)
added-append [] ys all more = more
added-append (Notice k ∷ xs) ys all more = added-append xs ys all more
added-append (Put k ∷ xs) ys all more = added-append xs ys all more
added-append (e ∷ xs) ys all more = absurd all

-- puts do
puts-added : (k n : ℕ) → AreAdded (put_events k n)
puts-added k zero = tt
puts-added k (suc n) = puts-added k n

-- what is added at each taken slot
each-added : (events : ℕ → ℕ → List Event) → ((k port : ℕ) → AreAdded (events k port)) → (n : ℕ)
    (ports : List (Option ℕ)) → AreAdded (at_each events n ports)
each-added events added n [] = tt
each-added events added n (None ∷ ports) = each-added events added (n + 1) ports
each-added events added n (Some port ∷ ports) =
    added-append (events n port) (at_each events (n + 1) ports) (added n port)
    (each-added events added (n + 1) ports)

-- a turn adds notices and puts alone
pub turn-added : (ports : List (Option ℕ)) (e : Event)
    → AreAdded (turn_of ports e).before × AreAdded (turn_of ports e).after
turn-added ports (Change c) =
    (each-added one_notice (λ k port. tt) 1 ports, each-added put_events puts-added 1 ports)
turn-added ports (Take k) = (puts-added k (places_at ports k), tt)
turn-added ports (Close k) = (tt, puts-added k (places_at ports k))
turn-added ports e = (tt, tt)

-- they free no slot and read nothing
pub added-reads : (slot : ℕ) (events : List Event) (answers : List Answer) → AreAdded events
    → StaysTaken slot events answers × (updates_in (reads_of slot events answers) ≡ [])
added-reads slot [] answers all = (tt, refl)
added-reads slot (e ∷ events) [] all = (tt, refl)
added-reads slot (Notice k ∷ events) (a ∷ answers) all =
    let rest = added-reads slot events answers all in ((refl, rest.0), rest.1)
added-reads slot (Put k ∷ events) (a ∷ answers) all =
    let rest = added-reads slot events answers all in ((refl, rest.0), rest.1)
added-reads slot (e ∷ events) (a ∷ answers) all = absurd all

-- a fold that goes on from folds goes on from them by such events before
pub goes-before : (slot : ℕ) (folds : Folds) (more events : List Event)
    (mores answers : List Answer) (f : Folding) → AreAdded more → length mores ≡ length more
    → GoesOn slot folds events answers f
    → GoesOn slot folds (more ++ events) (mores ++ answers) f
goes-before slot folds [] events [] answers f all same g = g
goes-before slot folds [] events (a ∷ mores) answers f all same g = absurd (omega (arith, same))
goes-before slot folds (e ∷ more) events [] answers f all same g = absurd (omega (arith, same))
goes-before slot folds (Notice k ∷ more) events (a ∷ mores) answers f all same g =
    let rest = goes-before slot folds more events mores answers f all (omega (arith, same)) g in
    (rest.0, rest.1, (refl, rest.2), rest.3)
goes-before slot folds (Put k ∷ more) events (a ∷ mores) answers f all same g =
    let rest = goes-before slot folds more events mores answers f all (omega (arith, same)) g in
    (rest.0, rest.1, (refl, rest.2), rest.3)
goes-before slot folds (e ∷ more) events (a ∷ mores) answers f all same g = absurd all

-- ---- a turn's own event

-- an answer that leaves the folds takes no memory for one
quiet-unfolded : (a : Answer) → IsQuiet a → is_folded a ≡ true → ⊥
quiet-unfolded a quiet folded = grind arith

module _ (slot : ℕ) (folds : Folds) (events : List Event) (answers : List Answer) (f : Folding)
    (taken : StaysTaken slot events answers)
    (unread : updates_in (reads_of slot events answers) ≡ []) where
  -- where a result went for want of memory, any other fold was there before
  went : {w : World} {e : Event} {a : Answer} {slots : List (Option Subscribed)}
      → Does w e a slots → is_folded a ≡ true
      → fold_at (with_fold folds (folded_slot (slot_named e) a) None) slot ≡ Some f
      → GoesOn slot folds (e ∷ events) (a ∷ answers) f
  went (leaves {e} {a} quiet same) folded had = absurd (quiet-unfolded a quiet folded)
  went {w} (opens {e} {q} {o} {at} {first} s asks) folded had =
      let none = opened-reads slot e (taken_before_free w.slots + 1) at first events answers in
      elim (fold-set folds _ slot None f had) [
        | inl own ↦ absurd (let no : ⊥ = cc in no)
        | inr other ↦ (f, other.1, (none.0, taken), rw (none.1, unread) refl)
      ]
  went (reads {k} {m} same) folded had =
      elim (fold-set folds k slot None f had) [
        | inl own ↦ absurd (let no : ⊥ = cc in no)
        | inr other ↦ (f, other.1, (refl, taken), rw (other.0, unread) refl)
      ]
  went (finishes {k} some) folded had = absurd (let no : ⊥ = cc in no)

  -- a fold after an event was there before it, or the event opened the slot
  pub after-own : {w : World} {e : Event} {a : Answer} {slots : List (Option Subscribed)}
      → Does w e a slots → (new : Folds) → Follow (slot_named e) a folds new
      → fold_at new slot ≡ Some f
      → GoesOn slot folds (e ∷ events) (a ∷ answers) f ⊎ Begins slot e a events answers f
  after-own d new (inl same) had =
      one-more d slot folds events answers f (f, rw same at had, taken, rw unread refl)
  after-own d new (inr (folded, same)) had = inl (went d folded (rw same at had))
