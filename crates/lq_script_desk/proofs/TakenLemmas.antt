-- A slot has a fold just where it is taken.
use Rattle.std.proofs.Common.{◌≡◌, ◌==◌, ℕ, ◌+◌, ◌-◌, List, [], ◌∷◌, map, refl, ap, ◌∙◌, sym, arith, Bool, true, false, if◌then◌else◌, Option, Some, None, option_map}
use Rattle.std.specs.Prelude.{is_some, slice_get, slice_set}
use Rattle.std.specs.Option.{option_flatten}
use Rattle.std.proofs.lemmas.Bool.Decides.{nat_tests}
use Rattle.std.proofs.lemmas.List.{map-set}
use Rattle.std.proofs.lemmas.Option.{slice_get-map}
use Rattle.lq_update.specs.declared.message.Message.{Message}
use Rattle.lq_update.specs.declared.parcel.Parcel.TheVariants.{Update}
use Rattle.lq_update.specs.Fold.{Folding, opened_at}
use Rattle.lq_desk_world.specs.World.{World, Subscribed, subscribed_at, taken_before_free}
use Rattle.lq_desk_world.specs.declared.event.Event.{Event}
use Rattle.lq_desk_world.specs.Events.{Answer, Took}
use Rattle.lq_desk_world.specs.Turns.{after_events}
use Rattle.lq_script_desk.specs.Answered.{slot_named}
use Rattle.lq_script_desk.specs.Folds.{Folds, fold_at, folds_after, with_fold}
use Rattle.lq_script_desk.specs.Script.{script_session}
use Rattle.lq_script_desk.specs.Session.{Session}
use Rattle.lq_script_desk.specs.History.{events_of, session_after, world_after}
use Rattle.lq_script_desk.proofs.EventLemmas.{Does, does, filled-same, finishes, leaves, opens, quiet-folds, reads}
use Rattle.lq_script_desk.proofs.HistoryLemmas.{lines-played, session-world, session_step}

-- a read of an update leaves each fold there or not
abbrev pub ReadsKeepFolds : Type 0
ReadsKeepFolds = (slot : ℕ) (m : Message) (folds : Folds)
    → map is_some (folds_after slot (Took (Update m)) folds) ≡ map is_some folds

-- a fold that goes on is there before and after
pub fold-goes : (slot : ℕ) (g : Folding → Folding) (folds : Folds)
    → map is_some (with_fold folds slot (option_map g (fold_at folds slot))) ≡ map is_some folds
fold-goes slot g folds = grind (arith, filled-same)

-- a slot's fold is set
filled-fold : (folds : Folds) (slot : ℕ) (o : Option Folding) → (slot == 0) ≡ false
    → map is_some (with_fold folds slot o)
    ≡ slice_set (map is_some folds) (slot - 1) (is_some o)
filled-fold folds slot o some = rw some (map-set is_some folds (slot - 1) o)

-- where two lists have the same places filled, each place is filled in both or in neither
filled-at : {A B : Type 0} (xs : List (Option A)) (ys : List (Option B)) (i : ℕ)
    → map is_some xs ≡ map is_some ys
    → is_some (option_flatten (slice_get xs i)) ≡ is_some (option_flatten (slice_get ys i))
filled-at xs ys i same =
    let first = slice_get-map is_some xs i in
    let second = slice_get-map is_some ys i in
    grind arith

-- each slot has a fold just where it is taken
abbrev AreKept : Session → Type 0
AreKept s = map is_some s.core.slots ≡ map is_some s.folds

module _ (keep : ReadsKeepFolds) where
  -- one event keeps that
  event-keeps : {w : World} {e : Event} {a : Answer} {slots : List (Option Subscribed)}
      → Does w e a slots → (folds : Folds) → map is_some w.slots ≡ map is_some folds
      → map is_some slots ≡ map is_some (folds_after (slot_named e) a folds)
  event-keeps (leaves {e} {a} quiet same) folds kept =
      same ∙ (kept ∙ sym (ap (map is_some) (quiet-folds (slot_named e) a folds quiet)))
  event-keeps {w} (opens {at = at} {first = first} s asks) folds kept =
      let i = taken_before_free w.slots in
      let back : (i + 1) - 1 ≡ i = omega arith in
      map-set is_some w.slots i (Some s)
      ∙ (ap (λ bs. slice_set bs i true) kept
      ∙ (ap (λ j. slice_set (map is_some folds) j true) (sym back)
      ∙ sym (filled-fold folds (i + 1) (Some (opened_at at first)) (grind (arith, nat_tests)))))
  event-keeps (reads {k} {m} same) folds kept = same ∙ (kept ∙ sym (keep k m folds))
  event-keeps {w} (finishes {k} some) folds kept =
      map-set is_some w.slots (k - 1) None
      ∙ (ap (λ bs. slice_set bs (k - 1) false) kept ∙ sym (filled-fold folds k None some))

  -- and so do many
  events-keep : (s : Session) (events : List Event) → AreKept s
      → AreKept (after_events session_step s events)
  events-keep s [] kept = kept
  events-keep s (e ∷ events) kept =
      events-keep (session_step s e).1 events (event-keeps (does s.core e) s.folds kept)

  -- after a script's lines a slot has a fold just where it is taken
  pub taken-kept : (lines : List (List ℕ)) (slot : ℕ)
      → is_some (subscribed_at (world_after lines) slot)
      ≡ is_some (fold_at (session_after lines).folds slot)
  taken-kept lines slot =
      let s = session_after lines in
      let kept : AreKept s = rw (lines-played lines script_session)
      (events-keep script_session (events_of lines) refl) in
      rw (← session-world lines) (by s kept (slot == 0))
    where
      by : (s : Session) → AreKept s → (x : Bool)
          → is_some (if x then None else option_flatten (slice_get s.core.slots (slot - 1)))
          ≡ is_some (if x then None else option_flatten (slice_get s.folds (slot - 1)))
      by s kept true = refl
      by s kept false = filled-at s.core.slots s.folds (slot - 1) kept
