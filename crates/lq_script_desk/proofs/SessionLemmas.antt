-- The history of a session: each turn goes on from it.
use Rattle.std.proofs.Common.{◌≡◌, ◌⊎◌, ℕ, List, [], ◌∷◌, ◌++◌, length, refl, ap, sym, subst, arith, append_assoc, length-append, inl, inr, Option, None, Result, Ok, Err, OnOk}
use Rattle.lq_volume.specs.State.{State, IsVolume}
use Rattle.lq_update.specs.Laws.{FoldingsFollow, RebuildsTakeAll}
use Rattle.lq_desk_world.specs.World.{World, Subscribed}
use Rattle.lq_desk_world.specs.declared.event.Event.{Event}
use Rattle.lq_desk_world.specs.Events.{Answer, next}
use Rattle.lq_desk_world.specs.Runs.{Run, Step}
use Rattle.lq_desk_world.specs.Turns.{ports_of, turn_of}
use Rattle.lq_desk_world.specs.Laws.{RunsTellReaders}
use Rattle.lq_script_desk.specs.Answered.{slot_named}
use Rattle.lq_script_desk.specs.Script.{world_over}
use Rattle.lq_script_desk.specs.Session.{Session}
use Rattle.lq_script_desk.specs.SessionHistory.{HistoryGoesOn, IsHistory, SessionsTell}
use Rattle.lq_script_desk.specs.Turned.{Follow, Turned}
use Rattle.lq_script_desk.proofs.EventLemmas.{Does, does, leaves}
use Rattle.lq_script_desk.proofs.FoldLemmas.{NoneRefused, begun, fold-set, none-first, none-refused}
use Rattle.lq_script_desk.proofs.TurnLemmas.{AreAdded, added-reads, after-own, goes-before, turn-added}
use Rattle.lq_script_desk.proofs.GoesOnLemmas.{goes-on}

-- ---- runs

-- a run and then another are a run of both in a row
run-append : (w mid end : World) (events more : List Event) (answers mores : List Answer)
    → Run w events answers mid → Run mid more mores end
    → Run w (events ++ more) (answers ++ mores) end
run-append w mid end [] more [] mores first rest =
    subst (λ (v : World). Run v more mores end) first rest
run-append w mid end [] more (a ∷ answers) mores first rest = absurd first
run-append w mid end (e ∷ events) more [] mores first rest = absurd first
run-append w mid end (e ∷ events) more (a ∷ answers) mores first rest =
    (first.0, first.1, run-append first.0 mid end events more answers mores first.2 rest)

-- the step of an event among others
step-in : (w v : World) (before after : List Event) (befores afters : List Answer) (e : Event)
    (a : Answer) → length befores ≡ length before
    → Run w (before ++ e ∷ after) (befores ++ a ∷ afters) v
    → (u : World) × (x : World) × Step u e a x
step-in w v [] after [] afters e a same run = (w, run.0, run.1)
step-in w v [] after (b ∷ befores) afters e a same run = absurd (omega (arith, same))
step-in w v (d ∷ before) after [] afters e a same run = absurd (omega (arith, same))
step-in w v (d ∷ before) after (b ∷ befores) afters e a same run =
    step-in run.0 v before after befores afters e a (omega (arith, same)) run.2

-- what a step does
step-does : (u x : World) (e : Event) (a : Answer) → Step u e a x
    → (slots : List (Option Subscribed)) × Does u e a slots
step-does u x e a (inl (is, to)) =
    ((next u e).slots, subst (λ (b : Answer). Does u e b (next u e).slots) (sym is) (does u e))
step-does u x e a (inr (may, none, to)) = (u.slots, rw none (leaves tt refl))

-- ---- sessions

module _ (law : RunsTellReaders) (rebuilds : RebuildsTakeAll) (follow : FoldingsFollow)
    (start : State) (volume : IsVolume start) where
  -- of a run of a first world no read is refused
  unrefused : (w : World) (events : List Event) (answers : List Answer)
      → Run (world_over start) events answers w → (slot : ℕ) → NoneRefused slot events answers
  unrefused w events answers run slot =
      none-refused rebuilds start volume slot events answers
      (law (world_over start) w events answers run)

  -- an event with notices and puts around it keeps the history
  around : (old new : Session) (before after : List Event) (befores afters : List Answer)
      (e : Event) (a : Answer) → AreAdded before → AreAdded after
      → length befores ≡ length before
      → Run old.core (before ++ e ∷ after) (befores ++ a ∷ afters) new.core
      → Follow (slot_named e) a old.folds new.folds
      → (events : List Event) (answers : List Answer) → IsHistory start old events answers
      → IsHistory start new (events ++ (before ++ e ∷ after)) (answers ++ (befores ++ a ∷ afters))
  around old new before after befores afters e a first last place turn folds events answers was =
      let more = before ++ e ∷ after in
      let mores = befores ++ a ∷ afters in
      let run = run-append (world_over start) old.core new.core events more answers mores
      was.run turn in
      let count = (law (world_over start) old.core events answers was.run).count in
      let step = step-in old.core new.core before after befores afters e a place turn in
      let own = step-does step.0 step.1 e a step.2 in
      record {
        run = run;
        folds = λ slot f had.
            let quiet = added-reads slot after afters last in
            let nones = unrefused new.core (events ++ more) (answers ++ mores) run slot in
            elim (after-own slot old.folds after afters f quiet.0 quiet.1 own.1 new.folds folds
            had) [
              | inl goes ↦
                  let g = goes-before slot old.folds before (e ∷ after) befores (a ∷ afters) f first
                  place goes in
                  goes-on follow slot events more answers mores count
                  (unrefused old.core events answers was.run slot) nones g.0 f
                  (was.folds slot g.0 g.1) g.2 g.3
              | inr b ↦ begun follow slot (events ++ more) (answers ++ mores) nones
                  (events ++ before) after (answers ++ befores) afters e a f
                  (omega (
                    arith,
                    count,
                    place,
                    length-append events before,
                    length-append answers befores,
                  ))
                  (sym (append_assoc events before (e ∷ after)))
                  (sym (append_assoc answers befores (a ∷ afters))) b
            ];
      }

  -- a turn goes on from each history
  turn-goes-on : (old new : Session) (e : Event) (a : Answer) → Turned old new e a
      → (events : List Event) (answers : List Answer) → IsHistory start old events answers
      → HistoryGoesOn start old new e a events answers
  turn-goes-on old new e a t events answers was =
      let turn = turn_of (ports_of old.core) e in
      let added = turn-added (ports_of old.core) e in
      record {
        befores = t.run.before;
        afters = t.run.after;
        place = t.run.place;
        history = around old new turn.before turn.after t.run.before t.run.after e a added.0
            added.1 t.run.place t.run.run t.folds events answers was;
      }

  -- all that is true of sessions
  pub sessions : SessionsTell start
  sessions = record {
    begins = record { run = refl; folds = λ slot f had. absurd (none-first slot f had) };
    turns = turn-goes-on;
    forgets = λ s slot events answers was. record {
      run = was.run;
      folds = λ k f had. elim (fold-set s.folds slot k None f had) [
        | inl own ↦ absurd (let no : ⊥ = cc in no)
        | inr other ↦ was.folds k f other.1
      ];
    };
    readers = λ s events answers was. law (world_over start) s.core events answers was.run;
  }

-- ---- answers

-- what is true is true where a call succeeded
pub ok-any : {A B : Type 0} (r : Result A B) (P : Type 0) → P → OnOk r P
ok-any (Ok x) P p = p
ok-any (Err e) P p = tt

-- an answer that isn't a want of memory is the outcome's
pub answer-own : (a : Answer) (none : Answer) (k : World) (p : Answer × World)
    → (a ≡ none) ⊎ ((a, k) ≡ p) → (a ≡ none → ⊥) → a ≡ p.0
answer-own a none k p (inl is) not = absurd (not is)
answer-own a none k p (inr is) not = ap (λ (q : Answer × World). q.0) is
