-- Runs of a world, joined.
use Rattle.std.proofs.Common.{◌≡◌, List, [], ◌∷◌, ◌++◌, refl, ap, length, suc, inl}
use Rattle.lq_desk_world.specs.World.{World}
use Rattle.lq_desk_world.specs.declared.event.Event.{Event}
use Rattle.lq_desk_world.specs.Events.{Answer, answer_to, next, outcome}
use Rattle.lq_desk_world.specs.Runs.{Step, Run}
use Rattle.lq_desk_world.specs.Turns.{after_events}

-- a run, and one that goes on from its end
pub run-join : (w mid v : World) (events : List Event) (answers : List Answer)
    (more : List Event) (others : List Answer) → Run w events answers mid → Run mid more others v
    → Run w (events ++ more) (answers ++ others) v
run-join w mid v [] [] more others run rest = rw (← run) rest
run-join w mid v [] (b ∷ answers) more others run rest = absurd run
run-join w mid v (f ∷ events) [] more others run rest = absurd run
run-join w mid v (f ∷ events) (b ∷ answers) more others run rest =
    (run.0, run.1, run-join run.0 mid v events answers more others run.2 rest)

-- a run with one step more
pub run-more : (w mid v : World) (events : List Event) (answers : List Answer)
    (e : Event) (a : Answer) → Run w events answers mid → Step mid e a v
    → Run w (events ++ e ∷ []) (answers ++ a ∷ []) v
run-more w mid v events answers e a run step =
    run-join w mid v events answers (e ∷ []) (a ∷ []) run (v, step, refl)

-- events that each have their outcome are a run
pub run-along : (w : World) (events : List Event) → (answers : List Answer)
    × (length answers ≡ length events) × Run w events answers (after_events outcome w events)
run-along w [] = ([], refl, refl)
run-along w (e ∷ events) =
    let rest = run-along (next w e) events in
    (answer_to w e ∷ rest.0, ap suc rest.1, (next w e, inl (refl, refl), rest.2))
