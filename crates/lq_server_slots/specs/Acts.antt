-- Acts of the core at slots, and the events that they are, one slot after another.
use Rattle.std.specs.Prelude.{◌≡◌, ℕ, ◌+◌, List, [], ◌∷◌, ◌++◌, map, Option, Some, None}
use Rattle.lq_volume.specs.Book.{Book}
use Rattle.lq_desk_world.specs.World.{Subscribed}
use Rattle.lq_desk_world.specs.declared.event.Event.{Event}
use Rattle.lq_desk_world.specs.declared.event.Act.{Act}
use Rattle.lq_desk_world.specs.Events.{acting, event_at}

-- acts at one subscription over a book, one after another, lead from u to v
abbrev pub ActsLead : Book → List Act → Subscribed → Subscribed → Type 0
ActsLead b [] u v = v ≡ u
ActsLead b (a ∷ acts) u v = (w : Subscribed) × ((acting b a u).1 ≡ Some w) × ActsLead b acts w v

-- so do acts at one slot, from o to n; a free one has none
abbrev pub SlotActsLead : Book → Option Subscribed → List Act → Option Subscribed → Type 0
SlotActsLead b None acts n = (acts ≡ []) × (n ≡ None)
SlotActsLead b (Some u) acts n = (v : Subscribed) × (n ≡ Some v) × ActsLead b acts u v

-- and acts at each slot, from one list of slots to another
abbrev pub AllActsLead : Book → List (Option Subscribed) → List (List Act)
    → List (Option Subscribed)
    → Type 0
AllActsLead b [] [] [] = Unit {0}
AllActsLead b [] [] (n ∷ ns) = ⊥
AllActsLead b [] (acts ∷ all) ns = ⊥
AllActsLead b (o ∷ os) [] ns = ⊥
AllActsLead b (o ∷ os) (acts ∷ all) [] = ⊥
AllActsLead b (o ∷ os) (acts ∷ all) (n ∷ ns) = SlotActsLead b o acts n × AllActsLead b os all ns

-- their events; the first slot here is slot k
abbrev pub events_of_acts : ℕ → List (List Act) → List Event
events_of_acts k [] = []
events_of_acts k (acts ∷ all) = map (event_at k) acts ++ events_of_acts (k + 1) all
