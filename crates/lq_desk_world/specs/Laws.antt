-- Facts about every world and every run.
use Rattle.std.specs.Prelude.{◌≡◌, ℕ, zero, suc, ◌+◌, List, [], ◌∷◌, ◌++◌, length, take, true, Option, Some, None}
use Rattle.lq_value.specs.declared.entry.Entry.{Entry}
use Rattle.lq_value.specs.declared.refusal.Refusal.{Refusal}
use Rattle.lq_predicate.specs.Query.{Query}
use Rattle.lq_volume.specs.declared.change.Change.{Change as Change_}
use Rattle.lq_volume.specs.Book.{Book, state_of}
use Rattle.lq_update.specs.declared.open_options.OpenOptions.{OpenOptions}
use Rattle.lq_desk_world.specs.World.{World, Subscribed, first_world, whole, in_port, to_come}
use Rattle.lq_desk_world.specs.declared.event.Event.{Event}
use Rattle.lq_desk_world.specs.declared.event.Event.TheVariants.{Change, Put, Take, Notice, Close}
use Rattle.lq_desk_world.specs.Events.{Answer, Opened, Moved, Refused, answer_to, asked_to_open, next, outcome}
use Rattle.lq_desk_world.specs.Runs.{Run}
use Rattle.lq_desk_world.specs.Turns.{after_events, notices, ports_of, turn_of, turn_outcome}
use Rattle.lq_desk_world.specs.Fair.{IsFair, IsFairWorld}
use Rattle.lq_desk_world.specs.Headline.{ReadersAreTold, reads_of}
use Rattle.lq_desk_world.specs.PassedOn.{IsPassedOn, is_freed}

-- a world without subscriptions is fair
abbrev pub FirstWorldsAreFair : Type 0
FirstWorldsAreFair = (b : Book) → IsFairWorld (first_world b)

-- each event leaves a fair world fair
abbrev pub RunsKeepWorldsFair : Type 0
RunsKeepWorldsFair = (w end : World) (events : List Event) (answers : List Answer)
    → IsFairWorld w → Run w events answers end → IsFairWorld end

-- a refused event leaves the world unchanged
abbrev pub RefusalsLeaveWorlds : Type 0
RefusalsLeaveWorlds =
    (w : World) (e : Event) (r : Refusal) → answer_to w e ≡ Refused r → next w e ≡ w

-- the whole list is what was taken, then what is in the port, then what is held, then a mark that
-- wasn't put yet
abbrev pub ListsArePassedOn : Type 0
ListsArePassedOn = (b : Book) (s : Subscribed) → IsFair b s
    → take s.taken (whole b s) ++ (in_port b s ++ to_come b s) ≡ whole b s

-- nothing moves into the port of a slot
abbrev pub IsStill : World → ℕ → Type 0
IsStill w slot = answer_to w (Put slot) ≡ Moved true → ⊥

-- A turn puts until nothing moves: after a change into any port; after a close and before a read
-- into the port of that slot.
abbrev pub TurnsFillPorts : Type 0
TurnsFillPorts = (w : World) → IsFairWorld w →
    ((c : Change_) (slot : ℕ) → IsStill (turn_outcome w (Change c)).1 slot)
    × ((slot : ℕ) → IsStill (turn_outcome w (Close slot)).1 slot)
    × ((slot : ℕ)
    → IsStill (after_events outcome w (turn_of (ports_of w) (Take slot)).before) slot)

-- this many puts at a slot, each of which moves a parcel, and one more that moves none, lead from
-- one world to another
abbrev pub PutsThenStill : ℕ → ℕ → World → World → Type 0
PutsThenStill slot zero w v = IsStill w slot × (v ≡ next w (Put slot))
PutsThenStill slot (suc n) w v =
    (answer_to w (Put slot) ≡ Moved true) × PutsThenStill slot n (next w (Put slot)) v

-- puts at a slot until nothing moves: all but the last one move a parcel
abbrev pub PutsUntilStill : ℕ → World → World → Type 0
PutsUntilStill slot w v = (moved : ℕ) × PutsThenStill slot moved w v

-- that at each taken slot, in rising order; the first slot here is slot n
abbrev pub EachUntilStill : ℕ → List (Option ℕ) → World → World → Type 0
EachUntilStill n [] w v = v ≡ w
EachUntilStill n (None ∷ ports) w v = EachUntilStill (n + 1) ports w v
EachUntilStill n (Some port ∷ ports) w v =
    (u : World) × PutsUntilStill n w u × EachUntilStill (n + 1) ports u v

-- The puts of a turn are puts until nothing moves: after a change at each taken slot, after a close
-- and before a read at their slot.
abbrev pub TurnsPutUntilStill : Type 0
TurnsPutUntilStill = (w : World) → IsFairWorld w →
    ((c : Change_) → EachUntilStill 1 (ports_of w)
    (next (after_events outcome w (notices (ports_of w))) (Change c)) (turn_outcome w (Change c)).1)
    × ((slot : ℕ) → PutsUntilStill slot (next (next w (Notice slot)) (Close slot))
    (turn_outcome w (Close slot)).1)
    × ((slot : ℕ) → PutsUntilStill slot (next w (Notice slot))
    (after_events outcome w (turn_of (ports_of w) (Take slot)).before))

-- The list of each subscription that a run opens is passed on: its reads gave what was taken of it,
-- and that, what is in its port and what is still to be put are the whole list.
abbrev pub ReadsArePassedOn : Type 0
ReadsArePassedOn = (w end : World) (before after : List Event) (befores afters : List Answer)
    (opening : Event) (q : Query) (options : OpenOptions) (slot at : ℕ) (first : List Entry)
    → asked_to_open opening ≡ Some (q, options)
    → Run w (before ++ opening ∷ after) (befores ++ Opened slot at first ∷ afters) end
    → length before ≡ length befores →
    IsPassedOn end q options.flags at slot (reads_of slot after afters) (is_freed slot after afters)

-- the main theorem on every run from any world, so also from a first world over a volume's state
abbrev pub RunsTellReaders : Type 0
RunsTellReaders = (w end : World) (events : List Event) (answers : List Answer)
    → Run w events answers end → ReadersAreTold (state_of w.book) events answers
