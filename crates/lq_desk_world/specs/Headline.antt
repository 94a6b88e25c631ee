-- What the events and answers of a run say about each subscription that they open.
use Rattle.std.specs.Prelude.{◌≡◌, ℕ, ◌+◌, ◌≤◌, List, [], ◌∷◌, ◌++◌, length, take, Bool, false, Option, Some, None, ◌==◌, if◌then◌else◌}
use Rattle.std.specs.List.{AllByRecursion, filter_map}
use Rattle.lq_value.specs.declared.entry.Entry.{Entry}
use Rattle.lq_predicate.specs.Query.{Query}
use Rattle.lq_volume.specs.declared.change.Change.{Change as Change_}
use Rattle.lq_volume.specs.State.{State, IsVolume}
use Rattle.lq_volume.specs.Book.{Book, IsBook, number_of, state_at, state_of}
use Rattle.lq_volume.specs.Result.{result_of}
use Rattle.lq_update.specs.declared.open_options.Flags.{Flags}
use Rattle.lq_update.specs.declared.open_options.OpenOptions.{OpenOptions}
use Rattle.lq_update.specs.declared.message.Message.{Message}
use Rattle.lq_update.specs.declared.mark.Mark.{Mark}
use Rattle.lq_update.specs.declared.parcel.Parcel.{Parcel}
use Rattle.lq_update.specs.declared.parcel.Parcel.TheVariants.{Update, Fin}
use Rattle.lq_update.specs.Updates.{updates_of, IsSettled}
use mathlib.Core.List.{IsPrefix}
use Rattle.lq_update.specs.Fold.{folded, last_change}
use Rattle.lq_desk_world.specs.declared.event.Event.{Event}
use Rattle.lq_desk_world.specs.declared.event.Event.TheVariants.{Change, Take, Finish}
use Rattle.lq_desk_world.specs.Events.{Answer, Changed, Opened, Took, Ended, Finished, asked_to_open}

-- the answer that one event gave to a read of a slot, and whether it freed the slot
abbrev pub read_by : ℕ → Event → Answer → List Answer
read_by slot (Take k) a = if k == slot then a ∷ [] else []
read_by slot e a = []

abbrev pub frees : ℕ → Event → Answer → Bool
frees slot (Finish k) Finished = k == slot
frees slot e a = false

-- the answers to the reads of a slot, until the slot was freed
abbrev pub reads_of : ℕ → List Event → List Answer → List Answer
reads_of slot [] answers = []
reads_of slot (e ∷ events) [] = []
reads_of slot (e ∷ events) (a ∷ answers) =
    if frees slot e a then [] else read_by slot e a ++ reads_of slot events answers

-- the parcels, and the updates, in these answers
abbrev pub parcel_in : Answer → Option Parcel
parcel_in (Took p) = Some p
parcel_in a = None

abbrev pub parcels_in : List Answer → List Parcel
parcels_in answers = filter_map parcel_in answers

abbrev pub as_update : Parcel → Option Message
as_update (Update m) = Some m
as_update (Fin mark) = None

abbrev pub updates_among : List Parcel → List Message
updates_among parcels = filter_map as_update parcels

abbrev pub updates_in : List Answer → List Message
updates_in answers = updates_among (parcels_in answers)

-- the accepted changes, in order
abbrev pub accepted_by : Event → Answer → List Change_
accepted_by (Change c) (Changed applied) = c ∷ []
accepted_by e a = []

abbrev pub accepted : List Event → List Answer → List Change_
accepted [] answers = []
accepted (e ∷ events) [] = []
accepted (e ∷ events) (a ∷ answers) = accepted_by e a ++ accepted events answers

-- the state before a run, and the changes that it accepted
abbrev pub run_book : State → List Event → List Answer → Book
run_book s events answers = record { start = s; changes = accepted events answers }

-- these answers contain the mark
abbrev pub HasMark : List Answer → Type 0
HasMark reads = (m : Mark) × (front : List Answer) × (rest : List Answer)
    × (reads ≡ front ++ Took (Fin m) ∷ rest)

-- The answer to an opening, over the book of the changes before it: their number, and the query's
-- result after them.
pub record IsOpening (b : Book) (q : Query) (at : ℕ) (first : List Entry) : Type 0 where
  pub number : at ≡ number_of b
  pub entries : first ≡ result_of q (state_of b)

-- The answers to a subscription's reads, over a book: given its query and flags, the number of
-- changes at its opening, and the result then.
pub record AreReads (b : Book) (q : Query) (flags : Flags) (at : ℕ) (first : List Entry)
    (reads : List Answer) : Type 0 where
  -- each message once and in order: they are a prefix of its update list
  pub prefix : IsPrefix (updates_in reads) (updates_of q flags b at (number_of b))
  -- the mark comes after the whole list up to the change that it names, and only `Ended` follows it
  pub mark : (front rest : List Answer) (m : Mark) → reads ≡ front ++ Took (Fin m) ∷ rest →
      (at ≤ m.change) × (m.change ≤ number_of b)
      × (updates_in front ≡ updates_of q flags b at m.change)
      × (m.seq ≡ length (updates_in front) + 1)
      × AllByRecursion (λ a. a ≡ Ended) rest
  -- `Ended` comes only after the mark
  pub ended : (front rest : List Answer) → reads ≡ front ++ Ended ∷ rest → HasMark front
  -- after the last message of a change, folding over the opening's result gives the result after
  -- that change
  pub folding : IsVolume b.start → (front rest : List Answer) → reads ≡ front ++ rest
      → IsSettled (updates_in front) → folded first (updates_in front)
      ≡ result_of q (state_at b (last_change at (updates_in front)))
  -- before the mark, folding gives the result after the change that the mark names
  pub closing : IsVolume b.start
      → (front rest : List Answer) (m : Mark) → reads ≡ front ++ Took (Fin m) ∷ rest
      → folded first (updates_in front) ≡ result_of q (state_at b m.change)

-- For whatever comes before and after an opening: its answer covers the changes that the run
-- accepted before it. The answers to the reads of its subscription cover all changes that the run
-- accepts.
abbrev pub OpeningsAreTold : State → List Event → List Answer → Type 0
OpeningsAreTold s events answers =
    (before after : List Event) (befores afters : List Answer) (opening : Event) (q : Query)
    (options : OpenOptions) (slot at : ℕ) (first : List Entry)
    → asked_to_open opening ≡ Some (q, options) → events ≡ before ++ opening ∷ after
    → answers ≡ befores ++ Opened slot at first ∷ afters → length before ≡ length befores
    → IsOpening (run_book s before befores) q at first
    × AreReads (run_book s events answers) q options.flags at first (reads_of slot after afters)

-- Each event of a run has one answer. The accepted changes of the run are a book: each is lawful
-- after those before it. At every moment, over the changes accepted by then, the readers of each
-- subscription got its update list; the moment after the last event is one of them.
pub record ReadersAreTold (s : State) (events : List Event) (answers : List Answer)
    : Type 0 where
  pub count : length events ≡ length answers
  pub book : IsBook (run_book s events answers)
  pub readers : (k : ℕ) → OpeningsAreTold s (take k events) (take k answers)
