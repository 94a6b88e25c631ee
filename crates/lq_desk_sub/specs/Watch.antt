-- Which slots a change may have messages for.
use Rattle.std.specs.Prelude.{◌≡◌, ℕ, false, List, slice_index_or}
use Rattle.lq_predicate.specs.Query.{Query}
use Rattle.lq_volume.specs.declared.change.Change.{Change}
use Rattle.lq_volume.specs.declared.change.Change.TheVariants.{Create, Remove, Move, Write, SetAttr, RemoveAttr}
use Rattle.lq_desk_sub.specs.declared.slot_set.SlotSet.{SlotSet}
use Rattle.lq_desk_sub.specs.declared.watch.Watch.{Watch}
use Rattle.lq_update.specs.declared.open_options.Flags.{Flags}
use Rattle.lq_desk_sub.specs.Passing.{TellsNothing, ending_of}
use Rattle.lq_desk_sub.specs.SlotSet.{has}

-- the slots for an ending of an attribute's name
abbrev pub slots_at : List SlotSet → ℕ → SlotSet
slots_at sets ending = slice_index_or sets ending (record { word = 0 })

-- the slots that a change may have messages for
abbrev pub slots_for : Watch → Change → SlotSet
slots_for w (Create dir name kind size time) = w.creates
slots_for w (Remove node) = w.all
slots_for w (Move node dir name clobber) = w.all
slots_for w (Write node size time) = w.writes
slots_for w (SetAttr node attr value) = slots_at w.attrs (ending_of attr)
slots_for w (RemoveAttr node attr) = slots_at w.attrs (ending_of attr)

-- what asks this at a slot is watched there: a change that isn't shown to the slot has no message
abbrev pub IsWatched : Watch → ℕ → Query → Flags → Type 0
IsWatched w slot query flags =
    (c : Change) → has (slots_for w c).word slot ≡ false → TellsNothing query flags c
