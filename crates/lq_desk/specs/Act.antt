-- What an act does at one slot, given the number of changes so far.
use Rattle.std.specs.Prelude.{ℕ, ◌-◌, ◌==◌, List, Option, Some, None, slice_get, slice_set, if◌then◌else◌}
use Rattle.std.specs.Option.{option_flatten, option_map}
use Rattle.lq_value.specs.declared.refusal.Refusal.TheVariants.{NotOpen}
use Rattle.lq_desk_world.specs.declared.event.Act.{Act}
use Rattle.lq_desk_world.specs.declared.event.Act.TheVariants as act
use Rattle.lq_desk_world.specs.Events.{Answer, Finished, Refused}
use Rattle.lq_desk.specs.Slot.{KeptSlot, put_slot, read_slot, ask_slot, notice_slot, close_slot, finish_slot, filled, noticed}

-- an act at a taken slot: its answer, and the slot afterwards
abbrev pub act_of : ℕ → Act → KeptSlot → Answer × Option KeptSlot
act_of number act.Put = put_slot
act_of number act.Take = read_slot
act_of number act.HangUp = ask_slot
act_of number act.Notice = notice_slot number
act_of number act.Close = close_slot number
act_of number act.Finish = finish_slot

-- what an answer leaves in its slot: one that was finished is free
abbrev pub left_by : Answer → KeptSlot → Option KeptSlot
left_by Finished k = None
left_by a k = Some k

-- a read with its turn: before it comes a notice, and then the port is filled
abbrev pub read_turn : ℕ → KeptSlot → Answer × Option KeptSlot
read_turn number k = read_slot (filled (noticed number k))

-- a close with its turn: before it comes a notice, and after it the port is filled
abbrev pub close_turn : ℕ → KeptSlot → Answer × Option KeptSlot
close_turn number k = (
  (close_slot number (noticed number k)).0,
  option_map filled (close_slot number (noticed number k)).1,
)

-- what is done at a taken slot, at one that may be free: a free one refuses it
abbrev pub outcome_at : (KeptSlot → Answer × Option KeptSlot) → Option KeptSlot
    → Answer × Option KeptSlot
outcome_at does None = (Refused NotOpen, None)
outcome_at does (Some k) = does k

-- the same at an index of the slots
abbrev pub outcome_in : (KeptSlot → Answer × Option KeptSlot) → List (Option KeptSlot) → ℕ
    → Answer × List (Option KeptSlot)
outcome_in does ks place = (
  (outcome_at does (option_flatten (slice_get ks place))).0,
  slice_set ks place (outcome_at does (option_flatten (slice_get ks place))).1,
)

-- the same at a slot by its number; slot 0 is free
abbrev pub outcome_of : (KeptSlot → Answer × Option KeptSlot) → List (Option KeptSlot) → ℕ
    → Answer × List (Option KeptSlot)
outcome_of does ks slot =
    if slot == 0 then (Refused NotOpen, ks) else outcome_in does ks (slot - 1)
