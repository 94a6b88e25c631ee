-- Which slots have a parcel to read.
use Rattle.std.specs.Prelude.{◌≡◌, ℕ, ◌-◌, ◌≤◌, ◌==◌, List, length, Bool, true, false, ◌&&◌, ◌||◌, not, nat_lt, Option, is_some, slice_get}
use Rattle.std.specs.Option.{option_flatten}
use Rattle.std.specs.Int.{bit_at}
use Rattle.lq_desk_world.specs.declared.event.Event.TheVariants.{Take}
use Rattle.lq_desk_world.specs.Events.{Answer, Took}
use Rattle.lq_desk_world.specs.Turns.{turn_outcome}
use Rattle.lq_desk_world.specs.World.{World}
use Rattle.lq_desk_sub.specs.Held.{next_parcel}
use Rattle.lq_desk.specs.Slot.{KeptSlot, is_ending, passes}
use Rattle.lq_desk.specs.DeskState.{DeskState}
use Rattle.lq_desk.specs.KeptTurn.{kept_turn_outcome}

-- a read gave a message or the mark, and neither `Empty` nor `Ended`
abbrev pub is_parcel : Answer → Bool
is_parcel (Took p) = true
is_parcel a = false

-- The bit of each slot, for slot k the one at k - 1, is set just where the turn of a read would
-- give a message or the mark.
abbrev pub TellsReady : World → ℕ → Type 0
TellsReady w word = (slot : ℕ) → 1 ≤ slot
    → (bit_at word (slot - 1) == 1) ≡ is_parcel (turn_outcome w (Take slot)).0

-- ---- the same by what is kept

-- that of the turns by what is kept
abbrev pub TellsParcels : DeskState → ℕ → Type 0
TellsParcels k word = (slot : ℕ) → 1 ≤ slot
    → (bit_at word (slot - 1) == 1) ≡ is_parcel (kept_turn_outcome k (Take slot)).0

-- whether a slot has a parcel for a read that comes after a notice and after its port was filled
abbrev pub has_parcel : KeptSlot → Bool
has_parcel k = nat_lt 0 (length k.queue)
    || (nat_lt 0 k.port && (is_some (next_parcel k.held) || (is_ending k && not k.held.mark_out)))

-- the bits that are set are those of the slots that have a parcel
abbrev pub MarksParcels : List (Option KeptSlot) → ℕ → Type 0
MarksParcels ks word = (i : ℕ)
    → (bit_at word i == 1) ≡ passes has_parcel (option_flatten (slice_get ks i))
