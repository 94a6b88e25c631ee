-- The result of each slot by what was read from it: one fold for each.
use Rattle.std.specs.Prelude.{ℕ, ◌-◌, List, replicate, Bool, true, false, Option, Some, None, ◌==◌, slice_get, slice_set, if◌then◌else◌}
use Rattle.std.specs.Option.{option_map, option_flatten}
use Rattle.lq_value.specs.declared.refusal.Refusal.{Refusal}
use Rattle.lq_value.specs.Refusal.{first_refusal}
use Rattle.lq_update.specs.declared.message.Message.{Message}
use Rattle.lq_update.specs.declared.parcel.Parcel.TheVariants.{Update}
use Rattle.lq_update.specs.Fold.{Folding, EntriesRise, fold_refusals, folding_after, opened_at}
use Rattle.lq_desk_world.specs.Events.{Answer, Opened, Took, Finished}

-- the fold of slot k is at index k - 1, if that slot is open
abbrev pub Folds : Type 0
Folds = List (Option Folding)

-- no slot has a fold
abbrev pub no_folds : Folds
no_folds = replicate 64 None

-- the fold of a slot; slot 0 has none
abbrev pub fold_at : Folds → ℕ → Option Folding
fold_at folds slot = if slot == 0 then None else option_flatten (slice_get folds (slot - 1))

-- the folds with this fold, or none, at a slot
abbrev pub with_fold : Folds → ℕ → Option Folding → Folds
with_fold folds slot fold = if slot == 0 then folds else slice_set folds (slot - 1) fold

-- the fold after a message that it takes; one that is refused changes nothing
abbrev pub after_message_if : Folding → Message → Option Refusal → Folding
after_message_if f m None = folding_after f m
after_message_if f m (Some e) = f

-- a fold after any message
abbrev pub after_message : Message → Folding → Folding
after_message m f = after_message_if f m (first_refusal (fold_refusals f m))

-- The answer to a slot's event starts a fold if it opened a subscription, goes into the slot's fold
-- if it is an update that was read, and drops the fold if the slot is freed.
abbrev pub folds_after : ℕ → Answer → Folds → Folds
folds_after slot (Opened opened at result) folds =
    with_fold folds opened (Some (opened_at at result))
folds_after slot (Took (Update m)) folds =
    with_fold folds slot (option_map (after_message m) (fold_at folds slot))
folds_after slot Finished folds = with_fold folds slot None
folds_after slot a folds = folds

-- an answer that starts a fold or updates one, which may take memory
abbrev pub is_folded : Answer → Bool
is_folded (Opened slot at result) = true
is_folded (Took (Update m)) = true
is_folded a = false

-- an opening's result rises by node, so a fold can start from it
abbrev pub ResultRises : Answer → Type 0
ResultRises (Opened slot at result) = EntriesRise result
ResultRises a = Unit {0}
