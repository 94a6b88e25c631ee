-- Facts about every subscription.
use Rattle.std.specs.Prelude.{◌≡◌, true, false, Some}
use Rattle.lq_predicate.specs.Query.{Query}
use Rattle.lq_predicate.specs.Names.{names_of}
use Rattle.lq_volume.specs.declared.change.Change.{Change}
use Rattle.lq_update.specs.declared.open_options.Flags.{Flags}
use Rattle.lq_update.specs.declared.parcel.Parcel.{Parcel}
use Rattle.lq_desk_sub.specs.Held.{Held, next_parcel, without_parcel, with_back}
use Rattle.lq_desk_sub.specs.Passing.{TellsNothing, passes_over}

-- if a parcel goes out and is put back, the subscription is as it was
abbrev pub PuttingBackUndoes : Type 0
PuttingBackUndoes = (h : Held) (p : Parcel) → next_parcel h ≡ Some p
    → with_back (without_parcel h (Some p)) p ≡ h

-- a change that alters only values, and none under a query's names, has no message for the query
-- without messages of values
abbrev pub PassedTellNothing : Type 0
PassedTellNothing = (q : Query) (flags : Flags) (c : Change) → flags.values ≡ false
    → passes_over (names_of q) c ≡ true → TellsNothing q flags c
