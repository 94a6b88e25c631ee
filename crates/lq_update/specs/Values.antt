-- What a change tells of the values of an entry that is in a query's result before and after it.
use Rattle.std.specs.Prelude.{◌≡◌, ℕ, ℤ, List, [], ◌∷◌, Option, Some, None}
use Rattle.std.specs.Option.{option_map}
use Rattle.lq_value.specs.declared.entry.Entry.{Entry}
use Rattle.lq_predicate.specs.Query.{Query}
use Rattle.lq_volume.specs.declared.change.Change.{Change}
use Rattle.lq_volume.specs.declared.change.Change.TheVariants.{Write, SetAttr, RemoveAttr}
use Rattle.lq_volume.specs.State.{State, record_at}
use Rattle.lq_volume.specs.Change.{after, attr_of, node_of}
use Rattle.lq_volume.specs.Result.{match_at}
use Rattle.lq_update.specs.declared.message.Opcode.{Opcode}
use Rattle.lq_update.specs.declared.message.Opcode.TheVariants.{ValueChanged}

-- the value that a change writes, if it writes one: the attribute that is set or removed, or with
-- no name the size and time
abbrev pub value_written : Change → Option (Option (List ℕ))
value_written (Write node size time) = Some None
value_written (SetAttr node attr value) = Some (Some attr)
value_written (RemoveAttr node attr) = Some (Some attr)
value_written c = None

-- the message of a written value, for an entry that the result has before and after
abbrev pub told_within : Option (Option (List ℕ)) → Option Entry → Option Entry
    → List (Opcode × Entry)
told_within (Some attribute) (Some e) (Some f) = (ValueChanged attribute, f) ∷ []
told_within written old new = []

-- What a change tells of values: one message, if it writes a value of an entry that is in the
-- result before and after it.
abbrev pub values_told : Query → State → Change → List (Opcode × Entry)
values_told q s c =
    told_within (value_written c) (match_at q s (node_of s c))
    (match_at q (after s c) (node_of s c))

-- a node has the same value under this name in both states: the same attribute, or with no name the
-- same size and time
abbrev pub SameValue : State → State → ℕ → Option (List ℕ) → Type 0
SameValue s t node None =
    option_map {U = ℕ × ℤ} (λ r. (r.size, r.time)) (record_at s node)
    ≡ option_map {U = ℕ × ℤ} (λ r. (r.size, r.time)) (record_at t node)
SameValue s t node (Some attr) = attr_of s node attr ≡ attr_of t node attr
