-- The changes that a subscription may skip, since they have no message for it.
use Rattle.std.specs.Prelude.{◌≡◌, ℕ, ◌-◌, ◌%◌, List, [], ◌∷◌, Bool, true, false, codes, length, not, Option, Some, None, slice_get}
use Rattle.std.specs.Int.{bit_at}
use Rattle.std.specs.List.{list_any}
use Rattle.std.specs.Option.{option_map_or}
use Rattle.std.specs.Str.{bytes_eq}
use Rattle.lq_predicate.specs.Query.{Query}
use Rattle.lq_volume.specs.declared.change.Change.{Change}
use Rattle.lq_volume.specs.State.{State, IsVolume}
use Rattle.lq_volume.specs.Change.{IsLawful}
use Rattle.lq_update.specs.declared.open_options.Flags.{Flags}
use Rattle.lq_update.specs.Laws.{names_altered}
use Rattle.lq_update.specs.Updates.{step_of}

-- whether one of these names is among the others
abbrev pub is_name_among : List (List ℕ) → List ℕ → Bool
is_name_among names name = list_any (bytes_eq name) names

-- whether the altered names are known, and none of them is among these
abbrev pub are_apart : List (List ℕ) → Option (List (List ℕ)) → Bool
are_apart names None = false
are_apart names (Some altered) = not (list_any (is_name_among names) altered)

-- whether a write alters what an entry shows under one of these names
abbrev pub are_written : List (List ℕ) → Bool
are_written names = list_any (is_name_among names) (codes "size" ∷ codes "last_modified" ∷ [])

-- whether the change alters only values, and none under these names
abbrev pub passes_over : List (List ℕ) → Change → Bool
passes_over names c = are_apart names (names_altered c)

-- the lowest six bits of a name's last byte
abbrev pub ending_of : List ℕ → ℕ
ending_of name = option_map_or (λ byte. byte % 64) (slice_get name (length name - 1)) 0

-- the word has a bit for the ending of each of these names
abbrev pub HasEndings : List (List ℕ) → ℕ → Type 0
HasEndings names word = (name : List ℕ) → is_name_among names name ≡ true
    → bit_at word (ending_of name) ≡ 1

-- the change has no message for the query with these flags, whatever state it is made to
abbrev pub TellsNothing : Query → Flags → Change → Type 0
TellsNothing q flags c = (s : State) (seq : ℕ) → IsVolume s → IsLawful s c
    → step_of q flags s c seq ≡ []
