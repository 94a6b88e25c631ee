-- The index of the records' places. No public clause names it.
use Rattle.std.specs.Prelude.{◌≡◌, ℕ, List, Bool, true, false, Option, Some, IsSome, nat_eq, ◌==◌, ◌&&◌, if◌then◌else◌}
use Rattle.std.specs.Map.{lookup}
use Rattle.std.specs.Option.{option_map_or}
use Rattle.std.specs.Str.{bytes_eq}
use Rattle.lq_value.specs.NameHash.{hash_of}
use Rattle.lq_volume_entries.specs.declared.places.Places.{Places}
use Rattle.lq_volume_entries.specs.Places.{first_in, other_in}
use Rattle.lq_volume_entries.specs.Record.{Record, node_in}
use Rattle.lq_volume_entries.specs.Edits.{altered, at_place, other_than, without}

-- whether the record of a node has this name
abbrev pub is_named : List (ℕ × Record) → List ℕ → ℕ → Bool
is_named es name node = option_map_or (λ r. bytes_eq r.name name) (lookup (nat_eq node) es) false

-- the node that is found: the one under the hash if its record has the name, else the other
abbrev pub found : List (ℕ × Record) → List ℕ → Option ℕ → Option ℕ → Option ℕ
found es name first other = if option_map_or (is_named es name) first false then first else other

-- whether the record of a node is in a folder, under a name with this hash
abbrev pub is_under_hash : List (ℕ × Record) → ℕ → ℕ → ℕ → Bool
is_under_hash es dir hash node =
    option_map_or (λ r. (r.dir == dir) && (hash_of r.name == hash)) (lookup (nat_eq node) es) false

-- this is the index of the records
pub record IsIndex (places : Places) (es : List (ℕ × Record)) : Type 0 where
  -- it finds each place of the records, and no other
  pub finds : (d : ℕ) (n : List ℕ)
      → found es n (first_in places d (hash_of n)) (other_in places d n) ≡ node_in es d n
  -- a node under a hash has a record whose name has that hash
  pub sound : (d h x : ℕ) → first_in places d h ≡ Some x → is_under_hash es d h x ≡ true

-- no two of the records share a folder and a name
abbrev pub IsApart : List (ℕ × Record) → Type 0
IsApart es = (m n : ℕ) (q r : Record) → lookup (nat_eq m) es ≡ Some q
    → lookup (nat_eq n) es ≡ Some r → q.dir ≡ r.dir → q.name ≡ r.name → m ≡ n

-- the precondition of a move: the node is there, and the other node at its place is removed
pub record CanMoveEntry (es : List (ℕ × Record)) (node dir : ℕ) (name : List ℕ)
    (other : Option ℕ) : Type 0 where
  pub apart : IsApart es
  pub there : IsSome (lookup (nat_eq node) es)
  pub other_is : other ≡ other_than node (node_in es dir name)
  -- no two records share a place after the move
  pub stays_apart : IsApart (altered node (at_place dir name) (without other es))
