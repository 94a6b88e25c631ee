-- The node at each place of a volume: by folder, then by a hash of the name or by the name.
use Rattle.std.specs.Prelude.{◌≡◌, ℕ, List, Bool, true, false, Option, Some, None, IsSome, option_and_then, nat_eq, not, length, ◌==◌, ◌&&◌, ◌||◌, if◌then◌else◌}
use Rattle.std.specs.BTreeMap.{get}
use Rattle.std.specs.Cmp.Lexicographic.{slice_cmp}
use Rattle.std.specs.Option.{option_map_or}
use Rattle.std.specs.Ordering.{nat_cmp}
use Rattle.std.specs.Str.{bytes_eq}
use Rattle.lq_value.specs.NameHash.{hash_of}
use Rattle.lq_volume_entries.specs.declared.places.Places.{Places}

-- the node under a hash in a folder
abbrev pub first_in : Places → ℕ → ℕ → Option ℕ
first_in places dir hash =
    option_and_then (λ names. get nat_cmp names.first hash) (get nat_cmp places.folders dir)

-- the node under a name in a folder
abbrev pub other_in : Places → ℕ → List ℕ → Option ℕ
other_in places dir name =
    option_and_then (λ names. get (slice_cmp nat_cmp) names.others name)
    (get nat_cmp places.folders dir)

-- whether a folder has a name
abbrev pub has_names : Places → ℕ → Bool
has_names places dir =
    option_map_or
    (λ names. not (length names.first.entries == 0) || not (length names.others.entries == 0))
    (get nat_cmp places.folders dir) false

-- a folder has a map of names, though it may be empty
abbrev pub HasFolder : Places → ℕ → Type 0
HasFolder places dir = IsSome (get nat_cmp places.folders dir)

-- a folder has no name: nothing is under a hash or under a name
abbrev pub IsNameless : Places → ℕ → Type 0
IsNameless places dir =
    ((hash : ℕ) → first_in places dir hash ≡ None)
    × ((name : List ℕ) → other_in places dir name ≡ None)

-- whether a node is the one under the hash of a name
abbrev pub is_first : Places → ℕ → List ℕ → ℕ → Bool
is_first places dir name node =
    option_map_or (λ there. there == node) (first_in places dir (hash_of name)) false

-- whether no node is under the hash of a name, except one that is removed
abbrev pub is_open : Places → ℕ → List ℕ → Option ℕ → Bool
is_open places dir name over =
    option_map_or (λ there. option_map_or (nat_eq there) over false)
    (first_in places dir (hash_of name)) true

-- the same nodes are under the same hashes and names
pub record SamePlaces (old new : Places) : Type 0 where
  pub first : (d h : ℕ) → first_in new d h ≡ first_in old d h
  pub others : (d : ℕ) (n : List ℕ) → other_in new d n ≡ other_in old d n

-- a node is put under a hash
pub record PutsFirst (old new : Places) (dir hash node : ℕ) : Type 0 where
  pub first : (d h : ℕ) → first_in new d h
      ≡ (if (d == dir) && (h == hash) then Some node else first_in old d h)
  pub others : (d : ℕ) (n : List ℕ) → other_in new d n ≡ other_in old d n

-- a node is put under a name
pub record PutsOther (old new : Places) (dir : ℕ) (name : List ℕ) (node : ℕ) : Type 0 where
  pub first : (d h : ℕ) → first_in new d h ≡ first_in old d h
  pub others : (d : ℕ) (n : List ℕ) → other_in new d n
      ≡ (if (d == dir) && bytes_eq name n then Some node else other_in old d n)

-- a node is put at a place: under the hash where that is open, else under the name
pub record PutsNode (old new : Places) (dir : ℕ) (name : List ℕ) (node : ℕ)
    (over : Option ℕ) : Type 0 where
  pub first : (d h : ℕ) → first_in new d h
      ≡ (if is_open old dir name over && ((d == dir) && (h == hash_of name)) then Some node
      else first_in old d h)
  pub others : (d : ℕ) (n : List ℕ) → other_in new d n
      ≡ (if not (is_open old dir name over) && ((d == dir) && bytes_eq name n) then Some node
      else other_in old d n)

-- nothing is under a name any more, nor under its hash if the node was there
pub record TakesNode (old new : Places) (dir : ℕ) (name : List ℕ) (was_first : Bool) : Type 0 where
  pub first : (d h : ℕ) → first_in new d h
      ≡ (if was_first && ((d == dir) && (h == hash_of name)) then None else first_in old d h)
  pub others : (d : ℕ) (n : List ℕ) → other_in new d n
      ≡ (if (d == dir) && bytes_eq name n then None else other_in old d n)
