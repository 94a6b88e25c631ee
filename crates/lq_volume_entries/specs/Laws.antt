-- What edits of the records keep.
use Rattle.std.specs.Prelude.{◌≡◌, ◌<◌, ℕ, List, [], ◌∷◌, ◌++◌, Bool, false, not, filter, nat_eq, ◌==◌, Some, None, if◌then◌else◌}
use Rattle.std.specs.List.{AllByRecursion, list_any}
use Rattle.std.specs.Map.{lookup, values_of}
use Rattle.std.specs.Option.{option_map}
use Rattle.lq_volume_entries.specs.Edits.{altered}
use Rattle.lq_volume_entries.specs.Record.{Record, Rises, node_in}

-- what is found of a node
pub record RecordsAreFound : Type 0 where
  -- a record that is added under a node above all others, and the others as before
  pub added : (es : List (ℕ × Record)) (k : ℕ) (r : Record) (n : ℕ)
      → AllByRecursion (λ e. e.0 < k) es
      → lookup (nat_eq n) (es ++ (k, r) ∷ []) ≡ (if n == k then Some r else lookup (nat_eq n) es)
  -- nothing of a node that is removed, and the others as before
  pub removed : (es : List (ℕ × Record)) (k n : ℕ)
      → lookup (nat_eq n) (filter (λ e. not (e.0 == k)) es)
      ≡ (if n == k then None else lookup (nat_eq n) es)
  -- a record as it is altered, and the others as before
  pub altered : (es : List (ℕ × Record)) (k : ℕ) (f : Record → Record) (n : ℕ)
      → lookup (nat_eq n) (altered k f es)
      ≡ (if n == k then option_map f (lookup (nat_eq n) es) else lookup (nat_eq n) es)
  -- nothing of a node above all others
  pub above : (es : List (ℕ × Record)) (k : ℕ) → AllByRecursion (λ e. e.0 < k) es
      → lookup (nat_eq k) es ≡ None
  -- no record that passes a test which all of them fail
  pub failing : (test : Record → Bool) (es : List (ℕ × Record)) (n : ℕ) (r : Record)
      → list_any test (values_of es) ≡ false → lookup (nat_eq n) es ≡ Some r → test r ≡ false

-- nodes that rise still do
pub record NodesRise : Type 0 where
  pub added : (es : List (ℕ × Record)) (k : ℕ) (r : Record) → Rises es
      → AllByRecursion (λ e. e.0 < k) es → Rises (es ++ (k, r) ∷ [])
  pub filtered : (test : ℕ × Record → Bool) (es : List (ℕ × Record)) → Rises es
      → Rises (filter test es)
  pub altered : (k : ℕ) (f : Record → Record) (es : List (ℕ × Record)) → Rises es
      → Rises (altered k f es)

-- the search for a place finds a record there, and none where no record is there
pub record PlacesAreFound : Type 0 where
  pub some : (es : List (ℕ × Record)) (dir : ℕ) (name : List ℕ) (n : ℕ) → Rises es
      → node_in es dir name ≡ Some n
      → (r : Record) × (lookup (nat_eq n) es ≡ Some r) × (r.dir ≡ dir) × (r.name ≡ name)
  pub none : (es : List (ℕ × Record)) (dir : ℕ) (name : List ℕ) (n : ℕ) (r : Record)
      → node_in es dir name ≡ None → lookup (nat_eq n) es ≡ Some r → r.dir ≡ dir
      → r.name ≡ name → ⊥

-- what edits keep, all of it
pub record RecordsAreKept : Type 0 where
  pub found : RecordsAreFound
  pub rise : NodesRise
  pub places : PlacesAreFound
