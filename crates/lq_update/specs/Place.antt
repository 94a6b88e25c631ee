-- The index of an entry among entries that rise by node.
use Rattle.std.specs.Prelude.{◌≡◌, ℕ, ◌<◌, ◌≤◌, List, length, slice_index_or}
use Rattle.lq_value.specs.declared.entry.Entry.{Entry}

-- the entry at this index has the node
pub record IsEntryAt (es : List Entry) (node place : ℕ) : Type 0 where
  pub within : place < length es
  pub has_node : (d : Entry) → (slice_index_or es place d).node ≡ node

-- the entry at this index is this triple
pub record IsTripleAt (es : List Entry) (e : Entry) (place : ℕ) : Type 0 where
  pub within : place < length es
  pub same : (d : Entry) → slice_index_or es place d ≡ e

-- the node's entry would go at this index: lower nodes before it, higher ones from there on
pub record IsGapFor (es : List Entry) (node place : ℕ) : Type 0 where
  pub within : place ≤ length es
  pub lower : (i : ℕ) (d : Entry) → i < place → (slice_index_or es i d).node < node
  pub higher : (i : ℕ) (d : Entry) → place ≤ i → i < length es → node < (slice_index_or es i d).node
