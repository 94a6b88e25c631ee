-- The path of a node: a walk up from it reaches the root.
use Rattle.std.proofs.Common.{◌≡◌, ◌∙◌, ℕ}
use Rattle.std.specs.Prelude.{Some, None}
use Rattle.lq_value.specs.declared.kind.Kind.{Kind}
use Rattle.lq_volume_entries.specs.Folder.{CanClimb}
use Rattle.lq_volume.specs.State.{State, IsVolume, kind_at}
use Rattle.lq_volume.proofs.Tree.{reaches-root}

-- a walk up from each node of a volume reaches the root
pub can-climb : (s : State) (node : ℕ) (k : Kind) → IsVolume s → Some k ≡ kind_at s node
    → CanClimb s.records node
can-climb s node k v is = record {
  apart = v.tree.apart;
  within = reaches-root s node v.tree (λ none. let no : Some k ≡ None = is ∙ none in cc);
  no_root = v.tree.no_root;
}
