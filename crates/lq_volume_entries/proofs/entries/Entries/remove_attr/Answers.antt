use Rattle.std.proofs.Common.{refl}
use Rattle.lq_volume_entries.proofs.IndexLemmas.{index-altered}
use Rattle.lq_volume_entries.proofs.entries.Entries.remove_attr.Goals as goal

pub invariant_of-self : goal.invariant_of-self
invariant_of-self c =
    rw c.remove_attr.ensures (index-altered _ _ _ _ c.self.invariant (λ r. refl) (λ r. refl))
