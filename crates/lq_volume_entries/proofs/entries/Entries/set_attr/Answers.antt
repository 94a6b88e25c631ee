use Rattle.std.proofs.Common.{refl}
use Rattle.lq_volume_entries.proofs.IndexLemmas.{index-altered}
use Rattle.lq_volume_entries.proofs.entries.Entries.set_attr.Goals as goal

pub invariant_of-self-2 : goal.invariant_of-self-2
invariant_of-self-2 c =
    rw c.in_ok-set_attr.ensures.ok (index-altered _ _ _ _ c.self.invariant (λ r. refl) (λ r. refl))
