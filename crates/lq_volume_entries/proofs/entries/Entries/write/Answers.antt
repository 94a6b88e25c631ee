use Rattle.std.proofs.Common.{refl}
use Rattle.std.proofs.Math.Facts.{to_z-of_z}
use Rattle.lq_volume_entries.proofs.IndexLemmas.{index-altered}
use Rattle.lq_volume_entries.proofs.entries.Entries.write.Goals as goal

pub invariant_of-self : goal.invariant_of-self
invariant_of-self c =
    rw c.write.ensures (index-altered _ _ _ _ c.self.invariant (λ r. refl) (λ r. refl))

pub returns : goal.returns
returns c = rw (c.write.ensures, to_z-of_z c.ranges.time, ← c.self.view_is) refl
