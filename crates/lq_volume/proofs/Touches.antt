-- What each change counts.
use Rattle.std.proofs.Common.{◌≡◌, ◌+◌, [], ◌∷◌, refl, arith}
use Rattle.lq_volume.specs.declared.change.Change.{Change}
use Rattle.lq_volume.specs.declared.change.Change.TheVariants.{Create, Remove, Move, Write, SetAttr, RemoveAttr}
use Rattle.lq_volume.specs.State.{State}
use Rattle.lq_volume.specs.Change.{after}
use Rattle.lq_volume.specs.Laws.{ChangesCount}

-- one change adds one to the number of changes
counts_one : (s : State) (c : Change) → (after s c).number ≡ s.number + 1
counts_one s (Create dir name kind size time) = refl
counts_one s (Remove node) = refl
counts_one s (Move node dir name clobber) = refl
counts_one s (Write node size time) = refl
counts_one s (SetAttr node attr value) = refl
counts_one s (RemoveAttr node attr) = refl

-- and each of a list does
pub counted : ChangesCount
counted s [] = omega arith
counted s (c ∷ cs) = omega (arith, counted (after s c) cs, counts_one s c)
