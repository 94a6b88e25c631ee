-- How a fold refuses a message, by whether it may follow the latest one.
use Rattle.std.proofs.Common.{◌≡◌, true, arith}
use Rattle.std.specs.Prelude.{if◌then◌else◌, Some, None}
use Rattle.std.proofs.lemmas.Bool.Decides.{nat_tests}
use Rattle.lq_value.specs.Refusal.{first_refusal}
use Rattle.lq_value.specs.declared.refusal.Refusal.TheVariants.{Mismatch}
use Rattle.lq_update.specs.declared.message.Message.{Message}
use Rattle.lq_update.specs.Fold.{Folding, fold_refusals, fits_in}
use Rattle.lq_update.specs.FoldProgress.{may_come_next}

-- one that may follow is refused just where it doesn't fit
pub refusal-following : (f g : Folding) (m : Message) → f ≡ g
    → may_come_next f.seq f.change f.settled m ≡ true
    → (if fits_in f.entries m then None else Some Mismatch) ≡ first_refusal (fold_refusals g m)
refusal-following f g m same follows = rw (← same) (grind (arith, nat_tests))
