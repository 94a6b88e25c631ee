-- What was made of a text that reads as something or has a fault.
use Rattle.std.specs.Prelude.{◌≡◌, Option, Some, None, Result, Ok, Err, ⊤}
use Rattle.lq_predicate.specs.declared.stop.Stop.{Stop}
use Rattle.lq_predicate.specs.declared.stop.Stop.TheVariants.{Fault, Failed}

-- it is made of what the text reads as, or the text has this fault; else nothing is known
abbrev pub IsMadeOf : {A B F E : Type 0} → (A → B → Type 0) → Option A → F → Result B (Stop F E)
    → Type 0
IsMadeOf {A} is read fault (Ok made) = (a : A) × (read ≡ Some a) × is a made
IsMadeOf is read fault (Err (Fault at)) = (read ≡ None) × (fault ≡ at)
IsMadeOf is read fault (Err (Failed e)) = ⊤
