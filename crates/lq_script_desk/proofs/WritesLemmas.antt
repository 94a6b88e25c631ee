-- What a writer took of the replies that waited for it.
use Rattle.std.proofs.Common.{◌≡◌, ℕ, List, [], ◌++◌, take, drop, Option, Result, Ok, Err, OnOk, OnErr, IfErr, sym, ap, ◌∙◌, subst, append-nil, take-append-drop}
use Rattle.std.specs.Io.KnownBytes.{Appends}
use Rattle.lq_script_lines.specs.declared.run_fault.RunFault.{RunFault}
use Rattle.lq_script_lines.specs.declared.run_fault.RunFault.TheVariants.{Write}
use Rattle.lq_script_desk.specs.Writes.{FailsToPut, PutsText}

-- a write of all that waits, of which none waits then; where it failed, the writer took a front
pub puts_waiting : (r : Result (Unit {0}) RunFault) (w w' : Option (List ℕ)) (waits left : List ℕ)
    → OnOk r (Appends w w' waits) → left ≡ []
    → OnErr r ((n : ℕ) × Appends w w' (take n waits)) → IfErr r (λ e. e ≡ Write)
    → PutsText r w waits w' left []
puts_waiting (Ok done) w w' waits left whole none part fault =
    record { taken = waits; appended = whole; split = ap (λ (l : List ℕ). waits ++ l) (sym none) }
puts_waiting (Err e) w w' waits left whole none part fault =
    subst (λ (f : RunFault). FailsToPut f w waits w' left []) (sym fault) (
      drop part.0 waits,
      record {
        taken = take part.0 waits;
        appended = part.1;
        split = append-nil waits ∙ sym (take-append-drop part.0 waits);
      },
    )
