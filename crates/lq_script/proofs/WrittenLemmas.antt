-- What is left on a device by a line.
use Rattle.std.proofs.Common.{◌≡◌, ◌⊎◌, inl, inr, ℕ, Bool, true, List, take, drop, Option, Result, Ok, Err, OnOk, OnErr}
use Rattle.std.proofs.lemmas.List.{take-append-drop}
use Rattle.std.specs.Io.KnownBytes.{Appends}
use Rattle.lq_script.specs.Written.{WritesOrFails, WritesFront}

-- the first bytes of a line are a front of it
pub writes_part : (line : List ℕ) (written written' : Option (List ℕ))
    → ((n : ℕ) × Appends written written' (take n line)) → WritesFront line written written'
writes_part line written written' h = record {
  text = take h.0 line;
  appended = h.1;
  front = (drop h.0 line, take-append-drop h.0 line);
}

-- a line that was tried
pub tells : {T E : Type 0} (r : Result T E) (line : List ℕ) (written written' : Option (List ℕ))
    (failed stalled : Bool)
    → OnOk r (Appends written written' line)
    → OnErr r ((n : ℕ) × Appends written written' (take n line))
    → OnErr r ((failed ≡ true) ⊎ (stalled ≡ true))
    → WritesOrFails line written written' failed stalled
tells (Ok x) line written written' failed stalled whole part breaks = inl whole
tells (Err e) line written written' failed stalled whole part breaks =
    inr (writes_part line written written' part, breaks)
