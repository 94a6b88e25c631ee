-- What a formula asks for is a function of its reading.
use Rattle.std.proofs.Common.{◌≡◌, ◌∙◌, ◌⊎◌, ℕ, List, sym, ap, inl, inr}
use Rattle.std.specs.Prelude.{Result, Ok, Err}
use Rattle.lq_value.specs.declared.refusal.Refusal.{Refusal}
use Rattle.lq_value.specs.declared.refusal.Refusal.TheVariants.{BadQuery, NoMemory}
use Rattle.lq_predicate.specs.Faults.{HasOneReading, Reads}
use Rattle.lq_predicate.specs.Query.{Query}
use Rattle.lq_predicate.specs.Reading.{reading_of}
use Rattle.lq_predicate.specs.Refusals.{IsRefusalOf}
use Rattle.lq_script_request.specs.declared.request.Request.{Request}

-- what asks for the reading's query asks for the one that the formula reads as
pub reading_of-reads : (text : List ℕ) (q : Query) → HasOneReading text (reading_of text)
    → Reads text q → reading_of text ≡ Ok q
reading_of-reads text q one reads = sym (one.only (Ok q) reads)

-- what is refused with the reading's place is refused as the formula is
pub reading_of-refused : (text : List ℕ) (e : Refusal)
    (request : Result Query ℕ → Result Request Refusal) → HasOneReading text (reading_of text)
    → ((place : ℕ) → request (Err place) ≡ Err (BadQuery place)) → IsRefusalOf text e
    → (e ≡ NoMemory) ⊎ (request (reading_of text) ≡ Err e)
reading_of-refused text e request one passes (inl fault) =
    let place = one.only (Err fault.0) fault.2 in
    inr (ap request (sym place) ∙ passes fault.0 ∙ ap Err (sym fault.1))
reading_of-refused text e request one passes (inr memory) = inl memory.0
