-- Pieces of a text, appended one after the other.
use Rattle.std.proofs.Common.{◌≡◌, ℕ, List, ◌++◌, append_assoc, ap, ◌∙◌}
use Rattle.lq_script_desk.specs.Front.{AppendsTo}

-- a text that was appended to a text that was appended to an old one was appended to that
pub appends_after : {new middle old : List ℕ} → AppendsTo new middle → AppendsTo middle old
    → AppendsTo new old
appends_after later earlier = record {
  rest = earlier.rest ++ later.rest;
  split = later.split ∙ (ap (λ front. front ++ later.rest) earlier.split
      ∙ append_assoc _ earlier.rest later.rest);
}

-- what up to four pieces need, where the last one's error goes up by `?` too
pub ruleset joined = (appends_after, append_assoc)

-- a text, and then the rest
pub and_then : {middle new : List ℕ} (old text rest : List ℕ) → middle ≡ old ++ text
    → new ≡ middle ++ rest → new ≡ old ++ (text ++ rest)
and_then old text rest e f = f ∙ (ap (λ front. front ++ rest) e ∙ append_assoc old text rest)

-- bytes and a value's text, and then the rest
pub piece : {middle new : List ℕ} (old before text rest : List ℕ) → middle ≡ old ++ (before ++ text)
    → new ≡ middle ++ rest → new ≡ old ++ (before ++ (text ++ rest))
piece old before text rest e f = f ∙ (ap (λ front. front ++ rest) e ∙ simp append_assoc)

-- the same where the bytes have a name in them
pub named_piece : {middle new front : List ℕ} (old first name second text rest : List ℕ)
    → front ≡ first ++ (name ++ second) → middle ≡ old ++ (front ++ text) → new ≡ middle ++ rest
    → new ≡ old ++ (first ++ (name ++ (second ++ (text ++ rest))))
named_piece old first name second text rest d e f = f
    ∙ (ap (λ front. front ++ rest) (e ∙ ap (λ front. old ++ (front ++ text)) d) ∙ simp append_assoc)
