-- The reading of a whole text, by the limits on its query.
use Rattle.std.proofs.Common.{◌≡◌, ◌≤◌, ◌<◌, ◌+◌, ◌^◌, ◌⊎◌, ℕ, Bool, true, false, ◌&&◌, Option, Some, None, List, length, refl, sym, ap, ◌∙◌, arith, inl, inr, subst}
use Rattle.std.specs.Prelude.{nat_le, if◌then◌else◌, MatchOption, option_map, ⊤, Ok, Err}
use Rattle.std.proofs.lemmas.Bool.{le-leb, lt-leb}
use Rattle.lq_predicate_formula.specs.Canonical.{canonical, depth}
use Rattle.lq_predicate_formula.specs.Capped.{capped}
use Rattle.lq_predicate_formula.specs.Faults.{HasOneReading, IsFaulty, IsReading, Reads, most_bytes, most_depth}
use Rattle.lq_predicate_formula.specs.Machine.{MachineState, step_token}
use Rattle.lq_predicate_formula.specs.MachineReading.{finished, pattern_fault}
use Rattle.lq_predicate_formula.specs.Query.{Query}
use Rattle.lq_predicate_formula.specs.Reading.{reading_of}
use Rattle.lq_predicate_formula.specs.Tokens.{HasOneTokenList, Placed, Yields}
use Rattle.lq_predicate.specs.Building.{IsWholeOf, stop_in_text}
use Rattle.lq_predicate.specs.QuerySize.{query_size}
use Rattle.lq_predicate.specs.declared.sizes.QuerySize.{QuerySize}
use Rattle.lq_predicate.specs.declared.stop.Stop.{Stop}
use Rattle.lq_predicate.specs.declared.stop.Stop.TheVariants.{Fault, Failed}
use Rattle.lq_predicate.proofs.SoFarLemmas.{SoFar, offset_fits, stops}

-- the machine refuses the token
abbrev pub Refuses : {E : Type 0} → MachineState → Placed → Stop (Option ℕ) E → Type 0
Refuses s t (Fault f) = (step_token s t.token ≡ None) × (pattern_fault s.expected t.token ≡ f)
Refuses s t (Failed e) = ⊤

module _ {E : Type 0} (text : List ℕ) (offset : ℕ) (rest : List ℕ) (s : MachineState) (count : ℕ)
    (h : SoFar text offset rest s count) (t : Placed) (next : ℕ) (behind : List ℕ)
    (y : Yields offset rest t next behind) where
  -- the offset of a pattern's fault is a number of 64 bits
  pub token_fits : (stop : Stop (Option ℕ) E) → next + length behind ≡ offset + length rest
      → Refuses s t stop → (k : ℕ) → stop ≡ Fault (Some k) → t.raw_offset + k < 2 ^ 64
  token_fits (Fault f) total m k is =
      let same : f ≡ Some k = cc in
      offset_fits text offset rest s count h t next behind k y total (m.1 ∙ same)
  token_fits (Failed e) total m k is = absurd (let no : ⊥ = cc in no)

  -- the token can't be taken
  pub token_stops : {B : Type 0} (part : Query → B) (stop : Stop (Option ℕ) E)
      → HasOneTokenList next behind → Refuses s t stop
      → IsWholeOf part text (Err (stop_in_text (length text) t stop))
  token_stops part (Fault k) others m =
      stops text offset rest s count h t next behind y others k m.0 m.1
  token_stops part (Failed x) others m = tt

-- the text ends here, and a whole query is built or none stands there
pub ends_made : {B : Type 0} (part : Query → B) (text : List ℕ) (o : Option Query)
    (made : Option B) → made ≡ option_map part o → IsReading text (finished (length text) o)
    → MatchOption made (IsFaulty text (length text))
    (λ b. (q : Query) × IsReading text (finished (length text) (Some q)) × (b ≡ part q))
ends_made part text None None is e = e
ends_made part text (Some q) (Some b) is e = (q, e, cc)
ends_made part text None (Some b) is e = absurd (let no : ⊥ = cc in no)
ends_made part text (Some q) None is e = absurd (let no : ⊥ = cc in no)

-- ---- the limits on the query

-- whether a whole query is within the limits decides what the text reads as
limits_by : (text : List ℕ) (q : Query) (a b : Bool) → nat_le (depth q) most_depth ≡ a
    → nat_le (length (canonical q)) most_bytes ≡ b
    → IsReading text (finished (length text) (Some q))
    → IsReading text (if a && b then Ok q else Err (length text))
limits_by text q a b deep long h = subst (λ t. IsReading text (if a && t then Ok q
    else Err (length text))) long (subst (λ t. IsReading text
    (if t && nat_le (length (canonical q)) most_bytes then Ok q else Err (length text))) deep h)

-- a query whose size is above a limit has its fault at the end
pub too_great : (text : List ℕ) (q : Query) (e : QuerySize)
    → IsReading text (finished (length text) (Some q)) → e ≡ query_size q
    → (64 < e.depth) ⊎ ((e.depth ≤ 64) × (4096 < e.bytes)) → IsFaulty text (length text)
too_great text q e h same (inl deep) =
    let d : e.depth ≡ capped (depth q) = ap (λ x. x.depth) same in
    limits_by text q false _ (lt-leb (depth q) most_depth (omega (arith, d, deep))) refl h
too_great text q e h same (inr (shallow, long)) =
    let d : e.depth ≡ capped (depth q) = ap (λ x. x.depth) same in
    let b : e.bytes ≡ capped (length (canonical q)) = ap (λ x. x.bytes) same in
    limits_by text q true false (le-leb (depth q) most_depth (omega (arith, d, shallow)))
    (lt-leb (length (canonical q)) most_bytes (omega (arith, b, long))) h

-- in a text that reads, a whole query is what it reads as
pub whole_reads : (text : List ℕ) (tree : Query) → HasOneReading text (reading_of text)
    → (r : Query) × Reads text r
    → (q : Query) × IsReading text (finished (length text) (Some q)) × (tree ≡ q)
    → Reads text tree
whole_reads text tree one (r, reads) (q, h, is) = subst (Reads text) (sym is)
    (by (nat_le (depth q) most_depth && nat_le (length (canonical q)) most_bytes) h)
  where
    by : (b : Bool) → IsReading text (if b then Ok q else Err (length text)) → Reads text q
    by true reads' = reads'
    by false faulty = absurd
        (let e = one.only (Ok r) reads ∙ sym (one.only (Err (length text)) faulty) in
        let no : ⊥ = cc in no)
