-- Each text has one reading: the one that the machine finds.
use Rattle.std.proofs.Common.{◌≡◌, ◌≤◌, ◌<◌, ◌⊎◌, ℕ, List, [], ◌∷◌, ◌++◌, length, Option, Some, None, refl, sym, ap, ◌∙◌, subst, arith, inl, inr, append-nil}
use Rattle.std.specs.Prelude.{nat_le, if◌then◌else◌, Result, Ok, Err}
use Rattle.std.proofs.lemmas.Bool.{and_from, and_left, and_right, cases_lt, le-leb, lt-leb}
use Rattle.lq_predicate_formula.specs.Tokens.{HasTokens, Placed, bare}
use Rattle.lq_predicate_formula.specs.Query.{Query}
use Rattle.lq_predicate_formula.specs.Canonical.{canonical, comparisons, depth}
use Rattle.lq_predicate_formula.specs.Grammar.{IsFormula, nesting}
use Rattle.lq_predicate_formula.specs.Machine.{start, run_tokens, finished_query}
use Rattle.lq_predicate_formula.specs.Faults.{AreFine, HasOneReading, IsFaultOf, too_long, at_token, ends_early, too_much, IsReading, Reads, most_bytes, most_comparisons, most_depth}
use Rattle.lq_predicate_formula.specs.Lexing.{tokens_of}
use Rattle.lq_predicate_formula.specs.MachineReading.{finished, machine_reading, read_tokens}
use Rattle.lq_predicate_formula.specs.Reading.{reading_of}
use Rattle.lq_predicate_formula.proofs.TokenLemmas.{has_found, tokens_same}
use Rattle.lq_predicate_formula.proofs.CompleteLemmas.{formula_runs}
use Rattle.lq_predicate_formula.proofs.StoppedLemmas.{fault_is, Passes, seen_fine, next, Stops, at_one, behind_all, stops}
use Rattle.lq_predicate_formula.proofs.MoveLemmas.{comes, steps_run}
use Rattle.lq_predicate_formula.proofs.StopLemmas.{ends_none, reads_at_end}
use Rattle.lq_predicate_formula.proofs.TakenLemmas.{fine as fine_of}
use Rattle.lq_predicate_formula.proofs.WordLemmas.{formula_words}

-- ---- the end of the text

-- a query that is not too deep and not too long is the reading
finished_small : (end : ℕ) (q : Query) → depth q ≤ most_depth → length (canonical q) ≤ most_bytes
    → finished end (Some q) ≡ Ok q
finished_small end q h k =
    ap (λ b. if b then Ok q else Err end) (and_from _ _ (le-leb _ _ h) (le-leb _ _ k))

-- a query that is too deep or too long is refused at the end of the text
finished_big : (end : ℕ) (q : Query) → (most_depth < depth q) ⊎ (most_bytes < length (canonical q))
    → finished end (Some q) ≡ Err end
finished_big end q (inl h) = ap (λ b. if b then Ok q else Err end) (and_left _ _ (lt-leb _ _ h))
finished_big end q (inr h) = ap (λ b. if b then Ok q else Err end)
    (and_right (nat_le (depth q) most_depth) _ (lt-leb _ _ h))

-- tokens that are a formula are no more words than may be read, and all are fine
formula_fine : (end : ℕ) (ts : List Placed) (q : Query) → IsFormula nesting (bare ts) q
    → comparisons q ≤ most_comparisons → AreFine end ts
formula_fine end ts q h few =
    let goes = formula_runs nesting (bare ts) q h in
    let s = comes (bare ts) [] (start nesting) q
    (ap (run_tokens (start nesting)) (append-nil (bare ts)) ∙ goes) in
    let counted = formula_words nesting (bare ts) q h in
    fine_of end ts s.0 s.1 (omega arith)

-- where no token is at fault, all are passed over
passes : (end : ℕ) (ts : List Placed) → AreFine end ts → Passes end ts
passes end ts fine = by (stops end ts)
  where
    by : Stops end ts → Passes end ts
    by (at_one before here after p split none fault reads) =
        absurd (fine before here after p split fault)
    by (behind_all p) = p

module _ (text : List ℕ) (ts : List Placed) (has : HasTokens 0 text ts) where
  -- the reading of a text that is too long
  long_reading : most_bytes < length text → machine_reading text ts ≡ Err most_bytes
  long_reading h = rw (lt-leb (length text) most_bytes h)

  -- the reading of a text that is not too long is that of its tokens
  short_reading : length text ≤ most_bytes
      → machine_reading text ts ≡ read_tokens (length text) (start nesting) 0 ts
  short_reading h = rw (le-leb (length text) most_bytes h)

  -- the reading of a text whose tokens are passed over is what stands at the end
  whole_reading : length text ≤ most_bytes → (p : Passes (length text) ts)
      → machine_reading text ts ≡ finished (length text) (finished_query p.s)
  unfolding read_tokens
  whole_reading h p =
      short_reading h ∙ ap (read_tokens (length text) (start nesting) 0) (sym (append-nil ts))
      ∙ p.goes []

  -- ---- what the machine finds is a reading

  -- behind all tokens: no whole query, one that is too big, or the query
  end_reads : length text ≤ most_bytes → (p : Passes (length text) ts) (o : Option Query)
      → finished_query p.s ≡ o → IsReading text (finished (length text) o)
  end_reads short p None e = ends_early short ts has
      (seen_fine (length text) ts p.s p.count p.seen) (ends_none (bare ts) p.s p.seen.goes e) refl
  end_reads short p (Some q) e =
      by (cases_lt most_depth (depth q)) (cases_lt most_bytes (length (canonical q)))
    where
      formula : IsFormula nesting (bare ts) q
      formula = reads_at_end (bare ts) p.s q p.seen.goes e

      big : (most_depth < depth q) ⊎ (most_bytes < length (canonical q))
          → IsReading text (finished (length text) (Some q))
      big h = subst (IsReading text) (sym (finished_big (length text) q h)) (too_much short ts has
          (seen_fine (length text) ts p.s p.count p.seen) q formula h refl)

      by : (most_depth < depth q) ⊎ (depth q ≤ most_depth)
          → (most_bytes < length (canonical q)) ⊎ (length (canonical q) ≤ most_bytes)
          → IsReading text (finished (length text) (Some q))
      by (inl h) k = big (inl h)
      by (inr h) (inl k) = big (inr k)
      by (inr h) (inr k) =
          let counted = formula_words nesting (bare ts) q formula in
          let same = p.seen.counted in
          let few = p.seen.few in
          let reads : Reads text q = record {
            short = short;
            tokens = ts;
            has = has;
            formula = formula;
            few = omega arith;
            shallow = h;
            brief = k;
          } in
          subst (IsReading text) (sym (finished_small (length text) q h k)) reads

  -- where the reading stops, it is one
  stop_reads : length text ≤ most_bytes → Stops (length text) ts
      → IsReading text (machine_reading text ts)
  stop_reads short (at_one before here after p split fine fault reads) =
      subst (IsReading text) (sym (short_reading short ∙ reads))
      (at_token short before here after (subst (HasTokens 0 text) split has) fine fault)
  stop_reads short (behind_all p) = subst (IsReading text) (sym (whole_reading short p))
      (end_reads short p (finished_query p.s) refl)

  -- the machine finds a reading of each text
  pub machine_reads : IsReading text (machine_reading text ts)
  machine_reads = elim (cases_lt most_bytes (length text)) [
    | inl long ↦ subst (IsReading text) (sym (long_reading long)) (too_long long refl)
    | inr short ↦ stop_reads short (stops (length text) ts)
  ]

  -- ---- the machine finds each reading

  -- a formula with no token at fault is whole behind all tokens
  formula_whole : (p : Passes (length text) ts) (q : Query) → IsFormula nesting (bare ts) q
      → finished_query p.s ≡ Some q
  formula_whole p q h = sym (steps_run (bare ts) (start nesting) p.s [] p.seen.goes)
      ∙ ap (run_tokens (start nesting)) (append-nil (bare ts)) ∙ formula_runs nesting (bare ts) q h

  -- where the tokens are no formula, the reading is the end of the text
  none_whole : (p : Passes (length text) ts) (o : Option Query) → finished_query p.s ≡ o
      → ((q : Query) → IsFormula nesting (bare ts) q → ⊥)
      → finished (length text) o ≡ Err (length text)
  none_whole p None e h = refl
  none_whole p (Some q) e h = absurd (h q (reads_at_end (bare ts) p.s q p.seen.goes e))

  -- the reading at a token that is at fault, after tokens that are not, is the fault's offset
  reading_at : (before : List Placed) (here : Placed) (after : List Placed) (p : ℕ)
      → AreFine (length text) before → IsFaultOf (length text) (bare before) here p
      → read_tokens (length text) (start nesting) 0 (before ++ here ∷ after) ≡ Err p
  reading_at before here after p fine fault =
      let end = length text in
      let t = passes end before fine in
      let offset = fault_is (bare before) t.s t.seen.goes end here in
      t.goes (here ∷ after) ∙ elim (next end before here t.s t.count t.seen) [
        | inl f ↦ f.2 after ∙ ap Err (sym (offset f.0 f.1) ∙ offset p fault)
        | inr n ↦ absurd (seen_fine end (before ++ here ∷ []) n.0 _ n.1 before here [] p refl fault)
      ]

  -- the machine finds each reading
  found : (r : Result Query ℕ) → IsReading text r → machine_reading text ts ≡ r
  found (Ok q) h =
      let same = tokens_same h.tokens ts 0 text h.has has in
      let formula = subst (λ us. IsFormula nesting (bare us) q) same h.formula in
      let p = passes (length text) ts (formula_fine (length text) ts q formula h.few) in
      whole_reading h.short p
      ∙ ap (finished (length text)) (formula_whole p q formula)
      ∙ finished_small (length text) q h.shallow h.brief
  found (Err p) (too_long h is) = long_reading h ∙ ap Err (sym is)
  found (Err p) (at_token short before here after is fine fault) =
      short_reading short ∙ ap (read_tokens (length text) (start nesting) 0)
      (tokens_same ts (before ++ here ∷ after) 0 text has is)
      ∙ reading_at before here after p fine fault
  found (Err p) (ends_early short all is fine none at) =
      let same = tokens_same all ts 0 text is has in
      let t = passes (length text) ts (subst (AreFine (length text)) same fine) in
      whole_reading short t
      ∙ none_whole t (finished_query t.s) refl
      (subst (λ us. (q : Query) → IsFormula nesting (bare us) q → ⊥) same none) ∙ ap Err (sym at)
  found (Err p) (too_much short all is fine q formula over at) =
      let same = tokens_same all ts 0 text is has in
      let t = passes (length text) ts (subst (AreFine (length text)) same fine) in
      whole_reading short t
      ∙ ap (finished (length text))
      (formula_whole t q (subst (λ us. IsFormula nesting (bare us) q) same formula))
      ∙ finished_big (length text) q over ∙ ap Err (sym at)

-- each text has one reading
pub one_reading : (text : List ℕ) → HasOneReading text (reading_of text)
unfolding reading_of
one_reading text = record {
  is = machine_reads text (tokens_of 0 text) (has_found 0 text);
  only = λ other h. sym (found text (tokens_of 0 text) (has_found 0 text) other h);
}
