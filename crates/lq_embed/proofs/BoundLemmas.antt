-- Why values can't be put in place, or what they give.
use Rattle.std.proofs.Common.{◌≡◌, ◌∙◌, ◌+◌, ◌<◌, ◌≤◌, ℕ, Bool, true, false, List, [], ◌∷◌, length, drop, Option, None, Some, Result, Ok, Err, refl, sym, ap, arith, inl, inr, option_map}
use Rattle.std.specs.Prelude.{if◌then◌else◌, nat_le}
use Rattle.std.specs.Str.{IsUtf8, is_utf8}
use Rattle.std.proofs.lemmas.List.{at_drop_more}
use Rattle.std.proofs.lemmas.Str.{IsUtf8-from_is_utf8, is_utf8-from_IsUtf8}
use Rattle.lq_value.specs.declared.refusal.Refusal.{Refusal}
use Rattle.lq_value.specs.declared.refusal.Refusal.TheVariants.{BadQuery, NotUtf8}
use Rattle.lq_value.specs.declared.value.Value.{Value}
use Rattle.lq_predicate_formula.specs.Tokens.{HasOneTokenList}
use Rattle.lq_embed.specs.declared.bound_formula.Unbound.{Unbound}
use Rattle.lq_embed.specs.declared.bound_formula.Unbound.TheVariants.{NoValue, Refused, UnusedValue}
use Rattle.lq_embed.specs.declared.parameters.Parameter.{Parameter}
use Rattle.lq_embed.specs.BoundFormula.{Binds, bound_formula, first_missing, first_unbound, first_unused, has_parameter, replaced_from, unless_unbound}
use Rattle.lq_embed.specs.ParameterList.{HasParameters, IsNotCut}

-- ---- missing and unused values

-- no parameter has this number
pub unused_here : (ps : List Parameter) (values : List Value) (i : ℕ) (d : Value)
    → i < length values → has_parameter ps (i + 1) ≡ false
    → first_unused ps (i + 1) (drop i values) ≡ Some (i + 1)
unused_here ps values i d lt is = at_drop_more (first_unused ps (i + 1)) values i d lt ∙ rw is refl

-- one has
pub unused_next : (ps : List Parameter) (values : List Value) (i : ℕ) (d : Value)
    → i < length values → has_parameter ps (i + 1) ≡ true
    → first_unused ps (i + 1) (drop i values) ≡ first_unused ps (i + 1 + 1) (drop (i + 1) values)
unused_next ps values i d lt is = at_drop_more (first_unused ps (i + 1)) values i d lt ∙ rw is refl

-- ---- outcomes

-- the outcome by what the tests answer, in order
abbrev outcome_by : Bool → Bool → Option ℕ → Option ℕ → Option ℕ → List ℕ
    → Result (List ℕ) Unbound
outcome_by utf8 short fault missing unused text = unless_unbound (first_unbound (
    (if utf8 then None else Some (Refused NotUtf8))
    ∷ (if short then None else Some (Refused (BadQuery 4096)))
    ∷ option_map (λ offset. Refused (BadQuery offset)) fault
    ∷ option_map (λ number. NoValue number) missing
    ∷ option_map (λ number. UnusedValue number) unused
    ∷ []
    )) text

-- the tests of a formula that is short enough, and has no faulty token
tests_pass : {utf8 short : Bool} {fault : Option ℕ} (missing unused : Option ℕ) (text : List ℕ)
    → utf8 ≡ true → short ≡ true → fault ≡ None
    → outcome_by utf8 short fault missing unused text
    ≡ outcome_by true true None missing unused text
tests_pass missing unused text u s f = rw (u, s, f) refl

-- the test of the size
is_short : (n : ℕ) → n ≤ 4096 → nat_le n 4096 ≡ true
is_short n le = grind (arith, le)

-- the same of a formula above it
is_long : (n : ℕ) → 4096 < n → nat_le n 4096 ≡ false
is_long n lt = grind (arith, lt)

-- the test of a text that is no UTF-8
pub not_utf8 : (text : List ℕ) → ¬ IsUtf8 text → is_utf8 text ≡ false
not_utf8 text not = at (is_utf8 text) refl
  where
    at : (b : Bool) → is_utf8 text ≡ b → is_utf8 text ≡ false
    at true is = absurd (not (IsUtf8-from_is_utf8 text is))
    at false is = is

-- the formula is no UTF-8
pub binds_not_utf8 : (values : List Value) (formula : List ℕ) → HasOneTokenList 0 formula
    → ¬ IsUtf8 formula → Binds values formula (Err (Refused NotUtf8))
binds_not_utf8 values formula ts not = record {
  tokens = ts.tokens;
  has = ts.has;
  is = inl (rw (not_utf8 formula not) refl);
}

-- it is too long
pub binds_long : (values : List Value) (formula : List ℕ) → HasOneTokenList 0 formula
    → IsUtf8 formula → 4096 < length formula
    → Binds values formula (Err (Refused (BadQuery 4096)))
binds_long values formula ts utf8 long = record {
  tokens = ts.tokens;
  has = ts.has;
  is = inl (rw (is_utf8-from_IsUtf8 formula utf8, is_long (length formula) long) refl);
}

-- a token is in no formula, or memory runs out for the parameters
pub binds_not_cut : (values : List Value) (formula : List ℕ) (refusal : Refusal)
    → HasOneTokenList 0 formula → IsUtf8 formula → length formula ≤ 4096
    → IsNotCut formula refusal → Binds values formula (Err (Refused refusal))
binds_not_cut values formula refusal ts utf8 short (inl h) = record {
  tokens = h.tokens;
  has = h.has;
  is = inl (rw (is_utf8-from_IsUtf8 formula utf8, is_short (length formula) short, h.fault)
      (ap (λ e. Err (Refused e)) h.is));
}
binds_not_cut values formula refusal ts utf8 short (inr none) = record {
  tokens = ts.tokens;
  has = ts.has;
  is = inr (ap (λ e. Err (Refused e)) none);
}

-- the outcome of a formula with these parameters
outcome_of : (values : List Value) (formula : List ℕ) (ps : List Parameter)
    (h : HasParameters formula ps) → IsUtf8 formula → length formula ≤ 4096
    → bound_formula values formula h.tokens ≡ outcome_by true true None
    (first_missing (length values) ps) (first_unused ps 1 values)
    (replaced_from values formula 0 ps)
outcome_of values formula ps h utf8 short =
    tests_pass _ _ _ (is_utf8-from_IsUtf8 formula utf8) (is_short (length formula) short) h.fine
    ∙ ap (λ qs. outcome_by true true None (first_missing (length values) qs)
    (first_unused qs 1 values) (replaced_from values formula 0 qs)) (sym h.are)

-- a parameter has no value
pub binds_missing : (values : List Value) (formula : List ℕ) (ps : List Parameter) (number : ℕ)
    → HasParameters formula ps → IsUtf8 formula → length formula ≤ 4096
    → first_missing (length values) ps ≡ Some number
    → Binds values formula (Err (NoValue number))
binds_missing values formula ps number h utf8 short missing = record {
  tokens = h.tokens;
  has = h.has;
  is = inl (sym (outcome_of values formula ps h utf8 short ∙ rw missing refl));
}

-- a value has no parameter
pub binds_unused : (values : List Value) (formula : List ℕ) (ps : List Parameter) (number : ℕ)
    → HasParameters formula ps → IsUtf8 formula → length formula ≤ 4096
    → first_missing (length values) ps ≡ None → first_unused ps 1 values ≡ Some number
    → Binds values formula (Err (UnusedValue number))
binds_unused values formula ps number h utf8 short missing unused = record {
  tokens = h.tokens;
  has = h.has;
  is = inl (sym (outcome_of values formula ps h utf8 short ∙ rw (missing, unused) refl));
}

-- each has the other
pub binds_text : (values : List Value) (formula : List ℕ) (ps : List Parameter) (text : List ℕ)
    → HasParameters formula ps → IsUtf8 formula → length formula ≤ 4096
    → first_missing (length values) ps ≡ None → first_unused ps 1 values ≡ None
    → text ≡ replaced_from values formula 0 ps → Binds values formula (Ok text)
binds_text values formula ps text h utf8 short missing unused is = record {
  tokens = h.tokens;
  has = h.has;
  is = inl (ap (λ t. Ok t) is
      ∙ sym (outcome_of values formula ps h utf8 short ∙ rw (missing, unused) refl));
}
