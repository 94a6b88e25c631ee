-- The truth of a predicate stays where numbers stay beside those that it compares them with.
use Rattle.std.proofs.Common.{◌≡◌, ◌⊎◌, inl, inr, ℕ, ℤ, List, [], ◌∷◌, ◌++◌, refl, ap, ap₂, sym, ◌∙◌, true, arith}
use Rattle.std.specs.Prelude.{not, ◌&&◌, ◌||◌, Option, Some, None, int_lt, ◌<ℤ◌}
use Rattle.std.specs.Cmp.{int_cmp_is}
use Rattle.std.specs.Int.{int_max, int_min}
use Rattle.std.specs.List.{AllByRecursion}
use Rattle.std.specs.Option.{option_to_list}
use Rattle.std.specs.Ordering.{int_cmp}
use Rattle.std.specs.Str.{bytes_eq}
use Rattle.std.specs.declared.cmp.Ordering.TheVariants.{Less, Greater}
use Rattle.std.proofs.lemmas.Bool.{and_from, and_parts, or_cases, or_left, or_right}
use Rattle.std.proofs.lemmas.Int.{ints, clamps}
use Rattle.std.proofs.lemmas.List.Sums.{fold-append}
use Rattle.std.proofs.lemmas.Slice.Eq.{bytes_eq-Decides}
use Rattle.lq_value.specs.PlainValue.{PlainValue, Number}
use Rattle.lq_value.specs.Compare.{compares_number, literal_number}
use Rattle.lq_value.specs.declared.literal.Literal.{Literal}
use Rattle.lq_value.specs.declared.op.Op.{Op}
use Rattle.lq_predicate_formula.specs.Query.{Query, Compare, Not, And, Or, Queries, no_more, and_then}
use Rattle.lq_predicate_formula.specs.declared.span.Span.{Span}
use Rattle.lq_predicate_formula.specs.Laws.{TruthStaysBesideSpans}
use Rattle.lq_predicate_formula.specs.Span.{numbers_of, all_numbers, widened, no_span, is_outside}
use Rattle.lq_predicate_formula.proofs.PartLemmas.{all_parts}
use Rattle.lq_predicate_formula.specs.Truth.{Look, compares_if_present, truth, all_true, some_true}

-- a span widened by some numbers and then by others
pub widened-append : (span : Span) (ns ms : List ℤ)
    → widened span (ns ++ ms) ≡ widened (widened span ns) ms
widened-append span ns ms =
    let least = fold-append int_min span.least ns ms in
    let greatest = fold-append int_max span.greatest ns ms in
    rw (least, greatest) refl

-- ---- numbers beside a span stand alike to each number in it

-- two numbers have one order to each of some others
abbrev Alike : ℤ → ℤ → List ℤ → Type 0
Alike a b ns = AllByRecursion (λ n. int_cmp a n ≡ int_cmp b n) ns

-- below the lesser of two numbers is below both
below-both : (a m n : ℤ) → int_lt a (int_min m n) ≡ true → (int_lt a m ≡ true) × (a <ℤ n)
below-both a m n h = (grind (arith, ints, clamps), omega (arith, ints, clamps))

-- above the greater of two numbers is above both
above-both : (a m n : ℤ) → int_lt (int_max m n) a ≡ true → (int_lt m a ≡ true) × (n <ℤ a)
above-both a m n h = (grind (arith, ints, clamps), omega (arith, ints, clamps))

-- beside a span with one number more: beside the span, and alike to that number
beside-one : (l g n a b : ℤ)
    → is_outside (record { least = int_min l n; greatest = int_max g n }) a b ≡ true
    → (int_cmp a n ≡ int_cmp b n) × (is_outside (record { least = l; greatest = g }) a b ≡ true)
beside-one l g n a b h = elim (or_cases _ _ h) [
  | inl low ↦
      let k = and_parts _ _ low in
      let one = below-both a l n k.0 in
      let other = below-both b l n k.1 in (
        sym (int_cmp_is a n Less one.1) ∙ int_cmp_is b n Less other.1,
        or_left _ _ (and_from _ _ one.0 other.0),
      )
  | inr high ↦
      let k = and_parts _ _ high in
      let one = above-both a g n k.0 in
      let other = above-both b g n k.1 in (
        sym (int_cmp_is a n Greater one.1) ∙ int_cmp_is b n Greater other.1,
        or_right _ _ (and_from _ _ one.0 other.0),
      )
]

-- beside a span widened by some numbers: beside the span, and alike to those numbers
beside-alike : (ns : List ℤ) (l g a b : ℤ)
    → is_outside (widened (record { least = l; greatest = g }) ns) a b ≡ true
    → Alike a b ns × (is_outside (record { least = l; greatest = g }) a b ≡ true)
beside-alike [] l g a b h = (tt, h)
beside-alike (n ∷ ns) l g a b h =
    let rest = beside-alike ns (int_min l n) (int_max g n) a b h in
    let here = beside-one l g n a b rest.1 in
    ((here.0, rest.0), here.1)

-- ---- and then the truth stays

-- both show numbers, which stand alike to some numbers
abbrev Near : List ℤ → Option PlainValue → Option PlainValue → Type 0
Near ns held now = (from : ℤ) × (to : ℤ) × (held ≡ Some (Number from)) × (now ≡ Some (Number to))
    × Alike from to ns

-- a comparison of a number goes by its order to the literal's number
compares-alike : (a b : ℤ) (op : Op) (o : Option ℤ) → Alike a b (option_to_list o)
    → compares_number a op o ≡ compares_number b op o
compares-alike a b op None h = refl
compares-alike a b op (Some n) h = let same = h.0 in rw same refl

-- of two rows
module _ (look now : Look) where
  -- under each name they show the same, or numbers alike to those of the name
  abbrev Stays : (List ℕ → List ℤ) → Type 0
  Stays numbers =
      (name : List ℕ) → (look name ≡ now name) ⊎ Near (numbers name) (look name) (now name)

  -- what stays to some numbers stays to others to which all numbers alike to those are
  stays-map : (f g : List ℕ → List ℤ)
      → ((a b : ℤ) (name : List ℕ) → Alike a b (f name) → Alike a b (g name)) → Stays f → Stays g
  stays-map f g map h name = elim (h name) [
    | inl same ↦ inl same
    | inr near ↦ inr (near.0, near.1, near.2, near.3, map near.0 near.1 name near.4)
  ]

  -- a comparison of what stays
  compare-stays : (attr : List ℕ) (op : Op) (literal : Literal)
      → Stays (λ name. numbers_of name (Compare attr op literal))
      → truth (Compare attr op literal) look ≡ truth (Compare attr op literal) now
  compare-stays attr op literal h = elim (h attr) [
    | inl same ↦ ap (λ o. compares_if_present o op literal) same
    | inr near ↦
        let own : bytes_eq attr attr ≡ true = (bytes_eq-Decides attr attr).1 refl in
        let numbers : numbers_of attr (Compare attr op literal)
        ≡ option_to_list (literal_number literal) = rw own refl in
        let alike : Alike near.0 near.1 (option_to_list (literal_number literal)) =
        rw (← numbers) near.4 in
        ap (λ o. compares_if_present o op literal) near.2
        ∙ compares-alike near.0 near.1 op (literal_number literal) alike
        ∙ sym (ap (λ o. compares_if_present o op literal) near.3)
  ]

  mutual
    -- a query holds before and after, or neither
    truth-stays : (q : Query) → Stays (λ name. numbers_of name q) → truth q look ≡ truth q now
    truth-stays (Compare attr op literal) h = compare-stays attr op literal h
    truth-stays (Not q) h = ap not (truth-stays q h)
    truth-stays (And qs) h = (each-stays qs h).0
    truth-stays (Or qs) h = (each-stays qs h).1

    -- so do all of some queries, and so does one of them
    each-stays : (qs : Queries) → Stays (λ name. all_numbers name qs)
        → (all_true qs look ≡ all_true qs now) × (some_true qs look ≡ some_true qs now)
    each-stays no_more h = (refl, refl)
    each-stays (and_then q qs) h =
        let all = λ (name : List ℕ). all_numbers name (and_then q qs) in
        let first = truth-stays q (stays-map all (λ name. numbers_of name q) (λ a b name k.
        (all_parts (λ n. int_cmp a n ≡ int_cmp b n) (numbers_of name q) (all_numbers name qs) k).0)
        h) in
        let rest = each-stays qs (stays-map all (λ name. all_numbers name qs) (λ a b name k.
        (all_parts (λ n. int_cmp a n ≡ int_cmp b n) (numbers_of name q) (all_numbers name qs) k).1)
        h) in
        (ap₂ (λ x y. x && y) first rest.0, ap₂ (λ x y. x || y) first rest.1)

-- the law
pub truth-beside : TruthStaysBesideSpans
truth-beside q look now h = truth-stays look now q (λ name. elim (h name) [
  | inl same ↦ inl same
  | inr stays ↦ inr (
    stays.from,
    stays.to,
    stays.was,
    stays.is,
    (beside-alike (numbers_of name q) no_span.least no_span.greatest stays.from stays.to
        stays.beside).0,
  )
])
