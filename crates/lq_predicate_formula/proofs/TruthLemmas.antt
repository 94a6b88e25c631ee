-- The truth of a predicate goes by what a row shows under its names; which ones bare rows fail.
use Rattle.std.proofs.Common.{◌≡◌, ℕ, List, [], ◌∷◌, ◌++◌, refl, ap, ap₂, sym, ◌∙◌, inl, inr, Bool, true, false}
use Rattle.std.specs.Prelude.{not, ◌&&◌, ◌||◌, None}
use Rattle.std.specs.List.{list_any, AllByRecursion}
use Rattle.std.specs.Str.{bytes_eq}
use Rattle.std.proofs.lemmas.Slice.Eq.{bytes_eq-Decides}
use Rattle.std.proofs.lemmas.Bool.{cond_both, false≢true, or_cases, or_left, or_right, and_left, and_parts, and_right, or_from}
use Rattle.std.proofs.lemmas.List.Folds.{list_any-append}
use Rattle.lq_value.specs.declared.attr_field.Field.{Field}
use Rattle.lq_value.specs.declared.attr_field.Field.TheVariants.{Attribute}
use Rattle.lq_value.specs.Field.{field_of}
use Rattle.lq_predicate_formula.specs.Query.{Query, Compare, Not, And, Or, Queries, no_more, and_then}
use Rattle.lq_predicate_formula.specs.Names.{attributes, all_attributes, is_among, with_name, each_once}
use Rattle.lq_predicate_formula.specs.Truth.{Look, compares_if_present, truth, all_true, some_true}
use Rattle.lq_predicate_formula.specs.Laws.{TruthGoesByNames, BareRowsFail}
use Rattle.lq_predicate_formula.specs.Needs.{is_attribute, needs_attribute, some_need, all_need}
use Rattle.lq_predicate_formula.proofs.PartLemmas.{all_parts}

-- ---- the truth of a predicate goes by its attributes

-- of two rows
module _ (look other : Look) where
  -- they agree under these names
  abbrev Agree : List (List ℕ) → Type 0
  Agree names = AllByRecursion (λ name. look name ≡ other name) names

  mutual
    -- a query holds of rows that agree under its names for both or for neither
    truth-same : (q : Query) → Agree (attributes q) → truth q look ≡ truth q other
    truth-same (Compare attr op literal) h = ap (λ o. compares_if_present o op literal) h.0
    truth-same (Not q) h = ap not (truth-same q h)
    truth-same (And qs) h = (each-same qs h).0
    truth-same (Or qs) h = (each-same qs h).1

    -- so do all of some queries, and so does one of them
    each-same : (qs : Queries) → Agree (all_attributes qs)
        → (all_true qs look ≡ all_true qs other) × (some_true qs look ≡ some_true qs other)
    each-same no_more h = (refl, refl)
    each-same (and_then q qs) h =
        let k = all_parts (λ name. look name ≡ other name) (attributes q) (all_attributes qs) h in
        let first = truth-same q k.0 in
        let rest = each-same qs k.1 in
        (ap₂ (λ x y. x && y) first rest.0, ap₂ (λ x y. x || y) first rest.1)

-- ---- a predicate's names are its attributes

-- whether a name is among others, as the law has it
abbrev has : List (List ℕ) → List ℕ → Bool
has names name = list_any (bytes_eq name) names

-- a name among some is among them and more
among-front : (name : List ℕ) (xs ys : List (List ℕ)) → has xs name ≡ true
    → has (xs ++ ys) name ≡ true
among-front name xs ys h = list_any-append (bytes_eq name) xs ys ∙ or_left _ _ h

-- a name at the end of some is among them
among-back : (name : List ℕ) (xs : List (List ℕ)) → has (xs ++ name ∷ []) name ≡ true
among-back name xs = list_any-append (bytes_eq name) xs (name ∷ [])
    ∙ or_right (has xs name) _ (or_left _ _ ((bytes_eq-Decides name name).1 refl))

-- a name that is found among some, by the test turned round, is among them
among-turned : (name : List ℕ) (xs : List (List ℕ)) → is_among xs name ≡ true → has xs name ≡ true
among-turned name [] h = absurd (false≢true h)
among-turned name (x ∷ xs) h = elim (or_cases (bytes_eq x name) (is_among xs name) h) [
  | inl here ↦
      let same = (bytes_eq-Decides x name).0 here in
      or_left _ _ ((bytes_eq-Decides name x).1 (sym same))
  | inr more ↦ or_right (bytes_eq name x) _ (among-turned name xs more)
]

-- a name that is added is there
with-has : (xs : List (List ℕ)) (name : List ℕ) → has (with_name xs name) name ≡ true
with-has xs name = cond_both (is_among xs name) xs (xs ++ name ∷ []) (λ l. has l name ≡ true)
    (among-turned name xs) (λ no. among-back name xs)

-- a name that is there stays where another is added
with-keeps : (xs : List (List ℕ)) (one name : List ℕ) → has xs name ≡ true
    → has (with_name xs one) name ≡ true
with-keeps xs one name h = cond_both (is_among xs one) xs (xs ++ one ∷ []) (λ l. has l name ≡ true)
    (λ yes. h) (λ no. among-front name xs (one ∷ []) h)

-- a name that is there stays where others are added, each once
each-keeps : (xs uses : List (List ℕ)) (name : List ℕ) → has xs name ≡ true
    → has (each_once xs uses) name ≡ true
each-keeps xs [] name h = h
each-keeps xs (use_ ∷ uses) name h =
    each-keeps (with_name xs use_) uses name (with-keeps xs use_ name h)

-- rows that agree under the names, each once, agree under all that are used
each-agrees : (look other : Look) (xs uses : List (List ℕ))
    → ((name : List ℕ) → has (each_once xs uses) name ≡ true → look name ≡ other name)
    → AllByRecursion (λ name. look name ≡ other name) uses
each-agrees look other xs [] same = tt
each-agrees look other xs (one ∷ uses) same = (
  same one (each-keeps (with_name xs one) uses one (with-has xs one)),
  each-agrees look other (with_name xs one) uses same,
)

-- the truth of a predicate goes by what a row shows under its names
pub truth-names : TruthGoesByNames
truth-names q look other same =
    truth-same look other q (each-agrees look other [] (attributes q) same)

-- a field that is an attribute
only-attribute : (f : Field) → is_attribute f ≡ true → f ≡ Attribute
only-attribute Attribute h = refl
only-attribute f h = absurd (false≢true h)

-- of a row that shows nothing under the name of an attribute
module _ (look : Look) (bare : (name : List ℕ) → field_of name ≡ Attribute → look name ≡ None) where
  mutual
    -- a query that needs an attribute is false
    needs-false : (q : Query) → needs_attribute q ≡ true → truth q look ≡ false
    needs-false (Compare attr op literal) h =
        ap (λ o. compares_if_present o op literal) (bare attr (only-attribute (field_of attr) h))
    needs-false (Not q) h = cc
    needs-false (And qs) h = some-false qs h
    needs-false (Or qs) h = each-false qs h

    -- not all of some queries are true if one of them needs an attribute
    some-false : (qs : Queries) → some_need qs ≡ true → all_true qs look ≡ false
    some-false no_more h = cc
    some-false (and_then q qs) h = elim (or_cases (needs_attribute q) (some_need qs) h) [
      | inl n ↦ and_left (truth q look) (all_true qs look) (needs-false q n)
      | inr n ↦ and_right (truth q look) (all_true qs look) (some-false qs n)
    ]

    -- none of some queries is true if each of them needs one
    each-false : (qs : Queries) → all_need qs ≡ true → some_true qs look ≡ false
    each-false no_more h = refl
    each-false (and_then q qs) h =
        let n = and_parts (needs_attribute q) (all_need qs) h in
        or_from (truth q look) (some_true qs look) (needs-false q n.0) (each-false qs n.1)

-- a predicate that needs an attribute is false of a row without attributes
pub needs-bare : BareRowsFail
needs-bare q look needs bare = needs-false look bare q needs
