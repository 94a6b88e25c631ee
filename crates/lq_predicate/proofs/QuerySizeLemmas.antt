-- How great a query is by its parts.
use Rattle.std.proofs.Common.{◌≡◌, ◌⊎◌, inl, inr, ◌<◌, ◌+◌, max, ℕ, zero, suc, List, [], ◌∷◌, ◌++◌, length, refl, sym, ap, ◌∙◌, arith, length-append}
use Rattle.std.specs.Prelude.{Option, None, Some, ok_or, option_map}
use Rattle.lq_predicate_formula.specs.Canonical.{canonical, depth, deepest}
use Rattle.lq_predicate_formula.specs.Capped.{capped}
use Rattle.lq_predicate_formula.specs.Machine.{negate}
use Rattle.lq_predicate_formula.specs.Query.{Query, Not, And, queries, both_of, either_of}
use Rattle.lq_predicate.specs.QuerySize.{query_size, parts_of}
use Rattle.lq_predicate.specs.declared.sizes.QuerySize.{QuerySize}
use Rattle.lq_predicate.specs.declared.sizes.SizeParts.{SizeParts}
use Rattle.lq_predicate.specs.declared.sizes.SizeParts.TheVariants.{One, More}
use Rattle.lq_predicate_formula.specs.Laws.{JoinedTextsAdd}
use Rattle.lq_predicate_formula.specs.Sizes.{name_bytes}
use Rattle.lq_predicate.specs.Made.{IsMadeOf}
use Rattle.lq_predicate.specs.declared.stop.Stop.TheVariants.{Fault}
use Rattle.lq_predicate_formula.specs.Size.{parts_size}

-- what a function maps to a value
pub mapped : {A B : Type 0} (f : A → B) (o : Option A) (b : B) → option_map f o ≡ Some b
    → (a : A) × (o ≡ Some a) × (b ≡ f a)
mapped f None b e = absurd (let no : ⊥ = cc in no)
mapped f (Some a) b e = (a, refl, cc)

-- the size of a name is made of a text that is one
pub name_made : (E : Type 0) (o : Option (List ℕ))
    → IsMadeOf {A = List ℕ} {B = ℕ} {F = Option ℕ} {E = E} (λ name n. n ≡ name_bytes name) o None
    (ok_or (option_map name_bytes o) (Fault None))
name_made E None = (refl, refl)
name_made E (Some name) = (name, refl, refl)

-- an size by its depth and its size
abbrev pub sized : ℕ → ℕ → QuerySize
sized d b = record { depth = d; bytes = b }

-- equal depths and equal sizes are equal sizes
pub sizes_are : (d d' b b' : ℕ) → d ≡ d' → b ≡ b' → sized d b ≡ sized d' b'
sizes_are d d' b b' e f = ap (λ n. sized n b) e ∙ ap (sized d') f

-- ---- `!`

-- each `!` adds one to the depth
depth-negate : (n : ℕ) (q : Query) → depth (negate n q) ≡ n + depth q
depth-negate zero q = omega arith
depth-negate (suc n) q = let h = depth-negate n (Not q) in omega (arith, h)

-- each `!` adds one byte
size-negate : (n : ℕ) (q : Query) → length (canonical (negate n q)) ≡ n + length (canonical q)
size-negate zero q = omega arith
size-negate (suc n) q = let h = size-negate n (Not q) in omega (arith, h)

-- the size of a query after some `!` is greater by that many in both
pub negated_size : (n : ℕ) (e : QuerySize) (d b : ℕ) (q : Query) → e ≡ query_size q
    → d ≡ capped (e.depth + n) → b ≡ capped (e.bytes + n) → sized d b ≡ query_size (negate n q)
negated_size n e d b q is deep size =
    let h = depth-negate n q in
    let k = size-negate n q in
    let was_deep : e.depth ≡ capped (depth q) = ap (λ x. x.depth) is in
    let was_size : e.bytes ≡ capped (length (canonical q)) = ap (λ x. x.bytes) is in
    sizes_are d _ b _ (omega (arith, h, was_deep, deep)) (omega (arith, k, was_size, size))

-- ---- an Or is as great as an And

-- an and and an or of the same parts have the same size
either_alike : JoinedTextsAdd → (qs : List Query)
    → query_size (both_of qs) ≡ query_size (either_of qs)
either_alike add [] = refl
either_alike add (q ∷ []) = refl
either_alike add (q ∷ r ∷ qs) =
    let size = add q (queries (r ∷ qs)) in
    sizes_are _ _ _ _ refl (ap capped (size.0 ∙ sym size.1))

-- parts that are one or more have the size of their or
pub parts_either : JoinedTextsAdd → (parts : SizeParts) (e : QuerySize)
    → (parts ≡ One e) ⊎ (parts ≡ More e)
    → (qs : List Query) → parts ≡ parts_of qs → e ≡ query_size (either_of qs)
parts_either add parts e (inl is) [] h = absurd (let no : ⊥ = cc in no)
parts_either add parts e (inr is) [] h = absurd (let no : ⊥ = cc in no)
parts_either add parts e (inl is) (q ∷ []) h = cc
parts_either add parts e (inr is) (q ∷ []) h = absurd (let no : ⊥ = cc in no)
parts_either add parts e (inl is) (q ∷ r ∷ qs) h = absurd (let no : ⊥ = cc in no)
parts_either add parts e (inr is) (q ∷ r ∷ qs) h =
    let same : e ≡ query_size (both_of (q ∷ r ∷ qs)) = cc in
    same ∙ either_alike add (q ∷ r ∷ qs)

-- ---- one part more

-- two parts have the size that is counted from both
pub two_parts : JoinedTextsAdd → (parts : SizeParts) (only part : QuerySize) (d b : ℕ)
    (qs : List Query) (q : Query)
    → parts ≡ One only → parts ≡ parts_of qs → part ≡ query_size q
    → d ≡ capped (max only.depth part.depth + 1) → b ≡ capped (capped (only.bytes + part.bytes) + 4)
    → More (sized d b) ≡ parts_of (qs ++ q ∷ [])
two_parts add parts only part d b [] q is h new deep size = absurd (let no : ⊥ = cc in no)
two_parts add parts only part d b (p ∷ []) q is h new deep size =
    let same : only ≡ query_size p = cc in
    let d1 : only.depth ≡ capped (depth p) = ap (λ x. x.depth) same in
    let b1 : only.bytes ≡ capped (length (canonical p)) = ap (λ x. x.bytes) same in
    let d2 : part.depth ≡ capped (depth q) = ap (λ x. x.depth) new in
    let b2 : part.bytes ≡ capped (length (canonical q)) = ap (λ x. x.bytes) new in
    let two = (add p (queries (q ∷ []))).0 in
    ap More (sizes_are d _ b _ (omega (arith, d1, d2, deep)) (omega (arith, b1, b2, two, size)))
two_parts add parts only part d b (p ∷ r ∷ qs) q is h new deep size =
    absurd (let no : ⊥ = cc in no)

-- one part more: the deepest is the deeper of it and the others
deepest-push : (qs : List Query) (q : Query)
    → deepest (queries (qs ++ q ∷ [])) ≡ max (deepest (queries qs)) (depth q)
deepest-push [] q = omega arith
deepest-push (p ∷ qs) q = let h = deepest-push qs q in omega (arith, h)

-- one part more adds its bytes and two for the separator
size-push : (qs : List Query) (q : Query)
    → parts_size (queries (qs ++ q ∷ [])) ≡ parts_size (queries qs) + (length (canonical q) + 2)
size-push [] q = omega arith
size-push (p ∷ qs) q = let h = size-push qs q in omega (arith, h)

-- the text of an And of one part or more is as long as its parts' size
and_size : JoinedTextsAdd → (qs : List Query) → 0 < length qs
    → length (canonical (And (queries qs))) ≡ parts_size (queries qs)
and_size add [] some = absurd (let no : ⊥ = omega (arith, some) in no)
and_size add (q ∷ qs) some = (add q (queries qs)).0

-- one part more adds to an and's size, capped
more_by : JoinedTextsAdd → (qs : List Query) (all : List Query) (q : Query)
    (whole part : QuerySize) (d b : ℕ)
    → 0 < length qs → all ≡ qs ++ q ∷ [] → whole ≡ query_size (And (queries qs))
    → part ≡ query_size q
    → d ≡ max whole.depth (capped (part.depth + 1))
    → b ≡ capped (capped (whole.bytes + part.bytes) + 2)
    → sized d b ≡ query_size (And (queries all))
more_by add qs all q whole part d b some is was new deep size =
    let d1 : whole.depth ≡ capped (depth (And (queries qs))) = ap (λ x. x.depth) was in
    let b1 : whole.bytes ≡ capped (length (canonical (And (queries qs)))) = ap (λ x. x.bytes) was in
    let d2 : part.depth ≡ capped (depth q) = ap (λ x. x.depth) new in
    let b2 : part.bytes ≡ capped (length (canonical q)) = ap (λ x. x.bytes) new in
    let push_deep = ap (λ ps. deepest (queries ps)) is ∙ deepest-push qs q in
    let push_size = ap (λ ps. parts_size (queries ps)) is ∙ size-push qs q in
    let before = and_size add qs some in
    let long : length all ≡ length (qs ++ q ∷ []) = ap length is in
    let more = and_size add all (omega (arith, long, length-append qs (q ∷ []))) in
    sizes_are d _ b _ (omega (arith, d1, d2, push_deep, deep))
    (omega (arith, b1, b2, push_size, before, more, size))

-- one part more adds to the size of two or more
pub more_parts : JoinedTextsAdd → (parts : SizeParts) (whole part : QuerySize) (d b : ℕ)
    (qs : List Query) (q : Query)
    → parts ≡ More whole → parts ≡ parts_of qs → part ≡ query_size q
    → d ≡ max whole.depth (capped (part.depth + 1))
    → b ≡ capped (capped (whole.bytes + part.bytes) + 2)
    → More (sized d b) ≡ parts_of (qs ++ q ∷ [])
more_parts add parts whole part d b [] q is h new deep size = absurd (let no : ⊥ = cc in no)
more_parts add parts whole part d b (p ∷ []) q is h new deep size = absurd (let no : ⊥ = cc in no)
more_parts add parts whole part d b (p ∷ r ∷ qs) q is h new deep size =
    let same : whole ≡ query_size (And (queries (p ∷ r ∷ qs))) = cc in
    ap More (more_by add (p ∷ r ∷ qs) (p ∷ r ∷ (qs ++ q ∷ [])) q whole part d b
    (omega arith) refl same new deep size)
