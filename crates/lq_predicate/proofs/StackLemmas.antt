-- Pushes on a stack.
use Rattle.std.proofs.Common.{◌≡◌, ℕ, ◌+◌, ◌-◌, ◌<◌, ◌≤◌, ◌^◌, List, [], ◌∷◌, ◌++◌, length, take, drop, reverse, length-drop, refl, sym, subst, ap, ◌∙◌, arith, Option, Some}
use Rattle.std.specs.Prelude.{option_and_then, Result, Ok}
use Rattle.std.proofs.lemmas.Bool.Decides.{nat_tests}
use Rattle.std.proofs.lemmas.List.{reverse-append, length-reverse, drop_at, take-append-drop}
use Rattle.lq_value.specs.declared.refusal.Refusal.{Refusal}
use Rattle.lq_predicate_formula.specs.Query.{Query}
use Rattle.lq_predicate.specs.declared.stack_item.StackItem.{StackItem}
use Rattle.lq_predicate.specs.declared.stack_item.StackItem.TheVariants.{Part}
use Rattle.lq_predicate.specs.Stacked.{Stacked}
use Rattle.lq_predicate.specs.Stack.{IsMade, pushed}

-- one item in place of the last ones, seen from the top
pub replaced : (xs ys : List StackItem) (count : ℕ) (item : StackItem) → count ≤ length xs
    → ys ≡ take (length xs - count) xs ++ item ∷ [] → reverse ys ≡ item ∷ drop count (reverse xs)
replaced xs ys count item there is =
    let kept = length xs - count in
    let parts : xs ≡ take kept xs ++ drop kept xs = sym (take-append-drop kept xs) in
    let turned : reverse xs ≡ reverse (drop kept xs) ++ reverse (take kept xs) =
    ap reverse parts ∙ reverse-append (take kept xs) (drop kept xs) in
    let few : length (reverse (drop kept xs)) ≡ count =
    length-reverse (drop kept xs) ∙ dropped xs count there in
    let rest : drop count (reverse xs) ≡ reverse (take kept xs) =
    ap (drop count) turned ∙ drop_at (reverse (drop kept xs)) (reverse (take kept xs)) count few in
    ap reverse is ∙ reverse-append (take kept xs) (item ∷ []) ∙ ap (λ r. item ∷ r) (sym rest)
  where
    dropped : (xs : List StackItem) (count : ℕ) → count ≤ length xs
        → length (drop (length xs - count) xs) ≡ count
    dropped xs count there = omega (arith, there, length-drop (length xs - count) xs)

-- the stack after one item is put in place of the last ones
abbrev IsReplaced : List StackItem → ℕ → ℕ → StackItem → Stacked → Type 0
IsReplaced new pushes count item s =
    s.pushes + 1 < 2 ^ 64 → count ≤ length s.items → pushed s (item ∷ drop count s.items)
    ≡ Some (record { items = reverse new; pushes = pushes + 1 })

-- a push that can be counted gives the items and one push more
counted : (pushes : ℕ) (items items' : List StackItem) → items ≡ items' → pushes + 1 < 2 ^ 64
    → pushed (record { items = []; pushes = pushes }) items
    ≡ Some (record { items = items'; pushes = pushes + 1 })
counted pushes items items' is room = rw is (grind (arith, nat_tests))

-- an item that takes the place of some on top is one push
pub replaced_view : (stack : Stacked) (inside new : List StackItem) (pushes count : ℕ)
    (item : StackItem)
    → record { items = reverse inside; pushes = pushes } ≡ stack → stack.pushes + 1 < 2 ^ 64
    → count ≤ length stack.items → new ≡ take (length inside - count) inside ++ item ∷ []
    → pushed stack (item ∷ drop count stack.items)
    ≡ Some (record { items = reverse new; pushes = pushes + 1 })
replaced_view stack inside new pushes count item is room there made =
    subst (IsReplaced new pushes count item) is here room there
  where
    here : IsReplaced new pushes count item (record { items = reverse inside; pushes = pushes })
    here room there =
        let e = replaced inside new count item (omega (arith, there, length-reverse inside)) made in
        counted pushes (item ∷ drop count (reverse inside)) (reverse new) (sym e) room

-- what is made, put in place of the items, is what the stack has after it
pub put_down : (stack : Stacked) (made : Result (Option Query) Refusal) (q : Query) (count : ℕ)
    (new : Stacked) (after : Option (List StackItem)) → made ≡ Ok (Some q)
    → IsMade made count stack.items after
    → pushed stack (Part q ∷ drop count stack.items) ≡ Some new
    → option_and_then (pushed stack) after ≡ Some new
put_down stack made q count new after is made_of done =
    let here : after ≡ Some (Part q ∷ drop count stack.items) =
    subst (λ m. IsMade m count stack.items after) is made_of in
    ap (option_and_then (pushed stack)) here ∙ done
