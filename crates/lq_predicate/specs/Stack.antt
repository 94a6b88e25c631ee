-- The postfix stack: what each push gives, and when it doesn't fit.
use Rattle.std.specs.Prelude.{◌≡◌, ℕ, ◌+◌, ◌^◌, List, [], ◌∷◌, drop, length, Bool, true, false, nat_le, nat_lt, Option, Some, None, IsSome, Result, Ok, Err, option_and_then, if◌then◌else◌}
use Rattle.std.specs.Option.{option_map}
use Rattle.std.specs.Str.{chars}
use Rattle.lq_value.specs.Element.{Element}
use Rattle.lq_value.specs.declared.literal.Literal.TheVariants as literal
use Rattle.lq_value.specs.declared.op.Op.{Op}
use Rattle.lq_value.specs.declared.op.Op.TheVariants as op
use Rattle.lq_value.specs.declared.refusal.Refusal.{Refusal}
use Rattle.lq_value.specs.declared.refusal.Refusal.TheVariants.{BadQuery}
use Rattle.lq_value.specs.Name.{is_attr_name}
use Rattle.lq_value.specs.Pattern.{with_stars}
use Rattle.lq_predicate_formula.specs.Query.{Query, Compare, Not, And, Or, Queries, queries}
use Rattle.lq_predicate_formula.specs.PredicateLimits.{if_within}
use Rattle.lq_predicate.specs.Operand.{pattern_in}
use Rattle.lq_predicate.specs.Stacked.{Stacked}
use Rattle.lq_predicate.specs.declared.stack_item.StackItem.{StackItem}
use Rattle.lq_predicate.specs.declared.stack_item.StackItem.TheVariants.{Attr, Value, Part}
use Rattle.lq_predicate.specs.declared.stack_op.StackOp.{StackOp}
use Rattle.lq_predicate.specs.declared.stack_op.StackOp.TheVariants as stack_op

-- the stack with these items after one more accepted push; the count has 64 bits
abbrev pub pushed : Stacked → List StackItem → Option Stacked
pushed stack items =
    if nat_lt (stack.pushes + 1) (2 ^ 64)
    then Some (record { items = items; pushes = stack.pushes + 1 })
    else None

-- a push of an attribute's name
abbrev pub attr_pushed : List ℕ → Stacked → Option Stacked
attr_pushed name stack = if is_attr_name name then pushed stack (Attr name ∷ stack.items) else None

-- a push of a text
abbrev pub text_pushed : List ℕ → Stacked → Option Stacked
text_pushed text stack =
    if nat_le (length text) 4096 then pushed stack (Value text ∷ stack.items) else None

-- ---- operators

-- the comparison with a pattern, if there is one
abbrev pub compared_if : Op → List ℕ → Option (List Element) → Option Query
compared_if op attr pattern =
    option_map (λ elements. Compare attr op (literal.Pattern elements)) pattern

-- the characters of a text as plain ones, with a star before them, after them or both
abbrev pub starred : Bool → List ℕ → Bool → List Element
starred before text behind = with_stars before (chars text) behind

abbrev pub star_count : Bool → ℕ
star_count true = 1
star_count false = 0

-- the comparison of an attribute with a text
abbrev pub compared : StackOp → List ℕ → List ℕ → Option Query
compared stack_op.Eq attr text = compared_if op.Eq attr (pattern_in text)
compared stack_op.Ne attr text = compared_if op.Ne attr (pattern_in text)
compared stack_op.Gt attr text = Some (Compare attr op.Gt (literal.Plain text))
compared stack_op.Ge attr text = Some (Compare attr op.Ge (literal.Plain text))
compared stack_op.Lt attr text = Some (Compare attr op.Lt (literal.Plain text))
compared stack_op.Le attr text = Some (Compare attr op.Le (literal.Plain text))
compared stack_op.Contains attr text = compared_if op.Eq attr (Some (starred true text true))
compared stack_op.BeginsWith attr text = compared_if op.Eq attr (Some (starred false text true))
compared stack_op.EndsWith attr text = compared_if op.Eq attr (Some (starred true text false))
compared stack_op attr text = None

-- the items with the query on top, if it is within the limits
abbrev pub in_place : Option Query → List StackItem → Option (List StackItem)
in_place query rest = option_map (λ q. Part q ∷ rest) (option_and_then if_within query)

-- the items after a comparison, which takes a value on top and an attribute below it
abbrev pub after_comparison : StackOp → List StackItem → Option (List StackItem)
after_comparison op (Value text ∷ Attr attr ∷ rest) = in_place (compared op attr text) rest
after_comparison op items = None

-- the items after `And` or `Or`, which takes two predicates, the lower one first
abbrev pub after_join : (Queries → Query) → List StackItem → Option (List StackItem)
after_join join (Part upper ∷ Part lower ∷ rest) =
    in_place (Some (join (queries (lower ∷ upper ∷ [])))) rest
after_join join items = None

abbrev pub after_not : List StackItem → Option (List StackItem)
after_not (Part q ∷ rest) = in_place (Some (Not q)) rest
after_not items = None

-- the items after an operator
abbrev pub after_op : StackOp → List StackItem → Option (List StackItem)
after_op stack_op.And items = after_join And items
after_op stack_op.Or items = after_join Or items
after_op stack_op.Not items = after_not items
after_op op items = after_comparison op items

abbrev pub op_pushed : StackOp → Stacked → Option Stacked
op_pushed op stack = option_and_then (pushed stack) (after_op op stack.items)

-- The result of an operator on some items: the predicate that replaces the first items, none where
-- nothing fits. Where something fits, the call may run out of memory instead.
abbrev pub IsMade : Result (Option Query) Refusal → ℕ → List StackItem
    → Option (List StackItem) → Type 0
IsMade (Ok made) count items after = after ≡ option_map (λ p. Part p ∷ drop count items) made
IsMade (Err e) count items after = IsSome after

-- ---- the end

-- the predicate, if it is the only item
abbrev pub only_part : List StackItem → Option Query
only_part (Part q ∷ []) = Some q
only_part items = None

-- ---- refusals

-- what doesn't fit is refused with the number of pushes that were accepted
abbrev pub refusal_at : {A : Type 0} → ℕ → Option A → Option Refusal
refusal_at pushes None = Some (BadQuery pushes)
refusal_at pushes (Some new) = None
