-- A stack's items, the top first, and the number of pushes accepted since it was new.
use Rattle.std.specs.Prelude.{ℕ, List, [], refl}
use Rattle.std.specs.Coded.{Coded, code_by, coded×, coded_list, coded_ℕ}
use Rattle.lq_predicate.specs.declared.stack_item.StackItem.{StackItem}
use Rattle.lq_predicate.specs.contracts.stack_item.StackItem as item

pub record Stacked : Type 0 where
  pub items : List StackItem
  pub pushes : ℕ

abbrev pub new_stack : Stacked
new_stack = record { items = []; pushes = 0 }

-- how the logic stores it
abbrev pub coded_stacked : Coded Stacked
coded_stacked =
    code_by (List StackItem × ℕ) (coded× (coded_list item.the_row.coded) coded_ℕ)
    (λ s. (s.items, s.pushes)) (λ p. record { items = p.0; pushes = p.1 }) (λ _. refl)
