-- What the reader of a set's items knows at each step.
use Rattle.std.proofs.Common.{◌≡◌, List, [], ◌∷◌, ◌++◌, length, Result, ap, arith, length-append}
use Rattle.lq_value_pattern.specs.declared.element.Item.{Item}
use Rattle.lq_value_pattern.specs.declared.error.SourceError.{SourceError}
use Rattle.lq_value_pattern.specs.declared.sign.Sign.{Sign}
use Rattle.lq_value_pattern.specs.Source.{ends, has, faulty, pieces_of, item_at}
use Rattle.lq_value_pattern.specs.Reading.{IsStuck, IsWithItem, AreGathered, ReadsItems}
use Rattle.lq_value_pattern.proofs.PieceLemmas.{SoFar, so_far_more, so_far_end, so_far_stuck}
use Rattle.lq_value_pattern.proofs.WrittenLemmas.{item_shrinks}

-- the items of a set that were read so far, and what was gathered of them
pub record ItemsSoFar (start : List Sign) (gathered : Result (List Item) SourceError)
    (left : List Sign) : Type 0 where
  pub items : List Item
  pub pieces : SoFar Item item_at start items left
  pub are : AreGathered items gathered

-- a list with a member at its end is not empty
not_none : (items : List Item) (item : Item) → items ++ item ∷ [] ≡ [] → ⊥
not_none items item e = omega (arith, ap length e, length-append items (item ∷ []))

-- one item more is gathered, unless memory runs out
gathered_more : (items : List Item) (item : Item) (g g' : Result (List Item) SourceError)
    → AreGathered items g → IsWithItem g item g' → AreGathered (items ++ item ∷ []) g'
gathered_more items item g g' a w = grind (arith, not_none items item)

-- one item more is read, and gathered unless memory runs out
pub items_more : (start left rest : List Sign) (item : Item) (g g' : Result (List Item) SourceError)
    → ItemsSoFar start g left → item_at left ≡ has item rest → IsWithItem g item g'
    → ItemsSoFar start g' rest
items_more start left rest item g g' s e w = record {
  items = s.items ++ item ∷ [];
  pieces = so_far_more Item item_at item_shrinks start s.items left item rest s.pieces e;
  are = gathered_more s.items item g g' s.are w;
}

-- what was gathered where the set ends are its items
pub items_end : (start left rest : List Sign) (g : Result (List Item) SourceError)
    → ItemsSoFar start g left → item_at left ≡ ends rest → ReadsItems start g rest
items_end start left rest g s e = record {
  items = s.items;
  pieces = so_far_end Item item_at item_shrinks start s.items left rest s.pieces e;
  are = s.are;
}

-- a set that is bad here is bad
pub items_stuck : (start left : List Sign) (g : Result (List Item) SourceError)
    → ItemsSoFar start g left → item_at left ≡ faulty → IsStuck (pieces_of item_at start)
items_stuck start left g s e =
    rw (so_far_stuck Item item_at item_shrinks start s.items left s.pieces e) tt
