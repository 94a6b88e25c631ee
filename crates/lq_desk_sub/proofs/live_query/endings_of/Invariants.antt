use Rattle.std.proofs.Common.{◌≡◌, ℕ, List, drop, true}
use Rattle.std.specs.Prelude.{◌⊎◌}
use Rattle.std.specs.Int.{bit_at}
use Rattle.lq_desk_sub.specs.Passing.{ending_of, is_name_among}
use Rattle.lq_desk_sub.proofs.live_query.endings_of.Given as goal

abbrev pub invariant-loop-name : goal.invariant-loop-name
invariant-loop-name l = (name : List ℕ) → is_name_among l.names name ≡ true
    → (bit_at l.endings (ending_of name) ≡ 1)
    ⊎ (is_name_among (drop l.name-index l.names) name ≡ true)
