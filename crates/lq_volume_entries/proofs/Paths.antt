-- The path of a node: the names on the walk up to the root lead down again.
use Rattle.std.proofs.Common.{◌≡◌, ℕ, suc, List, [], ◌∷◌, ◌++◌, refl, sym, arith, ◌∙◌, true}
use Rattle.std.specs.Prelude.{nat_eq, reverse, Some, None}
use Rattle.std.specs.Map.{lookup}
use Rattle.std.proofs.lemmas.Bool.Decides.{nat_tests}
use Rattle.std.proofs.lemmas.List.{reverse-append}
use Rattle.lq_volume_entries.specs.Folder.{CanClimb, Leads}
use Rattle.lq_volume_entries.specs.Record.{Record, Rises, climbs, dir_of, root, node_in}
use Rattle.lq_volume_entries.proofs.Steps.{climbs-on, climbs-top}
use Rattle.lq_volume_entries.proofs.PlaceLemmas.{uniq}
use Rattle.lq_volume_entries.proofs.RecordLemmas.{Entries}

-- a walk that reaches the root ends there where there is no record
pub ends-at_root : (n : ℕ) (es : Entries) (at : ℕ) → climbs n (dir_of es) root at ≡ true
    → None ≡ lookup (nat_eq at) es → at ≡ root
ends-at_root n es at within none =
    let never = climbs-top n es root at in grind (arith, nat_tests)

-- a node with a record isn't the root
pub isn't-root : (es : Entries) (at : ℕ) (r : Record) → lookup (nat_eq root) es ≡ None
    → Some r ≡ lookup (nat_eq at) es → at ≡ root → ⊥
isn't-root es at r none is same =
    let here : lookup (nat_eq root) es ≡ Some r = rw (← same) (sym is) in
    cc

-- the walk goes on from the folder that the node is in
pub reaches-on : (n : ℕ) (es : Entries) (at : ℕ) (r : Record) → lookup (nat_eq root) es ≡ None
    → Some r ≡ lookup (nat_eq at) es → climbs (suc n) (dir_of es) root at ≡ true
    → climbs n (dir_of es) root r.dir ≡ true
reaches-on n es at r none is within =
    sym (climbs-on n es root at r (isn't-root es at r none is) is) ∙ within

-- a name more leads from the folder above
pub Leads-up : (es : Entries) (at from : ℕ) (r : Record) (names : List (List ℕ)) → Rises es
    → CanClimb es from → Some r ≡ lookup (nat_eq at) es → Leads es at (reverse names) from
    → Leads es r.dir (reverse (names ++ r.name ∷ [])) from
Leads-up es at from r names rise can is leads =
    rw (reverse-append names (r.name ∷ []))
    (at, uniq es at r (node_in es r.dir r.name) rise can.apart (sym is) refl, leads)
