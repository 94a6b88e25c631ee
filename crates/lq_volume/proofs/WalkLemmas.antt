-- Walks up: one step of a walk that reaches the root, from a node and from its folder.
use Rattle.std.proofs.Common.{◌≡◌, ℕ, zero, suc, ◌≤◌, refl, sym, arith, ap, ◌∙◌, subst, Bool, true, false, length}
use Rattle.std.specs.Prelude.{nat_eq, Some, None}
use Rattle.std.specs.Map.{lookup}
use Rattle.std.specs.Option.{option_map}
use Rattle.std.proofs.lemmas.Bool.Decides.{nat_tests}
use Rattle.lq_volume_entries.specs.Laws.{RecordsAreKept}
use Rattle.lq_volume.specs.State.{Record, root, dir_of, climbs}
use Rattle.lq_volume.specs.Walk.{Climb}
use Rattle.lq_volume.proofs.RecordLemmas.{Entries}
use Rattle.lq_volume.proofs.Climbs.{climbs-sound, climbs-complete, Climb-short}

-- the bounded walk from a node finds the root just where the one from its folder does
pub climbs-step : RecordsAreKept → (es : Entries) (at : ℕ) (r : Record)
    → lookup (nat_eq root) es ≡ None → (at ≡ root → ⊥) → lookup (nat_eq at) es ≡ Some r
    → climbs (length es) (dir_of es) root at ≡ climbs (length es) (dir_of es) root r.dir
climbs-step laws es at r none off is =
    by (climbs (length es) (dir_of es) root at) (climbs (length es) (dir_of es) root r.dir)
    refl refl
  where
    up : dir_of es at ≡ Some r.dir
    up = ap (option_map (λ (v : Record). v.dir)) is

    top : dir_of es root ≡ None
    top = ap (option_map (λ (v : Record). v.dir)) none

    down : (k : ℕ) → k ≤ length es → Climb (dir_of es) root k at
        → climbs (length es) (dir_of es) root r.dir ≡ true
    down zero le c = absurd (off c)
    down (suc k) le c =
        let e = c.1 in
        let same : c.0 ≡ r.dir = cc in
        climbs-complete (length es) k (dir_of es) root r.dir (omega arith)
        (subst (λ (n : ℕ). Climb (dir_of es) root k n) same c.2)

    by : (a b : Bool) → climbs (length es) (dir_of es) root at ≡ a
        → climbs (length es) (dir_of es) root r.dir ≡ b
        → climbs (length es) (dir_of es) root at ≡ climbs (length es) (dir_of es) root r.dir
    by true b one two =
        let c = climbs-sound (length es) (dir_of es) root at one in
        one ∙ sym (down c.0 c.1 c.2)
    by false false one two = one ∙ sym two
    by false true one two =
        let c = climbs-sound (length es) (dir_of es) root r.dir two in
        let walk : Climb (dir_of es) root (suc c.0) at = (r.dir, up, c.2) in
        let hit = climbs-complete (length es) (suc c.0) (dir_of es) root at
        (Climb-short laws (suc c.0) es root at top walk) walk in
        hit ∙ sym two

-- a bounded walk goes on from the folder that the node is in
pub climbs-on : (n : ℕ) (es : Entries) (to at : ℕ) (r : Record) → (at ≡ to → ⊥)
    → lookup (nat_eq at) es ≡ Some r
    → climbs (suc n) (dir_of es) to at ≡ climbs n (dir_of es) to r.dir
climbs-on n es to at r off is = grind (arith, nat_tests)

-- where a walk from a record's node finds the root, the one from its folder does
pub climbs-record : RecordsAreKept → (es : Entries) (e : ℕ × Record)
    → lookup (nat_eq root) es ≡ None → lookup (nat_eq e.0) es ≡ Some e.1
    → climbs (length es) (dir_of es) root e.0 ≡ climbs (length es) (dir_of es) root e.1.dir
climbs-record laws es e none is = climbs-step laws es e.0 e.1 none
    (λ same. let top : lookup (nat_eq root) es ≡ Some e.1 = rw (← same) is in let no : ⊥ = cc in no)
    is
