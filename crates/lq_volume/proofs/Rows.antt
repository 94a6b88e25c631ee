-- A move: its table of refusals, where the first rows have been tried, and the other node.
use Rattle.std.proofs.Common.{◌≡◌, ℕ, Bool, true, false, List, [], ◌∷◌, ◌++◌, ◌∙◌, ap, refl, subst, sym}
use Rattle.std.specs.Prelude.{◌==◌, ◌&&◌, not, Option, Some, None, is_none}
use Rattle.std.specs.Bool.{beq}
use Rattle.std.specs.Option.{option_map_or}
use Rattle.lq_value.specs.declared.kind.Kind.{Kind}
use Rattle.lq_value.specs.declared.refusal.Refusal.{Refusal}
use Rattle.lq_value.specs.declared.refusal.Refusal.TheVariants.{NoNode, NotFolder, Reserved, WouldLoop, Exists, KindClash, NotEmpty}
use Rattle.lq_value.specs.Refusal.{first_refusal}
use Rattle.lq_volume_entries.specs.Kind.{is_folder}
use Rattle.lq_volume.specs.State.{State, root, kind_at, is_folder_at, has_entries, reaches}
use Rattle.lq_volume.specs.Change.{differ, is_file_at, is_other, move_refusals, other_at}

-- two rows that refuse nothing leave it to the others
two-pass : (a b : Bool) (x y : Refusal) (rows : List (Bool × Refusal)) (o : Option Refusal)
    → first_refusal ((a, x) ∷ (b, y) ∷ []) ≡ None → first_refusal rows ≡ o
    → first_refusal ((a, x) ∷ (b, y) ∷ rows) ≡ o
two-pass true b x y rows o h k = cc
two-pass false true x y rows o h k = cc
two-pass false false x y rows o h k = k

-- whether two kinds differ, by two tests
differ-tests : (a b : Bool) → differ a b ≡ not (beq a b)
differ-tests true true = refl
differ-tests true false = refl
differ-tests false true = refl
differ-tests false false = refl

-- whether the kinds of two nodes differ
pub kinds-differ : (s : State) (x node : ℕ) (j k : Kind) (a b is : Bool) → kind_at s x ≡ Some j
    → kind_at s node ≡ Some k → a ≡ is_folder j → b ≡ is_folder k → not (beq a b) ≡ is
    → differ (is_folder_at s x) (is_folder_at s node) ≡ is
kinds-differ s x node j k a b is at_x at_node one two test =
    let p : is_folder_at s x ≡ a =
    ap (λ (o : Option Kind). option_map_or is_folder o false) at_x ∙ sym one in
    let q : is_folder_at s node ≡ b =
    ap (λ (o : Option Kind). option_map_or is_folder o false) at_node ∙ sym two in
    ap (λ (v : Bool). differ v (is_folder_at s node)) p
    ∙ (ap (λ (v : Bool). differ a v) q ∙ (differ-tests a b ∙ test))

-- whether a node is a folder with an entry
pub filled-is : (s : State) (x : ℕ) (j : Kind) (a is : Bool) → kind_at s x ≡ Some j
    → a ≡ (is_folder j && has_entries s x) → a ≡ is → (is_folder_at s x && has_entries s x) ≡ is
filled-is s x j a is at_x test value =
    ap (λ (o : Option Kind). option_map_or is_folder o false && has_entries s x) at_x
    ∙ (sym test ∙ value)

-- where the entry and the folder are there, which the first four rows say
module _ (s : State) (node dir : ℕ) (name : List ℕ) (clobber : Bool)
    (entry : first_refusal ((is_none (kind_at s node), NoNode) ∷ (node == root, Reserved) ∷ [])
    ≡ None)
    (folder : first_refusal ((is_none (kind_at s dir), NoNode)
    ∷ (is_file_at s dir, NotFolder) ∷ []) ≡ None) where
  -- the rows after them
  abbrev pub later : Option ℕ → List (Bool × Refusal)
  later other =
      (reaches s dir node, WouldLoop)
      ∷ (is_other other (λ x. not clobber), Exists)
      ∷ (is_other other (λ x. differ (is_folder_at s x) (is_folder_at s node)), KindClash)
      ∷ (is_other other (λ x. is_folder_at s x && has_entries s x), NotEmpty)
      ∷ []

  -- these decide
  pub by-later : (other : Option ℕ) (o : Option Refusal) → other ≡ other_at s node dir name
      → first_refusal (later other) ≡ o
      → first_refusal (move_refusals s node dir name clobber) ≡ o
  by-later other o is h =
      two-pass (is_none (kind_at s node)) (node == root) NoNode Reserved
      ((is_none (kind_at s dir), NoNode) ∷ (is_file_at s dir, NotFolder)
      ∷ later (other_at s node dir name)) o entry
      (two-pass (is_none (kind_at s dir)) (is_file_at s dir) NoNode NotFolder
      (later (other_at s node dir name)) o folder
      (subst (λ (x : Option ℕ). first_refusal (later x) ≡ o) is h))

-- where one of a change's own rows refuses, it decides
pub earlier_decides : (rows more : List (Bool × Refusal)) (e : Refusal)
    → first_refusal rows ≡ Some e → first_refusal (rows ++ more) ≡ Some e
earlier_decides [] more e h = cc
earlier_decides ((true, x) ∷ rows) more e h = h
earlier_decides ((false, x) ∷ rows) more e h = earlier_decides rows more e h
