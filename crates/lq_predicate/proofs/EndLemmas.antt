-- Tokens that no place allows, and whether a formula may end.
use Rattle.std.proofs.Common.{◌≡◌, ℕ, List, [], ◌∷◌, length, map, reverse, true, false, ◌==◌, Some, None, refl, sym, ap, ◌∙◌, arith}
use Rattle.std.proofs.lemmas.Bool.Decides.{nat_tests}
use Rattle.std.proofs.lemmas.List.{length-reverse}
use Rattle.lq_value.specs.declared.op.Op.{Op}
use Rattle.lq_predicate_formula.specs.Machine.{Frame, Expected, operand, after_attr, after_op, after_operand, MachineState, step_at, said_by, whole_at}
use Rattle.lq_predicate_formula.specs.MachineReading.{pattern_fault}
use Rattle.lq_predicate_formula.specs.Query.{Query}
use Rattle.lq_predicate_formula.specs.TokenView.{token_of}
use Rattle.lq_predicate_formula.specs.declared.token.Token.{Token}
use Rattle.lq_predicate_formula.specs.declared.token.Token.TheVariants.{Opens, Closes, Bang, Ands, Ors, Is, Word}
use Rattle.lq_predicate.specs.Building.{built_expected, built_frame}
use Rattle.lq_predicate.specs.declared.machine.Expected.{Expected as Expects}
use Rattle.lq_predicate.specs.declared.machine.Expected.TheVariants as expects
use Rattle.lq_predicate.specs.declared.machine.Frame.{Frame as Built}

-- the token isn't allowed here, and has no fault of a pattern
abbrev IsBarred : Expected → MachineState → Token → Type 0
IsBarred p s t = (step_at p s (token_of t) ≡ None) × (pattern_fault p (token_of t) ≡ None)

-- after a name there is an operator
attr_bars : (a : List ℕ) (s : MachineState) (t : Token) → ((o : Op) → t ≡ Is o → ⊥)
    → IsBarred (after_attr a) s t
attr_bars a s (Is o) bars = absurd (bars o refl)
attr_bars a s t bars = (refl, refl)

-- after an operator there is a word
op_bars : (a : List ℕ) (o : Op) (s : MachineState) (t : Token) → ((w : _) → t ≡ Word w → ⊥)
    → IsBarred (after_op a o) s t
op_bars a o s (Word raw) bars = absurd (bars raw refl)
op_bars a o s t bars = (refl, refl)

-- an operand begins with a word, `(` or `!`
pub start_bars : (s : MachineState) (t : Token) → ((w : _) → t ≡ Word w → ⊥)
    → (t ≡ Opens → ⊥) → (t ≡ Bang → ⊥) → IsBarred operand s t
start_bars s Opens bars opens bang = absurd (opens refl)
start_bars s Bang bars opens bang = absurd (bang refl)
start_bars s (Word raw) bars opens bang = absurd (bars raw refl)
start_bars s t bars opens bang = (refl, refl)

-- after an operand there is `&&`, `||` or `)`
pub end_bars : (s : MachineState) (t : Token) → (t ≡ Ands → ⊥) → (t ≡ Ors → ⊥)
    → (t ≡ Closes → ⊥) → IsBarred after_operand s t
end_bars s Closes ands ors close = absurd (close refl)
end_bars s Ands ands ors close = absurd (ands refl)
end_bars s Ors ands ors close = absurd (ors refl)
end_bars s t ands ors close = (refl, refl)

module _ {N : Type 0} (named : List ℕ → N) where
  -- no token but an operator after a name
  pub not_op : (p : Expected) (s : MachineState) (n : N) (t : Token)
      → ((o : Op) → t ≡ Is o → ⊥) → expects.AfterAttr n ≡ built_expected named p → IsBarred p s t
  not_op (after_attr a) s n t bars e = attr_bars a s t bars
  not_op p s n t bars e = absurd (let bars : ⊥ = cc in bars)

  -- no token but a word after an operator
  pub not_word : (p : Expected) (s : MachineState) (n : N) (o : Op) (t : Token)
      → ((w : _) → t ≡ Word w → ⊥) → expects.AfterOp n o ≡ built_expected named p
      → IsBarred p s t
  not_word (after_op a q) s n o t bars e = op_bars a q s t bars
  not_word p s n o t bars e = absurd (let bars : ⊥ = cc in bars)

  -- an operand is expected where the code expects one
  pub operand_is : (p : Expected) → expects.Operand ≡ built_expected named p → operand ≡ p
  operand_is operand e = refl
  operand_is p e = absurd (let no : ⊥ = cc in no)

  -- an operand is complete where the code says so
  pub complete_is : (p : Expected) → expects.AfterOperand ≡ built_expected named p
      → after_operand ≡ p
  complete_is after_operand e = refl
  complete_is p e = absurd (let no : ⊥ = cc in no)

  -- a formula ends only after an operand
  pub unfinished : (p : Expected) (e : Expects N) (fs : List Frame) (f : Frame)
      → (e ≡ expects.AfterOperand → ⊥) → e ≡ built_expected named p → whole_at p fs f ≡ None
  unfinished after_operand e fs f bars is = absurd (bars is)
  unfinished p e fs f bars is = refl

-- what the test for 0 says
is_zero : (n : ℕ) → (n == 0) ≡ true → n ≡ 0
is_zero n is = grind (arith, nat_tests)

module _ {P : Type 0} (parts : List Query → P) where
  -- how many frames there are
  count : (bs : List (Built P)) (fs : List Frame) → reverse bs ≡ map (built_frame parts) fs
      → length bs ≡ length (map (built_frame parts) fs)
  count bs fs e = sym (length-reverse bs) ∙ ap length e

  -- where a frame is below, no formula ends
  pub nested : (p : Expected) (bs : List (Built P)) (fs : List Frame) (f : Frame)
      → reverse bs ≡ map (built_frame parts) fs → (length bs == 0) ≡ false
      → whole_at p fs f ≡ None
  nested after_operand bs [] f e some =
      let test : true ≡ false = sym (ap (λ k. k == 0) (count bs [] e)) ∙ some in
      absurd (let no : ⊥ = cc in no)
  nested p bs fs f e some = refl

  -- where none is, the whole formula is that of the frame
  pub outermost : (bs : List (Built P)) (fs : List Frame) (f : Frame)
      → reverse bs ≡ map (built_frame parts) fs → (length bs == 0) ≡ true
      → whole_at after_operand fs f ≡ Some (said_by f)
  outermost bs [] f e none = refl
  outermost bs (g ∷ fs) f e none =
      let here = is_zero (length bs) none in absurd (omega (arith, here, count bs (g ∷ fs) e))
