-- Reading tokens from the left, with a stack of the formulas that are begun.
use Rattle.std.specs.Prelude.{ℕ, zero, suc, ◌+◌, List, [], ◌∷◌, ◌++◌, Option, Some, None, option_and_then, option_map}
use Rattle.lq_value.specs.declared.op.Op.{Op}
use Rattle.lq_predicate_formula.specs.Tokens.{Token, opens, closes, bang, ands, ors, op, word}
use Rattle.lq_predicate_formula.specs.Literals.{name_of, literal_of}
use Rattle.lq_predicate_formula.specs.Query.{Query, Compare, Not, both_of, either_of}

-- a formula that is begun: the parts of its `or` that are done, those of its last `and`, and the
-- `!` that wait
pub record Frame : Type 0 where
  pub or_parts : List Query
  pub and_parts : List Query
  pub bangs : ℕ

pub data Expected : Type 0 where
  operand : Expected
  after_attr : List ℕ → Expected
  after_op : List ℕ → Op → Expected
  after_operand : Expected

pub record MachineState : Type 0 where
  pub below : List Frame
  pub top : Frame
  pub expected : Expected
  pub room : ℕ

abbrev pub empty_frame : Frame
empty_frame = record { or_parts = []; and_parts = []; bangs = 0 }

abbrev pub start : ℕ → MachineState
start n = record { below = []; top = empty_frame; expected = operand; room = n }

abbrev pub negate : ℕ → Query → Query
negate zero q = q
negate (suc n) q = negate n (Not q)

-- the frame after the operand that it expected
abbrev pub frame_with : Query → Frame → Frame
frame_with q f = record f { and_parts = f.and_parts ++ negate f.bangs q ∷ []; bangs = 0 }

abbrev pub completed : Query → List Frame → Frame → ℕ → MachineState
completed q below f room =
    record { below = below; top = frame_with q f; expected = after_operand; room = room + f.bangs }

-- the query of a frame, once it is whole
abbrev pub said_by : Frame → Query
said_by f = either_of (f.or_parts ++ both_of f.and_parts ∷ [])

-- one more `!` or parenthesis, if there is room
abbrev pub deeper : ℕ → (ℕ → MachineState) → Option MachineState
deeper zero s = None
deeper (suc n) s = Some (s n)

abbrev pub close : List Frame → Frame → ℕ → Option MachineState
close [] f room = None
close (g ∷ gs) f room = Some (completed (said_by f) gs g (suc room))

abbrev pub at_operand : MachineState → Token → Option MachineState
at_operand s opens = deeper s.room
    (λ n. record { below = s.top ∷ s.below; top = empty_frame; expected = operand; room = n })
at_operand s bang = deeper s.room (λ n. record {
  below = s.below;
  top = record s.top { bangs = suc s.top.bangs };
  expected = operand;
  room = n;
})
at_operand s (word a) = option_map (λ name. record s { expected = after_attr name }) (name_of a)
at_operand s t = None

abbrev pub at_attr : MachineState → List ℕ → Token → Option MachineState
at_attr s a (op o) = Some (record s { expected = after_op a o })
at_attr s a t = None

abbrev pub at_op : MachineState → List ℕ → Op → Token → Option MachineState
at_op s a o (word l) =
    option_map (λ literal. completed (Compare a o literal) s.below s.top s.room) (literal_of o l)
at_op s a o t = None

abbrev pub at_end : MachineState → Token → Option MachineState
at_end s ands = Some (record s { top = record s.top { bangs = 0 }; expected = operand })
at_end s ors = Some (record s {
  top = record {
    or_parts = s.top.or_parts ++ both_of s.top.and_parts ∷ [];
    and_parts = [];
    bangs = 0;
  };
  expected = operand;
})
at_end s closes = close s.below s.top s.room
at_end s t = None

abbrev pub step_at : Expected → MachineState → Token → Option MachineState
step_at operand s t = at_operand s t
step_at (after_attr a) s t = at_attr s a t
step_at (after_op a o) s t = at_op s a o t
step_at after_operand s t = at_end s t

-- None where the token isn't allowed here, or would nest too deep
abbrev pub step_token : MachineState → Token → Option MachineState
step_token s t = step_at s.expected s t

abbrev pub whole_at : Expected → List Frame → Frame → Option Query
whole_at after_operand [] f = Some (said_by f)
whole_at p below f = None

-- the query, if the formula may end here
abbrev pub finished_query : MachineState → Option Query
finished_query s = whole_at s.expected s.below s.top

abbrev pub run_tokens : MachineState → List Token → Option Query
run_tokens s [] = finished_query s
run_tokens s (t ∷ ts) = option_and_then (λ s'. run_tokens s' ts) (step_token s t)

-- the state after the tokens
abbrev pub steps : MachineState → List Token → Option MachineState
steps s [] = Some s
steps s (t ∷ ts) = option_and_then (λ s'. steps s' ts) (step_token s t)

-- the depth of the frames below, with the `!` that wait in them
abbrev pub open_weight : List Frame → ℕ
open_weight [] = 0
open_weight (f ∷ fs) = suc f.bangs + open_weight fs

-- the nesting so far plus the room that remains, which no step increases
abbrev pub weight : MachineState → ℕ
weight s = s.room + (s.top.bangs + open_weight s.below)
