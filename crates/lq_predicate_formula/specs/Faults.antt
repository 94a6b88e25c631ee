-- What a text reads as by the grammar and the limits, and its faults with their offsets.
use Rattle.std.specs.Prelude.{◌≡◌, ◌+◌, ◌<◌, ◌≤◌, ◌⊎◌, ℕ, List, [], ◌∷◌, ◌++◌, length, map, None, Some, Result, Ok, Err}
use Rattle.lq_value.specs.declared.op.Op.{Op}
use Rattle.lq_value.specs.declared.op.Op.TheVariants.{Eq}
use Rattle.lq_predicate_formula.specs.Tokens.{Token, opens, bang, op, word, lone, cut, Placed, HasTokens, bare}
use Rattle.lq_predicate_formula.specs.Query.{Query}
use Rattle.lq_predicate_formula.specs.Grammar.{IsFormula, nesting, IsBegun}
use Rattle.lq_predicate_formula.specs.Literals.{literal_fault, name_of}
use Rattle.lq_predicate_formula.specs.Canonical.{canonical, comparisons, depth}

-- the most bytes of a formula, and of the canonical text of its query
abbrev pub most_bytes : ℕ
most_bytes = 4096

abbrev pub most_comparisons : ℕ
most_comparisons = 256

abbrev pub most_depth : ℕ
most_depth = 64

-- The text is a formula for the query, within the limits.
pub record Reads (text : List ℕ) (q : Query) : Type 0 where
  pub short : length text ≤ most_bytes
  pub tokens : List Placed
  pub has : HasTokens 0 text tokens
  pub formula : IsFormula nesting (bare tokens) q
  pub few : comparisons q ≤ most_comparisons
  pub shallow : depth q ≤ most_depth
  pub brief : length (canonical q) ≤ most_bytes

-- ---- what the grammar alone allows

-- the kind of a token, without the text of a word
abbrev pub kind_of : Token → Token
kind_of (word raw) = word []
kind_of t = t

-- By the grammar alone, whatever the words are and however deep it nests, some formula begins with
-- tokens of these kinds.
pub record CanStand (ts : List Token) : Type 0 where
  pub words : List Token
  pub alike : map kind_of words ≡ map kind_of ts
  pub deep : ℕ
  pub rest : List Token
  pub q : Query
  pub formula : IsFormula deep (words ++ rest) q

-- A word after these tokens names an attribute: an operator can follow it.
abbrev pub AwaitsAttr : List Token → Type 0
AwaitsAttr before = CanStand (before ++ word [] ∷ op Eq ∷ [])

-- Some formula that may nest deeper begins with these tokens, but none within the limit does.
abbrev pub IsTooDeep : List Token → Type 0
IsTooDeep ts =
    ((more : ℕ) × (rest : List Token) × (q : Query) × IsFormula (nesting + more) (ts ++ rest) q)
    × (IsBegun ts → ⊥)

-- the number of operators: each comparison has one
abbrev pub op_count : Token → ℕ
op_count (op o) = 1
op_count t = 0

abbrev pub operators : List Token → ℕ
operators [] = 0
operators (t ∷ ts) = op_count t + operators ts

-- ---- the faults

-- The token after these is at fault, and this is the offset of the fault.
pub data IsFaultOf (end : ℕ) (before : List Token) (here : Placed) (offset : ℕ) : Type 0 where
  -- a token that isn't allowed here
  stray : (CanStand (before ++ here.token ∷ []) → ⊥) → (here.token ≡ cut → ⊥) → offset ≡ here.offset
      → IsFaultOf end before here offset
  -- the text ends inside a quoted text, or with `\`
  cut_off : here.token ≡ cut → offset ≡ end → IsFaultOf end before here offset
  -- `&` or `|` alone
  alone : here.token ≡ lone → offset ≡ here.offset → IsFaultOf end before here offset
  -- a `(` or `!` that would nest 65 deep
  too_deep : (here.token ≡ opens) ⊎ (here.token ≡ bang)
      → IsTooDeep (before ++ here.token ∷ []) → offset ≡ here.offset
      → IsFaultOf end before here offset
  -- an attribute's name that is empty, has over 255 bytes or contains NUL
  bad_name : (raw : List ℕ) → here.token ≡ word raw → AwaitsAttr before → name_of raw ≡ None
      → offset ≡ here.offset → IsFaultOf end before here offset
  -- the attribute of a comparison after 256 others
  one_more : (raw : List ℕ) → here.token ≡ word raw → AwaitsAttr before
      → operators before ≡ most_comparisons → offset ≡ here.offset
      → IsFaultOf end before here offset
  -- a fault of the pattern after its operator
  bad_pattern : (front : List Token) (o : Op) (raw : List ℕ) (k : ℕ) → before ≡ front ++ op o ∷ []
      → here.token ≡ word raw → literal_fault o raw ≡ Some k → offset ≡ here.raw_offset + k
      → IsFaultOf end before here offset

-- None of the tokens is at fault.
abbrev pub AreFine : ℕ → List Placed → Type 0
AreFine end ts = (before : List Placed) (here : Placed) (after : List Placed) (offset : ℕ)
    → ts ≡ before ++ here ∷ after → IsFaultOf end (bare before) here offset → ⊥

-- The leftmost fault of the text is at this offset.
pub data IsFaulty (text : List ℕ) (offset : ℕ) : Type 0 where
  -- the text has more than 4,096 bytes
  too_long : most_bytes < length text → offset ≡ most_bytes → IsFaulty text offset
  -- a token is at fault, and none before it is
  at_token : length text ≤ most_bytes → (before : List Placed) (here : Placed) (after : List Placed)
      → HasTokens 0 text (before ++ here ∷ after) → AreFine (length text) before
      → IsFaultOf (length text) (bare before) here offset → IsFaulty text offset
  -- the formula ends too early
  ends_early : length text ≤ most_bytes → (all : List Placed) → HasTokens 0 text all
      → AreFine (length text) all → ((q : Query) → IsFormula nesting (bare all) q → ⊥)
      → offset ≡ length text → IsFaulty text offset
  -- the query is too deep, or its canonical text too long
  too_much : length text ≤ most_bytes → (all : List Placed) → HasTokens 0 text all
      → AreFine (length text) all → (q : Query) → IsFormula nesting (bare all) q
      → (most_depth < depth q) ⊎ (most_bytes < length (canonical q)) → offset ≡ length text
      → IsFaulty text offset

-- ---- the reading

-- The text reads as the query, or its leftmost fault is at the offset.
abbrev pub IsReading : List ℕ → Result Query ℕ → Type 0
IsReading text (Ok q) = Reads text q
IsReading text (Err offset) = IsFaulty text offset

-- The text has this reading, and no other: it reads as just one query and isn't faulty, or it has
-- its leftmost fault at just one offset and reads as no query.
pub record HasOneReading (text : List ℕ) (reading : Result Query ℕ) : Type 0 where
  pub is : IsReading text reading
  pub only : (other : Result Query ℕ) → IsReading text other → other ≡ reading
