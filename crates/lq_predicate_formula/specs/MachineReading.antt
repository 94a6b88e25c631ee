-- What the machine makes of a text and its tokens, for the law `machine_reads` and the contracts
-- of private functions of lq_predicate. By that law it is a reading of the text, which has just one
-- (`HasOneReading` of `specs/Faults`).
use Rattle.std.specs.Prelude.{ℕ, ◌+◌, ◌&&◌, nat_le, if◌then◌else◌, List, [], ◌∷◌, length, Option, None, Some, Result, Ok, Err}
use Rattle.lq_predicate_formula.specs.Tokens.{Token, word, cut, Placed}
use Rattle.lq_predicate_formula.specs.Query.{Query}
use Rattle.lq_predicate_formula.specs.Grammar.{nesting}
use Rattle.lq_predicate_formula.specs.Literals.{literal_fault}
use Rattle.lq_predicate_formula.specs.Canonical.{canonical, depth}
use Rattle.lq_predicate_formula.specs.Machine.{Expected, after_op, MachineState, start, step_token, finished_query}
use Rattle.lq_predicate_formula.specs.Faults.{most_bytes, most_comparisons, most_depth}

-- ---- the offset of the fault of a refused token

-- the offset in a word of its pattern's fault, if the word is a literal that is read as a pattern
abbrev pub pattern_fault_of_word : Expected → List ℕ → Option ℕ
pattern_fault_of_word (after_op a o) raw = literal_fault o raw
pattern_fault_of_word p raw = None

-- the same for a token
abbrev pub pattern_fault : Expected → Token → Option ℕ
pattern_fault p (word raw) = pattern_fault_of_word p raw
pattern_fault p t = None

-- the offset of a token's fault outside a pattern: a cut text has it at its end
abbrev pub offset_or_end : ℕ → ℕ → Token → ℕ
offset_or_end end offset cut = end
offset_or_end end offset t = offset

-- the offset of the fault of a token of this kind, which may be in its pattern
abbrev pub offset_at : ℕ → Placed → Token → Option ℕ → ℕ
offset_at end t kind None = offset_or_end end t.offset kind
offset_at end t kind (Some k) = t.raw_offset + k

-- the offset of the fault of a refused token
abbrev pub fault_offset : ℕ → Expected → Placed → ℕ
fault_offset end p t = offset_at end t t.token (pattern_fault p t.token)

-- ---- the reading

-- the number of words in a token: each comparison has two, an attribute and a literal
abbrev pub word_count : Token → ℕ
word_count (word raw) = 1
word_count t = 0

-- the state after a token and this many words, and the reading from there on
abbrev pub after_token : ℕ → Placed → Option MachineState → ℕ → (MachineState → Result Query ℕ)
    → Result Query ℕ
after_token fault t None count others = Err fault
after_token fault t (Some s) count others =
    if nat_le count (most_comparisons + most_comparisons) then others s else Err t.offset

-- the query, if the formula is whole and within the limits
abbrev pub finished : ℕ → Option Query → Result Query ℕ
finished end None = Err end
finished end (Some q) =
    if nat_le (depth q) most_depth && nat_le (length (canonical q)) most_bytes
    then Ok q
    else Err end

-- the reading of the tokens from a state on, after this many words, where the text ends at `end`
unfoldable pub read_tokens : ℕ → MachineState → ℕ → List Placed → Result Query ℕ
read_tokens end s count [] = finished end (finished_query s)
read_tokens end s count (t ∷ ts) =
    after_token (fault_offset end s.expected t) t (step_token s t.token)
    (count + word_count t.token) (λ s'. read_tokens end s' (count + word_count t.token) ts)

-- the reading of a text with these tokens
abbrev pub machine_reading : List ℕ → List Placed → Result Query ℕ
machine_reading text ts =
    if nat_le (length text) most_bytes
    then read_tokens (length text) (start nesting) 0 ts
    else Err most_bytes
