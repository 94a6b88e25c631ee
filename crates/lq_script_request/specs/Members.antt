-- The parts of a plain line by offsets, as the lexer and the grammar of JSON read them. For private
-- clauses.
use Rattle.std.specs.Prelude.{◌≡◌, ◌⊎◌, ℕ, ◌<◌, ◌≤◌, List, ◌∷◌, Some, true, false, drop, length, slice_index}
use Rattle.json.specs.Json.{value}
use Rattle.json.specs.Lex.{Lexeme, Place, after_value, begins_colon, between, fresh, lex, may_begin, punctuate}
use Rattle.json.specs.Token as spec
use Rattle.json.specs.Token.{Token}
use Rattle.json.specs.Word.{ends_word}
use Rattle.json.specs.Written.{PlainBetween}
use Rattle.serde_json.specs.Data.{Data, Members, object, put}
use Rattle.serde_json.specs.Read.{converted, of_json}
use Rattle.lq_script_request.specs.Shown.{data_in, json_outline}
use Rattle.lq_script_request.specs.Fields.{Show}
use Rattle.lq_script_request.specs.declared.field.Field.{Field}
use Rattle.lq_script_request.specs.declared.fields.Fields.{Fields}

-- the lexemes from an offset on
abbrev pub lexemes : List ℕ → ℕ → List Lexeme
lexemes text at = lex between (drop at text)

-- between the offsets is white space alone
pub record IsPastSpace (text : List ℕ) (from at : ℕ) : Type 0 where
  pub lexed : lexemes text from ≡ lexemes text at
  pub ends : ends_word (drop at text) ≡ true → ends_word (drop from text) ≡ true
  pub after : from ≤ at
  pub within : at ≤ length text

-- the offset of a text's last quote
pub record IsTextEnd (text : List ℕ) (from end : ℕ) : Type 0 where
  pub quote : slice_index text end ≡ 34
  pub plain : PlainBetween text from end
  pub after : from ≤ end
  pub within : end < length text

-- between the offsets is a text in quotes
pub record IsText (text : List ℕ) (from : ℕ) (s : List ℕ) (end : ℕ) : Type 0 where
  pub lexed : lexemes text from ≡ Lexeme.token (spec.string s) ∷ lexemes text end
  pub after : from < end
  pub within : end ≤ length text

-- a token that is a value by itself
pub record IsScalar (t : Token) (d : Data) : Type 0 where
  pub read : (depth : ℕ) (rest : List Token)
      → converted of_json (value depth (t ∷ rest)) ≡ Some (d, rest)
  pub placed : (ls : List Lexeme) → begins_colon ls ≡ false
      → punctuate fresh (Lexeme.token t ∷ ls) ≡ t ∷ punctuate after_value ls

-- between the offsets is a value that a field shows, if a word ends there
pub record IsValue (text : List ℕ) (from : ℕ) (field : Field) (end : ℕ) : Type 0 where
  pub token : Token
  pub datum : Data
  pub reads : IsScalar token datum
  pub shows : data_in field ≡ Some (json_outline datum)
  pub lexed : ends_word (drop end text) ≡ true
      → lexemes text from ≡ Lexeme.token token ∷ lexemes text end
  pub after : from ≤ end
  pub within : end ≤ length text

-- between the offsets is a member, and after it a comma or a brace; the fields have it now
pub record IsMember (text : List ℕ) (from : ℕ) (old new : Fields) (end : ℕ) : Type 0 where
  pub key : List ℕ
  pub token : Token
  pub datum : Data
  pub reads : IsScalar token datum
  pub shows : (ms : Members) → Show old (object ms) → Show new (object (put key datum ms))
  pub placed : (p : Place) → may_begin p ≡ true → punctuate p (lexemes text from)
      ≡ spec.key key ∷ token ∷ punctuate after_value (lexemes text end)
  pub next : (slice_index text end ≡ 44) ⊎ (slice_index text end ≡ 125)
  pub after : from < end
  pub within : end < length text
