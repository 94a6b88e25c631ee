-- The tokens of a text, each with its offset: some split of the text into white space and tokens.
use Rattle.std.specs.Prelude.{◌≡◌, ◌⊎◌, ℕ, ◌+◌, ◌==◌, Bool, true, false, List, [], ◌∷◌, ◌++◌, length, map, codes}
use Rattle.std.specs.List.{list_all}
use Rattle.lq_value.specs.declared.op.Op.{Op}
use Rattle.lq_value.specs.declared.op.Op.TheVariants.{Eq, Ne, Lt, Le, Gt, Ge}
use Rattle.lq_predicate_formula.specs.Bytes.{is_space, ends_word}

pub data Token : Type 0 where
  opens : Token
  closes : Token
  bang : Token
  ands : Token
  ors : Token
  op : Op → Token
  -- the raw text of a word or of a quoted text
  word : List ℕ → Token
  -- `&` or `|` alone
  lone : Token
  -- a quoted text without its end, or a `\` with nothing after it
  cut : Token

-- a token with the offsets of its first byte and of its raw text
pub record Placed : Type 0 where
  pub offset : ℕ
  pub raw_offset : ℕ
  pub token : Token

-- the tokens without their offsets
abbrev pub bare : List Placed → List Token
bare ps = map (λ p. p.token) ps

-- ---- signs

-- a byte by itself, or a `\` and the byte after it
pub data Sign : Type 0 where
  plain : ℕ → Sign
  escaped : ℕ → Sign

abbrev pub sign_bytes : List Sign → List ℕ
sign_bytes [] = []
sign_bytes (plain b ∷ ss) = b ∷ sign_bytes ss
sign_bytes (escaped b ∷ ss) = 92 ∷ b ∷ sign_bytes ss

-- a byte by itself is no `\`, and not one that ends the text
abbrev pub StaysInText : (ℕ → Bool) → Sign → Type 0
StaysInText ends (plain b) = ((b == 92) ≡ false) × (ends b ≡ false)
StaysInText ends (escaped b) = Unit {0}

abbrev pub AllGoOn : (ℕ → Bool) → List Sign → Type 0
AllGoOn ends [] = Unit {0}
AllGoOn ends (s ∷ ss) = StaysInText ends s × AllGoOn ends ss

-- the bytes are signs, none of which ends the text
abbrev pub AreSigns : (ℕ → Bool) → List ℕ → Type 0
AreSigns ends bytes = (ss : List Sign) × (bytes ≡ sign_bytes ss) × AllGoOn ends ss

-- ---- words and quoted texts

-- Nothing follows a word, or a byte that ends words, or a `\` with nothing after it.
abbrev pub IsAfterWord : List ℕ → Type 0
IsAfterWord rest = (rest ≡ []) ⊎ ((rest ≡ 92 ∷ [])
    ⊎ ((b : ℕ) × (bs : List ℕ) × (rest ≡ b ∷ bs) × (ends_word b ≡ true)))

-- some signs none of which ends a word, and the next one does or there is none
abbrev pub IsWord : List ℕ → List ℕ → Type 0
IsWord raw rest = AreSigns ends_word raw × (raw ≡ [] → ⊥) × IsAfterWord rest

-- `"` or `'`
abbrev pub IsQuote : ℕ → Type 0
IsQuote mark = (mark ≡ 34) ⊎ (mark ≡ 39)

-- signs none of which is the mark by itself
abbrev pub AreWithout : ℕ → List ℕ → Type 0
AreWithout mark bytes = AreSigns (λ b. b == mark) bytes

-- a mark, the raw text without it, the same mark
abbrev pub IsQuoted : List ℕ → List ℕ → Type 0
IsQuoted raw part =
    (mark : ℕ) × IsQuote mark × AreWithout mark raw × (part ≡ mark ∷ (raw ++ mark ∷ []))

-- all of it are signs none of which is the mark by itself, and perhaps a `\` with nothing after it
abbrev pub HasNoEnd : ℕ → List ℕ → Type 0
HasNoEnd mark bytes =
    (raw : List ℕ) × AreWithout mark raw × ((bytes ≡ raw) ⊎ (bytes ≡ raw ++ 92 ∷ []))

-- a mark, and a text that it doesn't end
abbrev pub IsUnclosed : List ℕ → Type 0
IsUnclosed part =
    (mark : ℕ) × (bytes : List ℕ) × IsQuote mark × HasNoEnd mark bytes × (part ≡ mark ∷ bytes)

-- ---- tokens

-- the rest doesn't begin with this byte
abbrev pub IsNotNext : ℕ → List ℕ → Type 0
IsNotNext b rest = (bs : List ℕ) → rest ≡ b ∷ bs → ⊥

-- the part is the operator, and no longer one
abbrev pub IsOp : Op → List ℕ → List ℕ → Type 0
IsOp Eq part rest = (part ≡ codes "==") ⊎ ((part ≡ codes "=") × IsNotNext 61 rest)
IsOp Ne part rest = part ≡ codes "!="
IsOp Lt part rest = (part ≡ codes "<") × IsNotNext 61 rest
IsOp Le part rest = part ≡ codes "<="
IsOp Gt part rest = (part ≡ codes ">") × IsNotNext 61 rest
IsOp Ge part rest = part ≡ codes ">="

-- The part of a text is the token, which is no quoted text, and the rest follows it. Of two tokens
-- the longer one stands.
abbrev pub IsUnquoted : Token → List ℕ → List ℕ → Type 0
IsUnquoted opens part rest = part ≡ codes "("
IsUnquoted closes part rest = part ≡ codes ")"
IsUnquoted bang part rest = (part ≡ codes "!") × IsNotNext 61 rest
IsUnquoted ands part rest = part ≡ codes "&&"
IsUnquoted ors part rest = part ≡ codes "||"
IsUnquoted (op o) part rest = IsOp o part rest
IsUnquoted (word raw) part rest = (part ≡ raw) × IsWord raw rest
IsUnquoted lone part rest =
    ((part ≡ codes "&") × IsNotNext 38 rest) ⊎ ((part ≡ codes "|") × IsNotNext 124 rest)
IsUnquoted cut part rest = (rest ≡ []) × ((part ≡ 92 ∷ []) ⊎ IsUnclosed part)

-- The part of a text is the token, and the rest follows it. The raw text of a quoted text begins
-- inside it, after the mark.
abbrev pub IsToken : Token → ℕ → List ℕ → List ℕ → Type 0
IsToken t inside part rest = ((inside ≡ 0) × IsUnquoted t part rest)
    ⊎ ((inside ≡ 1) × ((raw : List ℕ) × (t ≡ word raw) × IsQuoted raw part))

-- the part of a text at an offset is the token with its offsets, and the rest follows it
pub record IsTokenAt (at : ℕ) (part rest : List ℕ) (t : Placed) : Type 0 where
  pub offset : t.offset ≡ at
  pub inside : ℕ
  pub raw : t.raw_offset ≡ at + inside
  pub token : IsToken t.token inside part rest

-- ---- the tokens of a text

-- white space alone, or nothing
abbrev pub IsBlank : List ℕ → Type 0
IsBlank bs = list_all is_space bs ≡ true

-- The text from an offset on begins, after white space, with the token; the rest is at the next
-- offset.
pub record Yields (at : ℕ) (bs : List ℕ) (t : Placed) (next : ℕ) (rest : List ℕ) : Type 0 where
  pub blank : List ℕ
  pub part : List ℕ
  pub split : bs ≡ blank ++ (part ++ rest)
  pub white : IsBlank blank
  pub token : IsTokenAt (at + length blank) part rest t
  pub is_next : next ≡ (at + length blank) + length part

-- The text from an offset on has these tokens.
abbrev pub HasTokens : ℕ → List ℕ → List Placed → Type 0
HasTokens at bs [] = IsBlank bs
HasTokens at bs (t ∷ ts) =
    (next : ℕ) × (rest : List ℕ) × Yields at bs t next rest × HasTokens next rest ts

-- The text from an offset on has these tokens, and no others.
pub record HasOneTokenList (at : ℕ) (bs : List ℕ) : Type 0 where
  pub tokens : List Placed
  pub has : HasTokens at bs tokens
  pub only : (others : List Placed) → HasTokens at bs others → others ≡ tokens
