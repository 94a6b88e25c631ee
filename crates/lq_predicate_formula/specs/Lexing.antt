-- The tokens of a text as the lexer finds them, for `specs/Reading` and the contracts of private
-- functions. They are those that `specs/Tokens` allows, as the contract of `next_token` says.
use Rattle.std.specs.Prelude.{◌≡◌, ℕ, zero, suc, ◌+◌, ◌<◌, ◌==◌, ◌||◌, if◌then◌else◌, Bool, true, false, List, [], ◌∷◌, length, take, drop, Option, Some, None, option_map}
use Rattle.lq_value.specs.declared.op.Op.TheVariants.{Eq, Ne, Lt, Le, Gt, Ge}
use Rattle.lq_predicate_formula.specs.Bytes.{is_space, ends_word}
use Rattle.lq_predicate_formula.specs.Tokens.{Token, opens, closes, bang, ands, ors, op, word, lone, cut, Placed}

-- the number of bytes of white space at the start
abbrev pub spaces : List ℕ → ℕ
spaces [] = 0
spaces (b ∷ bs) = if is_space b then suc (spaces bs) else 0

-- The number of bytes of the word at the start; the flag says that a `\` was before them. A `\`
-- with nothing after it isn't counted.
abbrev pub word_bytes : Bool → List ℕ → ℕ
word_bytes false [] = 0
word_bytes true [] = 0
word_bytes false (b ∷ bs) =
    if b == 92 then word_bytes true bs else (if ends_word b then 0 else suc (word_bytes false bs))
word_bytes true (b ∷ bs) = suc (suc (word_bytes false bs))

-- the number of bytes before the mark that ends the quoted text; the flag says that a `\` was
-- before
abbrev pub quoted_bytes : ℕ → Bool → List ℕ → Option ℕ
quoted_bytes mark false [] = None
quoted_bytes mark true [] = None
quoted_bytes mark false (b ∷ bs) =
    if b == 92
    then quoted_bytes mark true bs
    else (if b == mark then Some 0 else option_map (λ n. suc n) (quoted_bytes mark false bs))
quoted_bytes mark true (b ∷ bs) = option_map (λ n. suc (suc n)) (quoted_bytes mark false bs)

-- a token, its length in bytes, and the offset of its raw text
pub record LexedToken : Type 0 where
  pub token : Token
  pub size : ℕ
  pub inside : ℕ

abbrev pub fixed : Token → ℕ → LexedToken
fixed t n = record { token = t; size = n; inside = 0 }

abbrev pub begins_with : ℕ → List ℕ → Bool
begins_with c [] = false
begins_with c (b ∷ bs) = b == c

-- the longer token, if this byte is next
abbrev pub longer : ℕ → List ℕ → Token → Token → LexedToken
longer c bs t u = if begins_with c bs then fixed t 2 else fixed u 1

abbrev pub quoted_front : List ℕ → Option ℕ → LexedToken
quoted_front bs None = fixed cut (suc (length bs))
quoted_front bs (Some n) = record { token = word (take n bs); size = suc (suc n); inside = 1 }

abbrev pub word_front : List ℕ → ℕ → LexedToken
word_front bs n =
    if n == 0
    then fixed cut (length bs)
    else record { token = word (take n bs); size = n; inside = 0 }

-- one of ( ) ! = < > & |
abbrev pub is_symbol : ℕ → Bool
is_symbol b = b == 40 || b == 41 || b == 33 || b == 61 || b == 60 || b == 62 || b == 38 || b == 124

-- the token that begins with the symbol b, with bs after it
abbrev pub symbol_front : ℕ → List ℕ → LexedToken
symbol_front b bs =
    if b == 40 then fixed opens 1
    else (if b == 41 then fixed closes 1
    else (if b == 33 then longer 61 bs (op Ne) bang
    else (if b == 61 then longer 61 bs (op Eq) (op Eq)
    else (if b == 60 then longer 61 bs (op Le) (op Lt)
    else (if b == 62 then longer 61 bs (op Ge) (op Gt)
    else (if b == 38 then longer 38 bs ands lone
    else longer 124 bs ors lone))))))

-- the token that begins with the byte b, with bs after it
abbrev pub front : ℕ → List ℕ → LexedToken
front b bs =
    if is_symbol b then symbol_front b bs
    else (if b == 34 || b == 39 then quoted_front bs (quoted_bytes b false bs)
    else word_front (b ∷ bs) (word_bytes false (b ∷ bs)))

abbrev pub placed_at : ℕ → LexedToken → Placed
placed_at at f = record { offset = at; raw_offset = at + f.inside; token = f.token }

abbrev pub front_at : List ℕ → LexedToken
front_at [] = fixed cut 0
front_at (b ∷ bs) = front b bs

-- the text begins with the token, without white space, and the rest follows it
abbrev pub BeginsBy : ℕ → List ℕ → Placed → ℕ → List ℕ → Type 0
BeginsBy at bs t next rest = (0 < length bs) × (t ≡ placed_at at (front_at bs))
    × (next ≡ at + (front_at bs).size) × (rest ≡ drop (front_at bs).size bs)

-- the text after its white space
abbrev pub trimmed : List ℕ → List ℕ
trimmed bs = drop (spaces bs) bs

-- the token at the start of trimmed bytes, and those after it
abbrev pub first_and : ℕ → List ℕ → (ℕ → List ℕ → List Placed) → List Placed
first_and at [] others = []
first_and at (b ∷ bs) others =
    placed_at at (front b bs) ∷ others (at + (front b bs).size) (drop (front b bs).size (b ∷ bs))

-- the tokens of the text from an offset on, at most this many
unfoldable pub tokens_within : ℕ → ℕ → List ℕ → List Placed
tokens_within zero at bs = []
tokens_within (suc most) at bs = first_and (at + spaces bs) (trimmed bs) (tokens_within most)

-- all tokens of the text from an offset on: each has a byte or more
abbrev pub tokens_of : ℕ → List ℕ → List Placed
tokens_of at bs = tokens_within (length bs) at bs
