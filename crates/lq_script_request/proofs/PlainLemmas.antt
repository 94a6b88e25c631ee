-- What the plain line of a read asks for.
use Rattle.std.proofs.Common.{◌≡◌, ◌∙◌, ℕ, ◌+◌, ◌*◌, ◌/◌, ◌%◌, ◌^◌, ◌<◌, ◌≤◌, List, [], ◌∷◌, ◌++◌, refl, sym, ap, true, Some, IsUtf8, decimal, arith, append-nil, length, take, drop, slice_index_or}
use Rattle.std.specs.Prelude.{Ok, Err, codes, option_and_then, if◌then◌else◌}
use Rattle.std.specs.Cmp.Lexicographic.{same_text}
use Rattle.std.specs.Bool.{nat_eq}
use lib.Pointwise.{pointwise}
use Rattle.std.proofs.lemmas.List.{take-append-drop}
use Rattle.std.proofs.lemmas.Fmt.{IsAscii-decimal, decimal_by_steps, decimal_digit}
use Rattle.std.proofs.lemmas.Str.{IsUtf8-append, IsUtf8-from_ascii, is_utf8-from_IsUtf8}
use Rattle.json.specs.Lex.{tokens}
use Rattle.json.specs.Json as json
use Rattle.json.specs.Tree.{json_tokens}
use Rattle.json.specs.Print.{ArePrintable, escape_byte}
use Rattle.json.proofs.Printed.Decimals.{IsNumber-decimal}
use Rattle.json.proofs.Printed.Tokens.{tokens-print}
use Rattle.json.proofs.Printed.Trees.{value-json_tokens}
use Rattle.json.proofs.Printed.Utf8.{IsUtf8-are_ascii}
use Rattle.serde_json.specs.Data.{Data, unsigned, number, object, string, member, no_members}
use Rattle.serde_json.specs.Read.{max_depth, of_json, read}
use Rattle.serde_json.specs.Written.{compact_text, outline}
use Rattle.serde_json.proofs.Numbers.{number_of-decimal}
use Rattle.serde_json.proofs.Texts.{print-outline}
use Rattle.lq_value.specs.declared.refusal.Refusal.TheVariants.{NotUtf8}
use Rattle.lq_desk_world.specs.declared.event.Event.TheVariants.{Take}
use Rattle.lq_script_request.specs.declared.request.Request.TheVariants.{Event}
use Rattle.lq_script_request.specs.ReadLine.{read_line}
use Rattle.lq_script_request.specs.Request.{raw_asked_from, request_from, request_in}

-- a line that begins with a text goes on with what is behind it
front-rest : (front line rest : List ℕ)
    → pointwise nat_eq (take (length front) line) front ≡ true
    → rest ≡ drop (length front) line → line ≡ front ++ rest
front-rest front line rest same is =
    sym (take-append-drop (length front) line)
    ∙ ap (λ l. l ++ drop (length front) line)
    (same_text (take (length front) line) front (sym same))
    ∙ ap (λ l. front ++ l) (sym is)

-- two bytes, one by one
two-bytes : (l : List ℕ) → length l ≡ 2
    → l ≡ slice_index_or l 0 0 ∷ slice_index_or l 1 0 ∷ []
two-bytes [] h = absurd (omega (arith, h))
two-bytes (a ∷ []) h = absurd (omega (arith, h))
two-bytes (a ∷ b ∷ []) h = refl
two-bytes (a ∷ b ∷ c ∷ l) h = absurd (omega (arith, h))

-- three bytes, one by one
three-bytes : (l : List ℕ) → length l ≡ 3
    → l ≡ slice_index_or l 0 0 ∷ slice_index_or l 1 0 ∷ slice_index_or l 2 0 ∷ []
three-bytes [] h = absurd (omega (arith, h))
three-bytes (a ∷ []) h = absurd (omega (arith, h))
three-bytes (a ∷ b ∷ []) h = absurd (omega (arith, h))
three-bytes (a ∷ b ∷ c ∷ []) h = refl
three-bytes (a ∷ b ∷ c ∷ d ∷ l) h = absurd (omega (arith, h))

-- a number of two digits is written by them
two-digits-of : (n : ℕ) → n < 2 ^ 64 → 10 ≤ n → n < 100
    → decimal n ≡ (48 + n / 10) ∷ (48 + n % 10) ∷ []
two-digits-of n small =
    (decimal_by_steps (λ m ds. (m < 10 → ds ≡ (48 + m) ∷ [])
    × (10 ≤ m → m < 100 → ds ≡ (48 + m / 10) ∷ (48 + m % 10) ∷ []))
    (λ m few. (λ h. refl, λ many h. absurd (omega (arith, few, many))))
    (λ m ds many h. (
      λ few. absurd (omega (arith, few, many)),
      λ two less. ap (λ l. l ++ (48 + m % 10) ∷ []) (h.0 (omega (arith, less))),
    )) n small).1

-- two digits write a number of two
two-digits : (tens ones : ℕ) → 0 < tens → tens < 10 → ones < 10
    → decimal (tens * 10 + ones) ≡ (48 + tens) ∷ (48 + ones) ∷ []
two-digits tens ones some few less =
    let high : (tens * 10 + ones) / 10 ≡ tens = omega (arith, less) in
    let low : (tens * 10 + ones) % 10 ≡ ones = omega (arith, less) in
    two-digits-of (tens * 10 + ones) (omega (arith, few, less)) (omega (arith, some))
    (omega (arith, few, less))
    ∙ ap (λ d. (48 + d) ∷ (48 + (tens * 10 + ones) % 10) ∷ []) high
    ∙ ap (λ d. (48 + tens) ∷ (48 + d) ∷ []) low

-- a front, one digit and what closes the line
pub one-digit-line : (front line rest : List ℕ) (slot : ℕ)
    → pointwise nat_eq (take (length front) line) front ≡ true
    → rest ≡ drop (length front) line → length rest ≡ 2 → slice_index_or rest 1 0 ≡ 125
    → slice_index_or rest 0 0 ≡ 48 + slot → slot < 10
    → line ≡ front ++ (decimal slot ++ 125 ∷ [])
one-digit-line front line rest slot same is len closing digit small =
    front-rest front line rest same is
    ∙ ap (λ l. front ++ l) (two-bytes rest len
    ∙ (rw (closing, digit) (ap (λ l. l ++ 125 ∷ []) (sym (decimal_digit slot small)))))

-- a front, two digits and what closes the line
pub two-digits-line : (front line rest : List ℕ) (tens ones : ℕ)
    → pointwise nat_eq (take (length front) line) front ≡ true
    → rest ≡ drop (length front) line → length rest ≡ 3 → slice_index_or rest 2 0 ≡ 125
    → slice_index_or rest 0 0 ≡ 48 + tens → 0 < tens → tens < 10
    → slice_index_or rest 1 0 ≡ 48 + ones → ones < 10
    → line ≡ front ++ (decimal (tens * 10 + ones) ++ 125 ∷ [])
two-digits-line front line rest tens ones same is len closing first some few second less =
    front-rest front line rest same is
    ∙ ap (λ l. front ++ l) (three-bytes rest len
    ∙ (rw (closing, first, second)
    (ap (λ l. l ++ 125 ∷ []) (sym (two-digits tens ones some few less)))))

-- what the line writes
abbrev asking : ℕ → Data
asking slot =
    object (member (codes "do") (string (codes "read"))
    (member (codes "slot") (number (unsigned slot)) no_members))

-- the line is its compact text
line-compact : (slot : ℕ) → read_line slot ≡ compact_text (asking slot)
unfolding escape_byte
line-compact slot = refl

-- its tokens can be written
printable : (slot : ℕ) → slot < 2 ^ 64 → ArePrintable (json_tokens (outline (asking slot)))
unfolding ArePrintable
printable slot h = (tt, (tt, (tt, (tt, (IsNumber-decimal slot h, (tt, tt))))))

-- the line's tokens
line-tokens : (slot : ℕ) → slot < 2 ^ 64
    → tokens (read_line slot) ≡ json_tokens (outline (asking slot))
line-tokens slot h =
    ap tokens (line-compact slot ∙ sym (print-outline (asking slot)))
    ∙ tokens-print (json_tokens (outline (asking slot))) (printable slot h)

-- the data is what the tokens say
asking-outline : (slot : ℕ) → slot < 2 ^ 64 → of_json (outline (asking slot)) ≡ Some (asking slot)
asking-outline slot h = rw (number_of-decimal slot h) refl

-- what the line reads as
line-read : (slot : ℕ) → slot < 2 ^ 64 → read (read_line slot) ≡ Some (asking slot)
line-read slot h =
    ap (λ ts. option_and_then of_json
    (option_and_then (λ p. json.if_last p.0 p.1) (json.value max_depth ts)))
    (line-tokens slot h ∙ sym (append-nil (json_tokens (outline (asking slot)))))
    ∙ ap (λ o. option_and_then of_json (option_and_then (λ p. json.if_last p.0 p.1) o))
    (value-json_tokens (outline (asking slot)) max_depth [] (omega arith))
    ∙ asking-outline slot h

-- the line is UTF-8
line-utf8 : (slot : ℕ) → slot < 2 ^ 64 → IsUtf8 (read_line slot)
line-utf8 slot h =
    IsUtf8-append (codes "{\"do\":\"read\",\"slot\":") (decimal slot ++ codes "}")
    (IsUtf8-are_ascii (codes "{\"do\":\"read\",\"slot\":") refl)
    (IsUtf8-append (decimal slot) (codes "}")
    (IsUtf8-from_ascii (decimal slot) (IsAscii-decimal slot h))
    (IsUtf8-are_ascii (codes "}") refl))

-- the line asks for a read of the slot
pub line-asks : (slot : ℕ) → slot < 100 → request_in (read_line slot) ≡ Ok (Event (Take slot))
line-asks slot small =
    let h : slot < 2 ^ 64 = omega (arith, small) in
    ap (λ b. request_from (if b then raw_asked_from (read (read_line slot)) else Err NotUtf8))
    (is_utf8-from_IsUtf8 (read_line slot) (line-utf8 slot h))
    ∙ ap (λ o. request_from (raw_asked_from o)) (line-read slot h)
