-- What the lexer of JSON makes of the parts of a plain line.
use Rattle.std.proofs.Common.{◌≡◌, ◌∙◌, ℕ, suc, negsuc, ◌+◌, ◌-◌, ◌*◌, ◌/◌, ◌%◌, ◌<◌, ◌≤◌, ◌^◌, Bool, true, false, cond, ◌||◌, ◌==◌, List, [], ◌∷◌, ◌++◌, length, take, drop, get_or, decimal, inl, inr, refl, sym, ap, ap₂, subst, arith, append_assoc, take-append-drop, drop-drop, length-take-le, length-drop, get_or-take, get_or-drop}
use Rattle.std.proofs.lemmas.Bool.{eqb-true, or_cases}
use Rattle.std.proofs.lemmas.List.{drop_all, drop_more}
use Rattle.std.proofs.lemmas.Fmt.{decimal_digit, decimal_step}
use Rattle.std.specs.Bool.{nat_eq}
use Rattle.std.specs.Cmp.Lexicographic.{same_text}
use Rattle.std.specs.Fmt.{signed_decimal}
use Rattle.std.specs.List.{starts_with}
use Rattle.json.specs.Lex.{between, lex, string_token, token}
use Rattle.json.specs.Print.{escape}
use Rattle.json.specs.Token.{bad, boolean, number}
use Rattle.json.specs.Word.{ends_word, is_operator, is_space, word}
use Rattle.json.proofs.Printed.Decimals.{IsNumber-decimal, IsNumber-signed_decimal}
use Rattle.json.proofs.Printed.Numbers.{in_word-ended, lex-number}
use Rattle.json.proofs.Printed.Plain.{escape_on_plain}
use Rattle.json.proofs.Printed.Strings.{content-escape, lex-escape}
use Rattle.lq_script_request.specs.Members.{IsPastSpace, IsText, IsTextEnd, lexemes}

-- what follows a byte
pub rest-at : (text : List ℕ) (at byte : ℕ) → at < length text → get_or text at 0 ≡ byte
    → drop at text ≡ byte ∷ drop (at + 1) text
rest-at text at byte within is =
    drop_more text at 0 within ∙ ap (λ b. b ∷ drop (at + 1) text) is

-- white space is passed over
space-passed : (x : ℕ) (xs : List ℕ) → is_space x ≡ true → lex between (x ∷ xs) ≡ lex between xs
unfolding lex
space-passed x xs is =
    let P = λ (y : ℕ). lex between (y ∷ xs) ≡ lex between xs in
    elim (or_cases _ (x == 13) is) [
      | inr e ↦ subst P (sym (eqb-true x 13 e)) refl
      | inl f ↦ elim (or_cases _ (x == 10) f) [
        | inr e ↦ subst P (sym (eqb-true x 10 e)) refl
        | inl g ↦ elim (or_cases (x == 32) (x == 9) g) [
          | inl e ↦ subst P (sym (eqb-true x 32 e)) refl
          | inr e ↦ subst P (sym (eqb-true x 9 e)) refl
        ]
      ]
    ]

or-right : (a b : Bool) → b ≡ true → (a || b) ≡ true
or-right true b is = refl
or-right false b is = is

-- no white space yet
pub past-none : (text : List ℕ) (from : ℕ) → from ≤ length text → IsPastSpace text from from
past-none text from within =
    record { lexed = refl; ends = λ e. e; after = omega arith; within = within }

-- one more byte of it
pub past-more : (text : List ℕ) (from at : ℕ) → at < length text
    → is_space (get_or text at 0) ≡ true → IsPastSpace text from at
    → IsPastSpace text from (at + 1)
past-more text from at within is past =
    let x = get_or text at 0 in
    let here = drop_more text at 0 within in
    record {
      lexed = past.lexed ∙ ap (lex between) here ∙ space-passed x (drop (at + 1) text) is;
      ends = λ _. past.ends (ap ends_word here ∙ or-right (is_operator x) (is_space x) is);
      after = omega (arith, past.after);
      within = omega arith;
    }

-- what is between two quotes
between-quotes : (text : List ℕ) (from end : ℕ) → IsTextEnd text from end
    → drop from text ≡ take (end - from) (drop from text) ++ 34 ∷ drop (end + 1) text
between-quotes text from end is =
    let n : from + (end - from) ≡ end = omega (arith, is.after) in
    sym (take-append-drop (end - from) (drop from text))
    ∙ ap (λ l. take (end - from) (drop from text) ++ l)
    (drop-drop (end - from) from text ∙ ap (λ k. drop k text) n
    ∙ rest-at text end 34 is.within is.quote)

-- it has no escape
plain-between : (text : List ℕ) (from end : ℕ) → IsTextEnd text from end
    → escape (take (end - from) (drop from text)) ≡ take (end - from) (drop from text)
plain-between text from end is =
    let s = take (end - from) (drop from text) in
    let long : length s ≡ end - from =
    length-take-le (end - from) (drop from text)
    (omega (arith, length-drop from text, is.within, is.after)) in
    escape_on_plain true s (λ k p q.
    rw (get_or-take (end - from) (drop from text) k 0 (omega arith) ∙ get_or-drop from text k 0)
    (is.plain (from + k) (omega arith) (omega (arith, is.after))))

-- a text is one lexeme
pub text-lexed : (text : List ℕ) (from end : ℕ) → from < length text → get_or text from 0 ≡ 34
    → IsTextEnd text (from + 1) end
    → IsText text from (take (end - (from + 1)) (drop (from + 1) text)) (end + 1)
unfolding lex
text-lexed text from end within quote is =
    let s = take (end - (from + 1)) (drop (from + 1) text) in
    let r = drop (end + 1) text in
    let inside : drop (from + 1) text ≡ escape s ++ 34 ∷ r =
    between-quotes text (from + 1) end is
    ∙ ap (λ l. l ++ 34 ∷ r) (sym (plain-between text (from + 1) end is)) in
    record {
      lexed = ap (lex between) (rest-at text from 34 within quote)
          ∙ ap (λ l. lex between (34 ∷ l)) inside
          ∙ ap₂ (λ o l. token (string_token o) ∷ l) (content-escape s r) (lex-escape s r);
      after = omega (arith, is.after);
      within = omega (arith, is.within);
    }

-- a number is one lexeme, where a word ends
pub whole-lexed : (text : List ℕ) (from n end : ℕ) → n < 10 ^ 18
    → drop from text ≡ decimal n ++ drop end text → ends_word (drop end text) ≡ true
    → lexemes text from ≡ token (number (decimal n)) ∷ lexemes text end
whole-lexed text from n end small written ended =
    ap (lex between) written
    ∙ lex-number (decimal n) (drop end text) (IsNumber-decimal n (omega arith)) ended

pub negative-lexed : (text : List ℕ) (from n end : ℕ) → n + 1 < 10 ^ 18 → from < length text
    → get_or text from 0 ≡ 45 → drop (from + 1) text ≡ decimal (suc n) ++ drop end text
    → ends_word (drop end text) ≡ true
    → lexemes text from ≡ token (number (signed_decimal (negsuc n))) ∷ lexemes text end
negative-lexed text from n end small within minus written ended =
    ap (lex between) (rest-at text from 45 within minus ∙ ap (λ l. 45 ∷ l) written)
    ∙ lex-number (signed_decimal (negsuc n)) (drop end text)
    (IsNumber-signed_decimal (negsuc n) (omega arith)) ended

-- so is a truth value
pub true-lexed : (rest : List ℕ) → ends_word rest ≡ true
    → lex between (116 ∷ 114 ∷ 117 ∷ 101 ∷ rest) ≡ token (boolean true) ∷ lex between rest
unfolding lex word
true-lexed rest ended =
    ap₂ (λ b l. token (cond b (boolean true) bad) ∷ l) ended (in_word-ended rest ended)

pub false-lexed : (rest : List ℕ) → ends_word rest ≡ true
    → lex between (102 ∷ 97 ∷ 108 ∷ 115 ∷ 101 ∷ rest) ≡ token (boolean false) ∷ lex between rest
unfolding lex word
false-lexed rest ended =
    ap₂ (λ b l. token (cond b (boolean false) bad) ∷ l) ended (in_word-ended rest ended)

-- nothing is left at the end
pub end-of-text : (text : List ℕ) (at : ℕ) → length text ≤ at → lexemes text at ≡ []
unfolding lex
end-of-text text at past = ap (lex between) (drop_all at text past)

-- one more digit of a number
pub more-digits : (n d : ℕ) → 0 < n → n * 10 + d < 2 ^ 64 → d < 10
    → decimal (n * 10 + d) ≡ decimal n ++ (48 + d) ∷ []
more-digits n d some small less =
    let high : (n * 10 + d) / 10 ≡ n = omega (arith, less) in
    let low : (n * 10 + d) % 10 ≡ d = omega (arith, less) in
    decimal_step (n * 10 + d) (omega (arith, some)) small
    ∙ ap (λ m. decimal m ++ (48 + (n * 10 + d) % 10) ∷ []) high
    ∙ ap (λ m. decimal n ++ (48 + m) ∷ []) low

-- the number goes on with a digit
pub written-more : (text : List ℕ) (from at n d : ℕ) → 0 < n → n * 10 + d < 2 ^ 64 → d < 10
    → at < length text → get_or text at 0 ≡ 48 + d
    → drop from text ≡ decimal n ++ drop at text
    → drop from text ≡ decimal (n * 10 + d) ++ drop (at + 1) text
written-more text from at n d some small less within is written =
    written ∙ ap (λ l. decimal n ++ l) (rest-at text at (48 + d) within is)
    ∙ sym (append_assoc (decimal n) ((48 + d) ∷ []) (drop (at + 1) text))
    ∙ ap (λ l. l ++ drop (at + 1) text) (sym (more-digits n d some small less))

-- and begins with one
pub written-first : (text : List ℕ) (from d : ℕ) → d < 10 → from < length text
    → get_or text from 0 ≡ 48 + d → drop from text ≡ decimal d ++ drop (from + 1) text
written-first text from d less within is =
    rest-at text from (48 + d) within is
    ∙ ap (λ l. l ++ drop (from + 1) text) (sym (decimal_digit d less))

-- a word that a text begins with
pub word-rest : (text word : List ℕ) (at : ℕ) → starts_with nat_eq (drop at text) word ≡ true
    → drop at text ≡ word ++ drop (at + length word) text
word-rest text word at same =
    sym (take-append-drop (length word) (drop at text))
    ∙ ap (λ l. l ++ drop (length word) (drop at text))
    (sym (same_text word (take (length word) (drop at text)) (sym same)))
    ∙ ap (λ l. word ++ l) (drop-drop (length word) at text)
