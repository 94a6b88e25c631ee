-- What a line asks for, by whether it is UTF-8, and by its word.
use Rattle.std.proofs.Common.{◌≡◌, ◌∙◌, ℕ, List, refl, sym, ap, true, false, Option, Some, None, bytes_eq, codes, inl, inr}
use Rattle.std.proofs.lemmas.Bool.{false_from_ne_true}
use Rattle.std.proofs.lemmas.Slice.Eq.{bytes_eq-Decides}
use Rattle.std.specs.Prelude.{ok_or, option_and_then, Bool, Result, Ok, Err, IfOk, IfErr, ◌⊎◌}
use Rattle.std.specs.Str.{IsUtf8, is_utf8}
use Rattle.std.proofs.lemmas.Str.{IsUtf8-from_is_utf8, is_utf8-from_IsUtf8}
use Rattle.serde_json.specs.Data.{Data}
use Rattle.serde_json.specs.Read.{read}
use Rattle.lq_value.specs.declared.refusal.Refusal.{Refusal}
use Rattle.lq_value.specs.declared.refusal.Refusal.TheVariants.{BadLine, NoMemory, NotUtf8, NotJson}
use Rattle.lq_script_request.specs.declared.request.Request.{Request}
use Rattle.lq_script_request.specs.Request.{RawAsked, raw_asked_by, raw_asked_in, raw_asked_from, raw_asked_of, needed_text, request_from, request_in}

-- a line that isn't UTF-8 is refused as such
pub asked-not_utf8 : (line : List ℕ) → ¬ IsUtf8 line → raw_asked_in line ≡ Err NotUtf8
asked-not_utf8 line not = at (is_utf8 line) refl
  where
    at : (b : Bool) → is_utf8 line ≡ b → raw_asked_in line ≡ Err NotUtf8
    at true is = absurd (not (IsUtf8-from_is_utf8 line is))
    at false is = rw is refl

-- one that is asks for what its text reads as
pub asked-utf8 : (line : List ℕ) → IsUtf8 line → raw_asked_in line ≡ raw_asked_from (read line)
asked-utf8 line utf8 = rw (is_utf8-from_IsUtf8 line utf8) refl

-- a line whose text doesn't read is refused as no JSON, or memory ran out
pub line-refused : (line text : List ℕ) (e : Refusal)
    → raw_asked_in line ≡ raw_asked_from (read text)
    → (e ≡ NoMemory) ⊎ ((e ≡ NotJson) × (read text ≡ None))
    → (e ≡ NoMemory) ⊎ (request_in line ≡ Err e)
line-refused line text e asks (inl was) = inl was
line-refused line text e asks (inr was) =
    inr (ap request_from (asks ∙ ap raw_asked_from was.1) ∙ ap (λ x. Err x) (sym was.0))

-- what follows from what is known of an answer's value, where it has one
pub value-then : {T E : Type 0} {P Q : T → Type 0} (r : Result T E)
    → ((x : T) → P x → Q x) → IfOk r P → IfOk r Q
value-then (Ok x) go known = go x known
value-then (Err e) go known = tt

-- the same of its error
pub error-then : {T E : Type 0} {P Q : E → Type 0} (r : Result T E)
    → ((e : E) → P e → Q e) → IfErr r P → IfErr r Q
error-then (Ok x) go known = tt
error-then (Err e) go known = go e known

-- what is asked for by a word
pub asks-as : (d : Data) (act word : List ℕ) (asks : Option RawAsked)
    → Some act ≡ needed_text (codes "do") d → act ≡ word → asks ≡ raw_asked_by word d
    → asks ≡ raw_asked_of d
asks-as d act word asks found is same =
    same ∙ sym (ap (λ w. raw_asked_by w d) is) ∙ ap (option_and_then (λ w. raw_asked_by w d)) found

-- another word
differs : (act word : List ℕ) → (act ≡ word → ⊥) → bytes_eq act word ≡ false
differs act word not =
    false_from_ne_true (bytes_eq act word) (λ is. not ((bytes_eq-Decides act word).0 is))

-- a word that asks for nothing
pub asks-nothing : (d : Data) (act : List ℕ) → Some act ≡ needed_text (codes "do") d
    → (act ≡ codes "create" → ⊥)
    → (act ≡ codes "remove" → ⊥)
    → (act ≡ codes "move" → ⊥)
    → (act ≡ codes "write" → ⊥)
    → (act ≡ codes "set" → ⊥)
    → (act ≡ codes "unset" → ⊥)
    → (act ≡ codes "open" → ⊥)
    → (act ≡ codes "read" → ⊥)
    → (act ≡ codes "hang_up" → ⊥)
    → (act ≡ codes "close" → ⊥)
    → (act ≡ codes "finish" → ⊥)
    → (act ≡ codes "find" → ⊥)
    → (act ≡ codes "entry" → ⊥)
    → (act ≡ codes "fetch" → ⊥)
    → (act ≡ codes "result" → ⊥)
    → None ≡ raw_asked_of d
asks-nothing d act found n0 n1 n2 n3 n4 n5 n6 n7 n8 n9 n10 n11 n12 n13 n14 =
    let b0 : bytes_eq act (codes "create") ≡ false = differs act (codes "create") n0 in
    let b1 : bytes_eq act (codes "remove") ≡ false = differs act (codes "remove") n1 in
    let b2 : bytes_eq act (codes "move") ≡ false = differs act (codes "move") n2 in
    let b3 : bytes_eq act (codes "write") ≡ false = differs act (codes "write") n3 in
    let b4 : bytes_eq act (codes "set") ≡ false = differs act (codes "set") n4 in
    let b5 : bytes_eq act (codes "unset") ≡ false = differs act (codes "unset") n5 in
    let b6 : bytes_eq act (codes "open") ≡ false = differs act (codes "open") n6 in
    let b7 : bytes_eq act (codes "read") ≡ false = differs act (codes "read") n7 in
    let b8 : bytes_eq act (codes "hang_up") ≡ false = differs act (codes "hang_up") n8 in
    let b9 : bytes_eq act (codes "close") ≡ false = differs act (codes "close") n9 in
    let b10 : bytes_eq act (codes "finish") ≡ false = differs act (codes "finish") n10 in
    let b11 : bytes_eq act (codes "find") ≡ false = differs act (codes "find") n11 in
    let b12 : bytes_eq act (codes "entry") ≡ false = differs act (codes "entry") n12 in
    let b13 : bytes_eq act (codes "fetch") ≡ false = differs act (codes "fetch") n13 in
    let b14 : bytes_eq act (codes "result") ≡ false = differs act (codes "result") n14 in
    let none : None ≡ raw_asked_by act d =
    rw (b0, b1, b2, b3, b4, b5, b6, b7, b8, b9, b10, b11, b12, b13, b14) refl in
    none ∙ ap (option_and_then (λ w. raw_asked_by w d)) found

-- a line asks for what its fields ask for
pub line-asks-found : (line : List ℕ) (o : Option Data) (d : Data)
    → raw_asked_in line ≡ raw_asked_from o
    → o ≡ Some d → raw_asked_in line ≡ ok_or (raw_asked_of d) BadLine
line-asks-found line o d asks is = asks ∙ ap raw_asked_from is

-- the refusal of a line is that of what it asks for
pub refused-along : (line : List ℕ) (e : Refusal) (r : Result Request Refusal)
    → request_in line ≡ r → (e ≡ NoMemory) ⊎ (r ≡ Err e)
    → (e ≡ NoMemory) ⊎ (request_in line ≡ Err e)
refused-along line e r asks (inl was) = inl was
refused-along line e r asks (inr was) = inr (asks ∙ was)
