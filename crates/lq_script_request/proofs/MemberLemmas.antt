-- The values of a plain line, its members, and all of them.
use Rattle.std.proofs.Common.{◌≡◌, ◌∙◌, ◌⊎◌, ℕ, suc, negsuc, ◌+◌, ◌-◌, ◌<◌, ◌≤◌, ◌^◌, Bool, true, false, List, [], ◌∷◌, ◌++◌, length, drop, get_or, Some, decimal, inl, inr, refl, ap, arith}
use Rattle.std.specs.Fmt.{signed_decimal}
use Rattle.json.specs.Json.{members, parse_map, value}
use Rattle.json.specs.Lex.{Lexeme, Place, after_comma, after_key, after_value, begins_colon, between, colon, comma, fresh, lex, may_begin, place_token, punctuate, token, tokens}
use Rattle.json.specs.Token as spec
use Rattle.json.specs.Token.{Token}
use Rattle.json.specs.Word.{ends_word}
use Rattle.json.proofs.Grammar.{value_is, value-begin_object}
use Rattle.serde_json.specs.Data.{Data, Members, Num, boolean, negative, no_members, number, object, put, string, unsigned}
use Rattle.serde_json.specs.Read.{converted, of_json, of_members, read, number_of}
use Rattle.serde_json.proofs.Numbers.{number_of-decimal, number_of-negative}
use Rattle.lq_script_request.specs.declared.field.Field.{Field}
use Rattle.lq_script_request.specs.declared.fields.Fields.{Fields}
use Rattle.lq_script_request.specs.Fields.{Show, updated}
use Rattle.lq_script_request.specs.Shown.{data_in}
use Rattle.lq_script_request.specs.Members.{IsMember, IsPastSpace, IsText, IsValue, IsScalar, lexemes}
use Rattle.lq_script_request.proofs.FieldsLemmas.{Show-put}
use Rattle.lq_script_request.proofs.LexLemmas.{false-lexed, negative-lexed, rest-at, true-lexed, whole-lexed}
use Rattle.lq_script_request.proofs.ReadingLemmas.{converted-object, member_read, members_over, whole_read}

-- a text is a value by itself
pub IsScalar-string : (s : List ℕ) → IsScalar (spec.string s) (string s)
unfolding punctuate
IsScalar-string s = record {
  read = λ depth rest. ap (converted of_json) (value_is depth (spec.string s ∷ rest));
  placed = λ ls e. ap (λ b. place_token fresh (spec.string s) b (λ next. punctuate next ls)) e;
}

-- so is a number
pub IsScalar-number : (s : List ℕ) (n : Num) → number_of s ≡ Some n
    → IsScalar (spec.number s) (number n)
unfolding punctuate
IsScalar-number s n is = record {
  read = λ depth rest. ap (converted of_json) (value_is depth (spec.number s ∷ rest)) ∙ rw is refl;
  placed = λ ls e. refl;
}

-- and a truth value
pub IsScalar-boolean : (b : Bool) → IsScalar (spec.boolean b) (boolean b)
unfolding punctuate
IsScalar-boolean b = record {
  read = λ depth rest. ap (converted of_json) (value_is depth (spec.boolean b ∷ rest));
  placed = λ ls e. refl;
}

-- a text is a value that a field shows
pub IsValue-text : (text : List ℕ) (from end : ℕ) (f : Field) (s : List ℕ)
    → data_in f ≡ Some (string s) → IsText text from s end → IsValue text from f end
IsValue-text text from end f s shows is = record {
  token = spec.string s;
  datum = string s;
  reads = IsScalar-string s;
  shows = shows;
  lexed = λ _. is.lexed;
  after = omega (arith, is.after);
  within = is.within;
}

-- so is a whole number from 0 up
pub IsValue-whole : (text : List ℕ) (from n end : ℕ) (f : Field)
    → data_in f ≡ Some (number (unsigned n)) → n < 10 ^ 18
    → drop from text ≡ decimal n ++ drop end text → from < end → end ≤ length text
    → IsValue text from f end
IsValue-whole text from n end f shows small written after within = record {
  token = spec.number (decimal n);
  datum = number (unsigned n);
  reads = IsScalar-number (decimal n) (unsigned n) (number_of-decimal n (omega arith));
  shows = shows;
  lexed = whole-lexed text from n end small written;
  after = omega arith;
  within = within;
}

-- and one below 0
pub IsValue-negative : (text : List ℕ) (from n end : ℕ) (f : Field)
    → data_in f ≡ Some (number (negative (negsuc n))) → n + 1 < 10 ^ 18 → from < length text
    → get_or text from 0 ≡ 45 → drop (from + 1) text ≡ decimal (suc n) ++ drop end text
    → from < end → end ≤ length text → IsValue text from f end
IsValue-negative text from n end f shows small inside minus written after within = record {
  token = spec.number (signed_decimal (negsuc n));
  datum = number (negative (negsuc n));
  reads = IsScalar-number (signed_decimal (negsuc n)) (negative (negsuc n))
      (number_of-negative n (omega arith));
  shows = shows;
  lexed = negative-lexed text from n end small inside minus written;
  after = omega arith;
  within = within;
}

-- and a truth value
pub IsValue-true : (text : List ℕ) (from : ℕ) (f : Field) → data_in f ≡ Some (boolean true)
    → drop from text ≡ 116 ∷ 114 ∷ 117 ∷ 101 ∷ drop (from + 4) text → from + 4 ≤ length text
    → IsValue text from f (from + 4)
IsValue-true text from f shows written within = record {
  token = spec.boolean true;
  datum = boolean true;
  reads = IsScalar-boolean true;
  shows = shows;
  lexed = λ ended. ap (lex between) written ∙ true-lexed (drop (from + 4) text) ended;
  after = omega arith;
  within = within;
}

pub IsValue-false : (text : List ℕ) (from : ℕ) (f : Field) → data_in f ≡ Some (boolean false)
    → drop from text ≡ 102 ∷ 97 ∷ 108 ∷ 115 ∷ 101 ∷ drop (from + 5) text
    → from + 5 ≤ length text → IsValue text from f (from + 5)
IsValue-false text from f shows written within = record {
  token = spec.boolean false;
  datum = boolean false;
  reads = IsScalar-boolean false;
  shows = shows;
  lexed = λ ended. ap (lex between) written ∙ false-lexed (drop (from + 5) text) ended;
  after = omega arith;
  within = within;
}

-- a key, a colon and a value are a member, before a comma or a brace
turn : (p : Place) (k : List ℕ) (t : Token) (d : Data) (ls : List Lexeme) → IsScalar t d
    → begins_colon ls ≡ false → may_begin p ≡ true
    → punctuate p (token (spec.string k) ∷ colon ∷ token t ∷ ls)
    ≡ spec.key k ∷ t ∷ punctuate after_value ls
unfolding punctuate
turn fresh k t d ls reads none begins = ap (λ ts. spec.key k ∷ ts) (reads.placed ls none)
turn after_comma k t d ls reads none begins = ap (λ ts. spec.key k ∷ ts) (reads.placed ls none)
turn after_value k t d ls reads none begins = absurd (cc)
turn after_key k t d ls reads none begins = absurd (cc)

-- after a value comes no colon, and a word ends there
abbrev Stops : List ℕ → ℕ → Type 0
Stops text at = (begins_colon (lexemes text at) ≡ false) × (ends_word (drop at text) ≡ true)

stops : (text : List ℕ) (at : ℕ) → at < length text
    → (get_or text at 0 ≡ 44) ⊎ (get_or text at 0 ≡ 125) → Stops text at
unfolding lex
stops text at within (inl e) = (
  ap (λ l. begins_colon (lex between l)) (rest-at text at 44 within e),
  ap ends_word (rest-at text at 44 within e),
)
stops text at within (inr e) = (
  ap (λ l. begins_colon (lex between l)) (rest-at text at 125 within e),
  ap ends_word (rest-at text at 125 within e),
)

-- a member, of its parts
pub IsMember-parts : (text : List ℕ) (from key_end colon start value_end end : ℕ)
    (k : List ℕ) (f : Field) (old : Fields)
    → IsText text from k key_end → IsPastSpace text key_end colon
    → colon < length text → get_or text colon 0 ≡ 58
    → IsPastSpace text (colon + 1) start → IsValue text start f value_end
    → IsPastSpace text value_end end
    → end < length text → (get_or text end 0 ≡ 44) ⊎ (get_or text end 0 ≡ 125)
    → IsMember text from old (updated k f old) end
unfolding lex
IsMember-parts text from key_end at start value_end end k f old name gap within is gap2 value gap3
    inside next =
    let s = stops text end inside next in
    let lexed : lexemes text from
    ≡ token (spec.string k) ∷ colon ∷ token value.token ∷ lexemes text end =
    name.lexed ∙ ap (λ ls. token (spec.string k) ∷ ls)
    (gap.lexed ∙ ap (lex between) (rest-at text at 58 within is)
    ∙ ap (λ ls. colon ∷ ls) (gap2.lexed ∙ value.lexed (gap3.ends s.1)
    ∙ ap (λ ls. token value.token ∷ ls) gap3.lexed)) in
    record {
      key = k;
      token = value.token;
      datum = value.datum;
      reads = value.reads;
      shows = λ ms were. Show-put k f old value.datum ms value.shows were;
      placed = λ p begins. ap (punctuate p) lexed
          ∙ turn p k value.token value.datum (lexemes text end) value.reads s.0 begins;
      next = next;
      after = omega (arith, name.after, gap.after, gap2.after, value.after, gap3.after);
      within = inside;
    }

-- what is left after a member
abbrev rest : List ℕ → ℕ → List Token
rest text at = punctuate after_value (lexemes text at)

-- the members up to an offset are found, and what the rest adds to them is all
pub record AreRead (text : List ℕ) (fields : Fields) (at : ℕ) : Type 0 where
  pub first : List Token
  pub begins : tokens text ≡ spec.begin_object ∷ first
  pub found : Members
  pub shows : Show fields (object found)
  pub turns : ℕ
  pub enough : length (rest text at) ≤ turns
  pub all : converted (λ ms. of_members ms no_members) (members (value 126) (length first) first)
      ≡ converted (λ ms. of_members ms found) (members (value 126) turns (rest text at))
  pub next : (get_or text at 0 ≡ 44) ⊎ (get_or text at 0 ≡ 125)
  pub within : at < length text

-- a brace opens the object
pub opened : (text : List ℕ) (brace from : ℕ) → IsPastSpace text 0 brace → brace < length text
    → get_or text brace 0 ≡ 123 → IsPastSpace text (brace + 1) from
    → tokens text ≡ spec.begin_object ∷ punctuate fresh (lexemes text from)
unfolding lex punctuate
opened text brace from before within is gap =
    ap (punctuate fresh) (before.lexed ∙ ap (lex between) (rest-at text brace 123 within is)
    ∙ ap (λ ls. token spec.begin_object ∷ ls) gap.lexed)

-- after the first member
pub AreRead-first : (text : List ℕ) (from end : ℕ) (old new : Fields)
    → tokens text ≡ spec.begin_object ∷ punctuate fresh (lexemes text from)
    → Show old (object no_members) → IsMember text from old new end → AreRead text new end
AreRead-first text from end old new begins none member =
    let first = punctuate fresh (lexemes text from) in
    let step : first ≡ spec.key member.key ∷ member.token ∷ rest text end =
    member.placed fresh refl in
    let some : length first ≡ length (rest text end) + 2 = omega (arith, ap length step) in
    record {
      first = first;
      begins = begins;
      found = put member.key member.datum no_members;
      shows = member.shows no_members none;
      turns = length first - 1;
      enough = omega (arith, some);
      all = ap (λ ts. converted (λ ms. of_members ms no_members)
          (members (value 126) (length first) ts)) step
          ∙ member_read (value 126) no_members (length first) member.key _
          (member.token ∷ rest text end) (rest text end) member.datum (omega (arith, some)) refl
          (member.reads.read 126 (rest text end));
      next = member.next;
      within = member.within;
    }

-- after one more member
pub AreRead-more : (text : List ℕ) (at from end : ℕ) (old new : Fields) → AreRead text old at
    → get_or text at 0 ≡ 44 → IsPastSpace text (at + 1) from → IsMember text from old new end
    → AreRead text new end
unfolding lex punctuate
AreRead-more text at from end old new before is gap member =
    let step : rest text at ≡ spec.key member.key ∷ member.token ∷ rest text end =
    ap (punctuate after_value) (ap (lex between) (rest-at text at 44 before.within is)
    ∙ ap (λ ls. comma ∷ ls) gap.lexed) ∙ member.placed after_comma refl in
    let some : length (rest text at) ≡ length (rest text end) + 2 = omega (arith, ap length step) in
    record {
      first = before.first;
      begins = before.begins;
      found = put member.key member.datum before.found;
      shows = member.shows before.found before.shows;
      turns = before.turns - 1;
      enough = omega (arith, some, before.enough);
      all = before.all
          ∙ ap (λ ts. converted (λ ms. of_members ms before.found)
          (members (value 126) before.turns ts)) step
          ∙ member_read (value 126) before.found before.turns member.key _
          (member.token ∷ rest text end) (rest text end) member.datum
          (omega (arith, some, before.enough)) refl (member.reads.read 126 (rest text end));
      next = member.next;
      within = member.within;
    }

-- the byte that isn't the one is the other
other : (x : ℕ) → (x ≡ 44) ⊎ (x ≡ 125) → (x ≡ 44 → ⊥) → x ≡ 125
other x (inl e) not = absurd (not e)
other x (inr e) not = e

-- all members are found
pub AreRead-all : (text : List ℕ) (at : ℕ) (fields : Fields) (were : AreRead text fields at)
    → (get_or text at 0 ≡ 44 → ⊥) → lexemes text (at + 1) ≡ []
    → read text ≡ Some (object were.found)
unfolding lex punctuate
AreRead-all text at fields were not none =
    let closed : rest text at ≡ spec.end_object ∷ [] =
    ap (punctuate after_value)
    (ap (lex between) (rest-at text at 125 were.within (other _ were.next not))
    ∙ ap (λ ls. token spec.end_object ∷ ls) none) in
    let ended = members_over (value 126) were.found were.turns (spec.end_object ∷ []) []
    (omega (arith, were.enough, ap length closed)) refl in
    whole_read (value 127 (tokens text)) (object were.found)
    (ap (λ ts. converted of_json (value 127 ts)) were.begins
    ∙ ap (converted of_json) (value-begin_object 127 were.first (omega arith))
    ∙ converted-object (members (value 126) (length were.first) were.first)
    ∙ ap (parse_map object) (were.all
    ∙ ap (λ ts. converted (λ ms. of_members ms were.found)
    (members (value 126) were.turns ts)) closed
    ∙ ended))
