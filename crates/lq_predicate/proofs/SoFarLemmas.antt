-- What is known while a formula is read.
use Rattle.std.proofs.Common.{◌≡◌, ◌≤◌, ◌<◌, ◌+◌, ◌^◌, ℕ, List, [], ◌∷◌, ◌++◌, append_assoc, IsUtf8, length, Option, Some, None, refl, sym, ap, ◌∙◌, subst, arith}
use Rattle.std.specs.Prelude.{if◌then◌else◌, Err}
use Rattle.std.proofs.lemmas.Bool.{lt-leb, le-leb}
use Rattle.std.proofs.lemmas.List.{append-nil}
use Rattle.lq_predicate_formula.specs.Words.{WordIs, WordsAre}
use Rattle.lq_predicate_formula.specs.Tokens.{HasOneTokenList, HasTokens, IsBlank, Placed, Yields, bare}
use Rattle.lq_predicate_formula.specs.Query.{Query}
use Rattle.lq_predicate_formula.specs.Grammar.{nesting}
use Rattle.lq_predicate_formula.specs.Machine.{MachineState, start, step_token, finished_query}
use Rattle.lq_predicate_formula.specs.Faults.{IsFaulty, IsReading, most_bytes, most_comparisons}
use Rattle.lq_predicate_formula.specs.Laws.{MachineReads}
use Rattle.lq_predicate_formula.specs.MachineReading.{after_token, fault_offset, finished, pattern_fault, offset_at, read_tokens, word_count}
use Rattle.lq_predicate.proofs.OffsetLemmas.{pattern_offset-bound}

-- a formula is read up to an offset: what the whole reading is, from the state there, and that the
-- words before it are of UTF-8
pub record SoFar (text : List ℕ) (offset : ℕ) (rest : List ℕ) (s : MachineState) (count : ℕ) :
    Type 0 where
  pub reads : (ts : List Placed) → HasTokens offset rest ts
      → IsReading text (read_tokens (length text) s count ts)
  pub few : count ≤ 512
  pub short : length text ≤ 4096
  pub room : offset + length rest ≡ length text
  pub front : List Placed
  pub has : (ts : List Placed) → HasTokens offset rest ts → HasTokens 0 text (front ++ ts)
  pub texts : WordsAre IsUtf8 (bare front)

-- before the first token nothing has been read
pub starts : (text : List ℕ) → MachineReads → length text ≤ 4096
    → SoFar text 0 text (start nesting) 0
starts text machine_reads h = record {
  reads = λ ts has. subst (IsReading text)
      (ap (λ b. if b then read_tokens (length text) (start nesting) 0 ts else Err most_bytes)
      (le-leb (length text) most_bytes h)) (machine_reads text ts has);
  few = omega arith;
  short = h;
  room = omega arith;
  front = [];
  has = λ ts has. has;
  texts = tt;
}

-- one token, and the others behind it
one_token : (end : ℕ) (s : MachineState) (count : ℕ) (t : Placed) (ts : List Placed)
    → read_tokens end s count (t ∷ ts)
    ≡ after_token (fault_offset end s.expected t) t (step_token s t.token)
    (count + word_count t.token) (λ s'. read_tokens end s' (count + word_count t.token) ts)
unfolding read_tokens
one_token end s count t ts = refl

-- where no token is left, the reading is whether a whole query stands there
no_token : (end : ℕ) (s : MachineState) (count : ℕ) → read_tokens end s count []
    ≡ finished end (finished_query s)
unfolding read_tokens
no_token end s count = refl

-- words of UTF-8 and one more are words of UTF-8
words-push : (ts : List Placed) (t : Placed) → WordsAre IsUtf8 (bare ts) → WordIs IsUtf8 t.token
    → WordsAre IsUtf8 (bare (ts ++ t ∷ []))
words-push [] t w h = (h, tt)
words-push (u ∷ ts) t w h = (w.0, words-push ts t w.1 h)

module _ (text : List ℕ) (offset : ℕ) (rest : List ℕ) (s : MachineState) (count : ℕ)
    (h : SoFar text offset rest s count) where
  -- the offset of a pattern's fault is a number of 64 bits
  pub offset_fits : (t : Placed) (next : ℕ) (behind : List ℕ) (k : ℕ)
      → Yields offset rest t next behind → next + length behind ≡ offset + length rest
      → pattern_fault s.expected t.token ≡ Some k → t.raw_offset + k < 2 ^ 64
  offset_fits t next behind k y total f =
      let bound = pattern_offset-bound offset rest t next behind s.expected k y total f in
      omega (arith, bound, h.room, h.short)

  -- the text ends here
  pub ends : (o : Option Query) → IsBlank rest → finished_query s ≡ o
      → IsReading text (finished (length text) o)
  ends o blank k = subst (IsReading text)
      (no_token (length text) s count ∙ ap (finished (length text)) k) (h.reads [] blank)

  -- all words of the text are of UTF-8
  pub all_texts : IsBlank rest
      → (ts : List Placed) × HasTokens 0 text ts × WordsAre IsUtf8 (bare ts)
  all_texts blank = (
    h.front ++ [],
    h.has [] blank,
    subst (λ ts. WordsAre IsUtf8 (bare ts)) (sym (append-nil h.front)) h.texts,
  )

  module _ (t : Placed) (next : ℕ) (behind : List ℕ) (y : Yields offset rest t next behind) where
    -- the reading goes on from what the machine makes of the next token
    reads_on : (o : Option MachineState) → step_token s t.token ≡ o → (ts : List Placed)
        → HasTokens next behind ts
        → IsReading text (after_token (fault_offset (length text) s.expected t) t o
        (count + word_count t.token)
        (λ s'. read_tokens (length text) s' (count + word_count t.token) ts))
    reads_on o k ts has = subst (IsReading text)
        (one_token (length text) s count t ts
        ∙ ap (λ o. after_token (fault_offset (length text) s.expected t) t o
        (count + word_count t.token)
        (λ s'. read_tokens (length text) s' (count + word_count t.token) ts)) k)
        (h.reads (t ∷ ts) (next, behind, y, has))

    -- one token more
    pub goes_on : (s' : MachineState) (n : ℕ) → step_token s t.token ≡ Some s'
        → n ≡ count + word_count t.token → n ≤ 512 → next + length behind ≡ offset + length rest
        → WordIs IsUtf8 t.token → SoFar text next behind s' n
    goes_on s' n k same few room word = record {
      reads = λ ts has. subst
          (λ m. IsReading text (read_tokens (length text) s' m ts)) (sym same)
          (subst (λ b. IsReading text
          (if b then read_tokens (length text) s' (count + word_count t.token) ts
          else Err t.offset)) (le-leb (count + word_count t.token)
          (most_comparisons + most_comparisons) (subst (λ m. m ≤ 512) same few))
          (reads_on (Some s') k ts has));
      few = few;
      short = h.short;
      room = room ∙ h.room;
      front = h.front ++ t ∷ [];
      has = λ ts has. subst (HasTokens 0 text) (sym (append_assoc h.front (t ∷ []) ts))
          (h.has (t ∷ ts) (next, behind, y, has));
      texts = words-push h.front t h.texts word;
    }

    module _ (others : HasOneTokenList next behind) where
      -- where the machine refuses the token, the text has the token's fault
      pub stops : (k : Option ℕ) → step_token s t.token ≡ None
          → pattern_fault s.expected t.token ≡ k
          → IsFaulty text (offset_at (length text) t t.token k)
      stops k none f = subst (IsFaulty text)
          (ap (offset_at (length text) t t.token) f)
          (reads_on None none others.tokens others.has)

      -- it is a word too many
      pub one_too_many : (s' : MachineState) (n : ℕ) → step_token s t.token ≡ Some s'
          → n ≡ count + word_count t.token → 512 < n → IsFaulty text t.offset
      one_too_many s' n k same many = subst (λ b. IsReading text
          (if b then read_tokens (length text) s' (count + word_count t.token) others.tokens
          else Err t.offset)) (lt-leb (count + word_count t.token)
          (most_comparisons + most_comparisons) (subst (λ m. 512 < m) same many))
          (reads_on (Some s') k others.tokens others.has)
