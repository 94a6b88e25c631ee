-- The views of the tokens, where one of them changes.
use Rattle.std.proofs.Common.{◌≡◌, ◌≢◌, ◌⊎◌, ℕ, zero, suc, ◌<◌, ◌≤◌, get_or-set_other, Bool, eqb, eq-eqb, ne_eqb, cond, List, [], ◌∷◌, ◌++◌, length, refl, sym, ap, ◌∙◌, subst, inl, inr, ⊎_elim, arith, length-set, Option, append-nil}
use Rattle.std.specs.Prelude.{slice_index, slice_set}
use mathlib.Core.Logic.{dite}
use native.Mathlib.Decide.{ℕ_discrete}
use mathlib.Core.Option.{some, some-injective, some-ne-none}
use lib.ListN.{get_elem?}
use Rattle.atomic_table.specs.Table.{State, Me, Splits, Joins}
use Rattle.atomic_table.proofs.Lists.{at_set}
use Rattle.lq_volume.specs.Book.{Book}
use Rattle.lq_board.specs.Known.{KnownSlot, Author, Register, Sitting, Keeping, TokenView, Keeper, Seat, Pair, Spent}
use Rattle.lq_board.specs.Author.{no_author, HasHeard}
use Rattle.lq_board.specs.Slot.{unused, slot_at}
use Rattle.lq_board.specs.View.{slotless_sitting, of_no_slot}
use Rattle.lq_board.specs.Rule.{CameBack, Sits, SeatFits, ViewFits, HeardFits, Roll, Owns, BoardState, BoardRule, IsKept}

-- the last of a list, and where it stands
at_end : {A : Type 0} (l : List A) (a b : A) (j : ℕ) → get_elem? (l ++ a ∷ []) j ≡ some b
    → (get_elem? l j ≡ some b) ⊎ ((a ≡ b) × (j ≡ length l))
at_end [] a b zero e = inr (some-injective a b e, refl)
at_end [] a b (suc j) e = absurd (some-ne-none b (sym e))
at_end (x ∷ xs) a b zero e = inl e
at_end (x ∷ xs) a b (suc j) e = ⊎_elim inl (λ t. inr (t.0, ap suc t.1)) (at_end xs a b j e)

-- a number has another owner
abbrev pub owner_set : (ℕ → ℕ) → ℕ → ℕ → ℕ → ℕ
owner_set owner k n j = cond (eqb j k) n (owner j)

-- a number whose owner is set has that owner
pub owner_here : (owner : ℕ → ℕ) (k n : ℕ) → owner_set owner k n k ≡ n
owner_here owner k n = ap (λ (b : Bool). cond b n (owner k)) (eq-eqb k k refl)

-- another number keeps its owner
pub owner_else : (owner : ℕ → ℕ) (k n j : ℕ) → j ≢ k → owner_set owner k n j ≡ owner j
owner_else owner k n j e = ap (λ (b : Bool). cond b n (owner j)) (ne_eqb j k e)

-- what nobody has heard is true
pub heard_none : (words : List ℕ) → HasHeard words []
heard_none words k pos = omega arith

-- a place that is set has what was set, or is outside
set_or : (words : List ℕ) (k n : ℕ)
    → (slice_index (slice_set words k n) k ≡ n)
    ⊎ (slice_index (slice_set words k n) k ≡ slice_index words k)
set_or [] zero n = inr refl
set_or [] (suc k) n = inr refl
set_or (x ∷ xs) zero n = inl refl
set_or (x ∷ xs) (suc k) n = set_or xs k n

-- a word rises
heard_rises : (words : List ℕ) (k n : ℕ) (heard : List ℕ) → (0 < k → slice_index words k ≤ n)
    → HasHeard words heard → HasHeard (slice_set words k n) heard
heard_rises words k n heard rises h j pos =
    dite (ℕ_discrete j k)
    (λ e. ⊎_elim
    (λ (here : slice_index (slice_set words k n) k ≡ n).
    let r = rises (omega (arith, pos, e)) in
    let old = h k (omega (arith, pos, e)) in
    rw e (omega (arith, here, r, old)))
    (λ (here : slice_index (slice_set words k n) k ≡ slice_index words k).
    let old = h k (omega (arith, pos, e)) in
    rw e (omega (arith, here, old)))
    (set_or words k n))
    (λ ne. let old = h j pos in
    let else = get_or-set_other words k j n 0 ne in
    omega (arith, else, old))

-- the roll, where the author of this number has another token
abbrev pub moved : Roll → ℕ → ℕ → Roll
moved roll k n = record roll { who = owner_set roll.who k n }

-- two tokens are two authors
pub numbers_apart : {r : Register} {roll : Roll} {at by : ℕ} {a b : Author}
    → Owns r roll at b → by ≢ at → Owns r roll by a → a.number ≢ b.number
numbers_apart {roll = roll} mine apart o i = apart (o.only ∙ ap roll.who i ∙ sym mine.only)

-- an author, where one of this number has another token
owns_as : {r : Register} {roll : Roll} {by : ℕ} {a : Author} (k n by' : ℕ)
    → by' ≡ owner_set roll.who k n a.number → Owns r roll by a → Owns r (moved roll k n) by' a
owns_as k n by' is o =
    record { author = o.author; only = is; signs = o.signs; leads = o.leads }

-- an author, where another has another token
pub owns_moved : {r : Register} {roll : Roll} {by : ℕ} {a : Author} (k n : ℕ) → a.number ≢ k
    → Owns r roll by a → Owns r (moved roll k n) by a
owns_moved {roll = roll} {a = a} k n ne o =
    owns_as k n _ (o.only ∙ sym (owner_else roll.who k n a.number ne)) o

-- an author that another token takes over
pub owns_here : {r : Register} {roll : Roll} {by : ℕ} {a : Author} (n : ℕ) → Owns r roll by a
    → Owns r (moved roll a.number n) n a
owns_here {roll = roll} {a = a} n o = owns_as _ n n (sym (owner_here roll.who a.number n)) o

-- another token's author, where an author has another token
pub owns_else : {r : Register} {roll : Roll} {at by : ℕ} {a b : Author} (n : ℕ)
    → Owns r roll at b → by ≢ at → Owns r roll by a → Owns r (moved roll b.number n) by a
owns_else {b = b} n mine apart o = owns_moved b.number n (numbers_apart mine apart o) o

module _ {M : Type 0} where
  -- one view changes
  pub fits_set : (P : ℕ → TokenView M → Type 0) (views : List (TokenView M)) (id : ℕ)
      (w : TokenView M)
      → ((by : ℕ) (v : TokenView M) → by ≢ id → get_elem? views by ≡ some v → P by v) → P id w
      → (by : ℕ) (v : TokenView M) → get_elem? (slice_set views id w) by ≡ some v → P by v
  fits_set P views id w others mine by v e =
      ⊎_elim
      (λ (x : (by ≡ id) × (w ≡ v)).
      subst (λ (y : ℕ × TokenView M). P y.0 y.1) (λ i. (sym x.0 i, x.1 i)) mine)
      (λ (x : (by ≢ id) × (get_elem? views by ≡ some v)). others by v x.0 x.1)
      (at_set views id by w v e)

  -- one view changes, and there is one more
  pub fits_split : (P : ℕ → TokenView M → Type 0) (views : List (TokenView M)) (id : ℕ)
      (w new : TokenView M)
      → ((by : ℕ) (v : TokenView M) → by ≢ id → get_elem? views by ≡ some v → P by v) → P id w
      → P (length views) new
      → (by : ℕ) (v : TokenView M) → get_elem? (slice_set views id w ++ new ∷ []) by ≡ some v
      → P by v
  fits_split P views id w new others mine last by v e =
      ⊎_elim (fits_set P views id w others mine by v)
      (λ (t : (new ≡ v) × (by ≡ length (slice_set views id w))).
      let at = t.1 ∙ length-set views id w in
      subst (λ (y : ℕ × TokenView M). P y.0 y.1) (λ i. (sym at i, t.0 i)) last)
      (at_end (slice_set views id w) new v by e)

  -- one view changes, and another is spent
  pub fits_join : (P : ℕ → TokenView M → Type 0) (views : List (TokenView M)) (id other : ℕ)
      (w : TokenView M)
      → ((by : ℕ) (v : TokenView M) → (by ≢ id) × (by ≢ other) → get_elem? views by ≡ some v
      → P by v)
      → P id w → P other Spent
      → (by : ℕ) (v : TokenView M)
      → get_elem? (slice_set (slice_set views id w) other Spent) by ≡ some v → P by v
  fits_join P views id other w others mine gone =
      fits_set P (slice_set views id w) other Spent
      (λ by v away e. fits_set (λ by' v'. by' ≢ other → P by' v') views id w
      (λ by' v' apart e' away'. others by' v' (apart, away') e') (λ _. mine) by v e away)
      gone

  -- the view of any token elsewhere, where a seat that fits still does
  pub fits_still : {b : BoardState M} {words : List ℕ} {views : List (TokenView M)}
      → BoardRule b words views → (b' : BoardState M) (words' : List ℕ) (Else : ℕ → Type 0)
      → ((by : ℕ) → Else by → by ≡ b.id → (by ≡ b'.id) × (b.view ≡ b'.view))
      → ((by : ℕ) (w : Sitting M) → Else by → SeatFits b words by w → SeatFits b' words' by w)
      → (by : ℕ) (v : TokenView M) → Else by → get_elem? views by ≡ some v
      → ViewFits b' words' by v
  fits_still k b' words' Else same still by (Keeper v) there e =
      let f = k.fits by (Keeper v) e in
      let is = same by there f.0 in
      (is.0, f.1 ∙ is.1, λ pos. still by (of_no_slot v.back) there (f.2 pos))
  fits_still k b' words' Else same still by (Seat w) there e =
      still by w there (k.fits by (Seat w) e)
  fits_still k b' words' Else same still by (Pair u w) there e =
      let f = k.fits by (Pair u w) e in
      (still by (of_no_slot u) there f.0, still by w there f.1, f.2)
  fits_still k b' words' Else same still by Spent there e = tt

  -- the rule, where the keeper's view is known
  pub rule_of : (s : State ℕ (TokenView M)) (kept : IsKept s) (id : ℕ) (v : Keeping M)
      → get_elem? s.views id ≡ some (Keeper v)
      → BoardRule (record kept.0 { id = id; view = v }) s.words s.views
  rule_of s kept id v at =
      let mine = kept.1.fits id (Keeper v) at in
      subst (λ (b : BoardState M). BoardRule b s.words s.views)
      (λ i. record kept.0 { id = sym mine.0 i; view = sym mine.1 i }) kept.1

  -- what a token is after a call, where it had no slots of the table
  pub after : {me now : Me ℕ (TokenView M)} {v w : TokenView M} → me ≡ (v, [])
      → now ≡ (w, me.1) → now ≡ (w, [])
  after {w = w} was is = is ∙ (λ i. (w, (was i).1))

  -- a split of a token that is known
  pub splits_as : {now : Me ℕ (TokenView M)} {v : TokenView M} {more : List (ℕ × ℕ)} (id : ℕ)
      (left right : TokenView M → TokenView M) → now ≡ (v, more)
      → Splits IsKept id v (left v) (right v)
      → Splits IsKept id now.0 (left now.0) (right now.0)
  splits_as id left right is split =
      subst (λ (m : Me ℕ (TokenView M)). Splits IsKept id m.0 (left m.0) (right m.0)) (sym is)
      split

  -- a join of tokens that are known
  pub joins_as : {me you : Me ℕ (TokenView M)} {v w : TokenView M} (id other : ℕ)
      (both : TokenView M → TokenView M → TokenView M) → me ≡ (v, []) → you ≡ (w, [])
      → Joins IsKept id v other w (both v w) Spent
      → Joins IsKept id me.0 other you.0 (both me.0 you.0) Spent
  joins_as id other both is are join =
      subst
      (λ (p : TokenView M × TokenView M). Joins IsKept id p.0 other p.1 (both p.0 p.1) Spent)
      (λ i. ((sym is i).0, (sym are i).0)) join

  -- what a token has heard stays true where a word rises
  pub heard_word : (words : List ℕ) (k n : ℕ) (v : TokenView M)
      → (0 < k → slice_index words k ≤ n) → HeardFits words v
      → HeardFits (slice_set words k n) v
  heard_word words k n (Keeper v) rises h = (
    heard_rises words k n v.register.heard rises h.0,
    heard_rises words k n v.back.author.heard rises h.1,
  )
  heard_word words k n (Seat w) rises h = heard_rises words k n w.author.heard rises h
  heard_word words k n (Pair u w) rises h = (
    heard_rises words k n u.author.heard rises h.0,
    heard_rises words k n w.author.heard rises h.1,
  )
  heard_word words k n Spent rises h = tt

  -- a seat of no slot came back that knew all
  pub came_self : (book : Book) → CameBack {M = M} book (slotless_sitting book no_author) unused
  came_self book = (([], rw append-nil), λ (lt : 0 < 0). absurd (omega arith))

  -- a seat's slot, where its word is known
  pub sits_at : {slots : List (KnownSlot M)} {holder : ℕ → ℕ} {words words' : List ℕ}
      {slot asks asks' number : ℕ} {name : Option M} → slice_index words' slot ≡ asks'
      → Sits slots holder words slot asks name number
      → Sits slots holder words' slot asks' name number
  sits_at is t =
      record { within = t.within; out = t.out; named = t.named; word = is; only = t.only }

  -- a seat's slot, where the keeper knows the same of it, and it has the same holder
  pub sits_same : {slots slots' : List (KnownSlot M)} {holder holder' : ℕ → ℕ} {words : List ℕ}
      {slot asks number : ℕ} {name : Option M}
      → ((slot_at slots' slot).out ≡ (slot_at slots slot).out)
      × ((slot_at slots' slot).name ≡ (slot_at slots slot).name) → holder' slot ≡ holder slot
      → Sits slots holder words slot asks name number
      → Sits slots' holder' words slot asks name number
  sits_same same held t =
      record {
        within = t.within;
        out = same.0 ∙ t.out;
        named = same.1 ∙ t.named;
        word = t.word;
        only = t.only ∙ sym held;
      }

  -- seats of two authors are out of two slots
  pub slots_apart : {slots : List (KnownSlot M)} {holder : ℕ → ℕ} {words : List ℕ}
      {slot slot' asks asks' number number' : ℕ} {name name' : Option M} → number ≢ number'
      → Sits slots holder words slot asks name number
      → Sits slots holder words slot' asks' name' number' → slot ≢ slot'
  slots_apart {holder = holder} ne t u i = ne (t.only ∙ ap holder i ∙ sym u.only)
