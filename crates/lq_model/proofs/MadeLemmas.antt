-- The changes that a seat made, in the book that it knows.
use Rattle.std.proofs.Common.{◌≡◌, ℕ, zero, suc, ◌+◌, ◌-◌, ◌<◌, ◌≤◌, List, [], ◌∷◌, ◌++◌, length, map, take, slice_get, Option, Some, None, Result, Ok, Err, refl, sym, ap, ap₂, ◌∙◌, subst, arith, length-append, append_assoc, ◌⊎◌, inl, inr, ⊎_elim}
use Rattle.std.specs.Prelude.{unwrap_or}
use Rattle.std.proofs.lemmas.Grind.{common_steps}
use Rattle.std.proofs.lemmas.List.{map-append}
use Rattle.std.proofs.lemmas.Option.{gets, slice_get_within}
use Rattle.lq_value.specs.declared.refusal.Refusal.{Refusal}
use Rattle.lq_value.specs.declared.refusal.Refusal.TheVariants.{NoMemory}
use Rattle.lq_volume.specs.State.{State}
use Rattle.lq_volume.specs.declared.change.Change.{Change}
use Rattle.lq_volume.specs.declared.change.Applied.{Applied}
use Rattle.lq_volume.specs.Change.{refused}
use Rattle.lq_volume.specs.Book.{Book, Extends, state_of}
use Rattle.lq_board.specs.Known.{Author}
use Rattle.lq_board.specs.Roll.{numbers, numbers_after}
use Rattle.lq_board.specs.Author.{with_change}
use Rattle.lq_board.specs.Token.{SeatToken}
use Rattle.lq_server_slots.specs.declared.identity.Identity.{Identity}
use Rattle.lq_server_slots.specs.Applied.{IsAdded}
use Rattle.lq_server.specs.Counted.{AreRising, changes_at}
use Rattle.lq_model.specs.Followed.{book_with, AreRefused, HasApplied, HasMade, HasStopped, IsRefusedAt}

-- the changes of a book under all its numbers are all its changes, where some come before
pub all_after : (front xs : List Change)
    → map (λ n. slice_get (front ++ xs) (n - 1)) (numbers_after (length front) (length xs))
    ≡ map (λ c. Some c) xs
all_after front [] = refl
all_after front (x ∷ xs) =
    let next : List Change = front ++ x ∷ [] in
    ap₂ (λ (o : Option Change) (os : List (Option Change)). o ∷ os)
    (grind (arith, common_steps, gets))
    (subst
    (λ (l : List Change).
    map (λ n. slice_get l (n - 1)) (numbers_after (length front + 1) (length xs))
    ≡ map (λ c. Some c) xs)
    (append_assoc front (x ∷ []) xs)
    (subst
    (λ (k : ℕ).
    map (λ n. slice_get (next ++ xs) (n - 1)) (numbers_after k (length xs))
    ≡ map (λ c. Some c) xs)
    (length-append front (x ∷ [])) (all_after next xs)))

-- equal lists have one head
head_same : (o : Option Change) (os ps : List (Option Change)) (p : Option Change)
    → o ∷ os ≡ p ∷ ps → o ≡ p
head_same o os ps p h = cc

-- and one rest
tail_same : (o : Option Change) (os ps : List (Option Change)) (p : Option Change)
    → o ∷ os ≡ p ∷ ps → os ≡ ps
tail_same o os ps p h = cc

-- equal changes, where both are there
one_same : (x y : Change) → Some x ≡ Some y → x ≡ y
one_same x y h = cc

-- equal lists of changes, where all are there
somes_same : (xs ys : List Change) → map (λ c. Some c) xs ≡ map (λ c. Some c) ys → xs ≡ ys
somes_same [] [] h = refl
somes_same [] (y ∷ ys) h = cc
somes_same (x ∷ xs) [] h = cc
somes_same (x ∷ xs) (y ∷ ys) h =
    ap₂ (λ (c : Change) (cs : List Change). c ∷ cs) (one_same x y (head_same _ _ _ _ h))
    (somes_same xs ys (tail_same _ _ _ _ h))

-- changes that a book has under some numbers are those of each book that extends it
pub changes_at-later : (b c : Book) (numbers : List ℕ) (changes : List Change) → Extends c b
    → changes_at b numbers ≡ map (λ x. Some x) changes
    → changes_at c numbers ≡ map (λ x. Some x) changes
changes_at-later b c [] [] e h = refl
changes_at-later b c [] (x ∷ changes) e h = cc
changes_at-later b c (n ∷ numbers) [] e h = cc
changes_at-later b c (n ∷ numbers) (x ∷ changes) e h =
    let here : slice_get c.changes (n - 1) ≡ Some x = grind (arith, common_steps, gets) in
    ap₂ (λ (o : Option Change) (os : List (Option Change)). o ∷ os) here
    (changes_at-later b c numbers changes e (tail_same _ _ _ _ h))

-- a change that was added stands in the book under its number
added_at : (old new : Book) (a : Applied) (c : Change) → IsAdded old new a c
    → slice_get new.changes (a.change - 1) ≡ Some c
added_at old new a c d =
    grind (arith, common_steps, gets)

-- numbers rise under which a book has changes, also with one above all that it has
rises_more : (b : Book) (n k : ℕ) (ns : List ℕ) (changes : List Change) → AreRising n ns
    → changes_at b ns ≡ map (λ c. Some c) changes → n < k → length b.changes < k
    → AreRising n (ns ++ k ∷ [])
rises_more b n k [] changes rise made low above = (low, tt)
rises_more b n k (x ∷ ns) [] rise made low above = cc
rises_more b n k (x ∷ ns) (c ∷ changes) rise made low above =
    let lt = slice_get_within b.changes (x - 1) c (head_same _ _ _ _ made) in (
      rise.0,
      rises_more b x k ns changes rise.1 (tail_same _ _ _ _ made) (omega (arith, lt, above)) above,
    )

-- an author with other changes
abbrev with_changes : Author → List ℕ → Author
with_changes a changes = record a { changes = changes }

-- with one change more, the seat has made that too
pub made_more : (old mid new : SeatToken Identity) (changes : List Change) (a : Applied)
    (c : Change) → HasMade old mid changes → new.author ≡ with_change mid.author a.change
    → IsAdded mid.book new.book a c → HasMade old new (changes ++ c ∷ [])
made_more old mid new changes a c m author added = record {
  numbers = m.numbers ++ a.change ∷ [];
  rise =
      let above = added.above in
      rises_more mid.book 0 a.change m.numbers changes m.rise m.made (omega (arith, above)) above;
  author =
      author
      ∙ ap (λ (x : Author). with_change x a.change) m.author
      ∙ ap (λ (ns : List ℕ). with_changes old.author ns)
      (append_assoc old.author.changes m.numbers (a.change ∷ []));
  made =
      map-append (λ n. slice_get new.book.changes (n - 1)) m.numbers (a.change ∷ [])
      ∙ ap₂ (λ (xs ys : List (Option Change)). xs ++ ys)
      (changes_at-later mid.book new.book m.numbers changes added.later m.made)
      (ap (λ (o : Option Change). o ∷ []) (added_at mid.book new.book a c added))
      ∙ sym (map-append (λ x. Some x) changes (c ∷ []));
}

-- A seat that had made nothing made these changes, and then met another. Where its own are all of
-- the last book, that book has just these changes.
pub made_all : (old new met : SeatToken Identity) (changes : List Change) (book : Book) (n : ℕ)
    → old.author.changes ≡ [] → HasMade old new changes → met ≡ record new { book = met.book }
    → Extends book new.book → met.author.changes ≡ numbers n → n ≡ length book.changes
    → book.changes ≡ changes
made_all old new met changes book n fresh m stays later all number =
    let own : met.author.changes ≡ m.numbers =
    ap (λ (s : SeatToken Identity). s.author.changes) stays
    ∙ ap (λ (a : Author). a.changes) m.author ∙ ap (λ (ns : List ℕ). ns ++ m.numbers) fresh in
    let each : changes_at book (numbers (length book.changes)) ≡ map (λ c. Some c) changes =
    subst (λ (ns : List ℕ). changes_at book ns ≡ map (λ c. Some c) changes)
    (sym own ∙ all ∙ ap numbers number)
    (changes_at-later new.book book m.numbers changes later m.made) in
    somes_same book.changes changes (sym (all_after [] book.changes) ∙ each)

-- numbers under which a list has changes are no more than the list has
numbers_within : (ys xs : List Change) (k n : ℕ) → k ≤ length ys
    → map (λ n. slice_get ys (n - 1)) (numbers_after k n) ≡ map (λ c. Some c) xs
    → k + n ≤ length ys
numbers_within ys xs k zero le h = omega arith
numbers_within ys [] k (suc n) le h = cc
numbers_within ys (x ∷ xs) k (suc n) le h =
    let back : k + 1 - 1 ≡ k = omega arith in
    let here : slice_get ys k ≡ Some x =
    subst (λ (i : ℕ). slice_get ys i ≡ Some x) back (head_same _ _ _ _ h) in
    let lt = slice_get_within ys k x here in
    let rest = numbers_within ys xs (k + 1) n (omega arith) (tail_same _ _ _ _ h) in
    omega arith

-- Where a seat's changes are all that were made, no fewer than the book that it knows has, it knows
-- just those.
made_then : (book : Book) (ns : List ℕ) (changes : List Change) (n : ℕ)
    → changes_at book ns ≡ map (λ c. Some c) changes → ns ≡ numbers n → length book.changes ≤ n
    → book.changes ≡ changes
made_then book ns changes n made all most =
    let each : changes_at book (numbers n) ≡ map (λ c. Some c) changes =
    subst (λ (l : List ℕ). changes_at book l ≡ map (λ c. Some c) changes) all made in
    let least = numbers_within book.changes changes 0 n (omega arith) each in
    let whole : n ≡ length book.changes = omega arith in
    somes_same book.changes changes
    (sym (all_after [] book.changes)
    ∙ subst (λ (k : ℕ). changes_at book (numbers k) ≡ map (λ c. Some c) changes) whole each)

-- a change was refused after just those before it, where the seat's changes are all that were made
pub stopped_so : (seat : SeatToken Identity) (start : State) (changes : List Change)
    (e : Refusal) (n : ℕ) → HasStopped seat start changes e → seat.author.changes ≡ numbers n
    → length seat.book.changes ≤ n → AreRefused start changes e
stopped_so seat start changes e n s all most =
    let made : seat.book.changes ≡ take s.accepted changes =
    made_then seat.book seat.author.changes (take s.accepted changes) n s.made all most in
    let book : seat.book ≡ book_with start (take s.accepted changes) =
    λ i. record { start = s.begins i; changes = made i } in
    ⊎_elim (λ (h : e ≡ NoMemory). inl h)
    (λ (r : IsRefusedAt seat.book changes s.accepted e).
    inr (s.accepted, subst (λ (b : Book). IsRefusedAt b changes s.accepted e) book r))
    s.refused

-- a refused change is refused by the volume, or for want of memory
pub refused_or : (o : Option Refusal) (e : Refusal) → e ≡ unwrap_or o NoMemory
    → (e ≡ NoMemory) ⊎ (o ≡ Some e)
refused_or None e h = inl h
refused_or (Some r) e h = inr (ap (λ (x : Refusal). Some x) (sym h))

-- so is one of those given
pub refused_here : (book : Book) (changes : List Change) (i : ℕ) (x : Change) (e : Refusal)
    → slice_get changes i ≡ Some x → e ≡ unwrap_or (refused (state_of book) x) NoMemory
    → (e ≡ NoMemory) ⊎ IsRefusedAt book changes i e
refused_here book changes i x e place h =
    ⊎_elim (λ (n : e ≡ NoMemory). inl n)
    (λ (r : refused (state_of book) x ≡ Some e).
    inr (record { change = x; place_is = place; refused = r }))
    (refused_or (refused (state_of book) x) e h)

-- a seat that only knows a later book has made the same
pub made_still : (old mid new : SeatToken Identity) (changes : List Change)
    → HasMade old mid changes → new.author ≡ mid.author → Extends new.book mid.book
    → HasMade old new changes
made_still old mid new changes m author later = record {
  numbers = m.numbers;
  rise = m.rise;
  author = author ∙ m.author;
  made = changes_at-later mid.book new.book m.numbers changes later m.made;
}

-- where none was refused, the seat made all
pub made_ok : (old new : SeatToken Identity) (changes : List Change)
    (r : Result (Unit {0}) Refusal) → HasApplied old new changes r
    → ((x : Refusal) → r ≡ Err x → ⊥) → HasMade old new changes
made_ok old new changes (Ok u) a never = subst (HasMade old new) a.ok a.made
made_ok old new changes (Err e) a never = absurd (never e refl)

-- the first of the first are the first
pub take_less : (m n : ℕ) (xs : List Change) → (k : ℕ) × (take m (take n xs) ≡ take k xs)
take_less zero n xs = (0, refl)
take_less (suc m) zero xs = (0, refl)
take_less (suc m) (suc n) [] = (0, refl)
take_less (suc m) (suc n) (x ∷ xs) =
    let r = take_less m n xs in
    (suc r.0, ap (λ (l : List Change). x ∷ l) r.1)
