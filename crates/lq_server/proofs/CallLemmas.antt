-- The calls by which the changes of a book were made, and the seats.
use Rattle.std.proofs.Common.{◌≡◌, ◌⊎◌, ⊎_elim, inl, inr, ℕ, zero, suc, ◌+◌, ◌-◌, ◌<◌, ◌≤◌, Bool, true, false, cond, eqb, eqb-true, eq-eqb, ne_eqb, Contains, List, [], ◌∷◌, ◌++◌, length, length-append, append_assoc, map, slice_get, take, Option, Some, refl, sym, ap, ap₂, subst, ◌∙◌, arith}
use Rattle.std.proofs.lemmas.Bool.Decides.{nat_tests}
use Rattle.std.proofs.lemmas.Grind.{common_steps}
use Rattle.std.proofs.lemmas.List.Elements.{All-contains}
use Rattle.std.proofs.lemmas.List.{take-map, take_at}
use Rattle.std.proofs.lemmas.Option.{gets, slice_get_within}
use Rattle.lq_volume.specs.State.{State}
use Rattle.lq_volume.specs.declared.change.Change.{Change}
use Rattle.lq_volume.specs.Book.{Book}
use Rattle.lq_board.specs.Roll.{numbers, numbers_after, times}
use Rattle.lq_board.specs.Token.{SeatToken}
use Rattle.lq_server_slots.specs.declared.identity.Identity.{Identity}
use Rattle.lq_server.specs.Counted.{AcceptedCall, IsCallIn, CallsMakeTheBook, numbers_answered, changes_at, AreRising, AreMixed, AreMixedEarlier, HasMadeJust, TwoSeatsMakeTheBook}

-- the change of a call is in each book that extends the one that its seat then knew, under its
-- number
call_at : (book : Book) (call : AcceptedCall) (n : ℕ) → IsCallIn book call
    → call.answer.change ≡ n + 1
    → slice_get book.changes n ≡ Some call.change
call_at book call n is number = grind (arith, common_steps, gets)

-- none of the next numbers is one before
none_of : (m k x : ℕ) → x ≤ m → times x (numbers_after m k) ≡ 0
none_of m zero x low = refl
none_of m (suc k) x low =
    let rest = none_of (m + 1) k x (omega (arith, low)) in
    ap (λ (b : Bool). cond b 1 0 + times x (numbers_after (m + 1) k))
    (ne_eqb (m + 1) x (λ e. omega (arith, e, low)))
    ∙ omega (arith, rest)

-- each comes once, if it is the first, or once after the first
once_by : (m x rest : ℕ) → m < x → (x ≤ m + 1 → rest ≡ 0) → (m + 1 < x → rest ≡ 1)
    → cond (eqb (m + 1) x) 1 0 + rest ≡ 1
once_by m x rest low none one = grind (arith, nat_tests)

-- each of the next numbers comes once
once_of : (m k x : ℕ) → m < x → x ≤ m + k → times x (numbers_after m k) ≡ 1
once_of m zero x low high = absurd (omega (arith, low, high))
once_of m (suc k) x low high =
    once_by m x (times x (numbers_after (m + 1) k)) low (none_of (m + 1) k x)
    (λ more. once_of (m + 1) k x more (omega (arith, high)))

-- a call that was answered this number
pub record IsAnswered (x : ℕ) (calls : List AcceptedCall) : Type 0 where
  pub call : AcceptedCall
  pub among : Contains calls call
  pub number : call.answer.change ≡ x

-- a number that was answered was answered to a call, by cases on the first
answered_by : (x : ℕ) (c : AcceptedCall) (calls : List AcceptedCall) (b : Bool)
    → b ≡ eqb c.answer.change x
    → 0 < cond b 1 0 + times x (numbers_answered calls)
    → (0 < times x (numbers_answered calls) → IsAnswered x calls) → IsAnswered x (c ∷ calls)
answered_by x c calls true is some rest =
    record {
      call = c;
      among = (0, omega arith, refl);
      number = eqb-true c.answer.change x (sym is);
    }
answered_by x c calls false is some rest =
    let r = rest (omega (arith, some)) in
    let lt = r.among.1 in
    record {
      call = r.call;
      among = (suc r.among.0, omega (arith, lt), r.among.2);
      number = r.number;
    }

-- a number that was answered was answered to a call
answered : (x : ℕ) (calls : List AcceptedCall) → 0 < times x (numbers_answered calls)
    → IsAnswered x calls
answered x [] some = absurd (omega (arith, some))
answered x (c ∷ calls) some =
    answered_by x c calls (eqb c.answer.change x) refl some (answered x calls)

-- the law
pub make_the_book : CallsMakeTheBook
make_the_book book calls each all n lt =
    let once : times (n + 1) (numbers_answered calls) ≡ 1 =
    all (n + 1) ∙ once_of 0 (length book.changes) (n + 1) (omega arith) (omega (arith, lt)) in
    let a = answered (n + 1) calls (omega (arith, once)) in
    record {
      call = a.call;
      among = a.among;
      number = a.number;
      place =
          call_at book a.call n (All-contains (IsCallIn book) calls a.call each a.among) a.number;
      once = once;
    }

-- ---- the changes of two seats

-- a book with these changes
abbrev book_of : State → List Change → Book
book_of s changes = record { start = s; changes = changes }

-- a number before those that rise isn't among them
none_rising : (n x : ℕ) (xs : List ℕ) → AreRising n xs → x ≤ n → times x xs ≡ 0
none_rising n x [] rise low = refl
none_rising n x (y ∷ xs) rise low =
    let above = rise.0 in
    let rest = none_rising y x xs rise.1 (omega (arith, above, low)) in
    ap (λ (b : Bool). cond b 1 0 + times x xs) (ne_eqb y x (λ e. omega (arith, e, low, above)))
    ∙ omega (arith, rest)

-- a number above another is the next or above that
ne_lt : (m x : ℕ) → m < x → (x ≡ m + 1 → ⊥) → m + 1 < x
ne_lt m x above ne = grind arith

-- how often a number is at the head
abbrev at_head : ℕ → ℕ → ℕ
at_head x y = cond (eqb y x) 1 0

head_same : (x : ℕ) → at_head x x ≡ 1
head_same x = ap (λ (b : Bool). cond b 1 0) (eq-eqb x x refl)

-- a list of which no number is is empty
none_left : (xs : List ℕ) → ((x : ℕ) → times x xs ≡ 0) → xs ≡ []
none_left [] none = refl
none_left (y ∷ xs) none =
    let here = none y in
    let one = head_same y in
    absurd (omega (arith, here, one))

-- both lists rise after m, and each of the next k numbers is in one of them, once
record AreParts (m k : ℕ) (xs ys : List ℕ) : Type 0 where
  pub first : AreRising m xs
  pub second : AreRising m ys
  pub each : (x : ℕ) → times x (numbers_after m k) ≡ times x xs + times x ys

-- the other way round
swapped : (m k : ℕ) (xs ys : List ℕ) → AreParts m k xs ys → AreParts m k ys xs
swapped m k xs ys p = record {
  first = p.second;
  second = p.first;
  each = λ x. let e = p.each x in omega (arith, e);
}

-- the next number heads one of both lists
pub record IsHead (n : ℕ) (xs : List ℕ) : Type 0 where
  pub rest : List ℕ
  pub whole : xs ≡ n ∷ rest

-- a list that rises after m and has m + 1 is headed by it, by whether its first is that
heads_by : (m x : ℕ) (xs : List ℕ) (b : Bool) → b ≡ eqb x (m + 1) → m < x → AreRising x xs
    → 0 < cond b 1 0 + times (m + 1) xs → IsHead (m + 1) (x ∷ xs)
heads_by m x xs true is above rise some =
    record { rest = xs; whole = ap (λ (y : ℕ). y ∷ xs) (eqb-true x (m + 1) (sym is)) }
heads_by m x xs false is above rise some =
    let none = none_rising x (m + 1) xs rise (omega (arith, above)) in
    absurd (omega (arith, none, some))

-- a list that rises after m and has m + 1 is headed by it
heads : (m : ℕ) (xs : List ℕ) → AreRising m xs → 0 < times (m + 1) xs → IsHead (m + 1) xs
heads m [] rise some = absurd (omega (arith, some))
heads m (x ∷ xs) rise some = heads_by m x xs (eqb x (m + 1)) refl rise.0 rise.1 some

-- a list that rises after m and doesn't have m + 1 rises after that
rises_on : (m : ℕ) (xs : List ℕ) → AreRising m xs → times (m + 1) xs ≡ 0 → AreRising (m + 1) xs
rises_on m [] rise none = tt
rises_on m (x ∷ xs) rise none =
    let above = rise.0 in (
      ne_lt m x above (λ e.
          let same = ap (λ (b : Bool). cond b 1 0 + times (m + 1) xs) (eq-eqb x (m + 1) e) in
          omega (arith, same, none)),
      rise.1,
    )

-- one number of two
one_of : (a b : ℕ) → a + b ≡ 1 → (0 < a) ⊎ (0 < b)
one_of zero b one = inr (omega (arith, one))
one_of (suc a) b one = inl (omega arith)

-- without its first number, which heads the first list, the rest is both lists' too
parts_on : (m k : ℕ) (xs ys : List ℕ) → AreParts m (suc k) ((m + 1) ∷ xs) ys
    → AreParts (m + 1) k xs ys
parts_on m k xs ys p =
    let here = p.each (m + 1) in
    let next = none_of (m + 1) k (m + 1) (omega arith) in
    let one = head_same (m + 1) in
    record {
      first = p.first.1;
      second = rises_on m ys p.second (omega (arith, here, next, one));
      each = λ x. let e = p.each x in omega (arith, e);
    }

-- the numbers of both lists are these lists mixed
mixed_numbers : (k m : ℕ) (xs ys : List ℕ) → AreParts m k xs ys
    → AreMixed xs ys (numbers_after m k)
mixed_numbers zero m xs ys p = (
  none_left xs (λ x. let e = p.each x in omega (arith, e)),
  none_left ys (λ x. let e = p.each x in omega (arith, e)),
)
mixed_numbers (suc k) m xs ys p =
    let here = p.each (m + 1) in
    let next = none_of (m + 1) k (m + 1) (omega arith) in
    let one = head_same (m + 1) in
    ⊎_elim
    (λ (some : 0 < times (m + 1) xs).
    let h = heads m xs p.first some in
    inl (
      h.rest,
      h.whole,
      mixed_numbers k (m + 1) h.rest ys
          (parts_on m k h.rest ys (subst (λ (l : List ℕ). AreParts m (suc k) l ys) h.whole p)),
    ))
    (λ (some : 0 < times (m + 1) ys).
    let h = heads m ys p.second some in
    inr (
      h.rest,
      h.whole,
      mixed_numbers k (m + 1) xs h.rest
          (swapped (m + 1) k h.rest xs
          (parts_on m k h.rest xs
          (subst (λ (l : List ℕ). AreParts m (suc k) l xs) h.whole (swapped m (suc k) xs ys p)))),
    ))
    (one_of (times (m + 1) xs) (times (m + 1) ys) (omega (arith, here, next, one)))

-- lists mixed are mixed at each of their values
mixed-map : {A B : Type 0} → (f : A → B) (zs xs ys : List A) → AreMixed xs ys zs
    → AreMixed (map f xs) (map f ys) (map f zs)
mixed-map f [] xs ys m = (ap (map f) m.0, ap (map f) m.1)
mixed-map f (z ∷ zs) xs ys m =
    elim m [
      | inl h ↦ inl (map f h.0, ap (map f) h.1, mixed-map f zs h.0 ys h.2)
      | inr h ↦ inr (map f h.0, ap (map f) h.1, mixed-map f zs xs h.0 h.2)
    ]

-- what is there of a list that begins with what is there
record IsSomeRest {T : Type 0} (xs : List T) (z : T) (rest : List (Option T)) : Type 0 where
  pub tail : List T
  pub whole : xs ≡ z ∷ tail
  pub same : rest ≡ map (λ x. Some x) tail

some_rest : {T : Type 0} → (xs : List T) (z : T) (rest : List (Option T))
    → map (λ x. Some x) xs ≡ Some z ∷ rest → IsSomeRest xs z rest
some_rest [] z rest h = cc
some_rest (x ∷ xs) z rest h = record { tail = xs; whole = cc; same = cc }

-- no list of what is there is empty but the empty one
some_none : {T : Type 0} → (xs : List T) → map (λ x. Some x) xs ≡ [] → xs ≡ []
some_none [] h = refl
some_none (x ∷ xs) h = cc

-- lists are mixed, where those of what is there are
mixed_somes : {T : Type 0} → (zs xs ys : List T)
    → AreMixed (map (λ x. Some x) xs) (map (λ x. Some x) ys) (map (λ x. Some x) zs)
    → AreMixed xs ys zs
mixed_somes [] xs ys m = (some_none xs m.0, some_none ys m.1)
mixed_somes {T = T} (z ∷ zs) xs ys m =
    elim m [
      | inl h ↦
          let r = some_rest xs z h.0 h.1 in
          inl (
            r.tail,
            r.whole,
            mixed_somes zs r.tail ys (subst (λ (l : List (Option T)).
                AreMixed l (map (λ x. Some x) ys) (map (λ x. Some x) zs)) r.same h.2),
          )
      | inr h ↦
          let r = some_rest ys z h.0 h.1 in
          inr (
            r.tail,
            r.whole,
            mixed_somes zs xs r.tail (subst (λ (l : List (Option T)).
                AreMixed (map (λ x. Some x) xs) l (map (λ x. Some x) zs)) r.same h.2),
          )
    ]

-- the changes of a book under its last numbers are its last changes
last_changes : (s : State) (front xs : List Change)
    → changes_at (book_of s (front ++ xs)) (numbers_after (length front) (length xs))
    ≡ map (λ c. Some c) xs
last_changes s front [] = refl
last_changes s front (x ∷ xs) =
    let next : List Change = front ++ x ∷ [] in
    ap₂ (λ (o : Option Change) (os : List (Option Change)). o ∷ os)
    (grind (arith, common_steps, gets))
    (subst
    (λ (l : List Change).
    changes_at (book_of s l) (numbers_after (length front + 1) (length xs))
    ≡ map (λ c. Some c) xs)
    (append_assoc front (x ∷ []) xs)
    (subst
    (λ (k : ℕ).
    changes_at (book_of s (next ++ xs)) (numbers_after k (length xs))
    ≡ map (λ c. Some c) xs)
    (length-append front (x ∷ [])) (last_changes s next xs)))

-- ---- a book before it

-- the lists may be taken the other way round
mixed-swap : {T : Type 0} → (zs xs ys : List T) → AreMixed xs ys zs → AreMixed ys xs zs
mixed-swap [] xs ys m = (m.1, m.0)
mixed-swap (z ∷ zs) xs ys m =
    elim m [
      | inl h ↦ inr (h.0, h.1, mixed-swap zs h.0 ys h.2)
      | inr h ↦ inl (h.0, h.1, mixed-swap zs xs h.0 h.2)
    ]

-- a number of the first list under which the book has a change, and the rest of both
pub record IsFirstMade (book : Book) (x : ℕ) (ns : List ℕ) (changes : List Change) : Type 0 where
  pub rest : List Change
  pub within : x - 1 < length book.changes
  pub made : changes_at book ns ≡ map (λ c. Some c) rest

first_made : (book : Book) (x : ℕ) (ns : List ℕ) (changes : List Change)
    → changes_at book (x ∷ ns) ≡ map (λ c. Some c) changes → IsFirstMade book x ns changes
first_made book x ns [] h = cc
first_made book x ns (c ∷ changes) h =
    let here : slice_get book.changes (x - 1) ≡ Some c = cc in
    record {
      rest = changes;
      within = slice_get_within book.changes (x - 1) c here;
      made = cc;
    }

-- none of some numbers, mixed with others to those after l, is that of a change of a book of no
-- more than l
none_within : (n l : ℕ) (book : Book) (xs ys : List ℕ) (changes : List Change)
    → length book.changes ≤ l → AreMixed xs ys (numbers_after l n)
    → changes_at book xs ≡ map (λ c. Some c) changes → xs ≡ []
none_within n l book [] ys changes le mix made = refl
none_within zero l book (x ∷ xs) ys changes le mix made = mix.0
none_within (suc n) l book (x ∷ xs) ys changes le mix made =
    elim mix [
      | inl h ↦
          let low = (first_made book x xs changes made).within in
          let same : x ≡ l + 1 = cc in
          absurd (omega arith)
      | inr h ↦ none_within n (l + 1) book (x ∷ xs) h.0 changes (omega arith) h.2 made
    ]

-- Where one of two lists that are mixed to the numbers after m has none above the first k of them,
-- all of it and the first of the other are mixed to those.
pub record NumbersMixed (xs ys zs : List ℕ) (k : ℕ) : Type 0 where
  pub others : ℕ
  pub mixed : AreMixed xs (take others ys) (take k zs)

mixed_first : (k n m : ℕ) (book : Book) (xs ys : List ℕ) (changes : List Change)
    → length book.changes ≡ m + k → k ≤ n → AreMixed xs ys (numbers_after m n)
    → changes_at book xs ≡ map (λ c. Some c) changes → NumbersMixed xs ys (numbers_after m n) k
mixed_first zero n m book xs ys changes is le mix made =
    record { others = 0; mixed = (none_within n m book xs ys changes (omega arith) mix made, refl) }
mixed_first (suc k) zero m book xs ys changes is le mix made = absurd (omega arith)
mixed_first (suc k) (suc n) m book xs ys changes is le mix made =
    elim mix [
      | inl h ↦
          let on =
          first_made book (m + 1) h.0 changes
          (subst (λ (l : List ℕ). changes_at book l ≡ map (λ c. Some c) changes) h.1 made) in
          let r =
          mixed_first k n (m + 1) book h.0 ys on.rest (omega arith) (omega arith) h.2 on.made in
          record { others = r.others; mixed = inl (h.0, h.1, r.mixed) }
      | inr h ↦
          let r =
          mixed_first k n (m + 1) book xs h.0 changes (omega arith) (omega arith) h.2 made in
          record {
            others = suc r.others;
            mixed = inr (take r.others h.0, ap (take (suc r.others)) h.1, r.mixed);
          }
    ]

-- changes are mixed, where their numbers in a book are, and those are all numbers of an earlier one
changes_mixed : (book : Book) (xs ys zs : List ℕ) (first second whole : List Change)
    → changes_at book xs ≡ map (λ c. Some c) first → changes_at book ys ≡ map (λ c. Some c) second
    → changes_at book zs ≡ map (λ c. Some c) whole → AreMixed xs ys zs
    → AreMixed first second whole
changes_mixed book xs ys zs first second whole f s w mix =
    mixed_somes whole first second
    (subst
    (λ (l : List (Option Change)).
    AreMixed l (map (λ c. Some c) second) (map (λ c. Some c) whole)) f
    (subst (λ (l : List (Option Change)). AreMixed (changes_at book xs) l (map (λ c. Some c) whole))
    s
    (subst (λ (l : List (Option Change)). AreMixed (changes_at book xs) (changes_at book ys) l) w
    (mixed-map (λ (m : ℕ). slice_get book.changes (m - 1)) zs xs ys mix))))

-- the book that a seat knew when it had made all of its changes
mixed_earlier : (book : Book) (one two : SeatToken Identity) (first second : List Change)
    → HasMadeJust book one first → HasMadeJust book two second
    → AreMixed one.author.changes two.author.changes (numbers (length book.changes))
    → AreMixedEarlier book one first second
mixed_earlier book one two first second f s mix earlier later e =
    let xs : List ℕ = one.author.changes in
    let ys : List ℕ = two.author.changes in
    let n : ℕ = length book.changes in
    let k : ℕ = length earlier.changes in
    let long : n ≡ k + length later.0 =
    ap (λ (b : Book). length b.changes) later.1 ∙ length-append earlier.changes later.0 in
    let r = mixed_first k n 0 earlier xs ys first (omega arith) (omega arith) mix e.made in
    let known : take k book.changes ≡ earlier.changes =
    ap (λ (c : Book). take k c.changes) later.1 ∙ take_at earlier.changes later.0 k refl in
    let at : ℕ → Option Change = λ (m : ℕ). slice_get book.changes (m - 1) in
    record {
      others = r.others;
      mixed = changes_mixed book xs (take r.others ys) (take k (numbers n)) first
          (take r.others second) earlier.changes f.made
          (sym (take-map at r.others ys) ∙ ap (take r.others) s.made
          ∙ take-map (λ (c : Change). Some c) r.others second)
          (sym (take-map at k (numbers n))
          ∙ ap (take k) (last_changes book.start [] book.changes)
          ∙ take-map (λ (c : Change). Some c) k book.changes
          ∙ ap (map (λ (c : Change). Some c)) known) r.mixed;
    }

-- the law of two seats
pub two_make_the_book : TwoSeatsMakeTheBook
two_make_the_book book one two first second gathered all f s early late whole =
    let xs : List ℕ = one.author.changes in
    let ys : List ℕ = two.author.changes in
    let n : ℕ = length book.changes in
    let mixed : AreMixed xs ys (numbers n) =
    mixed_numbers n 0 xs ys
    (record {
      first = f.rise;
      second = s.rise;
      each = λ x.
          let a = early.each x in
          let b = late.each x in
          let c = ap (times x) whole in
          omega (arith, a, b, c);
    }) in (
      changes_mixed book xs ys (numbers n) first second book.changes f.made s.made
          (last_changes book.start [] book.changes) mixed,
      subst (λ (l : List ℕ). AreMixed xs ys l) (sym whole) mixed,
      mixed_earlier book one two first second f s mixed,
      mixed_earlier book two one second first s f (mixed-swap (numbers n) xs ys mixed),
    )
