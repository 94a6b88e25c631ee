-- Who made each change, where one change more is made, or one seat more goes out.
use Rattle.std.proofs.Common.{◌≡◌, ◌≢◌, ℕ, zero, suc, ◌+◌, ◌-◌, ◌≤◌, Bool, true, true≢false, List, [], ◌∷◌, ◌++◌, length, refl, sym, ap, ◌∙◌, arith, length-append}
use Rattle.lq_volume.specs.declared.change.Change.{Change}
use Rattle.lq_volume.specs.Book.{Book, grown}
use Rattle.lq_board.specs.Known.{Author, Register}
use Rattle.lq_board.specs.Book.{IsFullBook}
use Rattle.lq_board.specs.Roll.{is_listed}
use Rattle.lq_board.specs.Author.{IsAuthor, AreDisjoint, HasHeard, new_author, come_home, with_author, with_change, with_heard, author_heard}
use Rattle.lq_board.specs.Rule.{BookFits, Roll, Owns}
use Rattle.lq_board.proofs.RollLemmas.{own_after, else_after, seats_more, seats_later, none_after, none_has, one_author, others_added}
use Rattle.lq_board.proofs.ViewLemmas.{owner_here, owner_else, moved, numbers_apart}

-- the register, where one seat more has a number, with these counts of openings and of seats out
abbrev pub numbered : (ℕ → ℕ) → (ℕ → ℕ) → Register → Register
numbered f h r = record r { seats = r.seats + 1; openings = f r.openings; out = h r.out }

-- its book fits as before
pub fits_later : (f h : ℕ → ℕ) (book : Book) (r : Register) (roll : Roll) → BookFits book r roll
    → BookFits book (numbered f h r) roll
fits_later f h book r roll b =
    record {
      full = b.full;
      signed =
          record { each = b.signed.each; seats = seats_later r.seats r.authors b.signed.seats };
      enlisted = seats_later r.seats roll.enlisted b.enlisted;
      gathered = b.gathered;
    }

-- that seat as an author
pub owns_new : (f h : ℕ → ℕ) (n : ℕ) (book : Book) (r : Register) (roll : Roll)
    → BookFits book r roll → Owns (numbered f h r) (moved roll (r.seats + 1) n) n (new_author r)
owns_new f h n book r roll b =
    record {
      author =
          record {
            least = omega arith;
            most = omega arith;
            changes =
                sym (none_after 0 r.seats (r.seats + 1) r.authors (omega arith) b.signed.seats);
            free = refl;
          };
      only = sym (owner_here roll.who (r.seats + 1) n);
      signs = λ counted.
          counted
          ∙ sym (none_has r.seats (r.seats + 1) roll.enlisted (omega arith) b.enlisted);
      leads = λ is. absurd (true≢false (sym is));
    }

-- another author, where one seat more has a number
pub owns_later : {r : Register} {roll : Roll} {by : ℕ} {a : Author} (f h : ℕ → ℕ) (n : ℕ)
    → Owns r roll by a → Owns (numbered f h r) (moved roll (r.seats + 1) n) by a
owns_later {r = r} {roll = roll} {a = a} f h n o =
    let is = o.author in
    let most : a.number ≤ r.seats + 1 = omega (arith, is.most) in
    record {
      author = record { least = is.least; most = most; changes = is.changes; free = is.free };
      only =
          o.only
          ∙ sym (owner_else roll.who (r.seats + 1) n a.number (λ e. omega (arith, e, is.most)));
      signs = o.signs;
      leads = o.leads;
    }

-- the register, where this many seats of no slot are out
abbrev pub outs : ℕ → Register → Register
outs n r = record r { out = n }

-- the book and an author are as before
pub fits_out : {book : Book} {r : Register} (roll : Roll) (n : ℕ) → BookFits book r roll
    → BookFits book (outs n r) roll
fits_out roll n b =
    record {
      full = b.full;
      signed = record { each = b.signed.each; seats = b.signed.seats };
      enlisted = b.enlisted;
      gathered = b.gathered;
    }

pub owns_out : {r : Register} {roll : Roll} {by : ℕ} {a : Author} (n : ℕ) → Owns r roll by a
    → Owns (outs n r) roll by a
owns_out n o =
    let is = o.author in
    record {
      author =
          record { least = is.least; most = is.most; changes = is.changes; free = is.free };
      only = o.only;
      signs = o.signs;
      leads = o.leads;
    }

-- the same, where a seat of this slot came home
pub fits_home : {book : Book} {r : Register} (roll : Roll) (slot : ℕ) → BookFits book r roll
    → BookFits book (come_home r slot) roll
fits_home {r = r} roll zero b = fits_out roll (r.out - 1) b
fits_home roll (suc slot) b = b

pub owns_home : {r : Register} {roll : Roll} {by : ℕ} {a : Author} (slot : ℕ)
    → Owns r roll by a → Owns (come_home r slot) roll by a
owns_home {r = r} zero o = owns_out (r.out - 1) o
owns_home (suc slot) o = o

-- the book and an author are as before where more was heard
pub fits_heard : {book : Book} {r : Register} (roll : Roll) (heard : List ℕ)
    → BookFits book r roll → BookFits book (with_heard r heard) roll
fits_heard roll heard b =
    record {
      full = b.full;
      signed = record { each = b.signed.each; seats = b.signed.seats };
      enlisted = b.enlisted;
      gathered = b.gathered;
    }

pub owns_heard : {r : Register} {roll : Roll} {by : ℕ} {a : Author} (heard : List ℕ)
    → Owns r roll by a → Owns (with_heard r heard) roll by a
owns_heard heard o =
    let is = o.author in
    record {
      author =
          record { least = is.least; most = is.most; changes = is.changes; free = is.free };
      only = o.only;
      signs = o.signs;
      leads = o.leads;
    }

pub owns_heard_author : {r : Register} {roll : Roll} {by : ℕ} {a : Author} (heard : List ℕ)
    → Owns r roll by a → Owns r roll by (author_heard a heard)
owns_heard_author heard o =
    let is = o.author in
    record {
      author =
          record { least = is.least; most = is.most; changes = is.changes; free = is.free };
      only = o.only;
      signs = o.signs;
      leads = λ is'. let l = o.leads is' in record {
        number = l.number;
        counted = l.counted;
        enlisted = l.enlisted;
        gathered = l.gathered;
      };
    }

-- what was heard is as before where a seat of this slot came home
pub heard_home : (words : List ℕ) (r : Register) (slot : ℕ) → HasHeard words r.heard
    → HasHeard words (come_home r slot).heard
heard_home words r zero h = h
heard_home words r (suc slot) h = h

-- no more seats are out then
pub out_home : (r : Register) (slot n : ℕ) → r.out ≤ n → (come_home r slot).out ≤ n
out_home r zero n most = omega (arith, most)
out_home r (suc slot) n most = most

-- the book, where an author that may make changes makes one more
pub fits_more : (book : Book) (r : Register) (roll : Roll) (by : ℕ) (a : Author) (x : Change)
    → IsFullBook (grown book (x ∷ [])) → a.signs ≡ true → Owns r roll by a → BookFits book r roll
    → BookFits (grown book (x ∷ [])) (with_author r a.number) roll
fits_more book r roll by a x full may o b =
    record {
      full = full;
      signed =
          record {
            each = omega (
              arith,
              length-append r.authors (a.number ∷ []),
              length-append book.changes (x ∷ []),
              b.signed.each,
            );
            seats =
                seats_more r.seats a.number r.authors o.author.least o.author.most b.signed.seats;
          };
      enlisted = b.enlisted;
      gathered = λ counted.
          b.gathered counted
          ∙ sym (others_added 0 a.number roll.enlisted r.authors (sym (o.signs counted) ∙ may));
    }

-- that author
pub owns_more : (book : Book) (r : Register) (roll : Roll) (by : ℕ) (a : Author)
    → Owns r roll by a → BookFits book r roll
    → Owns (with_author r a.number) roll by (with_change a (length book.changes + 1))
owns_more book r roll by a o b =
    let is = o.author in
    let n : ℕ = length book.changes + 1 in
    let more = own_after 0 a.number n r.authors (omega (arith, b.signed.each)) in
    let changes = ap (λ (l : List ℕ). l ++ n ∷ []) is.changes ∙ sym more in
    record {
      author = record { least = is.least; most = is.most; changes = changes; free = is.free };
      only = o.only;
      signs = o.signs;
      leads = o.leads;
    }

-- another author knows what it knew
pub owns_added : {r : Register} {roll : Roll} {at by : ℕ} {a b : Author} → Owns r roll at b
    → by ≢ at → Owns r roll by a → Owns (with_author r b.number) roll by a
owns_added {r = r} {a = a} {b = b} mine apart o =
    let is = o.author in
    let same =
    else_after 0 a.number b.number r.authors (λ e. numbers_apart mine apart o (sym e)) in
    let changes = is.changes ∙ sym same in
    record {
      author = record { least = is.least; most = is.most; changes = changes; free = is.free };
      only = o.only;
      signs = o.signs;
      leads = o.leads;
    }

-- an author, where it knows other things of other authors, or may make changes or no more
pub author_same : {r : Register} {a : Author} (signs : Bool) (enlisted gathered : List ℕ)
    → IsAuthor a r
    → IsAuthor (record a { signs = signs; enlisted = enlisted; gathered = gathered }) r
author_same signs enlisted gathered is =
    record { least = is.least; most = is.most; changes = is.changes; free = is.free }

-- an author that doesn't lead, where others are enlisted or dismissed
pub owns_called : {r : Register} {roll : Roll} {by : ℕ} {a : Author} (enlisted gathered : List ℕ)
    → a.number ≢ 1 → is_listed a.number enlisted ≡ is_listed a.number roll.enlisted
    → Owns r roll by a
    → Owns r (record roll { enlisted = enlisted; gathered = gathered }) by a
owns_called enlisted gathered ne same o =
    record {
      author = o.author;
      only = o.only;
      signs = λ counted. o.signs counted ∙ sym same;
      leads = λ is. absurd (ne (o.leads is).number);
    }

-- authors of different numbers share no change
pub share_none : {one two : Author} {r : Register} → IsAuthor one r → IsAuthor two r
    → one.number ≢ two.number → AreDisjoint one.changes two.changes
share_none {one = one} {two = two} {r = r} is are ne =
    record {
      none = λ k h g. one_author one.number two.number k r.authors ne (rw is.changes at h)
          (rw are.changes at g);
    }
