-- Parcels under their rule.
use Rattle.std.proofs.Common.{◌≡◌, List, [], ◌∷◌, ◌++◌, length, None, refl, arith, append_assoc, append-nil}
use Rattle.std.specs.Prelude.{IfSome}
use mathlib.Core.List.{IsPrefix}
use Rattle.lq_volume.specs.Book.{Book}
use Rattle.lq_board.specs.Book.{IsFullBook}
use Rattle.lq_update.specs.declared.message.Message.{Message}
use Rattle.lq_update.specs.declared.parcel.Parcel.{Parcel}
use Rattle.lq_update.specs.declared.parcel.Parcel.TheVariants.{Update, Fin}
use Rattle.lq_server_slots.specs.declared.delivery.Delivery.{Delivery}
use Rattle.lq_server_slots.specs.declared.delivery.Opening.{Opening}
use Rattle.lq_server_slots.specs.Rule.{book_of, floor_of, query_of, message_of, mark_or, messages_in, mark_in, last_book, all_updates, IsMark, Tells, MayFollow}
use Rattle.lq_server_slots.specs.LegalList.{known_by, LegalList}
use Rattle.lq_server_slots.proofs.UpdateLemmas.{extends_self, extends_trans, updates-front}

-- a list is a prefix of itself
pub prefix_self : {A : Type 0} (xs : List A) → IsPrefix xs xs
prefix_self xs = ([], append-nil xs)

-- and a prefix of a prefix is one
pub prefix_trans : {A : Type 0} (xs ys zs : List A) → IsPrefix xs ys → IsPrefix ys zs
    → IsPrefix xs zs
prefix_trans xs ys zs p q = (p.0 ++ q.0, rw (← append_assoc xs p.0 q.0, p.1) q.1)

-- the messages of parcels and one more
pub messages_in-snoc : (ps : List Delivery) (x : Delivery)
    → messages_in (ps ++ x ∷ []) ≡ messages_in ps ++ message_of x.what
messages_in-snoc [] x = rw append-nil
messages_in-snoc (p ∷ ps) x = rw (messages_in-snoc ps x, append_assoc)

-- after parcels without a mark, the mark is that of the others
pub mark_in-append : (ps qs : List Delivery) → mark_in ps ≡ None → mark_in (ps ++ qs) ≡ mark_in qs
mark_in-append [] qs e = refl
mark_in-append (p ∷ ps) qs e = grind (arith, mark_in-append ps qs)

-- the book known is that of the last parcel
pub last_book-snoc : (b : Book) (ps : List Delivery) (x : Delivery)
    → last_book b (ps ++ x ∷ []) ≡ book_of x
last_book-snoc b [] x = refl
last_book-snoc b (p ∷ ps) x = last_book-snoc (book_of p) ps x

-- no parcels are a legal list
pub legal_list-none : (f : Opening) → f.opened ≡ length (floor_of f).changes
    → IsFullBook (floor_of f) → LegalList f []
legal_list-none f opening full =
    record {
      opening = opening;
      later = extends_self (floor_of f);
      full = full;
      front =
          (all_updates f (floor_of f), refl);
      mark = tt;
    }

-- the mark and the messages, after one parcel more
legal_list-what : (f : Opening) (messages : List Message) (book : Book) (w : Parcel)
    → Tells f messages book w
    → IsPrefix (messages ++ message_of w) (all_updates f book)
    × IfSome (mark_or w None) (IsMark f (messages ++ message_of w) book)
legal_list-what f messages book (Update m) t = (t, tt)
legal_list-what f messages book (Fin k) t = (
  rw (append-nil, t.all)
      (updates-front (query_of f) f.flags book f.opened k.change (length book.changes) t.within),
  rw append-nil t,
)

-- and so is a legal list with one that may follow
pub legal_list-step : (f : Opening) (ps : List Delivery) (x : Delivery) → LegalList f ps
    → MayFollow ps f x → LegalList f (ps ++ x ∷ [])
legal_list-step f ps x legal_list comes =
    let book : known_by f (ps ++ x ∷ []) ≡ book_of x = last_book-snoc (floor_of f) ps x in
    let mark : mark_in (ps ++ x ∷ []) ≡ mark_or x.what None =
    mark_in-append ps (x ∷ []) comes.open_yet in
    let w = legal_list-what f (messages_in ps) (book_of x) x.what comes.tells in
    record {
      opening = legal_list.opening;
      later = rw book
          (extends_trans (floor_of f) (known_by f ps) (book_of x) legal_list.later comes.later);
      full = rw book comes.full;
      front = rw (messages_in-snoc ps x, book) w.0;
      mark = rw (mark, messages_in-snoc ps x, book) w.1;
    }
