-- What the lock shows is what a sync tells.
use Rattle.std.proofs.Common.{◌≡◌, ◌⊎◌, ℕ, ◌+◌, ◌-◌, ◌<◌, ◌≤◌, ◌^◌, true, true≢false, List, [], ◌∷◌, ◌++◌, length, map, Option, Some, None, refl, sym, ap, ◌∙◌, subst, arith, append_assoc, append-nil, length-append}
use Rattle.std.specs.Prelude.{IfSome, IsSome, IsSomeAnd, is_some, option_to_list}
use Rattle.std.proofs.lemmas.List.{length-map, map-append}
use Rattle.lq_volume.specs.Book.{Book, Extends}
use Rattle.lq_board.specs.Token.{SeatToken}
use Rattle.lq_update.specs.declared.message.Message.{Message}
use Rattle.lq_update.specs.declared.mark.Mark.{Mark}
use Rattle.lq_update.specs.declared.mark.Cause.TheVariants.{Overrun}
use Rattle.lq_update.specs.declared.parcel.Parcel.{Parcel}
use Rattle.lq_update.specs.declared.parcel.Parcel.TheVariants.{Update}
use Rattle.lq_desk_sub.specs.Held.{Held}
use Rattle.lq_port.specs.End.{End, IsSamePort}
use Rattle.lq_port.specs.Port.{IsLegal}
use Rattle.lq_server_slots.specs.declared.delivery.Delivery.{Delivery}
use Rattle.lq_server_slots.specs.declared.delivery.Opening.{Opening}
use Rattle.lq_server_slots.specs.declared.identity.FirstClose.{FirstClose}
use Rattle.lq_server_slots.specs.declared.identity.Identity.{Identity}
use Rattle.lq_server_slots.specs.declared.identity.LastReport.{LastReport}
use Rattle.lq_server_slots.specs.declared.subscription.Subscription.{Subscription}
use Rattle.lq_server_slots.specs.declared.sync.Progress.{Progress}
use Rattle.lq_server_slots.specs.Updates.{updates}
use Rattle.lq_server_slots.specs.Rule.{book_of, floor_of, query_of, message_of, mark_or, messages_in, mark_in, last_book, MayFollow}
use Rattle.lq_server_slots.specs.LegalList.{known_by}
use Rattle.lq_server_slots.specs.Identity.{identity_of}
use Rattle.lq_server_slots.specs.Reading.{ReadingHold, known_book, received, ready, mark_read, is_marked, what_of, IsTold}
use Rattle.lq_server_slots.specs.Standing.{messages_given, upto, moved_mark, IsOut, FirstCloseFits, IsOverrun, StaysTrue, seen_of, report_of}
use Rattle.lq_server_slots.specs.Opening.{IdentityFits, asks_after, name_or}
use Rattle.lq_server_slots.specs.Progress.{ShowsProgress}
use Rattle.lq_server_slots.specs.Own.{IsOwn}
use Rattle.lq_server.specs.Syncing.{bit, is_mark_in_port, fin_list, IsSynced}
use Rattle.lq_server_slots.specs.Hold.{ReaderHold}
use Rattle.lq_server.specs.declared.server.Synced.{Synced}
use Rattle.lq_server.proofs.ParcelLemmas.{messages_in-append, mark_over, mark_in-append, marks_are}

-- what the name of an own reader's seat has of the port, at each time, and of the reader
name_of_own : (r : ReaderHold) (t : Identity) (e : End Delivery Opening) → IsOwn r
    → r.seat.name ≡ Some t → IsSamePort r.reading.port e
    → IdentityFits t e × (r.seat.asks ≡ asks_after t.asks r.hang_up_asked)
name_of_own r t e own name port = grind arith

-- a reader stays own, whatever its seat's name says of what was last reported and of a close
pub own_renamed : (r : ReaderHold) (seat : SeatToken Identity) (reading : ReadingHold)
    (last_report : LastReport)
    (first_close : FirstClose) → IsOwn r → IsSamePort r.reading.port reading.port
    → seat ≡ record r.seat { book = seat.book; name = seat.name }
    → seat.name ≡ Some (record (name_or r.seat.name)
    { last_report = last_report; first_close = first_close })
    → IsOwn (record r { reading = reading; seat = seat })
own_renamed r seat reading last_report first_close own port same name = grind arith

-- one parcel that waits, and the others
one_waits : (qs : List Delivery) (w : Parcel) → (IsSome (mark_or w None) → qs ≡ [])
    → map what_of qs ≡ map (λ m. Update m) (messages_in qs) ++ fin_list (mark_in qs)
    → w ∷ map what_of qs
    ≡ map (λ m. Update m) (message_of w ++ messages_in qs) ++ fin_list (mark_or w (mark_in qs))
one_waits qs w last rest = grind arith

-- while a message is held the port is full; where none is and there is room, a mark that wasn't
-- read is in the port
port_fills : (h : Held) (t a : Option Mark) (places ahead wait hand : ℕ)
    → mark_over t a ≡ moved_mark h.mark_out h.mark
    → (h.mark_out ≡ true → (h.messages ≡ []) × IsSome h.mark)
    → IsOut h ⊎ (places ≤ ahead)
    → wait + bit (is_mark_in_port h.mark_out (is_some t)) ≡ ahead + hand
    → (0 < length h.messages → places ≤ wait)
    × (t ≡ None → length h.messages ≡ 0 → wait < places → a ≡ h.mark)
port_fills h t a places ahead wait hand put done drained waiting = (
  λ some. grind arith,
  λ none empty room. grind arith,
)

-- the book known goes on with each parcel
known_later : (b : Book) (ps qs : List Delivery)
    → ((before : List Delivery) (x : Delivery) (after : List Delivery)
    → ps ++ qs ≡ before ++ x ∷ after → Extends (book_of x) (last_book b before))
    → Extends (last_book b (ps ++ qs)) (last_book b ps)
known_later b [] [] later = ([], rw append-nil)
known_later b [] (x ∷ qs) later =
    let one = later [] x qs refl in
    let rest =
    known_later (book_of x) [] qs (λ ps y qs e. later (x ∷ ps) y qs (ap (λ l. x ∷ l) e)) in
    (one.0 ++ rest.0, grind (arith, append_assoc))
known_later b (p ∷ ps) qs later =
    known_later (book_of p) ps qs (λ ps y qs e. later (p ∷ ps) y qs (ap (λ l. p ∷ l) e))

module _ (f : Opening) where
  -- after a mark nothing comes
  mark_ends : (ps qs : List Delivery) → IsLegal MayFollow f (ps ++ qs) → IsSome (mark_in ps)
      → qs ≡ []
  mark_ends ps [] legal some = refl
  mark_ends ps (x ∷ qs) legal some =
      absurd (true≢false (sym some ∙ ap is_some (legal ps x qs refl).open_yet))

  -- what waits is its messages, and then its mark
  all_wait : (ps qs : List Delivery) → IsLegal MayFollow f (ps ++ qs)
      → map what_of qs ≡ map (λ m. Update m) (messages_in qs) ++ fin_list (mark_in qs)
  all_wait ps [] legal = refl
  all_wait ps (x ∷ qs) legal =
      let on = subst (IsLegal MayFollow f) (sym (append_assoc ps (x ∷ []) qs)) legal in
      let none = (legal ps x qs refl).open_yet in
      one_waits qs x.what
      (λ some. mark_ends (ps ++ x ∷ []) qs on (subst IsSome
      (sym (mark_in-append ps (x ∷ [])
      ∙ ap (λ (o : Option Mark). mark_over o (mark_or x.what None)) none)) some))
      (all_wait (ps ++ x ∷ []) qs on)

-- a mark counts as one parcel
fin_list-length : (o : Option Mark) → length (fin_list o) ≡ bit (is_some o)
fin_list-length o = grind arith

-- s is what the lock shows of the subscription of a reader, and a sync leaves this seat and reading
module _ (s : Subscription) (old : ReaderHold) (seat : SeatToken Identity) (reading : ReadingHold)
    (l : Progress) (lv : ShowsProgress s old.seat seat old.reading reading l)
    (told : IsTold old.reading) (own : IsOwn old) where
  -- the reader after the sync
  abbrev new : ReaderHold
  new = record old { reading = reading; seat = seat }

  -- its end of the port
  abbrev e : End Delivery Opening
  e = reading.port

  -- what is held, and the mark
  abbrev h : Held
  h = s.sub.held

  -- what its own reader has of the port after the sync, and of the subscription
  mine : IdentityFits (identity_of s) e × (old.seat.asks ≡ asks_after s.asks old.hang_up_asked)
  mine = name_of_own old (identity_of s) e own lv.identity lv.port

  -- what is so of the subscription is so of the seat's name
  at_name : (P : Identity → Type 0) → P (identity_of s) → IsSomeAnd old.seat.name P
  at_name P p = subst (λ o. IsSomeAnd o P) (sym lv.identity) p

  -- the seat asked as often as the reader
  asks_is : seat.asks ≡ asks_after s.asks old.hang_up_asked
  asks_is = ap (λ (m : SeatToken Identity). m.asks) lv.seat ∙ mine.1

  -- what was received stays
  received_same : received reading ≡ received old.reading
  received_same = grind arith

  -- and so does the book that is known from it
  known_same : known_book reading ≡ known_book old.reading
  known_same = λ i. known_by (lv.port.2 i) (lv.taken i)

  -- the messages that wait, in hand or in the port
  abbrev w : List Message
  w = option_to_list reading.hand ++ messages_in e.ahead

  -- what was taken is what was received, and what is in hand
  all_taken : messages_in e.taken ≡ received reading ++ option_to_list reading.hand
  all_taken = grind arith

  -- with what is held they are all that was given
  given_is : received reading ++ w ++ h.messages ≡ messages_given h s.input
  given_is = grind (arith, append_assoc, messages_in-append, all_taken, lv.all)

  -- that is the whole list up to the mark
  listed : received reading ++ w ++ h.messages
      ≡ updates (query_of e.floor) e.floor.flags seat.book e.floor.opened
      (upto h.mark (length seat.book.changes))
  listed = grind (arith, given_is)

  -- their number has room in a word
  few_waiting : length w < 2 ^ 62
  few_waiting =
      let numbered = lv.stands.full.state.numbered in
      omega (
        arith,
        lv.stands.sent,
        lv.stands.few,
        lv.stands.full.number,
        numbered.number,
        numbered.limit,
        ap (length {A = Message}) given_is,
        length-append {A = Message},
      )

  -- the mark that was read, or else the one that waits, is the one that was put
  put_mark : mark_over (mark_in e.taken) (mark_in e.ahead) ≡ moved_mark h.mark_out h.mark
  put_mark = sym (mark_in-append e.taken e.ahead) ∙ ap mark_in lv.all ∙ lv.stands.out

  -- after a mark that was read none waits
  after_mark : IsSome (mark_in e.taken) → mark_in e.ahead ≡ None
  after_mark some = ap mark_in (mark_ends e.floor e.taken e.ahead lv.legal some)

  -- so what waits or was read is the mark that was made
  marks : (is_some (mark_in e.ahead) ≡ is_mark_in_port h.mark_out (is_marked reading))
      × ((mark_in e.ahead ≡ None) ⊎ (mark_in e.ahead ≡ h.mark))
      × (IsSome (mark_in e.taken) → h.mark ≡ mark_in e.taken)
  marks =
      marks_are (mark_in e.taken) (mark_in e.ahead) h.mark h.mark_out put_mark
      (λ out. (lv.stands.done out).1) after_mark

  -- the parcels in the port are its messages, and the mark where it waits
  ahead_is : length e.ahead ≡ length (messages_in e.ahead) + bit (is_some (mark_in e.ahead))
  ahead_is =
      omega (
        arith,
        ap (length {A = Parcel}) (all_wait e.floor e.taken e.ahead lv.legal),
        length-map e.ahead what_of,
        length-map {A = Message} {B = Parcel} (messages_in e.ahead) (λ m. Update m),
        length-append (map (λ m. Update m) (messages_in e.ahead)) (fin_list (mark_in e.ahead)),
        fin_list-length (mark_in e.ahead),
      )

  -- and so are the updates that wait, but for the message in hand
  waiting_is : length w + bit (is_mark_in_port h.mark_out (is_marked reading))
      ≡ length e.ahead + bit (is_some reading.hand)
  waiting_is =
      grind (
        arith,
        ahead_is,
        length-append (option_to_list reading.hand) (messages_in e.ahead),
        marks.0,
      )

  -- where the parcels in the port can be counted, this is the number of updates that wait
  pub w_is : (n : ℕ)
      → (l.waiting < 2 ^ 63
      → n ≡ l.waiting + bit (is_some reading.hand)
      - bit (is_mark_in_port l.out (is_marked reading)))
      → n ≡ length w
  w_is n is =
      let counted = is (grind (arith, few_waiting, waiting_is, lv.waiting)) in
      grind (arith, waiting_is, lv.waiting, lv.out, counted)

  -- how the port is filled
  filled : (0 < length h.messages → s.places ≤ length w)
      × (mark_in e.taken ≡ None → length h.messages ≡ 0 → length w < s.places
      → mark_in e.ahead ≡ h.mark)
  filled =
      port_fills h (mark_in e.taken) (mark_in e.ahead) s.places (length e.ahead) (length w)
      (bit (is_some reading.hand)) put_mark lv.stands.done lv.drained waiting_is

  -- the book that was known before goes on to the seat's
  knows : Extends seat.book (known_book old.reading)
  knows =
      let one = known_later (floor_of e.floor) e.taken e.ahead
      (λ ps x qs is. (lv.legal ps x qs is).later) in
      let rest = lv.stands.later in
      rw (← known_same)
      (one.0 ++ rest.0, rw (rest.1, ← lv.floor, ← lv.all, one.1, append_assoc))

  -- what is ready is the messages that wait, and then the mark
  ready_is : ready reading ≡ map (λ m. Update m) w ++ fin_list (mark_in e.ahead)
  ready_is =
      simp (map-append, append_assoc)
      (ap (λ m. map (λ m. Update m) (option_to_list reading.hand) ++ m)
      (all_wait e.floor e.taken e.ahead lv.legal))

  -- a sync that answers so tells what the lock shows
  pub synced : (n : ℕ) → n ≡ length w
      → IsSynced old new
      (record { change = l.change; waiting = n; held = l.held; mark = l.mark })
  synced n is =
      let name : seat.name
      ≡ Some (record (name_or old.seat.name) {
        last_report = report_of (length seat.book.changes) (length e.taken) h.mark;
      }) =
      grind arith in
      let read_same : mark_read reading ≡ mark_read old.reading = ap mark_in lv.taken in
      subst (λ (x : Synced). IsSynced old new x)
      (λ i. record {
        change = sym lv.number i;
        waiting = n;
        held = sym lv.held i;
        mark = sym lv.mark i;
      })
      (record {
        own = own_renamed old seat reading _ _ own lv.port lv.seat name;
        slot = refl;
        hang_up_asked = refl;
        port = lv.port;
        taken = lv.taken;
        hand = lv.hand;
        result = lv.result;
        known_stays = known_same;
        received_stays = received_same;
        seat = lv.seat;
        name = name;
        still = at_name (λ t. StaysTrue t.last_report h.mark (length seat.book.changes))
            lv.stands.still;
        later = lv.later;
        knows = knows;
        lawful = lv.stands.full;
        number = refl;
        w = w;
        h = h.messages;
        lists = record {
          wait = sym is;
          hold = refl;
          all = listed;
          rest = fin_list (mark_in e.ahead);
          front = ready_is;
          closes = λ none empty room.
              ap fin_list (filled.1 none empty (omega (arith, is, room, mine.0.places)));
          last = grind (arith, marks.1);
          mark = grind (arith, listed, given_is);
        };
        ready_stays = (map what_of lv.known.0, grind (arith, append_assoc, map-append));
        within = omega (arith, waiting_is, lv.within, mine.0.places, is);
        bounded = at_name (λ t. length h.messages ≤ t.backlog) lv.stands.bounded;
        full = λ some. omega (arith, filled.0 some, is, mine.0.places);
        ended = λ asked. lv.ended (omega (arith, asks_is, ap (asks_after s.asks) asked));
        hung = λ hung. grind (arith, asks_is, lv.hung hung);
        read = λ some.
            marks.2 (subst IsSome (sym read_same) some) ∙ read_same;
        first_close =
            at_name (λ t. FirstCloseFits t.first_close h.mark) lv.stands.first_close;
        overrun = at_name (λ t. IfSome h.mark (λ k.
            k.cause ≡ Overrun
            → IsOverrun t.query t.flags t.opened t.places t.backlog (seen_of t.last_report)
            seat.book
            k.change)) lv.stands.overrun;
      })
