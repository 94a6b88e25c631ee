-- A subscription as its parcels move into its port.
use Rattle.std.proofs.Common.{◌≡◌, ℕ, ◌<◌, ◌≤◌, ◌⊎◌, false, [], ◌∷◌, ◌++◌, ⊎_elim, length, drop, Some, None, arith, append_assoc, append-nil}
use mathlib.Core.List.{IsPrefix}
use Rattle.lq_volume.specs.Book.{Book, Extends}
use Rattle.lq_update.specs.declared.message.Message.{Message}
use Rattle.lq_update.specs.declared.mark.Mark.{Mark}
use Rattle.lq_update.specs.declared.parcel.Parcel.{Parcel}
use Rattle.lq_update.specs.declared.parcel.Parcel.TheVariants.{Update, Fin}
use Rattle.lq_desk_sub.specs.Held.{Held, Prepared, next_parcel, without_parcel, with_back}
use Rattle.lq_desk_sub.specs.Laws.{PuttingBackUndoes}
use Rattle.lq_port.specs.End.{End, all_put, IsSamePort, Gains, AreBeside}
use Rattle.lq_server_slots.specs.declared.delivery.Delivery.{Delivery}
use Rattle.lq_server_slots.specs.declared.delivery.Opening.{Opening}
use Rattle.lq_server_slots.specs.declared.identity.FirstClose.{FirstClose}
use Rattle.lq_server_slots.specs.declared.identity.LastReport.{LastReport}
use Rattle.lq_server_slots.specs.declared.subscription.Subscription.{Subscription}
use Rattle.lq_server_slots.specs.Rule.{book_of, message_of, mark_or, messages_in, mark_in, IsMark, Tells, MayFollow}
use Rattle.lq_server_slots.specs.LegalList.{known_by}
use Rattle.lq_server_slots.specs.Standing.{messages_given, upto, Stands, IsConsistentAt, SameHeld, SameButPuts, left_of, left_to_put, IsOut, CannotPut, IsDrained, SideBySide}
use Rattle.lq_server_slots.proofs.UpdateLemmas.{extends_self, updates-front}
use Rattle.lq_server_slots.proofs.PortLemmas.{prefix_self, prefix_trans, messages_in-snoc, mark_in-append, last_book-snoc}

-- ---- one parcel

-- with nothing to put, nothing is left
pub none_next : (h : Held) → next_parcel h ≡ None → IsOut h
none_next h e = grind arith

-- a parcel that leaves what is held changes nothing else of it
same_held : (h : Held) (p : Parcel) → SameHeld h (without_parcel h (Some p))
same_held h p = grind arith

-- the parcel's message and those still held are the messages that were held
parcel_then : (h : Held) (p : Parcel) → next_parcel h ≡ Some p
    → message_of p ++ (without_parcel h (Some p)).messages ≡ h.messages
parcel_then h p next = grind arith

-- one parcel less is left to put
left_then : (h : Held) (p : Parcel) → next_parcel h ≡ Some p
    → left_of (without_parcel h (Some p)) < left_of h
left_then h p next = grind arith

-- the next parcel is a message, or the mark behind the last one
next_is : (h : Held) (p : Parcel) → next_parcel h ≡ Some p
    → ((m : Message) × (p ≡ Update m) × (h.messages ≡ m ∷ drop 1 h.messages))
    ⊎ ((k : Mark) × (p ≡ Fin k) × (h.messages ≡ []) × (h.mark ≡ Some k) × (h.mark_out ≡ false))
next_is h p next = grind arith

module _ (h : Held) (d : End Delivery Opening) (places : ℕ) (last_report : LastReport)
    (first_close : FirstClose) (book : Book) (s : Stands h d places last_report first_close book)
  where
    -- the mark's change is within the book
    upto_within : upto h.mark (length book.changes) ≤ length book.changes
    upto_within = grind arith

    -- the first message held is the next update of the book
    tells_update : (m : Message) → h.messages ≡ m ∷ drop 1 h.messages
        → Tells d.floor (messages_in (all_put d)) book (Update m)
    tells_update m held =
        rw (s.query, s.moves, s.opening)
        (prefix_trans _ _ _ (drop 1 h.messages, rw append_assoc (rw held at s.list))
        (updates-front h.query h.flags book h.opened (upto h.mark (length book.changes))
        (length book.changes) upto_within))

    -- a mark that is held, with no message before it, is the mark of what was put
    tells_mark : (k : Mark) → h.messages ≡ [] → h.mark ≡ Some k
        → IsMark d.floor (messages_in (all_put d)) book k
    tells_mark k none some =
        let all = rw (none, append-nil, some) at s.list in
        let mark = rw some at s.mark in
        record {
          all = rw (s.query, s.moves, s.opening) all;
          seq = grind (arith, append-nil);
          opened = grind arith;
          within = mark.1;
        }

    -- while a parcel is next, no mark was put
    unput : (p : Parcel) → next_parcel h ≡ Some p → mark_in (all_put d) ≡ None
    unput p next = grind arith

    -- the next parcel is the one that the book tells
    tells : (p : Parcel) → next_parcel h ≡ Some p → Tells d.floor (messages_in (all_put d)) book p
    tells p next =
        ⊎_elim (λ u. rw u.1 (tells_update u.0 u.2)) (λ f. rw f.1 (tells_mark f.0 f.2 f.3))
        (next_is h p next)

    -- the next parcel may be put
    pub may_put : (p : Parcel) (x : Delivery) → next_parcel h ≡ Some p → x.what ≡ p
        → book_of x ≡ book
        → MayFollow (all_put d) d.floor x
    may_put p x next is at =
        let open_yet = unput p next in let open_next = tells p next in grind arith

    module _ (e : End Delivery Opening) (p : Parcel) (x : Delivery) (next : next_parcel h ≡ Some p)
        (is : x.what ≡ p) (at : book_of x ≡ book) (port : IsSamePort d e) (gains : Gains d x e)
      where
        -- the parcel is the last of all that was put
        all_then : all_put e ≡ all_put d ++ x ∷ []
        all_then = gains.put

        -- what was given stays: one parcel more is put, one less is held
        given_then : messages_given (without_parcel h (Some p)) e ≡ messages_given h d
        given_then =
            rw (all_then, messages_in-snoc, is, append_assoc, parcel_then h p next)

        -- a parcel was put, and the list of what is put and held stays
        put_stands : Stands (without_parcel h (Some p)) e places last_report first_close book
        put_stands =
            let later : Extends book (known_by e.floor (all_put e)) =
            rw (all_then, last_book-snoc, at) (extends_self book) in
            let out : mark_in (all_put e) ≡ mark_or p None =
            rw (all_then, mark_in-append (all_put d) (x ∷ []) (unput p next), is) in
            let given = given_then in
            grind arith

-- what a put of a parcel leaves of a subscription
pub record IsPut (s t : Subscription) (book : Book) : Type 0 where
  pub stands : IsConsistentAt t book
  pub alike : SameButPuts s t
  pub less : left_to_put t < left_to_put s

-- the next parcel was put
pub put_ok : (s : Subscription) (sub : Prepared) (e : End Delivery Opening) (p : Parcel)
    (x : Delivery) (book : Book) → IsConsistentAt s book → next_parcel s.sub.held ≡ Some p
    → sub.held ≡ without_parcel s.sub.held (next_parcel s.sub.held) → x.what ≡ p
    → book_of x ≡ book → IsSamePort s.input e → Gains s.input x e
    → IsPut s (record s { sub = sub; input = e }) book
put_ok s sub e p x book stands next rest is at port gains =
    let h = s.sub.held in
    let held = rw next at rest in
    let same = same_held h p in
    let given =
    given_then h s.input s.places s.last_report.value s.first_close book stands e p x next is at
    port
    gains in
    let left = left_then h p next in
    record {
      stands = rw held
          (put_stands h s.input s.places s.last_report.value s.first_close book stands e p x next
          is at
          port gains);
      alike = grind arith;
      less = rw held left;
    }

-- ---- many parcels

-- only what is known to be taken differs
pub same_put : (h : Held) (d e : End Delivery Opening) (places : ℕ) (last_report : LastReport)
    (first_close : FirstClose) (book : Book)
    → IsSamePort d e → all_put e ≡ all_put d → Stands h d places last_report first_close book
    → Stands h e places last_report first_close book
same_put h d e places last_report first_close book port put s =
    let later : Extends book (known_by e.floor (all_put e)) = rw (port.2, put) s.later in
    grind arith

-- two puts one after the other
pub alike_trans : (s t u : Subscription) → SameButPuts s t → SameButPuts t u → SameButPuts s u
alike_trans s t u a b = grind arith

-- where there is no next parcel, what is held is what was held
pub none_out : (h h' : Held) → next_parcel h ≡ None → h' ≡ without_parcel h (next_parcel h) → h' ≡ h
none_out h h' none rest = rw none at rest

-- with the next parcel taken out and put back, what is held is what was held
pub back_out : PuttingBackUndoes → (h h' h'' : Held) (p q : Parcel) → next_parcel h ≡ Some p
    → h' ≡ without_parcel h (next_parcel h) → q ≡ p → h'' ≡ with_back h' q → h'' ≡ h
back_out undoes h h' h'' p q next rest same back = rw (back, same, rest, next) (undoes h p next)

-- with the same held and the same end of the port, a subscription is as before
pub alike_held : (s : Subscription) (sub : Prepared) (input : End Delivery Opening)
    → sub.held ≡ s.sub.held → input ≡ s.input
    → SameButPuts s (record s { sub = sub; input = input })
alike_held s sub input held same = grind arith

-- a look side by side stays one, where a subscription is as before and its end of the port the same
pub beside_stays : (s t u : Subscription) (d e : End Delivery Opening) (book : Book) (n : ℕ)
    → SideBySide s t d e book n → IsConsistentAt u book → SameButPuts t u → u.input ≡ t.input
    → SideBySide s u d e book n
beside_stays s t u d e book n at stands alike same = grind arith

-- a port as it is drained: the two ends, and all that is the same as when the drain began
pub record Drains (s t : Subscription) (d e : End Delivery Opening) (book : Book) : Type 0 where
  pub stands : IsConsistentAt t book
  pub alike : SameButPuts s t
  pub port : e.port ≡ t.input.port
  pub same : IsSamePort d e
  pub taken : e.taken ≡ d.taken
  pub known : IsPrefix d.ahead e.ahead

-- a drain begins with what is there
pub drains_none : (s : Subscription) (d : End Delivery Opening) (book : Book)
    → IsConsistentAt s book
    → d.port ≡ s.input.port → Drains s s d d book
drains_none s d book stands port = let known = prefix_self d.ahead in grind arith

-- a look at both ends, as a port is drained, is one since the drain began
module _ (s t : Subscription) (c d e input : End Delivery Opening) (book : Book) (n : ℕ)
    (at : Drains s t c d book) (ends : AreBeside MayFollow d e t.input input n) where
  -- the two ends were seen side by side
  pub looks : SideBySide s (record t { input = input }) c e book n
  looks =
      let all : all_put input ≡ all_put t.input = rw (ends.input.0, ends.input.1) ends.put in
      let stands : IsConsistentAt (record t { input = input }) book =
      same_put t.sub.held t.input input t.places t.last_report.value t.first_close book
      ends.ports.1 all
      at.stands in
      let later = prefix_trans c.ahead d.ahead e.ahead at.known ends.known in
      grind arith

  -- and with a put behind that the port is drained further
  pub drains_on : (u : Subscription) → IsConsistentAt u book
      → SameButPuts (record t { input = input }) u → Drains s u c e book
  drains_on u stands alike = let seen = looks in grind arith

-- with both ends seen side by side, what is stuck is drained
pub stuck_drained : (input e : End Delivery Opening) (u : Subscription) (n : ℕ)
    → input.ahead ≡ e.ahead → n ≡ length e.ahead → u.input ≡ input → CannotPut u → IsDrained u n
stuck_drained input e u n ahead value same stuck = rw (value, ← ahead, ← same) stuck
