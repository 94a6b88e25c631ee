-- What calls do to what always holds under the lock; and a change that a seat applied, which knew a
-- book that the keeper's extends.
use Rattle.std.proofs.Common.{◌≡◌, ℕ, ◌+◌, ◌<◌, ◌≤◌, Option, Some, None, true, true≢false, arith, sym, ap, ◌∙◌, subst, Ok, Err, List, [], ◌∷◌, ◌++◌, length, length-append}
use Rattle.lq_volume.specs.State.{State}
use Rattle.lq_volume.specs.Book.{Book, state_of, Extends, grown}
use Rattle.lq_board.specs.Book.{IsFullBook}
use Rattle.lq_board.specs.Token.{BoardName, KeeperToken, SeatToken, moment_of}
use Rattle.lq_server_slots.specs.declared.slots.ServerSlots.{ServerSlots}
use Rattle.lq_server_slots.specs.Slots.{AreConsistent, KeepsCounts, KeepsSlots, CountsOne, IsState, KnowsAsks, KnowsHeard, SlotHears, SlotStands, slot_in}
use Rattle.std.specs.Prelude.{unwrap_or, slice_index}
use Rattle.lq_board.specs.Slot.{slot_at}
use Rattle.lq_server_slots.specs.declared.subscription.Subscription.{Subscription}
use Rattle.lq_value.specs.declared.refusal.Refusal.{Refusal}
use Rattle.lq_value.specs.declared.refusal.Refusal.TheVariants.{NoMemory}
use Rattle.lq_volume.specs.declared.change.Change.{Change}
use Rattle.lq_volume.specs.declared.change.Applied.{Applied}
use Rattle.lq_volume.specs.Change.{node_of, refused}
use Rattle.lq_board.specs.Author.{HasHeard, with_change}
use Rattle.lq_board.specs.Known.{Author, KnownSlot}
use Rattle.lq_server_slots.specs.declared.identity.Identity.{Identity}
use Rattle.lq_server_slots.specs.Applied.{HasLooked, IsAdded, IsApplied}
use Rattle.lq_server_slots.specs.Changing.{IsChangeMade}
use Rattle.lq_server_slots.proofs.UpdateLemmas.{extends_trans, extends_length}
use Rattle.lq_server_slots.proofs.SlotLemmas.{before_is}

module _ (board : BoardName) (start : State) (old new : ServerSlots) (v : State)
    (seats : ℕ) (is : IsState board start old v seats) where
  -- the slots were kept
  pub state_kept : KeepsSlots old new → IsState board start new v seats
  state_kept k = (
    k.counts.board ∙ is.0,
    is.1 ∙ ap state_of (sym k.book),
    subst IsFullBook (sym k.book) is.2,
    ap (λ (b : Book). b.start) k.book ∙ is.3,
    is.4,
    omega (arith, k.counts.openings, is.5),
    k.holding,
    k.counts.openings ∙ is.7 ∙ sym k.counts.counted,
    is.8 ∙ sym k.counts.out,
  )

  -- a change was made, or refused
  pub state_changed : (w : State) → KeepsCounts old new → w ≡ state_of new.keeper.book
      → IsFullBook new.keeper.book → new.keeper.book.start ≡ old.keeper.book.start
      → w.limit ≡ v.limit → AreConsistent new new.keeper.book → IsState board start new w seats
  state_changed w counts after full began limit stand = (
    counts.board ∙ is.0,
    after,
    full,
    began ∙ is.3,
    limit ∙ is.4,
    omega (arith, counts.openings, is.5, limit),
    stand,
    counts.openings ∙ is.7 ∙ sym counts.counted,
    is.8 ∙ sym counts.out,
  )

  -- a subscription was opened
  pub state_opened : CountsOne old new → AreConsistent new new.keeper.book → old.openings < v.limit
      → IsState board start new v seats
  state_opened k stand less = (
    k.board ∙ is.0,
    is.1 ∙ ap state_of (sym k.book),
    subst IsFullBook (sym k.book) is.2,
    ap (λ (b : Book). b.start) k.book ∙ is.3,
    is.4,
    omega (arith, k.openings, less),
    stand,
    k.openings ∙ omega (arith, is.7, k.counted),
    is.8 ∙ sym k.out,
  )

-- a book that grew by a change was added to each that it extended
added_to : (c : Change) (a : Applied) (k b d : Book) → Extends b k → d ≡ grown b (c ∷ [])
    → a.change ≡ length d.changes → a.node ≡ node_of (state_of b) c → IsAdded k d a c
added_to c a k b d later is number node =
    let before = before_is b d c is in
    let long = ap (λ (x : Book). length x.changes) is in
    record {
      later = extends_trans k b d later (c ∷ [], is);
      above =
          omega (arith, extends_length k b later, number, long, length-append b.changes (c ∷ []));
      number = number;
      place = is ∙ ap (λ (x : Book). grown x (c ∷ [])) (sym before);
      node = node ∙ ap (λ (x : Book). node_of (state_of x) c) (sym before);
    }

module _ (c : Change) (v w : State) (b d : Book) (s m : SeatToken Identity)
    (before : v ≡ state_of b) (same : m ≡ record s { book = m.book })
    (later : Extends m.book s.book) where
  -- the change was made, by the seat as it was once its slot's keeper knew it
  pub applied_ok : (a : Applied) (t : SeatToken Identity) → IsChangeMade c (Ok a) v w b d m t
      → IsApplied c d s t (Ok a)
  applied_ok a t made =
      let book = ap (λ (x : SeatToken Identity). x.book) made.seat in
      let known = extends_trans s.book m.book b later made.later in
      let added = added_to c a s.book b d known made.ok made.number
      (made.node ∙ ap (λ (x : State). node_of x c) before) in
      record {
        seat = made.seat
            ∙ (λ i. record (same i) { book = d; author = t.author; moments = t.moments });
        author = made.author ∙ ap (λ (x : SeatToken Identity). with_change x.author a.change) same;
        others = tt;
        later = subst (λ (x : Book). Extends x s.book) (sym book) added.later;
        ok = subst (λ (x : Book). IsAdded s.book x a c) (sym book) added;
        err = tt;
      }

  -- or it was refused, and then the seat met the keeper
  pub applied_err : (e : Refusal) (n t : SeatToken Identity) → IsChangeMade c (Err e) v w b d m n
      → t ≡ record n { book = d; moments = t.moments } → Extends t.book n.book
      → IsApplied c d s t (Err e)
  applied_err e n t made met more =
      let is : t ≡ record s { book = d; moments = t.moments } =
      met ∙ (λ i. record (made.stays i) { book = d; moments = t.moments })
      ∙ (λ i. record (same i) { book = d; moments = t.moments }) in
      let author = ap (λ (x : SeatToken Identity). x.author) is in
      let known = ap (λ (x : SeatToken Identity). x.book) made.stays in
      record {
        seat = is
            ∙ (λ i. record s { book = d; author = sym author i; moments = t.moments });
        author = tt;
        others = author;
        later = extends_trans s.book m.book t.book later
            (subst (λ (x : Book). Extends t.book x) known more);
        ok = tt;
        err = made.refused.1
            ∙ ap (λ (x : State). unwrap_or (refused x c) NoMemory)
            (before ∙ ap state_of (sym (ap (λ (x : SeatToken Identity). x.book) is ∙ made.err)));
      }

-- a seat that met the keeper, of which it then heard
pub seat_twice : (s m h : SeatToken Identity) → m ≡ record s { book = m.book }
    → Extends m.book s.book → h ≡ record m { book = h.book } → Extends h.book m.book
    → (h ≡ record s { book = h.book }) × Extends h.book s.book
seat_twice s m h is later are more = (
  are ∙ (λ i. record (is i) { book = h.book }),
  extends_trans s.book m.book h.book later more,
)

pub heard_twice : (heard : List ℕ) (s m : SeatToken Identity) → m ≡ record s { book = m.book }
    → HasHeard heard m.author.heard → HasHeard heard s.author.heard
heard_twice heard s m is has =
    subst (λ (a : Author). HasHeard heard a.heard) (ap (λ (x : SeatToken Identity). x.author) is)
    has

-- what was heard of the slots whose seats are out is known
pub looked_out : (heard : List ℕ) (slots : ServerSlots) (book : Book) → AreConsistent slots book
    → KnowsHeard heard slots.subscriptions slots.keeper.slots → (i : ℕ) → i < 64
    → (slot_at slots.keeper.slots (i + 1)).out ≡ true
    → slice_index heard (i + 1) ≤ (slot_at slots.keeper.slots (i + 1)).asks
looked_out heard slots book h is i low out =
    by (slot_in slots.subscriptions i) (h.each i low) (is i low)
  where
    by : (o : Option Subscription) → SlotStands o (slot_at slots.keeper.slots (i + 1)) book
        → SlotHears heard i o (slot_at slots.keeper.slots (i + 1))
        → slice_index heard (i + 1) ≤ (slot_at slots.keeper.slots (i + 1)).asks
    by None stands known = absurd (true≢false (sym out ∙ stands))
    by (Some s) stands known = known

-- the keeper of a moment that a seat recorded had looked
pub has_looked : (s t : SeatToken Identity) (k : KeeperToken Identity)
    → t.moments ≡ s.moments ++ moment_of k ∷ [] → k.book ≡ t.book
    → ((i : ℕ) → i < 64 → (slot_at k.slots (i + 1)).out ≡ true
    → slice_index s.author.heard (i + 1) ≤ (slot_at k.slots (i + 1)).asks)
    → HasLooked s t
has_looked s t k noted book heard =
    record { moment = moment_of k; noted = noted; book = book; heard = heard }

-- a keeper that knew how often a slot's seat has asked knows it once it knows more
pub knows_asks_on : (old new : List (KnownSlot Identity)) (s t : SeatToken Identity)
    → t.slot ≡ s.slot → t.asks ≡ s.asks
    → ((k : ℕ) → (slot_at old k).asks ≤ (slot_at new k).asks)
    → KnowsAsks old s → KnowsAsks new t
knows_asks_on old new s t slot asks rises knows pos =
    let here = rw (← slot) at (knows (omega (arith, slot, pos))) in
    omega (arith, asks, here, rises t.slot)
