-- All slots under the lock, with what the keeper knows of them.
use Rattle.std.proofs.Common.{◌≡◌, ◌≢◌, ℕ, zero, suc, ◌<◌, ◌≤◌, List, [], ◌∷◌, length, Option, Some, None, refl, sym, ap, ◌∙◌, subst, arith, length-set, get_or-set_same, get_or-set_other, slice_set, replicate, ◌+◌}
use Rattle.std.proofs.lemmas.List.{get_or-replicate, length-replicate}
use mathlib.Core.Logic.{dite}
use native.Mathlib.Decide.{ℕ_discrete}
use Rattle.lq_volume.specs.Book.{Book}
use Rattle.lq_desk_sub.specs.declared.watch.Watch.{Watch}
use Rattle.lq_board.specs.Known.{KnownSlot}
use Rattle.lq_board.specs.Slot.{slot_at, unused, unused_slots, counted}
use Rattle.lq_board.specs.Token.{KeeperToken}
use Rattle.lq_server_slots.specs.declared.identity.Identity.{Identity}
use Rattle.lq_server_slots.specs.declared.subscription.Subscription.{Subscription}
use Rattle.lq_server_slots.specs.Standing.{SameQuery}
use Rattle.lq_server_slots.specs.Slots.{IsTakenSlot, SlotStands, asks_of, slot_in, OnlyAt, AreConsistent, WatchesSlots, SlotIsWatched, KeepsBook, KeepsSlots}
use Rattle.lq_server_slots.specs.declared.slots.ServerSlots.{ServerSlots}

-- what was set is read there
pub in_here : (slots : List (Option Subscription)) (i : ℕ) (o : Option Subscription)
    → i < length slots → slot_in (slice_set slots i o) i ≡ o
in_here [] i o lt = absurd (omega arith)
in_here (s ∷ slots) zero o lt = refl
in_here (s ∷ slots) (suc i) o lt = in_here slots i o (omega arith)

-- and what was elsewhere stays
pub in_else : (slots : List (Option Subscription)) (i j : ℕ) (o : Option Subscription) → j ≢ i
    → slot_in (slice_set slots i o) j ≡ slot_in slots j
in_else [] i j o ne = refl
in_else (s ∷ slots) zero zero o ne = absurd (ne refl)
in_else (s ∷ slots) zero (suc j) o ne = refl
in_else (s ∷ slots) (suc i) zero o ne = refl
in_else (s ∷ slots) (suc i) (suc j) o ne = in_else slots i j o (λ e. ne (ap suc e))

-- what holds of a slot that was set, with what the keeper knows of it, and of each other holds of
-- each, where that changed at the same slot alone
pub place_cases : (P : Option Subscription → KnownSlot Identity → Type 0)
    (slots : List (Option Subscription)) (ps qs : List (KnownSlot Identity)) (i j : ℕ)
    (o : Option Subscription) → i < length slots → OnlyAt ps qs (i + 1)
    → P o (slot_at qs (i + 1)) → (j ≢ i → P (slot_in slots j) (slot_at ps (j + 1)))
    → P (slot_in (slice_set slots i o) j) (slot_at qs (j + 1))
place_cases P slots ps qs i j o lt only here others =
    dite (ℕ_discrete j i) (λ (e : j ≡ i). rw (e, in_here slots i o lt) here)
    (λ (ne : j ≢ i). rw (in_else slots i j o ne, only.others (j + 1) (λ e. ne (omega (arith, e))))
    (others ne))

-- what is known of one slot was set, and nothing else
pub only_set : (ps : List (KnownSlot Identity)) (k : ℕ) (q : KnownSlot Identity)
    → OnlyAt ps (slice_set ps k q) k
only_set ps k q =
    record { wide = length-set ps k q; others = λ j ne. get_or-set_other ps k j q unused ne }

-- where the keeper counts asks, it knows those
pub counted_here : (ps : List (KnownSlot Identity)) (k n : ℕ) → k < length ps
    → slot_at (counted ps k n)
    k ≡ record { out = (slot_at ps k).out; asks = n; name = (slot_at ps k).name }
counted_here ps k n lt = get_or-set_same ps k _ unused lt

-- a slot that was set is watched, and so are the others
watched_set : (v w : Watch) (slots : List (Option Subscription)) (i : ℕ) (o : Option Subscription)
    → i < length slots → SlotIsWatched w i o
    → ((j : ℕ) (x : Option Subscription) → j ≢ i → SlotIsWatched v j x → SlotIsWatched w j x)
    → WatchesSlots v slots → WatchesSlots w (slice_set slots i o)
watched_set v w slots i o lt here others was j low =
    dite (ℕ_discrete j i) (λ (e : j ≡ i). rw (e, in_here slots i o lt) here)
    (λ (ne : j ≢ i). rw (in_else slots i j o ne) (others j (slot_in slots j) ne (was j low)))

-- what asks for the same is watched where that was
pub watched_same : (w : Watch) (i : ℕ) (s t : Subscription) → SameQuery s t
    → SlotIsWatched w i (Some s) → SlotIsWatched w i (Some t)
watched_same w i s t same watched = λ c out. rw (same.0, same.1) (watched c out)

-- one slot was set, and what the keeper knows of it, and it is watched
pub slots_set : (s : ServerSlots) (keeper : KeeperToken Identity) (w : Watch) (i n : ℕ)
    (o : Option Subscription) (book : Book) → AreConsistent s book → s.openings ≤ n → i < 64
    → OnlyAt s.keeper.slots keeper.slots (i + 1) → SlotStands o (slot_at keeper.slots (i + 1)) book
    → asks_of o (slot_at keeper.slots (i + 1)) ≤ n → SlotIsWatched w i o
    → ((j : ℕ) (x : Option Subscription) → j ≢ i → SlotIsWatched s.watch j x → SlotIsWatched w j x)
    → AreConsistent (record {
      keeper = keeper;
      subscriptions = slice_set s.subscriptions i o;
      watch = w;
      openings = n;
    }) book
slots_set s keeper w i n o book h le within only fits asks here others =
    let lt : i < length s.subscriptions = omega (arith, h.wide) in
    record {
      known = only.wide ∙ h.known;
      wide = length-set s.subscriptions i o ∙ h.wide;
      each = λ j low. place_cases (λ z p. SlotStands z p book) s.subscriptions s.keeper.slots
          keeper.slots i j o lt only fits (λ ne. h.each j low);
      asks = λ j low. place_cases (λ z p. asks_of z p ≤ n) s.subscriptions s.keeper.slots
          keeper.slots i j o lt only asks (λ ne. let was = h.asks j low in omega arith);
      watched = watched_set s.watch w s.subscriptions i o lt here others h.watched;
    }

-- what the keeper knows of one slot changed, and no asks were added
pub slots_known : (s : ServerSlots) (keeper : KeeperToken Identity) (i : ℕ) (book : Book)
    → AreConsistent s book → i < 64 → OnlyAt s.keeper.slots keeper.slots (i + 1)
    → SlotStands (slot_in s.subscriptions i) (slot_at keeper.slots (i + 1)) book
    → asks_of (slot_in s.subscriptions i) (slot_at keeper.slots (i + 1))
    ≤ asks_of (slot_in s.subscriptions i) (slot_at s.keeper.slots (i + 1))
    → AreConsistent (record s { keeper = keeper }) book
slots_known s keeper i book h within only fits asks =
    let apart : (j : ℕ) → j ≢ i → slot_at keeper.slots (j + 1) ≡ slot_at s.keeper.slots (j + 1) =
    λ j ne. only.others (j + 1) (λ e. ne (omega (arith, e))) in
    record {
      known = only.wide ∙ h.known;
      wide = h.wide;
      each = λ j low. dite (ℕ_discrete j i) (λ (e : j ≡ i). rw e fits)
          (λ (ne : j ≢ i). rw (apart j ne) (h.each j low));
      asks = λ j low. dite (ℕ_discrete j i)
          (λ (e : j ≡ i). rw e (omega (arith, asks, h.asks i within)))
          (λ (ne : j ≢ i). rw (apart j ne) (h.asks j low));
      watched = h.watched;
    }

-- all slots stand by what the keeper knows of them alone
pub slots_alike : (s : ServerSlots) (keeper : KeeperToken Identity) (book book' : Book)
    → AreConsistent s book → keeper.slots ≡ s.keeper.slots → book ≡ book'
    → AreConsistent (record s { keeper = keeper }) book'
slots_alike s keeper book book' h same e =
    record {
      known = rw same h.known;
      wide = h.wide;
      each = λ i low. rw (same, ← e) (h.each i low);
      asks = λ i low. rw same (h.asks i low);
      watched = h.watched;
    }

-- no subscriptions
pub slots_free : (keeper : KeeperToken Identity) (slots : List (Option Subscription)) (w : Watch)
    (book : Book) → keeper.slots ≡ unused_slots → slots ≡ replicate 64 None
    → AreConsistent
    (record { keeper = keeper; subscriptions = slots; watch = w; openings = 0 }) book
slots_free keeper slots w book known free =
    let p : (i : ℕ) → i < 64 → slot_at keeper.slots (i + 1) ≡ unused =
    λ i low. rw known
    (get_or-replicate {A = KnownSlot Identity} 65 (i + 1) unused unused (omega arith)) in
    let none : (i : ℕ) → slot_in slots i ≡ None = λ i. rw free (in_none 64 i) in
    record {
      known = rw known (length-replicate {A = KnownSlot Identity} 65 unused);
      wide = rw free (length-replicate {A = Option Subscription} 64 None);
      each = λ i low. rw (none i, p i low) refl;
      asks = λ i low. rw (none i, p i low) (omega arith);
      watched = λ i low. rw (none i) tt;
    }
  where
    in_none : (n i : ℕ) → slot_in (replicate n None) i ≡ None
    in_none zero i = refl
    in_none (suc n) zero = refl
    in_none (suc n) (suc i) = in_none n i

-- slots that stay are kept
pub slots_stay : (slots : ServerSlots) → AreConsistent slots slots.keeper.book
    → KeepsSlots slots slots
slots_stay slots h =
    record {
      counts = record { board = refl; counted = refl; out = refl; openings = refl };
      book = refl;
      holding = h;
    }

-- after all slots were kept, only the subscriptions may have changed
pub slots_kept-on : (first old : ServerSlots) (items : List (Option Subscription))
    → KeepsSlots first old → AreConsistent (record old { subscriptions = items }) old.keeper.book
    → KeepsSlots first (record old { subscriptions = items })
slots_kept-on first old items h holding =
    record {
      counts = record {
        board = h.counts.board;
        counted = h.counts.counted;
        out = h.counts.out;
        openings = h.counts.openings;
      };
      book = h.book;
      holding = holding;
    }

-- after all slots were kept one was set, and no asks were added
pub slots_kept-step : (first old : ServerSlots) (keeper : KeeperToken Identity) (i : ℕ)
    (o : Option Subscription) → KeepsSlots first old → i < 64 → KeepsBook old.keeper keeper (i + 1)
    → SlotStands o (slot_at keeper.slots (i + 1)) keeper.book
    → asks_of o (slot_at keeper.slots (i + 1))
    ≤ asks_of (slot_in old.subscriptions i) (slot_at old.keeper.slots (i + 1))
    → SlotIsWatched old.watch i o
    → KeepsSlots first (record {
      keeper = keeper;
      subscriptions = slice_set old.subscriptions i o;
      watch = old.watch;
      openings = old.openings;
    })
slots_kept-step first old keeper i o h within kept fits asks watched =
    record {
      counts = record {
        board = kept.board ∙ h.counts.board;
        counted = kept.counted ∙ h.counts.counted;
        out = kept.out ∙ h.counts.out;
        openings = h.counts.openings;
      };
      book = kept.book ∙ h.book;
      holding = subst (AreConsistent (record {
        keeper = keeper;
        subscriptions = slice_set old.subscriptions i o;
        watch = old.watch;
        openings = old.openings;
      })) (sym kept.book)
          (slots_set old keeper old.watch i old.openings o old.keeper.book h.holding (omega arith)
          within kept.only (rw kept.book at fits) (omega (arith, asks, h.holding.asks i within))
          watched (λ j x ne is. is));
    }

-- and so where the slot is taken, before and after
pub slots_kept-taken : (first old : ServerSlots) (keeper : KeeperToken Identity) (i : ℕ)
    (s t : Subscription) → KeepsSlots first old → i < 64 → Some s ≡ slot_in old.subscriptions i
    → KeepsBook old.keeper keeper (i + 1)
    → IsTakenSlot t (slot_at keeper.slots (i + 1)) keeper.book → t.asks ≡ s.asks → SameQuery s t
    → KeepsSlots first (record {
      keeper = keeper;
      subscriptions = slice_set old.subscriptions i (Some t);
      watch = old.watch;
      openings = old.openings;
    })
slots_kept-taken first old keeper i s t h within there kept fits same query =
    slots_kept-step first old keeper i (Some t) h within kept fits
    (subst (λ (o : Option Subscription). t.asks + 1 ≤ asks_of o (slot_at old.keeper.slots (i + 1)))
    there (omega (arith, same)))
    (watched_same old.watch i s t query
    (subst (λ (o : Option Subscription). SlotIsWatched old.watch i o) (sym there)
    (h.holding.watched i within)))

-- what is in a taken slot
pub taken_at : (slots : ServerSlots) (book : Book) (i : ℕ) (s : Subscription)
    → AreConsistent slots book → i < 64 → Some s ≡ slot_in slots.subscriptions i
    → IsTakenSlot s (slot_at slots.keeper.slots (i + 1)) book
taken_at slots book i s h within there =
    subst (λ (o : Option Subscription). SlotStands o (slot_at slots.keeper.slots (i + 1)) book)
    (sym there) (h.each i within)
