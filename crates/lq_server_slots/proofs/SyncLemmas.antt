-- What a reader does under the lock.
use Rattle.std.proofs.Common.{◌≡◌, ℕ, zero, suc, ◌<◌, ◌≤◌, Bool, true, false, List, length, Option, Some, refl, sym, ap, ◌∙◌, subst, arith, get_or-set_same, slice_set, set-set, ◌+◌, ◌-◌}
use Rattle.std.specs.Prelude.{IsSome, IsSomeAnd}
use Rattle.std.proofs.lemmas.List.{set-get_or}
use Rattle.lq_volume.specs.declared.change.Change.{Change}
use Rattle.lq_volume.specs.Book.{Book}
use Rattle.lq_board.specs.Known.{KnownSlot}
use Rattle.lq_board.specs.Slot.{slot_at, unused, gone_out, go_out, come_back}
use Rattle.lq_board.specs.Author.{come_home, with_heard}
use Rattle.lq_board.specs.Token.{KeeperToken, SeatToken}
use Rattle.lq_board.specs.Meeting.{GoesOut, HasAdded, HasMet, WasOut}
use Rattle.lq_port.specs.End.{End}
use Rattle.lq_server_slots.specs.declared.delivery.Delivery.{Delivery}
use Rattle.lq_server_slots.specs.declared.delivery.Opening.{Opening}
use Rattle.lq_server_slots.specs.declared.ghost_copy.GhostCopy.{GhostCopy}
use Rattle.lq_server_slots.specs.declared.identity.Identity.{Identity}
use Rattle.lq_server_slots.specs.declared.identity.LastReport.{LastReport}
use Rattle.lq_server_slots.specs.declared.subscription.Subscription.{Subscription}
use Rattle.lq_server_slots.specs.Marking.{hung_mark}
use Rattle.lq_server_slots.specs.Identity.{identity_of, port_id_inj}
use Rattle.lq_server_slots.specs.Reading.{ReadingHold}
use Rattle.lq_server_slots.specs.Standing.{IsConsistentAt, IsDrained, IsSeen, CannotPut, SameButHeld, SideBySide, report_of}
use Rattle.lq_server_slots.specs.Slots.{IsTakenSlot, SlotStands, IsSlotMet, KeepsBook, asks_of, OnlyAt, AreConsistent, slot_in, KeepsSlots, KnowsAsks, OthersStay, SameButKnown}
use Rattle.lq_server_slots.specs.Opening.{IdentityFits, asks_after, name_or}
use Rattle.lq_server_slots.proofs.EndLemmas.{told_now}
use Rattle.lq_server_slots.proofs.SlotLemmas.{stuck_filled}
use Rattle.lq_server_slots.specs.declared.slots.ServerSlots.{ServerSlots}
use Rattle.lq_server_slots.proofs.TakenLemmas.{taken_out}
use Rattle.lq_server_slots.proofs.TableLemmas.{in_else, only_set, slots_alike, slots_known, taken_at}

-- the name that is there
some_name : (o : Option Identity) → IsSome o → Some (name_or o) ≡ o
some_name o h = grind arith

-- a seat that came back and went out again sets what the keeper knows of its slot
met_set : (ps : List (KnownSlot Identity)) (k n : ℕ) (was name : Option Identity) → 0 < k
    → k < length ps → gone_out (come_back ps k n was) k name
    ≡ slice_set ps k (record { out = true; asks = n; name = name })
met_set ps zero n was name pos lt = absurd (omega arith)
met_set ps (suc j) n was name pos lt =
    let b : KnownSlot Identity = record { out = false; asks = n; name = was } in
    rw (get_or-set_same ps (suc j) b unused lt, set-set)

-- a slot's seat met the keeper of 65 slots
pub slot_met : (old new : KeeperToken Identity) (s t : SeatToken Identity)
    (named : Option Identity) (n : ℕ) → HasMet old new s t named → n ≡ length t.book.changes
    → old.board ≡ s.board → (0 < s.slot) × (s.slot < 65) × (length old.slots ≡ 65)
    → IsSlotMet old new s t named n
slot_met old new s t named n met counts same place =
    let q : KnownSlot Identity = record { out = true; asks = s.asks; name = named } in
    let lt : s.slot < length old.slots = omega (arith, place.1, place.2) in
    let slots : new.slots ≡ slice_set old.slots s.slot q =
    rw met.keeper (met_set old.slots s.slot s.asks s.name named place.0 lt) in
    let at : slot_at new.slots s.slot ≡ q =
    rw slots (get_or-set_same old.slots s.slot q unused lt) in
    let only : OnlyAt old.slots new.slots s.slot = rw slots (only_set old.slots s.slot q) in
    grind arith

-- and it keeps the name that it has
pub slot_met_same : (old new : KeeperToken Identity) (s t : SeatToken Identity) (n : ℕ)
    → HasMet old new s t (Some (name_or s.name)) → n ≡ length t.book.changes
    → old.board ≡ s.board → (0 < s.slot) × (s.slot < 65) × (length old.slots ≡ 65)
    → IsSome s.name → IsSlotMet old new s t s.name n
slot_met_same old new s t n met counts same place some =
    let name = some_name s.name some in
    rw name at (slot_met old new s t (Some (name_or s.name)) n met counts same place)

-- two calls at one slot, which is known as an equation for the second
pub keeps_then : (old mid new : KeeperToken Identity) (k j : ℕ) → KeepsBook old mid k
    → KeepsBook mid new j → j ≡ k → KeepsBook old new k
keeps_then old mid new k j a b e =
    let c : KeepsBook mid new k = rw e at b in
    record {
      board = c.board ∙ a.board;
      counted = c.counted ∙ a.counted;
      out = c.out ∙ a.out;
      book = c.book ∙ a.book;
      only = record {
        wide = c.only.wide ∙ a.only.wide;
        others = λ j ne. c.only.others j ne ∙ a.only.others j ne;
      };
    }

-- a taken slot stands on once its port is filled and its reader told, and its seat has its new name
pub taken_shown : (s m : Subscription) (last_report : GhostCopy LastReport)
    (p q : KnownSlot Identity)
    (n : ℕ) (book : Book) (d e : ReadingHold) (waiting : ℕ) → IsTakenSlot s p book
    → SideBySide s m d.port e.port book waiting → IsDrained m waiting
    → last_report.value ≡ report_of (length book.changes) (length e.port.taken) m.sub.held.mark →
    p.asks ≤ n
    → q ≡ record {
      out = true;
      asks = n;
      name = Some
          (identity_of (record m { last_report = last_report }));
    }
    → IsTakenSlot (record m { last_report = last_report }) q book
taken_shown s m last_report p q n book d e waiting taken between drained is le known =
    let u : Subscription = record m { last_report = last_report } in
    let stands : IsConsistentAt u book =
    rw is (told_now m.sub.held m.input m.places m.last_report.value m.first_close book
    (length e.port.taken) between.stands) in
    let few : IsSeen u = grind arith in
    let stuck : CannotPut u = rw (between.ends.input.1, ← between.ends.value) drained in
    let filled = stuck_filled u book stands few stuck in
    grind arith

-- a taken slot stands on once it was closed, and its seat has its new name
pub taken_closed : (s t : Subscription) (p q : KnownSlot Identity) (n : ℕ) (book : Book)
    → IsTakenSlot s p book → IsConsistentAt t book → SameButHeld s t
    → t.sub.held.messages ≡ s.sub.held.messages
    → (hung_mark t.sub.held.mark → hung_mark s.sub.held.mark)
    → p.asks ≤ n → q ≡ record { out = true; asks = n; name = Some (identity_of t) }
    → IsTakenSlot t q book
taken_closed s t p q n book taken stands others messages hung le is = grind arith

-- a slot's seat came back
pub seat_joined : (old new : KeeperToken Identity) (k n : ℕ) (name : Option Identity)
    → new
    ≡ record old { slots = come_back old.slots k n name; register = come_home old.register k }
    → 0 < k → k < length old.slots
    → KeepsBook old new k
    × (slot_at new.slots k ≡ record { out = false; asks = n; name = name })
seat_joined old new zero n name is pos lt = absurd (omega arith)
seat_joined old new (suc j) n name is pos lt =
    let q : KnownSlot Identity = record { out = false; asks = n; name = name } in
    let slots : new.slots ≡ slice_set old.slots (suc j) q = rw is refl in (
      record {
        board = rw is refl;
        counted = rw is refl;
        out = rw is refl;
        book = rw is refl;
        only = rw slots (only_set old.slots (suc j) q);
      },
      rw slots (get_or-set_same old.slots (suc j) q unused lt),
    )

-- and had asked no more often than its slot counts
pub joined_asks : (o : Option Subscription) (p : KnownSlot Identity) (book : Book)
    (name : Option Identity) (asks : ℕ) (flag : Bool) → SlotStands o p book → p.out ≡ true
    → p.name ≡ name → IsSomeAnd name (λ t. asks ≡ asks_after t.asks flag) → asks ≤ asks_of o p
joined_asks o p book name asks flag fits out is had = grind arith

-- the lock's port is that of the reader's name
pub same_port : (s : Subscription) (name : Option Identity) (e : End Delivery Opening)
    → name ≡ Some (identity_of s) → IsSomeAnd name (λ t. IdentityFits t e) → e.port ≡ s.input.port
same_port s name e is fits =
    let f = rw is at fits in sym (port_id_inj s.input.port e.port f.port)

-- a slot stands as before once its seat has met the keeper
pub fits_met : (o : Option Subscription) (old new : KeeperToken Identity)
    (s t : SeatToken Identity) (n : ℕ) → SlotStands o (slot_at old.slots s.slot) old.book
    → IsSlotMet old new s t s.name n → SlotStands o (slot_at new.slots s.slot) new.book
fits_met o old new s t n stands met = grind arith

-- and counts as many asks
pub asks_met : (o : Option Subscription) (p q : KnownSlot Identity) (book : Book)
    → SlotStands o p book → p.out ≡ true → asks_of o q ≤ asks_of o p
asks_met o p q book stands out = grind arith

-- all slots stand on once a slot's seat has met the keeper, and the seat's slot is taken
pub slots_met : (slots : ServerSlots) (new : KeeperToken Identity) (s t : SeatToken Identity)
    (n : ℕ) → AreConsistent slots slots.keeper.book → 0 < s.slot → s.slot < 65
    → IsSlotMet slots.keeper new s t s.name n
    → AreConsistent (record slots { keeper = new }) new.book
    × ((i : ℕ) → i + 1 ≡ s.slot → IsSome (slot_in slots.subscriptions i))
slots_met slots new s t n h pos within met =
    let i = s.slot - 1 in
    let e : i + 1 ≡ s.slot = omega (arith, pos) in
    let low : i < 64 = omega (arith, pos, within) in
    let o = slot_in slots.subscriptions i in
    let was : SlotStands o (slot_at slots.keeper.slots s.slot) slots.keeper.book =
    rw e at (h.each i low) in (
      subst (AreConsistent (record slots { keeper = new })) (sym met.keeper.book)
          (slots_known slots new i slots.keeper.book h low (rw e met.keeper.only)
          (rw e (rw met.keeper.book at (fits_met o slots.keeper new s t n was met)))
          (rw e (asks_met o (slot_at slots.keeper.slots s.slot) (slot_at new.slots s.slot)
          slots.keeper.book was met.out))),
      λ j is. taken_out (slot_in slots.subscriptions j) (slot_at slots.keeper.slots (j + 1))
          slots.keeper.book (h.each j (omega (arith, is, within))) (rw is met.out),
    )

-- the seat that met the keeper has the name of the subscription in its slot
pub seat_named : (slots : ServerSlots) (i : ℕ) (x : Subscription) (s t : SeatToken Identity)
    (n : ℕ) {old : KeeperToken Identity} → AreConsistent slots slots.keeper.book → i < 64
    → Some x ≡ slot_in slots.subscriptions i → IsSlotMet old slots.keeper s t s.name n
    → i + 1 ≡ t.slot → s.name ≡ Some (identity_of x)
seat_named slots i x s t n h within there met at =
    let same = at ∙ ap (λ (u : SeatToken Identity). u.slot) met.seat in
    sym (ap (λ (p : KnownSlot Identity). p.name) met.place)
    ∙ (rw same at (taken_at slots slots.keeper.book i x h within there).name)

-- slots of which only what the keeper knows changed are kept
pub kept_known : (old new : ServerSlots) → SameButKnown old new
    → new.keeper.register.out ≡ old.keeper.register.out
    → AreConsistent new new.keeper.book → KeepsSlots old new
kept_known old new same out h =
    record {
      counts = record {
        board = same.board;
        counted = same.counted;
        out = out;
        openings = same.openings;
      };
      book = same.book;
      holding = h;
    }

-- a seat that comes back and goes out again leaves its slot, where nothing is known anew
back_out : (slots : List (KnownSlot Identity)) (k asks : ℕ) (name : Option Identity)
    → k < length slots
    → (0 < k → (slot_at slots k).name ≡ name) → (0 < k → (slot_at slots k).asks ≤ asks)
    → (0 < k → (slot_at slots k).out ≡ true) → (0 < k → asks ≤ (slot_at slots k).asks)
    → go_out (come_back slots k asks name) k name ≡ slots
back_out slots zero asks name lt named most out least = refl
back_out slots (suc k) asks name lt named most out least =
    let pos : 0 < suc k = omega arith in
    let just : asks ≡ (slot_at slots (suc k)).asks = omega (arith, most pos, least pos) in
    met_set slots (suc k) asks name name pos lt
    ∙ (λ i. slice_set slots (suc k)
    (record { out = sym (out pos) i; asks = just i; name = sym (named pos) i }))
    ∙ set-get_or slots (suc k) unused

-- a seat goes out where another has met the keeper first, of which nothing is known anew
pub out_by : (old new : KeeperToken Identity) (s t : SeatToken Identity) (slot : ℕ)
    (name : Option Identity)
    → GoesOut (record old {
      slots = go_out (come_back old.slots s.slot s.asks s.name) s.slot s.name;
    }) new slot name t
    → (0 < s.slot → WasOut old.slots s) → KnowsAsks old.slots s → s.slot < length old.slots
    → GoesOut old new slot name t
out_by old new s t slot name out was least lt =
    subst (λ (slots : List (KnownSlot Identity)). GoesOut (record old { slots = slots }) new slot
    name t)
    (back_out old.slots s.slot s.asks s.name lt (λ pos. (was pos).name) (λ pos. (was pos).asks)
    (λ pos. (was pos).out) least) out

-- a seat that added a change leaves what the keeper knows of the slots, where nothing is known anew
pub slots_added : (change : Change) (n : ℕ) (old new : KeeperToken Identity)
    (s t : SeatToken Identity) → HasAdded change n old new s t → s.slot < length old.slots
    → (0 < s.slot → s.asks ≤ (slot_at old.slots s.slot).asks) → new.slots ≡ old.slots
slots_added change n old new s t added lt least =
    ap (λ (k : KeeperToken Identity). k.slots) added.keeper
    ∙ back_out old.slots s.slot s.asks s.name lt (λ pos. (added.was_out pos).name)
    (λ pos. (added.was_out pos).asks) (λ pos. (added.was_out pos).out) least

-- a seat that meets the keeper again leaves all slots, where nothing is known anew
pub slots_heard : (slots : ServerSlots) (new : KeeperToken Identity) (s : SeatToken Identity)
    (heard : List ℕ)
    → new ≡ record slots.keeper {
      slots = go_out (come_back slots.keeper.slots s.slot s.asks s.name) s.slot s.name;
      register = with_heard slots.keeper.register heard;
    }
    → (0 < s.slot → WasOut slots.keeper.slots s) → s.slot < 65
    → KnowsAsks slots.keeper.slots s → AreConsistent slots slots.keeper.book
    → (new.slots ≡ slots.keeper.slots) × KeepsSlots slots (record slots { keeper = new })
slots_heard slots new s heard is was within least h =
    let same : new.slots ≡ slots.keeper.slots =
    ap (λ (k : KeeperToken Identity). k.slots) is
    ∙ back_out slots.keeper.slots s.slot s.asks s.name (omega (arith, within, h.known))
    (λ pos. (was pos).name) (λ pos. (was pos).asks) (λ pos. (was pos).out) least in
    let book : new.book ≡ slots.keeper.book = ap (λ (k : KeeperToken Identity). k.book) is in (
      same,
      record {
        counts = record {
          board = ap (λ (k : KeeperToken Identity). k.board) is;
          counted = ap (λ (k : KeeperToken Identity). k.register.openings) is;
          out = ap (λ (k : KeeperToken Identity). k.register.out) is;
          openings = refl;
        };
        book = book;
        holding = slots_alike slots new slots.keeper.book new.book h same (sym book);
      },
    )

-- calls at one slot, the last of which puts its subscription back, leave the others
pub others_then : (first old : ServerSlots) (mid keeper : KeeperToken Identity) (i slot two : ℕ)
    (s : Subscription) → first.subscriptions ≡ old.subscriptions
    → KeepsBook old.keeper first.keeper slot → KeepsBook first.keeper mid (i + 1)
    → KeepsBook mid keeper two → i + 1 ≡ two → two ≡ slot
    → OthersStay old (record first {
      keeper = keeper;
      subscriptions = slice_set first.subscriptions i (Some s);
    }) slot
others_then first old mid keeper i slot two s same a b c at is =
    record {
      subscriptions = λ j ne.
          in_else first.subscriptions i j (Some s) (λ e. ne (omega (arith, e, at, is)))
          ∙ ap (λ (l : List (Option Subscription)). slot_in l j) same;
      known = λ k ne. c.only.others k (λ e. ne (e ∙ is))
          ∙ b.only.others k (λ e. ne (omega (arith, e, at, is)))
          ∙ a.only.others k ne;
    }

-- and so do two calls, one after the other
pub others_twice : (old mid new : ServerSlots) (slot : ℕ) → OthersStay old mid slot
    → OthersStay mid new slot → OthersStay old new slot
others_twice old mid new slot a b =
    record {
      subscriptions = λ i ne. b.subscriptions i ne ∙ a.subscriptions i ne;
      known = λ k ne. b.known k ne ∙ a.known k ne;
    }
