-- A query that was followed: what its reader received, and the volume. Two seats: what their book
-- is.
use Rattle.std.proofs.Common.{◌≡◌, ⊎_elim, inl, inr, ℕ, ◌<◌, ◌≤◌, Bool, cond, eq-eqb, false, List, [], ◌∷◌, ◌++◌, length, map, take, Option, Some, Result, Err, refl, sym, ap, ◌∙◌, subst, arith, length-append, append-nil}
use Rattle.std.proofs.lemmas.Bool.Decides.{nat_tests}
use Rattle.std.specs.Prelude.{IsSomeAnd}
use Rattle.lq_value.specs.declared.refusal.Refusal.{Refusal}
use Rattle.lq_value.specs.declared.refusal.Refusal.TheVariants.{NoMemory}
use Rattle.lq_predicate.specs.Query.{Query}
use Rattle.lq_volume.specs.State.{State}
use Rattle.lq_volume.specs.declared.change.Change.{Change}
use Rattle.lq_volume.specs.Book.{Book, Extends, state_at}
use Rattle.lq_volume.specs.Result.{result_of}
use Rattle.lq_board.specs.Known.{Author}
use Rattle.lq_board.specs.Roll.{numbers, without_number}
use Rattle.lq_board.specs.Token.{BoardName, SeatToken}
use Rattle.lq_update.specs.Options.{no_values}
use Rattle.lq_update.specs.declared.mark.Mark.{Mark}
use Rattle.lq_update.specs.Updates.{updates_of}
use Rattle.lq_update.specs.Laws.{UpdatesStay}
use Rattle.lq_server_slots.specs.declared.identity.Identity.{Identity}
use Rattle.lq_server_slots.specs.declared.delivery.Delivery.{Delivery}
use Rattle.lq_server_slots.specs.declared.delivery.Opening.{Opening}
use Rattle.lq_server_slots.specs.Laws.{BooksExtendOn, StatesStay}
use Rattle.lq_server_slots.specs.Rule.{query_of, mark_in}
use Rattle.lq_server_slots.specs.Reading.{known_book, mark_read}
use Rattle.lq_server_slots.specs.Opening.{IdentityFits, asks_after}
use Rattle.lq_server.specs.declared.server.Synced.{Synced}
use Rattle.lq_server.specs.declared.server.Retired.{Retired}
use Rattle.lq_server_slots.specs.Hold.{ReaderHold}
use Rattle.lq_server.specs.Opened.{IsNewReader}
use Rattle.lq_server.specs.Syncing.{IsSynced}
use Rattle.lq_server.specs.Headline.{ReaderIsTold}
use Rattle.lq_server.specs.Retired.{IsRetired}
use Rattle.lq_server.specs.Counted.{AreMixed, AreMixedEarlier, AreRising, HasMadeJust, TwoSeatsMakeTheBook, changes_at}
use Rattle.lq_model.specs.Followed.{HasHungUp, IsFollowed, AreBothMade, AreBothGathered, AreRefusedAmid, HasApplied, HasMade, IsRefusedAt}
use Rattle.lq_model.proofs.MadeLemmas.{changes_at-later, take_less}

-- nobody is left of a list of one
pub alone : (k : ℕ) → without_number k (k ∷ []) ≡ []
alone k = ap (λ (b : Bool). cond b [] (k ∷ [])) (eq-eqb k k refl)

-- nobody is left of a list of two
pub none_left : (k l : ℕ) → without_number l (without_number k (l ∷ k ∷ [])) ≡ []
none_left k l = grind (arith, nat_tests)

-- a seat met another, and knows a book that extends its own
pub record Meets (was now : SeatToken Identity) : Type 0 where
  pub seat : now ≡ record was { book = now.book }
  pub later : Extends now.book was.book

-- from the opening over the reads to the last sync, a meeting of the seats and the end of the
-- server
pub followed : UpdatesStay → BooksExtendOn → StatesStay
    → (start : State) (q : Query) (board : BoardName) (begun : Book) (port backlog : ℕ)
    (first old new : ReaderHold) (x : Synced) (one : SeatToken Identity) (z : Retired)
    (changes : List Change)
    → IsNewReader first board begun q (no_values false) port backlog → HasHungUp first old
    → IsSynced old new x
    → ReaderIsTold new
    → Meets new.seat one → (by : IsRetired start one.book z.volume z.changes)
    → by.book.changes ≡ changes → length begun.changes ≡ 0
    → IsFollowed start q changes (record {
      reader = record {
        reading = new.reading;
        seat = one;
        slot = new.slot;
        hang_up_asked = new.hang_up_asked;
      };
      synced = x;
      retired = z;
    })
followed stay on states start q board begun port backlog first old new x one z changes
    o out s told met r made none =
    let f = new.reading.port.floor in
    let floor : f ≡ first.reading.port.floor = s.port.2 ∙ out.goes.floor in
    let first_floor : Opening = first.reading.port.floor in
    let query : (query_of f ≡ query_of first_floor) × (f.flags ≡ first_floor.flags)
    × (f.opened ≡ first_floor.opened) = (
      ap query_of floor,
      ap (λ (g : Opening). g.flags) floor,
      ap (λ (g : Opening). g.opened) floor,
    ) in
    let b : Book = known_book new.reading in
    let book : Book = new.seat.book in
    let k : (k : Mark) × (mark_read old.reading ≡ Some k) = grind (arith, out.marked) in
    let mark : Mark = k.0 in
    let read : mark_read new.reading ≡ Some mark =
    ap (λ (ps : List Delivery). mark_in ps) s.taken ∙ k.1 in
    let knows : Extends book b =
    subst (λ (c : Book). Extends book c) (sym s.known_stays) s.knows in
    let whole = told.mark mark read in
    let zero : b.start.number ≡ 0 = told.book.first in
    let long : length b.changes ≤ length book.changes = grind (arith, length-append, knows) in
    let here = whole.within in
    let after = whole.opened in
    let is : query_of f ≡ q = query.0 ∙ o.opened.query in
    let moves : f.flags ≡ no_values false = query.1 ∙ o.opened.flags_are in
    record {
      own = record {
        low = s.own.low;
        high = s.own.high;
        slot = ap (λ (t : SeatToken Identity). t.slot) met.seat ∙ s.own.slot;
        name = subst
            (λ (t : Option Identity × ℕ). IsSomeAnd t.0 (λ n.
            IdentityFits n new.reading.port × (t.1 ≡ asks_after n.asks new.hang_up_asked)
            × (n.asks < 1000000000000)))
            (λ i. ((sym met.seat i).name, (sym met.seat i).asks)) s.own.name;
      };
      query = is;
      flags = moves;
      asked = s.hang_up_asked ∙ out.asked;
      book = book;
      lawful = s.lawful;
      number = s.number;
      knows = knows;
      mark = mark;
      read = read;
      synced = s.read out.marked ∙ k.1;
      opened = whole.opened;
      within = omega arith;
      all = whole.all
          ∙ sym (stay (query_of f) f.flags book b f.opened mark.change knows (omega arith)
          whole.opened (omega arith))
          ∙ (λ i. updates_of (is i) (moves i) book f.opened mark.change);
      seq = whole.seq;
      entries = told.closed mark read
          ∙ ap (λ (t : State). result_of (query_of f) t)
          (sym (states book b mark.change knows (omega arith)))
          ∙ ap (λ (p : Query). result_of p (state_at book mark.change)) is;
      retired = record {
        book = r.book;
        full = r.full;
        begins = r.begins;
        later = on book one.book r.book met.later r.later;
        state = r.state;
        number = r.number;
        limit = r.limit;
      };
      made = made;
      first = query.2 ∙ o.opened.opened ∙ none;
    }

-- ---- two seats

-- the numbers of what a seat made, that had made nothing
own_numbers : (old new : SeatToken Identity) (changes : List Change) → old.author.changes ≡ []
    → (m : HasMade old new changes) → m.numbers ≡ new.author.changes
own_numbers old new changes fresh m =
    sym (ap (λ (a : Author). a.changes) m.author
    ∙ ap (λ (ns : List ℕ). ns ++ m.numbers) fresh)

-- a seat that had made nothing made just these changes of each book that extends its own
made_just : (old new : SeatToken Identity) (changes : List Change) (book : Book)
    → old.author.changes ≡ [] → HasMade old new changes → Extends book new.book
    → HasMadeJust book new changes
made_just old new changes book fresh m later =
    let own = own_numbers old new changes fresh m in
    record {
      rise = subst (AreRising 0) own m.rise;
      made = subst (λ (ns : List ℕ). changes_at book ns ≡ map (λ c. Some c) changes) own
          (changes_at-later new.book book m.numbers changes later m.made);
    }

-- what the law says of the book that is left
gathered : TwoSeatsMakeTheBook → (start : State) (old one other two : SeatToken Identity)
    (first second : List Change) (r : Retired) → old.author.changes ≡ []
    → other.author.changes ≡ [] → HasMade old one first → HasMade other two second
    → (g : AreBothGathered start one two r)
    → let book = g.retired.book in
    AreMixed first second book.changes
    × AreMixed one.author.changes two.author.changes g.all
    × AreMixedEarlier book one first second
    × AreMixedEarlier book two second first
gathered law start old one other two first second r fresh new f s g =
    let book : Book = g.retired.book in
    law book one two first second g.gathered g.all
    (made_just old one first book fresh f g.retired.later)
    (made_just other two second book new s g.second)
    g.early g.late (g.whole ∙ ap numbers g.retired.number)

-- what is left where both seats made all
pub both_made : TwoSeatsMakeTheBook → (start : State) (old one other two : SeatToken Identity)
    (first second : List Change) (r : Retired) → old.author.changes ≡ []
    → other.author.changes ≡ [] → HasMade old one first → HasMade other two second
    → AreBothGathered start one two r → AreBothMade start first second r
both_made law start old one other two first second r fresh new f s g =
    let book : Book = g.retired.book in
    record {
      retired = record {
        book = book;
        full = g.retired.full;
        begins = g.retired.begins;
        later = (
          book.changes,
          λ i. record {
            start = g.retired.begins i;
            changes = book.changes;
          },
        );
        state = g.retired.state;
        number = g.retired.number;
        limit = g.retired.limit;
      };
      mixed = (gathered law start old one other two first second r fresh new f s g).0;
    }

-- A change was refused after just those before it, mixed with the first of the others: a seat
-- stopped at it, and the book that it then knew is its changes, mixed with the first of another's.
amid : (start : State) (old one other two : SeatToken Identity) (book : Book)
    (changes others : List Change) (e : Refusal) (r : Result (Unit {0}) Refusal)
    → old.author.changes ≡ [] → old.book.start ≡ start
    → (a : HasApplied old one changes (Err e)) (b : HasApplied other two others r)
    → Extends book one.book
    → AreMixedEarlier book one (take a.accepted changes) (take b.accepted others)
    → AreRefusedAmid start changes others e
amid start old one other two book changes others e r fresh begins a b later mixed =
    let known : Book = one.book in
    let self : Extends known known = ([], rw append-nil) in
    let m =
    mixed known later (made_just old one (take a.accepted changes) known fresh a.made self) in
    let less = take_less m.others b.accepted others in
    ⊎_elim (λ (h : e ≡ NoMemory). inl h)
    (λ (h : IsRefusedAt known changes a.accepted e). inr (record {
      place = a.accepted;
      number = less.0;
      book = known;
      begins = a.start ∙ begins;
      mixed = subst (λ (l : List Change). AreMixed (take a.accepted changes) l known.changes)
          less.1 m.mixed;
      refused = h;
    }))
    a.err

-- a change of the first seat was refused amid those of both
pub first_amid : TwoSeatsMakeTheBook → (start : State) (old one other two : SeatToken Identity)
    (first second : List Change) (e : Refusal) (r : Result (Unit {0}) Refusal) (z : Retired)
    → old.author.changes ≡ [] → other.author.changes ≡ [] → old.book.start ≡ start
    → HasApplied old one first (Err e) → HasApplied other two second r
    → AreBothGathered start one two z → AreRefusedAmid start first second e
first_amid law start old one other two first second e r z fresh new begins a b g =
    amid start old one other two g.retired.book first second e r fresh begins a b g.retired.later
    (gathered law start old one other two (take a.accepted first) (take b.accepted second) z fresh
    new a.made b.made g).2

-- a change of the second seat was
pub second_amid : TwoSeatsMakeTheBook → (start : State) (old one other two : SeatToken Identity)
    (first second : List Change) (e : Refusal) (r : Result (Unit {0}) Refusal) (z : Retired)
    → old.author.changes ≡ [] → other.author.changes ≡ [] → other.book.start ≡ start
    → HasApplied old one first r → HasApplied other two second (Err e)
    → AreBothGathered start one two z → AreRefusedAmid start second first e
second_amid law start old one other two first second e r z fresh new begins a b g =
    amid start other two old one g.retired.book second first e r new begins b a g.second
    (gathered law start old one other two (take a.accepted first) (take b.accepted second) z fresh
    new a.made b.made g).3
