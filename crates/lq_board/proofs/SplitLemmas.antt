-- Each split of the keeper keeps the rule.
use Rattle.std.proofs.Common.{◌≡◌, ◌≢◌, ℕ, zero, suc, ◌+◌, ◌<◌, true, false, true≢false, List, [], ◌∷◌, ◌++◌, length, refl, sym, ap, ◌∙◌, subst, arith, Option, append-nil}
use Rattle.std.specs.Prelude.{slice_set}
use mathlib.Core.Option.{some}
use lib.ListN.{get_elem?}
use Rattle.atomic_table.specs.Table.{State, Me, Splits}
use Rattle.lq_board.specs.Known.{KnownSlot, Author, Register, Sitting, Keeping, TokenView, Keeper, Seat}
use Rattle.lq_board.specs.Author.{HasHeard, no_register, leader_register, new_author, with_out}
use Rattle.lq_board.specs.Slot.{slot_at, go_out, come_back}
use Rattle.lq_board.specs.View.{keeping, keeper, keeping_of, sitting_of, taken, with_new_number, with_new_seat, copy_of, led, lead_of, with_slot_seat, seated, parted, again_of, again_recorded, parted_with_seat, again_with_seat}
use Rattle.lq_board.specs.Rule.{Agrees, Sits, CountsOut, ViewFits, HeardFits, BookFits, Roll, Owns, BoardState, IsKept}
use Rattle.lq_board.proofs.AuthorLemmas.{numbered, fits_later, owns_new, owns_later, fits_out, owns_out}
use Rattle.lq_board.proofs.WordLemmas.{slot_here, out_else, agrees_out}
use Rattle.lq_board.proofs.ViewLemmas.{owner_set, owner_here, owner_else, moved, numbers_apart, owns_here, owns_else, fits_split, fits_still, rule_of, splits_as, came_self, sits_same, heard_none}

module _ {M : Type 0} where
  -- what the keeper knows of the slot of a seat that can go out
  abbrev pub IsFree : List (KnownSlot M) → ℕ → ℕ → Type 0
  IsFree slots slot asks =
      0 < slot → ((slot_at slots slot).out ≡ false) × (asks ≡ (slot_at slots slot).asks)

  -- the latest seat that came back can go out again
  abbrev pub IsBack : Keeping M → Type 0
  IsBack v =
      (0 < v.back.author.number)
      × (v.back.slot < 65)
      × IsFree v.slots v.back.slot v.back.asks

  -- what the keeper knows of a slot whose seat came back
  come_free : (slots : List (KnownSlot M)) (k asks : ℕ) (name : Option M) → k < length slots
      → IsFree (come_back slots k asks name) k asks
  come_free slots zero asks name lt pos = absurd (omega (arith, pos))
  come_free slots (suc k) asks name lt pos =
      let here = slot_here slots (suc k) (record { out = false; asks = asks; name = name }) lt in
      (ap (λ (r : KnownSlot M). r.out) here, sym (ap (λ (r : KnownSlot M). r.asks) here))

  -- a seat that came back can
  pub is_back : (me you now : Me ℕ (TokenView M)) → now ≡ (taken me.0 you.0, me.1)
      → length (keeping_of me.0).slots ≡ 65 → 0 < (sitting_of you.0).author.number
      → (sitting_of you.0).slot < 65 → IsBack (keeping_of now.0)
  is_back me you now is wide number within =
      let back = sitting_of you.0 in
      subst (λ (m : Me ℕ (TokenView M)). IsBack (keeping_of m.0)) (sym is) (
        number,
        within,
        come_free (keeping_of me.0).slots back.slot back.asks back.name
            (omega (arith, wide, within)),
      )

  -- the slot of a seat that goes out
  sits_out : (slots : List (KnownSlot M)) (holder : ℕ → ℕ) (words : List ℕ) (slot asks : ℕ)
      (name : Option M) (number : ℕ) → slot < 65 → IsFree slots slot asks → Agrees words slots
      → 0 < slot
      → Sits (go_out slots slot name) (owner_set holder slot number) words slot asks name number
  sits_out slots holder words zero asks name number within free a pos = absurd (omega (arith, pos))
  sits_out slots holder words (suc k) asks name number within free a pos =
      let q : KnownSlot M =
      record { out = true; asks = (slot_at slots (suc k)).asks; name = name } in
      let here = slot_here slots (suc k) q (omega (arith, a.places, within)) in
      record {
        within = within;
        out = ap (λ (r : KnownSlot M). r.out) here;
        named = ap (λ (r : KnownSlot M). r.name) here;
        word = a.idle (suc k) pos within (free pos).0 ∙ sym (free pos).1;
        only = sym (owner_here holder (suc k) number);
      }

  -- a seat goes out, with these authors
  goes_out : (s : State ℕ (TokenView M)) (kept : IsKept s) (id : ℕ) (v : Keeping M)
      → get_elem? s.views id ≡ some (Keeper v) → (r : Register) (roll : Roll) (new : Sitting M)
      → new.slot < 65 → IsFree v.slots new.slot new.asks → BookFits v.book r roll
      → ((by : ℕ) (a : Author) → by ≢ id → Owns v.register kept.0.roll by a
      → Owns r roll by a)
      → ((by : ℕ) (u : Sitting M) → by ≢ id → Owns v.register kept.0.roll by u.author
      → CountsOut v.register u → CountsOut r u)
      → Owns r roll (length s.views) new.author → CountsOut r new
      → HasHeard s.words r.heard → HasHeard s.words new.author.heard
      → IsKept (record s {
        views =
            slice_set s.views id (keeper v.book (go_out v.slots new.slot new.name) r)
            ++ Seat (record new { book = v.book }) ∷ [];
      })
  goes_out s kept id v at r roll new within free books still few mine mine_few heard mine_heard =
      let k = rule_of s kept id v at in
      let holder : ℕ → ℕ = kept.0.holder in
      let w : Keeping M = keeping v.book (go_out v.slots new.slot new.name) r in
      let b : BoardState M =
      record {
        id = id;
        view = w;
        roll = roll;
        holder = owner_set holder new.slot new.author.number;
      } in (
        b,
        record {
          number = k.number;
          agrees = agrees_out s.words v.slots new.slot new.name within k.agrees;
          came = came_self v.book;
          books = books;
          fits = fits_split (ViewFits b s.words) s.views id (Keeper w)
              (Seat (record new { book = v.book }))
              (fits_still k b s.words (λ by. by ≢ id) (λ by apart is. absurd (apart is))
              (λ by u apart f. (
                f.0,
                still by u.author apart f.1,
                λ pos.
                    let t = f.2 pos in
                    let ne : u.slot ≢ new.slot =
                    λ i. true≢false
                    (sym t.out ∙ ap (λ (j : ℕ). (slot_at v.slots j).out) i
                    ∙ (free (omega (arith, i, pos))).0) in
                    sits_same (rw (out_else v.slots new.slot u.slot new.name ne) (refl, refl))
                    (owner_else holder new.slot new.author.number u.slot ne) t,
                few by u apart f.1 f.3,
              )))
              (refl, refl, λ (lt : 0 < 0). absurd (omega arith)) (
                ([], rw append-nil),
                mine,
                sits_out v.slots holder s.words new.slot new.asks new.name new.author.number within
                    free k.agrees,
                mine_few,
              );
          heard = fits_split (λ by. HeardFits s.words) s.views id (Keeper w)
              (Seat (record new { book = v.book })) (λ by u apart e. k.heard by u e)
              (heard, heard_none s.words) mine_heard;
        },
      )

  -- a new seat goes out
  enters : (f h : ℕ → ℕ) (id : ℕ) (v : Keeping M) (new : Sitting M) → new.slot < 65
      → IsFree v.slots new.slot new.asks
      → ((u : Sitting M) (roll : Roll) (by : ℕ) → Owns v.register roll by u.author
      → CountsOut v.register u → CountsOut (numbered f h v.register) u)
      → Splits IsKept id (Keeper v)
      (keeper v.book (go_out v.slots new.slot new.name) (numbered f h v.register))
      (Seat (record new { book = v.book; author = new_author v.register }))
  enters f h id v new within free few s kept at =
      let books = (rule_of s kept id v at).books in
      let n : ℕ = length s.views in
      goes_out s kept id v at (numbered f h v.register) (moved kept.0.roll (v.register.seats + 1) n)
      (record new { author = new_author v.register }) within free
      (fits_later f h v.book v.register kept.0.roll books) (λ by a apart o. owns_later f h n o)
      (λ by u apart o. few u kept.0.roll by o)
      (owns_new f h n v.book v.register kept.0.roll books) (λ is. absurd (true≢false (sym is)))
      ((rule_of s kept id v at).heard id (Keeper v) at).0 (heard_none s.words)

  -- a new seat of no slot, which goes out where no seat leads, or stays within a call
  pub copies : {me : Me ℕ (TokenView M)} (id : ℕ) (v : Keeping M) → me ≡ (Keeper v, [])
      → v.register.free ≡ true → Splits IsKept id me.0 (with_new_seat me.0) (copy_of me.0)
  copies id v is free =
      splits_as id with_new_seat copy_of is
      (enters (λ n. n) (λ n. n + 1) id v (sitting_of (copy_of (Keeper v))) (omega arith)
      (λ (lt : 0 < 0). absurd (omega arith))
      (λ u roll by o few leads. absurd (true≢false (sym free ∙ (o.leads leads).counted))))

  pub stays : {me : Me ℕ (TokenView M)} (id : ℕ) (v : Keeping M) → me ≡ (Keeper v, [])
      → Splits IsKept id me.0 (with_new_number me.0) (copy_of me.0)
  stays id v is =
      splits_as id with_new_number copy_of is
      (enters (λ n. n) (λ n. n) id v (sitting_of (copy_of (Keeper v))) (omega arith)
      (λ (lt : 0 < 0). absurd (omega arith)) (λ u roll by o few. few))

  -- a slot's new seat
  pub sits_down : {me : Me ℕ (TokenView M)} (id k : ℕ) (name : Option M) (v : Keeping M)
      → me ≡ (Keeper v, []) → 0 < k → k < 65 → (slot_at v.slots k).out ≡ false
      → Splits IsKept id me.0 (with_slot_seat k name me.0) (seated k name me.0)
  sits_down id zero name v is pos within free = absurd (omega (arith, pos))
  sits_down id (suc k) name v is pos within free =
      splits_as id (with_slot_seat (suc k) name) (seated (suc k) name) is
      (enters (λ n. n + 1) (λ n. n) id v (sitting_of (seated (suc k) name (Keeper v))) within
      (λ _. (free, refl)) (λ u roll by o few. few))

  -- the leading seat
  pub leading : {me : Me ℕ (TokenView M)} (id : ℕ) (v : Keeping M) → me ≡ (Keeper v, [])
      → v.register ≡ no_register → Splits IsKept id me.0 (led me.0) (lead_of me.0)
  leading id v is none =
      splits_as id led lead_of is (λ s kept at.
      let books = (rule_of s kept id v at).books in
      let first : v.register.seats ≡ 0 = ap (λ (r : Register). r.seats) none in
      goes_out s kept id v at leader_register
      (record { who = λ _. length s.views; enlisted = []; gathered = [] })
      (sitting_of (lead_of (Keeper v))) (omega arith) (λ (lt : 0 < 0). absurd (omega arith))
      record {
        full = books.full;
        signed =
            record {
              each = ap (λ (r : Register). length r.authors) (sym none) ∙ books.signed.each;
              seats = tt;
            };
        enlisted = tt;
        gathered = λ counted. refl;
      }
      (λ by a apart o.
      let least = o.author.least in
      let most = o.author.most in
      absurd (omega (arith, least, most, first)))
      (λ by u apart o.
      let least = o.author.least in
      let most = o.author.most in
      absurd (omega (arith, least, most, first)))
      record {
        author = record { least = omega arith; most = omega arith; changes = refl; free = refl };
        only = refl;
        signs = λ counted. refl;
        leads = λ is. record { number = refl; counted = refl; enlisted = refl; gathered = refl };
      }
      (λ is. omega arith) (heard_none s.words) (heard_none s.words))

  -- the latest seat that came back
  pub again : {now : Me ℕ (TokenView M)} {more : List (ℕ × ℕ)} (id : ℕ) (name : Option M)
      (openings : ℕ → ℕ) (v : Keeping M) → now ≡ (Keeper v, more) → IsBack v
      → Splits IsKept id now.0 (parted name now.0) (again_of name openings now.0)
  again id name openings v is back =
      splits_as id (parted name) (again_of name openings) is (λ s kept at.
      let k = rule_of s kept id v at in
      let n : ℕ = length s.views in
      let seat = (k.fits id (Keeper v) at).2 back.0 in
      goes_out s kept id v at v.register (moved kept.0.roll v.back.author.number n)
      (sitting_of (again_of name openings (Keeper v))) back.1 back.2 k.books
      (λ by a apart other. owns_else n seat.1 apart other) (λ by u apart other few. few)
      (owns_here n seat.1) seat.3 (k.heard id (Keeper v) at).0 (k.heard id (Keeper v) at).1)

  -- the same, and it records this moment
  pub again_recorded_may : {now : Me ℕ (TokenView M)} {more : List (ℕ × ℕ)} (id : ℕ)
      (name : Option M) (openings : ℕ → ℕ) (v : Keeping M) → now ≡ (Keeper v, more) → IsBack v
      → Splits IsKept id now.0 (parted name now.0) (again_recorded name openings now.0)
  again_recorded_may id name openings v is back =
      splits_as id (parted name) (again_recorded name openings) is (λ s kept at.
      let k = rule_of s kept id v at in
      let n : ℕ = length s.views in
      let seat = (k.fits id (Keeper v) at).2 back.0 in
      goes_out s kept id v at v.register (moved kept.0.roll v.back.author.number n)
      (sitting_of (again_recorded name openings (Keeper v))) back.1 back.2 k.books
      (λ by a apart other. owns_else n seat.1 apart other) (λ by u apart other few. few)
      (owns_here n seat.1) seat.3 (k.heard id (Keeper v) at).0 (k.heard id (Keeper v) at).1)

  -- the same, where it leads and one seat more is made for it, which is out
  pub again_for : {now : Me ℕ (TokenView M)} {more : List (ℕ × ℕ)} (id : ℕ) (v : Keeping M)
      → now ≡ (Keeper v, more) → IsBack v → v.back.author.leads ≡ true
      → Splits IsKept id now.0 (parted_with_seat now.0) (again_with_seat now.0)
  again_for id v is back leads =
      splits_as id parted_with_seat again_with_seat is (λ s kept at.
      let k = rule_of s kept id v at in
      let n : ℕ = length s.views in
      let out : ℕ = v.register.out + 1 in
      let seat = (k.fits id (Keeper v) at).2 back.0 in
      let roll : Roll = moved kept.0.roll v.back.author.number n in
      goes_out s kept id v at (with_out v.register) roll
      (sitting_of (again_with_seat (Keeper v))) back.1 back.2 (fits_out roll out k.books)
      (λ by a apart other. owns_out out (owns_else n seat.1 apart other))
      (λ by u apart other few is'. absurd (numbers_apart seat.1 apart other
      ((other.leads is').number ∙ sym (seat.1.leads leads).number)))
      (owns_out out (owns_here n seat.1)) (λ is'. let few = seat.3 leads in omega (arith, few))
      (k.heard id (Keeper v) at).0 (k.heard id (Keeper v) at).1)
