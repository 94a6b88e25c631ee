-- Each step on a word keeps the rule.
use Rattle.std.proofs.Common.{◌≡◌, ◌≢◌, ℕ, zero, suc, ◌+◌, ◌<◌, ◌^◌, ◌%◌, List, [], ◌∷◌, length, refl, sym, ap, ◌∙◌, subst, arith, length-append, get_or-set_same, get_or-set_other, Option, Some, true, true≢false, append-nil}
use Rattle.std.specs.Prelude.{slice_index, slice_set, replicate}
use Rattle.std.proofs.lemmas.List.{set-get_or, get_or-replicate}
use mathlib.Core.Option.{none, some, some-injective, some-ne-none}
use lib.ListN.{get_elem?}
use Rattle.atomic_table.specs.Table.{State, Me, keeps, step, Allows}
use Rattle.lq_volume.specs.declared.change.Change.{Change}
use Rattle.lq_volume.specs.State.{State as VolumeState}
use Rattle.lq_volume.specs.Change.{IsLawful}
use Rattle.lq_volume.specs.Laws.{ChangesCount, ChangesKeepTrees}
use Rattle.lq_volume.specs.Book.{Book, grown, state_of}
use Rattle.lq_board.specs.Known.{Author, Sitting, Keeping, TokenView, Keeper, Seat}
use Rattle.lq_board.specs.Book.{IsFullBook}
use Rattle.lq_board.specs.Roll.{numbers, others_after}
use Rattle.lq_board.specs.Author.{IsWhole, with_author, with_change, with_heard, come_home}
use Rattle.lq_board.specs.Slot.{counted}
use Rattle.lq_board.specs.View.{keeping, keeping_of, newborn}
use Rattle.lq_board.specs.Rule.{ViewFits, HeardFits, Owns, BoardState, BoardRule, IsKept}
use Rattle.lq_board.specs.Step.{AddsChange, Sees, Checks, ComesHome, Counts, Hears, AsksAgain}
use Rattle.lq_board.proofs.RollLemmas.{others_all}
use Rattle.lq_board.proofs.AuthorLemmas.{fits_more, owns_more, owns_added, fits_home, owns_home, out_home, fits_heard, owns_heard, heard_home}
use Rattle.lq_board.proofs.WordLemmas.{extends_more, full_more, room_of, counted_same, agrees_unused, agrees_slot, agrees_word}
use Rattle.lq_board.proofs.ViewLemmas.{numbers_apart, fits_set, fits_still, heard_none, heard_word, rule_of, came_self, sits_at, sits_same, slots_apart}

module _ {M : Type 0} where
  -- the words of a new board
  pub opens : (start : VolumeState) → IsFullBook (record { start = start; changes = [] })
      → IsKept {M = M} (record { words = replicate 65 0; homes = []; views = newborn start ∷ [] })
  opens start full =
      let within : 0 < 65 = omega arith in (
        first,
        record {
          number = get_or-replicate 65 0 0 0 within;
          agrees = agrees_unused;
          came = came_self first.view.book;
          books =
              record {
                full = full;
                signed = record { each = refl; seats = tt };
                enlisted = tt;
                gathered = λ counted. absurd (true≢false counted);
              };
          fits = one;
          heard = none_heard;
        },
      )
    where
      first : BoardState M
      first =
          record {
            id = 0;
            view = keeping_of (newborn start);
            roll = record { who = λ _. 0; enlisted = []; gathered = [] };
            holder = λ _. 0;
          }

      one : (by : ℕ) (v : TokenView M) → get_elem? (newborn start ∷ []) by ≡ some v
          → ViewFits first (replicate 65 0) by v
      one zero v e =
          subst (ViewFits first (replicate 65 0) 0) (some-injective _ _ e)
          (refl, refl, λ (lt : 0 < 0). absurd (omega arith))
      one (suc by) v e = absurd (some-ne-none v (sym e))

      none_heard : (by : ℕ) (v : TokenView M) → get_elem? (newborn start ∷ []) by ≡ some v
          → HeardFits (replicate 65 0) v
      none_heard zero v e =
          subst (HeardFits (replicate 65 0)) (some-injective _ _ e)
          (heard_none (replicate 65 0), heard_none (replicate 65 0))
      none_heard (suc by) v e = absurd (some-ne-none v (sym e))

  -- a step that leaves its word, of a token that is known
  pub looks : {me : Me ℕ (TokenView M)} (slots id i : ℕ) (v : TokenView M)
      (proves : Me ℕ (TokenView M) → ℕ → Me ℕ (TokenView M) → Type 0) → me ≡ (v, [])
      → ((s : State ℕ (TokenView M)) → IsKept s → get_elem? s.views id ≡ some v
      → (w : TokenView M) × IsKept (record s { views = slice_set s.views id w })
      × proves (v, []) (slice_index s.words i) (w, []))
      → Allows IsKept slots id me i (λ n. n) (proves me)
  looks slots id i v proves is look =
      subst (λ (m : Me ℕ (TokenView M)). Allows IsKept slots id m i (λ n. n) (proves m)) (sym is)
      (λ s kept len at small.
      let now = look s kept at in
      (now.0, keeps, tt, rw (set-get_or s.words i 0) now.1, now.2))

  -- one view changes, and nothing else
  pub viewed : (s : State ℕ (TokenView M)) (kept : IsKept s) (id : ℕ) (v : TokenView M)
      → ViewFits kept.0 s.words id v → HeardFits s.words v
      → IsKept (record s { views = slice_set s.views id v })
  viewed s kept id v fit heard =
      let k = kept.1 in (
        kept.0,
        record {
          number = k.number;
          agrees = k.agrees;
          came = k.came;
          books = k.books;
          fits = fits_set (ViewFits kept.0 s.words) s.views id v (λ by u apart e. k.fits by u e)
              fit;
          heard = fits_set (λ by. HeardFits s.words) s.views id v (λ by u apart e. k.heard by u e)
              heard;
        },
      )

  -- a change by the latest seat that came back is added
  pub adds : {me : Me ℕ (TokenView M)} (slots id : ℕ) (v : Keeping M) (x : Change)
      (said : Option Change) → me ≡ (Keeper v, []) → said ≡ Some x → ChangesKeepTrees → ChangesCount
      → 0 < v.back.author.number → v.back.author.signs ≡ true → IsLawful (state_of v.book) x
      → Allows IsKept slots id me 0 (λ n. (n + 1) % 2 ^ 64)
      (AddsChange said (step slots 0 1 0 none) me)
  adds slots id v x said is says keeps_trees count pos may lawful =
      subst
      (λ (p : Me ℕ (TokenView M) × Option Change). Allows IsKept slots id p.0 0
      (λ n. (n + 1) % 2 ^ 64) (AddsChange p.1 (step slots 0 1 0 none) p.0))
      (λ i. (sym is i, sym says i)) (λ s kept len at small.
      let k = rule_of s kept id v at in
      let seat = (k.fits id (Keeper v) at).2 pos in
      let o = seat.1 in
      let n : ℕ = (slice_index s.words 0 + 1) % 2 ^ 64 in
      let words : List ℕ = slice_set s.words 0 n in
      let book : Book = grown v.book (x ∷ []) in
      let made : Author = with_change v.back.author (length v.book.changes + 1) in
      let w : Keeping M =
      record v {
        book = book;
        register = with_author v.register v.back.author.number;
        back = record v.back { book = book; author = made };
      } in
      let b : BoardState M = record kept.0 { id = id; view = w } in
      let room = room_of keeps_trees count v.book x k.books.full lawful in
      let full = full_more keeps_trees count v.book x k.books.full lawful in
      let next : n ≡ length book.changes =
      omega (arith, length-append v.book.changes (x ∷ []), room, k.number) in (
        Keeper w,
        keeps,
        tt,
        (
          b,
          record {
            number = get_or-set_same s.words 0 n 0 (omega (arith, k.agrees.wide)) ∙ next;
            agrees =
                agrees_word s.words v.slots 0 n (λ (lt : 0 < 0). absurd (omega arith)) k.agrees;
            came = (([], rw append-nil), k.came.1);
            books = fits_more v.book v.register b.roll id v.back.author x full may o k.books;
            fits = fits_set (ViewFits b words) s.views id (Keeper w)
                (fits_still k b words (λ by. by ≢ id) (λ by apart is. absurd (apart is))
                (λ by u apart f. (
                  extends_more v.book u.book x f.0,
                  owns_added o apart f.1,
                  λ pos. sits_at
                      (get_or-set_other s.words 0 u.slot n 0 (λ e. omega (arith, e, pos))
                      ∙ (f.2 pos).word)
                      (f.2 pos),
                  f.3,
                ))) (
                  refl,
                  refl,
                  λ _. (
                    ([], rw append-nil),
                    owns_more v.book v.register b.roll id v.back.author o k.books,
                    λ (lt : 0 < 0). absurd (omega arith),
                    seat.3,
                  ),
                );
            heard = fits_set (λ by. HeardFits words) s.views id (Keeper w)
                (λ by u apart e. heard_word s.words 0 n u (λ (lt : 0 < 0). absurd (omega arith))
                (k.heard by u e))
                (heard_word s.words 0 n (Keeper v) (λ (lt : 0 < 0). absurd (omega arith))
                (k.heard id (Keeper v) at));
          },
        ),
        (refl, k.number, full, k.came),
      ))

  -- what the leading seat has gathered where no seat is enlisted
  whole : {b : BoardState M} {words : List ℕ} {views : List (TokenView M)} {by : ℕ} {a : Author}
      → BoardRule b words views → Owns b.view.register b.roll by a
      → IsWhole a (slice_index words 0)
  whole {b = b} k o leads empty =
      let l = o.leads leads in
      l.gathered ∙ k.books.gathered l.counted
      ∙ ap (λ (called : List ℕ). others_after 0 called b.view.register.authors)
      (sym l.enlisted ∙ empty)
      ∙ others_all 0 b.view.register.authors
      ∙ ap numbers (k.books.signed.each ∙ sym k.number)

  -- a seat looks at the number
  pub sees : {me : Me ℕ (TokenView M)} (slots id : ℕ) (w : Sitting M) → me ≡ (Seat w, [])
      → Allows IsKept slots id me 0 (λ n. n) (Sees (step slots 0 0 0 none) me)
  sees slots id w is =
      looks slots id 0 (Seat w) (Sees (step slots 0 0 0 none)) is (λ s kept at.
      let k = kept.1 in
      let mine = k.fits id (Seat w) at in
      let book : Book = kept.0.view.book in
      let now : TokenView M = Seat (record w { book = book }) in (
        now,
        viewed s kept id now (([], rw append-nil), mine.1, mine.2, mine.3)
            (k.heard id (Seat w) at),
        (refl, mine.0, k.number, k.books.full, whole k mine.1),
      ))

  -- the keeper looks at the number
  pub checks : {me : Me ℕ (TokenView M)} (slots id : ℕ) (v : Keeping M) → me ≡ (Keeper v, [])
      → Allows IsKept slots id me 0 (λ n. n) (Checks (step slots 0 0 0 none) me)
  checks slots id v is =
      looks slots id 0 (Keeper v) (Checks (step slots 0 0 0 none)) is (λ s kept at.
      let k = rule_of s kept id v at in (
        Keeper v,
        viewed s kept id (Keeper v) (kept.1.fits id (Keeper v) at)
            (kept.1.heard id (Keeper v) at),
        (
          refl,
          k.came,
          k.number,
          λ pos. whole k ((k.fits id (Keeper v) at).2 pos).1,
          λ pos. ((k.fits id (Keeper v) at).2 pos).3,
        ),
      ))

  -- the seat that came back last came home
  pub comes_home : {me : Me ℕ (TokenView M)} (slots id : ℕ) (v : Keeping M)
      → me ≡ (Keeper v, [])
      → Allows IsKept slots id me 0 (λ n. n) (ComesHome (step slots 0 0 0 none) me)
  comes_home slots id v is =
      looks slots id 0 (Keeper v) (ComesHome (step slots 0 0 0 none)) is (λ s kept at.
      let k = rule_of s kept id v at in
      let slot : ℕ = v.back.slot in
      let w : Keeping M = keeping v.book v.slots (come_home v.register slot) in
      let b : BoardState M = record kept.0 { id = id; view = w } in (
        Keeper w,
        (
          b,
          record {
            number = k.number;
            agrees = k.agrees;
            came = came_self v.book;
            books = fits_home kept.0.roll slot k.books;
            fits = fits_set (ViewFits b s.words) s.views id (Keeper w)
                (fits_still k b s.words (λ by. by ≢ id) (λ by apart is. absurd (apart is))
                (λ by u apart f. (
                  f.0,
                  owns_home slot f.1,
                  f.2,
                  λ leads. out_home v.register slot _ (f.3 leads),
                )))
                (refl, refl, λ (lt : 0 < 0). absurd (omega arith));
            heard = fits_set (λ by. HeardFits s.words) s.views id (Keeper w)
                (λ by u apart e. k.heard by u e) (
                  heard_home s.words v.register slot (k.heard id (Keeper v) at).0,
                  heard_none s.words,
                );
          },
        ),
        (refl, k.came, k.number, λ pos. whole k ((k.fits id (Keeper v) at).2 pos).1),
      ))

  -- the keeper looks at a slot's word
  pub counts : {me : Me ℕ (TokenView M)} (slots id i : ℕ) (v : Keeping M) → me ≡ (Keeper v, [])
      → 0 < i → i < 65
      → Allows IsKept slots id me i (λ n. n) (Counts (step slots i 0 0 none) me)
  counts slots id i v is pos within =
      looks slots id i (Keeper v) (Counts (step slots i 0 0 none)) is (λ s kept at.
      let k = rule_of s kept id v at in
      let n : ℕ = slice_index s.words i in
      let w : Keeping M = keeping v.book (counted v.slots i n) v.register in
      let b : BoardState M = record kept.0 { id = id; view = w } in (
        Keeper w,
        (
          b,
          record {
            number = k.number;
            agrees = agrees_slot s.words v.slots i _ (omega arith) (λ out. refl) k.agrees;
            came = came_self v.book;
            books = k.books;
            fits = fits_set (ViewFits b s.words) s.views id (Keeper w)
                (fits_still k b s.words (λ by. by ≢ id) (λ by apart is. absurd (apart is))
                (λ by u apart f. (
                  f.0,
                  f.1,
                  λ pos. sits_same
                      (counted_same v.slots i n u.slot (omega (arith, k.agrees.places, within)))
                      refl (f.2 pos),
                  f.3,
                )))
                (refl, refl, λ (lt : 0 < 0). absurd (omega arith));
            heard = fits_set (λ by. HeardFits s.words) s.views id (Keeper w)
                (λ by u apart e. k.heard by u e)
                ((k.heard id (Keeper v) at).0, heard_none s.words);
          },
        ),
        (
          refl,
          k.agrees.known i pos within,
          (k.heard id (Keeper v) at).0 i pos,
          k.agrees.idle i pos within,
        ),
      ))

  -- the keeper hears of all asks
  pub hears : {me : Me ℕ (TokenView M)} (slots id : ℕ) (v : Keeping M) → me ≡ (Keeper v, [])
      → Allows IsKept slots id me 0 (λ n. n) (Hears (step slots 0 0 0 none) me)
  hears slots id v is =
      looks slots id 0 (Keeper v) (Hears (step slots 0 0 0 none)) is (λ s kept at.
      let k = rule_of s kept id v at in
      let h = k.heard id (Keeper v) at in
      let w : Keeping M = record v { register = with_heard v.register s.words } in
      let b : BoardState M = record kept.0 { id = id; view = w } in (
        Keeper w,
        (
          b,
          record {
            number = k.number;
            agrees = k.agrees;
            came = k.came;
            books = fits_heard kept.0.roll s.words k.books;
            fits = fits_set (ViewFits b s.words) s.views id (Keeper w)
                (fits_still k b s.words (λ by. by ≢ id) (λ by apart is. absurd (apart is))
                (λ by u apart f. (f.0, owns_heard s.words f.1, f.2, f.3))) (
                  refl,
                  refl,
                  λ pos.
                      let f = (k.fits id (Keeper v) at).2 pos in
                      (f.0, owns_heard s.words f.1, f.2, f.3),
                );
            heard = fits_set (λ by. HeardFits s.words) s.views id (Keeper w)
                (λ by u apart e. k.heard by u e) (λ k pos. omega arith, h.1);
          },
        ),
        (refl, k.came, h.0, h.1),
      ))

  -- a slot's seat asks
  pub asks : {me : Me ℕ (TokenView M)} (slots id i : ℕ) (w : Sitting M) → me ≡ (Seat w, [])
      → i ≡ w.slot → 0 < w.slot → w.asks < 1000000000000
      → Allows IsKept slots id me i (λ n. (n + 1) % 2 ^ 64) (AsksAgain (step slots i 1 0 none) me)
  asks slots id i w is here pos room =
      subst
      (λ (p : Me ℕ (TokenView M) × ℕ). Allows IsKept slots id p.0 p.1 (λ n. (n + 1) % 2 ^ 64)
      (AsksAgain (step slots p.1 1 0 none) p.0))
      (λ j. (sym is j, sym here j)) (λ s kept len at small.
      let k = kept.1 in
      let mine = k.fits id (Seat w) at in
      let t = mine.2 pos in
      let n : ℕ = (slice_index s.words w.slot + 1) % 2 ^ 64 in
      let words : List ℕ = slice_set s.words w.slot n in
      let next : n ≡ w.asks + 1 = omega (arith, t.word) in
      let word : slice_index words w.slot ≡ n =
      get_or-set_same s.words w.slot n 0 (omega (arith, k.agrees.wide, t.within)) in
      let now : TokenView M = Seat (record w { asks = w.asks + 1 }) in (
        now,
        keeps,
        tt,
        (
          kept.0,
          record {
            number = get_or-set_other s.words w.slot 0 n 0 (λ e. omega (arith, pos, e)) ∙ k.number;
            agrees = agrees_word s.words kept.0.view.slots w.slot n
                (λ _. (t.out, omega (arith, next, t.word))) k.agrees;
            came = k.came;
            books = k.books;
            fits = fits_set (ViewFits kept.0 words) s.views id now
                (fits_still k kept.0 words (λ by. by ≢ id) (λ by apart is. (is, refl))
                (λ by u apart f. (
                  f.0,
                  f.1,
                  λ pos.
                      let ne = slots_apart (numbers_apart mine.1 apart f.1) (f.2 pos) t in
                      sits_at (get_or-set_other s.words w.slot u.slot n 0 ne ∙ (f.2 pos).word)
                      (f.2 pos),
                  f.3,
                )))
                (mine.0, mine.1, λ _. sits_at (word ∙ next) t, mine.3);
            heard = fits_set (λ by. HeardFits words) s.views id now
                (λ by u apart e. heard_word s.words w.slot n u
                (λ _. omega (arith, next, t.word)) (k.heard by u e))
                (heard_word s.words w.slot n (Seat w)
                (λ _. omega (arith, next, t.word)) (k.heard id (Seat w) at));
          },
        ),
        (refl, t.word),
      ))
