-- Two seats that a call takes keep the rule, whether it compares, enlists or dismisses.
use Rattle.std.proofs.Common.{◌≡◌, ◌≢◌, ℕ, ◌<◌, Bool, true, false, List, [], ◌∷◌, length, refl, sym, ◌∙◌, subst, arith, ap}
use Rattle.std.specs.Prelude.{slice_set}
use mathlib.Core.Option.{none, some}
use lib.ListN.{get_elem?}
use Rattle.atomic_table.specs.Seated.{TableId}
use Rattle.atomic_table.specs.Table.{State, Me, step, Allows, Splits, Joins}
use Rattle.atomic_table.proofs.Lists.{set_else}
use Rattle.lq_board.specs.Known.{Moment, Sitting, TokenView, Seat, Pair, Spent}
use Rattle.lq_board.specs.Roll.{is_listed, without_number, others_after, AreSeats}
use Rattle.lq_board.specs.View.{paired, IsSeat, second_of, first_seat, of_roll, of_signs, of_heard}
use Rattle.lq_board.specs.Rule.{ViewFits, HeardFits, BoardState, BoardRule, IsKept}
use Rattle.lq_board.specs.Step.{Compares, Enlists, Dismisses, HearsOf}
use Rattle.lq_board.proofs.RollLemmas.{seats_without, has_here, has_else, without_here, without_else, others_enlisted, others_dismissed}
use Rattle.lq_board.proofs.AuthorLemmas.{owns_heard_author, author_same, owns_called, share_none}
use Rattle.lq_board.proofs.ViewLemmas.{moved, numbers_apart, owns_moved, owns_here, owns_else, fits_set, fits_split, fits_join, fits_still, splits_as, joins_as}
use Rattle.lq_board.proofs.PlayLemmas.{looks, viewed}

module _ {M : Type 0} where
  -- two seats become a pair
  pairs : {me you : Me ℕ (TokenView M)} (id : ℕ) (a : Sitting M) (other : ℕ) (b : Sitting M)
      → me ≡ (Seat a, []) → you ≡ (Seat b, [])
      → Joins IsKept id me.0 other you.0 (paired me.0 you.0) Spent
  pairs id a other b is are =
      joins_as id other paired is are (λ s kept at apart there.
      let k = kept.1 in
      let one = k.fits id (Seat a) at in
      let two =
      k.fits other (Seat b) (sym (set_else s.views id other (Pair a b) apart) ∙ there) in
      let ne = numbers_apart two.1 (λ e. apart (sym e)) one.1 in
      let now : BoardState M =
      record kept.0 { roll = moved kept.0.roll b.author.number id } in (
        now,
        record {
          number = k.number;
          agrees = k.agrees;
          came = k.came;
          books = k.books;
          fits = fits_join (ViewFits now s.words) s.views id other (Pair a b)
              (fits_still k now s.words (λ by. (by ≢ id) × (by ≢ other))
              (λ by away is. (is, refl))
              (λ by w away f. (f.0, owns_else id two.1 away.1 f.1, f.2, f.3))) (
                (
                  one.0,
                  owns_moved b.author.number id ne one.1,
                  λ (lt : 0 < 0). absurd (omega arith),
                  one.3,
                ),
                (two.0, owns_here id two.1, two.2, two.3),
                ne,
              )
              tt;
          heard = fits_join (λ by. HeardFits s.words) s.views id other (Pair a b)
              (λ by v away e. k.heard by v e) (
                k.heard id (Seat a) at,
                k.heard other (Seat b)
                    (sym (set_else s.views id other (Pair a b) apart) ∙ there),
              )
              tt;
        },
      ))

  -- what a join of two seats asks
  pub pair_may : {t u table : TableId} {one two : Me ℕ (TokenView M)} {a b : Sitting M}
      (id other : ℕ) → t ≡ table → u ≡ table → table.words ≡ 65 → IsSeat one a → IsSeat two b
      → (t ≡ table)
      × (u ≡ table)
      × (two.1 ≡ [])
      × (0 < table.words)
      × Joins IsKept id one.0 other two.0 (paired one.0 two.0) Spent
  pair_may id other on there words is are = (
    on,
    there,
    ap (λ (m : Me ℕ (TokenView M)). m.1) are,
    omega (arith, words),
    pairs id _ other _ is are,
  )

  -- a pair is compared
  pub compares : {me : Me ℕ (TokenView M)} (slots id : ℕ) (a b : Sitting M) → me ≡ (Pair a b, [])
      → Allows IsKept slots id me 0 (λ n. n) (Compares (step slots 0 0 0 none) me)
  compares slots id a b is =
      looks slots id 0 (Pair a b) (Compares (step slots 0 0 0 none)) is (λ s kept at.
      let fit = kept.1.fits id (Pair a b) at in (
        Pair a b,
        viewed s kept id (Pair a b) fit (kept.1.heard id (Pair a b) at),
        (refl, fit.2, share_none fit.0.1.author fit.1.1.author fit.2),
      ))

  -- the first of a pair hears of the second
  pub hears_of : {me : Me ℕ (TokenView M)} (slots id : ℕ) (a b : Sitting M) → me ≡ (Pair a b, [])
      → Allows IsKept slots id me 0 (λ n. n) (HearsOf (step slots 0 0 0 none) me)
  hears_of slots id a b is =
      looks slots id 0 (Pair a b) (HearsOf (step slots 0 0 0 none)) is (λ s kept at.
      let fit = kept.1.fits id (Pair a b) at in
      let h = kept.1.heard id (Pair a b) at in (
        Pair (of_heard a s.words) b,
        viewed s kept id (Pair (of_heard a s.words) b)
            ((fit.0.0, owns_heard_author s.words fit.0.1, fit.0.2, fit.0.3), fit.1, fit.2)
            ((λ k pos. omega arith), h.1),
        (refl, h.0, h.1, λ pos. let t = fit.1.2 pos in omega (arith, t.word)),
      ))

  -- what the rule knows, with this roll
  abbrev rolled : BoardState M → List ℕ → List ℕ → BoardState M
  rolled b enlisted gathered =
      record b { roll = record b.roll { enlisted = enlisted; gathered = gathered } }

  -- the rule, where the roll is that of the leading seat
  led_by : (s : State ℕ (TokenView M)) (kept : IsKept s) (id : ℕ) (a b : Sitting M)
      → a.author.leads ≡ true → get_elem? s.views id ≡ some (Pair a b)
      → BoardRule (rolled kept.0 a.author.enlisted a.author.gathered) s.words s.views
  led_by s kept id a b leads at =
      let l = (kept.1.fits id (Pair a b) at).0.1.leads leads in
      subst (λ (c : BoardState M). BoardRule c s.words s.views)
      (λ i. rolled kept.0 (sym l.enlisted i) (sym l.gathered i)) kept.1

  -- the first of a pair enlists or dismisses the second
  called : (s : State ℕ (TokenView M)) (kept : IsKept s) (id : ℕ) (a b : Sitting M)
      (enlisted gathered : List ℕ) (signs : Bool)
      → a.author.leads ≡ true → get_elem? s.views id ≡ some (Pair a b)
      → AreSeats kept.0.view.register.seats enlisted
      → gathered ≡ others_after 0 enlisted kept.0.view.register.authors
      → ((j : ℕ) → j ≢ b.author.number
      → is_listed j enlisted ≡ is_listed j a.author.enlisted)
      → is_listed b.author.number enlisted ≡ signs
      → IsKept (record s {
        views = slice_set s.views id (Pair (of_roll a enlisted gathered) (of_signs b signs));
      })
  called s kept id a b enlisted gathered signs leads at seats whole others is =
      let k = led_by s kept id a b leads at in
      let fit = k.fits id (Pair a b) at in
      let one = fit.0.1 in
      let two = fit.1.1 in
      let l = one.leads leads in
      let now : BoardState M = rolled kept.0 enlisted gathered in (
        now,
        record {
          number = k.number;
          agrees = k.agrees;
          came = k.came;
          books =
              record {
                full = k.books.full;
                signed = k.books.signed;
                enlisted = seats;
                gathered = λ counted. whole;
              };
          fits = fits_set (ViewFits now s.words) s.views id _
              (fits_still k now s.words (λ by. by ≢ id) (λ by apart is. (is, refl))
              (λ by w apart f. (
                f.0,
                owns_called enlisted gathered
                    (λ i. numbers_apart one apart f.1 (i ∙ sym l.number))
                    (others w.author.number (numbers_apart two apart f.1)) f.1,
                f.2,
                f.3,
              ))) (
                (
                  fit.0.0,
                  record {
                    author = author_same _ _ _ one.author;
                    only = one.only;
                    signs = λ counted. one.signs counted ∙ sym (others a.author.number fit.2);
                    leads = λ _. record {
                      number = l.number;
                      counted = l.counted;
                      enlisted = refl;
                      gathered = refl;
                    };
                  },
                  λ (lt : 0 < 0). absurd (omega arith),
                  fit.0.3,
                ),
                (
                  fit.1.0,
                  record {
                    author = author_same _ _ _ two.author;
                    only = two.only;
                    signs = λ counted. sym is;
                    leads = λ is'. absurd (fit.2 (l.number ∙ sym (two.leads is').number));
                  },
                  fit.1.2,
                  fit.1.3,
                ),
                fit.2,
              );
          heard = fits_set (λ by. HeardFits s.words) s.views id _
              (λ by v apart e. k.heard by v e) (k.heard id (Pair a b) at);
        },
      )

  -- the first of a pair enlists the second
  pub enlists : {me : Me ℕ (TokenView M)} (slots id : ℕ) (a b : Sitting M) → me ≡ (Pair a b, [])
      → a.author.leads ≡ true → b.author.changes ≡ []
      → Allows IsKept slots id me 0 (λ n. n) (Enlists (step slots 0 0 0 none) me)
  enlists slots id a b is leads fresh =
      let n : ℕ = b.author.number in
      looks slots id 0 (Pair a b) (Enlists (step slots 0 0 0 none)) is (λ s kept at.
      let k = led_by s kept id a b leads at in
      let fit = k.fits id (Pair a b) at in
      let two = fit.1.1.author in (
        _,
        called s kept id a b (n ∷ a.author.enlisted) a.author.gathered true leads at
            (two.least, two.most, k.books.enlisted)
            (k.books.gathered (fit.0.1.leads leads).counted
            ∙ sym (others_enlisted 0 n a.author.enlisted kept.0.view.register.authors
            (sym two.changes ∙ fresh)))
            (λ j ne. has_else j n a.author.enlisted ne) (has_here n a.author.enlisted),
        refl,
      ))

  -- the first of a pair dismisses the second
  pub dismisses : {me : Me ℕ (TokenView M)} (slots id : ℕ) (a b : Sitting M)
      → me ≡ (Pair a b, []) → a.author.leads ≡ true → b.author.signs ≡ true
      → Allows IsKept slots id me 0 (λ n. n) (Dismisses (step slots 0 0 0 none) me)
  dismisses slots id a b is leads signs =
      let n : ℕ = b.author.number in
      let enlisted : List ℕ = without_number n a.author.enlisted in
      looks slots id 0 (Pair a b) (Dismisses (step slots 0 0 0 none)) is (λ s kept at.
      let k = led_by s kept id a b leads at in
      let fit = k.fits id (Pair a b) at in
      let two = fit.1.1 in
      let counted = (fit.0.1.leads leads).counted in
      let authors : List ℕ = kept.0.view.register.authors in (
        _,
        called s kept id a b enlisted (others_after 0 enlisted authors) false leads at
            (seats_without kept.0.view.register.seats n a.author.enlisted k.books.enlisted) refl
            (λ j ne. without_else n j a.author.enlisted ne) (without_here n a.author.enlisted),
        (
          refl,
          rw (k.books.gathered counted, two.author.changes)
              (others_dismissed 0 n a.author.enlisted authors (sym (two.signs counted) ∙ signs)),
        ),
      ))

  -- a pair becomes two seats, the first of no slot, and the second with these moments
  pub unpairs : {now : Me ℕ (TokenView M)} {more : List (ℕ × ℕ)} (id : ℕ) (a b : Sitting M)
      (moments : TokenView M → List (Moment M)) → now ≡ (Pair a b, more)
      → Splits IsKept id now.0 (first_seat now.0)
      (Seat (record (second_of now.0) { moments = moments now.0 }))
  unpairs id a b moments is =
      let last : TokenView M → TokenView M =
      λ v. Seat (record (second_of v) { moments = moments v }) in
      splits_as id first_seat last is (λ s kept at.
      let k = kept.1 in
      let fit = k.fits id (Pair a b) at in
      let two = fit.1.1 in
      let n : ℕ = length s.views in
      let now : BoardState M = record kept.0 { roll = moved kept.0.roll b.author.number n } in (
        now,
        record {
          number = k.number;
          agrees = k.agrees;
          came = k.came;
          books = k.books;
          fits = fits_split (ViewFits now s.words) s.views id (first_seat (Pair a b))
              (last (Pair a b))
              (fits_still k now s.words (λ by. by ≢ id) (λ by apart is. (is, refl))
              (λ by w apart f. (f.0, owns_else n two apart f.1, f.2, f.3)))
              (fit.0.0, owns_moved b.author.number n fit.2 fit.0.1, fit.0.2, fit.0.3)
              (fit.1.0, owns_here n two, fit.1.2, fit.1.3);
          heard = fits_split (λ by. HeardFits s.words) s.views id (first_seat (Pair a b))
              (last (Pair a b)) (λ by v apart e. k.heard by v e) (k.heard id (Pair a b) at).0
              (k.heard id (Pair a b) at).1;
        },
      ))
