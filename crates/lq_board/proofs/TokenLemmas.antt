-- The tokens between their steps, as the calls need them, and a seat that comes back.
use Rattle.std.proofs.Common.{◌≡◌, ℕ, List, [], ◌∷◌, length, sym, ap, ◌∙◌, Option, Some, ◌≢◌, ◌<◌, refl, arith}
use Rattle.std.specs.Prelude.{slice_index}
use mathlib.Core.Option.{some, some-injective, some-ne-none}
use lib.ListN.{get_elem?}
use Rattle.atomic_table.specs.declared.shared.Seat.{Seat as Token}
use Rattle.atomic_table.specs.Table.{Me, Final, Seen, Joins}
use Rattle.lq_board.specs.Known.{Keeping, TokenView, Keeper, Sitting, Seat, Spent}
use Rattle.lq_board.specs.Token.{BoardName, KeeperToken, SeatToken, seat_token, table_of, me_of}
use Rattle.lq_board.specs.View.{IsSitting, sitting_of, IsSeat, keeping_of, taken}
use Rattle.lq_board.specs.Rule.{IsKept, ViewFits, HeardFits, BoardState}
use Rattle.lq_board.proofs.ViewLemmas.{rule_of, moved, numbers_apart, owns_here, owns_else, fits_join, fits_still, joins_as, sits_same, slots_apart}
use Rattle.atomic_table.specs.Seated.{TableId}
use Rattle.atomic_table.proofs.Lists.{set_else}
use Rattle.lq_board.proofs.WordLemmas.{back_else, agrees_back}

-- one board has one table
pub same_table : {a b : BoardName} → a ≡ b → a.table ≡ b.table
same_table e = ap (λ (z : BoardName). z.table) e

module _ {M : Type 0} where
  -- a keeper of this board is of its table
  pub keeper_table : {k h : KeeperToken M} {a b : BoardName} → k ≡ h → h.board ≡ b → a ≡ b
      → k.board.table ≡ a.table
  keeper_table is on view =
      ap (λ (t : KeeperToken M). t.board.table) is ∙ same_table (on ∙ sym view)

  -- a seat's token, which is absent only within a call
  pub lent : {o : Option (Token ℕ (TokenView M))} {token : Token ℕ (TokenView M)}
      {s : SeatToken M} {a b : BoardName} → o ≡ Some token → IsSitting (me_of o)
      → seat_token (table_of o) (me_of o) ≡ s → s.board ≡ b → a ≡ b
      → (token.table_id ≡ a.table) × IsSeat token.me (sitting_of token.me.0)
  lent is sits seen on view = (
    rw is at (ap (λ (t : SeatToken M). t.board.table) seen ∙ same_table (on ∙ sym view)),
    rw is at sits.0,
  )

  -- the last number is the length of the keeper's book
  pub closes : (id : ℕ) {me : Me ℕ (TokenView M)} (v : Keeping M) (words other : List ℕ)
      → me ≡ (Keeper v, []) → Final (Seen IsKept id me.0) words other
      → slice_index words 0 ≡ length v.book.changes
  closes id v words other is f =
      let at : get_elem? f.0.views id ≡ some (Keeper v) =
      f.1.1 ∙ ap (λ (m : Me ℕ (TokenView M)). some m.0) is in
      rw (← f.2) (rule_of f.0 f.1.0 id v at).number

-- the word that was got at place 0 is the first
pub first_of : (words : List ℕ) (n : ℕ) → get_elem? words 0 ≡ some n → n ≡ slice_index words 0
first_of [] n e = absurd (some-ne-none n (sym e))
first_of (x ∷ xs) n e = sym (some-injective x n e)

module _ {M : Type 0} where
  -- a seat comes back
  backs : {me you : Me ℕ (TokenView M)} (id : ℕ) (v : Keeping M) (other : ℕ) (w : Sitting M)
      → me ≡ (Keeper v, []) → you ≡ (Seat w, [])
      → Joins IsKept id me.0 other you.0 (taken me.0 you.0) Spent
  backs id v other w is are =
      joins_as id other taken is are (λ s kept at apart there.
      let k = rule_of s kept id v at in
      let now : Keeping M = keeping_of (taken (Keeper v) (Seat w)) in
      let b : BoardState M =
      record kept.0 { id = id; view = now; roll = moved kept.0.roll w.author.number id } in
      let seat =
      k.fits other (Seat w) (sym (set_else s.views id other (Keeper now) apart) ∙ there) in (
        b,
        record {
          number = k.number;
          agrees = agrees_back s.words v.slots w.slot w.asks w.name (λ pos. (seat.2 pos).word)
              k.agrees;
          came = (
            seat.0,
            λ pos.
                let t = seat.2 pos in
                let known = k.agrees.known w.slot pos t.within in
                (t.named, omega (arith, t.word, known), t.out),
          );
          books = k.books;
          fits = fits_join (ViewFits b s.words) s.views id other (Keeper now)
              (fits_still k b s.words (λ by. (by ≢ id) × (by ≢ other))
              (λ by away is. absurd (away.0 is))
              (λ by u away f. (
                f.0,
                owns_else id seat.1 away.1 f.1,
                λ pos.
                    let ne : u.slot ≢ w.slot =
                    λ i. slots_apart (numbers_apart seat.1 away.1 f.1) (f.2 pos)
                    (seat.2 (omega (arith, i, pos))) i in
                    sits_same
                    (rw (back_else v.slots w.slot u.slot w.asks w.name ne) (refl, refl)) refl
                    (f.2 pos),
                f.3,
              ))) (
                refl,
                refl,
                λ _. (
                  seat.0,
                  owns_here id seat.1,
                  λ (lt : 0 < 0). absurd (omega arith),
                  seat.3,
                ),
              )
              tt;
          heard = fits_join (λ by. HeardFits s.words) s.views id other (Keeper now)
              (λ by v away e. k.heard by v e) (
                (k.heard id (Keeper v) at).0,
                k.heard other (Seat w)
                    (sym (set_else s.views id other (Keeper now) apart) ∙ there),
              )
              tt;
        },
      ))

  -- what the join asks
  pub back_may : {u : TableId} {h k : KeeperToken M} {a b : BoardName}
      {me you : Me ℕ (TokenView M)} (id other : ℕ) → h ≡ k → k.board ≡ b → a ≡ b
      → u ≡ a.table → a.table.words ≡ 65 → me ≡ (Keeper (keeping_of me.0), [])
      → IsSeat you (sitting_of you.0)
      → (h.board.table ≡ a.table)
      × (u ≡ a.table)
      × (you.1 ≡ [])
      × (0 < a.table.words)
      × Joins IsKept id me.0 other you.0 (taken me.0 you.0) Spent
  back_may id other is on view there words keeps sits = (
    keeper_table is on view,
    there,
    ap (λ (m : Me ℕ (TokenView M)). m.1) sits,
    omega (arith, words),
    backs id _ other _ keeps sits,
  )
