-- The changes that a seat made, in the book that it then knows.
use Rattle.std.proofs.Common.{◌≡◌, ℕ, List, [], ◌∷◌, Result, Ok, Err, IfOk, OnErr, sym, ap, ◌∙◌, arith, append-nil}
use Rattle.std.proofs.lemmas.Grind.{common_steps}
use Rattle.std.proofs.lemmas.Option.{gets}
use Rattle.lq_value.specs.declared.refusal.Refusal.{Refusal}
use Rattle.lq_volume.specs.declared.change.Change.{Change}
use Rattle.lq_volume.specs.declared.change.Applied.{Applied}
use Rattle.lq_volume.specs.Change.{node_of}
use Rattle.lq_volume.specs.Book.{Extends}
use Rattle.lq_board.specs.Known.{Author}
use Rattle.lq_board.specs.Author.{with_change}
use Rattle.lq_board.specs.Token.{SeatToken}
use Rattle.lq_server_slots.specs.declared.identity.Identity.{Identity}
use Rattle.lq_server_slots.specs.Applied.{IsAdded}
use Rattle.lq_server.specs.Made.{MakesMore, state_before}

-- an author with other changes
abbrev with_changes : Author → List ℕ → Author
with_changes a changes = record a { changes = changes }

-- a seat that made none, and only knows a later book
made_none : (a b : SeatToken Identity) → b.author ≡ a.author → Extends b.book a.book
    → MakesMore a b []
made_none a b author later = record {
  author =
      author ∙ ap (λ (ns : List ℕ). with_changes a.author ns) (sym (append-nil a.author.changes));
  later = later;
  each = tt;
}

-- a seat that only knows a later book, and all else of it as it was
pub made_book : (a b : SeatToken Identity) → b ≡ record a { book = b.book } → Extends b.book a.book
    → MakesMore a b []
made_book a b same later = made_none a b (ap (λ (s : SeatToken Identity). s.author) same) later

-- or with other moments, and with readers made for it
pub made_moments : (a b : SeatToken Identity)
    → b ≡ record a { book = b.book; moments = b.moments; openings = b.openings }
    → Extends b.book a.book → MakesMore a b []
made_moments a b same later = made_none a b (ap (λ (s : SeatToken Identity). s.author) same) later

-- a seat that made one
made_one : (a b : SeatToken Identity) (t : Applied) (c : Change)
    → b.author ≡ with_change a.author t.change → IsAdded a.book b.book t c
    → MakesMore a b (t ∷ [])
made_one a b t c author d =
    record {
      author = author;
      later = d.later;
      each = (
        record {
          change = c;
          place = grind (arith, common_steps, gets);
          node = d.node ∙ ap (λ (n : ℕ). node_of (state_before b.book n) c) (sym d.number);
        },
        tt,
      );
    }

-- a seat that asked for one, and was answered
pub made_by : (a b : SeatToken Identity) (c : Change) (r : Result Applied Refusal)
    → IfOk r (λ t. b.author ≡ with_change a.author t.change)
    → IfOk r (λ t. IsAdded a.book b.book t c) → IfOk r (λ t. MakesMore a b (t ∷ []))
made_by a b c (Ok t) author added = made_one a b t c author added
made_by a b c (Err e) author added = tt

-- and where it was refused
pub made_err : (a b : SeatToken Identity) (r : Result Applied Refusal)
    → OnErr r (b.author ≡ a.author) → Extends b.book a.book → OnErr r (MakesMore a b [])
made_err a b (Ok t) author later = tt
made_err a b (Err e) author later = made_none a b author later
