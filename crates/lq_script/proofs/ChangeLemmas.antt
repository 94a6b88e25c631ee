-- The changes that a seat made, in the books that it knows.
use Rattle.std.proofs.Common.{◌≡◌, ℕ, ◌-◌, ◌≤◌, List, [], ◌∷◌, ◌++◌, length, map, slice_get, Some, Result, Ok, Err, OnErr, refl, sym, ap, ◌∙◌, subst, arith, append_assoc, append-nil, length-append}
use Rattle.std.proofs.lemmas.List.Elements.{All-append, All-from_recursion, recursion_from_All}
use Rattle.std.proofs.lemmas.List.{get_or_append_left, map-append, take-append-le}
use Rattle.std.proofs.lemmas.Option.{get_or_from_slice_get, slice_get-get_or, slice_get_within}
use Rattle.std.specs.List.{AllByRecursion}
use Rattle.lq_volume.specs.State.{State}
use Rattle.lq_volume.specs.declared.change.Change.{Change}
use Rattle.lq_volume.specs.declared.change.Applied.{Applied}
use Rattle.lq_volume.specs.Change.{node_of}
use Rattle.lq_volume.specs.Book.{Book, Extends, after_all, grown}
use Rattle.lq_board.specs.Known.{Author}
use Rattle.lq_server.specs.Made.{IsChangeOf, MakesMore, state_before}
use Rattle.lq_script.specs.Progress.{OwnToken}

-- a change of a book is one of each book that extends it
change_later : (b c : Book) (a : Applied) → Extends c b → IsChangeOf b a → IsChangeOf c a
change_later b c a e h =
    let i = a.change - 1 in
    let lt = slice_get_within b.changes i h.change h.place in
    let within : i ≤ length b.changes = omega (arith, lt) in
    record {
      change = h.change;
      place = subst (λ (d : Book). slice_get d.changes i ≡ Some h.change) (sym e.1)
          (slice_get-get_or (b.changes ++ e.0) i h.change
          (omega (arith, lt, length-append b.changes e.0))
          ∙ ap Some (get_or_append_left b.changes e.0 h.change i lt
          ∙ get_or_from_slice_get b.changes i h.change h.change h.place));
      node = h.node ∙ ap (λ (s : State). node_of s h.change)
          (ap (λ (cs : List Change). after_all b.start cs)
          (sym (take-append-le i b.changes e.0 within))
          ∙ ap (λ (d : Book). state_before d a.change) (sym e.1));
    }

-- so are several
pub each_later : (b c : Book) (made : List Applied) → Extends c b
    → AllByRecursion (IsChangeOf b) made → AllByRecursion (IsChangeOf c) made
each_later b c [] e h = tt
each_later b c (a ∷ made) e h = (change_later b c a e h.0, each_later b c made e h.1)

-- an author with other changes
abbrev with_changes : Author → List ℕ → Author
with_changes a changes = record a { changes = changes }

-- a seat that made some changes and then others
pub made_then : (a b c : OwnToken) (xs ys : List Applied) → MakesMore a b xs → MakesMore b c ys
    → MakesMore a c (xs ++ ys)
made_then a b c xs ys h k = record {
  author =
      k.author
      ∙ ap (λ (x : Author). with_changes x (x.changes ++ map (λ (t : Applied). t.change) ys))
      h.author
      ∙ ap (λ (ns : List ℕ). with_changes a.author ns)
      (append_assoc a.author.changes (map (λ (t : Applied). t.change) xs)
      (map (λ (t : Applied). t.change) ys)
      ∙ ap (λ (ns : List ℕ). a.author.changes ++ ns)
      (sym (map-append (λ (t : Applied). t.change) xs ys)));
  later = (
    h.later.0 ++ k.later.0,
    k.later.1 ∙ ap (λ (x : Book). grown x k.later.0) h.later.1
        ∙ ap (λ (cs : List Change). record { start = a.book.start; changes = cs })
        (append_assoc a.book.changes h.later.0 k.later.0),
  );
  each = recursion_from_All (IsChangeOf c.book) (xs ++ ys) (All-append (IsChangeOf c.book) xs ys
      (All-from_recursion (IsChangeOf c.book) xs (each_later b.book c.book xs k.later h.each))
      (All-from_recursion (IsChangeOf c.book) ys k.each));
}

-- a seat that made none, and only knows a later book
pub made_none : (a b : OwnToken) → b.author ≡ a.author → Extends b.book a.book → MakesMore a b []
made_none a b author later = record {
  author =
      author ∙ ap (λ (ns : List ℕ). with_changes a.author ns) (sym (append-nil a.author.changes));
  later = later;
  each = tt;
}

-- the same seat
pub made_same : (a : OwnToken) → MakesMore a a []
made_same a = made_none a a refl (
  [],
  ap (λ (cs : List Change). record { start = a.book.start; changes = cs })
      (sym (append-nil a.book.changes)),
)

-- what holds anyway holds of an error
pub on_err_any : {T E P : Type 0} (r : Result T E) → P → OnErr r P
on_err_any (Ok x) p = tt
on_err_any (Err e) p = p
