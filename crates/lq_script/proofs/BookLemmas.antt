-- A book that grows.
use Rattle.std.proofs.Common.{◌≡◌, ℕ, ◌+◌, ◌-◌, ◌≤◌, List, [], ◌∷◌, ◌++◌, length, take, None, refl, ap, ◌∙◌, arith, append-nil, length-append}
use Rattle.std.proofs.lemmas.List.{take-append-le, take_all}
use Rattle.lq_volume.specs.State.{State}
use Rattle.lq_volume.specs.declared.change.Change.{Change as Change_}
use Rattle.lq_volume.specs.Change.{after, refused}
use Rattle.lq_volume.specs.Laws.{ChangesCount}
use Rattle.lq_volume.specs.Book.{AreLawful, Book, Extends, after_all, grown, state_of}

-- a book that extends another has as many changes at least
pub extends_length : (c b : Book) → Extends c b → length b.changes ≤ length c.changes
extends_length c b e =
    let is : length c.changes ≡ length (b.changes ++ e.0) =
    ap (λ (x : Book). length x.changes) e.1 in
    omega (arith, is, length-append b.changes e.0)

-- none more, where it has no more
pub none_more : (cs : List Change_) → length cs ≡ 0 → cs ≡ []
none_more [] h = refl
none_more (c ∷ cs) h = absurd (let no : ⊥ = omega (arith, h) in no)

pub extends_same : (c b : Book) → Extends c b → length c.changes ≡ length b.changes → c ≡ b
extends_same c b e same =
    let is : length c.changes ≡ length (b.changes ++ e.0) =
    ap (λ (x : Book). length x.changes) e.1 in
    let none : e.0 ≡ [] =
    none_more e.0 (omega (arith, is, same, length-append b.changes e.0)) in
    e.1
    ∙ ap (λ (cs : List Change_). grown b cs) none
    ∙ ap (λ (cs : List Change_). record { start = b.start; changes = cs })
    (append-nil b.changes)

-- the number of a book that begins with number 0
pub state_number : ChangesCount → (b : Book) → b.start.number ≡ 0
    → (state_of b).number ≡ length b.changes
state_number count b first = omega (arith, count b.start b.changes, first)

-- a front of lawful changes is lawful, and so is what comes next
pub lawful_front : (s : State) (cs : List Change_) (c : Change_) → AreLawful s (cs ++ c ∷ [])
    → AreLawful s cs × (refused (after_all s cs) c ≡ None)
lawful_front s [] c h = (tt, h.0)
lawful_front s (d ∷ cs) c h =
    let rest = lawful_front (after s d) cs c h.1 in ((h.0, rest.0), rest.1)

-- a book without its last change, where that is one more than of a book that it extends
pub before_is : (new old : Book) → Extends new old → length new.changes ≡ length old.changes + 1
    → record { start = new.start; changes = take (length new.changes - 1) new.changes } ≡ old
before_is new old e one =
    let front : take (length new.changes - 1) new.changes ≡ old.changes =
    ap (λ (n : ℕ). take n new.changes)
    (let k : length new.changes - 1 ≡ length old.changes = omega (arith, one) in k)
    ∙ ap (λ (b : Book). take (length old.changes) b.changes) e.1
    ∙ take-append-le (length old.changes) old.changes e.0 (omega arith)
    ∙ take_all (length old.changes) old.changes (omega arith) in
    ap (λ (b : Book). record {
      start = b.start;
      changes = take (length new.changes - 1) new.changes;
    }) e.1
    ∙ ap (λ (cs : List Change_). record { start = old.start; changes = cs }) front
