-- Books that go on from others, and their updates.
use Rattle.std.proofs.Common.{◌≡◌, ℕ, ◌-◌, ◌≤◌, List, [], ◌∷◌, ◌++◌, length, refl, ap, arith, append_assoc, append-nil, length-append, ◌+◌, take, drop, sym, ◌∙◌, add-zero, length-drop}
use Rattle.std.proofs.lemmas.List.Sums.{fold-append}
use Rattle.std.proofs.lemmas.List.{take-append-le, take_all, take-take, take-append-drop, drop-append-le}
use Rattle.lq_volume.specs.declared.change.Change.{Change}
use Rattle.lq_volume.specs.State.{State}
use Rattle.lq_volume.specs.Change.{after}
use Rattle.lq_volume.specs.Book.{Book, Extends, after_all, number_of, state_at, grown, state_of}
use mathlib.Core.List.{IsPrefix}
use Rattle.lq_predicate.specs.Query.{Query}
use Rattle.lq_update.specs.declared.open_options.Flags.{Flags}
use Rattle.lq_update.specs.declared.message.Message.{Message}
use Rattle.lq_update.specs.Updates.{step_of, updates_from, updates_of}
use Rattle.lq_server_slots.specs.Updates.{updates}

-- a book extends itself
pub extends_self : (b : Book) → Extends b b
extends_self b = ([], rw append-nil)

-- a book that extends one that extends another extends that
pub extends_trans : (b c d : Book) → Extends c b → Extends d c → Extends d b
extends_trans b c d e f = (e.0 ++ f.0, rw (f.1, e.1, append_assoc))

-- and has no fewer changes
pub extends_length : (b c : Book) → Extends c b → length b.changes ≤ length c.changes
extends_length b c e =
    omega (arith, ap (λ (x : Book). length x.changes) e.1, length-append b.changes e.0)

-- a longer book leads to the same state at each number of the shorter one
pub state_stays : (c b : Book) (n : ℕ) → Extends c b → n ≤ number_of b
    → state_at c n ≡ state_at b n
state_stays c b n e le =
    rw (e.1, take-append-le (n - b.start.number) b.changes e.0 (omega arith))

-- the messages of two lists of changes, one after the other
append : (q : Query) (flags : Flags) (s : State) (cs ds : List Change) (seq : ℕ)
    → updates_from q flags s (cs ++ ds) seq
    ≡ updates_from q flags s cs seq ++ updates_from q flags (after_all s cs) ds
    (seq + length (updates_from q flags s cs seq))
append q flags s [] ds seq = rw add-zero
append q flags s (c ∷ cs) ds seq =
    let here : List Message = step_of q flags s c seq in
    let rest : List Message = updates_from q flags (after s c) cs (seq + length here) in
    let count : seq + length (here ++ rest) ≡ seq + length here + length rest =
    omega (arith, length-append here rest) in
    rw (count, append q flags (after s c) cs ds (seq + length here), append_assoc)

-- both names of an update list say the same
pub updates_are : (q : Query) (flags : Flags) (b : Book) (m n : ℕ)
    → updates q flags b m n ≡ updates_of q flags b m n
unfolding updates
updates_are q flags b m n = refl

-- one more change adds just its messages
pub updates-add : (q : Query) (flags : Flags) (b : Book) (c : Change) (m : ℕ) → b.start.number ≡ 0
    → m ≤ length b.changes
    → updates q flags (grown b (c ∷ [])) m (length b.changes + 1)
    ≡ updates q flags b m (length b.changes) ++ step_of q flags (state_of b) c
    (length (updates q flags b m (length b.changes)) + 1)
unfolding updates
updates-add q flags b c m first within =
    let k : ℕ = m - b.start.number in
    let cs : List Change = b.changes in
    let d : List Change = drop k cs in
    let s : State = after_all b.start (take k cs) in
    let long : length d ≡ length cs - k = length-drop k cs in
    let whole : after_all b.start cs ≡ after_all s d =
    rw (← fold-append after b.start (take k cs) d, take-append-drop) in
    let seq : length (updates_from q flags s d 1) + 1 ≡ 1 + length (updates_from q flags s d 1) =
    omega arith in
    rw (
      take-append-le k cs (c ∷ []) (omega arith),
      drop-append-le k cs (c ∷ []) (omega arith),
      take_all (length cs + 1 - m) (d ++ c ∷ []) (omega (arith, length-append d (c ∷ []))),
      take_all (length cs - m) d (omega arith),
      append q flags s d (c ∷ []) 1,
      append-nil,
      whole,
      seq,
    )

-- the updates up to a change of the book, in it and with more changes
same_in : (q : Query) (flags : Flags) (b : Book) (more : List Change) (m e : ℕ) → b.start.number ≡ 0
    → m ≤ e → e ≤ length b.changes
    → updates q flags (grown b more) m e ≡ updates q flags b m e
unfolding updates
same_in q flags b more m e first le within =
    let k : ℕ = m - b.start.number in
    let cs : List Change = b.changes in
    rw (
      take-append-le k cs more (omega arith),
      drop-append-le k cs more (omega arith),
      take-append-le (e - m) (drop k cs) more (omega (arith, length-drop k cs)),
    )

-- a longer book has the same updates up to the same change
pub updates-same : (q : Query) (flags : Flags) (b c : Book) (m e : ℕ) → b.start.number ≡ 0
    → Extends c b → m ≤ e → e ≤ length b.changes → updates q flags c m e ≡ updates q flags b m e
updates-same q flags b c m e first p le within = rw p.1 (same_in q flags b p.0 m e first le within)

-- the updates up to a change are a front of those up to a later one
pub updates-front : (q : Query) (flags : Flags) (b : Book) (m e n : ℕ) → e ≤ n
    → IsPrefix (updates q flags b m e) (updates q flags b m n)
unfolding updates
updates-front q flags b m e n le =
    let k : ℕ = m - b.start.number in
    let all : List Change = drop k b.changes in
    let front : List Change = take (e - m) all in
    let rest : List Change = drop (e - m) (take (n - m) all) in
    let split : front ++ rest ≡ take (n - m) all =
    rw (← take-take (e - m) (n - m) all (omega arith))
    (take-append-drop (e - m) (take (n - m) all)) in
    let s : State = state_at b m in (
      updates_from q flags (after_all s front) rest (1 + length (updates_from q flags s front 1)),
      sym (append q flags s front rest 1) ∙ ap (λ l. updates_from q flags s l 1) split,
    )

-- there are none up to the opening
pub updates-none : (q : Query) (flags : Flags) (b : Book) (m : ℕ) → updates q flags b m m ≡ []
unfolding updates
updates-none q flags b m =
    let none : m - m ≡ 0 = omega arith in rw none
