-- A longer book adds to the end of an update list.
use Rattle.std.proofs.Common.{◌≡◌, ◌≤◌, ℕ, ◌+◌, ◌-◌, List, [], ◌∷◌, ◌++◌, arith, ap, length, take, drop, length-drop, ◌∙◌, append_assoc, append-nil, sym}
use Rattle.std.proofs.lemmas.List.Sums.{fold-append}
use Rattle.std.proofs.lemmas.List.{length-append, take_all, take-append-le, take-take, take-append-drop, drop-append-le}
use Rattle.lq_predicate.specs.Query.{Query}
use Rattle.lq_volume.specs.declared.change.Change.{Change}
use Rattle.lq_volume.specs.Change.{after}
use Rattle.lq_volume.specs.Book.{Book, after_all, grown, number_of, state_at, state_of}
use Rattle.lq_update.specs.declared.message.Message.{Message}
use Rattle.lq_update.specs.declared.open_options.Flags.{Flags}
use Rattle.lq_update.specs.Updates.{updates_of, updates_from, step_of}
use Rattle.lq_update.specs.Laws.{ChangesAddSteps, UpdatesArePrefixes, UpdatesBeginEmpty, UpdatesGrow, UpdatesJoin, UpdatesStay}

-- what is behind two lists has the number behind both
two-lists : (f : ℕ → List Message) (xs ys zs : List Message) (seq : ℕ)
    → zs ≡ ys ++ f (seq + length xs + length ys)
    → xs ++ zs ≡ xs ++ ys ++ f (seq + length (xs ++ ys))
two-lists f xs ys zs seq is =
    let number : seq + length xs + length ys ≡ seq + length (xs ++ ys) =
    rw (length-append xs ys) (omega arith) in
    ap (λ rest. xs ++ rest) is ∙ (sym (append_assoc xs ys (f (seq + length xs + length ys)))
    ∙ ap (λ n. xs ++ ys ++ f n) number)

-- the messages of some changes, and then of more
pub updates-join : UpdatesJoin
updates-join q flags s [] ds seq = ap (updates_from q flags s ds) (omega arith)
updates-join q flags s (c ∷ cs) ds seq =
    two-lists (updates_from q flags (after_all (after s c) cs) ds) (step_of q flags s c seq)
    (updates_from q flags (after s c) cs (seq + length (step_of q flags s c seq)))
    (updates_from q flags (after s c) (cs ++ ds) (seq + length (step_of q flags s c seq))) seq
    (updates-join q flags (after s c) cs ds (seq + length (step_of q flags s c seq)))

-- the state of a number is the same where more changes follow
state-grown : (b : Book) (more : List Change) (m : ℕ) → m ≤ number_of b
    → state_at (grown b more) m ≡ state_at b m
state-grown b more m within =
    ap (after_all b.start) (take-append-le (m - b.start.number) b.changes more (omega arith))

-- one more change adds just its messages
pub changes-add : ChangesAddSteps
changes-add q flags b c m n all within =
    let k = m - b.start.number in
    let cs = b.changes in
    let s = state_at b m in
    let late = drop k cs in
    let many : length late ≡ length cs - k = length-drop k cs in
    let then : take (n + 1 - m) (drop k (cs ++ c ∷ [])) ≡ late ++ c ∷ [] =
    ap (take (n + 1 - m)) (drop-append-le k cs (c ∷ []) (omega arith))
    ∙ take_all (n + 1 - m) (late ++ c ∷ []) (omega (arith, length-append late (c ∷ []))) in
    let now : take (n - m) late ≡ late = take_all (n - m) late (omega arith) in
    let old = updates_from q flags s late 1 in
    let end : after_all s late ≡ state_of b = sym (fold-append after b.start (take k cs) late)
    ∙ ap (after_all b.start) (take-append-drop k cs) in
    let seq : 1 + length old ≡ length old + 1 = omega arith in
    (λ i. updates_from q flags (state-grown b (c ∷ []) m (omega arith) i) (then i) 1)
    ∙ updates-join q flags s late (c ∷ []) 1
    ∙ ap (λ ms. old ++ ms) (append-nil (step_of q flags (after_all s late) c (1 + length old)))
    ∙ (λ i. old ++ step_of q flags (end i) c (seq i))
    ∙ ap (λ (ds : List Change). updates_from q flags s ds 1
    ++ step_of q flags (state_of b) c (length (updates_from q flags s ds 1) + 1)) (sym now)

-- more changes at the end of a book don't alter an update list that ends before them
same-grown : (q : Query) (flags : Flags) (b : Book) (more : List Change) (m e : ℕ)
    → b.start.number ≤ m → m ≤ e → e ≤ number_of b
    → updates_of q flags (grown b more) m e ≡ updates_of q flags b m e
same-grown q flags b more m e low le within =
    let k = m - b.start.number in
    let between : take (e - m) (drop k (b.changes ++ more)) ≡ take (e - m) (drop k b.changes) =
    ap (take (e - m)) (drop-append-le k b.changes more (omega arith))
    ∙ take-append-le (e - m) (drop k b.changes) more (omega (arith, length-drop k b.changes)) in
    λ i. updates_from q flags (state-grown b more m (omega arith) i) (between i) 1

-- a longer book has the same update list up to a number of the shorter one
pub updates-stay : UpdatesStay
updates-stay q flags longer b m e extends low le within =
    ap (λ (d : Book). updates_of q flags d m e) extends.1
    ∙ same-grown q flags b extends.0 m e low le within

-- an update list is a prefix of the later ones
pub updates-prefixes : UpdatesArePrefixes
updates-prefixes q flags b m e n le =
    let all = drop (m - b.start.number) b.changes in
    let front = take (e - m) all in
    let rest = drop (e - m) (take (n - m) all) in
    let split : front ++ rest ≡ take (n - m) all =
    ap (λ cs. cs ++ rest) (sym (take-take (e - m) (n - m) all (omega arith)))
    ∙ take-append-drop (e - m) (take (n - m) all) in
    let s = state_at b m in (
      updates_from q flags (after_all s front) rest (1 + length (updates_from q flags s front 1)),
      sym (updates-join q flags s front rest 1) ∙ ap (λ cs. updates_from q flags s cs 1) split,
    )

-- a longer book only adds to the end of an update list
pub updates-grow : UpdatesGrow
updates-grow q flags b m n = updates-prefixes q flags b m n (n + 1) (omega arith)

-- before any change there is none
pub updates-none : UpdatesBeginEmpty
updates-none q flags b m =
    let none : m - m ≡ 0 = omega arith in
    ap (λ n. updates_from q flags (state_at b m)
    (take n (drop (m - b.start.number) b.changes)) 1) none
