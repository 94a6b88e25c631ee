-- Folding what two results differ by over the one gives the other.
use Rattle.std.proofs.Common.{◌≡◌, ℕ, ◌+◌, ◌<◌, List, [], ◌∷◌, ◌++◌, refl, sym, ap, subst, ◌∙◌, Bool, true, false, arith, inl, inr}
use Rattle.std.specs.Prelude.{Option, Some, None, is_some, map, not, ◌==◌, if◌then◌else◌}
use Rattle.std.specs.Option.{option_map, option_map_or}
use Rattle.std.specs.List.{AllByRecursion, list_any}
use Rattle.std.proofs.lemmas.Map.Entries.{option_filter}
use Rattle.std.proofs.lemmas.Bool.{cases_eq}
use Rattle.std.proofs.lemmas.Bool.Decides.{nat_tests}
use Rattle.std.proofs.lemmas.Slice.Eq.{bytes_eq-Decides}
use Rattle.lq_value.specs.declared.entry.Entry.{Entry}
use Rattle.lq_update.specs.declared.message.Opcode.{Opcode}
use Rattle.lq_update.specs.declared.message.Opcode.TheVariants.{Created, Removed, Moved, ValueChanged}
use Rattle.lq_update.specs.declared.message.Message.{Message}
use Rattle.lq_update.specs.Diff.{same_entry, missing, has_node, messages_of}
use Rattle.lq_update.specs.Touched.{left, told_first, told_last}
use Rattle.lq_update.specs.Updates.{numbered}
use Rattle.lq_update.specs.Fold.{EntriesRise, taken_out, old_entry, folded_by, fits_result, folded, folded_one, fits_in}
use Rattle.lq_update.proofs.ToldLemmas.{alone_if, alone-false, came_op, messages-split}
use Rattle.lq_update.proofs.EntryLemmas.{Above, entry_at, at-node, has_node-at, has_entry-at, at-filter, rises-filter, at-put_in, rises-put_in, at-taken_out, same-self, same-entry, entries-same}

-- ---- one message, without its numbers

-- what a message needs its node to have, and what it leaves there
abbrev pub needs : Opcode → Entry → Option Entry
needs Created e = None
needs Removed e = Some e
needs (Moved dir name) e = Some (old_entry dir name e)
needs (ValueChanged attribute) e = Some e

-- what a message leaves at its node
abbrev pub gives : Opcode → Entry → Option Entry
gives Created e = Some e
gives Removed e = None
gives (Moved dir name) e = Some e
gives (ValueChanged attribute) e = Some e

-- a message fits where its node has what it needs
pub fits-needs : (op : Opcode) (e : Entry) (r : List Entry) → EntriesRise r
    → entry_at e.node r ≡ needs op e → fits_result op e r ≡ true
fits-needs Created e r h is = rw (has_node-at e.node r, is) refl
fits-needs Removed e r h is = has_entry-at e r h ∙ rw is (same-self e)
fits-needs (Moved dir name) e r h is = has_entry-at (old_entry dir name e) r h
    ∙ rw is (same-self (old_entry dir name e))
fits-needs (ValueChanged attribute) e r h is = has_entry-at e r h ∙ rw is (same-self e)

-- a message that finds what it needs leaves nodes that rise
pub rises-folded : (op : Opcode) (e : Entry) (r : List Entry) → EntriesRise r
    → entry_at e.node r ≡ needs op e → EntriesRise (folded_by op e r)
rises-folded Created e r h is = rises-put_in e r h is
rises-folded Removed e r h is = rises-filter _ r h
rises-folded (Moved dir name) e r h is = rises-put_in e (taken_out (old_entry dir name e) r)
    (rises-filter _ r h) (at-taken_out r (old_entry dir name e) h is)
rises-folded (ValueChanged attribute) e r h is = h

-- another node has what it had
at-others : (e : Entry) (n : ℕ) (r : List Entry) → EntriesRise r → (e.node ≡ n → ⊥)
    → entry_at n (taken_out e r) ≡ entry_at n r
at-others e n r h differs = at-filter _ n r h ∙ at (entry_at n r) refl
  where
    at : (o : Option Entry) → entry_at n r ≡ o → option_filter (λ f. not (same_entry e f)) o ≡ o
    at None is = refl
    at (Some f) is = grind (arith, nat_tests, at-node n r f is)

-- after such a message its node has what it gives, and each other node what it had
pub at-folded : (op : Opcode) (e : Entry) (r : List Entry)
    → EntriesRise r → entry_at e.node r ≡ needs op e → (n : ℕ)
    → entry_at n (folded_by op e r) ≡ (if e.node == n then gives op e else entry_at n r)
at-folded Created e r h is n = at-put_in e n r is
at-folded Removed e r h is n =
    grind (arith, nat_tests, at-taken_out r e h is, at-others e n r h)
at-folded (Moved dir name) e r h is n =
    let gone = at-taken_out r (old_entry dir name e) h is in
    let put = at-put_in e n (taken_out (old_entry dir name e) r) gone in
    grind (arith, nat_tests, at-others (old_entry dir name e) n r h)
at-folded (ValueChanged attribute) e r h is n = elim (cases_eq e.node n) [
  | inl same ↦ grind (arith, nat_tests)
  | inr differs ↦ grind (arith, nat_tests)
]

-- ---- messages of rising nodes

-- a message without its numbers: an opcode and an entry
abbrev pub Op : Type 0
Op = Opcode × Entry

-- the first message that tells of a node
abbrev pub op_at : ℕ → List Op → Option Op
op_at n [] = None
op_at n (x ∷ xs) = if x.1.node == n then Some x else op_at n xs

-- each message tells of a node above this one
abbrev pub OpsAbove : ℕ → List Op → Type 0
OpsAbove n xs = AllByRecursion (λ x. n < x.1.node) xs

-- the nodes of the messages rise
abbrev pub OpsRise : List Op → Type 0
OpsRise [] = Unit {0}
OpsRise (x ∷ xs) = OpsAbove x.1.node xs × OpsRise xs

-- the set after these messages
abbrev pub ops_folded : List Entry → List Op → List Entry
ops_folded r [] = r
ops_folded r (x ∷ xs) = ops_folded (folded_by x.0 x.1 r) xs

-- each message fits what those before it leave
abbrev pub OpsFit : List Entry → List Op → Type 0
OpsFit r [] = Unit {0}
OpsFit r (x ∷ xs) = (fits_result x.0 x.1 r ≡ true) × OpsFit (folded_by x.0 x.1 r) xs

-- what a node must have, and has then, where this is told of it
abbrev pub NeedAt : Option Op → Option Entry → Type 0
NeedAt None o = Unit {0}
NeedAt (Some x) o = o ≡ needs x.0 x.1

-- what a node has then: what the message gives, or what it had
abbrev pub outcome : Option Op → Option Entry → Option Entry
outcome None o = o
outcome (Some x) o = gives x.0 x.1

-- what messages of rising nodes do to a set in which each node has what its message needs
pub record Phase (r : List Entry) (xs : List Op) : Type 0 where
  pub fit : OpsFit r xs
  pub rise : EntriesRise (ops_folded r xs)
  pub at : (n : ℕ) → entry_at n (ops_folded r xs) ≡ outcome (op_at n xs) (entry_at n r)

-- messages above a node tell nothing of it
op-above : (n : ℕ) (xs : List Op) → OpsAbove n xs → op_at n xs ≡ None
op-above n [] h = refl
op-above n (x ∷ xs) h = let low = h.0 in let rest = op-above n xs h.1 in grind (arith, nat_tests)

-- the first message finds what it needs
head-need : (r : List Entry) (x : Op) (xs : List Op)
    → NeedAt (op_at x.1.node (x ∷ xs)) (entry_at x.1.node r) → entry_at x.1.node r ≡ needs x.0 x.1
head-need r x xs need =
    let same : (x.1.node == x.1.node) ≡ true = grind (arith, nat_tests) in
    rw same at need

-- messages of rising nodes fit, leave nodes that rise, and change each node as they tell
pub phase : (r : List Entry) (xs : List Op) → EntriesRise r → OpsRise xs
    → ((n : ℕ) → NeedAt (op_at n xs) (entry_at n r)) → Phase r xs
phase r [] h k need = record { fit = tt; rise = h; at = λ n. refl }
phase r (x ∷ xs) h k need =
    let here = head-need r x xs (need x.1.node) in
    let rest = phase (folded_by x.0 x.1 r) xs (rises-folded x.0 x.1 r h here) k.1
    (λ n. elim (cases_eq x.1.node n) [
      | inl same ↦ let none : op_at n xs ≡ None = op-above n xs (rw (← same) k.0) in rw none tt
      | inr differs ↦
          let off : (x.1.node == n) ≡ false = grind (arith, nat_tests) in
          let now : entry_at n (folded_by x.0 x.1 r) ≡ entry_at n r = at-folded x.0 x.1 r h here n
          ∙ rw off refl in
          rw now (rw off at (need n))
    ]) in record {
      fit = (fits-needs x.0 x.1 r h here, rest.fit);
      rise = rest.rise;
      at = λ n. rest.at n ∙ elim (cases_eq x.1.node n) [
        | inl same ↦
            let none = op-above n xs (rw (← same) k.0) in
            grind (arith, nat_tests, at-folded x.0 x.1 r h here n)
        | inr differs ↦ grind (arith, nat_tests, at-folded x.0 x.1 r h here n)
      ];
    }

-- ---- the two lists of a difference

-- by the opcode of each entry
op_at-map : (op : Entry → Opcode) (n : ℕ) (es : List Entry)
    → op_at n (map (λ e. (op e, e)) es) ≡ option_map (λ e. (op e, e)) (entry_at n es)
op_at-map op n [] = refl
op_at-map op n (e ∷ es) = grind (arith, nat_tests, op_at-map op n es)

-- messages of entries above a node are above it
above-map : (op : Entry → Opcode) (n : ℕ) (es : List Entry) → Above n es
    → OpsAbove n (map (λ e. (op e, e)) es)
above-map op n [] h = tt
above-map op n (e ∷ es) h = (h.0, above-map op n es h.1)

-- messages of entries that rise do so too
rises-map : (op : Entry → Opcode) (es : List Entry) → EntriesRise es
    → OpsRise (map (λ e. (op e, e)) es)
rises-map op [] h = tt
rises-map op (e ∷ es) h = (above-map op e.node es h.0, rises-map op es h.1)

-- what is told of a node's entry that came, by what left there
pub came-told : (moved : Bool) (n : ℕ) (gone come : List Entry)
    → option_map (λ f. (came_op moved gone f, f)) (entry_at n come)
    ≡ told_last moved (entry_at n gone) (entry_at n come)
came-told moved n gone come = at (entry_at n come) refl
  where
    by : (moved : Bool) (f : Entry) (o : Option Entry) → entry_at f.node gone ≡ o
        → Some (came_op moved gone f, f) ≡ told_last moved o (Some f)
    by false f None is = refl
    by false f (Some e) is = refl
    by true f None is = rw is refl
    by true f (Some e) is = rw is refl

    at : (o : Option Entry) → entry_at n come ≡ o
        → option_map (λ f. (came_op moved gone f, f)) o ≡ told_last moved (entry_at n gone) o
    at None is = refl
    at (Some f) is =
        let node = at-node n come f is in
        by moved f (entry_at n gone) (ap (λ k. entry_at k gone) node)

-- what is missing at a node, and what of it stands alone
pub missing-at : (n : ℕ) (es fs : List Entry) → EntriesRise es → EntriesRise fs
    → entry_at n (missing es fs) ≡ left (entry_at n es) (entry_at n fs)
missing-at n es fs h k = at-filter _ n es h ∙ at (entry_at n es) refl
  where
    at : (o : Option Entry) → entry_at n es ≡ o
        → option_filter (λ d. not (list_any (same_entry d) fs)) o ≡ left o (entry_at n fs)
    at None is = refl
    at (Some e) is =
        let node = at-node n es e is in
        let any : list_any (same_entry e) fs ≡ option_map_or (same_entry e) (entry_at n fs) false =
        rw (← node) (has_entry-at e fs k) in
        grind (arith, nat_tests)

-- the entry that stands alone at a node is its own, unless a move tells of both
pub alone-at : (moved : Bool) (n : ℕ) (es fs : List Entry) → EntriesRise es
    → entry_at n (alone_if moved es fs) ≡ told_first moved (entry_at n es) (entry_at n fs)
alone-at false n es fs h = ap (entry_at n) (alone-false es fs)
alone-at true n es fs h = at-filter _ n es h ∙ at (entry_at n es) refl (entry_at n fs) refl
  where
    here : (e : Entry) → entry_at n es ≡ Some e → has_node e.node fs ≡ is_some (entry_at n fs)
    here e is = has_node-at e.node fs ∙ ap (λ k. is_some (entry_at k fs)) (at-node n es e is)

    at : (o : Option Entry) → entry_at n es ≡ o → (p : Option Entry) → entry_at n fs ≡ p
        → option_filter (λ d. not (has_node d.node fs)) o ≡ told_first true o p
    at None is None there = refl
    at None is (Some f) there = refl
    at (Some e) is None there = rw (here e is, there) refl
    at (Some e) is (Some f) there = rw (here e is, there) refl

-- ---- at one node, of what left there and what came

-- the removed message of a node, by what left there and what came
abbrev pub removed_op : Bool → Option Entry → Option Entry → Option Op
removed_op moved old new = option_map (λ e. (Removed, e)) (told_first moved old new)

-- from what the node had to what it has, by a removed message and what is told last
record Turns (moved : Bool) (o p gone new : Option Entry) : Type 0 where
  removed : NeedAt (removed_op moved gone new) o
  came : NeedAt (told_last moved gone new) (outcome (removed_op moved gone new) o)
  end : outcome (told_last moved gone new) (outcome (removed_op moved gone new) o) ≡ p

-- an entry with another node
abbrev with_node : Entry → ℕ → Entry
with_node e n = record { dir = e.dir; name = e.name; node = n }

-- two entries have one node, where there are both
abbrev SameNode : Option Entry → Option Entry → Type 0
SameNode None p = Unit {0}
SameNode (Some e) None = Unit {0}
SameNode (Some e) (Some f) = e.node ≡ f.node

-- whether two entries are the same doesn't depend on their order
same-swapped : (e f : Entry) → same_entry f e ≡ same_entry e f
same-swapped e f = grind (
  arith,
  nat_tests,
  bytes_eq-Decides e.name f.name,
  bytes_eq-Decides f.name e.name,
)

-- a node whose entry stays needs no message
turns-same : (moved : Bool) (e f : Entry) → e ≡ f → Turns moved (Some e) (Some f) None None
turns-same false e f is = record { removed = tt; came = tt; end = ap Some is }
turns-same true e f is = record { removed = tt; came = tt; end = ap Some is }

-- a node whose entry changes is told of by its messages
turns-apart : (moved : Bool) (e f : Entry) → e.node ≡ f.node
    → Turns moved (Some e) (Some f) (Some e) (Some f)
turns-apart false e f at = record { removed = refl; came = refl; end = refl }
turns-apart true e f at =
    record { removed = tt; came = ap (λ n. Some (with_node e n)) at; end = refl }

-- the messages of a node by what left and what came take it from its old entry to its new one
turns : (moved : Bool) (o p : Option Entry) → SameNode o p → Turns moved o p (left o p) (left p o)
turns false None None s = record { removed = tt; came = tt; end = refl }
turns true None None s = record { removed = tt; came = tt; end = refl }
turns false None (Some f) s = record { removed = tt; came = refl; end = refl }
turns true None (Some f) s = record { removed = tt; came = refl; end = refl }
turns false (Some e) None s = record { removed = refl; came = tt; end = refl }
turns true (Some e) None s = record { removed = refl; came = tt; end = refl }
turns moved (Some e) (Some f) s = both (same_entry e f) refl
  where
    both : (b : Bool) → same_entry e f ≡ b
        → Turns moved (Some e) (Some f) (left (Some e) (Some f)) (left (Some f) (Some e))
    both true is = rw (same-swapped e f, is) (turns-same moved e f (same-entry e f is))
    both false is = rw (same-swapped e f, is) (turns-apart moved e f s)

-- ---- all of a difference

-- a fold by two lists is one by the first and then one by the second
pub ops_folded-append : (r : List Entry) (xs ys : List Op)
    → ops_folded r (xs ++ ys) ≡ ops_folded (ops_folded r xs) ys
ops_folded-append r [] ys = refl
ops_folded-append r (x ∷ xs) ys = ops_folded-append (folded_by x.0 x.1 r) xs ys

-- messages fit where the first list fits, and the second fits what that leaves
pub fit-append : (r : List Entry) (xs ys : List Op) → OpsFit r xs → OpsFit (ops_folded r xs) ys
    → OpsFit r (xs ++ ys)
fit-append r [] ys p q = q
fit-append r (x ∷ xs) ys p q = (p.0, fit-append (folded_by x.0 x.1 r) xs ys p.1 q)

-- the entries that a node has in two results have that node
same-nodes : (n : ℕ) (es fs : List Entry) → SameNode (entry_at n es) (entry_at n fs)
same-nodes n es fs = at (entry_at n es) refl (entry_at n fs) refl
  where
    at : (o : Option Entry) → entry_at n es ≡ o → (p : Option Entry)
        → entry_at n fs ≡ p → SameNode o p
    at None is p k = tt
    at (Some e) is None k = tt
    at (Some e) is (Some f) k = at-node n es e is ∙ sym (at-node n fs f k)

-- of two lists of entries that rise
module _ (moved : Bool) (es fs : List Entry) (h : EntriesRise es) (k : EntriesRise fs) where
  -- the removed messages of their difference
  abbrev pub removed_ops : List Op
  removed_ops = map (λ e. (Removed, e)) (alone_if moved (missing es fs) (missing fs es))

  -- the messages of what came
  abbrev pub came_ops : List Op
  came_ops = map (λ f. (came_op moved (missing es fs) f, f)) (missing fs es)

  -- what left at a node
  abbrev gone_at : ℕ → Option Entry
  gone_at n = left (entry_at n es) (entry_at n fs)

  -- what came there
  abbrev came_at : ℕ → Option Entry
  came_at n = left (entry_at n fs) (entry_at n es)

  -- what left rises
  gone-rises : EntriesRise (missing es fs)
  gone-rises = rises-filter _ es h

  -- what came rises
  came-rises : EntriesRise (missing fs es)
  came-rises = rises-filter _ fs k

  -- the removed message of a node is the one by what left there and what came
  pub removed-at : (n : ℕ) → op_at n removed_ops ≡ removed_op moved (gone_at n) (came_at n)
  removed-at n = op_at-map (λ _. Removed) n (alone_if moved (missing es fs) (missing fs es))
      ∙ ap (option_map (λ e. (Removed, e))) (alone-at moved n (missing es fs)
      (missing fs es) gone-rises ∙ rw (missing-at n es fs h k, missing-at n fs es k h) refl)

  -- and so is the one that is told last
  pub came-at : (n : ℕ) → op_at n came_ops ≡ told_last moved (gone_at n) (came_at n)
  came-at n = op_at-map (came_op moved (missing es fs)) n (missing fs es)
      ∙ (came-told moved n (missing es fs) (missing fs es)
      ∙ rw (missing-at n es fs h k, missing-at n fs es k h) refl)

  -- at each node they go from the first list's entry to the second's
  turn : (n : ℕ) → Turns moved (entry_at n es) (entry_at n fs) (gone_at n) (came_at n)
  turn n = turns moved (entry_at n es) (entry_at n fs) (same-nodes n es fs)

  -- the removed messages fit the first list
  first_phase : Phase es removed_ops
  first_phase = phase es removed_ops h (rises-map (λ _. Removed) _ (rises-filter _ _ gone-rises))
      (λ n. rw (removed-at n) (turn n).removed)

  -- what they leave at each node
  at-first : (n : ℕ) → entry_at n (ops_folded es removed_ops)
      ≡ outcome (removed_op moved (gone_at n) (came_at n)) (entry_at n es)
  at-first n = first_phase.at n ∙ ap (λ x. outcome x (entry_at n es)) (removed-at n)

  -- the messages of what came fit what those leave
  second_phase : Phase (ops_folded es removed_ops) came_ops
  second_phase = phase (ops_folded es removed_ops) came_ops first_phase.rise
      (rises-map (came_op moved (missing es fs)) _ came-rises)
      (λ n. rw (came-at n, at-first n) (turn n).came)

  -- what they leave at each node is the second list's entry
  at-second : (n : ℕ)
      → entry_at n (ops_folded (ops_folded es removed_ops) came_ops) ≡ entry_at n fs
  at-second n = second_phase.at n
      ∙ (ap (λ x. outcome x (entry_at n (ops_folded es removed_ops))) (came-at n)
      ∙ (ap (outcome (told_last moved (gone_at n) (came_at n))) (at-first n) ∙ (turn n).end))

  -- folding the difference over the first list gives the second
  pub told-folds : ops_folded es (messages_of moved (missing es fs) (missing fs es)) ≡ fs
  told-folds = ap (ops_folded es) (messages-split moved (missing es fs) (missing fs es))
      ∙ (ops_folded-append es removed_ops came_ops
      ∙ entries-same _ fs second_phase.rise k at-second)

  -- the messages of the difference fit, one after another
  pub told-fits : OpsFit es (messages_of moved (missing es fs) (missing fs es))
  told-fits = subst (λ (xs : List Op). OpsFit es xs)
      (sym (messages-split moved (missing es fs) (missing fs es)))
      (fit-append es removed_ops came_ops first_phase.fit second_phase.fit)

-- ---- with their numbers

-- each message fits what those before it leave
abbrev pub MessagesFit : List Entry → List Message → Type 0
MessagesFit r [] = Unit {0}
MessagesFit r (m ∷ ms) = (fits_in r m ≡ true) × MessagesFit (folded_one r m) ms

-- messages that fit one after another lead from one result to another
pub record Leads (r : List Entry) (ms : List Message) (end : List Entry) : Type 0 where
  pub fit : MessagesFit r ms
  pub folds : folded r ms ≡ end

-- two lists of messages lead on, one after the other
pub leads-append : (r : List Entry) (xs ys : List Message) (middle end : List Entry)
    → Leads r xs middle → Leads middle ys end → Leads r (xs ++ ys) end
leads-append r [] ys middle end p q = subst (λ o. Leads o ys end) (sym p.folds) q
leads-append r (x ∷ xs) ys middle end p q =
    let rest = leads-append (folded_one r x) xs ys middle end
    (record { fit = p.fit.1; folds = p.folds }) q in
    record { fit = (p.fit.0, rest.fit); folds = rest.folds }

-- messages without their numbers that fit and fold to a result lead there with them
pub leads-numbered : (seq change : ℕ) (r : List Entry) (xs : List Op) (end : List Entry)
    → OpsFit r xs → ops_folded r xs ≡ end → Leads r (numbered seq change xs) end
leads-numbered seq change r [] end fit folds = record { fit = tt; folds = folds }
leads-numbered seq change r (x ∷ xs) end fit folds =
    let rest = leads-numbered (seq + 1) change (folded_by x.0 x.1 r) xs end fit.1 folds in
    record { fit = (fit.0, rest.fit); folds = rest.folds }
