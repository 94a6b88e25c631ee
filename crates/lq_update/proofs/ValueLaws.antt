-- An update list with values tells each change within the result, and its messages of values have
-- entries of the result.
use Rattle.std.proofs.Common.{◌≡◌, ◌≢◌, ℕ, ℤ, suc, ◌+◌, ◌-◌, ◌<◌, ◌≤◌, List, [], ◌∷◌, ◌++◌, length, take, drop, refl, sym, ap, subst, ◌∙◌, Bool, true, false, ◌⊎◌, inl, inr, arith, append-nil, append_assoc}
use Rattle.std.specs.Prelude.{map, filter, not, ◌==◌, nat_eq, Option, Some, None, IsSome, option_and_then, if◌then◌else◌}
use Rattle.std.specs.List.{AllByRecursion}
use Rattle.std.specs.Map.{lookup}
use Rattle.std.specs.Option.{option_map}
use Rattle.std.specs.Str.{bytes_eq}
use Rattle.std.proofs.lemmas.Bool.{cases_eq}
use Rattle.std.proofs.lemmas.Bool.Decides.{nat_tests}
use Rattle.std.proofs.Math.Seq.{take-add}
use Rattle.std.proofs.lemmas.List.{drop-drop, take-take}
use Rattle.std.proofs.lemmas.Slice.Eq.{bytes_eq-Decides}
use Rattle.lq_value.specs.declared.entry.Entry.{Entry}
use Rattle.lq_predicate.specs.Query.{Query}
use Rattle.lq_volume.specs.declared.change.Change.{Change}
use Rattle.lq_volume.specs.declared.change.Change.TheVariants.{Create, Remove, Move, Write, SetAttr, RemoveAttr}
use Rattle.lq_volume.specs.AttributeLaws.{ValuesAreFound}
use Rattle.lq_volume.specs.Attributes.{value_of}
use Rattle.lq_volume.specs.Book.{Book, AreLawful, after_all, state_at, changes_between}
use Rattle.lq_volume.specs.Change.{after, at_place, clobbered, node_of, other_at, remove_attr, rewritten, set_attr, without, IsLawful}
use Rattle.lq_volume.specs.Laws.{ChangesCount, ChangesKeepTrees}
use Rattle.lq_volume.specs.Result.{match_at, result_of}
use Rattle.lq_volume.specs.State.{State, Record, record_at, IsVolume}
use Rattle.lq_update.specs.declared.message.Message.{Message}
use Rattle.lq_update.specs.declared.message.Opcode.TheVariants.{Created, Removed, ValueChanged}
use Rattle.lq_update.specs.declared.open_options.Flags.{Flags}
use Rattle.lq_update.specs.Diff.{diff, missing}
use Rattle.lq_update.specs.Fold.{message_entry}
use Rattle.lq_update.specs.Laws.{LeavesAndComes, TellsValue, ValuesAreShown, ValuesAreTold}
use Rattle.lq_update.specs.Touched.{left, told_last}
use Rattle.lq_update.specs.Updates.{numbered, step_of, told_by, updates_from, updates_of}
use Rattle.lq_update.specs.Values.{SameValue, told_within, value_written, values_told}
use Rattle.lq_update.proofs.EntryLemmas.{at-node, entry_at}
use Rattle.lq_update.proofs.FoldLaws.{at-result, lawful-between, number-at, results-rise, state-on, take-short, volume-at}
use Rattle.lq_update.proofs.FoldLemmas.{Op, came_ops, came-at, op_at, removed_op, removed_ops, removed-at}
use Rattle.lq_update.proofs.Lists.{updates-join}
use Rattle.lq_update.proofs.PassingOver.{created-last, lookup-altered}
use Rattle.lq_update.proofs.ToldLemmas.{alone_if, came_op, messages-split}
use Rattle.lq_update.proofs.TouchedLemmas.{TouchFew}

-- ---- a message among others

-- these messages have one of this opcode and entry, for this change
record HasMessage (ms : List Message) (x : Op) (change : ℕ) : Type 0 where
  front : List Message
  message : Message
  rest : List Message
  among : ms ≡ front ++ message ∷ rest
  op_is : message.op ≡ x.0
  entry_is : message_entry message ≡ x.1
  change_is : message.change ≡ change

-- these messages without numbers have this one
record HasOp (xs : List Op) (x : Op) : Type 0 where
  front : List Op
  rest : List Op
  among : xs ≡ front ++ x ∷ rest

-- the first one of a node is among them, and of this node
op-found : (n : ℕ) (xs : List Op) (x : Op) → op_at n xs ≡ Some x → HasOp xs x × (x.1.node ≡ n)
op-found n [] x is = cc
op-found n (y ∷ ys) x is = elim (cases_eq y.1.node n) [
  | inl same ↦
      let here : y ≡ x = grind (arith, nat_tests) in (
        record { front = []; rest = ys; among = ap (λ z. z ∷ ys) here },
        ap (λ (z : Op). z.1.node) (sym here) ∙ same,
      )
  | inr differs ↦
      let there : op_at n ys ≡ Some x = grind (arith, nat_tests) in
      let rest = op-found n ys x there in (
        record {
          front = y ∷ rest.0.front;
          rest = rest.0.rest;
          among = ap (λ zs. y ∷ zs) rest.0.among;
        },
        rest.1,
      )
]

-- more of them before it and after it
op-between : (xs ys zs : List Op) (x : Op) → HasOp ys x → HasOp (xs ++ ys ++ zs) x
op-between xs ys zs x h = record {
  front = xs ++ h.front;
  rest = h.rest ++ zs;
  among = ap (λ us. xs ++ us ++ zs) h.among
      ∙ (ap (λ us. us ++ zs) (sym (append_assoc xs h.front (x ∷ h.rest)))
      ∙ append_assoc (xs ++ h.front) (x ∷ h.rest) zs);
}

-- with its number it is a message
op-numbered : (seq change : ℕ) (front rest : List Op) (x : Op)
    → HasMessage (numbered seq change (front ++ x ∷ rest)) x change
op-numbered seq change [] rest x = record {
  front = [];
  message = record {
    seq = seq;
    change = change;
    last = length rest == 0;
    op = x.0;
    dir = x.1.dir;
    name = x.1.name;
    node = x.1.node;
  };
  rest = numbered (seq + 1) change rest;
  among = refl;
  op_is = refl;
  entry_is = refl;
  change_is = refl;
}
op-numbered seq change (y ∷ front) rest x =
    let more = op-numbered (seq + 1) change front rest x in
    record {
      front = record {
        seq = seq;
        change = change;
        last = length (front ++ x ∷ rest) == 0;
        op = y.0;
        dir = y.1.dir;
        name = y.1.name;
        node = y.1.node;
      }
          ∷ more.front;
      message = more.message;
      rest = more.rest;
      among = ap (λ ms. record {
        seq = seq;
        change = change;
        last = length (front ++ x ∷ rest) == 0;
        op = y.0;
        dir = y.1.dir;
        name = y.1.name;
        node = y.1.node;
      } ∷ ms) more.among;
      op_is = more.op_is;
      entry_is = more.entry_is;
      change_is = more.change_is;
    }

-- what is told of a change is a message of its step
op-message : (seq change : ℕ) (xs : List Op) (x : Op) → HasOp xs x
    → HasMessage (numbered seq change xs) x change
op-message seq change xs x h = subst (λ ys. HasMessage (numbered seq change ys) x change)
    (sym h.among) (op-numbered seq change h.front h.rest x)

-- more messages before it and after it
message-between : (xs ys zs : List Message) (x : Op) (change : ℕ) → HasMessage ys x change
    → HasMessage (xs ++ ys ++ zs) x change
message-between xs ys zs x change h = record {
  front = xs ++ h.front;
  message = h.message;
  rest = h.rest ++ zs;
  among = ap (λ us. xs ++ us ++ zs) h.among
      ∙ (ap (λ us. us ++ zs) (sym (append_assoc xs h.front (h.message ∷ h.rest)))
      ∙ append_assoc (xs ++ h.front) (h.message ∷ h.rest) zs);
  op_is = h.op_is;
  entry_is = h.entry_is;
  change_is = h.change_is;
}

-- ---- one change, by a node's entry before it and after it

module _ (keep : ChangesKeepTrees) (q : Query) (flags : Flags) (s : State) (c : Change) (seq : ℕ)
    (v : IsVolume s) (lawful : IsLawful s c) where
  -- the result before
  abbrev old : List Entry
  old = result_of q s

  -- the result after
  abbrev new : List Entry
  new = result_of q (after s c)

  -- the message of a value, if it is asked for
  abbrev values : List Op
  values = if flags.values then values_told q s c else []

  volume : IsVolume (after s c)
  volume = keep s c v lawful

  -- the removed messages
  abbrev removed : List Op
  removed = removed_ops flags.moved old new (results-rise q s v) (results-rise q (after s c) volume)

  -- those of what came
  abbrev came : List Op
  came = came_ops flags.moved old new (results-rise q s v) (results-rise q (after s c) volume)

  -- what the step tells, in three parts
  parts : told_by q flags s c ≡ removed ++ came ++ values
  parts = ap (λ xs. xs ++ values) (messages-split flags.moved _ _)

  -- the message of a node that left is a removed one
  removed-told : (n : ℕ) (e : Entry) (b : Bool) → match_at q s n ≡ Some e
      → match_at q (after s c) n ≡ None
      → removed_op b (left (match_at q s n) (match_at q (after s c) n))
      (left (match_at q (after s c) n) (match_at q s n)) ≡ Some (Removed, e)
  removed-told n e true before now = rw (before, now) refl
  removed-told n e false before now = rw (before, now) refl

  -- so the step has it
  step-removed : (n : ℕ) (e : Entry) → match_at q s n ≡ Some e → match_at q (after s c) n ≡ None
      → HasMessage (step_of q flags s c seq) (Removed, e) (s.number + 1) × (e.node ≡ n)
  step-removed n e before now =
      let rise = results-rise q s v in
      let rises = results-rise q (after s c) volume in
      let found = op-found n removed (Removed, e)
      (removed-at flags.moved old new rise rises n
      ∙ (rw (at-result q s n v, at-result q (after s c) n volume) refl
      ∙ removed-told n e flags.moved before now)) in (
        op-message seq (s.number + 1) (told_by q flags s c) (Removed, e)
            (subst (λ xs. HasOp xs (Removed, e))
            (sym (parts ∙ append_assoc removed came values))
            (op-between [] removed (came ++ values) (Removed, e) found.0)),
        found.1,
      )

  -- the message of a node that came is a created one
  created-told : (n : ℕ) (f : Entry) (b : Bool) → match_at q s n ≡ None
      → match_at q (after s c) n ≡ Some f
      → told_last b (left (match_at q s n) (match_at q (after s c) n))
      (left (match_at q (after s c) n) (match_at q s n)) ≡ Some (Created, f)
  created-told n f true before now = rw (before, now) refl
  created-told n f false before now = rw (before, now) refl

  -- so the step has it
  step-created : (n : ℕ) (f : Entry) → match_at q s n ≡ None → match_at q (after s c) n ≡ Some f
      → HasMessage (step_of q flags s c seq) (Created, f) (s.number + 1) × (f.node ≡ n)
  step-created n f before now =
      let rise = results-rise q s v in
      let rises = results-rise q (after s c) volume in
      let found = op-found n came (Created, f)
      (came-at flags.moved old new rise rises n
      ∙ (rw (at-result q s n v, at-result q (after s c) n volume) refl
      ∙ created-told n f flags.moved before now)) in (
        op-message seq (s.number + 1) (told_by q flags s c) (Created, f)
            (subst (λ xs. HasOp xs (Created, f)) (sym parts)
            (op-between removed came values (Created, f) found.0)),
        found.1,
      )

  -- a written value of an entry within has a message
  step-value : (a : Option (List ℕ)) (e f : Entry) → flags.values ≡ true → value_written c ≡ Some a
      → match_at q s (node_of s c) ≡ Some e → match_at q (after s c) (node_of s c) ≡ Some f
      → HasMessage (step_of q flags s c seq) (ValueChanged a, f) (s.number + 1)
  step-value a e f asked written before now =
      let only : values ≡ (ValueChanged a, f) ∷ [] = rw (asked, written, before, now) refl in
      op-message seq (s.number + 1) (told_by q flags s c) (ValueChanged a, f)
      (record {
        front = diff q flags.moved s (after s c);
        rest = [];
        among = ap (λ xs. diff q flags.moved s (after s c) ++ xs) only;
      })

-- ---- what a change leaves of a value

-- under a node that isn't taken out, the same is found
lookup-without : (n x : ℕ) (es : List (ℕ × Record)) → n ≢ x
    → lookup (nat_eq n) (filter (λ e. not (e.0 == x)) es) ≡ lookup (nat_eq n) es
lookup-without n x [] differs = refl
lookup-without n x (e ∷ es) differs = elim (cases_eq e.0 x) [
  | inl same ↦
      let rest = lookup-without n x es differs in
      let off : nat_eq n e.0 ≡ false = grind (arith, nat_tests) in
      grind (arith, nat_tests)
  | inr other ↦ grind (arith, nat_tests, lookup-without n x es differs)
]

-- under one that is taken out, nothing
lookup-gone : (n : ℕ) (es : List (ℕ × Record))
    → lookup (nat_eq n) (filter (λ e. not (e.0 == n)) es) ≡ None
lookup-gone n [] = refl
lookup-gone n (e ∷ es) = grind (arith, nat_tests, lookup-gone n es)

-- what a node's record has is the same with other names and places
moved-same : (s t : State) (n dir : ℕ) (name : List ℕ) (a : Option (List ℕ))
    → record_at t n ≡ option_map (at_place dir name) (record_at s n) → SameValue s t n a
moved-same s t n dir name a is = by a (record_at s n) refl
  where
    by : (a : Option (List ℕ)) (o : Option Record) → record_at s n ≡ o → SameValue s t n a
    by None None there = rw (is, there) refl
    by None (Some r) there = rw (is, there) refl
    by (Some attr) None there = rw (is, there) refl
    by (Some attr) (Some r) there = rw (is, there) refl

-- the same record has the same values
kept-same : (s t : State) (n : ℕ) (a : Option (List ℕ)) → record_at s n ≡ record_at t n
    → SameValue s t n a
kept-same s t n None is = ap (option_map {U = ℕ × ℤ} (λ r. (r.size, r.time))) is
kept-same s t n (Some attr) is = ap (option_and_then (λ r. value_of r.attrs attr)) is

-- values that are the same in turn are the same
same-then : (s t u : State) (n : ℕ) (a : Option (List ℕ)) → SameValue s t n a → SameValue t u n a
    → SameValue s u n a
same-then s t u n None p q = p ∙ q
same-then s t u n (Some attr) p q = p ∙ q

-- a value of a node is what it was, or the change wrote it
abbrev KeptOrWritten : State → Change → Option (List ℕ) → Type 0
KeptOrWritten s c a = SameValue s (after s c) (node_of s c) a ⊎ (value_written c ≡ Some a)

-- a write alters the size and time alone
write-alters : (s : State) (node size : ℕ) (time : ℤ) (a : Option (List ℕ))
    → KeptOrWritten s (Write node size time) a
write-alters s node size time None = inr refl
write-alters s node size time (Some attr) = inl (by (record_at s node) refl)
  where
    now : record_at (after s (Write node size time)) node
        ≡ option_map (rewritten size time) (record_at s node)
    now = lookup-altered node (rewritten size time) s.records

    by : (o : Option Record) → record_at s node ≡ o
        → SameValue s (after s (Write node size time)) node (Some attr)
    by None there = rw (now, there) refl
    by (Some r) there = rw (now, there) refl

-- a record's edit that leaves the size and time, and all attributes but one
module _ (s t : State) (node : ℕ) (attr : List ℕ) (f : Record → Record)
    (now : record_at t node ≡ option_map f (record_at s node))
    (sizes : (r : Record) → ◌≡◌ {A = ℕ × ℤ} ((f r).size, (f r).time) (r.size, r.time))
    (others : (r : Record) (name : List ℕ) → bytes_eq name attr ≡ false
    → value_of (f r).attrs name ≡ value_of r.attrs name) where
  numbers-same : SameValue s t node None
  numbers-same = by (record_at s node) refl
    where
      by : (o : Option Record) → record_at s node ≡ o → SameValue s t node None
      by None there = rw (now, there) refl
      by (Some r) there = rw (now, there) (sym (ap (λ p. Some p) (sizes r)))

  other-same : (name : List ℕ) → bytes_eq name attr ≡ false → SameValue s t node (Some name)
  other-same name off = by (record_at s node) refl
    where
      by : (o : Option Record) → record_at s node ≡ o → SameValue s t node (Some name)
      by None there = rw (now, there) refl
      by (Some r) there = rw (now, there) (sym (others r name off))

  attr-alters : (a : Option (List ℕ)) → SameValue s t node a ⊎ (Some (Some attr) ≡ Some a)
  attr-alters None = inl numbers-same
  attr-alters (Some name) = named (bytes_eq name attr) refl
    where
      named : (b : Bool) → bytes_eq name attr ≡ b
          → SameValue s t node (Some name) ⊎ (Some (Some attr) ≡ Some (Some name))
      named true is = inr (ap (λ x. Some (Some x)) (sym ((bytes_eq-Decides name attr).0 is)))
      named false is = inl (other-same name is)

-- none is no entry
no-entry : (e : Entry) → ◌≡◌ {A = Option Entry} None (Some e) → ⊥
no-entry e is = cc

-- and isn't some
no-some : IsSome {T = Entry} None → ⊥
no-some is = cc

-- the laws that say what a change leaves
abbrev pub Leaves : Type 0
Leaves = record { touch : TouchFew; found : ValuesAreFound }

-- a move leaves the record of its own node with another place
record-moved : TouchFew → (s : State) (node dir : ℕ) (name : List ℕ) (clobber : Bool) → IsVolume s
    → record_at (after s (Move node dir name clobber)) node
    ≡ option_map (at_place dir name) (record_at s node)
record-moved touch s node dir name clobber v =
    lookup-altered node (at_place dir name) (without (other_at s node dir name) s.records)
    ∙ ap (option_map (at_place dir name)) (by (other_at s node dir name) refl)
  where
    by : (o : Option ℕ) → other_at s node dir name ≡ o
        → lookup (nat_eq node) (without o s.records) ≡ record_at s node
    by None is = refl
    by (Some x) is = lookup-without node x s.records
        (λ same. (touch.go s (Move node dir name clobber) x v is).0 (sym same))

-- where a node is in the result before and after a change, each value of it is what it was, or the
-- change wrote it
own-value : Leaves → (q : Query) (s : State) (c : Change) (a : Option (List ℕ)) (e f : Entry)
    → IsVolume s → match_at q s (node_of s c) ≡ Some e
    → match_at q (after s c) (node_of s c) ≡ Some f → KeptOrWritten s c a
own-value laws q s (Create dir name kind size time) a e f v before now =
    let r : Record =
    record { dir = dir; name = name; kind = kind; size = size; time = time; attrs = [] } in
    let none = (created-last s.records s.next r v.numbered.below).0 in
    absurd (no-entry e (rw none at before))
own-value laws q s (Remove node) a e f v before now =
    absurd (no-entry f (rw (lookup-gone node s.records) at now))
own-value laws q s (Move node dir name clobber) a e f v before now =
    inl (moved-same s (after s (Move node dir name clobber)) node dir name a
    (record-moved laws.touch s node dir name clobber v))
own-value laws q s (Write node size time) a e f v before now = write-alters s node size time a
own-value laws q s (SetAttr node attr value) a e f v before now =
    attr-alters s (after s (SetAttr node attr value)) node attr (set_attr attr value)
    (lookup-altered node (set_attr attr value) s.records) (λ r. refl)
    (λ r name off. laws.found.set r.attrs attr name value ∙ rw off refl) a
own-value laws q s (RemoveAttr node attr) a e f v before now =
    attr-alters s (after s (RemoveAttr node attr)) node attr (remove_attr attr)
    (lookup-altered node (remove_attr attr) s.records) (λ r. refl)
    (λ r name off. laws.found.removed r.attrs attr name ∙ rw off refl) a

-- and so it is of each node
value-kept : Leaves → (q : Query) (s : State) (c : Change) (node : ℕ) (a : Option (List ℕ))
    (e f : Entry) → IsVolume s → IsLawful s c → match_at q s node ≡ Some e
    → match_at q (after s c) node ≡ Some f
    → SameValue s (after s c) node a ⊎ ((node_of s c ≡ node) × (value_written c ≡ Some a))
value-kept laws q s c node a e f v lawful before now = elim (cases_eq node (node_of s c)) [
  | inl same ↦ elim (own-value laws q s c a e f v (rw same at before) (rw same at now)) [
    | inl kept ↦ inl (subst (λ n. SameValue s (after s c) n a) (sym same) kept)
    | inr written ↦ inr (sym same, written)
  ]
  | inr differs ↦ inl (other (clobbered s c) refl differs)
]
  where
    other : (o : Option ℕ) → clobbered s c ≡ o → node ≢ node_of s c
        → SameValue s (after s c) node a
    other None is differs = kept-same s (after s c) node a
        (laws.touch.stay s c node v lawful (rw is (differs, tt)))
    other (Some x) is differs = elim (cases_eq node x) [
      | inl same ↦
          let gone = (laws.touch.go s c node v (is ∙ ap Some (sym same))).1 in
          absurd (no-entry f (rw gone at now))
      | inr apart ↦ kept-same s (after s c) node a
          (laws.touch.stay s c node v lawful (rw is (differs, (apart, tt))))
    ]

-- ---- many changes

-- a message with more before it
later-message : (xs ys : List Message) (x : Op) (change : ℕ) → HasMessage ys x change
    → HasMessage (xs ++ ys) x change
later-message xs ys x change h =
    subst (λ zs. HasMessage zs x change) (append-nil (xs ++ ys))
    (message-between xs ys [] x change h)

-- and with more after it
sooner-message : (xs ys : List Message) (x : Op) (change : ℕ) → HasMessage xs x change
    → HasMessage (xs ++ ys) x change
sooner-message xs ys x change h = message-between [] xs ys x change h

-- a message of this value, or of one that leaves and comes, since a number
abbrev Told : List Message → ℕ → ℕ → Option (List ℕ) → Type 0
Told ms node number a = TellsValue ms node number a ⊎ LeavesAndComes ms node number

-- with more messages before it
told-later : (xs ys : List Message) (node number : ℕ) (a : Option (List ℕ)) → Told ys node number a
    → Told (xs ++ ys) node number a
told-later xs ys node number a (inl t) = inl (record {
  front = xs ++ t.front;
  message = t.message;
  rest = t.rest;
  among = ap (λ us. xs ++ us) t.among ∙ sym (append_assoc xs t.front (t.message ∷ t.rest));
  node_is = t.node_is;
  later = t.later;
  tells = t.tells;
})
told-later xs ys node number a (inr t) = inr (record {
  front = xs ++ t.front;
  left = t.left;
  middle = t.middle;
  came = t.came;
  rest = t.rest;
  among = ap (λ us. xs ++ us) t.among
      ∙ (sym (append_assoc xs (t.front ++ t.left ∷ t.middle) (t.came ∷ t.rest))
      ∙ ap (λ us. us ++ t.came ∷ t.rest) (sym (append_assoc xs t.front (t.left ∷ t.middle))));
  nodes = t.nodes;
  later = t.later;
  removed = t.removed;
  created = t.created;
})

-- the first message of a value since a number
value-told : (ms : List Message) (a : Option (List ℕ)) (f : Entry) (node number change : ℕ)
    → number < change → f.node ≡ node → HasMessage ms (ValueChanged a, f) change
    → TellsValue ms node number a
value-told ms a f node number change lt node_is h = record {
  front = h.front;
  message = h.message;
  rest = h.rest;
  among = h.among;
  node_is = ap (λ (e : Entry). e.node) h.entry_is ∙ node_is;
  later = rw h.change_is lt;
  tells = h.op_is;
}

-- a removed message, and after it a created one
left-and-came : (xs ys : List Message) (e f : Entry) (node number first second : ℕ)
    → number < first → e.node ≡ node → f.node ≡ node → HasMessage xs (Removed, e) first
    → HasMessage ys (Created, f) second → LeavesAndComes (xs ++ ys) node number
left-and-came xs ys e f node number first second lt e_is f_is h k = record {
  front = h.front;
  left = h.message;
  middle = h.rest ++ k.front;
  came = k.message;
  rest = k.rest;
  among = (λ i. h.among i ++ k.among i)
      ∙ (sym (append_assoc (h.front ++ h.message ∷ h.rest) k.front (k.message ∷ k.rest))
      ∙ ap (λ us. us ++ k.message ∷ k.rest) (append_assoc h.front (h.message ∷ h.rest) k.front));
  nodes = (
    ap (λ (d : Entry). d.node) h.entry_is ∙ e_is,
    ap (λ (d : Entry). d.node) k.entry_is ∙ f_is,
  );
  later = rw h.change_is lt;
  removed = h.op_is;
  created = k.op_is;
}

-- one that is here is some one
some : {X : Type 0} (o : Option X) → IsSome o → (x : X) × (o ≡ Some x)
some None h = absurd (let no : ⊥ = cc in no)
some (Some x) h = (x, refl)

module _ (laws : Leaves) (count : ChangesCount) (q : Query) (flags : Flags) (node : ℕ) where
  -- a node that isn't in the result and is at the end has a created message
  comes : (s : State) (cs : List Change) (seq : ℕ) → IsVolume s → AreLawful s cs
      → match_at q s node ≡ None → IsSome (match_at q (after_all s cs) node)
      → (f : Entry) × (change : ℕ) × HasMessage (updates_from q flags s cs seq) (Created, f) change
      × (f.node ≡ node)
  comes s [] seq v l none end = absurd (no-some (rw none at end))
  comes s (c ∷ cs) seq v l none end = by (match_at q (after s c) node) refl
      (λ is. comes (after s c) cs (seq + length (step_of q flags s c seq))
      (laws.touch.trees s c v l.0) l.1 is end)
    where
      by : (o : Option Entry) → match_at q (after s c) node ≡ o
          → (match_at q (after s c) node ≡ None → (f : Entry) × (change : ℕ)
          × HasMessage (updates_from q flags (after s c) cs
          (seq + length (step_of q flags s c seq))) (Created, f) change
          × (f.node ≡ node))
          → (f : Entry) × (change : ℕ)
          × HasMessage (updates_from q flags s (c ∷ cs) seq) (Created, f) change × (f.node ≡ node)
      by None is more =
          let rest = more is in (
            rest.0,
            rest.1,
            later-message (step_of q flags s c seq) _ (Created, rest.0) rest.1 rest.2,
            rest.3,
          )
      by (Some f) is more =
          let here = step-created laws.touch.trees q flags s c seq v l.0 node f none is in (
            f,
            s.number + 1,
            sooner-message (step_of q flags s c seq) _ (Created, f) (s.number + 1)
                here.0,
            here.1,
          )

  -- where a value of a node in the result differs at the end, it is told
  tells : (a : Option (List ℕ)) (s : State) (cs : List Change) (seq number : ℕ)
      → flags.values ≡ true → number ≤ s.number → IsVolume s → AreLawful s cs
      → IsSome (match_at q s node) → IsSome (match_at q (after_all s cs) node)
      → (SameValue s (after_all s cs) node a → ⊥)
      → Told (updates_from q flags s cs seq) node number a
  tells a s [] seq number asked le v l begun end differs =
      absurd (differs (kept-same s s node a refl))
  tells a s (c ∷ cs) seq number asked le v l begun end differs =
      by (some (match_at q s node) begun) (match_at q (after s c) node) refl
      (λ there same. tells a (after s c) cs (seq + length (step_of q flags s c seq)) number asked
      (let next : (after s c).number ≡ s.number + 1 = count s (c ∷ []) in omega arith)
      (laws.touch.trees s c v l.0) l.1 there end
      (λ h. differs (same-then s (after s c) (after_all (after s c) cs) node a same h)))
    where
      volume : IsVolume (after s c)
      volume = laws.touch.trees s c v l.0

      by : (e : Entry) × (match_at q s node ≡ Some e)
          → (o : Option Entry) → match_at q (after s c) node ≡ o
          → (IsSome (match_at q (after s c) node) → SameValue s (after s c) node a
          → Told (updates_from q flags (after s c) cs (seq + length (step_of q flags s c seq)))
          node number a)
          → Told (updates_from q flags s (c ∷ cs) seq) node number a
      by (e, before) None now more =
          let gone = step-removed laws.touch.trees q flags s c seq v l.0 node e before now in
          let back = comes (after s c) cs (seq + length (step_of q flags s c seq)) volume l.1 now
          end in
          inr (left-and-came (step_of q flags s c seq) _ e back.0 node number (s.number + 1) back.1
          (omega arith) gone.1 back.3 gone.0 back.2)
      by (e, before) (Some f) now more = elim (value-kept laws q s c node a e f v l.0 before now) [
        | inl same ↦
            told-later (step_of q flags s c seq) _ node number a (more (rw now refl) same)
        | inr (here, written) ↦
            let told = step-value laws.touch.trees q flags s c seq v l.0 a e f asked written
            (rw here before) (rw here now) in
            let at : f.node ≡ node = at-node node _ f
            (at-result q (after s c) node volume ∙ now) in
            inl (value-told _ a f node number (s.number + 1) (omega arith) at
            (sooner-message (step_of q flags s c seq) _ (ValueChanged a, f) (s.number + 1) told))
      ]

-- ---- over a book

-- an update list from an opening is that up to a number, and then the messages since
updates-since : (q : Query) (flags : Flags) (b : Book) (at m n : ℕ) → b.start.number ≤ at → at ≤ m
    → m ≤ n → updates_of q flags b at n ≡ updates_of q flags b at m
    ++ updates_from q flags (state_at b m) (changes_between b m n)
    (1 + length (updates_of q flags b at m))
updates-since q flags b at m n low le further =
    let all = drop (at - b.start.number) b.changes in
    let s = state_at b at in
    let between : take (n - at) all ≡ take (m - at) all ++ changes_between b m n =
    ap (λ k. take k all) (let e : n - at ≡ m - at + (n - m) = omega arith in e)
    ∙ (take-add (m - at) (n - m) all
    ∙ ap (λ cs. take (m - at) all ++ take (n - m) cs) (drop-drop (m - at) (at - b.start.number)
    b.changes ∙ ap (λ k. drop k b.changes)
    (let e : at - b.start.number + (m - at) ≡ m - b.start.number = omega arith in e))) in
    ap (λ cs. updates_from q flags s cs 1) between
    ∙ (updates-join q flags s (take (m - at) all) (changes_between b m n) 1
    ∙ ap (λ t. updates_of q flags b at m ++ updates_from q flags t (changes_between b m n)
    (1 + length (updates_of q flags b at m)))
    (state-on b at (m - at) low
    ∙ ap (state_at b) (let e : at + (m - at) ≡ m = omega arith in e)))

-- an update list with values tells each change within
pub values-told : Leaves → ChangesCount → ValuesAreTold
values-told laws count q flags b at m n node a asked v l low le further high begun end differs =
    let state : after_all (state_at b m) (changes_between b m n) ≡ state_at b n =
    state-on b m (n - m) (omega arith)
    ∙ ap (state_at b) (let e : m + (n - m) ≡ n = omega arith in e) in
    let number : (state_at b m).number ≡ m = number-at count b m (omega arith) (omega arith) in
    subst (λ ms. Told ms node m a) (sym (updates-since q flags b at m n low le further))
    (told-later (updates_of q flags b at m) _ node m a
    (tells laws count q flags node a (state_at b m) (changes_between b m n) _ m asked
    (omega arith) (volume-at laws.touch.trees b m n v l)
    (lawful-between laws.touch.trees b m n v l) begun (rw state end)
    (λ h. differs (rw state at h))))

-- ---- the entries of messages of values

-- a message of a value has the entry that the result has at its node after its change
abbrev Shows : Query → (ℕ → State) → Message → Type 0
Shows q state m = (a : Option (List ℕ)) → m.op ≡ ValueChanged a
    → match_at q (state m.change) m.node ≡ Some (message_entry m)

-- without its number
abbrev ShowsOp : Query → State → Op → Type 0
ShowsOp q t x = (a : Option (List ℕ)) → x.0 ≡ ValueChanged a → match_at q t x.1.node ≡ Some x.1

-- of two lists, both
all-append : {X : Type 0} (p : X → Type 0) (xs ys : List X) → AllByRecursion p xs
    → AllByRecursion p ys → AllByRecursion p (xs ++ ys)
all-append p [] ys h k = k
all-append p (x ∷ xs) ys h k = (h.0, all-append p xs ys h.1 k)

-- so of one among them
all-among : {X : Type 0} (p : X → Type 0) (front rest : List X) (x : X)
    → AllByRecursion p (front ++ x ∷ rest) → p x
all-among p [] rest x h = h.0
all-among p (y ∷ front) rest x h = all-among p front rest x h.1

-- a removed message tells no value
removed-shows : (q : Query) (t : State) (es : List Entry)
    → AllByRecursion (ShowsOp q t) (map (λ e. (Removed, e)) es)
removed-shows q t [] = tt
removed-shows q t (e ∷ es) = ((λ a is. cc), removed-shows q t es)

-- nor does a created or a moved one
came-shows : (q : Query) (t : State) (moved : Bool) (gone es : List Entry)
    → AllByRecursion (ShowsOp q t) (map (λ f. (came_op moved gone f, f)) es)
came-shows q t moved gone [] = tt
came-shows q t moved gone (f ∷ es) =
    ((λ a is. absurd (no moved (entry_at f.node gone) refl a is)), came-shows q t moved gone es)
  where
    no : (b : Bool) (o : Option Entry) → entry_at f.node gone ≡ o → (a : Option (List ℕ))
        → came_op b gone f ≡ ValueChanged a → ⊥
    no false o there a is = cc
    no true None there a is = let now = rw there at is in cc
    no true (Some e) there a is = let now = rw there at is in cc

-- an entry, if there is one, has this node
abbrev IsSomeNode : Option Entry → ℕ → Type 0
IsSomeNode None n = Unit {0}
IsSomeNode (Some e) n = e.node ≡ n

-- the message of a value shows its entry
within-shows : (q : Query) (t : State) (n : ℕ) (w : Option (Option (List ℕ))) (o p : Option Entry)
    → IsSomeNode p n → match_at q t n ≡ p → AllByRecursion (ShowsOp q t) (told_within w o p)
within-shows q t n None o p at is = tt
within-shows q t n (Some a) None p at is = tt
within-shows q t n (Some a) (Some e) None at is = tt
within-shows q t n (Some a) (Some e) (Some f) at is =
    ((λ b same. ap (match_at q t) at ∙ is), tt)

-- with numbers, all of a change
numbered-shows : (q : Query) (state : ℕ → State) (seq change : ℕ) (xs : List Op)
    → AllByRecursion (ShowsOp q (state change)) xs
    → AllByRecursion (Shows q state) (numbered seq change xs)
numbered-shows q state seq change [] h = tt
numbered-shows q state seq change (x ∷ xs) h =
    (h.0, numbered-shows q state (seq + 1) change xs h.1)

-- the entry in a result has its node
match-node : (q : Query) (s : State) (n : ℕ) → IsVolume s → IsSomeNode (match_at q s n) n
match-node q s n v = by (match_at q s n) (at-result q s n v)
  where
    by : (o : Option Entry) → entry_at n (result_of q s) ≡ o → IsSomeNode o n
    by None is = tt
    by (Some e) is = at-node n (result_of q s) e is

-- the messages of many changes, each of which leads to the state of its number
shows-all : ChangesKeepTrees → ChangesCount → (q : Query) (flags : Flags) (state : ℕ → State)
    (s : State) (cs : List Change) (seq : ℕ) → IsVolume s → AreLawful s cs
    → ((j : ℕ) → j ≤ length cs → state (s.number + j) ≡ after_all s (take j cs))
    → AllByRecursion (Shows q state) (updates_from q flags s cs seq)
shows-all keep count q flags state s [] seq v l gives = tt
shows-all keep count q flags state s (c ∷ cs) seq v l gives =
    let next : state (s.number + 1) ≡ after s c = gives 1 (omega arith) in
    let volume = keep s c v l.0 in
    let one : (after s c).number ≡ s.number + 1 = count s (c ∷ []) in
    all-append (Shows q state) (step_of q flags s c seq)
    (updates_from q flags (after s c) cs (seq + length (step_of q flags s c seq)))
    (numbered-shows q state seq (s.number + 1) (told_by q flags s c)
    (rw next (step volume flags.values)))
    (shows-all keep count q flags state (after s c) cs _ volume l.1
    (λ j le. ap state (let e : (after s c).number + j ≡ s.number + suc j = omega arith in e)
    ∙ gives (suc j) (omega arith)))
  where
    values : (b : Bool) → IsVolume (after s c) →
        AllByRecursion (ShowsOp q (after s c)) (if b then values_told q s c else [])
    values false w = tt
    values true w = within-shows q (after s c) (node_of s c) (value_written c)
        (match_at q s (node_of s c)) (match_at q (after s c) (node_of s c))
        (match-node q (after s c) (node_of s c) w) refl

    step : IsVolume (after s c) → (b : Bool) → AllByRecursion (ShowsOp q (after s c))
        (diff q flags.moved s (after s c) ++ (if b then values_told q s c else []))
    step w b =
        let gone = missing (result_of q s) (result_of q (after s c)) in
        let come = missing (result_of q (after s c)) (result_of q s) in
        all-append (ShowsOp q (after s c)) (diff q flags.moved s (after s c))
        (if b then values_told q s c else [])
        (subst (AllByRecursion (ShowsOp q (after s c))) (sym (messages-split flags.moved gone come))
        (all-append (ShowsOp q (after s c))
        (map (λ e. (Removed, e)) (alone_if flags.moved gone come))
        (map (λ f. (came_op flags.moved gone f, f)) come)
        (removed-shows q (after s c) (alone_if flags.moved gone come))
        (came-shows q (after s c) flags.moved gone come)))
        (values b w)

-- the entry of a message of a value is in the result after its change
pub values-shown : ChangesKeepTrees → ChangesCount → ValuesAreShown
values-shown keep count q flags b at n front rest message a v l low le high is =
    let number = number-at count b at low (omega arith) in
    let changes = drop (at - b.start.number) b.changes in
    let few = take-short (n - at) changes in
    all-among (Shows q (state_at b)) front rest message
    (rw is (shows-all keep count q flags (state_at b) (state_at b at) (changes_between b at n) 1
    (volume-at keep b at n v l) (lawful-between keep b at n v l)
    (λ j le. ap (λ k. state_at b (k + j)) number ∙ sym
    (ap (after_all (state_at b at)) (take-take j (n - at) changes (omega arith))
    ∙ state-on b at j low)))) a
