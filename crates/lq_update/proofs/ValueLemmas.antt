-- A change that writes a value within the result tells nothing else, and one that tells of places
-- tells no value.
use Rattle.std.proofs.Common.{◌≡◌, ℕ, ◌+◌, ◌≤◌, length, List, [], ◌∷◌, ◌++◌, refl, sym, arith, ap, ◌∙◌, Bool, true, false, ◌⊎◌, inl, inr}
use Rattle.std.specs.Prelude.{Option, Some, None, nat_eq, option_and_then, if◌then◌else◌}
use Rattle.std.specs.Map.{lookup}
use Rattle.std.specs.Option.{option_map}
use Rattle.lq_value.specs.declared.entry.Entry.{Entry}
use Rattle.lq_predicate.specs.Query.{Query}
use Rattle.lq_predicate.specs.Truth.{truth}
use Rattle.lq_volume.specs.declared.change.Change.{Change}
use Rattle.lq_volume.specs.declared.change.Change.TheVariants.{Create, Remove, Move, Write, SetAttr, RemoveAttr}
use Rattle.lq_volume.specs.State.{State, Record, record_at, IsVolume}
use Rattle.lq_volume.specs.Change.{after, altered, clobbered, node_of, IsLawful, remove_attr, rewritten, set_attr}
use Rattle.lq_volume.specs.Laws.{ChangesKeepTrees}
use Rattle.lq_volume.specs.Result.{entry_if, entry_of, match_at, shown}
use Rattle.lq_update.specs.declared.message.Opcode.{Opcode}
use Rattle.lq_update.specs.declared.open_options.Flags.{Flags}
use Rattle.lq_update.specs.Diff.{diff, without_moves}
use Rattle.lq_update.specs.Laws.{QuietKeepMatches, StepsAreFew}
use Rattle.lq_update.specs.Options.{no_values}
use Rattle.lq_update.specs.Touched.{is_match, left, left_at}
use Rattle.lq_update.specs.Updates.{numbered, step_of}
use Rattle.lq_update.specs.Values.{told_within, value_written, values_told}
use Rattle.lq_update.proofs.EntryLemmas.{entry_at}
use Rattle.lq_update.proofs.PassingOver.{lookup-altered}
use Rattle.lq_update.proofs.TouchedLemmas.{TouchFew, few-moves, left-same, match-unmatched, missing-left, moves_of, step-plain, told-left}

-- a change tells no value where it writes none
pub written-none : (q : Query) (s : State) (c : Change) → value_written c ≡ None
    → values_told q s c ≡ []
written-none q s c none = rw none refl

-- nor where the entry wasn't in the result
pub before-none : (q : Query) (s : State) (c : Change) → match_at q s (node_of s c) ≡ None
    → values_told q s c ≡ []
before-none q s c none = by (value_written c) (match_at q s (node_of s c)) none
  where
    by : (w : Option (Option (List ℕ))) (o : Option Entry) → o ≡ None
        → told_within w o (match_at q (after s c) (node_of s c)) ≡ []
    by None o is = refl
    by (Some a) None is = refl
    by (Some a) (Some e) is = cc

-- nor where it isn't
pub after-none : (q : Query) (s : State) (c : Change)
    → match_at q (after s c) (node_of s c) ≡ None → values_told q s c ≡ []
after-none q s c none =
    by (value_written c) (match_at q s (node_of s c)) (match_at q (after s c) (node_of s c)) none
  where
    by : (w : Option (Option (List ℕ))) (o p : Option Entry) → p ≡ None → told_within w o p ≡ []
    by None o p is = refl
    by (Some a) None p is = refl
    by (Some a) (Some e) None is = refl
    by (Some a) (Some e) (Some f) is = cc

-- a record that matches is in the result
pub matched : (q : Query) (s : State) (n : ℕ) (r : Record) → record_at s n ≡ Some r
    → is_match q (Some r) ≡ true → match_at q s n ≡ Some (entry_of (n, r))
matched q s n r there is = rw there (rw is refl)

-- what is in the result is the entry of its record
entry-matched : (q : Query) (n : ℕ) (r : Record) (e : Entry) → entry_if q (n, r) ≡ Some e
    → entry_of (n, r) ≡ e
entry-matched q n r e = by (truth q (shown r))
  where
    by : (b : Bool) → (if b then Some (entry_of (n, r)) else None) ≡ Some e → entry_of (n, r) ≡ e
    by true is = cc
    by false is = cc

-- a record that keeps its place when altered has the same entry before and after, if both match
same-within : (q : Query) (n : ℕ) (f : Record → Record) (o : Option Record) (e g : Entry)
    → ((r : Record) → entry_of (n, f r) ≡ entry_of (n, r))
    → option_and_then (λ r. entry_if q (n, r)) o ≡ Some e
    → option_and_then (λ r. entry_if q (n, r)) (option_map f o) ≡ Some g → e ≡ g
same-within q n f None e g place before now = cc
same-within q n f (Some r) e g place before now =
    sym (entry-matched q n r e before) ∙ (sym (place r) ∙ entry-matched q n (f r) g now)

-- what a change tells of places and of values, one or the other
pub record TellsNoPlace (q : Query) (s : State) (c : Change) : Type 0 where
  pub left : left_at q s (after s c) (node_of s c) ≡ None
  pub came : left_at q (after s c) s (node_of s c) ≡ None
  pub clobbered : clobbered s c ≡ None

-- a change that writes a value of a node's record tells no place, or no value
written-within : (q : Query) (s : State) (c : Change) (f : Record → Record)
    → clobbered s c ≡ None → (after s c).records ≡ altered (node_of s c) f s.records
    → ((r : Record) → entry_of (node_of s c, f r) ≡ entry_of (node_of s c, r))
    → TellsNoPlace q s c ⊎ (values_told q s c ≡ [])
written-within q s c f alone records_are place =
    by (match_at q s (node_of s c)) refl (match_at q (after s c) (node_of s c)) refl
  where
    now : record_at (after s c) (node_of s c) ≡ option_map f (record_at s (node_of s c))
    now = ap (lookup (nat_eq (node_of s c))) records_are
        ∙ lookup-altered (node_of s c) f s.records

    by : (o : Option Entry) → match_at q s (node_of s c) ≡ o
        → (p : Option Entry) → match_at q (after s c) (node_of s c) ≡ p
        → TellsNoPlace q s c ⊎ (values_told q s c ≡ [])
    by None is p are = inr (before-none q s c is)
    by (Some e) is None are = inr (after-none q s c are)
    by (Some e) is (Some g) are =
        let same : e ≡ g = same-within q (node_of s c) f (record_at s (node_of s c)) e g place is
        (ap (option_and_then (λ r. entry_if q (node_of s c, r))) (sym now) ∙ are) in
        let stays : match_at q (after s c) (node_of s c) ≡ match_at q s (node_of s c) =
        are ∙ (ap Some (sym same) ∙ sym is) in
        inl (record {
          left = ap (left (match_at q s (node_of s c))) stays
              ∙ left-same (match_at q s (node_of s c));
          came = ap (λ o. left o (match_at q s (node_of s c))) stays
              ∙ left-same (match_at q s (node_of s c));
          clobbered = alone;
        })

-- each change tells no place, or no value
pub one-or-other : (q : Query) (s : State) (c : Change)
    → TellsNoPlace q s c ⊎ (values_told q s c ≡ [])
one-or-other q s (Create dir name kind size time) = inr refl
one-or-other q s (Remove node) = inr refl
one-or-other q s (Move node dir name clobber) = inr refl
one-or-other q s (Write node size time) =
    written-within q s (Write node size time) (rewritten size time) refl refl (λ r. refl)
one-or-other q s (SetAttr node attr value) =
    written-within q s (SetAttr node attr value) (set_attr attr value) refl refl (λ r. refl)
one-or-other q s (RemoveAttr node attr) =
    written-within q s (RemoveAttr node attr) (remove_attr attr) refl refl (λ r. refl)

-- where a change tells of a place, it tells no value
pub place-told : (q : Query) (s : State) (c : Change) → (TellsNoPlace q s c → ⊥)
    → values_told q s c ≡ []
place-told q s c some = elim (one-or-other q s c) [
  | inl none ↦ absurd (some none)
  | inr none ↦ none
]

-- messages without numbers are none where there is none with them
numbered-none : (seq number : ℕ) (xs : List (Opcode × Entry)) → numbered seq number xs ≡ []
    → xs ≡ []
numbered-none seq number [] is = refl
numbered-none seq number (x ∷ xs) is = cc

-- nothing is made of no entries alone
none-made : (gone come : List Entry) → without_moves gone come ≡ [] → (gone ≡ []) × (come ≡ [])
none-made [] [] is = (refl, refl)
none-made [] (e ∷ es) is = cc
none-made (e ∷ es) come is = cc

-- an entry that matches, and no more does, has left
match-lost : (q : Query) (n : ℕ) (o p : Option Record) → is_match q o ≡ true
    → is_match q p ≡ false → left (option_and_then (λ r. entry_if q (n, r)) o)
    (option_and_then (λ r. entry_if q (n, r)) p) ≡ None → ⊥
match-lost q n None p hit miss is = cc
match-lost q n (Some r) p hit miss is =
    let there : entry_if q (n, r) ≡ Some (entry_of (n, r)) = rw hit refl in
    let some : Some (entry_of (n, r)) ≡ None =
    (λ i. left (sym there i) (sym (match-unmatched q n p miss) i)) ∙ is in
    cc

-- where no entry left or came, the record matches as it did
neither-moved : (q : Query) (n : ℕ) (o p : Option Record)
    → left (option_and_then (λ r. entry_if q (n, r)) o)
    (option_and_then (λ r. entry_if q (n, r)) p) ≡ None
    → left (option_and_then (λ r. entry_if q (n, r)) p)
    (option_and_then (λ r. entry_if q (n, r)) o) ≡ None
    → is_match q p ≡ is_match q o
neither-moved q n o p left_is came_is = by (is_match q o) refl (is_match q p) refl
  where
    by : (a : Bool) → is_match q o ≡ a → (b : Bool) → is_match q p ≡ b
        → is_match q p ≡ is_match q o
    by true x true y = y ∙ sym x
    by false x false y = y ∙ sym x
    by true x false y = absurd (match-lost q n o p x y left_is)
    by false x true y = absurd (match-lost q n p o y x came_is)

-- a change that tells nothing without values leaves it as it was whether a node's entry matches
pub quiet-keep : ChangesKeepTrees → QuietKeepMatches
quiet-keep trees q s c seq node v lawful none =
    let volume = trees s c v lawful in
    let still = none-made _ _ (numbered-none seq (s.number + 1) _
    (sym (step-plain q (no_values false) s c seq (inl refl)) ∙ none)) in
    neither-moved q node (record_at s node) (record_at (after s c) node)
    (sym (missing-left q s (after s c) node v volume) ∙ ap (entry_at node) still.0)
    (sym (missing-left q (after s c) s node volume v) ∙ ap (entry_at node) still.1)

module _ (laws : TouchFew) (q : Query) (flags : Flags) (s : State) (c : Change) (seq : ℕ)
    (v : IsVolume s) (lawful : IsLawful s c) where
  -- a change that tells no place has no other message than that of a value
  pub no-moves : TellsNoPlace q s c → moves_of q flags.moved s c seq ≡ []
  no-moves none = sym (told-left laws q flags.moved s c seq v lawful (s.number + 1) None refl
      none.left none.came none.clobbered)

  -- so that one is all that it tells, if it is asked for
  pub value-alone : TellsNoPlace q s c → flags.values ≡ true
      → step_of q flags s c seq ≡ numbered seq (s.number + 1) (values_told q s c)
  value-alone none asked =
      let no : diff q flags.moved s (after s c) ≡ [] = numbered-none seq _ _ (no-moves none) in
      ap (λ xs. numbered seq (s.number + 1)
      (xs ++ (if flags.values then values_told q s c else []))) no ∙ rw asked refl

  -- where no value is told, those that tell of places are all
  pub no-values : values_told q s c ≡ [] → step_of q flags s c seq ≡ moves_of q flags.moved s c seq
  no-values none = step-plain q flags s c seq (inr none)

-- at most three messages are told
pub few-touched : TouchFew → StepsAreFew
few-touched laws q flags s c seq v lawful = elim (one-or-other q s c) [
  | inr none ↦ rw (no-values laws q flags s c seq v lawful none)
      (few-moves laws q flags.moved s c seq v lawful)
  | inl none ↦ by flags.values refl none
]
  where
    few : (seq number : ℕ) (w : Option (Option (List ℕ))) (o p : Option Entry)
        → length (numbered seq number (told_within w o p)) ≤ 3
    few seq number None o p = omega arith
    few seq number (Some a) None p = omega arith
    few seq number (Some a) (Some e) None = omega arith
    few seq number (Some a) (Some e) (Some f) = omega arith

    by : (b : Bool) → flags.values ≡ b → TellsNoPlace q s c → length (step_of q flags s c seq) ≤ 3
    by true asked none = rw (value-alone laws q flags s c seq v lawful none asked)
        (few seq (s.number + 1) (value_written c) (match_at q s (node_of s c))
        (match_at q (after s c) (node_of s c)))
    by false asked none = rw (step-plain q flags s c seq (inl asked))
        (few-moves laws q flags.moved s c seq v lawful)
