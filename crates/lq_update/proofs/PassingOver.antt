-- A change under names that a predicate doesn't go by leaves its result as it was.
use Rattle.std.proofs.Common.{◌≡◌, ◌⊎◌, inl, inr, ℕ, ℤ, pos, List, [], ◌∷◌, ◌++◌, ◌<◌, refl, sym, ap, subst, ◌∙◌, Bool, true, false, arith}
use Rattle.std.specs.Prelude.{Option, Some, None, IsSomeAnd, map, filter, codes, cond, ◌==◌, nat_eq, option_and_then, if◌then◌else◌}
use Rattle.std.specs.List.{AllByRecursion, list_any}
use Rattle.std.specs.Map.{lookup}
use Rattle.std.specs.Option.{option_map}
use Rattle.std.specs.Str.{bytes_eq}
use Rattle.std.proofs.lemmas.Bool.Decides.{nat_tests}
use Rattle.std.proofs.lemmas.Slice.Eq.{bytes_eq-Decides}
use Rattle.lq_value.specs.declared.entry.Entry.{Entry}
use Rattle.lq_value.specs.declared.attr_field.Field.TheVariants.{Attribute}
use Rattle.lq_value.specs.Field.{field_of}
use Rattle.lq_predicate.specs.Query.{Query}
use Rattle.lq_predicate.specs.Laws.{BareRowsFail, GoesBy, TruthStaysBesideSpans}
use Rattle.lq_predicate.specs.Span.{StaysBeside, is_outside, span_of}
use Rattle.lq_predicate.specs.Truth.{truth}
use Rattle.lq_volume.specs.declared.change.Change.{Change}
use Rattle.lq_volume.specs.declared.change.Change.TheVariants.{Create, Remove, Move, Write, SetAttr, RemoveAttr}
use Rattle.lq_volume.specs.AttributeLaws.{ValuesAreFound}
use Rattle.lq_volume.specs.declared.planned.WrittenNumbers.{WrittenNumbers}
use Rattle.lq_volume.specs.Plan.{WritesNumbers}
use Rattle.lq_volume.specs.State.{State, Record, IsVolume, record_at}
use Rattle.lq_volume.specs.Change.{after, node_of, altered, altered_at, rewritten, set_attr, remove_attr}
use Rattle.lq_volume.specs.Result.{result_of, entry_of, entry_if, match_at, shown}
use Rattle.lq_update.specs.Diff.{missing, messages_of, diff}
use Rattle.lq_update.specs.Fold.{EntriesRise}
use Rattle.lq_update.specs.Laws.{BareCreatesTellNothing, ChangesPassOver}
use Rattle.lq_update.specs.Touched.{is_match}
use Rattle.lq_update.proofs.EntryLemmas.{entry_at, entries-same, rises-filter}
use Rattle.lq_update.proofs.FoldLaws.{results-rise}
use Rattle.lq_update.proofs.FoldLemmas.{missing-at}
use Rattle.lq_update.proofs.TouchedLemmas.{TouchFew, left-same, step-plain, told-unmatched}

-- another name of the predicate has the test's answer too
same-name : (names : List (List ℕ)) (name other : List ℕ) → list_any (bytes_eq name) names ≡ true
    → list_any (bytes_eq other) names ≡ false → bytes_eq name other ≡ false
same-name names name other among not_among =
    grind (arith, nat_tests, bytes_eq-Decides name other)

-- so it is of each of some names
same-names : (names own : List (List ℕ)) (name : List ℕ) → list_any (bytes_eq name) names ≡ true
    → AllByRecursion (λ other. list_any (bytes_eq other) names ≡ false) own
    → AllByRecursion (λ other. bytes_eq name other ≡ false) own
same-names names [] name among off = tt
same-names names (other ∷ own) name among off =
    (same-name names name other among off.0, same-names names own name among off.1)

-- what is the same with the record of one node altered is the same of each entry
at-altered : {X : Type 0} (h : ℕ × Record → X) (node : ℕ) (f : Record → Record)
    → ((n : ℕ) (r : Record) → h (n, f r) ≡ h (n, r)) → (e : ℕ × Record)
    → h (altered_at node f e) ≡ h e
at-altered h node f same e =
    elim (e.0 == node) as (λ b. h (e.0, (if b then f e.1 else e.1)) ≡ h e) [
      | true ↦ same e.0 e.1
      | false ↦ refl
    ]

-- a change of records that keeps their places and the truth of the query keeps the result
altered-passes : (test : ℕ × Record → Bool) (g : ℕ × Record → ℕ × Record)
    → ((e : ℕ × Record) → test (g e) ≡ test e) → ((e : ℕ × Record) → entry_of (g e) ≡ entry_of e)
    → (es : List (ℕ × Record))
    → map entry_of (filter test (map g es)) ≡ map entry_of (filter test es)
altered-passes test g same place [] = refl
altered-passes test g same place (e ∷ es) =
    let rest = altered-passes test g same place es in
    rw (same e) (elim (test e) as (λ b.
    map entry_of (cond b (g e ∷ filter test (map g es)) (filter test (map g es)))
    ≡ map entry_of (cond b (e ∷ filter test es) (filter test es))) [
      | true ↦ λ i. place e i ∷ rest i
      | false ↦ rest
    ])

-- a list misses nothing of itself
missing-self : (es : List Entry) → EntriesRise es → missing es es ≡ []
missing-self es h = entries-same (missing es es) [] (rises-filter _ es h) tt
    (λ n. missing-at n es es h h ∙ left-same (entry_at n es))

-- where nothing left and nothing came, nothing is told
told-nothing : (moved : Bool) → messages_of moved [] [] ≡ []
told-nothing true = refl
told-nothing false = refl

-- one result tells nothing
diff-same : (q : Query) (moved : Bool) (s t : State) → IsVolume s → result_of q t ≡ result_of q s
    → diff q moved s t ≡ []
diff-same q moved s t v same =
    ap (λ r. messages_of moved (missing (result_of q s) r) (missing r (result_of q s))) same
    ∙ (rw (missing-self (result_of q s) (results-rise q s v)) (told-nothing moved))

-- what is in an option, or the value given
abbrev inside : {X : Type 0} → X → Option X → X
inside x None = x
inside x (Some y) = y

-- equal options hold equal values
some-inside : {X : Type 0} {x y : X} → Some x ≡ Some y → x ≡ y
some-inside {X} {x} is = ap (inside x) is

-- a change of one node's record that keeps its place, and what it shows under all names but these,
-- tells nothing to a query that goes by none of these
passes-over : (q : Query) (moved : Bool) (s : State) (c : Change) (node : ℕ) (f : Record → Record)
    (names own other : List (List ℕ)) → IsVolume s → GoesBy names q → Some own ≡ Some other
    → AllByRecursion (λ name. list_any (bytes_eq name) names ≡ false) other
    → (after s c).records ≡ altered node f s.records
    → ((n : ℕ) (r : Record) → entry_of (n, f r) ≡ entry_of (n, r))
    → ((r : Record) (name : List ℕ) → AllByRecursion (λ a. bytes_eq name a ≡ false) own
    → shown (f r) name ≡ shown r name) → diff q moved s (after s c) ≡ []
passes-over q moved s c node f names own other v by is off records_are place shows =
    let off_own : AllByRecursion (λ name. list_any (bytes_eq name) names ≡ false) own =
    rw (some-inside is) off in
    diff-same q moved s (after s c) v
    (ap (λ es. map entry_of (filter (λ e. truth q (shown e.1)) es)) records_are
    ∙ altered-passes (λ e. truth q (shown e.1)) (altered_at node f)
    (at-altered (λ e. truth q (shown e.1)) node f (λ n r. by (shown (f r)) (shown r)
    (λ name among. shows r name (same-names names own name among off_own))))
    (at-altered entry_of node f place) s.records)

-- a change under names that a query doesn't go by tells it nothing
pub changes-pass : ValuesAreFound → ChangesPassOver
changes-pass found q moved s (Create dir name kind size time) names altered v by is off = cc
changes-pass found q moved s (Remove node) names altered v by is off = cc
changes-pass found q moved s (Move node dir name clobber) names altered v by is off = cc
changes-pass found q moved s (Write node size time) names altered v by is off =
    passes-over q moved s (Write node size time) node (rewritten size time) names _ altered v by
    is off refl (λ n r. refl) (λ r name off. rw (off.0, off.1.0) refl)
changes-pass found q moved s (SetAttr node attr value) names altered v by is off =
    passes-over q moved s (SetAttr node attr value) node (set_attr attr value) names _ altered v by
    is off refl (λ n r. refl) (λ r name off. rw (found.set r.attrs attr name value, off.0) refl)
changes-pass found q moved s (RemoveAttr node attr) names altered v by is off =
    passes-over q moved s (RemoveAttr node attr) node (remove_attr attr) names _ altered v by is off
    refl (λ n r. refl) (λ r name off. rw (found.removed r.attrs attr name, off.0) refl)

-- ---- a write of numbers that stay beside those of the query

-- what is looked up under an altered node
pub lookup-altered : (node : ℕ) (f : Record → Record) (es : List (ℕ × Record))
    → lookup (nat_eq node) (altered node f es) ≡ option_map f (lookup (nat_eq node) es)
lookup-altered node f [] = refl
lookup-altered node f (e ∷ es) = grind (arith, nat_tests, lookup-altered node f es)

-- what a written record shows is the same, or stays beside the numbers of the query
shown-beside : (q : Query) (r : Record) (size : ℕ) (time : ℤ)
    → is_outside (span_of (codes "size") q) (pos r.size) (pos size) ≡ true
    → is_outside (span_of (codes "last_modified") q) r.time time ≡ true
    → (name : List ℕ) → (shown r name ≡ shown (rewritten size time r) name)
    ⊎ StaysBeside (span_of name q) (shown r name) (shown (rewritten size time r) name)
shown-beside q r size time sizes times name =
    by (bytes_eq name (codes "size")) refl (bytes_eq name (codes "last_modified")) refl
  where
    Goal : List ℕ → Type 0
    Goal n = (shown r n ≡ shown (rewritten size time r) n)
        ⊎ StaysBeside (span_of n q) (shown r n) (shown (rewritten size time r) n)

    by : (b : Bool) → bytes_eq name (codes "size") ≡ b
        → (d : Bool) → bytes_eq name (codes "last_modified") ≡ d → Goal name
    by true is d other =
        subst Goal (sym ((bytes_eq-Decides name (codes "size")).0 is)) (inr (record {
          from = pos r.size;
          to = pos size;
          was = refl;
          is = refl;
          beside = sizes;
        }))
    by false is true other =
        subst Goal (sym ((bytes_eq-Decides name (codes "last_modified")).0 other)) (inr (record {
          from = r.time;
          to = time;
          was = refl;
          is = refl;
          beside = times;
        }))
    by false is false other = inl (rw (is, other) refl)

-- a write that leaves the truth of a query leaves its match at the node
pub match-written : TruthStaysBesideSpans
    → (q : Query) (s : State) (r : Record) (node size : ℕ) (time : ℤ) → record_at s node ≡ Some r
    → is_outside (span_of (codes "size") q) (pos r.size) (pos size) ≡ true
    → is_outside (span_of (codes "last_modified") q) r.time time ≡ true
    → match_at q (after s (Write node size time)) node ≡ match_at q s node
match-written law q s r node size time is sizes times =
    let same : truth q (shown r) ≡ truth q (shown (rewritten size time r)) =
    law q (shown r) (shown (rewritten size time r)) (shown-beside q r size time sizes times) in
    let there : record_at (after s (Write node size time)) node ≡ Some (rewritten size time r) =
    lookup-altered node (rewritten size time) s.records
    ∙ ap (option_map (rewritten size time)) is in
    ap (option_and_then (λ r. entry_if q (node, r))) there
    ∙ ap (λ b. cond b (Some (entry_of (node, r))) None) (sym same)
    ∙ sym (ap (option_and_then (λ r. entry_if q (node, r))) is)

-- that of a write, by the numbers that it finds and leaves
pub match-numbers : TruthStaysBesideSpans
    → (q : Query) (s : State) (c : Change) (w : WrittenNumbers) → WritesNumbers s c w
    → is_outside (span_of (codes "size") q) (pos w.old_size) (pos w.new_size) ≡ true
    → is_outside (span_of (codes "last_modified") q) w.old_time w.new_time ≡ true
    → match_at q (after s c) (node_of s c) ≡ match_at q s (node_of s c)
match-numbers law q s c w are sizes times = by (record_at s (node_of s c)) refl are.found
  where
    by : (o : Option Record) → record_at s (node_of s c) ≡ o
        → IsSomeAnd o (λ r. (r.size ≡ w.old_size) × (r.time ≡ w.old_time))
        → match_at q (after s c) (node_of s c) ≡ match_at q s (node_of s c)
    by None is found = absurd found
    by (Some r) is found =
        ap (λ d. match_at q (after s d) (node_of s c)) are.write
        ∙ match-written law q s r (node_of s c) w.new_size w.new_time is
        (subst (λ n. is_outside (span_of (codes "size") q) (pos n) (pos w.new_size) ≡ true)
        (sym found.0) sizes)
        (subst (λ t. is_outside (span_of (codes "last_modified") q) t w.new_time ≡ true)
        (sym found.1) times)

-- ---- a creation, where the query needs an attribute

-- a new node has no record, and then the one that is put last
pub created-last : (es : List (ℕ × Record)) (k : ℕ) (r : Record) → AllByRecursion (λ e. e.0 < k) es
    → (lookup (nat_eq k) es ≡ None) × (lookup (nat_eq k) (es ++ (k, r) ∷ []) ≡ Some r)
created-last [] k r below = grind (arith, nat_tests)
created-last (e ∷ es) k r below =
    let rest = created-last es k r below.1 in
    (grind (arith, nat_tests), grind (arith, nat_tests))

-- a record without attributes shows nothing under the name of one
shown-bare : (r : Record) → r.attrs ≡ [] → (name : List ℕ) → field_of name ≡ Attribute
    → shown r name ≡ None
shown-bare r bare name is = grind (arith, nat_tests)

-- a creation tells nothing to a query that needs an attribute
pub bare-creates : BareRowsFail → TouchFew → BareCreatesTellNothing
bare-creates fail laws q flags s dir name kind size time seq v lawful needs =
    let r : Record =
    record { dir = dir; name = name; kind = kind; size = size; time = time; attrs = [] } in
    let last = created-last s.records s.next r v.numbered.below in
    step-plain q flags s (Create dir name kind size time) seq (inr refl)
    ∙ told-unmatched laws q flags.moved s (Create dir name kind size time) seq v lawful refl
    (ap (is_match q) last.0)
    (ap (is_match q) last.1 ∙ fail q (shown r) needs (shown-bare r refl))
