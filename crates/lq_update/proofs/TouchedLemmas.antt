-- What a change tells: of its own node, and of the node that a move takes away.
use Rattle.std.proofs.Common.{◌≡◌, ◌≢◌, ℕ, suc, ◌+◌, ◌<◌, ◌≤◌, length, List, [], ◌∷◌, ◌++◌, refl, sym, arith, ap, ◌∙◌, Bool, true, false, ◌⊎◌, inl, inr, append-nil}
use Rattle.std.specs.Prelude.{nat_lt, map, cond, Option, Some, None, IfSome, option_and_then, if◌then◌else◌}
use Rattle.std.specs.Option.{option_map, option_map_or, option_to_list}
use Rattle.std.specs.List.{AllByRecursion}
use Rattle.std.proofs.lemmas.Bool.{cases_eq, cases_lt}
use Rattle.std.proofs.lemmas.List.{length-append, length-map}
use Rattle.std.proofs.lemmas.Bool.Decides.{nat_tests}
use Rattle.lq_value.specs.declared.entry.Entry.{Entry}
use Rattle.lq_predicate.specs.Query.{Query}
use Rattle.lq_volume.specs.declared.change.Change.{Change}
use Rattle.lq_volume.specs.State.{State, Record, record_at, IsVolume}
use Rattle.lq_volume.specs.Change.{after, clobbered, node_of, touched_by, IsLawful}
use Rattle.lq_volume.specs.Laws.{ChangesKeepTrees, ClobberedGo, UntouchedStay}
use Rattle.lq_volume.specs.Result.{result_of, match_at, entry_if}
use Rattle.lq_update.specs.declared.message.Opcode.{Opcode}
use Rattle.lq_update.specs.declared.message.Message.{Message}
use Rattle.lq_update.specs.declared.message.Opcode.TheVariants.{Created, Removed}
use Rattle.lq_update.specs.Diff.{diff, missing}
use Rattle.lq_update.specs.Fold.{EntriesRise}
use Rattle.lq_update.specs.Touched.{is_match, left, left_at, told_first, told_last}
use Rattle.lq_update.specs.declared.open_options.Flags.{Flags}
use Rattle.lq_update.specs.Values.{values_told}
use Rattle.lq_update.specs.Updates.{numbered, step_of}
use Rattle.lq_update.proofs.EntryLemmas.{entry_at, at-above, above-lower, rises-filter, same-self}
use Rattle.lq_update.proofs.FoldLaws.{results-rise, at-result}
use Rattle.lq_update.proofs.FoldLemmas.{missing-at, alone-at, came-told}
use Rattle.lq_update.proofs.ToldLemmas.{alone_if, came_op, messages-split}

-- ---- a set with entries of two nodes alone

-- its entries are those of the two nodes, the lower one first
two-entries : (es : List Entry) (a b : ℕ) → EntriesRise es → a < b
    → ((n : ℕ) → n ≢ a → n ≢ b → entry_at n es ≡ None)
    → es ≡ option_to_list (entry_at a es) ++ option_to_list (entry_at b es)
two-entries [] a b h lt off = refl
two-entries (e ∷ es) a b h lt off =
    let rest = two-entries es a b h.1 lt (λ n x y. grind (arith, nat_tests, off n x y)) in
    elim (cases_eq e.node a) [
      | inl same ↦ grind (arith, nat_tests, at-above a es (rw (← same) h.0))
      | inr differs ↦ elim (cases_eq e.node b) [
        | inl same ↦
            let gone = at-above b es (rw (← same) h.0) in
            let before = at-above a es (above-lower a b es lt (rw (← same) h.0)) in
            grind (arith, nat_tests)
        | inr other ↦ let none = off e.node differs other in absurd (grind (arith, nat_tests))
      ]
    ]

-- ---- what left and what came at a node

-- nothing left where the entry stays
pub left-same : (o : Option Entry) → left o o ≡ None
left-same None = refl
left-same (Some e) = rw (same-self e) refl

-- what one result misses of another is what left at each node
pub missing-left : (q : Query) (s t : State) (n : ℕ) → IsVolume s → IsVolume t
    → entry_at n (missing (result_of q s) (result_of q t)) ≡ left_at q s t n
missing-left q s t n v w = missing-at n _ _ (results-rise q s v) (results-rise q t w)
    ∙ rw (at-result q s n v, at-result q t n w) refl

-- nothing is told where the entry stays
first-same : (moved : Bool) (o p : Option Entry) → o ≡ p
    → told_first moved (left o p) (left p o) ≡ None
first-same true o p is = rw (is, left-same p) refl
first-same false o p is = rw (is, left-same p) refl

-- an entry that goes is told as removed
first-gone : (moved : Bool) (o p : Option Entry) → p ≡ None
    → told_first moved (left o p) (left p o) ≡ o
first-gone moved o (Some f) is = cc
first-gone true None None is = refl
first-gone true (Some e) None is = refl
first-gone false None None is = refl
first-gone false (Some e) None is = refl

-- where no entry came, what left is told as removed, and nothing after it
pub left-told : (moved : Bool) (o : Option Entry)
    → (told_first moved o None ≡ o) × (told_last moved o None ≡ None)
left-told true o = (refl, refl)
left-told false o = (refl, refl)

-- where one came and none left, it is told as created
pub came-alone : (moved : Bool) (f : Entry) → (told_first moved None (Some f) ≡ None)
    × (told_last moved None (Some f) ≡ Some (Created, f))
came-alone true f = (refl, refl)
came-alone false f = (refl, refl)

-- by an option, a list of one element or none
map-option : {X Y : Type 0} (f : X → Y) (o : Option X)
    → map f (option_to_list o) ≡ option_to_list (option_map f o)
map-option f None = refl
map-option f (Some x) = refl

-- a record that doesn't match isn't in the result
pub match-unmatched : (q : Query) (n : ℕ) (o : Option Record) → is_match q o ≡ false
    → option_and_then (λ r. entry_if q (n, r)) o ≡ None
match-unmatched q n None h = refl
match-unmatched q n (Some r) h = rw h refl

-- the removed entries: that of one node, and that of another in its order
abbrev pub removed_of : Query → State → Option Entry → ℕ → Option ℕ → List Entry
removed_of q s own node None = option_to_list own
removed_of q s own node (Some other) =
    cond (nat_lt other node) (option_to_list (match_at q s other) ++ option_to_list own)
    (option_to_list own ++ option_to_list (match_at q s other))

-- the same, where the record of the other node is seen, if there is one
removed-taken : {A : Type 0} (now : A → Record) (q : Query) (s : State) (own : Option Entry)
    (node : ℕ) (taken : Option (ℕ × A)) → IfSome taken (λ e. record_at s e.0 ≡ Some (now e.1))
    → cond (option_map_or (λ e. nat_lt e.0 node) taken false)
    (option_to_list (option_and_then (λ e. entry_if q (e.0, now e.1)) taken) ++ option_to_list own)
    (option_to_list own ++ option_to_list (option_and_then (λ e. entry_if q (e.0, now e.1)) taken))
    ≡ removed_of q s own node (option_map (λ e. e.0) taken)
removed-taken now q s own node None there = append-nil _
removed-taken now q s own node (Some e) there = rw there refl

-- an option holds at most one element
few : {X : Type 0} (o : Option X) → length (option_to_list o) ≤ 1
few None = omega arith
few (Some x) = omega arith

-- at most two entries are removed
few-removed : (q : Query) (s : State) (own : Option Entry) (node : ℕ) (o : Option ℕ)
    → length (removed_of q s own node o) ≤ 2
few-removed q s own node None = let one = few own in omega arith
few-removed q s own node (Some other) = both (nat_lt other node)
  where
    both : (b : Bool) → length (cond b (option_to_list (match_at q s other) ++ option_to_list own)
        (option_to_list own ++ option_to_list (match_at q s other))) ≤ 2
    both true = rw length-append
        (let one = few own in let two = few (match_at q s other) in omega arith)
    both false = rw length-append
        (let one = few own in let two = few (match_at q s other) in omega arith)

-- numbers add no message
length-numbered : (seq number : ℕ) (ys : List (Opcode × Entry))
    → length (numbered seq number ys) ≡ length ys
length-numbered seq number [] = refl
length-numbered seq number (y ∷ ys) = ap suc (length-numbered (seq + 1) number ys)

-- the messages of what left, moved and came
abbrev pub moves_of : Query → Bool → State → Change → ℕ → List Message
moves_of q moved s c seq = numbered seq (s.number + 1) (diff q moved s (after s c))

-- without messages of values these are all
pub step-plain : (q : Query) (flags : Flags) (s : State) (c : Change) (seq : ℕ)
    → (flags.values ≡ false) ⊎ (values_told q s c ≡ [])
    → step_of q flags s c seq ≡ moves_of q flags.moved s c seq
step-plain q flags s c seq plain =
    ap (numbered seq (s.number + 1)) (none flags.values _ (values_told q s c) plain)
  where
    none : (b : Bool) (xs ys : List (Opcode × Entry)) → (b ≡ false) ⊎ (ys ≡ [])
        → xs ++ (if b then ys else []) ≡ xs
    none false xs ys h = append-nil xs
    none true xs ys (inl h) = cc
    none true xs ys (inr h) = rw h (append-nil xs)

-- the laws by which a change touches its own node, and the one that it takes away
abbrev pub TouchFew : Type 0
TouchFew = record { trees : ChangesKeepTrees; stay : UntouchedStay; go : ClobberedGo }

-- ---- the messages of a change

module _ (laws : TouchFew) (q : Query) (moved : Bool) (s : State) (c : Change) (seq : ℕ)
    (v : IsVolume s) (lawful : IsLawful s c) where
  -- what left at a node
  abbrev gone_at : ℕ → Option Entry
  gone_at n = left_at q s (after s c) n

  -- what came there
  abbrev came_at : ℕ → Option Entry
  came_at n = left_at q (after s c) s n

  -- what left the result
  abbrev gone : List Entry
  gone = missing (result_of q s) (result_of q (after s c))

  -- what came into it
  abbrev come : List Entry
  come = missing (result_of q (after s c)) (result_of q s)

  -- the state afterwards is a volume
  volume : IsVolume (after s c)
  volume = laws.trees s c v lawful

  -- a node that the change doesn't touch keeps its entry
  match-stays : (n : ℕ) → AllByRecursion (λ k. n ≢ k) (touched_by s c)
      → match_at q s n ≡ match_at q (after s c) n
  match-stays n off =
      ap (option_and_then (λ r. entry_if q (n, r))) (laws.stay s c n v lawful off)

  -- nor has the one that it takes away an entry
  match-gone : (n : ℕ) → clobbered s c ≡ Some n → match_at q (after s c) n ≡ None
  match-gone n is = ap (option_and_then (λ r. entry_if q (n, r))) (laws.go s c n v is).1

  -- what left and what came are these at each node
  gone-at : (n : ℕ) → entry_at n gone ≡ gone_at n
  gone-at n = missing-left q s (after s c) n v volume

  -- what came at each node
  come-at : (n : ℕ) → entry_at n come ≡ came_at n
  come-at n = missing-left q (after s c) s n volume v

  -- what is told as removed at a node
  alone-told : (n : ℕ) → entry_at n (alone_if moved gone come)
      ≡ told_first moved (gone_at n) (came_at n)
  alone-told n = alone-at moved n gone come (rises-filter _ _ (results-rise q s v))
      ∙ rw (gone-at n, come-at n) refl

  -- of two nodes that are all that may tell, what is told as removed
  removed-two : (a b : ℕ) → a < b
      → ((n : ℕ) → n ≢ a → n ≢ b → match_at q s n ≡ match_at q (after s c) n)
      → alone_if moved gone come ≡ option_to_list (told_first moved (gone_at a) (came_at a))
      ++ option_to_list (told_first moved (gone_at b) (came_at b))
  removed-two a b lt stays = two-entries (alone_if moved gone come) a b
      (rises-filter _ _ (rises-filter _ _ (results-rise q s v))) lt
      (λ n x y. alone-told n ∙ first-same moved _ _ (stays n x y))
      ∙ rw (alone-told a, alone-told b) refl

  -- what is told as removed
  removed-is : (o : Option ℕ) → clobbered s c ≡ o → alone_if moved gone come
      ≡ removed_of q s (told_first moved (gone_at (node_of s c)) (came_at (node_of s c)))
      (node_of s c) o
  removed-is None is =
      removed-two (node_of s c) (node_of s c + 1) (omega arith)
      (λ n x y. match-stays n (rw is (x, tt)))
      ∙ rw (first-same moved _ _ (match-stays (node_of s c + 1) (rw is (next, tt)))) (append-nil _)
    where
      next : node_of s c + 1 ≢ node_of s c
      next same = omega arith
  removed-is (Some x) is =
      let there = first-gone moved (match_at q s x) _ (match-gone x is) in
      elim (cases_lt x (node_of s c)) [
        | inl low ↦
            let below : nat_lt x (node_of s c) ≡ true = grind (arith, nat_tests) in
            removed-two x (node_of s c) low (λ n p r. match-stays n (rw is (r, (p, tt))))
            ∙ rw (there, below) refl
        | inr high ↦
            let differs = (laws.go s c x v is).0 in
            let below : nat_lt x (node_of s c) ≡ false = grind (arith, nat_tests) in
            removed-two (node_of s c) x (grind (arith, nat_tests))
            (λ n p r. match-stays n (rw is (p, (r, tt)))) ∙ rw (there, below) refl
      ]

  -- nothing came at another node
  came-none : (n : ℕ) → n ≢ node_of s c → (o : Option ℕ) → clobbered s c ≡ o → came_at n ≡ None
  came-none n off None is =
      rw (match-stays n (rw is (off, tt))) (left-same (match_at q (after s c) n))
  came-none n off (Some x) is = elim (cases_eq n x) [
    | inl same ↦ rw (match-gone n (is ∙ ap Some (sym same))) refl
    | inr differs ↦
        rw (match-stays n (rw is (off, (differs, tt)))) (left-same (match_at q (after s c) n))
  ]

  -- what is told last
  last-is : map (λ f. (came_op moved gone f, f)) come
      ≡ option_to_list (told_last moved (gone_at (node_of s c)) (came_at (node_of s c)))
  last-is =
      let node = node_of s c in
      let next = λ (same : node + 1 ≡ node). let no : ⊥ = omega arith in no in
      ap (map (λ f. (came_op moved gone f, f))) (two-entries come node (node + 1)
      (rises-filter _ _ (results-rise q (after s c) volume)) (omega arith)
      (λ n x y. come-at n ∙ came-none n x (clobbered s c) refl)
      ∙ rw (come-at (node + 1) ∙ came-none (node + 1) next (clobbered s c) refl) (append-nil _))
      ∙ (map-option _ (entry_at node come) ∙ ap option_to_list (came-told moved node gone come
      ∙ rw (gone-at node, come-at node) refl))

  -- the messages are those of the removed entries, and then what is told last
  told : (number : ℕ) (xs : List Entry) (last : Option (Opcode × Entry))
      → xs ≡ removed_of q s (told_first moved (gone_at (node_of s c)) (came_at (node_of s c)))
      (node_of s c) (clobbered s c)
      → last ≡ told_last moved (gone_at (node_of s c)) (came_at (node_of s c))
      → number ≡ s.number + 1
      → numbered seq number (map (λ e. (Removed, e)) xs ++ option_to_list last)
      ≡ moves_of q moved s c seq
  told number xs last xs_is is number_is = rw (xs_is, is, number_is)
      (ap (numbered seq (s.number + 1)) (sym (messages-split moved gone come
      ∙ (λ i. map (λ e. (Removed, e)) (removed-is (clobbered s c) refl i) ++ last-is i))))

  -- where an entry left or none did, none came, and nothing else is taken away
  pub told-left : (number : ℕ) (old : Option Entry) → number ≡ s.number + 1
      → gone_at (node_of s c) ≡ old → came_at (node_of s c) ≡ None → clobbered s c ≡ None
      → numbered seq number (map (λ e. (Removed, e)) (option_to_list old) ++ [])
      ≡ moves_of q moved s c seq
  told-left number old number_is left_is came_is none =
      told number (option_to_list old) None
      (rw (none, left_is, came_is) (ap option_to_list (sym (left-told moved old).0)))
      (rw (left_is, came_is) (sym (left-told moved old).1)) number_is

  -- and where an entry came, and none left
  pub told-came : (number : ℕ) (e : Entry) → number ≡ s.number + 1
      → gone_at (node_of s c) ≡ None → came_at (node_of s c) ≡ Some e → clobbered s c ≡ None
      → numbered seq number ((Created, e) ∷ []) ≡ moves_of q moved s c seq
  told-came number e number_is left_is came_is none = told number [] (Some (Created, e))
      (rw (none, left_is, came_is) (ap option_to_list (sym (came-alone moved e).0)))
      (rw (left_is, came_is) (sym (came-alone moved e).1)) number_is

  -- where the node that it takes away, if there is one, is seen: the lower of the two first
  pub told-taken : {A : Type 0} (now : A → Record) (taken : Option (ℕ × A)) (number node : ℕ)
      (removed : Option Entry) (last : Option (Opcode × Entry))
      → number ≡ s.number + 1 → node ≡ node_of s c
      → removed ≡ told_first moved (gone_at (node_of s c)) (came_at (node_of s c))
      → last ≡ told_last moved (gone_at (node_of s c)) (came_at (node_of s c))
      → option_map (λ e. e.0) taken ≡ clobbered s c
      → IfSome taken (λ e. record_at s e.0 ≡ Some (now e.1))
      → (low : Bool) (other : Option Entry)
      → other ≡ option_and_then (λ e. entry_if q (e.0, now e.1)) taken
      → low ≡ option_map_or (λ e. nat_lt e.0 node) taken false
      → numbered seq number (map (λ e. (Removed, e)) (cond low (option_to_list other
      ++ option_to_list removed) (option_to_list removed ++ option_to_list other))
      ++ option_to_list last) ≡ moves_of q moved s c seq
  told-taken now taken number node removed last number_is node_is removed_is is taken_is there low
      other other_is low_is =
      told number _ last (rw (low_is, other_is, node_is, removed_is, ← taken_is)
      (removed-taken now q s _ _ taken there)) is number_is

  -- where the own node matches neither before nor after and nothing else is taken away, nothing is
  -- told
  pub told-unmatched : clobbered s c ≡ None
      → is_match q (record_at s (node_of s c)) ≡ false
      → is_match q (record_at (after s c) (node_of s c)) ≡ false → moves_of q moved s c seq ≡ []
  told-unmatched none before now =
      let old = match-unmatched q (node_of s c) (record_at s (node_of s c)) before in
      let new = match-unmatched q (node_of s c) (record_at (after s c) (node_of s c)) now in
      sym (told-left (s.number + 1) None refl (rw old refl) (rw new refl) none)

  -- at most three are told
  pub few-moves : length (moves_of q moved s c seq) ≤ 3
  few-moves =
      rw (← told (s.number + 1) _ _ refl refl refl, length-numbered, length-append, length-map)
      (let first = few-removed q s (told_first moved (gone_at (node_of s c))
      (came_at (node_of s c))) (node_of s c) (clobbered s c) in
      let last = few (told_last moved (gone_at (node_of s c)) (came_at (node_of s c))) in
      omega arith)
