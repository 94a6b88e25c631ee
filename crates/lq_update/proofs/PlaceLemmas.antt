-- What a search among entries that rise by node finds, and what an edit at that place does.
use Rattle.std.proofs.Common.{◌≡◌, ℕ, zero, suc, ◌<◌, ◌≤◌, List, [], ◌∷◌, length, get_or, set, refl, sym, ap, ◌∙◌, Bool, true, false, arith, inl, inr, Result, Ok, Err, IfOk, IfErr}
use Rattle.std.specs.Prelude.{Some, None, is_some, is_ok}
use Rattle.std.specs.List.{insert, remove}
use Rattle.std.specs.List.Sorted.{IsSearchInRange, IsBinarySearchResult, IsNonDecreasingBy}
use Rattle.std.specs.Ordering.{nat_cmp, ordering_index}
use Rattle.std.proofs.lemmas.Cmp.{ranked}
use Rattle.std.proofs.lemmas.List.{get_or_default}
use Rattle.std.proofs.lemmas.Bool.{cases_eq}
use Rattle.std.proofs.lemmas.Bool.Decides.{nat_tests}
use Rattle.lq_value.specs.declared.entry.Entry.{Entry}
use Rattle.lq_update.specs.Diff.{same_entry, has_node}
use Rattle.lq_update.specs.Fold.{EntriesRise, taken_out, put_in, has_entry}
use Rattle.lq_update.specs.Place.{IsEntryAt, IsTripleAt, IsGapFor}
use Rattle.lq_update.proofs.EntryLemmas.{Above, at-lacks, entry_at, same-self, same-entry, at-above, has_node-at, has_entry-at}

-- each entry of a list above a node is above it
pub above-get : (n : ℕ) (es : List Entry) (i : ℕ) (d : Entry) → Above n es → i < length es
    → n < (get_or es i d).node
above-get n [] i d h lt = absurd (omega arith)
above-get n (e ∷ es) zero d h lt = h.0
above-get n (e ∷ es) (suc i) d h lt = above-get n es i d h.1 (omega arith)

-- of two entries the later one has the higher node
rise-get : (es : List Entry) (i j : ℕ) (d : Entry) → EntriesRise es → i < j → j < length es
    → (get_or es i d).node < (get_or es j d).node
rise-get [] i j d h lt within = absurd (omega arith)
rise-get (e ∷ es) i zero d h lt within = absurd (omega arith)
rise-get (e ∷ es) zero (suc j) d h lt within = above-get e.node es j d h.0 (omega arith)
rise-get (e ∷ es) (suc i) (suc j) d h lt within = rise-get es i j d h.1 (omega arith) (omega arith)

-- the comparisons with a node rise along the list, as a binary search asks
comparisons_rise : (es : List Entry) (n : ℕ) → EntriesRise es
    → IsNonDecreasingBy (λ e. ordering_index (nat_cmp e.node n)) es
comparisons_rise es n h i j d le within =
    let nodes : (get_or es i d).node ≤ (get_or es j d).node = elim (cases_eq i j) [
      | inl same ↦ let is = ap (λ k. (get_or es k d).node) same in omega arith
      | inr differs ↦ let lt = rise-get es i j d h (omega arith) within in omega arith
    ] in
    grind (arith, nat_tests)

-- a binary search by node ends at the node, or at the gap for it
pub searched : (es : List Entry) (n : ℕ) → EntriesRise es → (r : Result ℕ ℕ)
    → IsSearchInRange r (length es) → IsBinarySearchResult (λ e. nat_cmp e.node n) es r
    → record { found : IfOk r (IsEntryAt es n); absent : IfErr r (IsGapFor es n) }
searched es n h (Ok place) within equal =
    record {
      found = record { within = within; has_node = λ d. ranked _ n _ (sym (equal d)) };
      absent = tt;
    }
searched es n h (Err place) within parted = record {
  found = tt;
  absent = record {
    within = within;
    lower = λ i d lt. ranked _ n _
        (sym ((parted (comparisons_rise es n h)).0 i d (omega arith) lt));
    higher = λ i d le lt. ranked _ n _ (sym ((parted (comparisons_rise es n h)).1 i d le lt));
  };
}

-- a gap behind the first entry is one of the list without it
gap-tail : (e : Entry) (es : List Entry) (n i : ℕ) → IsGapFor (e ∷ es) n (suc i) → IsGapFor es n i
gap-tail e es n i g = record {
  within = omega (arith, g.within);
  lower = λ j d lt. g.lower (suc j) d (omega arith);
  higher = λ j d le lt. g.higher (suc j) d (omega arith) (omega arith);
}

-- if each place has a node above this one, the list is above it
all-higher : (fs : List Entry) (n : ℕ)
    → ((j : ℕ) (d : Entry) → j < length fs → n < (get_or fs j d).node) → Above n fs
all-higher [] n h = tt
all-higher (f ∷ fs) n h =
    (h 0 f (omega arith), all-higher fs n (λ j d lt. h (suc j) d (omega arith)))

-- a node with a gap has no entry
pub at-gap : (es : List Entry) (n i : ℕ) → IsGapFor es n i → entry_at n es ≡ None
at-gap [] n i g = refl
at-gap (e ∷ es) n zero g =
    at-above n (e ∷ es) (all-higher (e ∷ es) n (λ j d lt. g.higher j d (omega arith) lt))
at-gap (e ∷ es) n (suc i) g =
    grind (arith, nat_tests, g.lower 0 e (omega arith), at-gap es n i (gap-tail e es n i g))

-- an entry inserted at the gap for its node is put in
pub insert-gap : (e : Entry) (es : List Entry) (i : ℕ) → IsGapFor es e.node i
    → insert es i e ≡ put_in e es
insert-gap e [] zero g = refl
insert-gap e [] (suc i) g = absurd (omega (arith, g.within))
insert-gap e (f ∷ es) zero g = grind (arith, nat_tests, g.higher 0 f (omega arith) (omega arith))
insert-gap e (f ∷ es) (suc i) g =
    let low = g.lower 0 f (omega arith) in
    let rest = insert-gap e es i (gap-tail f es e.node i g) in
    grind (arith, nat_tests)

-- the entry at a place is that of its node
pub at-place : (es : List Entry) (n i : ℕ) (d : Entry) → EntriesRise es → IsEntryAt es n i
    → entry_at n es ≡ Some (get_or es i d)
at-place [] n i d h g = absurd (omega (arith, g.within))
at-place (e ∷ es) n zero d h g = grind (arith, nat_tests, g.has_node e)
at-place (e ∷ es) n (suc i) d h g =
    let within : i < length es = omega (arith, g.within) in
    let rest = at-place es n i d h.1 (record { within = within; has_node = λ c. g.has_node c }) in
    grind (arith, nat_tests, above-get e.node es i d h.0 within, g.has_node d)

-- taking a triple out of entries above its node leaves them all
pub taken_out-above : (e : Entry) (es : List Entry) → Above e.node es → taken_out e es ≡ es
taken_out-above e [] h = refl
taken_out-above e (f ∷ es) h = grind (arith, nat_tests, h.0, taken_out-above e es h.1)

-- a triple behind the first entry is one of the list without it
triple-tail : (f : Entry) (es : List Entry) (e : Entry) (i : ℕ) → IsTripleAt (f ∷ es) e (suc i)
    → IsTripleAt es e i
triple-tail f es e i g = record { within = omega (arith, g.within); same = λ d. g.same d }

-- and has a higher node than the first
triple-above : (f : Entry) (es : List Entry) (e : Entry) (i : ℕ) → EntriesRise (f ∷ es)
    → IsTripleAt (f ∷ es) e (suc i) → f.node < e.node
triple-above f es e i h g =
    let lt = above-get f.node es i e h.0 (omega (arith, g.within)) in
    rw (← g.same e) lt

-- removing a triple's place takes it out
pub remove-triple : (es : List Entry) (e : Entry) (i : ℕ) → EntriesRise es → IsTripleAt es e i
    → remove es i ≡ taken_out e es
remove-triple [] e i h g = absurd (omega (arith, g.within))
remove-triple (f ∷ es) e zero h g =
    let is : f ≡ e = g.same e in
    grind (arith, nat_tests, same-self e, taken_out-above e es (rw (← is) h.0))
remove-triple (f ∷ es) e (suc i) h g =
    let lt = triple-above f es e i h g in
    let rest = remove-triple es e i h.1 (triple-tail f es e i g) in
    grind (arith, nat_tests)

-- a triple put in below all others goes to the front
pub put_in-above : (e : Entry) (es : List Entry) → Above e.node es → put_in e es ≡ e ∷ es
put_in-above e [] h = refl
put_in-above e (f ∷ es) h = grind (arith, nat_tests, h.0)

-- an entry at its node's place in place of another
pub set-triple : (es : List Entry) (e f : Entry) (i : ℕ) → EntriesRise es → IsTripleAt es e i
    → f.node ≡ e.node → set es i f ≡ put_in f (taken_out e es)
set-triple [] e f i h g node = absurd (omega (arith, g.within))
set-triple (d ∷ es) e f zero h g node =
    let is : d ≡ e = g.same e in
    let rest = taken_out-above e es (rw (← is) h.0) in
    grind (arith, nat_tests, same-self e, put_in-above f es (rw (node, ← is) h.0))
set-triple (d ∷ es) e f (suc i) h g node =
    let lt = triple-above d es e i h g in
    let rest = set-triple es e f i h.1 (triple-tail d es e i g) node in
    grind (arith, nat_tests)

-- ---- the facts that the code needs

-- an entry that was read at its node's place and is the same as a triple is that triple
pub triple-read : (es : List Entry) (e f : Entry) (i : ℕ) → IsEntryAt es e.node i
    → f ≡ get_or es i f → same_entry e f ≡ true → IsTripleAt es e i
triple-read es e f i g read same = record {
  within = g.within;
  same = λ d. get_or_default es i d f g.within ∙ (sym read ∙ sym (same-entry e f same));
}

-- the entry read at a node's place says whether a triple of that node is there
pub has_entry-read : (es : List Entry) (e f : Entry) (i : ℕ) (b : Bool) → EntriesRise es
    → IsEntryAt es e.node i → f ≡ get_or es i f → same_entry e f ≡ b → has_entry e es ≡ b
has_entry-read es e f i b h g read same = has_entry-at e es h
    ∙ rw (at-place es e.node i f h g, ← read) same

-- where a node has no entry, no triple of it is there
pub has_entry-lacks : (es : List Entry) (e : Entry) → EntriesRise es → has_node e.node es ≡ false
    → has_entry e es ≡ false
has_entry-lacks es e h lacks = has_entry-at e es h ∙ rw (at-lacks e.node es lacks) refl

-- a search says whether a node is there
pub has_node-search : (es : List Entry) (n : ℕ) (r : Result ℕ ℕ) → EntriesRise es
    → IfOk r (IsEntryAt es n) → IfErr r (IsGapFor es n) → has_node n es ≡ is_ok r
has_node-search [] n (Ok i) h found absent = absurd (omega (arith, found.within))
has_node-search (e ∷ es) n (Ok i) h found absent =
    has_node-at n (e ∷ es) ∙ ap is_some (at-place (e ∷ es) n i e h found)
has_node-search es n (Err i) h found absent =
    has_node-at n es ∙ ap is_some (at-gap es n i absent)
