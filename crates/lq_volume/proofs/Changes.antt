-- An accepted change keeps the numbers and nodes of a volume.
use Rattle.std.proofs.Common.{◌≡◌, ℕ, ◌+◌, ◌≤◌, List, [], ◌∷◌, arith, eqb, Bool, false, None, Option, ◌++◌, ◌<◌, filter}
use Rattle.std.specs.Prelude.{not, Some}
use Rattle.std.specs.List.{AllByRecursion}
use Rattle.std.proofs.lemmas.Bool.Decides.{nat_tests}
use Rattle.lq_value.specs.declared.refusal.Refusal.{Refusal}
use Rattle.lq_value.specs.Refusal.{first_refusal}
use Rattle.lq_volume.specs.declared.change.Change.{Change}
use Rattle.lq_volume.specs.declared.change.Change.TheVariants.{Create, Remove, Move, Write, SetAttr, RemoveAttr}
use Rattle.lq_volume.specs.State.{State, Record, Rises, IsNumbered}
use Rattle.lq_volume.specs.Change.{refused, with_records, altered, without}
use Rattle.lq_volume_entries.specs.Laws.{RecordsAreKept}
use Rattle.lq_volume.proofs.RecordLemmas.{Entries, All-then, All-filter, All-without, All-kept}

-- where nothing refuses, no row's test holds
pub none_holds : (rows : List (Bool × Refusal)) → first_refusal rows ≡ None
    → AllByRecursion (λ row. row.0 ≡ false) rows
none_holds [] h = tt
none_holds (row ∷ rows) h = let k = none_holds rows in grind (arith, nat_tests)

-- a change that nothing refuses finds the volume below its limit
pub accepted_number : (s : State) (c : Change) → refused s c ≡ None → s.number < s.limit
accepted_number s (Create dir name kind size time) h = grind (arith, nat_tests)
accepted_number s (Remove node) h = grind (arith, nat_tests)
accepted_number s (Move node dir name clobber) h = grind (arith, nat_tests)
accepted_number s (Write node size time) h = grind (arith, nat_tests)
accepted_number s (SetAttr node attr value) h = grind (arith, nat_tests)
accepted_number s (RemoveAttr node attr) h = grind (arith, nat_tests)

-- the nodes still rise without one
Rises-without : RecordsAreKept → (other : Option ℕ) (es : Entries) → Rises es
    → Rises (without other es)
Rises-without laws None es h = h
Rises-without laws (Some k) es h = laws.rise.filtered (λ e. not (eqb e.0 k)) es h

-- one more change, with a record under the next node
pub IsNumbered-create : RecordsAreKept → (s : State) (v : Record) → IsNumbered s
    → s.number < s.limit
    → IsNumbered (record {
      limit = s.limit;
      number = s.number + 1;
      next = s.next + 1;
      records = s.records ++ (s.next, v) ∷ [];
    })
IsNumbered-create laws s v n more = record {
  limit = n.limit;
  number = omega arith;
  next = omega (arith, n.next);
  few = omega (arith, n.few);
  rise = laws.rise.added s.records s.next v n.rise n.below;
  above = All-then (λ e. 2 ≤ e.0) (λ e. 2 ≤ e.0) s.records (s.next, v) (λ e le. le) n.above n.next;
  below = All-then (λ e. e.0 < s.next) (λ e. e.0 < s.next + 1) s.records (s.next, v)
      (λ e lt. omega arith) n.below (omega arith);
}

-- one more change, with records under nodes that were there
IsNumbered-with : (s : State) (es : Entries) → IsNumbered s → s.number < s.limit → Rises es
    → AllByRecursion (λ e. 2 ≤ e.0) es → AllByRecursion (λ e. e.0 < s.next) es
    → IsNumbered (with_records s es)
IsNumbered-with s es n more rise above below = record {
  limit = n.limit;
  number = omega arith;
  next = n.next;
  few = omega (arith, n.few);
  rise = rise;
  above = above;
  below = below;
}

-- one more change, with fewer records
pub IsNumbered-filter : RecordsAreKept → (s : State) (test : ℕ × Record → Bool) → IsNumbered s
    → s.number < s.limit → IsNumbered (with_records s (filter test s.records))
IsNumbered-filter laws s test n more =
    IsNumbered-with s (filter test s.records) n more (laws.rise.filtered test s.records n.rise)
    (All-filter (λ e. 2 ≤ e.0) test s.records n.above)
    (All-filter (λ e. e.0 < s.next) test s.records n.below)

-- one more change, with a record altered, and perhaps one node less
pub IsNumbered-altered : RecordsAreKept → (s : State) (other : Option ℕ) (node : ℕ)
    (f : Record → Record)
    → IsNumbered s → s.number < s.limit
    → IsNumbered (with_records s (altered node f (without other s.records)))
IsNumbered-altered laws s other node f n more =
    let es = without other s.records in
    IsNumbered-with s (altered node f es) n more
    (laws.rise.altered node f es (Rises-without laws other s.records n.rise))
    (All-kept (λ e. 2 ≤ e.0) node f es (λ e h. h)
    (All-without (λ e. 2 ≤ e.0) other s.records n.above))
    (All-kept (λ e. e.0 < s.next) node f es (λ e h. h)
    (All-without (λ e. e.0 < s.next) other s.records n.below))
