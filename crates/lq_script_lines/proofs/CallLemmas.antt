-- What a run has asked of its writer, put together.
use Rattle.std.proofs.Common.{◌≡◌, ℕ, zero, suc, ◌+◌, ◌++◌, List, [], ◌∷◌, true, false, None, Some, Option, Result, Ok, Err, IfErr, OnErr, OnOk, refl, sym, ap, ◌∙◌, arith, append_assoc, append-nil, inl, inr}
use Rattle.lq_script_lines.specs.Calls.{Adds, Call, CallsAfter, CallsOf, EndsIn, EndsInFlush, EndsInWrite, OnlyWrites, WritesAfter, WritesOf, Wrote, succeeded_writes}
use Rattle.lq_script_lines.specs.Faults.{is_write}
use Rattle.lq_script_lines.specs.declared.run_fault.RunFault.{RunFault}
use Rattle.lq_script_lines.specs.declared.run_fault.RunFault.TheVariants.{Limit, Memory, Read, Thread, Write}

Adds-nil : (a : Option (List Call)) → Adds a a []
Adds-nil None = tt
Adds-nil (Some x) = sym (append-nil x)

Adds-trans : (a b c : Option (List Call)) (xs ys : List Call) → Adds a b xs → Adds b c ys
    → Adds a c (xs ++ ys)
Adds-trans None b c xs ys p q = tt
Adds-trans (Some x) None c xs ys p q = absurd p
Adds-trans (Some x) (Some y) None xs ys p q = absurd q
Adds-trans (Some x) (Some y) (Some z) xs ys p q = q ∙ ap (λ l. l ++ ys) p ∙ append_assoc x xs ys

-- writes, and then more of them
writes_add : (m n : ℕ) → succeeded_writes m ++ succeeded_writes n ≡ succeeded_writes (m + n)
writes_add zero n = let same : n ≡ 0 + n = omega arith in ap succeeded_writes same
writes_add (suc m) n =
    let same : suc (m + n) ≡ suc m + n = omega arith in
    ap (λ l. Wrote true ∷ l) (writes_add m n) ∙ ap succeeded_writes same

-- no call
pub no_writes : (a : Option (List Call)) → OnlyWrites a a
no_writes a = (0, Adds-nil a)

module _ (a b c : Option (List Call)) (first : OnlyWrites a b) where
  -- writes, and then more of them
  pub writes_then : OnlyWrites b c → OnlyWrites a c
  writes_then more = (
    first.0 + more.0,
    rw (← writes_add first.0 more.0) (Adds-trans a b c _ _ first.1 more.1),
  )

  -- writes, and then one more
  pub writes_more : Adds b c (Wrote true ∷ []) → OnlyWrites a c
  writes_more one = writes_then (1, one)

  -- writes, and then one call
  pub writes_end : (last : Call) → Adds b c (last ∷ []) → EndsIn last a c
  writes_end last one = (first.0, Adds-trans a b c _ _ first.1 one)

  -- writes before those that end in a call
  pub writes_before : (last : Call) → EndsIn last b c → EndsIn last a c
  writes_before last more = (
    first.0 + more.0,
    rw (← writes_add first.0 more.0, append_assoc) (Adds-trans a b c _ _ first.1 more.1),
  )

  -- writes before a part of a run
  before_fault : (fault : RunFault) → WritesAfter fault b c → WritesAfter fault a c
  before_fault Read more = writes_then more
  before_fault Write more = (more.0, writes_before _ more.1)
  before_fault Limit more = writes_then more
  before_fault Memory more = writes_then more
  before_fault Thread more = writes_then more

  pub before_part : (r : Result (Unit {0}) RunFault) → WritesOf r b c → WritesOf r a c
  before_part (Ok done) more = writes_then more
  before_part (Err fault) more = before_fault fault more

  -- writes before the end of a run
  calls_fault : (fault : RunFault) → CallsAfter fault b c → CallsAfter fault a c
  calls_fault Read more = (more.0, writes_before _ more.1)
  calls_fault Write (inl more) = inl (more.0, writes_before _ more.1)
  calls_fault Write (inr more) = inr (writes_before _ more)
  calls_fault Limit more = (more.0, writes_before _ more.1)
  calls_fault Memory more = (more.0, writes_before _ more.1)
  calls_fault Thread more = (more.0, writes_before _ more.1)

  pub before_end : (r : Result (Unit {0}) RunFault) → CallsOf r b c → CallsOf r a c
  before_end (Ok done) more = writes_before _ more
  before_end (Err fault) more = calls_fault fault more

module _ (a b : Option (List Call)) where
  -- a part of a run whose only fault is Write
  pub part_of : (r : Result (Unit {0}) RunFault) → IfErr r (λ e. e ≡ Write)
      → OnOk r (OnlyWrites a b) → OnErr r (EndsInWrite a b) → WritesOf r a b
  part_of (Ok done) only all ends = all
  part_of (Err fault) only all ends = rw only ends

  -- before another fault each write succeeded
  pub other_writes : (fault : RunFault) → is_write fault ≡ false → WritesAfter fault a b
      → OnlyWrites a b
  other_writes Read other all = all
  other_writes Write other all = absurd (let no : true ≡ false = other in cc)
  other_writes Limit other all = all
  other_writes Memory other all = all
  other_writes Thread other all = all

  -- after it the flush is the last call
  pub other_ends : (fault : RunFault) → is_write fault ≡ false → EndsInFlush a b
      → CallsAfter fault a b
  other_ends Read other last = last
  other_ends Write other last = absurd (let no : true ≡ false = other in cc)
  other_ends Limit other last = last
  other_ends Memory other last = last
  other_ends Thread other last = last

-- the writer is at fault in Write alone
pub write_only : (fault : RunFault) → is_write fault ≡ true → fault ≡ Write
write_only Read is = absurd (let no : false ≡ true = is in cc)
write_only Write is = refl
write_only Limit is = absurd (let no : false ≡ true = is in cc)
write_only Memory is = absurd (let no : false ≡ true = is in cc)
write_only Thread is = absurd (let no : false ≡ true = is in cc)
