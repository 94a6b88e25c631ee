-- What a run asks of its writer: writes, and one flush at the end.
use Rattle.std.specs.Prelude.{◌≡◌, ◌⊎◌, ℕ, zero, suc, List, [], ◌∷◌, ◌++◌, Bool, true, false, ⊤, Option, None, Some, Result, Ok, Err}
use Rattle.lq_script_lines.specs.declared.run_fault.RunFault.{RunFault}
use Rattle.lq_script_lines.specs.declared.run_fault.RunFault.TheVariants.{Limit, Memory, Read, Thread, Write}

-- a call of a writer, and whether it succeeded
pub data Call : Type 0 where
  Wrote : Bool → Call
  Flushed : Bool → Call

-- known calls grow by these
abbrev pub Adds : Option (List Call) → Option (List Call) → List Call → Type 0
Adds None new more = ⊤
Adds (Some calls) None more = ⊥
Adds (Some calls) (Some calls') more = calls' ≡ calls ++ more

-- this many writes that succeeded
abbrev pub succeeded_writes : ℕ → List Call
succeeded_writes zero = []
succeeded_writes (suc n) = Wrote true ∷ succeeded_writes n

-- only writes that succeeded
abbrev pub OnlyWrites : Option (List Call) → Option (List Call) → Type 0
OnlyWrites old new = (n : ℕ) × Adds old new (succeeded_writes n)

-- writes that succeeded, and then this call
abbrev pub EndsIn : Call → Option (List Call) → Option (List Call) → Type 0
EndsIn last old new = (n : ℕ) × Adds old new (succeeded_writes n ++ last ∷ [])

-- the last call is a write
abbrev pub EndsInWrite : Option (List Call) → Option (List Call) → Type 0
EndsInWrite old new = (succeeded : Bool) × EndsIn (Wrote succeeded) old new

-- the last call is a flush
abbrev pub EndsInFlush : Option (List Call) → Option (List Call) → Type 0
EndsInFlush old new = (succeeded : Bool) × EndsIn (Flushed succeeded) old new

-- What a part of a run asks, by its fault: only writes. All of them succeeded, but for the last one
-- where the fault is Write.
abbrev pub WritesAfter : RunFault → Option (List Call) → Option (List Call) → Type 0
WritesAfter Read old new = OnlyWrites old new
WritesAfter Write old new = EndsInWrite old new
WritesAfter Limit old new = OnlyWrites old new
WritesAfter Memory old new = OnlyWrites old new
WritesAfter Thread old new = OnlyWrites old new

-- what a part of a run asks, by its answer
abbrev pub WritesOf : Result (Unit {0}) RunFault → Option (List Call) → Option (List Call) → Type 0
WritesOf (Ok done) old new = OnlyWrites old new
WritesOf (Err fault) old new = WritesAfter fault old new

-- What a whole run asks, by its fault. After Write the last call is the one that failed: a write,
-- or the flush. After any other fault each write succeeded, and the last call is the flush, the
-- only one, which may have failed.
abbrev pub CallsAfter : RunFault → Option (List Call) → Option (List Call) → Type 0
CallsAfter Read old new = EndsInFlush old new
CallsAfter Write old new = EndsInWrite old new ⊎ EndsIn (Flushed false) old new
CallsAfter Limit old new = EndsInFlush old new
CallsAfter Memory old new = EndsInFlush old new
CallsAfter Thread old new = EndsInFlush old new

-- What a whole run asks, by its answer. Where it succeeded, each call did, and the flush came last.
abbrev pub CallsOf : Result (Unit {0}) RunFault → Option (List Call) → Option (List Call) → Type 0
CallsOf (Ok done) old new = EndsIn (Flushed true) old new
CallsOf (Err fault) old new = CallsAfter fault old new
