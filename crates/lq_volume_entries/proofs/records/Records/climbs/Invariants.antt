use Rattle.std.proofs.Common.{◌≡◌, ℕ, ◌+◌, length}
use Rattle.lq_volume_entries.specs.Record.{climbs, dir_of}
use Rattle.lq_volume_entries.proofs.records.Records.climbs.Given as goal

-- the rest of the walk, with the steps that are left
abbrev pub invariant-loop : goal.invariant-loop
invariant-loop l =
    record {
      end : l.end ≡ length l.self;
      rest : (n : ℕ) → l.end ≡ l.counter + n → climbs n (dir_of l.self) l.to l.at
          ≡ climbs (length l.self) (dir_of l.self) l.to l.from;
    }
