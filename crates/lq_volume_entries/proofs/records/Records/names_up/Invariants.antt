use Rattle.std.proofs.Common.{◌≡◌, ℕ, ◌+◌, length, true}
use Rattle.std.specs.Prelude.{reverse}
use Rattle.lq_volume_entries.specs.Folder.{Leads}
use Rattle.lq_volume_entries.specs.Record.{climbs, dir_of, root}
use Rattle.lq_volume_entries.proofs.records.Records.names_up.Given as goal

-- the names so far lead down again, and the steps that are left reach the root
abbrev pub invariant-loop : goal.invariant-loop
invariant-loop l =
    record {
      end : l.end ≡ length l.self;
      rest : (n : ℕ) → l.end ≡ l.counter + n → climbs n (dir_of l.self) root l.at ≡ true;
      so_far : Leads l.self l.at (reverse l.names.items) l.from;
    }
