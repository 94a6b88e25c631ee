-- What one end of a port knows.
use Rattle.std.specs.Prelude.{ℕ, Bool, false, List, []}

-- `taken` was taken, `ahead` was put and isn't in `taken`. `puts` and `takes` say what the end may
-- do, and `room` how many items the port holds at most, as the end for puts knows. The other fields
-- count only while the two ends are joined: `whole` is all puts that the one end knew, `seen` all
-- puts that the other knew, and `told` the other's floor.
pub record Known (T F : Type 0) : Type 0 where
  pub puts : Bool
  pub takes : Bool
  pub room : ℕ
  pub floor : F
  pub taken : List T
  pub ahead : List T
  pub whole : List T
  pub seen : List T
  pub told : F

-- an end that may do nothing and knows of no item
abbrev pub nothing_known : {T F : Type 0} → F → Known T F
nothing_known floor =
    record {
      puts = false;
      takes = false;
      room = 0;
      floor = floor;
      taken = [];
      ahead = [];
      whole = [];
      seen = [];
      told = floor;
    }
