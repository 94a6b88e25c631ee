-- The request of each request, as the function that reads its values says it.
use Rattle.std.proofs.Common.{refl}
use Rattle.lq_script_request.proofs.parse_line.read_request.Goals as goal

pub returns-in-Remove : goal.returns-in-Remove
returns-in-Remove c = rw c.in-Remove.is (record { value = refl; refused = tt })

pub returns-in-Move : goal.returns-in-Move
returns-in-Move c = rw c.in-Move.is c.moving.ensures

pub returns-in-Set : goal.returns-in-Set
returns-in-Set c = rw c.in-Set.is c.setting.ensures

pub returns-in-Unset : goal.returns-in-Unset
returns-in-Unset c = rw c.in-Unset.is c.unsetting.ensures

pub returns-in-Open : goal.returns-in-Open
returns-in-Open c = rw c.in-Open.is c.opening.ensures

pub returns-in-Find : goal.returns-in-Find
returns-in-Find c = rw c.in-Find.is c.finding.ensures

pub returns-in-Entry : goal.returns-in-Entry
returns-in-Entry c = rw c.in-Entry.is (record { value = refl; refused = tt })

pub returns-in-Fetch : goal.returns-in-Fetch
returns-in-Fetch c = rw c.in-Fetch.is c.fetching.ensures

pub returns-in-Rebuilt : goal.returns-in-Rebuilt
returns-in-Rebuilt c = rw c.in-Rebuilt.is (record { value = refl; refused = tt })
