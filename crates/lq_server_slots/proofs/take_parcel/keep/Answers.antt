use Rattle.std.proofs.Common.{refl}
use Rattle.lq_server_slots.proofs.take_parcel.keep.Goals as goal

pub returns-in-Err-clause-err : goal.returns-in-Err-clause-err
returns-in-Err-clause-err c = (c.in-Err.ensures.err, refl)
