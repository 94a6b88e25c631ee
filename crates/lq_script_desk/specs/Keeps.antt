-- What a session of the code is in contracts.
use Rattle.std.specs.Prelude.{ℕ, None}
use Rattle.lq_script_desk.specs.Folds.{with_fold}
use Rattle.lq_script_desk.specs.Session as spec
use Rattle.lq_script_desk.specs.declared.session.Session.{Session}

-- the desk's world and the folds of the slots
abbrev pub keeps : Session → spec.Session
keeps s = spec.session_with s.desk s.rebuilds

-- the session with no fold at a slot
abbrev pub without_fold : spec.Session → ℕ → spec.Session
without_fold s slot = spec.session_with s.core (with_fold s.folds slot None)
