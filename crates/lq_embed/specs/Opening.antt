-- An opening by a caller's options.
use Rattle.std.specs.Prelude.{◌≡◌, ◌==◌, ◌&&◌, ℕ, Bool, Result, if◌then◌else◌}
use Rattle.lq_value.specs.declared.refusal.Refusal.{Refusal}
use Rattle.lq_predicate.specs.Stacked.{Stacked}
use Rattle.lq_update.specs.declared.open_options.OpenOptions.{OpenOptions as QueryOptions}
use Rattle.lq_script_request.specs.declared.request.Request.{Request}
use Rattle.lq_embed.specs.declared.out_structs.OpenOptions.{OpenOptions}
use Rattle.lq_embed.specs.declared.out_structs.OpeningOut.{OpeningOut}
use Rattle.lq_embed.specs.Calls.{Opens, forgotten}
use Rattle.lq_embed.specs.SessionState.{SessionState}

-- 0 stands for the largest
abbrev pub backlog_of : ℕ → ℕ
backlog_of backlog = if backlog == 0 then 65536 else backlog

-- what a caller's options ask of the core: a port of one place, the backlog that is meant, and the
-- flags
abbrev pub asked_options : OpenOptions → QueryOptions
asked_options options = record {
  port = 1;
  backlog = backlog_of options.backlog;
  flags = record { moved = options.moved; values = options.values };
}

-- the state after a slot was opened, with no rebuilt result there where none is wanted
abbrev pub kept_by : Bool → ℕ → ℕ → SessionState → SessionState
kept_by no_result status slot s =
    if no_result && status == 0 then forgotten s slot else s

-- an opening, after which the slot has a rebuilt result only where it is wanted
pub record OpensBy (old new : SessionState) (stack : Stacked) (options : OpenOptions)
    (q : Result Request Refusal) (status : ℕ) (before after : OpeningOut) : Type 0 where
  pub opened : SessionState
  pub opens : Opens old opened stack q status before after
  pub kept : new ≡ kept_by options.no_result status after.slot opened
