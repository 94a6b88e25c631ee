-- The name of a subscription, as contracts give it to the seat of its slot.
use Rattle.std.specs.Prelude.{ℕ, false}
use base.Stored.{Gv, gnil}
use Rattle.lq_predicate.specs.Query.{Query, And, no_more}
use Rattle.lq_update.specs.declared.open_options.Flags.{Flags}
use Rattle.lq_update.specs.Options.{no_values}
use Rattle.lq_server_slots.specs.declared.identity.FirstClose.{FirstClose}
use Rattle.lq_server_slots.specs.declared.identity.FirstClose.TheVariants.{Never}
use Rattle.lq_server_slots.specs.declared.identity.LastReport.{LastReport}
use Rattle.lq_server_slots.specs.declared.identity.LastReport.TheVariants.{Live}

-- The query and its flags; the number of changes at the opening; the number of places of the port,
-- the most messages that are held before it, and how often the slot's seats had asked at the
-- opening; what the reader was last told, what the first close answered, and which port it is.
pub record Identity : Type 0 where
  pub query : Query
  pub flags : Flags
  pub opened : ℕ
  pub places : ℕ
  pub backlog : ℕ
  pub asks : ℕ
  pub last_report : LastReport
  pub first_close : FirstClose
  pub port : Gv

-- a name for what has none
abbrev pub no_identity : Identity
no_identity =
    record {
      query = And no_more;
      flags = no_values false;
      opened = 0;
      places = 0;
      backlog = 0;
      asks = 0;
      last_report = Live 0 0;
      first_close = Never;
      port = gnil;
    }
