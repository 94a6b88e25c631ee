-- How a live query is opened without messages of values.
use Rattle.std.specs.Prelude.{ℕ, Bool, false}
use Rattle.lq_update.specs.declared.open_options.Flags.{Flags}
use Rattle.lq_update.specs.declared.open_options.OpenOptions.{OpenOptions}

-- moved messages or not, and no messages of values
abbrev pub no_values : Bool → Flags
no_values moved = record { moved = moved; values = false }

-- a port, a backlog, and these flags
abbrev pub options_of : ℕ → ℕ → Bool → OpenOptions
options_of port backlog moved =
    record { port = port; backlog = backlog; flags = no_values moved }
