-- The update list of a query, opaque where only its laws are used.
use Rattle.std.specs.Prelude.{ℕ, List}
use Rattle.lq_predicate.specs.Query.{Query}
use Rattle.lq_volume.specs.Book.{Book}
use Rattle.lq_update.specs.declared.open_options.Flags.{Flags}
use Rattle.lq_update.specs.declared.message.Message.{Message}
use Rattle.lq_update.specs.Updates.{updates_of}

-- the messages of the changes m + 1 to n of a book
unfoldable pub updates : Query → Flags → Book → ℕ → ℕ → List Message
updates q flags b m n = updates_of q flags b m n
