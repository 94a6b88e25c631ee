use Rattle.std.proofs.lemmas.Bool.{lt-ltb}
use Rattle.lq_embed.proofs.PathLemmas.{finds-long}
use Rattle.lq_embed.proofs.embedded.Embedded.find_named.Goals as goal

pub returns-then-name-gt-MAX_NAME : goal.returns-then-name-gt-MAX_NAME
returns-then-name-gt-MAX_NAME c = finds-long c.args.dir c.args.name.now
    (lt-ltb 255 _ c.if-name-gt-MAX_NAME.true) c.status.ensures
