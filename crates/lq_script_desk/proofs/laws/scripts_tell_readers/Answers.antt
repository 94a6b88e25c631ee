use Rattle.lq_script_desk.specs.Folds.{after_message}
use Rattle.lq_script_desk.proofs.TakenLemmas.{fold-goes}
use Rattle.lq_script_desk.proofs.TellLemmas.{script}
use Rattle.lq_script_desk.proofs.laws.scripts_tell_readers.Goals as goal

pub returns : goal.returns
returns c =
    script c.readers_are_told.ensures c.rebuilds_take_all.ensures c.foldings_follow.ensures
    (λ slot m. fold-goes slot (after_message m))
