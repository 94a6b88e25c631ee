use Rattle.std.proofs.Common.{◌≡◌, length}
use Rattle.lq_embed.specs.SessionState.{holds, volume_in}
use Rattle.lq_embed.proofs.PathLemmas.{IsOnWay}
use Rattle.lq_embed.proofs.embedded.Embedded.find_path.Given as goal

abbrev pub invariant-loop-rest : goal.invariant-loop-rest
invariant-loop-rest l = record {
  stays : holds l.self ≡ holds l.initial.self;
  way : IsOnWay (volume_in (holds l.initial.self)).records l.dir l.path l.rest l.at;
}

abbrev pub decreases-loop-rest : goal.decreases-loop-rest
decreases-loop-rest l = length l.rest
