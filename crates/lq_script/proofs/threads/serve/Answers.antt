-- All changes are those of the one seat that was enlisted.
use Rattle.lq_script.proofs.ProgressLemmas.{tells_retired}
use Rattle.lq_script.proofs.threads.serve.Goals as goal

pub returns : goal.returns
returns g c = record {
  cause = c.serve_over-ran.ensures.cause;
  changes = tells_retired g.N.Named.start c.retire-retired.result.volume
      c.retire-retired.result.changes c.serve_over-ran.result.0 _ c.in-Ok.seat
      c.serve_over-ran.result.1 _ _ c.requires.start c.in-Ok.ensures.fresh
      c.serve_over-ran.ensures.made c.retire-retired.ensures.retired c.retire-retired.ensures.all;
}
