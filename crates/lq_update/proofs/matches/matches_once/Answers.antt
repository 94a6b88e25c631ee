use Rattle.std.proofs.Common.{◌≡◌, ◌∙◌, ap, sym}
use Rattle.lq_volume.specs.Change.{node_of}
use Rattle.lq_volume.specs.State.{record_at}
use Rattle.lq_update.specs.Touched.{is_match}
use Rattle.lq_update.proofs.matches.matches_once.Goals as goal

pub invariant_of-result : goal.invariant_of-result
invariant_of-result c =
    let s = c.args.planned.now.before in
    let change = c.args.planned.now.change in
    let before : c.is_matched-matches.result
    ≡ is_match c.args.predicate.now (record_at s (node_of s change)) =
    c.is_matched-matches.ensures ∙ ap (is_match c.args.predicate.now) c.entry_before.ensures in
    record {
      asked_before = before;
      asked_after = before ∙ sym (c.quiet_changes_keep_matches.ensures c.args.predicate.now s change
          0 (node_of s change) c.applied.ensures.volume c.applied.ensures.lawful
          (c.requires.quiet 0));
    }
