use Rattle.std.proofs.Common.{rules, ◌≡◌, subst, List, ℕ}
use Rattle.lq_script.specs.Written.{WritesOrFails}
use Rattle.lq_script.proofs.WrittenLemmas.{tells}
use Rattle.lq_script.proofs.commands.report.Goals as goal

pub returns : goal.returns
returns g c =
    let bytes : c.as_bytes.result.now ≡ c.args.line.now = search rules in
    subst (λ (line : List ℕ). WritesOrFails line (g.F.Sink.written c.args.faults.now)
    (g.F.Sink.written c.write_all.new.writer) (g.F.Sink.failed c.write_all.new.writer)
    (g.F.Sink.stalled c.write_all.new.writer)) bytes
    (tells c.write_all.result c.as_bytes.result.now _ _ _ _ c.write_all.ensures.ok
    c.write_all.ensures.err c.write_all.ensures.fails)
