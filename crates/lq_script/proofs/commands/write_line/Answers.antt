use Rattle.std.proofs.Common.{rules, ◌≡◌, subst, List, ℕ}
use Rattle.lq_script.specs.Written.{WritesFront}
use Rattle.lq_script.proofs.ChangeLemmas.{on_err_any}
use Rattle.lq_script.proofs.WrittenLemmas.{writes_part}
use Rattle.lq_script.proofs.commands.write_line.Goals as goal

pub returns-in_err-write_all-clause-err : goal.returns-in_err-write_all-clause-err
returns-in_err-write_all-clause-err g c =
    let bytes : c.as_bytes.result.now ≡ c.args.line.now = search rules in
    on_err_any c.from_residual.result
    (subst (λ (line : List ℕ). WritesFront line (g.W.Sink.written c.args.writer.now)
    (g.W.Sink.written c.write_all.new.writer)) bytes
    (writes_part c.as_bytes.result.now _ _ c.in_err-write_all.ensures.err))
