use Rattle.std.proofs.Common.{◌≡◌, Err, rules, refl, ◌++◌, ◌∷◌, append_assoc}
use Rattle.std.proofs.lemmas.Result.{on_err_weaker, on_ok_weaker}
use Rattle.lq_script_lines.proofs.CallLemmas.{no_writes, part_of}
use Rattle.lq_script_lines.proofs.ProgressLemmas.{fronts_handed, stands_fronts, stands_handed, stands_line}
use Rattle.lq_script_lines.proofs.input_pieces.end_line.Goals as goal

pub returns-then-len-lt-GATHERED-clause-ok : goal.returns-then-len-lt-GATHERED-clause-ok
returns-then-len-lt-GATHERED-clause-ok g c = λ began given s.
    let known = c.in_ok-end_line.ensures in
    stands_line s c.args.run.now c.requires.unbroken (known.ok given s.come)
    (known.after given s.come) (known.come given s.come)

pub returns-in_err-end_line-clause-err : goal.returns-in_err-end_line-clause-err
returns-in_err-end_line-clause-err g c =
    let is : c.from_residual.result ≡ Err c.in_err-end_line.field-0.0 = search rules in
    rw (is, c.in_err-end_line.ensures.err)
    (λ rest began given s. stands_fronts s (c.args.run.now ++ 10 ∷ rest) refl)

pub returns-clause-ok : goal.returns-clause-ok
returns-clause-ok g c = on_ok_weaker c.write_replies.result (λ written. λ began given s.
    let known = c.in_ok-end_line.ensures in
    stands_handed (stands_line s c.args.run.now c.requires.unbroken (known.ok given s.come)
    (known.after given s.come) (known.come given s.come)) written c.write_replies.ensures.empty)
    c.write_replies.ensures.ok

pub returns-clause-err : goal.returns-clause-err
returns-clause-err g c = on_err_weaker c.write_replies.result (λ part. λ rest began given s.
    let known = c.in_ok-end_line.ensures in
    rw c.write_replies.ensures.empty (fronts_handed (stands_fronts (stands_line s
    c.args.run.now c.requires.unbroken (known.ok given s.come) (known.after given s.come)
    (known.come given s.come))
    rest (simp append_assoc)) part))
    c.write_replies.ensures.err

pub returns-then-len-lt-GATHERED-clause-calls : goal.returns-then-len-lt-GATHERED-clause-calls
returns-then-len-lt-GATHERED-clause-calls g c = no_writes _

pub returns-in_err-end_line-clause-calls : goal.returns-in_err-end_line-clause-calls
returns-in_err-end_line-clause-calls g c =
    let is : c.from_residual.result ≡ Err c.in_err-end_line.field-0.0 = search rules in
    rw (is, c.in_err-end_line.ensures.memory) (no_writes _)

pub returns-clause-calls : goal.returns-clause-calls
returns-clause-calls g c = let wrote = c.write_replies.ensures in
    part_of _ _ c.write_replies.result wrote.fault wrote.writes wrote.ends
