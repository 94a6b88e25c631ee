use Rattle.std.proofs.Common.{suc, ◌-◌, ◌∷◌, ◌++◌, ◌∙◌, [], ℕ, List, ap, arith}
use Rattle.std.proofs.lemmas.Bool.{eqb-true}
use Rattle.lq_volume_entries.specs.Record.{root}
use Rattle.lq_volume_entries.proofs.Paths.{ends-at_root, reaches-on, Leads-up}
use Rattle.lq_volume_entries.proofs.records.Records.names_up.Goals as goal

pub returns-in-None-clause-names : goal.returns-in-None-clause-names
returns-in-None-clause-names c =
    let n = c.len-end.result - c.loop.counter in
    rw (← ends-at_root n c.args.self.now c.loop.at (c.loop.invariant.rest n (omega arith))
    c.in-None.ensures.record) c.loop.invariant.so_far

pub loop-preserved : goal.loop-preserved
loop-preserved c = record {
  end = c.loop.invariant.end;
  rest = λ n e. rw c.dir-at.ensures (reaches-on n c.args.self.now c.loop.at c.in-Some.record.now
      c.requires.no_root c.in-Some.ensures.record (c.loop.invariant.rest (suc n) (omega arith)));
  so_far =
      let items = c.in_ok-push-in-Some.ensures.items ∙ ap
      (λ (name : List ℕ). c.loop.names.items ++ name ∷ [])
      (c.in_ok-copy-in-Some.ensures.value ∙ c.name.ensures) in
      rw (c.dir-at.ensures, items) (Leads-up c.args.self.now c.loop.at c.args.from
      c.in-Some.record.now c.loop.names.items c.in-Some.ensures.rise c.requires
      c.in-Some.ensures.record c.loop.invariant.so_far);
}

pub returns-clause-names : goal.returns-clause-names
returns-clause-names c =
    rw (← eqb-true c.loop.at root (c.loop.invariant.rest 0 (omega arith))) c.loop.invariant.so_far
