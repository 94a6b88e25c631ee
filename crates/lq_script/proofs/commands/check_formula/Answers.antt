use Rattle.lq_script.proofs.commands.check_formula.Goals as goal

pub returns-in-Err-BadQuery-clause-refused : goal.returns-in-Err-BadQuery-clause-refused
returns-in-Err-BadQuery-clause-refused g c = λ two. (
  c.in-Err-BadQuery.place,
  (
    c.in-Err-BadQuery.ensures.fault c.in-Err-BadQuery.place c.in-Err-BadQuery.field-0-is,
    c.report_refusal.ensures.reported two,
  ),
)
