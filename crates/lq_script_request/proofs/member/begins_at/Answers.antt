use Rattle.std.proofs.Common.{◌∙◌, ap, sym, arith, drop, length-drop, take_all}
use Rattle.std.specs.Bool.{nat_eq}
use Rattle.std.specs.List.{starts_with}
use Rattle.lq_script_request.proofs.LexLemmas.{word-rest}
use Rattle.lq_script_request.proofs.member.begins_at.Goals as goal

pub returns-clause-text : goal.returns-clause-text
returns-clause-text c = λ is.
    let text = c.args.bytes.now in
    let whole = take_all _ (drop c.args.at text) (omega (arith, length-drop c.args.at text)) in
    word-rest text c.args.word.now c.args.at
    (ap (λ l. starts_with nat_eq l c.args.word.now) (sym whole)
    ∙ sym c.starts_with.ensures.value ∙ is)
