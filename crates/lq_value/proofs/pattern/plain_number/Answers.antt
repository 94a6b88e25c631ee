use Rattle.std.proofs.Common.{◌∙◌, sym, ap}
use Rattle.lq_value.specs.Number.{decimal_number}
use Rattle.lq_value.proofs.FormLemmas.{number-plain}
use Rattle.lq_value.proofs.pattern.plain_number.Goals as goal

pub returns : goal.returns
returns c =
    c.number_of_bytes.ensures ∙ ap decimal_number c.as_bytes.ensures.value
    ∙ sym (number-plain c.args.plain.now c.utf8.plain)
