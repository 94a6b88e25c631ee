use Rattle.std.proofs.lemmas.Str.Pattern.{starts_text}
use Rattle.lq_value_pattern.proofs.starred.begins.Goals as goal

pub returns-in_default : goal.returns-in_default
returns-in_default c =
    starts_text c.starts_with.result c.args.plain.now c.args.text.now c.starts_with.ensures.cases
