use Rattle.std.proofs.Common.{◌==◌}
use Rattle.lq_value_pattern.proofs.MaskLemmas.{any_taken, marked_taken}
use Rattle.lq_value_pattern.proofs.build_masks.put_element.Goals as goal

pub returns-in-Any : goal.returns-in-Any
returns-in-Any c =
    rw c.in-Any.is (any_taken c.args.j c.args.chars.now c.args.masks.now c.flip.new.masks
    c.requires.same c.requires.off c.flip.ensures)

pub returns-in-Plain : goal.returns-in-Plain
returns-in-Plain c =
    rw c.in-Plain.is (marked_taken (λ d. c.in-Plain.c == d) c.args.j c.args.chars.now
    c.args.masks.now c.put_char.new.masks c.requires.same c.requires.off c.put_char.ensures)
