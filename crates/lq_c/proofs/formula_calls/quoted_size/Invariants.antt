use Rattle.std.proofs.Common.{◌≡◌, ◌+◌, ◌≤◌, drop, length}
use Rattle.lq_value.specs.declared.op.Op.TheVariants.{Eq}
use Rattle.lq_embed.specs.Quoting.{escaped_for, quoted_for}
use Rattle.lq_c.proofs.formula_calls.quoted_size.Given as goal

abbrev pub invariant-loop-byte : goal.invariant-loop-byte
invariant-loop-byte l = record {
  small : l.size ≤ length l.text + 2 + l.byte-index;
  rest : l.size + length (escaped_for Eq (drop l.byte-index l.text)) + l.byte-index
      ≡ length (quoted_for Eq l.text) + length l.text;
}
