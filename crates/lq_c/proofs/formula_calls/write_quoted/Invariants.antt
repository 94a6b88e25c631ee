use Rattle.std.proofs.Common.{◌≡◌, ◌+◌, drop, length, take}
use Rattle.lq_value.specs.declared.op.Op.TheVariants.{Eq}
use Rattle.lq_embed.specs.Quoting.{escaped_for, quoted_for}
use Rattle.lq_c.proofs.QuoteLemmas.{Written}
use Rattle.lq_c.proofs.formula_calls.write_quoted.Given as goal

abbrev pub invariant-loop-byte : goal.invariant-loop-byte
invariant-loop-byte l = record {
  room : l.at + length (escaped_for Eq (drop l.byte-index l.text)) + 1 ≡ length l.out;
  written : Written Eq l.text l.byte-index (take l.at l.out) (quoted_for Eq l.text);
}
