use Rattle.lq_value.specs.declared.op.Op.TheVariants.{Eq}
use Rattle.lq_c.proofs.QuoteLemmas.{written_first, written_last, written_room}
use Rattle.lq_c.proofs.formula_calls.write_quoted.Goals as goal

pub loop-byte-init : goal.loop-byte-init
loop-byte-init c = record {
  room = written_room Eq c.args.text.now c.args.out.now c.requires;
  written = written_first Eq c.args.text.now c.args.out.now c.requires;
}

pub returns : goal.returns
returns c = written_last Eq c.args.text.now _ c.loop-byte.out _ c.loop-byte.at
    c.loop-byte-test.false c.loop-byte.invariant.room c.loop-byte.invariant.written
