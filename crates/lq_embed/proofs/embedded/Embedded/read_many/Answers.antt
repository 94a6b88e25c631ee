use Rattle.std.proofs.Common.{◌+◌, ap, arith, refl, inl, inr}
use Rattle.lq_embed.proofs.ReadLemmas.{err-none, ok-none, read-all, read-next, read-stop}
use Rattle.lq_embed.proofs.embedded.Embedded.read_many.Goals as goal

pub loop-message-preserved : goal.loop-message-preserved
loop-message-preserved c = record {
  count = ap (λ n. n + 1) c.loop-message.invariant.count;
  read = read-next _ c.read_one.new.out c.loop-message.invariant.read c.loop-message-test.true
      (omega (arith, c.loop-message-test.true, c.loop-message.auto.out)) refl c.in-Ok-true.field-0
      c.in-Ok-true.field-0-test c.in-Ok-true.ensures;
}

pub returns-in-Err : goal.returns-in-Err
returns-in-Err c = inr (read-stop _ c.loop-message.invariant.read c.loop-message-test.true
    (omega (arith, c.loop-message-test.true, c.loop-message.auto.out)) refl c.in-Err.ensures
    (err-none c.in-Err.refusal _ refl) c.status.ensures refl)

pub returns-in-Ok-false : goal.returns-in-Ok-false
returns-in-Ok-false c = inr (read-stop _ c.loop-message.invariant.read c.loop-message-test.true
    (omega (arith, c.loop-message-test.true, c.loop-message.auto.out)) refl c.in-Ok-false.ensures
    (ok-none c.in-Ok-false.field-0 _ refl c.in-Ok-false.field-0-test) refl
    c.loop-message.invariant.count)

pub returns-after-loop-message : goal.returns-after-loop-message
returns-after-loop-message c = inl (record {
  reads = read-all c.loop-message.invariant.read c.loop-message-test.false
      (omega (arith, c.loop-message-test.false, c.loop-message.auto.out));
  code = refl;
  count = omega (
    arith,
    c.loop-message.invariant.count,
    c.loop-message-test.false,
    c.loop-message.auto.message-index-end,
    c.loop-message.auto.out,
  );
})
