use Rattle.std.proofs.Common.{◌≡◌, ◌+◌, ◌-◌, ◌^◌, ◌≤◌, arith}
use Rattle.std.proofs.Math.Nat.{pow-le-pow_right}
use Rattle.std.proofs.lemmas.Nat.{pow-add}
use Rattle.lq_script_request.proofs.LexLemmas.{written-first, written-more}
use Rattle.lq_script_request.proofs.member.whole_at.Goals as goal

pub returns-then-number-eq0-clause-written : goal.returns-then-number-eq0-clause-written
returns-then-number-eq0-clause-written c =
    let d = c.in_ok-number.ensures in
    written-first c.args.bytes.now c.args.from c.in_ok-number.number d.small d.within d.value

pub digits-init : goal.digits-init
digits-init c =
    let d = c.in_ok-number.ensures in
    let one : c.args.from + 1 - c.args.from ≡ 1 = omega arith in
    record {
      written = written-first c.args.bytes.now c.args.from c.in_ok-number.number d.small d.within
          d.value;
      some = omega arith;
      small = rw one (omega (arith, d.small));
      after = omega arith;
      few = omega arith;
      within = omega (arith, d.within);
    }

pub overflow_mul-number : goal.overflow_mul-number
overflow_mul-number c =
    let l = c.digits in
    let most : 10 ^ (l.end - c.args.from) ≤ 10 ^ 18 =
    pow-le-pow_right (omega arith) l.invariant.few in
    omega (arith, l.invariant.small, most)

pub overflow_add-number : goal.overflow_add-number
overflow_add-number c =
    let l = c.digits in
    let most : 10 ^ (l.end - c.args.from) ≤ 10 ^ 18 =
    pow-le-pow_right (omega arith) l.invariant.few in
    omega (arith, l.invariant.small, most, c.in-Some.ensures.small)

pub digits-preserved : goal.digits-preserved
digits-preserved c =
    let l = c.digits in
    let d = c.in-Some.ensures in
    let most : 10 ^ (l.end - c.args.from) ≤ 10 ^ 18 =
    pow-le-pow_right (omega arith) l.invariant.few in
    let one : l.end + 1 - c.args.from ≡ (l.end - c.args.from) + 1 =
    omega (arith, l.invariant.after) in
    record {
      written = written-more c.args.bytes.now c.args.from l.end l.number c.in-Some.digit
          l.invariant.some (omega (arith, l.invariant.small, most, d.small)) d.small d.within
          d.value l.invariant.written;
      some = omega (arith, l.invariant.some);
      small = rw one
          (omega (arith, l.invariant.small, d.small, pow-add 10 (l.end - c.args.from) 1));
      after = omega (arith, l.invariant.after);
      few = omega (arith, l.invariant.few, l.invariant.after);
      within = omega (arith, d.within);
    }

pub returns-clause-small : goal.returns-clause-small
returns-clause-small c =
    let l = c.digits in
    let most : 10 ^ (l.end - c.args.from) ≤ 10 ^ 18 =
    pow-le-pow_right (omega arith) l.invariant.few in
    omega (arith, l.invariant.small, most)
