use Rattle.std.proofs.Common.{inr, refl, ap, sym, arith, rules, length, length-append}
use Rattle.lq_board.specs.Token.{KeeperToken}
use Rattle.lq_server_slots.specs.declared.identity.Identity.{Identity}
use Rattle.lq_server_slots.proofs.PutLemmas.{may_put, put_ok, none_out, none_next, back_out, alike_held}
use Rattle.lq_server_slots.proofs.TurnLemmas.{gained_none, gained_one}
use Rattle.lq_server_slots.proofs.fill_port.put_one.Goals as goal

pub put-requires : goal.put-requires
put-requires g c = record {
  follows = may_put _ _ _ _ _ _ c.requires c.in-Some.what _ (sym c.in-Some.ensures.value) refl
      (ap (λ (k : KeeperToken Identity). k.book) c.of.ensures);
}

pub returns-in-Ok-clause-stands : goal.returns-in-Ok-clause-stands
returns-in-Ok-clause-stands g c =
    (put_ok c.args.slot.now c.next.new.self c.put.new.self c.in-Some.what
    (record { what = c.in-Some.what; book = c.of.result }) _ c.requires
    (sym c.in-Some.ensures.value) c.next.ensures.rest refl
    (ap (λ (k : KeeperToken Identity). k.book) c.of.ensures) c.put.ensures.port
    c.in-Ok.ensures.ok).stands

pub returns-in-Ok-clause-alike : goal.returns-in-Ok-clause-alike
returns-in-Ok-clause-alike g c =
    (put_ok c.args.slot.now c.next.new.self c.put.new.self c.in-Some.what
    (record { what = c.in-Some.what; book = c.of.result }) _ c.requires
    (sym c.in-Some.ensures.value) c.next.ensures.rest refl
    (ap (λ (k : KeeperToken Identity). k.book) c.of.ensures) c.put.ensures.port
    c.in-Ok.ensures.ok).alike

pub returns-in-Ok-clause-moved : goal.returns-in-Ok-clause-moved
returns-in-Ok-clause-moved g c =
    (put_ok c.args.slot.now c.next.new.self c.put.new.self c.in-Some.what
    (record { what = c.in-Some.what; book = c.of.result }) _ c.requires
    (sym c.in-Some.ensures.value) c.next.ensures.rest refl
    (ap (λ (k : KeeperToken Identity). k.book) c.of.ensures) c.put.ensures.port
    c.in-Ok.ensures.ok).less

pub returns-in_default-clause-stands : goal.returns-in_default-clause-stands
returns-in_default-clause-stands g c = search (rules, arith, none_out)

pub returns-in_default-clause-alike : goal.returns-in_default-clause-alike
returns-in_default-clause-alike g c = search (rules, arith, alike_held, none_out)

pub returns-in_default-clause-moved : goal.returns-in_default-clause-moved
returns-in_default-clause-moved g c = search (rules, arith, none_next, none_out) steps 1000000

pub returns-in-Err-clause-stands : goal.returns-in-Err-clause-stands
returns-in-Err-clause-stands g c = search (rules, arith, back_out)

pub returns-in-Err-clause-alike : goal.returns-in-Err-clause-alike
returns-in-Err-clause-alike g c = search (rules, arith, alike_held, back_out)

pub returns-in-Err-clause-moved : goal.returns-in-Err-clause-moved
returns-in-Err-clause-moved g c =
    let same = c.in-Err.ensures.err in
    (same, inr (rw same (omega (arith, c.in-Err.ensures.full, c.requires.port))))

pub returns-in-Ok-clause-taken : goal.returns-in-Ok-clause-taken
returns-in-Ok-clause-taken g c =
    let before = c.in-Ok.ensures.ok.taken in
    omega (arith, ap length before.1, length-append c.args.slot.now.input.taken before.0)

pub returns-in-Ok-clause-gained : goal.returns-in-Ok-clause-gained
returns-in-Ok-clause-gained g c = gained_one _ _ _ c.in-Ok.ensures.ok

pub returns-in_default-clause-gained : goal.returns-in_default-clause-gained
returns-in_default-clause-gained g c = gained_none _ _ refl

pub returns-in-Err-clause-gained : goal.returns-in-Err-clause-gained
returns-in-Err-clause-gained g c = gained_none _ _ c.in-Err.ensures.err
