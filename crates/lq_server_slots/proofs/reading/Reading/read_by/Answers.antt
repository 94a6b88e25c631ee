use Rattle.std.proofs.Common.{◌≡◌, true≢false, None, sym, ap, ◌∙◌, arith}
use Rattle.std.specs.Prelude.{is_some}
use Rattle.lq_server_slots.proofs.ReadLemmas.{next_fits, next_reads, still_live, next_step, mark_then, took_next, took_mark, mark_step, ended_step, empty_step}
use Rattle.lq_server_slots.proofs.reading.Reading.read_by.Goals as goal

pub invariant_of-self-in-Fin : goal.invariant_of-self-in-Fin
invariant_of-self-in-Fin g c =
    let a = c.in-Some.ensures.take in
    let none : c.self.inside.hand ≡ None = grind arith in (
      took_mark _ c.self.invariant.0 none c.take_one.new.output c.in-Some.item a.port a.some
          a.legal c.in-Fin.mark c.in-Fin.is,
      ap is_some (sym (rw c.in-Fin.is at (mark_then _ c.self.invariant.0 none
          c.take_one.new.output c.in-Some.item a.port a.some a.legal))),
      rw a.port.2 c.self.invariant.2,
    )

pub keep-requires-clause-fits : goal.keep-requires-clause-fits
keep-requires-clause-fits g c =
    let a = c.in-Some.ensures.take in
    let none : c.self.inside.hand ≡ None = grind arith in
    next_fits _ _ _
    (took_next _ c.self.invariant.0 none c.take_one.new.output c.in-Some.item
    a.port a.some a.legal c.in-Update.message c.in-Update.is) c.rebuilds_take_all.ensures

pub invariant_of-self-in-Update : goal.invariant_of-self-in-Update
invariant_of-self-in-Update g c =
    let i = c.self.inside in
    let a = c.in-Some.ensures.take in
    let k = c.keep in
    let none : i.hand ≡ None = grind arith in
    let next = took_next _ c.self.invariant.0 none c.take_one.new.output c.in-Some.item a.port
    a.some a.legal c.in-Update.message c.in-Update.is in (
      next_reads _ _ _ next k.new.rebuild k.new.hand k.result k.ensures.ok k.ensures.err,
      c.self.invariant.1 ∙ still_live _ _ _ next,
      rw a.port.2 c.self.invariant.2,
    )

pub returns-then-is_some : goal.returns-then-is_some
returns-then-is_some g c = c.read_hand.ensures c.args.waits

pub returns-then-self : goal.returns-then-self
returns-then-self g c =
    rw (← c.self.view_is)
    (ended_step c.args.waits _ c.self.invariant.0 (sym c.self.invariant.1 ∙ c.if-self.true))

pub returns-in_default : goal.returns-in_default
returns-in_default g c =
    let a = c.in_default.ensures.take in
    let none : c.self.inside.hand ≡ None = grind arith in
    rw (← c.self.view_is, a.none)
    (empty_step c.args.waits _ c.self.invariant.0 none
    (sym c.self.invariant.1 ∙ c.if-self.false) a.empty
    (λ is. true≢false (sym (c.in_default.ensures.waits is))))

pub returns-in-Fin : goal.returns-in-Fin
returns-in-Fin g c =
    let a = c.in-Some.ensures.take in
    let none : c.self.inside.hand ≡ None = grind arith in
    rw (← c.self.view_is)
    (mark_step _ c.self.invariant.0 none c.take_one.new.output c.in-Some.item
    a.port a.some a.legal c.args.waits c.in-Fin.mark c.in-Fin.is)

pub returns-in-Update : goal.returns-in-Update
returns-in-Update g c =
    let a = c.in-Some.ensures.take in
    let k = c.keep in
    let none : c.self.inside.hand ≡ None = grind arith in
    rw (← c.self.view_is)
    (next_step _ _ _
    (took_next _ c.self.invariant.0 none c.take_one.new.output c.in-Some.item
    a.port a.some a.legal c.in-Update.message c.in-Update.is) c.args.waits k.new.rebuild
    k.new.hand k.result k.ensures.refused k.ensures.ok k.ensures.err k.ensures.read)
