use Rattle.std.proofs.Common.{◌∙◌, refl, sym, true, false, None, Some}
use Rattle.std.proofs.lemmas.Result.{on_ok_weaker, on_err_weaker}
use Rattle.lq_volume_entries.proofs.Puts.{goes-is, puts-first, puts-back, puts-other, same-twice}
use Rattle.lq_volume_entries.proofs.places.Places.put.Goals as goal

pub returns-in-None-clause-ok : goal.returns-in-None-clause-ok
returns-in-None-clause-ok c =
    puts-first _ _ _ c.args.dir _ c.args.name.now c.args.node c.args.over None
    c.in_ok-open_folder.ensures.same c.hash-hash.ensures
    (sym c.in-None.is ∙ c.in_ok-put_first.ensures.there) refl c.in_ok-put_first.ensures.ok

pub returns-in-Some-clause-ok : goal.returns-in-Some-clause-ok
returns-in-Some-clause-ok c =
    puts-first _ _ _ c.args.dir _ c.args.name.now c.args.node c.args.over (Some c.in-Some.there)
    c.in_ok-open_folder.ensures.same c.hash-hash.ensures
    (sym c.in-Some.is ∙ c.in_ok-put_first.ensures.there)
    (goes-is c.args.over c.in-Some.there true (sym c.eq.ensures ∙ c.if-eq.true))
    c.in_ok-put_first.ensures.ok

pub returns-in_ok-copy-in-Some-2-clause-ok : goal.returns-in_ok-copy-in-Some-2-clause-ok
returns-in_ok-copy-in-Some-2-clause-ok c =
    let same = c.in_ok-open_folder.ensures.same in
    let there = sym c.in-Some.is ∙ c.in_ok-put_first.ensures.there in
    let back = puts-back _ _ _ _ _ _ _ _ same there c.in_ok-put_first.ensures.ok
    c.put_back.ensures in
    on_ok_weaker c.put_other.result (λ put. puts-other _ _ _ c.args.dir _ c.args.name.now
    c.args.node c.args.over (Some c.in-Some.there) back c.hash-hash.ensures
    (there ∙ same.first _ _)
    (goes-is c.args.over c.in-Some.there false (sym c.eq.ensures ∙ c.if-eq.false))
    (rw (← c.in_ok-copy-in-Some-2.ensures.value) put)) c.put_other.ensures.ok

pub returns-in_ok-copy-in-Some-2-clause-err : goal.returns-in_ok-copy-in-Some-2-clause-err
returns-in_ok-copy-in-Some-2-clause-err c =
    let there = sym c.in-Some.is ∙ c.in_ok-put_first.ensures.there in
    let back = puts-back _ _ _ _ _ _ _ _ c.in_ok-open_folder.ensures.same there
    c.in_ok-put_first.ensures.ok c.put_back.ensures in
    on_err_weaker c.put_other.result (λ same. same-twice _ _ _ back same) c.put_other.ensures.err
