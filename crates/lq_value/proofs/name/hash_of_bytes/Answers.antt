use Rattle.std.proofs.Common.{refl, sym, ◌∙◌, arith}
use Rattle.std.proofs.lemmas.List.{at_drop_more, at_drop_all}
use Rattle.lq_value.specs.NameHash.{hash_of, hash_after}
use Rattle.lq_value.proofs.name.hash_of_bytes.Goals as goal

pub loop-byte-init : goal.loop-byte-init
unfolding hash_of
loop-byte-init c = record { hash = refl }

pub loop-byte-preserved : goal.loop-byte-preserved
unfolding hash_after
loop-byte-preserved c =
    let bytes = c.args.bytes.now in
    let more = at_drop_more (hash_after c.loop-byte.hash) bytes c.loop-byte.byte-index 0
    c.loop-byte-test.true in
    record { hash = sym more ∙ c.loop-byte.invariant.hash }

pub returns : goal.returns
unfolding hash_after
returns c =
    let all = at_drop_all (hash_after c.loop-byte.hash) c.args.bytes.now c.loop-byte.byte-index
    (grind (arith)) in
    sym all ∙ c.loop-byte.invariant.hash
