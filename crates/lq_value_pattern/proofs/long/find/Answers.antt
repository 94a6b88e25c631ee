use Rattle.std.proofs.Common.{◌≡◌, length, false, arith, rules}
use Rattle.std.proofs.lemmas.Bool.Decides.{nat_tests}
use Rattle.lq_value_pattern.specs.Pattern.{is_fit, some_rest}
use Rattle.lq_value_pattern.proofs.SeekLemmas.{found_piece, nowhere_end}
use Rattle.lq_value_pattern.proofs.long.find.Goals as goal

pub returns-in_err-find_index : goal.returns-in_err-find_index
returns-in_err-find_index c =
    let es = c.args.start.elements.now in
    let cs = c.args.start.text.now in
    let none : length c.split_at_star-piece.result.after.now ≡ 0 = grind (arith, nat_tests) in
    let no : some_rest (is_fit es) cs ≡ false =
    nowhere_end es _ _ cs c.from_index-end.result.now c.split_at_star-piece.ensures none
    (omega arith) c.from_index-end.ensures c.in_err-find_index.ensures in
    search rules

pub returns : goal.returns
returns c =
    let some : length c.split_at_star-piece.result.after.now ≡ 0 → ⊥ = grind (arith, nat_tests) in
    found_piece _ _ _ c.args.start.text.now c.from_index-left.result.now c.in_ok-index.index
    c.split_at_star-piece.ensures some c.in_ok-index.ensures c.from_index-left.ensures
