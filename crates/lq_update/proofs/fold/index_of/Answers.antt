use Rattle.std.proofs.Common.{rules}
use Rattle.std.proofs.lemmas.List.Sorted.{answers_always}
use Rattle.lq_update.proofs.PlaceLemmas.{searched, has_node-search}
use Rattle.lq_update.proofs.fold.index_of.Goals as goal

-- the closure gives an entry's node
pub returns : goal.returns
returns c =
    let facts = c.binary_search_by_key.ensures in
    let by_key =
    facts.position (λ e. e.node) (answers_always _ _ _ (λ f a r g called. search rules)) in
    let at = searched _ c.args.node c.requires _ facts.bound by_key in
    record {
      found = at.found;
      absent = at.absent;
      has = has_node-search _ c.args.node _ c.requires at.found at.absent;
    }
