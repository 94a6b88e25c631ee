use Rattle.std.proofs.Common.{◌≡◌, ◌≤◌, ◌∷◌, ◌++◌, ◌-◌, [], take, length, Some, rules}
use Rattle.std.specs.Prelude.{Ok}
use Rattle.lq_predicate.specs.declared.stack_item.StackItem.TheVariants.{Part}
use Rattle.lq_predicate.proofs.StackLemmas.{put_down, replaced_view}
use Rattle.lq_predicate.proofs.stack.Stack.put.Goals as goal

pub returns-clause-ok : goal.returns-clause-ok
returns-clause-ok c = λ after made.
    let inside = c.self.inside.items.items in
    let is : c.args.made ≡ Ok (Some c.in-Some.predicate) = search rules in
    let there : c.args.count ≤ length c.args.self.now.items = search rules in
    let new : c.push_reserved.new.self.items
    ≡ take (length inside - c.args.count) inside ++ Part c.in-Some.predicate ∷ [] = search rules in
    put_down c.args.self.now c.args.made c.in-Some.predicate c.args.count _ after is made
    (replaced_view c.args.self.now inside c.push_reserved.new.self.items c.self.inside.pushes
    c.args.count (Part c.in-Some.predicate) c.self.view_is c.requires.room there new)
