use Rattle.std.proofs.Common.{◌≡◌, ◌+◌, ◌++◌, length}
use Rattle.std.specs.Vec.Iter.{into_iter_items}
use Rattle.lq_update.specs.Updates.{numbered}
use Rattle.lq_tests.proofs.plain_step.number_all.Given as goal

-- the messages so far, with those of what is left
abbrev pub invariant-loop-op : goal.invariant-loop-op
invariant-loop-op l = record {
  can : (goal.iterator-loop-op).can_next l.op-iterator;
  finite : (goal.iterator-loop-op).is_finite l.op-iterator;
  all : l.messages.items ++ numbered (l.first_seq + length l.messages.items) l.change
      (into_iter_items l.op-iterator) ≡ numbered l.first_seq l.change l.fn.differences.items;
  count : length l.messages.items + length (into_iter_items l.op-iterator) ≡ l.count;
}
