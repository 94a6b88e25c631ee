use Rattle.std.proofs.Common.{true}
use Rattle.std.specs.Prelude.{not, ◌||◌}
use Rattle.lq_predicate.specs.Names.{names_of}
use Rattle.lq_predicate.specs.Needs.{needs_attribute}
use Rattle.lq_desk_sub.specs.Passing.{are_written}
use Rattle.lq_desk_sub.proofs.WatchLemmas.{AreSet, IsPut}
use Rattle.lq_desk_sub.proofs.watch.Watch.set.Given as goal

abbrev pub invariant-loop-ending : goal.invariant-loop-ending
invariant-loop-ending l = record {
  all : IsPut l.fn.self.all l.slot.index true l.self.all;
  creates : IsPut l.fn.self.creates l.slot.index (not (needs_attribute l.sub.held.query))
      l.self.creates;
  writes : IsPut l.fn.self.writes l.slot.index
      (l.sub.held.flags.values || are_written (names_of l.sub.held.query)) l.self.writes;
  attrs : AreSet (names_of l.sub.held.query) l.sub.held.flags.values l.slot.index l.ending
      l.fn.self.attrs l.self.attrs;
}
