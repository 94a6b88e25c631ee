use Rattle.std.proofs.Common.{◌≡◌, ◌++◌, []}
use Rattle.std.specs.Vec.Iter.{into_iter_items}
use Rattle.lq_volume.specs.Restore.{first_fault, attr_faults}
use Rattle.lq_volume.specs.State.{Record}
use Rattle.lq_volume.proofs.restoring.stored_of.Given as goal

-- the record has the attributes so far, and those that are left decide
abbrev pub invariant-loop-attr : goal.invariant-loop-attr
invariant-loop-attr l =
    record {
      shown : ◌≡◌ {A = Record} l.stored (record {
        dir = l.fn.listing.dir;
        name = l.fn.listing.name;
        kind = l.fn.listing.kind;
        size = l.fn.listing.size;
        time = l.fn.listing.time;
        attrs = l.stored.attrs;
      });
      all : l.stored.attrs ++ into_iter_items l.attr-iterator ≡ l.fn.listing.attrs.items;
      left : first_fault (attr_faults l.stored.attrs (into_iter_items l.attr-iterator))
          ≡ first_fault (attr_faults [] l.fn.listing.attrs.items);
    }
