-- The seal and its parts own what a box at the same types owns.
use mir.Syntax.{impl, tnil, dnil}
use mathlib.Core.List.{[]}
use denote.Signature.{Slot, plain}
use Rattle.std_alloc.proofs.BoxSteps.Form.{Bx}
use Rattle.std_heap.specs.contracts.Global as Heap
use Rattle.std_heap.specs.contracts.GlobalAllocator.TheImpl.{ghosts, dict}
use Rattle.std_heap.proofs.Global.TheLaws as heap
use Rattle.lq_c.specs.contracts.handle_target.Served as Served
use Rattle.lq_c.proofs.handle_target.Served.TheLaws as served
use Rattle.lq_c.specs.contracts.handle.Lq as Lq

abbrev pub E : Bx
E = record {
  row = Served.the_row;
  laws = served.the_row_laws;
  al = record {
    row = Heap.the_row;
    laws = heap.the_row_laws;
    g = ghosts;
    d = dict;
    drops = impl [] tnil dnil;
  };
}

abbrev pub FromLq : Slot 0
FromLq = plain (λ _. Lq.the_row)
