use Rattle.std.proofs.Common.{sym, subst}
use Rattle.lq_server_slots.specs.Hold.{ReaderHold}
use Rattle.lq_server_slots.specs.Own.{IsOwn}
use Rattle.lq_server.specs.Syncing.{IsSynced}
use Rattle.lq_server.specs.declared.server.Synced.{Synced}
use Rattle.lq_server.proofs.OwnLemmas.{hold}
use Rattle.lq_server.proofs.SyncLemmas.{w_is, synced}
use Rattle.lq_server.proofs.server.Server.sync.Goals as goal

pub returns : goal.returns
returns g c =
    let i = c.reader.inside in
    let old : ReaderHold = hold i.reading i.seat i.slot i.hang_up_asked in
    let own : IsOwn old = subst IsOwn (sym c.reader.view_is) c.requires.own in
    let told = c.update_facts.ensures in
    let p = c.sync-progress in
    let v = p.ensures.progress in
    let new : ReaderHold = record old { reading = p.new.reading; seat = p.new.seat } in
    let x : Synced = record {
      change = p.result.change;
      waiting = c.waiting.result;
      held = p.result.held;
      mark = p.result.mark;
    } in
    subst (λ (z : ReaderHold). IsSynced z new x) c.reader.view_is
    (synced v.0 old p.new.seat p.new.reading p.result v.1 told own x.waiting
    (w_is v.0 old p.new.seat p.new.reading p.result v.1 told own x.waiting c.waiting.ensures))
