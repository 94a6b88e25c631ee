use Rattle.std.proofs.Common.{◌≡◌, ◌∙◌, refl, Some, None}
use Rattle.std.proofs.lemmas.List.{set-set}
use Rattle.lq_desk.specs.Act.{act_of, left_by}
use Rattle.lq_desk.specs.Reply.{answer_of}
use Rattle.lq_desk.specs.Slot.{KeptSlot}
use Rattle.lq_desk.specs.declared.reply.Reply.{Reply}
use Rattle.lq_desk.specs.declared.reply.Reply.TheVariants as reply
use Rattle.lq_desk_sub.specs.declared.read.Read.TheVariants as read
use Rattle.lq_desk.proofs.FewLemmas.{few-at}
use Rattle.lq_desk.proofs.MarkLemmas.{places-done}
use Rattle.lq_desk.proofs.PutLemmas.{act-keeps}
use Rattle.lq_desk.proofs.SlotsLemmas.{done-at, refused-at, refused-past}
use Rattle.lq_desk.proofs.desk_slots.Slots.act.Goals as goal
use Rattle.lq_desk.proofs.desk_slots.Slots.act.Goals.{in-None-1, in-Some-1}

-- each other answer leaves the slot taken
left-some : (r : Reply) (k : KeptSlot) → (r ≡ reply.Finished → ⊥) → left_by (answer_of r) k ≡ Some k
left-some (reply.Changed applied) k other = refl
left-some (reply.Opened slot at result) k other = refl
left-some (reply.Moved was) k other = refl
left-some (reply.Took (read.Update message)) k other = refl
left-some (reply.Took (read.Fin mark)) k other = refl
left-some (reply.Took read.Empty) k other = refl
left-some (reply.Took read.Ended) k other = refl
left-some reply.Asked k other = refl
left-some (reply.Noticed was) k other = refl
left-some (reply.Shut change) k other = refl
left-some reply.Finished k other = absurd (other refl)
left-some (reply.Refused refusal) k other = refl

pub returns-in_default : goal.returns-in_default
returns-in_default c = rw (← c.self.view_is)
    (refused-past (act_of c.args.number c.args.act) _ c.args.slot c.self.invariant.wide
    c.in_default.ensures)

pub returns-in_default-get_mut : goal.returns-in_default-get_mut
returns-in_default-get_mut c = refused-at (act_of c.args.number c.args.act) c.self.inside.table _
    c.args.slot c.in-Some.index.index c.self.view_is c.in-Some.ensures
    c.in_default-get_mut.ensures.value

pub act-reply-requires : goal.act-reply-requires
act-reply-requires c = few-at c.self.inside.table _ c.in-Some.index.index _ c.self.view_is
    c.in-Some-get_mut.ensures.value c.requires

pub invariant_of-self-in-Finished : goal.invariant_of-self-in-Finished
invariant_of-self-in-Finished c =
    rw (
      c.remove.ensures.table,
      set-set c.self.inside.table c.in-Some.index.index (Some c.act-reply.new.self) None,
    )
    (places-done (act_of c.args.number c.args.act) (act-keeps c.args.number c.args.act)
    c.self.inside.ending.word c.self.inside.movable.word _ _ c.self.inside.watch
    c.self.inside.table c.in-Some.index.index _ None _ c.in-Some-get_mut.ensures.value
    (rw c.in-Finished.is at c.act-reply.ensures)
    c.put.ensures.others (λ is _. cc) c.put-2.ensures.others (λ is _. cc) c.self.invariant)

pub invariant_of-self-in-Finished-2 : goal.invariant_of-self-in-Finished-2
invariant_of-self-in-Finished-2 c =
    rw (
      c.remove.ensures.table,
      set-set c.self.inside.table c.in-Some.index.index (Some c.act-reply.new.self) None,
    )
    (places-done (act_of c.args.number c.args.act) (act-keeps c.args.number c.args.act)
    c.self.inside.ending.word c.self.inside.movable.word _ _ c.self.inside.watch
    c.self.inside.table c.in-Some.index.index _ None _ c.in-Some-get_mut.ensures.value
    (rw c.in-Finished.is at c.act-reply.ensures)
    c.put.ensures.others (λ is _. cc) c.put-2.ensures.others (λ is _. cc) c.self.invariant)

pub invariant_of-self-in_default-reply : goal.invariant_of-self-in_default-reply
invariant_of-self-in_default-reply c =
    places-done (act_of c.args.number c.args.act) (act-keeps c.args.number c.args.act)
    c.self.inside.ending.word c.self.inside.movable.word _ _ c.self.inside.watch
    c.self.inside.table c.in-Some.index.index _ (Some c.act-reply.new.self) _
    c.in-Some-get_mut.ensures.value
    (rw (left-some c.act-reply.result _ c.in_default-reply.not-Finished) at c.act-reply.ensures)
    c.put.ensures.others (λ is _. c.put.ensures.here ∙ (c.is_ending.ensures ∙ is))
    c.put-2.ensures.others (λ is _. c.put-2.ensures.here ∙ (c.can_move.ensures ∙ is))
    c.self.invariant

pub returns-in-Finished : goal.returns-in-Finished
returns-in-Finished c =
    let same : c.match-remove.self ≡ c.remove.new.self = elim c.match-remove.branch [
      | in-Some-1 w ↦ w.self-is
      | in-None-1 w ↦ w.self-is
    ] in
    rw (
      c.in-Finished.is,
      same,
      c.remove.ensures.table,
      set-set c.self.inside.table c.in-Some.index.index (Some c.act-reply.new.self) None,
    )
    (done-at (act_of c.args.number c.args.act) c.self.inside.table _ c.args.slot
    c.in-Some.index.index _ None _ c.self.view_is c.in-Some.ensures
    c.in-Some-get_mut.ensures.value
    (rw c.in-Finished.is at c.act-reply.ensures))

pub returns-in_default-reply : goal.returns-in_default-reply
returns-in_default-reply c = done-at (act_of c.args.number c.args.act) c.self.inside.table _
    c.args.slot c.in-Some.index.index _ (Some c.act-reply.new.self) _ c.self.view_is
    c.in-Some.ensures c.in-Some-get_mut.ensures.value
    (rw (left-some c.act-reply.result _ c.in_default-reply.not-Finished) at c.act-reply.ensures)
