use Rattle.std.proofs.Common.{◌≡◌, Some, None, Option, refl, ap, inl, inr}
use Rattle.std.specs.Prelude.{unwrap_or, ℕ}
use Rattle.lq_value.specs.declared.refusal.Refusal.{Refusal}
use Rattle.lq_value.specs.declared.refusal.Refusal.TheVariants.{NoMemory}
use Rattle.lq_volume.specs.declared.change.Change.{Change as Change_}
use Rattle.lq_volume.specs.Change.{refused}
use Rattle.lq_desk_world.specs.declared.event.Act.{Act}
use Rattle.lq_desk_world.specs.declared.event.Event.{Event}
use Rattle.lq_desk_world.specs.declared.event.Act.TheVariants as act
use Rattle.lq_desk_world.specs.declared.event.Event.TheVariants as event
use Rattle.lq_desk_world.specs.declared.event.Event.TheVariants.{Change}
use Rattle.lq_desk_world.specs.Events.{Answer, Refused}
use Rattle.lq_desk.specs.Act.{act_of}
use Rattle.lq_desk.specs.DeskState.{DeskState, KeptStep, change_if, kept_act, kept_outcome}
use Rattle.lq_desk.proofs.Desks.{IsKept-at, at-view, few-desk}
use Rattle.lq_desk.proofs.PutLemmas.{act-keeps}
use Rattle.lq_desk.proofs.engine.Engine.answer_event.Goals as goal
use Rattle.lq_desk.proofs.engine.Engine.answer_event.Goals.{in-Put, in-Take, in-HangUp, in-Notice, in-Close, in-Finish}

-- a change that is refused leaves what is kept
refused_step : (k l : DeskState) (c : Change_) (o : Option Refusal) (r : Refusal)
    → refused k.volume c ≡ o → r ≡ unwrap_or o NoMemory → l ≡ k
    → KeptStep k (Change c) (Refused r) l
refused_step k l c None r is e same = inr (is, ap (λ x. Refused x) e, same)
refused_step k l c (Some x) r is e same = inl (
  rw (ap (change_if k c) is) (ap (λ y. Refused y) e),
  rw (ap (change_if k c) is) same,
)

pub returns-in-Err : goal.returns-in-Err
returns-in-Err c = rw c.in-Change.is (refused_step c.args.self.now c.change.new.self
    c.in-Change.change (refused c.args.self.now.volume c.in-Change.change) c.in-Err.refusal
    refl c.in-Err.ensures.refused.1 c.in-Err.ensures.err)

pub act-requires : goal.act-requires
act-requires c = few-desk _ c.changes-number.ensures.volume c.self.invariant

pub invariant_of-self : goal.invariant_of-self
invariant_of-self c = IsKept-at _ c.match-event.slot.0 _ _ _
    (act-keeps c.changes-number.result c.match-event.slot.1) c.self.invariant c.act.ensures

-- an event that is an act at a slot, with what that act answers and leaves
acted : (k l : DeskState) (event : ℕ → Event) (act : Act) {s : ℕ × Act} {slot : ℕ} {a : Answer}
    → kept_outcome k (event slot) ≡ kept_act k slot act → s ≡ (slot, act)
    → (a, l) ≡ kept_act k s.0 s.1 → KeptStep k (event slot) a l
acted k l event act is same does =
    let there = rw same at does in
    inl (rw is (ap (λ p. p.0) there), rw is (ap (λ p. p.1) there))

pub returns : goal.returns
returns c =
    let k = c.args.self.now in
    let s = c.match-event.slot in
    let does = at-view (λ n. act_of n s.1) _ _ _ s.0 _ _ c.self.view_is
    c.changes-number.ensures.number c.act.ensures in
    elim c.match-event.branch [
      | in-Put w ↦ rw w.in-Put.is (acted k _ event.Put act.Put refl w.slot-is does)
      | in-Take w ↦ rw w.in-Take.is (acted k _ event.Take act.Take refl w.slot-is does)
      | in-HangUp w ↦ rw w.in-HangUp.is (acted k _ event.HangUp act.HangUp refl w.slot-is does)
      | in-Notice w ↦ rw w.in-Notice.is (acted k _ event.Notice act.Notice refl w.slot-is does)
      | in-Close w ↦ rw w.in-Close.is (acted k _ event.Close act.Close refl w.slot-is does)
      | in-Finish w ↦ rw w.in-Finish.is (acted k _ event.Finish act.Finish refl w.slot-is does)
    ]
