use Rattle.std.proofs.Common.{◌≡◌, ℕ, suc, ◌+◌, ◌-◌, ◌≤◌, List, ◌∷◌, take, drop, arith, refl, sym, ap, ◌∙◌}
use Rattle.std.specs.VecDeque.{deque_len}
use Rattle.lq_update.specs.declared.message.Message.{Message}
use Rattle.lq_desk_sub.specs.Messages.{Queued}
use Rattle.lq_desk_sub.proofs.messages.Messages.take.Goals as goal

-- where a list splits before its last messages, so does the list without its first one
taken : (all rest : List Message) (m : Message) (n k ready : ℕ) → all ≡ m ∷ rest → k + 1 ≡ n
    → ready ≤ k → (take (n - ready) all ≡ m ∷ take (k - ready) rest)
    × (drop (k - ready) rest ≡ drop (n - ready) all)
taken all rest m n k ready is one few =
    let more : n - ready ≡ suc (k - ready) = omega arith in
    (rw (is, more) refl, rw (is, more) refl)

pub returns : goal.returns
returns c =
    let queue = c.self.inside.queue in
    let rest = c.pop_front.new.self in
    let one : deque_len rest + 1 ≡ deque_len queue = c.in_ok-message.ensures.cases in
    let few : c.self.inside.ready ≤ deque_len rest = omega (arith, c.self.invariant.0) in
    let both = taken queue.items rest.items c.in_ok-message.message (deque_len queue)
    (deque_len rest) c.self.inside.ready c.in_ok-message.ensures.items one few in (
      ap (λ (q : Queued). q.held) (sym c.self.view_is) ∙ both.0,
      refl,
      both.1 ∙ ap (λ (q : Queued). q.ready) c.self.view_is,
      ap (λ (q : Queued). q.before) c.self.view_is,
    )
