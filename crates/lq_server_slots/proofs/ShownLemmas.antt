-- The slots under the lock show a world of the core.
use Rattle.std.proofs.Common.{◌≡◌, ℕ, ◌+◌, ◌-◌, ◌≤◌, Bool, true, false, List, [], ◌∷◌, ◌++◌, length, drop, Option, Some, None, refl, sym, ap, ◌∙◌, arith, length-append, append-nil}
use Rattle.std.specs.Prelude.{IsSome, IfSome, nat_lt}
use Rattle.std.proofs.Math.Seq.{drop-append_seam}
use Rattle.std.proofs.Math.ListN.{drop_of_length-le}
use Rattle.std.proofs.lemmas.List.FromFn.{get_or-map-range_with_len}
use Rattle.lq_volume.specs.declared.change.Change.{Change}
use Rattle.lq_volume.specs.Book.{Book, state_of}
use Rattle.lq_board.specs.Known.{KnownSlot}
use Rattle.lq_board.specs.Book.{IsFullBook}
use Rattle.lq_board.specs.Slot.{slot_at}
use Rattle.lq_update.specs.declared.message.Message.{Message}
use Rattle.lq_update.specs.declared.mark.Mark.{Mark}
use Rattle.lq_update.specs.Updates.{updates_of}
use Rattle.lq_port.specs.End.{all_put}
use Rattle.lq_desk_world.specs.World.{Subscribed, Ending, covered_by, mark_behind, updates_due, waiting, after_change}
use Rattle.lq_server_slots.specs.declared.delivery.Delivery.{Delivery}
use Rattle.lq_server_slots.specs.declared.identity.Identity.{Identity}
use Rattle.lq_server_slots.specs.declared.subscription.Subscription.{Subscription}
use Rattle.lq_server_slots.specs.Updates.{updates}
use Rattle.lq_server_slots.specs.Rule.{messages_in, mark_in}
use Rattle.lq_server_slots.specs.Standing.{IsConsistentAt, HasPrepared, upto}
use Rattle.lq_server_slots.specs.Marking.{held_committed}
use Rattle.lq_server_slots.specs.Slots.{SlotStands, slot_in}
use Rattle.lq_server_slots.specs.Shown.{mark_ending, shown_subscription, slot_shown, mark_to_put, with_mark, PassesOnAs, SlotPassesOn, SlotsShowWorlds, ActsShowWorlds}
use Rattle.lq_server_slots.proofs.SlotLemmas.{told_length}

-- the opaque list is the query's update list
opened_list : (s : Subscription) (book : Book) (n : ℕ)
    → updates s.sub.held.query s.sub.held.flags book s.sub.held.opened n
    ≡ updates_of s.sub.held.query s.sub.held.flags book s.sub.held.opened n
unfolding updates
opened_list s book n = refl

-- the mark and the end cover the same changes
covers : (o : Option Mark) (book : Book) → book.start.number ≡ 0
    → upto o (length book.changes) ≡ covered_by book (mark_ending o)
covers o book zero = grind arith

-- the updates due to the subscription of the world
dues : (asked : Bool) (taken : ℕ) (s : Subscription) (book : Book) → IsFullBook book
    → IsConsistentAt s book
    → updates_due book (shown_subscription asked taken s)
    ≡ messages_in (all_put s.input) ++ s.sub.held.messages
dues asked taken s book full stands =
    sym (stands.list
    ∙ ap (updates s.sub.held.query s.sub.held.flags book s.sub.held.opened)
    (covers s.sub.held.mark book full.first)
    ∙ opened_list s book (covered_by book (mark_ending s.sub.held.mark)))

-- no more messages than parcels
few_messages : (ps : List Delivery) → length (messages_in ps) ≤ length ps
few_messages [] = omega arith
few_messages (p ∷ ps) = grind (arith, few_messages ps)

-- with a mark among them, one less at least
fewer_messages : (ps : List Delivery) (k : Mark) → mark_in ps ≡ Some k
    → length (messages_in ps) + 1 ≤ length ps
fewer_messages [] k is = absurd (cc)
fewer_messages (p ∷ ps) k is = grind (arith, few_messages ps, fewer_messages ps k)

-- the messages held are what waits in the world
holds : (b : Bool) (s : Subscription) (book : Book) → s.sub.held.mark_out ≡ b
    → IsConsistentAt s book
    → drop (length (all_put s.input))
    (messages_in (all_put s.input) ++ s.sub.held.messages) ≡ s.sub.held.messages
holds false s book is stands =
    rw (← told_length (all_put s.input) (rw is at stands.out))
    (drop-append_seam (messages_in (all_put s.input)) s.sub.held.messages)
holds true s book is stands =
    let none = (stands.done is).0 in
    let few = few_messages (all_put s.input) in
    rw (none, append-nil) (drop_of_length-le (messages_in (all_put s.input)) few)

-- the mark behind the updates is the lock's
behind : (n : ℕ) (o : Option Mark) → IfSome o (λ k. k.seq ≡ n + 1)
    → mark_behind n (mark_ending o) ≡ mark_to_put false o
behind n o is = grind arith

-- no more than a mark is behind them
one_behind : (n : ℕ) (o : Option Ending) → length (mark_behind n o) ≤ 1
one_behind n o = grind arith

-- a mark is there, where the test says so
mark_there : (o : Option Mark) → IsSome o → (k : Mark) × (o ≡ Some k)
mark_there o some = grind arith

-- a mark has the number after those of all messages
numbered : (s : Subscription) (book : Book) → IsConsistentAt s book → (n : ℕ)
    → n ≡ length (messages_in (all_put s.input) ++ s.sub.held.messages)
    → IfSome s.sub.held.mark (λ k. k.seq ≡ n + 1)
numbered s book stands n long = grind arith

-- and it is still to come where it isn't out
marks : (b : Bool) (s : Subscription) (book : Book) → s.sub.held.mark_out ≡ b
    → IsConsistentAt s book
    → (n : ℕ) → n ≡ length (messages_in (all_put s.input) ++ s.sub.held.messages)
    → drop (length (all_put s.input) - n) (mark_behind n (mark_ending s.sub.held.mark))
    ≡ mark_to_put s.sub.held.mark_out s.sub.held.mark
marks false s book is stands n long =
    let put_so_far = told_length (all_put s.input) (rw is at stands.out) in
    let joined = length-append (messages_in (all_put s.input)) s.sub.held.messages in
    let zero : length (all_put s.input) - n ≡ 0 = omega arith in
    let seq : IfSome s.sub.held.mark (λ k. k.seq ≡ n + 1) = numbered s book stands n long in
    rw (zero, is) (behind n s.sub.held.mark seq)
marks true s book is stands n long =
    let done = stands.done is in
    let there = mark_there s.sub.held.mark done.1 in
    let fewer = fewer_messages (all_put s.input) there.0 (rw (is, there.1) at stands.out) in
    let one = one_behind n (mark_ending s.sub.held.mark) in
    let joined = length-append (messages_in (all_put s.input)) s.sub.held.messages in
    let none : length s.sub.held.messages ≡ 0 = ap (length {A = Message}) done.0 in
    rw is (drop_of_length-le (mark_behind n (mark_ending s.sub.held.mark)) (omega arith))

-- a subscription under the lock stands for one of the world
pub passed_on : (asked : Bool) (taken : ℕ) (s : Subscription) (book : Book) → IsFullBook book
    → IsConsistentAt s book → PassesOnAs book (shown_subscription asked taken s) s
passed_on asked taken s book full stands =
    let due = dues asked taken s book full stands in
    let held : waiting book (shown_subscription asked taken s) ≡ s.sub.held.messages =
    ap (drop (length (all_put s.input))) due
    ∙ holds s.sub.held.mark_out s book refl stands in
    record {
      due = due;
      held = held;
      left = rw (
        held,
        marks s.sub.held.mark_out s book refl stands
            (length (updates_due book (shown_subscription asked taken s)))
            (ap (length {A = Message}) due),
      );
    }

-- and so for a slot that may be free
slot_passed : (taken : ℕ) (o : Option Subscription) (p : KnownSlot Identity) (book : Book)
    → IsFullBook book → SlotStands o p book → SlotPassesOn book (slot_shown taken o p) o
slot_passed taken None p book full stands = tt
slot_passed taken (Some s) p book full stands =
    passed_on (nat_lt s.asks p.asks) taken s book full stands.stands

-- slots that stand over the keeper's book show a world
pub slots_shown : SlotsShowWorlds
slots_shown slots taken full stands i low =
    let f : ℕ → Option Subscribed = λ i. slot_shown (taken i) (slot_in slots.subscriptions i)
    (slot_at slots.keeper.slots (i + 1)) in
    rw (get_or-map-range_with_len f 0 64 i i None (omega arith) (omega arith))
    (slot_passed (taken i) (slot_in slots.subscriptions i) (slot_at slots.keeper.slots (i + 1))
    slots.keeper.book full (stands.each i low))

-- ---- what a commit, a notice and a close do

-- a commit ends it as the change does, where its messages are too many
change_shown : (asked : Bool) (taken : ℕ) (s : Subscription) (book : Book) (c : Change)
    → IsFullBook book → IsConsistentAt s book → HasPrepared s.sub (state_of book) c
    → after_change book c (shown_subscription asked taken s)
    ≡ with_mark (shown_subscription asked taken s) (held_committed s.sub).mark
change_shown asked taken s book c full stands prepared =
    let passed = passed_on asked taken s book full stands in
    grind arith

-- the acts under the lock are those of the world
pub acts_shown : ActsShowWorlds
acts_shown s book asked taken full stands =
    record {
      change = λ c prepared. change_shown asked taken s book c full stands prepared;
      notice = grind arith;
      close = grind arith;
    }
