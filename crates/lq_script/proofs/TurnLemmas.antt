-- The book of a world over the turns of a script's lines: only an accepted change adds to it.
use Rattle.std.proofs.Common.{◌≡◌, ℕ, zero, suc, ◌+◌, List, [], ◌∷◌, ◌++◌, false, Option, Some, None, refl, ap, ◌∙◌}
use Rattle.std.specs.List.{AllByRecursion}
use Rattle.lq_value.specs.declared.refusal.Refusal.{Refusal}
use Rattle.lq_volume.specs.declared.change.Change.{Change as Change_}
use Rattle.lq_volume.specs.Book.{Book, grown, number_of, state_of}
use Rattle.lq_volume.specs.Change.{node_of, refused}
use Rattle.lq_desk_world.specs.World.{World, Subscribed, subscribed_at}
use Rattle.lq_desk_world.specs.declared.event.Event.{Event}
use Rattle.lq_desk_world.specs.declared.event.Event.TheVariants.{Change, Open, OpenBy, Put, Take, HangUp, Notice, Close, Finish}
use Rattle.lq_desk_world.specs.declared.event.Act.{Act}
use Rattle.lq_desk_world.specs.declared.event.Act.TheVariants as act
use Rattle.lq_desk_world.specs.Events.{Answer, Changed, Refused, act_outcome, acting, at_slot, changing, open_refusal, opened_now, opening, outcome}
use Rattle.lq_desk_world.specs.Turns.{after_events, all_puts, at_each, notices, one_notice, places_at, ports_of, put_events, turn_outcome}

-- ---- one event

-- an event leaves the book
abbrev LeavesBook : Event → Type 0
LeavesBook e = (w : World) → (outcome w e).1.book ≡ w.book

act_leaves : (w : World) (slot : ℕ) (a : Act) → (act_outcome w slot a).1.book ≡ w.book
act_leaves w slot a = by (subscribed_at w slot)
  where
    by : (o : Option Subscribed) → (at_slot w slot o (acting w.book a)).1.book ≡ w.book
    by None = refl
    by (Some s) = refl

opening_leaves : (w : World) (s : Subscribed) (r : Option Refusal)
    → (opening w s r).1.book ≡ w.book
opening_leaves w s None = refl
opening_leaves w s (Some e) = refl

-- ---- several

all_leave : (w : World) (events : List Event) → AllByRecursion LeavesBook events
    → (after_events outcome w events).book ≡ w.book
all_leave w [] h = refl
all_leave w (e ∷ events) h = all_leave (outcome w e).1 events h.1 ∙ h.0 w

both_leave : (xs ys : List Event) → AllByRecursion LeavesBook xs → AllByRecursion LeavesBook ys
    → AllByRecursion LeavesBook (xs ++ ys)
both_leave [] ys h k = k
both_leave (x ∷ xs) ys h k = (h.0, both_leave xs ys h.1 k)

each_leaves : (f : ℕ → ℕ → List Event) → ((slot port : ℕ) → AllByRecursion LeavesBook (f slot port))
    → (n : ℕ) (ports : List (Option ℕ)) → AllByRecursion LeavesBook (at_each f n ports)
each_leaves f h n [] = tt
each_leaves f h n (None ∷ ports) = each_leaves f h (n + 1) ports
each_leaves f h n (Some port ∷ ports) =
    both_leave (f n port) (at_each f (n + 1) ports) (h n port) (each_leaves f h (n + 1) ports)

notice_leaves : (slot port : ℕ) → AllByRecursion LeavesBook (one_notice slot port)
notice_leaves slot port = (λ w. act_leaves w slot act.Notice, tt)

puts_leave : (slot port : ℕ) → AllByRecursion LeavesBook (put_events slot port)
puts_leave slot zero = tt
puts_leave slot (suc port) = (λ w. act_leaves w slot act.Put, puts_leave slot port)

-- ---- turns

-- the event is no change
abbrev pub IsOther : Event → Type 0
IsOther (Change c) = ⊥
IsOther e = Unit {0}

-- its turn leaves the book
pub turn_leaves : (w : World) (e : Event) → IsOther e → (turn_outcome w e).1.book ≡ w.book
turn_leaves w (Change c) h = absurd h
turn_leaves w (Open q port backlog moved) h =
    opening_leaves w (opened_now w q (record {
      port = port;
      backlog = backlog;
      flags = record { moved = moved; values = false };
    })) (open_refusal w port backlog)
turn_leaves w (OpenBy q options) h =
    opening_leaves w (opened_now w q options) (open_refusal w options.port options.backlog)
turn_leaves w (Put slot) h = act_leaves w slot act.Put
turn_leaves w (Take slot) h =
    act_leaves _ slot act.Take
    ∙ all_leave w (Notice slot ∷ put_events slot (places_at (ports_of w) slot))
    (λ v. act_leaves v slot act.Notice, puts_leave slot (places_at (ports_of w) slot))
turn_leaves w (HangUp slot) h = act_leaves w slot act.HangUp
turn_leaves w (Notice slot) h = act_leaves w slot act.Notice
turn_leaves w (Close slot) h =
    all_leave _ (put_events slot (places_at (ports_of w) slot))
    (puts_leave slot (places_at (ports_of w) slot))
    ∙ act_leaves _ slot act.Close
    ∙ all_leave w (Notice slot ∷ []) (λ v. act_leaves v slot act.Notice, tt)
turn_leaves w (Finish slot) h = act_leaves w slot act.Finish

-- the answer to a change by its refusal, and the book after it
abbrev pub change_answer : Book → Change_ → Option Refusal → Answer
change_answer b c (Some e) = Refused e
change_answer b c None =
    Changed (record { change = number_of b + 1; node = node_of (state_of b) c })

abbrev pub change_book : Book → Change_ → Option Refusal → Book
change_book b c (Some e) = b
change_book b c None = grown b (c ∷ [])

changing_answer : (w : World) (c : Change_) (r : Option Refusal)
    → (changing w c r).0 ≡ change_answer w.book c r
changing_answer w c None = refl
changing_answer w c (Some e) = refl

changing_book : (w : World) (c : Change_) (r : Option Refusal)
    → (changing w c r).1.book ≡ change_book w.book c r
changing_book w c None = refl
changing_book w c (Some e) = refl

-- the world of a change, after the notices
abbrev noticed : World → World
noticed w = after_events outcome w (notices (ports_of w))

noticed_book : (w : World) → (noticed w).book ≡ w.book
noticed_book w =
    all_leave w (notices (ports_of w)) (each_leaves one_notice notice_leaves 1 (ports_of w))

pub turn_answer : (w : World) (c : Change_)
    → (turn_outcome w (Change c)).0 ≡ change_answer w.book c (refused (state_of w.book) c)
turn_answer w c =
    changing_answer (noticed w) c (refused (state_of (noticed w).book) c)
    ∙ ap (λ (b : Book). change_answer b c (refused (state_of b) c)) (noticed_book w)

pub turn_book : (w : World) (c : Change_)
    → (turn_outcome w (Change c)).1.book ≡ change_book w.book c (refused (state_of w.book) c)
turn_book w c =
    all_leave _ (all_puts (ports_of w)) (each_leaves put_events puts_leave 1 (ports_of w))
    ∙ changing_book (noticed w) c (refused (state_of (noticed w).book) c)
    ∙ ap (λ (b : Book). change_book b c (refused (state_of b) c)) (noticed_book w)
