-- The definitions compute: scenarios of one query that every entry matches.
use Rattle.std.proofs.Common.{◌≡◌, ℕ, zero, suc, None, List, [], ◌∷◌, refl, ap, true, false, pos, arith}
use Rattle.std.specs.Prelude.{codes}
use Rattle.std.specs.Option.{option_map_or}
use Rattle.lq_value.specs.declared.op.Op.TheVariants.{Ge}
use Rattle.lq_value.specs.declared.literal.Literal.TheVariants.{Plain}
use Rattle.lq_value.specs.declared.kind.Kind.TheVariants.{File}
use Rattle.lq_value.specs.declared.refusal.Refusal.TheVariants.{BadPort, BadBacklog, NoSlot, NotOpen, StillOpen, Exhausted}
use Rattle.lq_predicate.specs.Query.{Query, Compare}
use Rattle.lq_volume.specs.declared.change.Change.TheVariants.{Create, Move, Write}
use Rattle.lq_volume.specs.State.{empty_state}
use Rattle.lq_update.specs.Options.{options_of}
use Rattle.lq_update.specs.declared.message.Message.{Message}
use Rattle.lq_update.specs.declared.message.Opcode.TheVariants.{Created, Moved as MovedFrom, ValueChanged}
use Rattle.lq_value.specs.declared.entry.Entry.{Entry}
use Rattle.lq_update.specs.declared.mark.Cause.{Cause}
use Rattle.lq_update.specs.declared.mark.Cause.TheVariants.{Closed, HungUp, Overrun}
use Rattle.lq_update.specs.declared.parcel.Parcel.TheVariants.{Update, Fin}
use Rattle.lq_desk_world.specs.Headline.{ReadersAreTold}
use Rattle.lq_desk_world.specs.World.{World, Subscribed, first_world, subscribed_at}
use Rattle.lq_desk_world.specs.declared.event.Event.{Event}
use Rattle.lq_desk_world.specs.declared.event.Event.TheVariants.{Change, Open, OpenBy, Put, Take, HangUp, Notice, Close, Finish}
use Rattle.lq_desk_world.specs.Events.{Answer, Changed, Opened, Moved, Took, Empty, Ended, Asked, Noticed, Shut, Finished, Refused, answer_to, next}
use Rattle.lq_desk_world.specs.Laws.{IsStill, PutsUntilStill}

-- what events are answered, one after another
abbrev answers_from : World → List Event → List Answer
answers_from w [] = []
answers_from w (e ∷ events) = answer_to w e ∷ answers_from (next w e) events

-- what events are answered from the first world on
abbrev answers_to : List Event → List Answer
answers_to events =
    answers_from (first_world (record { start = empty_state 10; changes = [] })) events

-- the query that every entry matches
abbrev every : Query
every = Compare (codes "size") Ge (Plain (codes "0"))

-- a file with this name is created in the root
abbrev creating : List ℕ → Event
creating name = Change (Create 1 name File 0 (pos 0))

-- a file `a` is created in the root
abbrev create : Event
create = creating (codes "a")

-- the message of an entry of the root that was created
abbrev created_as : ℕ → ℕ → List ℕ → ℕ → Message
created_as seq change name node = record
    { seq = seq; change = change; last = true; op = Created; dir = 1; name = name; node = node }

-- the message of that file as the first update
abbrev created : Message
created = created_as 1 1 (codes "a") 2

-- the answer to an accepted change
abbrev changed : ℕ → ℕ → Answer
changed change node = Changed (record { change = change; node = node })

-- the answer to a read of the mark
abbrev took_mark : ℕ → ℕ → Cause → Answer
took_mark seq change cause = Took (Fin (record { seq = seq; change = change; cause = cause }))

-- the result with that file alone
abbrev just_created : List Entry
just_created = record { dir = 1; name = codes "a"; node = 2 } ∷ []

-- a close on a full port: what was held is still read, then the mark, then the slot is free
close_on_full_port :
    answers_to (Open every 1 1 false ∷ create ∷ Close 1 ∷ Put 1 ∷ Put 1 ∷ Take 1 ∷ Take 1 ∷ Put 1
    ∷ Take 1 ∷ Put 1 ∷ Take 1 ∷ Finish 1 ∷ Take 1 ∷ [])
    ≡ Opened 1 0 [] ∷ changed 1 2 ∷ Shut 1 ∷ Moved true ∷ Moved false ∷ Took (Update created)
    ∷ Empty ∷ Moved true ∷ took_mark 2 1 Closed ∷ Moved false ∷ Ended ∷ Finished ∷ Refused NotOpen
    ∷ []
close_on_full_port = refl

-- a hang-up that is noticed after a change ends the list with that change's update
hang_up_told_after :
    answers_to (Open every 2 2 false ∷ HangUp 1 ∷ create ∷ Notice 1 ∷ Notice 1 ∷ Close 1 ∷ Put 1
    ∷ Put 1 ∷ Take 1 ∷ Take 1 ∷ [])
    ≡ Opened 1 0 [] ∷ Asked ∷ changed 1 2 ∷ Noticed true ∷ Noticed false ∷ Refused NotOpen
    ∷ Moved true ∷ Moved true ∷ Took (Update created) ∷ took_mark 2 1 HungUp ∷ []
hang_up_told_after = refl

-- an overrun ends a list before a hang-up that nobody has noticed
overrun_before_notice :
    answers_to (Open every 1 0 false ∷ HangUp 1 ∷ create ∷ Notice 1 ∷ Put 1 ∷ Take 1 ∷ [])
    ≡ Opened 1 0 [] ∷ Asked ∷ changed 1 2 ∷ Noticed false ∷ Moved true ∷ took_mark 1 0 Overrun
    ∷ []
overrun_before_notice = refl

-- a hang-up asked of one subscription does not end the next in its slot
hang_up_does_not_carry_over :
    answers_to (Open every 1 1 false ∷ Close 1 ∷ HangUp 1 ∷ Put 1 ∷ Take 1 ∷ Finish 1
    ∷ Open every 1 1 false ∷ Notice 1 ∷ [])
    ≡ Opened 1 0 [] ∷ Shut 0 ∷ Asked ∷ Moved true ∷ took_mark 1 0 Closed ∷ Finished
    ∷ Opened 1 0 [] ∷ Noticed false ∷ []
hang_up_does_not_carry_over = refl

-- held messages before the mark, and none of the change that overruns the backlog
overrun_after_held :
    answers_to (Open every 1 2 false ∷ create ∷ Put 1 ∷ creating (codes "b")
    ∷ creating (codes "c") ∷ creating (codes "d") ∷ Take 1 ∷ Put 1 ∷ Take 1 ∷ Put 1 ∷ Take 1
    ∷ Put 1 ∷ Take 1 ∷ Take 1 ∷ [])
    ≡ Opened 1 0 [] ∷ changed 1 2 ∷ Moved true ∷ changed 2 3 ∷ changed 3 4 ∷ changed 4 5
    ∷ Took (Update created) ∷ Moved true ∷ Took (Update (created_as 2 2 (codes "b") 3))
    ∷ Moved true ∷ Took (Update (created_as 3 3 (codes "c") 4)) ∷ Moved true
    ∷ took_mark 4 3 Overrun ∷ Ended ∷ []
overrun_after_held = refl

-- a slot used twice is two subscriptions
close_and_reuse :
    answers_to (Open every 1 3 false ∷ Finish 1 ∷ Close 1 ∷ Put 1 ∷ Take 1 ∷ Finish 1 ∷ create
    ∷ Open every 1 3 false ∷ creating (codes "b") ∷ Put 1 ∷ Take 1 ∷ [])
    ≡ Opened 1 0 [] ∷ Refused StillOpen ∷ Shut 0 ∷ Moved true ∷ took_mark 1 0 Closed ∷ Finished
    ∷ changed 1 2 ∷ Opened 1 1 just_created ∷ changed 2 3 ∷ Moved true
    ∷ Took (Update (created_as 1 2 (codes "b") 3)) ∷ []
close_and_reuse = refl

-- the refusals of an opening in their order, over a volume
-- that takes two changes, and the lowest free slot
opening_refusals_in_order : answers_from (record {
  book = record { start = empty_state 2; changes = [] };
  openings = 0;
  slots = None ∷ None ∷ [];
})
    (Open every 0 65537 false ∷ Open every 1025 0 false ∷ Open every 1 65537 false
    ∷ Open every 1024 65536 false ∷ Open every 1 0 true ∷ Open every 1 0 true ∷ Close 1
    ∷ Put 1 ∷ Take 1 ∷ Finish 1 ∷ Open every 1 0 true ∷ Take 0 ∷ Take 1 ∷ Take 3
    ∷ []) ≡ Refused BadPort ∷ Refused BadPort ∷ Refused BadBacklog ∷ Opened 1 0 [] ∷ Opened 2 0 []
    ∷ Refused NoSlot ∷ Shut 0 ∷ Moved true ∷ took_mark 1 0 Closed ∷ Finished ∷ Refused Exhausted
    ∷ Refused NotOpen ∷ Refused NotOpen ∷ Refused NotOpen ∷ []
opening_refusals_in_order = refl

-- a move is one message where that was asked for, and so
-- fits a backlog of one; else it is two, and doesn't
moved_saves_backlog : answers_to (create ∷ Open every 1 1 true ∷ Open every 1 1 false
    ∷ Change (Move 2 1 (codes "b") false) ∷ Put 1 ∷ Take 1 ∷ Put 2 ∷ Take 2 ∷ [])
    ≡ changed 1 2 ∷ Opened 1 1 just_created ∷ Opened 2 1 just_created ∷ changed 2 2 ∷ Moved true
    ∷ Took (Update (record {
      seq = 1;
      change = 2;
      last = true;
      op = MovedFrom 1 (codes "a");
      dir = 1;
      name = codes "b";
      node = 2;
    })) ∷ Moved true ∷ took_mark 1 1 Overrun ∷ []
moved_saves_backlog = refl

-- where values are asked for, a write within the result is told
value_told :
    answers_to (create ∷ OpenBy every
    (record { port = 1; backlog = 1; flags = record { moved = false; values = true } })
    ∷ Change (Write 2 7 (pos 3)) ∷ Put 1 ∷ Take 1 ∷ [])
    ≡ changed 1 2 ∷ Opened 1 1 just_created ∷ changed 2 2 ∷ Moved true
    ∷ Took (Update (record {
      seq = 1;
      change = 2;
      last = true;
      op = ValueChanged None;
      dir = 1;
      name = codes "a";
      node = 2;
    })) ∷ []
value_told = refl

-- no reader is told that it was opened before a change that came first
not_opened_before : ReadersAreTold (empty_state 10) (create ∷ Open every 1 1 false ∷ [])
    (changed 1 2 ∷ Opened 1 0 [] ∷ []) → ⊥
not_opened_before told =
    let opening = told.readers 2 (create ∷ []) [] (changed 1 2 ∷ []) [] (Open every 1 1 false) every
    (options_of 1 1 false) 1 0 [] refl refl refl refl in
    let at : ℕ = 0 in
    let number : at ≡ 1 = opening.0.number in
    omega arith

-- no reader is told an update before its change is accepted, though the whole run's list has it
not_told_before : ReadersAreTold (empty_state 10) (Open every 1 1 false ∷ Take 1 ∷ create ∷ [])
    (Opened 1 0 [] ∷ Took (Update created) ∷ changed 1 2 ∷ []) → ⊥
not_told_before told =
    let opening = told.readers 2 [] (Take 1 ∷ []) [] (Took (Update created) ∷ [])
    (Open every 1 1 false) every (options_of 1 1 false) 1 0 [] refl refl refl refl in
    let early : created ∷ opening.1.prefix.0 ≡ [] = opening.1.prefix.1 in
    let no : ⊥ = cc in no

-- the world of that query's subscription, which has one message to put
abbrev told_once : World
told_once =
    next (next (first_world (record { start = empty_state 10; changes = [] }))
    (Open every 2 2 false)) create

-- puts until nothing moves: the first moves the message, the second moves nothing
put_until_still : PutsUntilStill 1 told_once (next (next told_once (Put 1)) (Put 1))
put_until_still = (suc zero, (refl, (still, refl)))
  where
    still : IsStill (next told_once (Put 1)) 1
    still is =
        let no_more : Moved false ≡ Moved true = is in
        let no : ⊥ = cc in
        no

-- how many parcels were put for the subscription in slot 1
abbrev put_count : World → ℕ
put_count w = option_map_or (λ (s : Subscribed). s.put) (subscribed_at w 1) 0

-- to put nothing isn't that, where a message is left to put
not_until_still : PutsUntilStill 1 told_once told_once → ⊥
not_until_still (zero, (still, same)) = still refl
not_until_still (suc zero, (moved, (still, same))) =
    let counts : 0 ≡ 1 = ap put_count same in
    omega (arith, counts)
not_until_still (suc (suc n), (moved, (again, rest))) =
    let no_more : Moved false ≡ Moved true = again in
    let no : ⊥ = cc in
    no
