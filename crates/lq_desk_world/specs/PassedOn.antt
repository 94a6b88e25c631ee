-- What becomes of the list of a subscription that a run opens.
use Rattle.std.specs.Prelude.{◌≡◌, ℕ, List, [], ◌∷◌, ◌++◌, take, Bool, true, false, ◌||◌, Some}
use Rattle.lq_predicate.specs.Query.{Query}
use Rattle.lq_update.specs.declared.open_options.Flags.{Flags}
use Rattle.lq_desk_world.specs.World.{World, Subscribed, whole, in_port, to_come, is_over, subscribed_at}
use Rattle.lq_desk_world.specs.declared.event.Event.{Event}
use Rattle.lq_desk_world.specs.Events.{Answer}
use Rattle.lq_desk_world.specs.Headline.{frees, parcels_in}

-- whether a slot was freed, by the events and answers of a run
abbrev pub is_freed : ℕ → List Event → List Answer → Bool
is_freed slot [] answers = false
is_freed slot (e ∷ events) [] = false
is_freed slot (e ∷ events) (a ∷ answers) = frees slot e a || is_freed slot events answers

-- What became of a subscription by the end of a run: given its query and flags, the number of
-- changes at its opening, its slot, the answers to its reads, and whether its slot was freed since.
pub record IsPassedOn (w : World) (q : Query) (flags : Flags) (at slot : ℕ) (reads : List Answer)
    (freed : Bool) : Type 0 where
  pub sub : Subscribed
  -- it is the one that was opened
  pub same : (sub.query ≡ q) × (sub.flags ≡ flags) × (sub.opened ≡ at)
  -- it is in its slot, unless that was freed; then its whole list was taken, with the mark
  pub here : freed ≡ false → subscribed_at w slot ≡ Some sub
  pub over : freed ≡ true → is_over w.book sub ≡ true
  -- the parcels among the answers to its reads are those that were taken
  pub taken : parcels_in reads ≡ take sub.taken (whole w.book sub)
  -- these, then what is in its port, then what is still to be put, are its whole list
  pub parts : parcels_in reads ++ (in_port w.book sub ++ to_come w.book sub) ≡ whole w.book sub
