-- What a notice and a close do to the mark.
use Rattle.std.specs.Prelude.{◌≡◌, ℕ, Bool, true, false, ◌&&◌, Option, Some, None, IfSome, IsSomeAnd, if◌then◌else◌}
use Rattle.lq_desk_sub.specs.Held.{Held, Prepared, is_live, after_messages, ended_by}
use Rattle.lq_server_slots.specs.declared.identity.FirstClose.{FirstClose}
use Rattle.lq_server_slots.specs.declared.identity.FirstClose.TheVariants.{Never, At, Late}
use Rattle.lq_update.specs.declared.mark.Mark.{Mark}
use Rattle.lq_update.specs.declared.mark.Cause.TheVariants.{Closed, HungUp}

-- the subscription has ended because its reader asked
abbrev pub hung_mark : Option Mark → Type 0
hung_mark o = IsSomeAnd o (λ k. k.cause ≡ HungUp)

-- a mark stays, and one that is new covers this many changes
abbrev pub MarkCovers : ℕ → Option Mark → Option Mark → Type 0
MarkCovers number None new = IfSome new (λ k. k.change ≡ number)
MarkCovers number (Some k) new = new ≡ Some k

-- the answer of the first close, after one more close
abbrev pub after_close : FirstClose → Bool → ℕ → FirstClose
after_close Never true n = At n
after_close Never false n = Late
after_close (At m) b n = At m
after_close Late b n = Late

-- what is held after a commit: the messages made ready too, or the mark of an overrun; a
-- subscription that has ended stays
abbrev pub held_committed : Prepared → Held
held_committed p = if is_live p.held then after_messages p.held p.ready p.before else p.held

-- after a notice at this number of changes
abbrev pub held_noticed : Bool → ℕ → Held → Held
held_noticed asked number h = if is_live h && asked then ended_by h HungUp number else h

-- and after a close
abbrev pub held_closed : ℕ → Held → Held
held_closed number h = if is_live h then ended_by h Closed number else h
