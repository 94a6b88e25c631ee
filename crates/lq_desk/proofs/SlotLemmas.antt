-- What is kept in the slot of a world's subscription, and its next parcel.
use Rattle.std.proofs.Common.{◌≡◌, ℕ, zero, suc, ◌+◌, ◌-◌, ◌≤◌, List, [], ◌∷◌, ◌++◌, refl, ap, take, drop, length, ◌∙◌, sym, arith, length-drop, Some, None, Option, map, Bool, true, false}
use Rattle.std.specs.Prelude.{slice_get, ◌&&◌, nat_lt, is_some, ◌<◌}
use Rattle.std.specs.Option.{option_map}
use Rattle.std.proofs.lemmas.Bool.Decides.{nat_tests}
use Rattle.std.proofs.lemmas.List.{drop-append-le, drop-drop, drop_all, length-take-le, take_more}
use Rattle.std.proofs.lemmas.Option.{get_or_from_slice_get, slice_get_cases, slice_get_within}
use Rattle.lq_volume.specs.Book.{Book}
use Rattle.lq_update.specs.declared.message.Message.{Message}
use Rattle.lq_update.specs.declared.parcel.Parcel.{Parcel}
use Rattle.lq_update.specs.declared.parcel.Parcel.TheVariants.{Update, Fin}
use Rattle.lq_desk_world.specs.World.{Subscribed, Ending, updates_due, mark_behind, whole, in_port, one_more_put}
use Rattle.lq_desk_world.specs.Events.{putting_if, putting}
use Rattle.lq_desk_world.specs.Fair.{IsFair}
use Rattle.lq_desk_sub.specs.Held.{Held, next_of, without_parcel, next_parcel}
use Rattle.lq_desk.specs.Slot.{KeptSlot, put_if, put_slot}
use Rattle.lq_desk.specs.DeskState.{mark_of, held_for, slot_for}

-- messages as parcels
abbrev pub parcels : List Message → List Parcel
parcels messages = map (λ m. Update m) messages

-- what is kept for a subscription that was told these messages
abbrev pub slot_told : Subscribed → List Message → KeptSlot
slot_told s us = record {
  held = record {
    query = s.query;
    flags = s.flags;
    opened = s.opened;
    backlog = s.backlog;
    sent = length us;
    messages = drop s.put us;
    mark = option_map (mark_of (length us)) s.end;
    mark_out = nat_lt (length us) s.put;
  };
  port = s.port;
  queue = drop s.taken (take s.put (parcels us ++ mark_behind (length us) s.end));
  hang_up_asked = s.hang_up_asked;
}

-- ---- the next parcel

-- the next parcel is the one at the place that the puts have come to
next-at : (us : List Message) (n i : ℕ) (o : Option Ending)
    → next_of (drop i us) (option_map (mark_of n) o) (nat_lt (length us) i)
    ≡ slice_get (parcels us ++ mark_behind n o) i
next-at [] n zero o = grind (arith, nat_tests)
next-at [] n (suc i) o = grind (arith, nat_tests)
next-at (u ∷ us) n zero o = refl
next-at (u ∷ us) n (suc i) o = grind (arith, nat_tests, next-at us n i o)

-- a parcel is held at this place: a message among the updates, the mark behind them
abbrev StandsAt : Parcel → ℕ → ℕ → Type 0
StandsAt (Update m) i n = i < n
StandsAt (Fin mark) i n = i ≡ n

-- so it is in the list
stands-at : (us : List Message) (n i : ℕ) (o : Option Ending) (p : Parcel)
    → slice_get (parcels us ++ mark_behind n o) i ≡ Some p → StandsAt p i (length us)
stands-at [] n i None p at = cc
stands-at [] n zero (Some e) (Update m) at = cc
stands-at [] n zero (Some e) (Fin mark) at = refl
stands-at [] n (suc i) (Some e) p at = cc
stands-at (u ∷ us) n zero o (Update m) at = omega arith
stands-at (u ∷ us) n zero o (Fin mark) at = cc
stands-at (u ∷ us) n (suc i) o (Update m) at = omega (arith, stands-at us n i o (Update m) at)
stands-at (u ∷ us) n (suc i) o (Fin mark) at = ap suc (stands-at us n i o (Fin mark) at)

-- without the next parcel it is held as after one more put
without-same : (h : Held) (us : List Message) (n i : ℕ) (o : Option Ending) (p : Parcel)
    → slice_get (parcels us ++ mark_behind n o) i ≡ Some p
    → without_parcel (record h { messages = drop i us; mark_out = nat_lt (length us) i }) (Some p)
    ≡ record h { messages = drop (i + 1) us; mark_out = nat_lt (length us) (i + 1) }
without-same h us n i o (Update m) at =
    let inside = stands-at us n i o (Update m) at in
    let rest : drop 1 (drop i us) ≡ drop (i + 1) us = drop-drop 1 i us in
    let out : nat_lt (length us) i ≡ nat_lt (length us) (i + 1) = grind (arith, nat_tests) in
    cc
without-same h us n i o (Fin mark) at =
    let behind = stands-at us n i o (Fin mark) at in
    let rest : drop i us ≡ drop (i + 1) us =
    drop_all i us (omega arith) ∙ sym (drop_all (i + 1) us (omega arith)) in
    let out : true ≡ nat_lt (length us) (i + 1) = grind (arith, nat_tests) in
    cc

-- ---- the port

-- as many parcels are in the port as were put and not taken
pub queue-length : (b : Book) (s : Subscribed) → IsFair b s
    → length (in_port b s) ≡ s.put - s.taken
queue-length b s f =
    omega
    (arith, length-drop s.taken (take s.put (whole b s)), length-take-le s.put (whole b s) f.put)

-- one parcel put goes to the end of the port
queue-put : (xs : List Parcel) (t i : ℕ) (p : Parcel) → t ≤ i → i ≤ length xs
    → slice_get xs i ≡ Some p → drop t (take i xs) ++ p ∷ [] ≡ drop t (take (i + 1) xs)
queue-put xs t i p le inside at =
    let long : t ≤ length (take i xs) = omega (arith, length-take-le i xs inside) in
    rw (take_more xs i p (slice_get_within xs i p at), get_or_from_slice_get xs i p p at)
    (sym (drop-append-le t (take i xs) (p ∷ []) long))

-- a put is answered alike, where the port has room or not
put-if : (b : Book) (s : Subscribed) → IsFair b s → (x : Bool) (o : Option Parcel)
    → slice_get (whole b s) s.put ≡ o
    → put_if (slot_for b s) x o
    ≡ ((putting_if s (x && is_some o)).0, option_map (slot_for b) (putting_if s (x && is_some o)).1)
put-if b s f true None at = refl
put-if b s f true (Some p) at =
    let us = updates_due b s in
    let held : without_parcel (held_for b s) (Some p) ≡ held_for b (one_more_put s) =
    without-same (held_for b s) us (length us) s.put s.end p at in
    let queue : in_port b s ++ p ∷ [] ≡ in_port b (one_more_put s) =
    queue-put (whole b s) s.taken s.put p f.taken f.put at in
    rw (held, queue)
put-if b s f false None at = refl
put-if b s f false (Some p) at = refl

-- a put is answered alike
pub put-same : (b : Book) (s : Subscribed) → IsFair b s
    → put_slot (slot_for b s) ≡ ((putting b s).0, option_map (slot_for b) (putting b s).1)
put-same b s f =
    let us = updates_due b s in
    let next : next_parcel (held_for b s) ≡ slice_get (whole b s) s.put =
    next-at us (length us) s.put s.end in
    let within : nat_lt s.put (length (whole b s)) ≡ is_some (slice_get (whole b s) s.put) =
    grind (arith, nat_tests, slice_get_cases (whole b s) s.put) in
    rw (queue-length b s f, next, within)
    (put-if b s f (nat_lt (s.put - s.taken) s.port) (slice_get (whole b s) s.put) refl)
