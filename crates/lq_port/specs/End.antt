-- What a contract sees of an end of a port.
use Rattle.std.specs.Prelude.{◌≡◌, ◌≤◌, ℕ, true, false, List, [], ◌∷◌, ◌++◌, length, Option, IfSome, IfNone}
use mathlib.Core.List.{IsPrefix}
use Rattle.atomic_table.specs.Seated.{TableId}
use Rattle.atomic_table.specs.declared.badge.Badge.{Badge}
use Rattle.crossbeam_channel.specs.declared.flavors.array.Key.{Key}
use Rattle.crossbeam_channel.specs.declared.flavors.array.Rows.{Rows}
use Rattle.crossbeam_channel.specs.declared.flavors.array.Doing.{Doing}
use Rattle.crossbeam_channel.specs.Claims.{Pass, view}
use Rattle.lq_port.specs.Known.{Known}
use Rattle.lq_port.specs.Port.{IsLegal}

-- the identity of a port
abbrev pub PortName : Type 0 → Type 0
PortName T = TableId × Badge (Key T)

-- What one end knows: which port it is, how many items it holds at most, its floor, what was taken,
-- and what was put after that. The end for puts knows all puts, and the takes before its last put,
-- or before the two ends last met. The end for takes knows all takes.
pub record End (T F : Type 0) : Type 0 where
  pub port : PortName T
  pub places : ℕ
  pub floor : F
  pub taken : List T
  pub ahead : List T

-- x was the first item known to wait, if any was, and `rest` is what remains
abbrev pub IsFront : {T : Type 0} → List T → T → List T → Type 0
IsFront [] x rest = rest ≡ []
IsFront (y ∷ ys) x rest = (x ≡ y) × (rest ≡ ys)

module _ {T F : Type 0} where
  -- all puts that the end knows
  abbrev pub all_put : End T F → List T
  all_put end = end.taken ++ end.ahead

  -- only what the end knows of the items may differ
  abbrev pub IsSamePort : End T F → End T F → Type 0
  IsSamePort old new =
      (new.port ≡ old.port) × (new.places ≡ old.places) × (new.floor ≡ old.floor)

  -- x was put at the back, and the end then knows what waits at that moment, which is no more than
  -- the port holds
  pub record Gains (old : End T F) (x : T) (new : End T F) : Type 0 where
    pub put : all_put new ≡ all_put old ++ x ∷ []
    pub taken : IsPrefix old.taken new.taken
    pub within : length new.ahead ≤ new.places

  -- x was taken at the front
  abbrev pub Loses : End T F → T → End T F → Type 0
  Loses old x new = (new.taken ≡ old.taken ++ x ∷ []) × IsFront old.ahead x new.ahead

  -- What a take does: it gives the item at the front, which followed all that was taken. It gives
  -- none only where the end knew of none that waits, and the end is then unchanged.
  pub record IsTake (follows : List T → F → T → Type 0) (old : End T F) (result : Option T)
      (new : End T F) : Type 0 where
    pub some : IfSome result (λ x. Loses old x new)
    pub legal : IfSome result (λ x. follows old.taken old.floor x)
    pub port : IsSamePort old new
    pub empty : IfNone result (old.ahead ≡ [])
    pub none : IfNone result (new ≡ old)

  -- An end for takes, d before and e after, met the end for puts, i before and j after. Both then
  -- know all that was put and all that was taken, and this many items wait.
  pub record AreBeside (follows : List T → F → T → Type 0) (d e i j : End T F) (waiting : ℕ)
      : Type 0 where
    pub value : waiting ≡ length e.ahead
    pub put : all_put e ≡ all_put i
    pub taken : e.taken ≡ d.taken
    pub within : waiting ≤ j.places
    pub known : IsPrefix d.ahead e.ahead
    pub input : (j.taken ≡ e.taken) × (j.ahead ≡ e.ahead)
    pub floor : d.floor ≡ i.floor
    pub legal : IsLegal follows e.floor (all_put e)
    pub ports : IsSamePort d e × IsSamePort i j

  -- what a pass knows
  abbrev pub known_of : Pass T (Known T F) → Known T F
  known_of pass = view pass

  -- it may put, and not take
  abbrev pub IsPutter : Known T F → Type 0
  IsPutter v = (v.puts ≡ true) × (v.takes ≡ false)

  -- it may take, and not put
  abbrev pub IsTaker : Known T F → Type 0
  IsTaker v = (v.puts ≡ false) × (v.takes ≡ true)

-- the end made of a channel and a pass
abbrev pub end_of :
    {T F Q M L A : Type 0}
    → Rows (Badge (Key T)) (Doing T (Known T F)) Q M (Key T) L A
    → Pass T (Known T F) → End T F
end_of c pass =
    record {
      port = (c.stamps.shared.table_id, c.stamps.shared.key);
      places = c.cap;
      floor = (known_of pass).floor;
      taken = (known_of pass).taken;
      ahead = (known_of pass).ahead;
    }
