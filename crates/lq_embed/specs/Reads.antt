-- Several reads of a slot in one call: what that many reads would do, one after another.
use Rattle.std.specs.Prelude.{◌≡◌, ◌≢◌, ◌⊎◌, ◌-◌, ◌^◌, ℕ, zero, suc, List, [], ◌∷◌, ◌++◌, length, Bool, true, false, Result, Ok, Err}
use Rattle.lq_value.specs.declared.refusal.Refusal.{Refusal}
use Rattle.lq_update.specs.declared.parcel.Parcel.TheVariants.{Update}
use Rattle.lq_desk_world.specs.declared.event.Event.TheVariants.{Close, Finish, Take}
use Rattle.lq_desk_world.specs.Events.{Answer, Took, Refused}
use Rattle.lq_script_desk.specs.Turned.{Turned}
use Rattle.lq_embed.specs.declared.out_structs.MessageOut.{MessageOut}
use Rattle.lq_embed.specs.Calls.{Acts, Ends}
use Rattle.lq_embed.specs.Outs.{read_after}
use Rattle.lq_embed.specs.SessionState.{SessionState, with_session}
use Rattle.lq_embed.specs.Status.{outcome_status}

-- ---- reads into a caller's places

-- what a read says of itself: whether it gave a message or the mark
abbrev pub read_gives : Answer → Result Bool Refusal
read_gives (Took parcel) = Ok true
read_gives (Refused refusal) = Err refusal
read_gives answer = Ok false

-- one of the reads
pub record ReadsOne (old new : SessionState) (slot : ℕ) (outcome : Result Bool Refusal)
    (before after : MessageOut) : Type 0 where
  pub answer : Answer
  pub turned : Turned old.session new.session (Take slot) answer
  pub parcel : outcome ≡ read_gives answer
  pub out : after ≡ read_after answer before
  pub beside : new ≡ with_session old new.session

-- a read for each place, one after another, each of which gave a message or the mark
abbrev pub ReadsEach : ℕ → SessionState → List MessageOut → List MessageOut → SessionState → Type 0
ReadsEach slot old [] after new = (after ≡ []) × (new ≡ old)
ReadsEach slot old (place ∷ places) after new =
    (next : SessionState) × (read : MessageOut) × (reads : List MessageOut) × (after ≡ read ∷ reads)
    × ReadsOne old next slot (Ok true) place read × ReadsEach slot next places reads new

-- the count that is written after the last read: none where it is refused
abbrev pub last_count : Result Bool Refusal → ℕ → ℕ → ℕ
last_count (Ok parcel) before count = count
last_count (Err refusal) before count = before

-- each place has a message or the mark
pub record FillsPlaces (old new : SessionState) (slot status : ℕ) (before after : List MessageOut)
    (got_before got : ℕ) : Type 0 where
  pub reads : ReadsEach slot old before after new
  pub code : status ≡ 0
  pub count : got ≡ length after

-- the places up to one have a message or the mark, and the next read gave neither
pub record IsStopped (old new : SessionState) (slot status : ℕ) (before after : List MessageOut)
    (got_before got : ℕ) : Type 0 where
  pub places : List MessageOut
  pub reads : List MessageOut
  pub place : MessageOut
  pub rest : List MessageOut
  pub from : before ≡ places ++ (place ∷ rest)
  pub to : after ≡ reads ++ (place ∷ rest)
  pub last : SessionState
  pub each : ReadsEach slot old places reads last
  pub outcome : Result Bool Refusal
  pub read : ReadsOne last new slot outcome place place
  pub none : outcome ≢ Ok true
  pub code : status ≡ outcome_status outcome
  pub count : got ≡ last_count outcome got_before (length reads)

abbrev pub ReadsMany : SessionState → SessionState → ℕ → ℕ → List MessageOut → List MessageOut → ℕ
    → ℕ → Type 0
ReadsMany old new slot status before after got_before got =
    FillsPlaces old new slot status before after got_before got
    ⊎ IsStopped old new slot status before after got_before got

-- ---- the end of a slot

-- whether a read gave a message
abbrev pub gives_message : Answer → Bool
gives_message (Took (Update message)) = true
gives_message answer = false

-- a read whose message is discarded
pub record Skips (old new : SessionState) (slot : ℕ) (there : Bool) : Type 0 where
  pub answer : Answer
  pub turned : Turned old.session new.session (Take slot) answer
  pub message : there ≡ gives_message answer
  pub beside : new ≡ with_session old new.session

-- that many reads, one after another, each of which gave a message
abbrev pub SkipsEach : ℕ → ℕ → SessionState → SessionState → Type 0
SkipsEach zero slot old new = new ≡ old
SkipsEach (suc count) slot old new =
    (last : SessionState) × SkipsEach count slot old last × Skips last new slot true

-- The query is ended, and that is refused where it has ended; the messages are read up to a read
-- that gives none, unless there are 2 ^ 64 of them; and the slot is freed.
pub record Drops (old new : SessionState) (slot status : ℕ) : Type 0 where
  pub closed : SessionState
  pub close_status : ℕ
  pub change : ℕ
  pub close : Ends old closed (Close slot) close_status 0 change
  pub count : ℕ
  pub told : SessionState
  pub messages : SkipsEach count slot closed told
  pub read : SessionState
  pub stops : Skips told read slot false ⊎ ((count ≡ 2 ^ 64 - 1) × (read ≡ told))
  pub finish : Acts read new (Finish slot) status
