-- What a call did: its answer, and by this its status, what it wrote, and the state after it.
use Rattle.std.specs.Prelude.{◌≡◌, ◌⊎◌, ℕ, List, [], ◌∷◌, Bool, true, false, Option, Some, None, Result, Ok, Err}
use Rattle.lq_value.specs.declared.entry.Entry.{Entry}
use Rattle.lq_value.specs.declared.refusal.Refusal.{Refusal}
use Rattle.lq_value.specs.declared.refusal.Refusal.TheVariants.{NoMemory, BadLine, BadQuery}
use Rattle.lq_value.specs.Refusal.{code_of}
use Rattle.lq_predicate.specs.Stacked.{Stacked}
use Rattle.lq_desk_world.specs.declared.event.Event.{Event as Event_}
use Rattle.lq_desk_world.specs.Events.{Answer, Opened, Refused}
use Rattle.lq_desk.specs.Ready.{TellsReady}
use Rattle.lq_script_request.specs.declared.request.Request.{Request}
use Rattle.lq_script_request.specs.declared.request.Request.TheVariants.{Event, Look}
use Rattle.lq_script_desk.specs.Response.{Response, Fetched, Rebuilt, Refuses}
use Rattle.lq_script_desk.specs.Session.{Session}
use Rattle.lq_script_desk.specs.Keeps.{without_fold}
use Rattle.lq_script_desk.specs.Answered.{Responds, line_outcome}
use Rattle.lq_script_desk.specs.Turned.{Turned}
use Rattle.lq_embed.specs.declared.out_structs.AppliedOut.{AppliedOut}
use Rattle.lq_embed.specs.declared.out_structs.OpeningOut.{OpeningOut}
use Rattle.lq_embed.specs.declared.out_structs.FetchedOut.{FetchedOut}
use Rattle.lq_embed.specs.declared.out_structs.RebuiltOut.{RebuiltOut}
use Rattle.lq_embed.specs.declared.out_structs.RowOut.{RowOut}
use Rattle.lq_embed.specs.declared.out_structs.MessageOut.{MessageOut}
use Rattle.lq_embed.specs.declared.out_structs.InfoOut.{InfoOut}
use Rattle.lq_embed.specs.Outs.{applied_after, opening_after, change_after, read_after, node_after, fetched_after, rebuilt_after, info_after, row_after}
use Rattle.lq_embed.specs.SessionState.{SessionState, volume_in, with_session, with_entries, with_fault, with_pushed}
use Rattle.lq_embed.specs.Status.{read_status, status_of, response_status}

-- ---- events

-- the call is refused with this, or for want of memory, and the session stays
abbrev pub IsBarred : Session → Session → Refusal → Answer → Type 0
IsBarred old new refusal answer =
    ((answer ≡ Refused refusal) ⊎ (answer ≡ Refused NoMemory)) × (new ≡ old)

-- A request's answer, and the session after it. A request that is refused as its values are read
-- changes nothing; an event has its turn, unless memory runs out before it.
abbrev pub Asks : Session → Session → Result Request Refusal → Answer → Type 0
Asks old new (Err refusal) answer = IsBarred old new refusal answer
Asks old new (Ok (Event event)) answer =
    IsBarred old new NoMemory answer ⊎ Turned old new event answer
Asks old new (Ok (Look look)) answer = IsBarred old new BadLine answer

-- a change
pub record Changes (old new : SessionState) (q : Result Request Refusal) (status : ℕ)
    (before after : AppliedOut) : Type 0 where
  pub answer : Answer
  pub asks : Asks old.session new.session q answer
  pub code : status ≡ status_of answer
  pub out : after ≡ applied_after answer before
  pub beside : new ≡ with_session old new.session

-- the state after a refusal, whose place is kept if it has one
abbrev pub state_after_refusal : Refusal → SessionState → SessionState
state_after_refusal (BadQuery offset) s = with_fault s offset
state_after_refusal refusal s = s

-- the state after the answer to an opening, whose result is to be given
abbrev pub state_after_opening : Answer → SessionState → SessionState
state_after_opening (Opened slot at result) s = with_entries s result
state_after_opening (Refused refusal) s = state_after_refusal refusal s
state_after_opening answer s = s

-- an opening, and the stack of pushes afterwards
pub record Opens (old new : SessionState) (stack : Stacked) (q : Result Request Refusal)
    (status : ℕ)
    (before after : OpeningOut) : Type 0 where
  pub answer : Answer
  pub asks : Asks old.session new.session q answer
  pub code : status ≡ status_of answer
  pub out : after ≡ opening_after answer before
  pub kept : new ≡ state_after_opening answer (with_pushed (with_session old new.session) stack)

-- a read of a slot
pub record ReadsSlot (old new : SessionState) (event : Event_) (status : ℕ)
    (before after : MessageOut) : Type 0 where
  pub answer : Answer
  pub turned : Turned old.session new.session event answer
  pub code : status ≡ read_status answer
  pub out : after ≡ read_after answer before
  pub beside : new ≡ with_session old new.session

-- the end of a subscription, which gives the last change that it covers
pub record Ends (old new : SessionState) (event : Event_) (status : ℕ) (before after : ℕ) :
    Type 0 where
  pub answer : Answer
  pub turned : Turned old.session new.session event answer
  pub code : status ≡ status_of answer
  pub out : after ≡ change_after answer before
  pub beside : new ≡ with_session old new.session

-- another act at a slot, which gives nothing
pub record Acts (old new : SessionState) (event : Event_) (status : ℕ) : Type 0 where
  pub answer : Answer
  pub turned : Turned old.session new.session event answer
  pub code : status ≡ status_of answer
  pub beside : new ≡ with_session old new.session

-- the bit of each slot in this word tells whether a read of it would give a message or the mark
abbrev pub TellsSlots : SessionState → ℕ → Type 0
TellsSlots s word = TellsReady s.session.core word

-- the state with no rebuilt result at a slot
abbrev pub forgotten : SessionState → ℕ → SessionState
forgotten s slot = with_session s (without_fold s.session slot)

-- ---- looks

-- the state after a fetch and after a look at a slot: a result that was made is to be given
abbrev pub state_after_fetch : Response → SessionState → SessionState
state_after_fetch (Fetched at result) s = with_entries s result
state_after_fetch (Refuses refusal) s = state_after_refusal refusal s
state_after_fetch response s = s

abbrev pub state_after_rebuilt : Response → SessionState → SessionState
state_after_rebuilt (Rebuilt change result settled) s = with_entries s result
state_after_rebuilt response s = s

-- the node at a place
pub record FindsNode (old new : SessionState) (q : Result Request Refusal) (status : ℕ)
    (before after : ℕ)
    : Type 0 where
  pub response : Response
  pub responds : Responds old.session q response
  pub code : status ≡ response_status response
  pub out : after ≡ node_after response before
  pub stays : new ≡ old

-- a fetch, and the stack of pushes afterwards
pub record Fetches (old new : SessionState) (stack : Stacked) (q : Result Request Refusal)
    (status : ℕ)
    (before after : FetchedOut) : Type 0 where
  pub response : Response
  pub responds : Responds old.session q response
  pub code : status ≡ response_status response
  pub out : after ≡ fetched_after response before
  pub kept : new ≡ state_after_fetch response (with_pushed old stack)

-- a slot's rebuilt result
pub record Rebuilds (old new : SessionState) (q : Result Request Refusal) (status : ℕ)
    (before after : RebuiltOut) : Type 0 where
  pub response : Response
  pub responds : Responds old.session q response
  pub code : status ≡ response_status response
  pub out : after ≡ rebuilt_after response before
  pub kept : new ≡ state_after_rebuilt response old

-- the entry of a node
pub record ShowsEntry (old new : SessionState) (q : Result Request Refusal) (status : ℕ)
    (before after : InfoOut) : Type 0 where
  pub code : status ≡ response_status (line_outcome old.session q).0
  pub out : after ≡ info_after (line_outcome old.session q).0 before
  pub stays : new ≡ old

-- ---- pushes

-- A push. One that is read and fits gives the stack after it, or memory runs out. One that doesn't
-- fit is refused, and the number of pushes before it is kept as its place. A refused push leaves
-- the stack.
abbrev pub Pushes : SessionState → SessionState → Result (Option Stacked) Refusal → ℕ → Type 0
Pushes old new (Err refusal) status =
    (status ≡ code_of refusal) × (new ≡ state_after_refusal refusal old)
Pushes old new (Ok None) status = (status ≡ 20) × (new ≡ with_fault old old.pushed.pushes)
Pushes old new (Ok (Some stack)) status =
    ((status ≡ 0) × (new ≡ with_pushed old stack)) ⊎ ((status ≡ 15) × (new ≡ old))

-- the next entry of a result, if there is one
abbrev pub GivesRow : SessionState → SessionState → Bool → RowOut → RowOut → List Entry → Type 0
GivesRow old new there before after [] = (there ≡ false) × (new ≡ old) × (after ≡ before)
GivesRow old new there before after (entry ∷ entries) = (there ≡ true)
    × (new ≡ with_entries old entries) × (after ≡ row_after (volume_in old) entry before)
