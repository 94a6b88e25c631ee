-- The numbers of results, and the count of pushes, which a handle keeps beside its pointer.
use Rattle.std.specs.Prelude.{◌≡◌, ◌==◌, ◌&&◌, ◌+◌, ◌%◌, ◌^◌, ℕ, List, Bool, true, false, nat_lt, Result, Option, if◌then◌else◌}
use Rattle.lq_value.specs.declared.refusal.Refusal.{Refusal}
use Rattle.lq_predicate.specs.Stacked.{Stacked}
use Rattle.lq_embed.specs.declared.out_structs.RowOut.{RowOut}
use Rattle.lq_embed.specs.Calls.{GivesRow, Pushes}
use Rattle.lq_embed.specs.Rows.{TakesRows}
use Rattle.lq_embed.specs.SessionState.{SessionState}

-- ---- results

-- how many results a handle has made after a call with this status: one that isn't refused makes
-- the next; the count has 64 bits
abbrev pub made_after : ℕ → ℕ → ℕ
made_after status made = if status == 0 then (made + 1) % 2 ^ 64 else made

-- the number that is written for the caller
abbrev pub shown_after : ℕ → ℕ → ℕ → ℕ
shown_after status made shown = if status == 0 then (made + 1) % 2 ^ 64 else shown

-- whether a number is that of the latest result; 0 is none
abbrev pub is_latest : ℕ → ℕ → Bool
is_latest made number = nat_lt 0 number && number == made

-- the next entries of the latest result; any other is refused
abbrev pub TakesOf : Bool → SessionState → SessionState → ℕ → List RowOut → List RowOut → ℕ
    → ℕ → Type 0
TakesOf true old new status before after got_before got =
    (status ≡ 0) × TakesRows old new got before after
TakesOf false old new status before after got_before got =
    (status ≡ 40) × (new ≡ old) × (after ≡ before) × (got ≡ got_before)

-- the status of a call for the next entry: 4 where there is none
abbrev pub next_status : Bool → ℕ
next_status there = if there then 0 else 4

-- the next entry of the latest result; any other is refused
abbrev pub GivesNext : Bool → SessionState → SessionState → ℕ → RowOut → RowOut → Type 0
GivesNext true old new status before after =
    (there : Bool) × (status ≡ next_status there) × GivesRow old new there before after old.entries
GivesNext false old new status before after = (status ≡ 40) × (new ≡ old) × (after ≡ before)

-- ---- pushes

-- whether a stack takes another push
abbrev pub has_room : ℕ → Bool
has_room pushes = nat_lt pushes 4096

-- how many pushes were accepted after one with this status
abbrev pub after_push : ℕ → ℕ → ℕ
after_push status pushes = if status == 0 then pushes + 1 else pushes

-- and after a call with this status that takes the stack's only item, if it has one alone
abbrev pub after_take : ℕ → ℕ → ℕ
after_take status pushes = if status == 20 then pushes else 0

-- a push where there is room for it, and a refusal where there is none
abbrev pub PushesIn : Bool → SessionState → SessionState → Result (Option Stacked) Refusal → ℕ → ℕ
    → ℕ → Type 0
PushesIn true old new outcome status before after =
    Pushes old new outcome status × (after ≡ after_push status before)
PushesIn false old new outcome status before after =
    (status ≡ 40) × (new ≡ old) × (after ≡ before)
