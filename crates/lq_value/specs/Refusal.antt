-- Why a call is refused: each refusal's number and name, and its form in contracts.
use Rattle.std.specs.Prelude.{◌≡◌, ℕ, List, [], ◌∷◌, Bool, Option, Some, None, Result, OnOk, IfErr, unwrap_or, if◌then◌else◌, codes}
use Rattle.lq_value.specs.declared.refusal.Refusal.{Refusal}
use Rattle.lq_value.specs.declared.refusal.Refusal.TheVariants.{BadName, NoNode, NotFolder, NoEntry, Exists, WouldLoop, NotEmpty, KindClash, IsFolder, NoAttr, Reserved, TooLong, Exhausted, NoMemory, BadQuery, BadPort, BadBacklog, NoSlot, NoSeat, NotOpen, StillOpen, LongLine, NotUtf8, NotJson, BadLine, OutOfStep, Mismatch}

abbrev pub code_of : Refusal → ℕ
code_of BadName = 1
code_of NoNode = 2
code_of NotFolder = 3
code_of NoEntry = 4
code_of Exists = 5
code_of WouldLoop = 6
code_of NotEmpty = 7
code_of KindClash = 8
code_of IsFolder = 9
code_of NoAttr = 10
code_of Reserved = 11
code_of TooLong = 12
code_of Exhausted = 13
code_of NoMemory = 15
code_of (BadQuery place) = 20
code_of BadPort = 21
code_of BadBacklog = 22
code_of NoSlot = 23
code_of NoSeat = 24
code_of NotOpen = 25
code_of StillOpen = 26
code_of LongLine = 30
code_of NotUtf8 = 31
code_of NotJson = 32
code_of BadLine = 33
code_of OutOfStep = 34
code_of Mismatch = 35

abbrev pub refusal_name : Refusal → List ℕ
refusal_name BadName = codes "BadName"
refusal_name NoNode = codes "NoNode"
refusal_name NotFolder = codes "NotFolder"
refusal_name NoEntry = codes "NoEntry"
refusal_name Exists = codes "Exists"
refusal_name WouldLoop = codes "WouldLoop"
refusal_name NotEmpty = codes "NotEmpty"
refusal_name KindClash = codes "KindClash"
refusal_name IsFolder = codes "IsFolder"
refusal_name NoAttr = codes "NoAttr"
refusal_name Reserved = codes "Reserved"
refusal_name TooLong = codes "TooLong"
refusal_name Exhausted = codes "Exhausted"
refusal_name NoMemory = codes "NoMemory"
refusal_name (BadQuery place) = codes "BadQuery"
refusal_name BadPort = codes "BadPort"
refusal_name BadBacklog = codes "BadBacklog"
refusal_name NoSlot = codes "NoSlot"
refusal_name NoSeat = codes "NoSeat"
refusal_name NotOpen = codes "NotOpen"
refusal_name StillOpen = codes "StillOpen"
refusal_name LongLine = codes "LongLine"
refusal_name NotUtf8 = codes "NotUtf8"
refusal_name NotJson = codes "NotJson"
refusal_name BadLine = codes "BadLine"
refusal_name OutOfStep = codes "OutOfStep"
refusal_name Mismatch = codes "Mismatch"

-- the refusal of the first row whose test holds, in the order of the rows
abbrev pub first_refusal : List (Bool × Refusal) → Option Refusal
first_refusal [] = None
first_refusal (row ∷ rows) = if row.0 then Some row.1 else first_refusal rows

-- Where `refusal` is a refusal, the call is refused with exactly that one. Otherwise the call
-- succeeds, or memory ran out.
abbrev pub IsRefusedBy : {T : Type 0} → Result T Refusal → Option Refusal → Type 0
IsRefusedBy result refusal =
    OnOk result (refusal ≡ None) × IfErr result (λ e. e ≡ unwrap_or refusal NoMemory)

-- The call fails only for want of memory.
abbrev pub FailsOnlyForMemory : {T : Type 0} → Result T Refusal → Type 0
FailsOnlyForMemory result = IsRefusedBy result None
