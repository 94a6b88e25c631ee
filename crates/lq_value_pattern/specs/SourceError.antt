-- The form in contracts of why a source isn't read.
use Rattle.std.specs.Prelude.{◌≡◌, Option, None, Result, OnOk, IfErr, unwrap_or}
use Rattle.lq_value_pattern.specs.declared.error.SourceError.{SourceError}
use Rattle.lq_value_pattern.specs.declared.error.SourceError.TheVariants.{NoMemory}

-- Where `error` is an error, the call fails with exactly that one. Otherwise the call succeeds, or
-- memory ran out.
abbrev pub IsFailedBy : {T : Type 0} → Result T SourceError → Option SourceError → Type 0
IsFailedBy result error =
    OnOk result (error ≡ None) × IfErr result (λ e. e ≡ unwrap_or error NoMemory)
