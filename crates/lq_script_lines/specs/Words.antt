-- What the program's arguments ask for.
use Rattle.std.specs.Prelude.{◌≡◌, ◌⊎◌, ℕ, List, [], ◌∷◌, Bool, false, codes, map, nat_eq, not, ◌&&◌, String}
use Rattle.std.specs.Str.{bytes_eq}
use Rattle.std.specs.List.{starts_with}
use Rattle.std.specs.String.{string_bytes}
use Rattle.lq_script_lines.specs.declared.command_line.Subcommand.{Subcommand}
use Rattle.lq_script_lines.specs.declared.command_line.Subcommand.TheVariants.{Run, Threads, Check}

-- the texts of the arguments
abbrev pub texts_of : {Z : Type 0} → List (String Z) → List (List ℕ)
texts_of words = map string_bytes words

-- `run`
abbrev pub IsRun : List (List ℕ) → Type 0
IsRun words = words ≡ codes "run" ∷ []

-- `threads`
abbrev pub IsThreads : List (List ℕ) → Type 0
IsThreads words = words ≡ codes "threads" ∷ []

-- `check FORMULA`, where it doesn't begin with `-`, or `check -- FORMULA`
abbrev pub IsCheckOf : List (List ℕ) → List ℕ → Type 0
IsCheckOf words formula =
    ((words ≡ codes "check" ∷ formula ∷ []) × (starts_with nat_eq formula (codes "-") ≡ false))
    ⊎ (words ≡ codes "check" ∷ codes "--" ∷ formula ∷ [])

-- any other arguments
pub record IsUsage (words : List (List ℕ)) : Type 0 where
  pub not_run : ¬ IsRun words
  pub not_threads : ¬ IsThreads words
  pub not_check : (formula : List ℕ) → ¬ IsCheckOf words formula

-- the second of two arguments begins with `-`, or the third of three is `--` and the second isn't
abbrev pub has_stray : List (List ℕ) → Bool
has_stray (first ∷ second ∷ []) = starts_with nat_eq second (codes "-")
has_stray (first ∷ second ∷ third ∷ []) =
    not (bytes_eq second (codes "--")) && bytes_eq third (codes "--")
has_stray words = false

-- the arguments ask for this
abbrev pub IsAskedBy : List (List ℕ) → Subcommand → Type 0
IsAskedBy words Run = IsRun words
IsAskedBy words Threads = IsThreads words
IsAskedBy words (Check formula) = IsCheckOf words formula.now
