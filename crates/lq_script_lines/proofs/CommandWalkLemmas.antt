-- What clap's walk does with the words that ask for something.
use Rattle.std.proofs.Common.{arith, ◌≡◌, ◌⊎◌, ℕ, Bool, true, false, refl, codes, List, [], ◌∷◌, length, zero, suc, Option, Some, None, option_map}
use Rattle.std.specs.Prelude.{nat_eq, slice_get, unwrap_or}
use Rattle.std.specs.List.{starts_with}
use Rattle.std.specs.Str.{bytes_eq, chars}
use Rattle.std.proofs.lemmas.Bool.Decides.{nat_tests}
use Rattle.clap.specs.Lexer.{long_of, short_of}
use Rattle.clap.specs.Walk.{Text, Rule, Row, Names, Held, Walk, idle, value, subcommand_or_other, long_or_other, short_or_plain, after_flag, bundle_met, bundle_step, arg_by_long, arg_by_short, first_of, plain}
use Rattle.clap.specs.Simple.{Shape, built, built_leaf, inherited, is_simple, marked_built, names_of, subcommand_of}
use Rattle.clap.specs.Faults.{fault_of, is_simple_and_free}
use Rattle.clap.proofs.OnLiterals.{clap_on_literals}
use Rattle.lq_script_lines.specs.CommandLine.{bare_command, lq_app, lq_top}
use Rattle.lq_script_lines.specs.Words.{IsCheckOf, IsRun, IsThreads}

-- the command is one that clap's clauses speak of
pub is_plain : is_simple lq_app ≡ true
unfolding clap_on_literals
is_plain = refl

-- and clap reads it as they say
pub is_free : is_simple_and_free lq_app ≡ true
unfolding clap_on_literals
is_free = refl

-- a text whose first byte is no `-`
not_dash : (x : ℕ) (xs : Text) → starts_with nat_eq (x ∷ xs) (codes "-") ≡ false
    → nat_eq x 45 ≡ false
not_dash x xs h = grind (arith, nat_tests)

-- ---- a formula behind `check`

-- the command's subcommands, as they are built
abbrev pub top : Shape
top = (built lq_app).top

-- the names of the subcommands
abbrev pub names : Names
names = names_of (built lq_app)

-- a subcommand without arguments, as it is built
abbrev pub bare_shape : Text → Shape
bare_shape name = built_leaf (inherited (marked_built lq_top.top) (bare_command name).top)

-- the subcommand `check`
abbrev pub check_shape : Shape
check_shape = unwrap_or (slice_get (built lq_app).subs 2) top

-- where a walk stands between two words
abbrev pub held_with : List Row → Option (Text × List Text) → Held
held_with rows pending = record { rows = rows; pending = pending; skip = 0 }

-- a walk that has come to a position
abbrev pub at_place : Held → ℕ → Bool → Walk
at_place h position is_trailing = record {
  held = h;
  waiting = idle;
  position = position;
  is_trailing = is_trailing;
  stopped = None;
}

-- where no option has a name, a word that names no subcommand and isn't `--` is a value
module _ (c : List Rule) (no_long : (name : Text) → arg_by_long c name ≡ None)
    (no_short : (x : ℕ) → arg_by_short c x ≡ None) (word : Text) (rows : List Row)
    (pending : Option (Text × List Text)) where
  -- read as a bundle of options, the word is a value at its next byte, or at its end
  by_char : (k : ℕ) (flags : Text) (o : Option ℕ)
      → let h = held_with rows pending in
      after_flag c idle word (bundle_step c o flags 0 plain h (bundle_met c k)).0
      (bundle_step c o flags 0 plain h (bundle_met c k)).1 ≡ (h, value)
  by_char k flags None = refl
  by_char k flags (Some x) = rw (no_short x)

  -- and so it is whatever bytes are left
  by_flags : (k : ℕ) (flags : Text)
      → after_flag c idle word (bundle_met c k flags 0 plain (held_with rows pending)).0
      (bundle_met c k flags 0 plain (held_with rows pending)).1 ≡ (held_with rows pending, value)
  unfolding bundle_met
  by_flags zero flags = refl
  by_flags (suc k) flags = by_char k flags (slice_get (chars flags) 0)

  -- a word that may begin with `-` is a value
  by_short : (o : Option Text)
      → short_or_plain c idle word o (held_with rows pending) ≡ (held_with rows pending, value)
  by_short None = refl
  by_short (Some flags) = by_flags (length flags) flags

  -- a word that may begin with `--` is a value
  by_long : (o : Option (Text × Option Text))
      → long_or_other c idle word o (held_with rows pending) ≡ (held_with rows pending, value)
  by_long None = by_short (short_of word)
  by_long (Some p) = rw (no_long p.0)

  -- a word that names no subcommand and isn't `--` is a value
  pub value_met : (position : ℕ) → bytes_eq word (codes "--") ≡ false
      → subcommand_or_other c None idle position word (held_with rows pending)
      ≡ (held_with rows pending, value)
  value_met position e = rw e (by_long (long_of word))

-- the subcommand that a parse gives, with its formula
abbrev pub given : List Text → Option (Text × Option Text)
given words = option_map (λ p. (p.0, first_of (codes "formula") p.1)) (subcommand_of lq_app words)

-- `check` with a text that doesn't begin with `-` is no fault, and gives that text
pub check_taken : (formula : Text) → starts_with nat_eq formula (codes "-") ≡ false
    → (fault_of lq_app (codes "check" ∷ formula ∷ []) ≡ [])
    × (given (codes "check" ∷ formula ∷ []) ≡ Some (codes "check", Some formula))
unfolding clap_on_literals
check_taken [] h = (refl, refl)
check_taken (x ∷ xs) h =
    let plain : nat_eq x 45 ≡ false = not_dash x xs h in
    let short : short_of (x ∷ xs) ≡ None = rw plain in
    rw (plain, short) (refl, refl)

-- the words ask for the subcommand of this name, with this formula
abbrev pub Asks : List Text → Text × Option Text → Type 0
Asks words p = (IsRun words × (p ≡ (codes "run", None)))
    ⊎ ((IsThreads words × (p ≡ (codes "threads", None)))
    ⊎ ((formula : Text) × (IsCheckOf words formula × (p ≡ (codes "check", Some formula)))))
