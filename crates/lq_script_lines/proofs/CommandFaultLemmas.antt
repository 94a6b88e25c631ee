-- The only words that are no fault of the program's command.
use Rattle.std.proofs.Common.{◌≡◌, ◌∙◌, inl, inr, ℕ, Bool, true, false, refl, sym, ap, subst, codes, List, [], ◌∷◌, Option, Some, None}
use Rattle.std.specs.Prelude.{find, fold}
use Rattle.std.specs.Str.{bytes_eq}
use Rattle.std.proofs.lemmas.Slice.Eq.{bytes_eq-Decides}
use Rattle.clap.specs.Walk.{Text, Names, Held, Row, Walk, Step, answers_to, idle, trailing, value, walk, walked, walk_from, nothing_held, subcommand_or_other, arg_by_long, arg_by_short, after_step, subcommand_met, word_met}
use Rattle.clap.specs.Simple.{Shape, built, label_of}
use Rattle.clap.specs.Kinds.{Kinds, or_else}
use Rattle.clap.specs.Faults.{entered_fault, fault_of, step_fault, turn_fault, walk_fault, word_fault}
use Rattle.clap.specs.declared.error.kind.ErrorKind.{ErrorKind}
use Rattle.clap.proofs.OnLiterals.{clap_on_literals}
use Rattle.clap.proofs.WalkLemmas.{walk_stopped}
use Rattle.lq_script_lines.specs.CommandLine.{lq_app}
use Rattle.lq_script_lines.specs.Words.{IsCheckOf, has_stray}
use Rattle.lq_script_lines.proofs.CommandWalkLemmas.{Asks, at_place, bare_shape, check_shape, held_with, names, top, value_met}

-- a list that has a fault isn't empty
no_kind : {P : Type 0} (k : ErrorKind) (ks : Kinds) → k ∷ ks ≡ [] → P
no_kind k ks e = absurd (cc)

-- where the first of two faults, or else the second, is none, both are
both_pass : (a b : Kinds) → or_else a b ≡ [] → (a ≡ []) × (b ≡ [])
both_pass [] b h = (refl, h)
both_pass (k ∷ ks) b h = no_kind k ks h

-- two texts are one, or their test finds that they aren't
by_text : {P : Type 0} (a b : Text) → (a ≡ b → P) → (bytes_eq a b ≡ false → P) → P
by_text {P} a b same other = by (bytes_eq a b) refl
  where
    by : (t : Bool) → bytes_eq a b ≡ t → P
    by true t = same ((bytes_eq-Decides a b).0 t)
    by false t = other t

-- where a word and those after it are no fault, neither its step nor they are one
turn_passes : (s : Shape) (names : Names) (h : Held) (position : ℕ) (is_trailing : Bool)
    (word : Text) (rest : List Text) (step : Step)
    → word_met s.rules names is_trailing idle position word h ≡ (h, step)
    → walk_fault s names (at_place h position is_trailing) (word ∷ rest) ≡ []
    → (step_fault s position h step ≡ [])
    × (walk_fault s names (after_step s.rules word (at_place h position is_trailing) h step) rest
    ≡ [])
unfolding walk_fault walked
turn_passes s names h position is_trailing word rest step met e =
    let w : Walk = at_place h position is_trailing in
    let m : Held × Step = word_met s.rules names is_trailing idle position word h in
    let both = both_pass (turn_fault s names w word)
    (walk_fault s names (walked s.rules names w word) rest) e in (
      subst (λ (x : Held × Step). step_fault s position x.0 x.1 ≡ []) met
          (both_pass (word_fault s names is_trailing idle word h) (step_fault s position m.0 m.1)
          both.0).1,
      subst (λ (x : Held × Step). walk_fault s names (after_step s.rules word w x.0 x.1) rest ≡ [])
          met both.1,
    )

-- at a place where a value is a fault, and where no option has a name
module _ (s : Shape) (names : Names) (rows : List Row) (pending : Option (Text × List Text))
    (position : ℕ) (stray : step_fault s position (held_with rows pending) value ≡ [] → ⊥) where
  -- no word stands behind `--`
  none_behind : (words : List Text)
      → walk_fault s names (at_place (held_with rows pending) position true) words ≡ []
      → words ≡ []
  none_behind [] e = refl
  none_behind (word ∷ rest) e = absurd (stray (turn_passes s names (held_with rows pending)
      position true word rest value refl e).0)

  -- a word that names no subcommand is a last `--`
  only_dashes : (no_long : (name : Text) → arg_by_long s.rules name ≡ None)
      (no_short : (x : ℕ) → arg_by_short s.rules x ≡ None) (word : Text) (rest : List Text)
      → subcommand_met names idle word ≡ None
      → walk_fault s names (at_place (held_with rows pending) position false) (word ∷ rest) ≡ []
      → word ∷ rest ≡ codes "--" ∷ []
  only_dashes no_long no_short word rest none e =
      by_text word (codes "--") (λ is.
      let behind : rest ≡ [] = none_behind rest (passes (trailing position) (rw is)).1 in cc)
      (λ other. absurd (stray (passes value
      (value_met s.rules no_long no_short word rows pending position other)).0))
    where
      passes : (step : Step)
          → subcommand_or_other s.rules None idle position word (held_with rows pending)
          ≡ (held_with rows pending, step)
          → (step_fault s position (held_with rows pending) step ≡ [])
          × (walk_fault s names (after_step s.rules word
          (at_place (held_with rows pending) position false) (held_with rows pending) step) rest
          ≡ [])
      passes step met = turn_passes s names (held_with rows pending) position false word rest step
          (ap (λ (o : Option Text). subcommand_or_other s.rules o idle position word
          (held_with rows pending)) none ∙ met) e

-- where the words are no fault, those behind the name of a subcommand are none at its own level
below : (name : Text) (s : Shape) (rest : List Text)
    → walked top.rules names (walk_from nothing_held) name
    ≡ record (walk_from nothing_held) { stopped = Some (name, []) }
    → find (λ s. answers_to name (label_of s)) (built lq_app).subs ≡ Some s
    → fault_of lq_app (name ∷ rest) ≡ []
    → walk_fault s [] (at_place nothing_held 1 false) rest ≡ []
below name s rest first found e =
    let stopped : Option (Text × List Text) =
    (walk top.rules names nothing_held (name ∷ rest)).stopped in
    let stops : stopped ≡ Some (name, rest) =
    ap (λ (w : Walk). (fold (walked top.rules names) w rest).stopped) first
    ∙ sym (ap (λ (w : Walk). w.stopped)
    (walk_stopped top.rules names (walk_from nothing_held) name [] rest)) in
    let entered : entered_fault (built lq_app) (Some (name, rest)) ≡ [] =
    rw stops at (both_pass (entered_fault (built lq_app) stopped) _
    (both_pass (walk_fault top names (walk_from nothing_held) (name ∷ rest)) _ e).1).0 in
    (both_pass (walk_fault s [] (walk_from nothing_held) rest) _ (rw found at entered)).0

-- a word that names no subcommand is a fault
other_word : {P : Type 0} (word : Text) (rest : List Text)
    → subcommand_met names idle word ≡ None → fault_of lq_app (word ∷ rest) ≡ [] → P
unfolding clap_on_literals
other_word word rest none e =
    let dashes : word ∷ rest ≡ codes "--" ∷ [] =
    only_dashes top names [] None 1 (no_kind _ _) (λ n. refl) (λ x. refl) word rest none
    (both_pass (walk_fault top names (walk_from nothing_held) (word ∷ rest)) _ e).0 in
    no_kind _ _ (subst (λ (w : List Text). fault_of lq_app w ≡ []) dashes e)

-- nothing stands behind a subcommand without arguments
alone : (name : Text) (words : List Text) → has_stray (name ∷ words) ≡ false
    → walk_fault (bare_shape name) [] (at_place nothing_held 1 false) words ≡ []
    → name ∷ words ≡ name ∷ []
unfolding clap_on_literals
alone name [] stray e = refl
alone name (word ∷ rest) stray e =
    let dashes : word ∷ rest ≡ codes "--" ∷ [] =
    only_dashes (bare_shape name) [] [] None 1 (no_kind _ _) (λ n. refl) (λ x. refl) word rest refl
    e in
    let bad : true ≡ false =
    subst (λ (w : List Text). has_stray (name ∷ w) ≡ false) dashes stray in
    absurd (cc)

-- behind `check` stands a formula, or `--` and a formula
check_form : (words : List Text)
    → has_stray (codes "check" ∷ words) ≡ false → fault_of lq_app (codes "check" ∷ words) ≡ []
    → (formula : Text) × IsCheckOf (codes "check" ∷ words) formula
unfolding clap_on_literals
check_form [] stray e = no_kind _ _ e
check_form (word ∷ []) stray e = (word, inl (refl, stray))
check_form (word ∷ next ∷ rest) stray e =
    by_text word (codes "--") (λ is.
    let behind = (turn_passes check_shape [] nothing_held 1 true next rest value refl
    (turn_passes check_shape [] nothing_held 1 false word (next ∷ rest) (trailing 1) (rw is)
    first).1).1 in
    let none : rest ≡ [] = none_behind check_shape [] [] (Some (codes "formula", next ∷ [])) 2
    (no_kind _ _) rest behind in
    (next, inr (cc)))
    (λ other.
    let dashes : next ∷ rest ≡ codes "--" ∷ [] =
    only_dashes check_shape [] [] (Some (codes "formula", word ∷ [])) 2 (no_kind _ _) (λ n. refl)
    (λ x. refl) next rest refl (turn_passes check_shape [] nothing_held 1 false word (next ∷ rest)
    value (value_met check_shape.rules (λ n. refl) (λ x. refl) word [] None 1 other) first).1 in
    let bad : true ≡ false = rw other at
    (subst (λ (w : List Text). has_stray (codes "check" ∷ word ∷ w) ≡ false) dashes stray) in
    absurd (cc))
  where
    first : walk_fault check_shape [] (at_place nothing_held 1 false) (word ∷ next ∷ rest) ≡ []
    first = below (codes "check") check_shape (word ∷ next ∷ rest) refl refl e

-- the words that clap takes ask for a subcommand
pub taken : (words : List Text) → has_stray words ≡ false → fault_of lq_app words ≡ []
    → (p : Text × Option Text) × Asks words p
unfolding clap_on_literals
taken [] stray e = no_kind _ _ e
taken (word ∷ rest) stray e =
    by_text (codes "run") word (λ is. at_name is (λ s f. (
      (codes "run", None),
      inl (alone (codes "run") rest s (below (codes "run") _ rest refl refl f), refl),
    )))
    (λ run. by_text (codes "threads") word (λ is. at_name is (λ s f. (
      (codes "threads", None),
      inr (inl (alone (codes "threads") rest s (below (codes "threads") _ rest refl refl f), refl)),
    )))
    (λ threads. by_text (codes "check") word (λ is. at_name is (λ s f.
    let form = check_form rest s f in
    ((codes "check", Some form.0), inr (inr (form.0, (form.1, refl))))))
    (λ check. other_word word rest (rw (run, threads, check)) e)))
  where
    Taken : Text → Type 0
    Taken name = has_stray (name ∷ rest) ≡ false → fault_of lq_app (name ∷ rest) ≡ []
        → (p : Text × Option Text) × Asks (name ∷ rest) p

    -- the first word is this name
    at_name : {name : Text} → name ≡ word → Taken name
        → (p : Text × Option Text) × Asks (word ∷ rest) p
    at_name is form = subst Taken is form stray e
