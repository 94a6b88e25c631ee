-- A change under names that a predicate doesn't use tells its subscription nothing.
use Rattle.std.proofs.Common.{◌≡◌, ℕ, ◌+◌, List, [], ◌∷◌, ◌++◌, ◌∙◌, ap, Some, None, Option, Bool, true, false, refl}
use Rattle.std.specs.Prelude.{not, ◌||◌, if◌then◌else◌}
use Rattle.std.specs.List.{list_any, AllByRecursion}
use Rattle.std.specs.Str.{bytes_eq}
use Rattle.lq_predicate.specs.Query.{Query}
use Rattle.lq_predicate.specs.Names.{names_of}
use Rattle.lq_predicate.specs.Laws.{TruthGoesByNames}
use Rattle.lq_volume.specs.declared.change.Change.{Change}
use Rattle.lq_volume.specs.State.{State, IsVolume}
use Rattle.lq_update.specs.Laws.{ChangesPassOver, names_altered}
use Rattle.lq_update.specs.declared.open_options.Flags.{Flags}
use Rattle.lq_update.specs.Updates.{numbered, step_of}
use Rattle.lq_update.specs.Values.{values_told}
use Rattle.lq_desk_sub.specs.Passing.{is_name_among, are_apart, passes_over}

-- none of the names that are apart is one of the others
none-among : (names altered : List (List ℕ)) → list_any (is_name_among names) altered ≡ false
    → AllByRecursion (λ name. list_any (bytes_eq name) names ≡ false) altered
none-among names [] h = tt
none-among names (one ∷ altered) h =
    by (is_name_among names one) refl h (λ more. none-among names altered more)
  where
    by : (b : Bool) → is_name_among names one ≡ b
        → (b || list_any (is_name_among names) altered) ≡ false
        → (list_any (is_name_among names) altered ≡ false
        → AllByRecursion (λ name. list_any (bytes_eq name) names ≡ false) altered)
        → (is_name_among names one ≡ false)
        × AllByRecursion (λ name. list_any (bytes_eq name) names ≡ false) altered
    by true is h more = absurd (let bad : ⊥ = cc in bad)
    by false is h more = (is, more h)

-- what is not true is false
pub flip : (b : Bool) → not b ≡ true → b ≡ false
flip true h = absurd (let bad : ⊥ = cc in bad)
flip false h = refl

-- such a change has no messages, without those of values
pub step-empty : ChangesPassOver
    → TruthGoesByNames → (q : Query) (flags : Flags) (s : State) (c : Change) (n : ℕ) → IsVolume s
    → flags.values ≡ false → passes_over (names_of q) c ≡ true → step_of q flags s c n ≡ []
step-empty over names q flags s c n v unasked h = by (names_altered c) refl h
  where
    by : (o : Option (List (List ℕ))) → names_altered c ≡ o → are_apart (names_of q) o ≡ true
        → step_of q flags s c n ≡ []
    by None is h = absurd (let bad : ⊥ = cc in bad)
    by (Some altered) is h =
        let apart : list_any (is_name_among (names_of q)) altered ≡ false =
        flip (list_any (is_name_among (names_of q)) altered) h in
        ap (λ xs. numbered n (s.number + 1)
        (xs ++ (if flags.values then values_told q s c else [])))
        (over q flags.moved s c (names_of q) altered v (names q) is
        (none-among (names_of q) altered apart))
        ∙ rw unasked refl
