-- Visits of the slots of a set, one after another.
use Rattle.std.proofs.Common.{◌≡◌, ◌≢◌, ℕ, zero, suc, List, [], ◌∷◌, Bool, true, false, Option, Some, None, refl, sym, ap, ◌∙◌, subst, slice_set, inl, inr}
use Rattle.std.specs.Prelude.{slice_get, not, ◌&&◌}
use Rattle.std.proofs.lemmas.Bool.{cases_eq, true≢false}
use Rattle.std.proofs.lemmas.List.{get_or-set_same, length-set}
use Rattle.std.proofs.lemmas.Option.{slice_get_read, slice_get_within}
use Rattle.lq_desk_sub.specs.SlotSet.{has, IsTakenOut}
use Rattle.lq_desk_sub.specs.Visits.{Visits}

-- another place than the one that is written is as it was
set-other : {A : Type 0} (xs : List A) (i j : ℕ) (y : A) → j ≢ i
    → slice_get (slice_set xs i y) j ≡ slice_get xs j
set-other [] i j y ne = refl
set-other (x ∷ xs) zero zero y ne = absurd (ne refl)
set-other (x ∷ xs) zero (suc j) y ne = refl
set-other (x ∷ xs) (suc i) zero y ne = refl
set-other (x ∷ xs) (suc i) (suc j) y ne = set-other xs i j y (λ same. ne (ap suc same))

module _ {T S : Type 0} (allows : S → ℕ → T → Type 0) (did : S → ℕ → T → T → Type 0)
    (set : ℕ) (xs : List (Option T)) (s : S)
  where
    -- the places of the set that aren't in the rest were visited; those of the rest may be
    pub record AreVisited (rest : ℕ) (ys : List (Option T)) (t : S) : Type 0 where
      pub visits : Visits allows did (λ i. has set i && not (has rest i)) xs ys s t
      pub within : (i : ℕ) → has rest i ≡ true → has set i ≡ true
      pub may : (i : ℕ) (x : T) → has rest i ≡ true → slice_get xs i ≡ Some (Some x)
          → allows t i x

    module _ (rest new place : ℕ) (ys : List (Option T)) (t : S) (out : IsTakenOut rest place new)
        (all : AreVisited rest ys t)
      where
        -- it wasn't visited before
        still : (has set place && not (has rest place)) ≡ false
        still = by (has set place) (has rest place) out.was
          where
            by : (a b : Bool) → b ≡ true → (a && not b) ≡ false
            by true true is = refl
            by false true is = refl
            by a false is = absurd (true≢false (sym is))

        -- what is in it
        pub here-was : slice_get ys place ≡ slice_get xs place
        here-was = all.visits.left place (λ x at. still)

        same : (i : ℕ) → i ≢ place
            → (has set i && not (has new i)) ≡ (has set i && not (has rest i))
        same i ne = ap (λ b. has set i && not b) (out.others i ne)

        done : (has set place && not (has new place)) ≡ true
        done = by (has set place) (has new place) (all.within place out.was) out.gone
          where
            by : (a b : Bool) → a ≡ true → b ≡ false → (a && not b) ≡ true
            by true false is none = refl
            by true true is none = absurd (true≢false none)
            by false b is none = absurd (true≢false (sym is))

        other : (i : ℕ) → has new i ≡ true → i ≢ place
        other i is e = true≢false (sym is ∙ (ap (has new) e ∙ out.gone))

        -- it is visited
        pub visited-more : (x y : T) (u : S) → slice_get ys place ≡ Some (Some x)
            → did u place x y
            → ((i : ℕ) (z : T) → i ≢ place → allows t i z → allows u i z)
            → ((i : ℕ) (v w : T) → i ≢ place → did t i v w → did u i v w)
            → AreVisited new (slice_set ys place (Some y)) u
        visited-more x y u at does apart stands = record {
          visits = record {
            visited = λ i z is was. elim (cases_eq i place) [
              | inl e ↦ (
                y,
                ap (slice_get (slice_set ys place (Some y))) e
                    ∙ slice_get_read (slice_set ys place (Some y)) _ place (Some y)
                    (sym (length-set ys place (Some y))) (slice_get_within ys place (Some x) at)
                    (sym (get_or-set_same ys place (Some y) (Some y)
                    (slice_get_within ys place (Some x) at))),
                (let at_i : slice_get xs place ≡ Some (Some z) = ap (slice_get xs) (sym e) ∙ was in
                    let one : x ≡ z = (let w = here-was in cc) in
                    subst (λ j. did u j z y) (sym e) (subst (λ v. did u place v y) one does)),
              )
              | inr ne ↦ let d = all.visits.visited i z (sym (same i ne) ∙ is) was in
                  (d.0, set-other ys place i (Some y) ne ∙ d.1, stands i z d.0 ne d.2)
            ];
            left = λ i idle. set-other ys place i (Some y) (apart_from i idle)
                ∙ all.visits.left i (λ z was. sym (same i (apart_from i idle)) ∙ idle z was);
            allowed = λ i z idle is. apart i z (apart_from i idle)
                (all.visits.allowed i z (λ v was. sym (same i (apart_from i idle)) ∙ idle v was)
                is);
          };
          within = λ i is. all.within i (sym (out.others i (other i is)) ∙ is);
          may = λ i z is was. apart i z (other i is)
              (all.may i z (sym (out.others i (other i is)) ∙ is) was);
        }
          where
            apart_from : (i : ℕ) → ((z : T) → slice_get xs i ≡ Some (Some z)
                → (has set i && not (has new i)) ≡ false) → i ≢ place
            apart_from i idle e = true≢false (sym done
                ∙ (ap (λ j. has set j && not (has new j)) (sym e)
                ∙ idle x (ap (slice_get xs) e ∙ (sym here-was ∙ at))))

        -- it is free
        pub visited-free : slice_get ys place ≡ Some None → AreVisited new ys t
        visited-free at = record {
          visits = record {
            visited = λ i z is was. elim (cases_eq i place) [
              | inl e ↦ absurd (let h = ap (slice_get xs) (sym e) ∙ was in let w = here-was in
                  let no : ⊥ = cc in no)
              | inr ne ↦ all.visits.visited i z (sym (same i ne) ∙ is) was
            ];
            left = λ i idle. all.visits.left i (before i idle);
            allowed = λ i z idle is. all.visits.allowed i z (before i idle) is;
          };
          within = λ i is. all.within i (sym (out.others i (other i is)) ∙ is);
          may = λ i z is was. all.may i z (sym (out.others i (other i is)) ∙ is) was;
        }
          where
            before : (i : ℕ) → ((z : T) → slice_get xs i ≡ Some (Some z)
                → (has set i && not (has new i)) ≡ false) → (z : T)
                → slice_get xs i ≡ Some (Some z) → (has set i && not (has rest i)) ≡ false
            before i idle z was = elim (cases_eq i place) [
              | inl e ↦ ap (λ j. has set j && not (has rest j)) e ∙ still
              | inr ne ↦ sym (same i ne) ∙ idle z was
            ]
