-- What was read of a subscription, and how its list is passed on.
use Rattle.std.proofs.Common.{◌≡◌, ℕ, zero, suc, ◌+◌, ◌-◌, ◌≤◌, List, [], ◌∷◌, ◌++◌, refl, ap, take, length, ◌∙◌, sym, arith, append-nil, Some, None, Option, Bool, true, false, drop, append_assoc}
use Rattle.std.specs.Prelude.{slice_get, ◌&&◌, nat_lt, if◌then◌else◌}
use Rattle.std.proofs.lemmas.Bool.{and_parts, ltb-true}
use Rattle.std.proofs.lemmas.List.{take-append-le, length-take, take-append-drop}
use Rattle.lq_volume.specs.Book.{Book, number_of}
use Rattle.lq_update.specs.declared.message.Message.{Message}
use Rattle.lq_update.specs.declared.mark.Mark.{Mark}
use Rattle.lq_update.specs.declared.mark.Cause.TheVariants.{HungUp, Closed}
use Rattle.lq_update.specs.declared.parcel.Parcel.{Parcel}
use Rattle.lq_update.specs.declared.parcel.Parcel.TheVariants.{Fin}
use Rattle.lq_desk_world.specs.World.{Subscribed, Ending, updates_due, mark_behind, whole, is_live, is_over, with_end, with_hang_up_asked, one_more_put, one_more_taken, can_put, first_in_port, in_port, to_come}
use Rattle.lq_desk_world.specs.Events.{Ended, Empty, putting_if, putting, reading_if, read_outcome, hanging_up, noticing_if, noticing, closing_if, closing}
use Rattle.lq_desk_world.specs.Fair.{IsFair}
use Rattle.lq_desk_world.proofs.ListLemmas.{take-one_more}
use Rattle.lq_desk_world.proofs.SubLemmas.{Keeps, Leaves, Reads, keeps-counts, keeps-end, keeps-self, live-none, over-from, over-true, parcels}
use Rattle.lq_desk_world.specs.Laws.{ListsArePassedOn}

-- ---- what was read

-- no read
pub reads-nothing : (b : Book) (s : Subscribed) (d : Book) (t : Subscribed)
    → s.taken ≤ length (whole b s) → t.taken ≡ s.taken → Keeps b s d t → Reads b s d t []
reads-nothing b s d t within taken k = record {
  keeps = k;
  front = append-nil _ ∙ (sym (take-append-le s.taken (whole b s) k.more within)
      ∙ (ap (take s.taken) (sym k.grows) ∙ ap (λ n. take n (whole d t)) (sym taken)));
  over = λ o.
      let en = k.ended o.0 o.1 in
      let all : length (whole d t) ≡ length (whole b s) =
      ap length (k.grows ∙ (ap (λ xs. whole b s ++ xs) en.1 ∙ append-nil _)) in
      ((o.0, en.0, taken ∙ (o.2 ∙ sym all)), tt);
  marked = λ m no. absurd (let never : ⊥ = cc in never);
  shown = λ no. absurd (let never : ⊥ = cc in never);
}

-- no more is taken than the whole list has
pub taken_within : (b : Book) (s : Subscribed) → IsFair b s → s.taken ≤ length (whole b s)
taken_within b s h = omega (arith, h.taken, h.put)

-- nothing that happens reads nothing
pub reads-self : (b : Book) (s : Subscribed) → IsFair b s → Reads b s b s []
reads-self b s h = reads-nothing b s b s (taken_within b s h) refl (keeps-self b s h)

-- an event that reads nothing and keeps what was told leaves the reads
pub leaves : (b : Book) (s : Subscribed) (t : Subscribed) → IsFair b s → t.taken ≡ s.taken
    → Keeps b s b t
    → Leaves b s [] (Some t)
leaves b s t h taken k =
    record { sub = t; is = refl; does = reads-nothing b s b t (taken_within b s h) taken k }

-- a put leaves the reads of a fair subscription
pub putting-leaves : (b : Book) (s : Subscribed) → IsFair b s → Leaves b s [] (putting b s).1
putting-leaves b s h = by (can_put b s) refl
  where
    by : (x : Bool) → can_put b s ≡ x → Leaves b s [] (putting_if s x).1
    by true is =
        let tests =
        and_parts (nat_lt (s.put - s.taken) s.port) (nat_lt s.put (length (whole b s))) is in
        let room = ltb-true _ _ tests.0 in
        let there = ltb-true _ _ tests.1 in
        leaves b s (one_more_put s) h refl
        (keeps-counts b s s.hang_up_asked (s.put + 1) s.taken h (omega arith)
        (omega (arith, h.taken)) (omega (arith, there)) (omega (arith, room, h.taken)))
    by false is = leaves b s s h refl (keeps-self b s h)

-- a hang-up leaves the reads of a fair subscription
pub hanging_up-leaves : (b : Book) (s : Subscribed) → IsFair b s → Leaves b s [] (hanging_up s).1
hanging_up-leaves b s h = leaves b s (with_hang_up_asked s) h refl
    (keeps-counts b s true s.put s.taken h (omega arith) h.taken h.put h.port)

-- noticing a hang-up leaves the reads of a fair subscription
pub noticing-leaves : (b : Book) (s : Subscribed) → IsFair b s → Leaves b s [] (noticing b s).1
noticing-leaves b s h = by (is_live s && s.hang_up_asked) refl
  where
    by : (x : Bool) → (is_live s && s.hang_up_asked) ≡ x → Leaves b s [] (noticing_if b s x).1
    by true is = leaves b s (with_end s HungUp (number_of b)) h refl
        (keeps-end b s HungUp h (live-none s.end (and_parts (is_live s) s.hang_up_asked is).0))
    by false is = leaves b s s h refl (keeps-self b s h)

-- a close leaves the reads of a fair subscription
pub closing-leaves : (b : Book) (s : Subscribed) → IsFair b s → Leaves b s [] (closing b s).1
closing-leaves b s h = by (is_live s) refl
  where
    by : (x : Bool) → is_live s ≡ x → Leaves b s [] (closing_if b s x).1
    by true is = leaves b s (with_end s Closed (number_of b)) h refl
        (keeps-end b s Closed h (live-none s.end is))
    by false is = leaves b s s h refl (keeps-self b s h)

-- a mark is the last of its list
mark-last : (us : List Message) (n i : ℕ) (o : Option Ending) (m : Mark)
    → slice_get (parcels us ++ mark_behind n o) i ≡ Some (Fin m)
    → (e : Ending) × (o ≡ Some e) × (i + 1 ≡ length (parcels us ++ mark_behind n o))
mark-last [] n i None m at = absurd (let no : ⊥ = cc in no)
mark-last [] n zero (Some e) m at = (e, refl, omega arith)
mark-last [] n (suc i) (Some e) m at = absurd (let no : ⊥ = cc in no)
mark-last (u ∷ us) n zero o m at = absurd (let no : ⊥ = cc in no)
mark-last (u ∷ us) n (suc i) o m at =
    let rest = mark-last us n i o m at in
    (rest.0, rest.1, omega (arith, rest.2))

-- a parcel that is in the port is there, and it is this one
first-given : (x : Bool) (o : Option Parcel) (p : Parcel) → (if x then o else None) ≡ Some p
    → (x ≡ true) × (o ≡ Some p)
first-given true o p is = (refl, is)
first-given false o p is = absurd (let no : ⊥ = cc in no)

-- a read gives the reads of a fair subscription its answer
pub reading-leaves : (b : Book) (s : Subscribed) → IsFair b s
    → Leaves b s ((read_outcome b s).0 ∷ []) (read_outcome b s).1
reading-leaves b s h = by (first_in_port b s) refl
  where
    idle : (x : Bool) → is_over b s ≡ x → Reads b s b s ((if x then Ended else Empty) ∷ [])
    idle true is = record {
      keeps = keeps-self b s h;
      front = append-nil _;
      over = λ o. (o, (refl, tt));
      marked = λ m no. absurd (let never : ⊥ = cc in never);
      shown = λ same. over-from b s is;
    }
    idle false is = record {
      keeps = keeps-self b s h;
      front = append-nil _;
      over = λ o. absurd (let is_not = over-true b s o in let never : ⊥ = cc in never);
      marked = λ m no. absurd (let never : ⊥ = cc in never);
      shown = λ no. absurd (let never : ⊥ = cc in never);
    }

    by : (o : Option Parcel) → first_in_port b s ≡ o
        → Leaves b s ((reading_if b s o).0 ∷ []) (reading_if b s o).1
    by None is = record { sub = s; is = refl; does = idle (is_over b s) refl }
    by (Some p) is =
        let at = first-given (nat_lt s.taken s.put) (slice_get (whole b s) s.taken) p is in
        let there = ltb-true s.taken s.put at.0 in
        let more = take-one_more (whole b s) s.taken p at.1 in
        record {
          sub = one_more_taken s;
          is = refl;
          does = record {
            keeps = keeps-counts b s s.hang_up_asked s.put (s.taken + 1) h (omega arith)
                (omega (arith, there)) h.put (omega (arith, h.port));
            front = sym more.0;
            over = λ o. absurd (omega (arith, o.2, more.1));
            marked = λ m same.
                let mark : p ≡ Fin m = cc in
                mark-last (updates_due b s) (length (updates_due b s)) s.taken s.end m
                (at.1 ∙ ap (λ q. Some q) mark);
            shown = λ no. absurd (let never : ⊥ = cc in never);
          };
        }

-- ---- the parts of its list

-- what is past a place of two lists, one behind the other
drop-both : (us : List Message) (ms : List Parcel) (n : ℕ)
    → drop n (parcels us ++ ms) ≡ parcels (drop n us) ++ drop (n - length us) ms
drop-both us ms zero =
    ap (λ k. parcels us ++ drop k ms) (let e : 0 ≡ 0 - length us = omega arith in e)
drop-both [] ms (suc n) =
    ap (λ k. drop k ms) (let e : suc n ≡ suc n - length {A = Message} [] = omega arith in e)
drop-both (u ∷ us) ms (suc n) = drop-both us ms n ∙ ap (λ k. parcels (drop n us) ++ drop k ms)
    (let e : n - length us ≡ suc n - length (u ∷ us) = omega arith in e)

-- what is to come is the whole list without what was put
pub to_come-is : (b : Book) (s : Subscribed) → to_come b s ≡ drop s.put (whole b s)
to_come-is b s = sym (drop-both (updates_due b s) (mark_behind (length (updates_due b s)) s.end)
    s.put)

-- a list is passed on whole: taken, in the port, and to come
pub lists-passed : ListsArePassedOn
lists-passed b s h =
    let xs = whole b s in
    let front : take s.taken xs ≡ take s.taken (take s.put xs) =
    ap (take s.taken) (sym (take-append-drop s.put xs))
    ∙ take-append-le s.taken (take s.put xs) (drop s.put xs)
    (omega (arith, length-take s.put xs, h.taken, h.put)) in
    ap (λ ps. take s.taken xs ++ (in_port b s ++ ps)) (to_come-is b s)
    ∙ (sym (append_assoc (take s.taken xs) (in_port b s) (drop s.put xs))
    ∙ (ap (λ ps. (ps ++ in_port b s) ++ drop s.put xs) front
    ∙ (ap (λ ps. ps ++ drop s.put xs) (take-append-drop s.taken (take s.put xs))
    ∙ take-append-drop s.put xs)))
