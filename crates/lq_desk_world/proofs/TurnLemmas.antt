-- The puts of a turn are puts until nothing moves, and so they fill the ports.
use Rattle.std.proofs.Common.{◌≡◌, ◌≢◌, ℕ, zero, suc, ◌+◌, ◌-◌, ◌≤◌, ◌<◌, List, [], ◌∷◌, refl, ap, sym, subst, arith, ◌∙◌, Some, None, Option, Bool, true, false, map, inl, inr}
use Rattle.std.specs.Prelude.{◌⊎◌, slice_get, ◌==◌, if◌then◌else◌}
use Rattle.std.specs.List.{AllByRecursion}
use Rattle.std.proofs.lemmas.List.Sums.{fold-append}
use Rattle.std.specs.Option.{option_flatten, option_map}
use Rattle.std.proofs.lemmas.Bool.{and_parts, cases_eq, ltb-true}
use Rattle.std.proofs.lemmas.Option.{slice_get-map}
use Rattle.std.proofs.lemmas.Bool.Decides.{nat_tests}
use Rattle.lq_value.specs.declared.refusal.Refusal.{Refusal}
use Rattle.lq_volume.specs.declared.change.Change.{Change as Change_}
use Rattle.lq_volume.specs.Book.{Book}
use Rattle.lq_update.specs.Laws.{ChangesAddSteps, UpdatesStay}
use Rattle.lq_desk_world.specs.World.{World, Subscribed, after_change, can_put, one_more_put, subscribed_at, with_slot}
use Rattle.lq_desk_world.specs.declared.event.Event.{Event}
use Rattle.lq_desk_world.specs.declared.event.Event.TheVariants.{Change, Open, OpenBy, Put, Take, Notice, Close, Finish}
use Rattle.lq_desk_world.specs.declared.event.Act.{Act}
use Rattle.lq_desk_world.specs.declared.event.Act.TheVariants as act
use Rattle.lq_desk_world.specs.Events.{Answer, Moved, Refused, acting, answer_to, at_slot, event_at, next, outcome, putting, putting_if}
use Rattle.lq_desk_world.specs.Turns.{after_events, at_each, notices, one_notice, places_at, places_in, ports_of, put_events, turn_of, turn_outcome}
use Rattle.lq_desk_world.specs.Fair.{AreFair, IsFairWorld}
use Rattle.lq_desk_world.specs.Laws.{EachUntilStill, IsStill, PutsThenStill, PutsUntilStill, TurnsFillPorts, TurnsPutUntilStill}
use Rattle.lq_desk_world.proofs.ListLemmas.{each_bool, map-set_same, slice_get-set_here, slice_get-set_other, slice_set-same}
use Rattle.lq_desk_world.proofs.SubLemmas.{keeps-change}
use Rattle.lq_desk_world.proofs.StepLemmas.{ReadsNothing, acting-passes, at-index, outcome-cases, slot-index, outcome-fair}

-- how many parcels the port of a slot has room for
abbrev gap_in : Option Subscribed → ℕ
gap_in None = 0
gap_in (Some s) = s.port - (s.put - s.taken)

-- and that of a slot of a world
abbrev gap_at : World → ℕ → ℕ
gap_at w k = gap_in (subscribed_at w k)

-- ---- one put

-- A put moves nothing and leaves the world, or it moves a parcel into the port of its slot, which
-- then has less room, and leaves the book and the other slots.
abbrev PutCases : World → Event → Answer → World → Type 0
PutCases w (Put k) a v = ((a ≡ Moved true → ⊥) × (v ≡ w))
    ⊎ ((a ≡ Moved true) × (IsFairWorld w → gap_at v k < gap_at w k) × (v.book ≡ w.book)
    × ((j : ℕ) → j ≢ k → subscribed_at v j ≡ subscribed_at w j))
PutCases w e a v = Unit {0}

-- what is set in a slot leaves the others
set-other : (w : World) (i j : ℕ) (o : Option Subscribed) → j ≢ i + 1
    → subscribed_at (with_slot w i o) j ≡ subscribed_at w j
set-other w i j o ne = by (j == 0) refl
  where
    by : (x : Bool) → (j == 0) ≡ x
        → (if x then None else option_flatten (slice_get (with_slot w i o).slots (j - 1)))
        ≡ (if x then None else option_flatten (slice_get w.slots (j - 1)))
    by true is = refl
    by false is = ap option_flatten (slice_get-set_other w.slots (j - 1) i o
        (λ same. ne (grind (arith, nat_tests))))

-- a put in a taken slot
put-taken : (w : World) (i : ℕ) (s : Subscribed) (x : Bool) → can_put w.book s ≡ x
    → slice_get w.slots i ≡ Some (Some s)
    → PutCases w (Put (i + 1)) (putting_if s x).0 (with_slot w i (putting_if s x).1)
put-taken w i s false is at = inl (
  λ no. let e : Moved false ≡ Moved true = no in cc,
  ap (λ slots. record w { slots = slots }) (slice_set-same w.slots i (Some s) at),
)
put-taken w i s true is at =
    let v = with_slot w i (Some (one_more_put s)) in
    let before : subscribed_at w (i + 1) ≡ Some s = at-index w i ∙ ap option_flatten at in
    let after : subscribed_at v (i + 1) ≡ Some (one_more_put s) = at-index v i
    ∙ ap option_flatten (slice_get-set_here w.slots i (Some s) (Some (one_more_put s)) at) in
    let room = ltb-true (s.put - s.taken) s.port (and_parts _ _ is).0 in
    inr (
      refl,
      λ fair.
          let order = (fair.each i s at).taken in
          omega (arith, ap gap_in before, ap gap_in after, room, order),
      refl,
      λ j ne. set-other w i j _ ne,
    )

-- each put
put-cases : (w : World) (k : ℕ) → PutCases w (Put k) (answer_to w (Put k)) (next w (Put k))
put-cases w k = outcome-cases w (PutCases w) refused (λ c none. tt)
    (λ q port backlog moved none. tt) (λ q o none. tt) acted (Put k)
  where
    refused : (e : Event) (r : Refusal) → ReadsNothing w e r → PutCases w e (Refused r) w
    refused (Put j) r none = inl (λ no. let e : Refused r ≡ Moved true = no in cc, refl)
    refused e r none = tt

    acted : (i : ℕ) (a : Act) (s : Subscribed) → slice_get w.slots i ≡ Some (Some s)
        → PutCases w (event_at (i + 1) a) (acting w.book a s).0
        (with_slot w i (acting w.book a s).1)
    acted i act.Put s at = put-taken w i s (can_put w.book s) refl at
    acted i a s at = tt

-- a put that moves nothing leaves the world
still-next : (w : World) (k : ℕ) → IsStill w k → next w (Put k) ≡ w
still-next w k h = elim (put-cases w k) [
  | inl stays ↦ stays.1
  | inr moves ↦ absurd (h moves.0)
]

-- and so do several
puts-stay : (n : ℕ) (w : World) (k : ℕ) → IsStill w k → after_events outcome w (put_events k n) ≡ w
puts-stay zero w k h = refl
puts-stay (suc n) w k h =
    ap (λ v. after_events outcome v (put_events k n)) (still-next w k h) ∙ puts-stay n w k h

-- the answer to a put goes by the book and its slot
answer-same : (w v : World) (k : ℕ) → v.book ≡ w.book → subscribed_at v k ≡ subscribed_at w k
    → answer_to v (Put k) ≡ answer_to w (Put k)
answer-same w v k book same = ap (λ o. (at_slot v k o (putting v.book)).0) same
    ∙ (ap (λ b. (at_slot v k (subscribed_at w k) (putting b)).0) book ∙ by (subscribed_at w k))
  where
    by : (o : Option Subscribed)
        → (at_slot v k o (putting w.book)).0 ≡ (at_slot w k o (putting w.book)).0
    by None = refl
    by (Some s) = refl

-- a put in whatever slot leaves a still slot still
put-keeps : (w : World) (j k : ℕ) → IsStill w k → IsStill (next w (Put j)) k
put-keeps w j k h = elim (put-cases w j) [
  | inl stays ↦ subst (λ v. IsStill v k) (sym stays.1) h
  | inr moves ↦ elim (cases_eq k j) [
    | inl same ↦ absurd (h (ap (λ i. answer_to w (Put i)) same ∙ moves.0))
    | inr other ↦ λ is. h (sym (answer-same w _ k moves.2 (moves.3 k other)) ∙ is)
  ]
]

-- ---- puts until nothing moves

-- they leave their slot still
until-stays : (n : ℕ) (w v : World) (k : ℕ) → PutsThenStill k n w v → IsStill v k
until-stays zero w v k h = subst (λ u. IsStill u k) (sym (h.1 ∙ still-next w k h.0)) h.0
until-stays (suc n) w v k h = until-stays n (next w (Put k)) v k h.1

-- and each other slot that is still
until-keeps : (n : ℕ) (w v : World) (j k : ℕ) → PutsThenStill j n w v → IsStill w k → IsStill v k
until-keeps zero w v j k h still = subst (λ u. IsStill u k) (sym h.1) (put-keeps w j k still)
until-keeps (suc n) w v j k h still =
    until-keeps n (next w (Put j)) v j k h.1 (put-keeps w j k still)

-- the slot with this number is one of these taken ones, the first of which is slot n
abbrev IsAmong : ℕ → ℕ → List (Option ℕ) → Type 0
IsAmong k n ports =
    (i : ℕ) × (k ≡ n + i) × (p : ℕ) × (slice_get ports i ≡ Some (Some p))

-- at slot after slot, they leave those still, and what was still before
each-still : (ports : List (Option ℕ)) (n : ℕ) (w v : World) (k : ℕ) → EachUntilStill n ports w v
    → IsStill w k ⊎ IsAmong k n ports → IsStill v k
each-still [] n w v k h (inl still) = subst (λ u. IsStill u k) (sym h) still
each-still [] n w v k h (inr (i, is, p, at)) = absurd (let no : ⊥ = cc in no)
each-still (None ∷ ports) n w v k h (inl still) = each-still ports (n + 1) w v k h (inl still)
each-still (None ∷ ports) n w v k h (inr (zero, is, p, at)) = absurd (let no : ⊥ = cc in no)
each-still (None ∷ ports) n w v k h (inr (suc i, is, p, at)) =
    each-still ports (n + 1) w v k h (inr (i, omega (arith, is), p, at))
each-still (Some q ∷ ports) n w v k h (inl still) =
    each-still ports (n + 1) h.0 v k h.2 (inl (until-keeps h.1.0 w h.0 n k h.1.1 still))
each-still (Some q ∷ ports) n w v k h (inr (zero, is, p, at)) =
    let here : n ≡ k = omega (arith, is) in
    each-still ports (n + 1) h.0 v k h.2
    (inl (subst (λ m. IsStill h.0 m) here (until-stays h.1.0 w h.0 n h.1.1)))
each-still (Some q ∷ ports) n w v k h (inr (suc i, is, p, at)) =
    each-still ports (n + 1) h.0 v k h.2 (inr (i, omega (arith, is), p, at))

-- ---- ports

-- a port has room for no more parcels than its places
gap-places : (slots : List (Option Subscribed)) (i : ℕ)
    → gap_in (option_flatten (slice_get slots i))
    ≤ places_in (option_flatten (slice_get (map (option_map (λ s. s.port)) slots) i))
gap-places [] i = omega arith
gap-places (None ∷ slots) zero = omega arith
gap-places (Some s ∷ slots) zero = omega arith
gap-places (o ∷ slots) (suc i) = gap-places slots i

-- so has the port of each slot
room : (w : World) (k : ℕ) → gap_at w k ≤ places_at (ports_of w) k
room w k = each_bool
    (λ x. gap_in (if x then None else option_flatten (slice_get w.slots (k - 1)))
    ≤ (if x then 0 else places_in (option_flatten (slice_get (ports_of w) (k - 1)))))
    (omega arith) (gap-places w.slots (k - 1)) (k == 0)

-- a slot is still, as it is free, or among those with a port
still-or-among : (w : World) (k : ℕ) → IsStill w k ⊎ IsAmong k 1 (ports_of w)
still-or-among w k = by (subscribed_at w k) refl
  where
    by : (o : Option Subscribed) → subscribed_at w k ≡ o → IsStill w k ⊎ IsAmong k 1 (ports_of w)
    by None at = inl (λ is.
        let e : (at_slot w k None (putting w.book)).0 ≡ Moved true =
        ap (λ o. (at_slot w k o (putting w.book)).0) (sym at) ∙ is in
        let no : ⊥ = cc in
        no)
    by (Some s) at =
        let found = slot-index w k s at in
        inr (
          found.0,
          omega (arith, found.1),
          s.port,
          slice_get-map (option_map (λ (t : Subscribed). t.port)) w.slots found.0
              ∙ ap (option_map (option_map (λ (t : Subscribed). t.port))) found.2,
        )

-- an event that opens and frees no slot
abbrev Stays : Event → Type 0
Stays (Open q port backlog moved) = ⊥
Stays (OpenBy q o) = ⊥
Stays (Finish k) = ⊥
Stays e = Unit {0}

-- notices are such events
notices-stay : (n : ℕ) (ports : List (Option ℕ)) → AllByRecursion Stays (at_each one_notice n ports)
notices-stay n [] = tt
notices-stay n (None ∷ ports) = notices-stay (n + 1) ports
notices-stay n (Some p ∷ ports) = (tt, notices-stay (n + 1) ports)

-- and so are puts
puts-keep : (k n : ℕ) → AllByRecursion Stays (put_events k n)
puts-keep k zero = tt
puts-keep k (suc n) = (tt, puts-keep k n)

-- the world after the notices and the change of a turn
abbrev changed_world : World → Change_ → World
changed_world w c = next (after_events outcome w (notices (ports_of w))) (Change c)

module _ (stay : UpdatesStay) (add : ChangesAddSteps) where
  -- a change leaves the ports
  changed-ports : (b : Book) (c : Change_) (slots : List (Option Subscribed))
      → AreFair b slots
      → map (option_map (λ s. s.port)) (map (option_map (after_change b c)) slots)
      ≡ map (option_map (λ s. s.port)) slots
  changed-ports b c [] fair = refl
  changed-ports b c (None ∷ slots) fair =
      ap (λ ps. None ∷ ps) (changed-ports b c slots (λ i. fair (suc i)))
  changed-ports b c (Some s ∷ slots) fair =
      let port = ap (λ l. l.3) (keeps-change stay add b c s (fair zero s refl)).same in
      let rest = changed-ports b c slots (λ i. fair (suc i)) in
      cc

  -- an event that opens and frees no slot leaves the ports
  event-ports : (w : World) (e : Event) → IsFairWorld w → Stays e → ports_of (next w e) ≡ ports_of w
  event-ports w e fair = outcome-cases w (λ e a v. Stays e → ports_of v ≡ ports_of w)
      (λ e r none stays. refl) (λ c none stays. changed-ports w.book c w.slots fair.each)
      (λ q port backlog moved none stays. absurd stays) (λ q o none stays. absurd stays)
      (λ i a s at stays.
      elim (acting-passes w.book s 1 a (fair.each i s at)) [
        | inl gone ↦ absurd (subst (λ x. Stays (event_at (i + 1) x)) gone.1 stays)
        | inr left ↦ map-set_same (option_map (λ (t : Subscribed). t.port)) w.slots i (Some s) _ at
            (ap (option_map (λ (t : Subscribed). t.port)) left.1.is
            ∙ ap (λ l. Some l.3) left.1.does.keeps.same)
      ]) e

  -- such events leave a fair world fair, and its ports
  events-stay : (events : List Event) (w : World) → IsFairWorld w → AllByRecursion Stays events
      → IsFairWorld (after_events outcome w events)
      × (ports_of (after_events outcome w events) ≡ ports_of w)
  events-stay [] w fair stays = (fair, refl)
  events-stay (e ∷ events) w fair stays =
      let rest = events-stay events (next w e) (outcome-fair stay add w e fair) stays.1 in
      (rest.0, rest.1 ∙ event-ports w e fair stays.0)

  -- the notices before a change, and the change, are such events
  change-stays : (w : World) (c : Change_) → IsFairWorld w
      → IsFairWorld (changed_world w c) × (ports_of (changed_world w c) ≡ ports_of w)
  change-stays w c fair =
      let v = after_events outcome w (notices (ports_of w)) in
      let stays = events-stay (notices (ports_of w)) w fair (notices-stay 1 (ports_of w)) in
      (outcome-fair stay add v (Change c) stays.0, event-ports v (Change c) stays.0 tt ∙ stays.1)

  -- ---- turns

  -- as many puts as the port has room for are puts until nothing moves
  until-still : (n : ℕ) (w : World) (k : ℕ) → IsFairWorld w → gap_at w k ≤ n
      → PutsUntilStill k w (after_events outcome w (put_events k n))
  until-still zero w k fair h = elim (put-cases w k) [
    | inl stays ↦ (zero, (stays.0, sym stays.1))
    | inr moves ↦ absurd (omega (arith, moves.1 fair, h))
  ]
  until-still (suc n) w k fair h = elim (put-cases w k) [
    | inl stays ↦ (zero, (stays.0, puts-stay (suc n) w k stays.0 ∙ sym stays.1))
    | inr moves ↦
        let rest = until-still n (next w (Put k)) k (outcome-fair stay add w (Put k) fair)
        (omega (arith, moves.1 fair, h)) in
        (suc rest.0, (moves.0, rest.1))
  ]

  -- so are the puts of all slots from some index on
  each-until : (ports : List (Option ℕ)) (m : ℕ) (w : World) → IsFairWorld w
      → ((i : ℕ) → slice_get ports i ≡ slice_get (ports_of w) (m + i))
      → EachUntilStill (m + 1) ports w (after_events outcome w (at_each put_events (m + 1) ports))
  each-until [] m w fair h = refl
  each-until (None ∷ ports) m w fair h = each-until ports (m + 1) w fair (λ i. h (suc i)
      ∙ ap (slice_get (ports_of w)) (let e : m + suc i ≡ m + 1 + i = omega arith in e))
  each-until (Some p ∷ ports) m w fair h =
      let u = after_events outcome w (put_events (m + 1) p) in
      let stays = events-stay (put_events (m + 1) p) w fair (puts-keep (m + 1) p) in
      let first : m + 0 ≡ m = omega arith in
      let places : p ≡ places_in (option_flatten (slice_get (ports_of w) m)) =
      ap (λ o. places_in (option_flatten o)) (h zero ∙ ap (slice_get (ports_of w)) first) in
      let rest = each-until ports (m + 1) u stays.0 (λ i. h (suc i)
      ∙ (ap (slice_get (ports_of w)) (let e : m + suc i ≡ m + 1 + i = omega arith in e)
      ∙ ap (λ ps. slice_get ps (m + 1 + i)) (sym stays.1))) in (
        u,
        until-still p w (m + 1) fair
            (omega (arith, ap gap_in (at-index w m), gap-places w.slots m, places)),
        subst (λ v. EachUntilStill (m + 1 + 1) ports u v)
            (sym (fold-append next w (put_events (m + 1) p) (at_each put_events (m + 1 + 1) ports)))
            rest,
      )

  -- the puts of a turn are puts until nothing moves
  pub turns-until : TurnsPutUntilStill
  turns-until w fair = (changes, closes, reads)
    where
      own : (slot : ℕ) (events : List Event) → AllByRecursion Stays events
          → PutsUntilStill slot (after_events outcome w events) (after_events outcome
          (after_events outcome w events) (put_events slot (places_at (ports_of w) slot)))
      own slot events all =
          let v = after_events outcome w events in
          let stays = events-stay events w fair all in
          until-still (places_at (ports_of w) slot) v slot stays.0
          (omega (arith, room v slot, ap (λ ps. places_at ps slot) stays.1))

      changes : (c : Change_)
          → EachUntilStill 1 (ports_of w) (changed_world w c) (turn_outcome w (Change c)).1
      changes c =
          let stays = change-stays w c fair in
          each-until (ports_of w) 0 (changed_world w c) stays.0
          (λ i. ap (λ ps. slice_get ps i) (sym stays.1)
          ∙ ap (slice_get (ports_of (changed_world w c))) (let e : i ≡ 0 + i = omega arith in e))

      closes : (slot : ℕ) → PutsUntilStill slot (next (next w (Notice slot)) (Close slot))
          (turn_outcome w (Close slot)).1
      closes slot = own slot (Notice slot ∷ Close slot ∷ []) (tt, (tt, tt))

      reads : (slot : ℕ) → PutsUntilStill slot (next w (Notice slot))
          (after_events outcome w (turn_of (ports_of w) (Take slot)).before)
      reads slot = own slot (Notice slot ∷ []) (tt, tt)

  -- and so they fill the ports
  pub turns-fill : TurnsFillPorts
  turns-fill w fair = (
    λ c slot. each-still (ports_of w) 1 _ _ slot ((turns-until w fair).0 c)
        (subst (λ ps. IsStill (changed_world w c) slot ⊎ IsAmong slot 1 ps)
        (change-stays w c fair).1 (still-or-among (changed_world w c) slot)),
    λ slot. let h = (turns-until w fair).1 slot in until-stays h.0 _ _ slot h.1,
    λ slot. let h = (turns-until w fair).2 slot in until-stays h.0 _ _ slot h.1,
  )
