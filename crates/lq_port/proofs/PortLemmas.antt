-- Each step of a port keeps its rule.
use Rattle.std.proofs.Common.{◌≡◌, ◌≢◌, ℕ, ◌≤◌, true, false, true≢false, List, [], ◌∷◌, ◌++◌, length, drop, set, sym, refl, ap, ◌∙◌, subst, inl, inr, ⊎_elim, append_assoc, append-nil, arith, length-append}
use mathlib.Core.List.{IsPrefix, append_cancel_left}
use mathlib.Core.Option.{some}
use lib.ListN.{get_elem?}
use Rattle.std.proofs.Math.Seq.{drop-append_seam}
use Rattle.crossbeam_channel.specs.Fifo.{Pushes, Pops, Forks, Merges, Learns}
use Rattle.atomic_table.proofs.Lists.{at_set, at_snoc}
use Rattle.lq_port.specs.Known.{Known}
use Rattle.lq_port.specs.Port.{known_alone, putter, taker, idle, together, put_of, AddsItem, Totals, IsLegal, Removes, PassFits, PortRule, Shares}
use Rattle.lq_port.proofs.ListLemmas.{nil_has_no_place, split_at_back, front_of, IsPrefix-snoc, IsPrefix-equal, place_at_back, AllAt, AllAt-set}

module _ {T F : Type 0} (follows : List T → F → T → Type 0) where
  -- an empty list is legal
  pub nil_is_legal : (f : F) → IsLegal follows f []
  nil_is_legal f before x after e = absurd (nil_has_no_place before x after e)

  -- a legal list stays legal when an item joins that follows it
  pub snoc_is_legal :
      (f : F) (xs : List T) (x : T)
      → IsLegal follows f xs → follows xs f x → IsLegal follows f (xs ++ x ∷ [])
  snoc_is_legal f xs x legal ok before y after e = elim (split_at_back xs x before y after e) [
    | inl r ↦ rw (← r.0, ← r.1) ok
    | inr r ↦ legal before y r.0 r.1
  ]

  -- The rule holds of a new channel, and its one pass.
  pub begins : (f : F) → PortRule follows [] (known_alone 0 true true f [] [] ∷ [])
  begins f =
      let k : Known T F = known_alone 0 true true f [] [] in
      let none : IsPrefix {A = T} [] [] = ([], refl) in
      record {
        input = 0;
        output = 0;
        room = 0;
        floor = f;
        put = [];
        taken = [];
        in_order = refl;
        within = omega arith;
        legal = nil_is_legal f;
        fits =
            AllAt-set (PassFits follows 0 0 0 f [] []) (k ∷ []) 0 k (
              (λ _. (refl, refl, refl, none, refl)),
              (λ _. (refl, refl, refl, none)),
              (λ _ _. (refl, none, refl)),
            )
            (λ j u other e. absurd (other (place_at_back [] k u j (λ x. cc) e)));
      }

  -- A put keeps the rule, and tells what waits.
  pub adds :
      (n pass : ℕ) (v : Known T F) (x : T) → v.puts ≡ true → v.room ≡ n
      → follows (put_of v) v.floor x
      → Pushes (PortRule follows) n pass v x (AddsItem v x)
  adds n pass v x may all_room ok items views room h at =
      let w : Known T F = known_alone v.room true false v.floor h.taken (items ++ x ∷ []) in
      let m = (h.fits pass v at).0 may in
      let put : List T = h.put ++ x ∷ [] in
      let ok' : follows h.put h.floor x = rw (← m.2, ← m.1) ok in
      let all : put_of w ≡ put = cc (h.in_order, append_assoc h.taken items (x ∷ [])) in
      let Fits = PassFits follows h.input h.output h.room h.floor put h.taken in
      let known : IsPrefix h.taken h.taken = ([], append-nil h.taken) in
      let mine' : Fits pass w = ((λ _. (m.0, m.1, all, known, m.4)), (λ p. cc), (λ _ p. cc)) in
      let others : (j : ℕ) (u : Known T F) → j ≢ pass → get_elem? views j ≡ some u → Fits j u =
      λ j u other e.
      let o = h.fits j u e in (
        (λ p. absurd (other ((o.0 p).0 ∙ sym m.0))),
        (λ p.
            let t = o.1 p in (t.0, t.1, t.2, IsPrefix-snoc (put_of u) h.put x t.3)),
        (λ p _. absurd (other ((o.0 p).0 ∙ sym m.0))),
      ) in (
        w,
        record {
          input = h.input;
          output = h.output;
          room = h.room;
          floor = h.floor;
          put = put;
          taken = h.taken;
          in_order = cc (h.in_order, append_assoc h.taken items (x ∷ []));
          within = omega (arith, length-append items (x ∷ []), m.4);
          legal = snoc_is_legal h.floor h.put x h.legal ok';
          fits = AllAt-set Fits views pass w mine' others;
        },
        record {
          view = refl;
          put = cc (all, m.2);
          taken = m.3;
          within = omega (arith, length-append items (x ∷ []), all_room);
        },
      )

  -- A take keeps the rule.
  pub removes :
      (pass : ℕ) (v : Known T F) → v.takes ≡ true
      → Pops (PortRule follows) pass v (Removes follows v)
  removes pass v may x items views h at =
      let w : Known T F = known_alone v.room false true v.floor (v.taken ++ x ∷ [])
      (drop 1 v.ahead) in
      let t = (h.fits pass v at).1 may in
      let taken : List T = h.taken ++ x ∷ [] in
      let now : x ∷ items ≡ v.ahead ++ t.3.0 =
      append_cancel_left v.taken (x ∷ items) (v.ahead ++ t.3.0)
      (cc (t.2, h.in_order, t.3.1, append_assoc v.taken v.ahead t.3.0)) in
      let f = front_of v.ahead t.3.0 items x now in
      let step : h.put ≡ taken ++ items = cc (h.in_order, append_assoc h.taken (x ∷ []) items) in
      let same : v.taken ++ x ∷ [] ≡ taken = cc (t.2) in
      let begin : put_of w ++ f.1.0 ≡ h.put =
      cc (step, same, f.1.1, append_assoc (v.taken ++ x ∷ []) (drop 1 v.ahead) f.1.0) in
      let Fits = PassFits follows h.input h.output h.room h.floor h.put taken in
      let mine' : Fits pass w = ((λ p. cc), (λ _. (t.0, t.1, same, (f.1.0, begin))), (λ p _. cc)) in
      let others : (j : ℕ) (u : Known T F) → j ≢ pass → get_elem? views j ≡ some u → Fits j u =
      λ j u other e.
      let o = h.fits j u e in (
        (λ p.
            let m = o.0 p in (m.0, m.1, m.2, IsPrefix-snoc u.taken h.taken x m.3, m.4)),
        (λ p. absurd (other ((o.1 p).0 ∙ sym t.0))),
        (λ _ p. absurd (other ((o.1 p).0 ∙ sym t.0))),
      ) in (
        w,
        record {
          input = h.input;
          output = h.output;
          room = h.room;
          floor = h.floor;
          put = h.put;
          taken = taken;
          in_order = step;
          within = let less = h.within in omega arith;
          legal = h.legal;
          fits = AllAt-set Fits views pass w mine' others;
        },
        (refl, f.0, rw (t.2, t.1) (h.legal h.taken x items h.in_order)),
      )

  -- What the port holds is no more than what the end for puts knows to wait.
  pub full :
      (pass : ℕ) (v : Known T F) → v.puts ≡ true
      → Learns (PortRule follows) pass v (λ items. length items ≤ length v.ahead)
  full pass v may items views h at =
      let m = (h.fits pass v at).0 may in
      let s = m.3 in
      let e : v.taken ++ v.ahead ≡ (v.taken ++ s.0) ++ items = cc (m.2, h.in_order, s.1) in
      omega (
        arith,
        ap length e,
        length-append v.taken v.ahead,
        length-append (v.taken ++ s.0) items,
        length-append v.taken s.0,
      )

  -- What the end for takes knows to wait is a front of what the port holds.
  pub empty :
      (pass : ℕ) (v : Known T F) → v.takes ≡ true
      → Learns (PortRule follows) pass v (λ items. IsPrefix v.ahead items)
  empty pass v may items views h at =
      let t = (h.fits pass v at).1 may in (
        t.3.0,
        append_cancel_left v.taken (v.ahead ++ t.3.0) items
            (cc (t.2, t.3.1, h.in_order, append_assoc v.taken v.ahead t.3.0)),
      )

  -- Of a pass that may not take, and one that may put knows all puts and the room.
  abbrev NoTaker : ℕ → ℕ → F → List T → List T → ℕ → Known T F → Type 0
  NoTaker input room f put taken j u =
      (u.puts ≡ true
      → (j ≡ input) × (u.floor ≡ f) × (put_of u ≡ put) × IsPrefix u.taken taken × (u.room ≡ room))
      × (u.takes ≢ true)

  -- Where no pass may take, one more may that knows all takes, and may not put.
  taker_joins :
      (input room : ℕ) (f : F) (put taken : List T) (vs : List (Known T F)) (r : Known T F)
      → AllAt (NoTaker input room f put taken) vs → r.puts ≡ false → r.takes ≡ true
      → (r.floor ≡ f) × (r.taken ≡ taken) × IsPrefix (put_of r) put
      → AllAt (PassFits follows input (length vs) room f put taken) (vs ++ r ∷ [])
  taker_joins input room f put taken vs r old off on fits j u e = elim (at_snoc vs r u j e) [
    | inl x ↦
        let o = old j u x in (o.0, (λ p. absurd (o.1 p)), (λ _ p. absurd (o.1 p)))
    | inr is ↦
        let takes : u.takes ≡ true = rw is at on in
        let here = place_at_back vs r u j (λ x. (old j u x).1 takes) e in
        rw (here, ← is) ((λ p. cc), (λ _. (refl, fits.0, fits.1, fits.2)), (λ p _. cc))
  ]

  -- A pass is cut into the two ends, with a floor under which the list stays legal.
  cuts :
      (pass : ℕ) (v : Known T F) (n : ℕ) (f : F) → v.puts ≡ true → v.takes ≡ true
      → ((k : ℕ) → k ≤ v.room → k ≤ length (put_of v) → k ≤ n)
      → (IsLegal follows v.floor (put_of v) → IsLegal follows f (put_of v))
      → Forks (PortRule follows) pass v (putter n f v) (taker n f v)
  cuts pass v n f a b room again items views h at =
      let mine = h.fits pass v at in
      let m = mine.0 a in
      let t = mine.1 b in
      let vs : List (Known T F) = set views pass (putter n f v) in
      let old : AllAt (NoTaker h.input n f h.put h.taken) vs =
      AllAt-set (NoTaker h.input n f h.put h.taken) views pass (putter n f v)
      ((λ _. (m.0, refl, m.2, m.3, refl)), (λ p. true≢false (sym p)))
      (λ j u other e.
      let o = h.fits j u e in (
        (λ p. absurd (other ((o.0 p).0 ∙ sym m.0))),
        (λ p. other ((o.1 p).0 ∙ sym t.0)),
      )) in
      record {
        input = h.input;
        output = length vs;
        room = n;
        floor = f;
        put = h.put;
        taken = h.taken;
        in_order = h.in_order;
        within =
            room (length items) (let less = h.within in omega (arith, m.4))
            (omega (arith, ap length (m.2 ∙ h.in_order), length-append h.taken items));
        legal = rw m.2 at (again (rw (← m.1, ← m.2) at h.legal));
        fits = taker_joins h.input n f h.put h.taken vs (taker n f v) old refl refl
            (refl, t.2, t.3);
      }

  -- The joined pass is cut anew.
  pub parts :
      (pass : ℕ) (v : Known T F) → v.puts ≡ true → v.takes ≡ true
      → Forks (PortRule follows) pass v (putter v.room v.floor v) (taker v.room v.floor v)
  parts pass v a b = cuts pass v v.room v.floor a b (λ k less long. less) (λ h. h)

  -- The first pass is cut, and the room and the floor are set.
  pub opens :
      (pass : ℕ) (v : Known T F) (n : ℕ) (f : F) → v.puts ≡ true → v.takes ≡ true
      → put_of v ≡ []
      → Forks (PortRule follows) pass v (putter n f v) (taker n f v)
  opens pass v n f a b none =
      cuts pass v n f a b (λ k less long. omega (arith, ap length none))
      (λ _. subst (IsLegal follows f) (sym none) (nil_is_legal f))

  -- All that the end for takes knows leaves it.
  pub leaves :
      (pass : ℕ) (v : Known T F) → v.takes ≡ true → v.puts ≡ false
      → Forks (PortRule follows) pass v (idle v) v
  leaves pass v b alone items views h at =
      let t = (h.fits pass v at).1 b in
      let vs : List (Known T F) = set views pass (idle v) in
      let old : AllAt (NoTaker h.input h.room h.floor h.put h.taken) vs =
      AllAt-set (NoTaker h.input h.room h.floor h.put h.taken) views pass (idle v)
      ((λ p. cc), (λ p. true≢false (sym p)))
      (λ j u other e.
      let o = h.fits j u e in (o.0, (λ p. other ((o.1 p).0 ∙ sym t.0)))) in
      record {
        input = h.input;
        output = length vs;
        room = h.room;
        floor = h.floor;
        put = h.put;
        taken = h.taken;
        in_order = h.in_order;
        within = h.within;
        legal = h.legal;
        fits = taker_joins h.input h.room h.floor h.put h.taken vs v old alone b
            (t.1, t.2, t.3);
      }

  -- The two ends are joined, and the other pass is spent.
  pub merges :
      (pass : ℕ) (v : Known T F) (other : ℕ) (w : Known T F) (f : F)
      → v.puts ≡ true → w.takes ≡ true
      → Merges (PortRule follows) pass v other w (together v w) (known_alone 0 false false f [] [])
  merges pass v other w f a b items views h at two at' =
      let both : Known T F = together v w in
      let m = (h.fits pass v at).0 a in
      let vs : List (Known T F) = set views pass both in
      let was : get_elem? views other ≡ some w =
      ⊎_elim (λ x. absurd (two x.0)) (λ x. x.1) (at_set views pass other both w at') in
      let t = (h.fits other w was).1 b in
      let all : put_of v ≡ w.taken ++ items = cc (m.2, h.in_order, t.2) in
      let rest : drop (length w.taken) (put_of v) ≡ items =
      ap (drop (length w.taken)) all ∙ drop-append_seam w.taken items in
      let put : put_of both ≡ h.put = cc (rest, all, m.2) in
      let fits : PassFits follows h.input pass h.room h.floor h.put h.taken pass both = (
        (λ _. (m.0, m.1, put, IsPrefix-equal w.taken h.taken t.2, m.4)),
        (λ _. (refl, m.1, t.2, IsPrefix-equal (put_of both) h.put put)),
        (λ _ _. (m.2, t.3, t.1)),
      ) in
      let Now : ℕ → Known T F → Type 0 =
      λ j y. j ≢ other → PassFits follows h.input pass h.room h.floor h.put h.taken j y in
      let now : AllAt Now vs =
      AllAt-set Now views pass both (λ _. fits)
      (λ j y _ e apart.
      let o = h.fits j y e in (
        o.0,
        (λ p. absurd (apart ((o.1 p).0 ∙ sym t.0))),
        (λ _ p. absurd (apart ((o.1 p).0 ∙ sym t.0))),
      )) in
      let s : Known T F = known_alone 0 false false f [] [] in
      record {
        input = h.input;
        output = pass;
        room = h.room;
        floor = h.floor;
        put = h.put;
        taken = h.taken;
        in_order = h.in_order;
        within = h.within;
        legal = h.legal;
        fits =
            AllAt-set (PassFits follows h.input pass h.room h.floor h.put h.taken) vs other s
            ((λ p. cc), (λ p. cc), (λ p _. cc)) (λ j y apart e. now j y e apart);
      }

  -- The joined pass knows all that the port holds.
  pub totals :
      (pass : ℕ) (v : Known T F) → v.puts ≡ true → v.takes ≡ true
      → Learns (PortRule follows) pass v (Totals v)
  totals pass v a b items views h at =
      let mine = h.fits pass v at in
      let m = mine.0 a in
      let t = mine.1 b in
      let j = mine.2 a b in (
        append_cancel_left v.taken v.ahead items (cc (m.2, h.in_order, t.2)),
        m.2 ∙ sym j.0,
        (j.1.0, j.1.1 ∙ sym m.2),
        j.2 ∙ sym m.1,
        let less = h.within in omega (arith, m.4),
      )

module _ {T F : Type 0} where
  -- What two ends know after they were joined and split again.
  pub shares :
      (v w v' w' : Known T F) (items : List T) → Totals (together v w) items
      → v' ≡ putter v.room v.floor (together v w) → w' ≡ taker v.room v.floor (together v w)
      → Shares v w v' w'
  shares v w v' w' items t a b = rw (a, b) (record {
    floor = refl;
    floor_in = refl;
    floor_out = sym t.3;
    taken = refl;
    taken_in = refl;
    put = t.1;
    put_in = t.1;
    ahead = refl;
    later = (
      t.2.0,
      append_cancel_left w.taken (w.ahead ++ t.2.0) (together v w).ahead
          (cc (t.2.1, append_assoc w.taken w.ahead t.2.0)),
    );
    room = refl;
    within = rw t.0 t.4;
  })
