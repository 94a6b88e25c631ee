-- `served_mut` lends the session, and the handle follows it.
use mathlib.Core.Path.{◌≡◌, refl}
use Prim.Native.Nat.{ℕ}
use mathlib.Core.List.{List, [], ◌∷◌}
use seplogic.Ra.Ura.{Ura}
use base.Fraction.{full_share}
use mir.Syntax.{named}
use mir.Val.{Val, vptr}
use base.Logic.{SProp, ent, sep, emp, via, fst∗, id⊢}
use base.Fml.{Lft, GName, Share, Fml, ftrue, flft, fsep}
use prog.Memory.{Memory}
use prog.Routine.{Routine}
use prog.Wp.{Env, Calls, Loops, WpFn, Tables}
use types.Logic.{Logic, sem}
use sound.WpLaws.{WpFn-mono}
use contract.Monad.{Fun}
use contract.Running.{tables, tables_of}
use types.Kit.{‵, ◌⊛◌, some, at_ret, ◌$◌, ◌∵◌, !, qed, by, move, keep, use1, drop, split, join, pick, fsplit, fsplit3, fjoin, suffices, frame, done, raw, later, await, group, fpack, rewrite}
use types.Part.{whole, sub, look_in}
use types.Run.{stop, fld, load, of_opd, first, blocks, exec, returns, enter, addr}
use types.ByLocal.{alloc_all, pass_all, free_all, look_at, get, through, sets, env, sets_last}
use denote.RattleType.{RattleType, owns}
use denote.Memory.{part_at, mem, cell_at, part_of}
use denote.RawPtr.{block_ptr}
use denote.Ref.{MutRef, mut_vals, mut_Tells}
use denote.Signature.{plain, mut_ref_to}
use denote.Steps.{nothing, opens}
use denote.Triple.Entry.{on_entry}
use denote.Triple.Spec.{Meets, triple_of}
use denote.Triple.Table.{entered}
use denote.Triple.Walked.{says, Stays, stay_dropped, walk_of, ends_at, walked, walk_Meets, Goes-spent_ref}
use mir.Raw.{raw as bare}
use denote.Exit.{no}
use denote.Follow.{follows, Part, lends_Part}
use Rattle.core.proofs.alloc.Calls.{token}
use Rattle.std_alloc.proofs.VecSteps.Shapes.{after}
use Rattle.std_alloc.proofs.BoxSteps.Form.{D, B, τ, word, handle}
use Rattle.std_alloc.proofs.BoxSteps.Steps.{box_out, box_in}
use Rattle.lq_c.proofs.AsBox.{E}
use Rattle.lq_c.specs.contracts.handle_target.Served as Served
use Rattle.lq_c.specs.contracts.handle.Lq as Lq
use Rattle.lq_c.specs.Lent.{with_served}
use Rattle.lq_c.specs.contracts.handle.Lq.served_mut as F
use Rattle.lq_c.specs.contracts.handle.Lq.served_mut.Key.{name as #self}
use Rattle.lq_c.proofs.handle.Lq.served_mut.Statement as stated
use Rattle.lq_c.proofs.handle.Lq.served_mut.Code as code

abbrev S : RattleType
S = Lq.the_row

abbrev T : RattleType
T = Served.the_row

abbrev boxed : S.Denot → D E
boxed h = record { ptr = h.ptr; alloc = h.alloc; value = h.served }

abbrev stayed : Stays (F.ended).signature.params (F.ended).kept
stayed = (stay_dropped (mut_ref_to (0 ∷ []) tt (plain (λ _. S))) no, tt)

module _ {M : Type 1} {𝓤 : Ura M} (𝓛 : Logic 𝓤) (at_mem : Memory → SProp 𝓤) (run : Routine → Fun
    𝓤) (κ : Lft) (q : Share) (rb ro : ℕ) (γ : GName) (h : S.Denot) where
  open 𝓛 use {H, A}

  abbrev bound : (walk_of 𝓛 F.ended stayed (F.clauses 𝓛 at_mem run)).Ghost
  bound = (
    (
      (κ, tt),
      (q, tt),
      tt,
      (record { ref_ptr = (rb, ro); ghost_name = γ; now = h }, tt),
      (vptr rb ro ∷ [], tt),
    ),
    tt,
  )

  abbrev Post : Val → SProp 𝓤
  Post = (walk_of 𝓛 F.ended stayed (F.clauses 𝓛 at_mem run)).post bound

  module _ (b o : ℕ) (hv : Val) where
    -- all of the handle but the session
    abbrev Rest : Fml
    Rest = fsep (fsep (token E.al h.alloc (bare (τ E)) (block_ptr b o)) (handle E h.alloc hv))
        (cell_at full_share S.mir (word E hv b o ∷ []) rb ro)

    back : h.ptr ≡ block_ptr b o → (w : T.Denot) → ent 𝓤 (sep 𝓤 (sem 𝓛 ((mem T).own_at w b o))
        (sem 𝓛 Rest)) (sem 𝓛 ((mem S).own_at (with_served h w) rb ro))
    unfolding part_of
    back at_b w =
        qed 𝓛 (‵ (part_at T full_share w b o) ∷ ‵ Rest ∷ []) ∵ move ! (1 ∷ []) $ fsplit ! $
        fsplit ! $ move ! (3 ∷ []) $
        box_in E ! (boxed (with_served h w)) b o w at_b refl $
        use1 𝓛 (‵ (S.own_val (with_served h w) (word E hv b o ∷ []))) (id⊢ 𝓤 _) $
        move ! (1 ∷ 0 ∷ []) $ fjoin ! $
        fpack ! (List Val) (λ us. fsep (cell_at full_share S.mir us rb ro) (S.own_val (with_served
        h w) us)) (word E hv b o ∷ []) $ done !

    exits : (γ' : GName)
        → ent 𝓤 (sep 𝓤 (sem 𝓛 ((MutRef (named 0) κ T).own_val (record {
          ref_ptr = (b, o);
          ghost_name = γ';
          now = h.served;
        }) (vptr b o ∷ []))) (sep 𝓤 (A.lft κ q) (sem 𝓛
        (follows S T γ γ' (with_served h))))) (Post (vptr b o))
    exits γ' =
        qed 𝓛 (‵ ((MutRef (named 0) κ T).own_val (record {
          ref_ptr = (b, o);
          ghost_name = γ';
          now
              = h.served;
        }) (vptr b o ∷ [])) ∷ ‵ (flft κ q) ∷ ‵ (follows S T γ γ' (with_served h)) ∷
        []) ∵
        suffices ! _ (ends_at 𝓛 F.ended stayed (F.clauses 𝓛 at_mem run) bound (vptr b o) (record {
          ref_ptr = (b, o);
          ghost_name = γ';
          now = h.served;
        }) (tt, tt) (tt, tt)) $
        nothing ! $ nothing ! $ fjoin ! $ join ! $ nothing ! $ move ! (2 ∷ 0 ∷ []) $ join ! $
        join ! $ frame ! $ says ! refl $ done !

  module _ (C : Calls 𝓤 H) (Λ : Loops 𝓤 H) where
    walk : ent 𝓤 (on_entry 𝓛 F.signature (κ, tt) (q, tt) (
      record {
        ref_ptr = (rb, ro);
        ghost_name
            = γ;
        now = h;
      },
      tt,
    ) (vptr rb ro ∷ [], tt)) (WpFn 𝓤 H C Λ code.function (vptr rb ro ∷ [])
        Post)
    walk =
        qed 𝓛 ((‵ (flft κ q) ⊛ ‵ ftrue) ∷ ‵ (owns (MutRef (named 0) κ S ∷ []) (
          record {
            ref_ptr =
                (rb, ro);
            ghost_name = γ;
            now = h;
          },
          tt,
        ) (vptr rb ro ∷ [], tt)) ∷ []) ∵
        enter ! C Λ code.function (vptr rb ro ∷ []) _ $
        alloc_all ! (λ l. pass_all ! refl ((tt, tt), tt) $
        let En : Env 𝓤 H = env code.function.locals l in
        move ! (1 ∷ []) $ fsplit ! $ fsplit3 ! $ drop ! $ move ! (3 ∷ []) $ split ! $
        move ! (2 ∷ 3 ∷ 0 ∷ []) $
        opens ! tt S {h = h} rb ro (λ vs. move ! (1 ∷ []) $
        use1 𝓛 (‵ ((B E).own_val (boxed h) vs)) (id⊢ 𝓤 _) $
        box_out E ! (boxed h) vs (λ b o hv at_b ws fa. move ! (1 ∷ 2 ∷ []) $ fjoin ! $
        move ! (1 ∷ []) $
        rewrite ! 2 (λ (us : List Val). ‵ (cell_at full_share S.mir us rb ro)) ws refl $
        first ! $ blocks ! $
        sets ! (of_opd ! (load ! (through ! refl (fld ! refl (stop !))) (look_in ! 2 (sub ! 0 refl
        (whole !))))) refl (tt, tt) $
        sets ! (of_opd ! (get ! refl)) refl (tt, tt) $
        sets_last ! (addr ! (through ! refl (stop !))) refl (tt, tt) $
        exec ! C Λ En (after 1 code.function.body) (at_ret En Post) $
        sets ! (of_opd ! (get ! refl)) refl (tt, tt) $
        move ! (1 ∷ 2 ∷ []) $ fjoin ! $ move ! (2 ∷ 3 ∷ 4 ∷ 1 ∷ 0 ∷ []) $ group ! 5 $
        use1 𝓛 (later (some (λ (γ' : GName). raw (Part 𝓛 S T (with_served h) (named 0) κ q rb ro b
        o γ (sem 𝓛 (Rest b o hv)) (back b o hv at_b) h.served γ'))))
        (lends_Part 𝓛 S T (with_served h) (named 0) κ q rb ro b o γ (sem 𝓛 (Rest b o hv)) (back b
        o hv at_b) (S.coded.code h) (S.coded.code h) h.served) $ await ! tt $ pick ! (λ γ'.
        returns ! (look_at ! 0 refl) $ free_all ! refl $
        keep ! (0 ∷ []) $ by ! (exits b o hv γ')))))

meets : {M : Type 1} {𝓤 : Ura M} (𝓛 : Logic 𝓤) (at_mem : Memory → SProp 𝓤) (run : Routine → Fun 𝓤)
    (𝓣 : Tables 𝓤 𝓛.H)
    → Meets 𝓛 F.signature (WpFn 𝓤 𝓛.H 𝓣.C 𝓣.Λ code.function) (F.spec 𝓛 at_mem run)
meets {𝓤 = 𝓤} 𝓛 at_mem run 𝓣 =
    walk_Meets 𝓛 F.ended stayed (Goes-spent_ref 𝓛 1 (0 ∷ []) tt (plain (λ _. S)), tt) (F.clauses 𝓛
    at_mem run) (WpFn 𝓤 𝓛.H 𝓣.C 𝓣.Λ code.function) (WpFn-mono 𝓤 𝓛.H 𝓛.laws 𝓣 code.function)
    (walked 𝓛 F.ended stayed (F.clauses 𝓛 at_mem run) (WpFn 𝓤 𝓛.H 𝓣.C 𝓣.Λ code.function) (λ κs.
    (mut_vals, tt)) (λ κs. (mut_Tells (named 0) κs.0 S, tt))
    (λ κs qs bounds a g are. via 𝓤 _ (fst∗ 𝓤 _ (emp 𝓤)) (walk 𝓛 at_mem run κs.0 qs.0 a.0.ref_ptr.0
    a.0.ref_ptr.1 a.0.ghost_name a.0.now 𝓣.C 𝓣.Λ)))

pub served_mut_spec : {M : Type 1} → stated.statement M
unfolding tables_of
served_mut_spec 𝓤 𝓛 𝓜 𝓡 wired =
    let 𝓣 : Tables 𝓤 𝓛.H = tables_of 𝓤 𝓛.H 𝓜 (tables 𝓤 𝓛.H 𝓜 𝓡 𝓡.env) in
    entered 𝓤 𝓛.H (triple_of 𝓛 F.signature (F.spec 𝓛 𝓜.mem 𝓡.returns)) 𝓣.C 𝓣.Λ #self code.function
    (code.unfolded 𝓤 𝓛.H 𝓜 𝓡 wired) (meets 𝓛 𝓜.mem 𝓡.returns 𝓣)
