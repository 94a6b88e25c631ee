-- What an end knows after a step, so that the invariant of its type stays.
use Rattle.std.proofs.Common.{◌≡◌, ◌+◌, ◌≤◌, ◌⊎◌, ℕ, Bool, List, [], ◌∷◌, ◌++◌, length, drop, refl, ap, ◌∙◌, inl, inr, append_assoc, append-nil, arith, length-append}
use Rattle.lq_port.specs.Known.{Known}
use Rattle.lq_port.specs.End.{IsPutter, IsTaker}
use Rattle.lq_port.specs.Port.{known_alone, put_of, AddsItem, IsLegal, Removes}
use Rattle.lq_port.proofs.PortLemmas.{nil_is_legal, snoc_is_legal}

module _ {T F : Type 0} (follows : List T → F → T → Type 0) where
  -- an end of a new port
  pub new_end :
      (v : Known T F) (n : ℕ) (f : F) (puts takes : Bool) → v ≡ known_alone n puts takes f [] []
      → (length v.taken ≡ 0) × (length (put_of v) ≡ 0) × IsLegal follows v.floor (put_of v)
  new_end v n f puts takes e = rw e (refl, refl, nil_is_legal follows f)

  -- the end for puts after a put: it stays one, puts are one more and stay legal, the room stays,
  -- and no more items wait than that
  pub after_put :
      (v w : Known T F) (x : T) (n room : ℕ) → AddsItem v x w → n ≡ length (put_of v)
      → IsLegal follows v.floor (put_of v) → follows (put_of v) v.floor x → v.room ≡ room
      → IsPutter w × (n + 1 ≡ length (put_of w)) × IsLegal follows w.floor (put_of w)
      × (w.room ≡ room) × (length w.ahead ≤ w.room)
  after_put v w x n room a long legal ok same =
      let stays = ap (λ (k : Known T F). k.room) a.view in (
        (ap (λ (k : Known T F). k.puts) a.view, ap (λ (k : Known T F). k.takes) a.view),
        omega (arith, long, ap length a.put, length-append (put_of v) (x ∷ [])),
        rw (ap (λ (k : Known T F). k.floor) a.view, a.put)
            (snoc_is_legal follows v.floor (put_of v) x legal ok),
        stays ∙ same,
        omega (arith, a.within, stays),
      )

  -- what is known to be put stays legal after a take
  take_is_legal :
      (v : Known T F) (x : T) → ((v.ahead ≡ []) ⊎ (v.ahead ≡ x ∷ drop 1 v.ahead))
      → follows v.taken v.floor x → IsLegal follows v.floor (put_of v)
      → IsLegal follows v.floor ((v.taken ++ x ∷ []) ++ drop 1 v.ahead)
  take_is_legal v x (inl e) ok legal =
      let was : IsLegal follows v.floor v.taken = rw (e, append-nil) at legal in
      rw (e, append-nil (v.taken ++ x ∷ [])) (snoc_is_legal follows v.floor v.taken x was ok)
  take_is_legal v x (inr e) ok legal =
      rw (append_assoc v.taken (x ∷ []) (drop 1 v.ahead), ← e) legal

  -- the end for takes after a take: it stays one, takes are one more, and puts stay legal
  pub after_take :
      (v w : Known T F) (x : T) (n : ℕ) → Removes follows v x w → n ≡ length v.taken
      → IsLegal follows v.floor (put_of v)
      → IsTaker w × (n + 1 ≡ length w.taken) × IsLegal follows w.floor (put_of w)
  after_take v w x n r long legal = rw r.0 (
    (refl, refl),
    omega (arith, long, length-append v.taken (x ∷ [])),
    take_is_legal v x r.1 r.2 legal,
  )
