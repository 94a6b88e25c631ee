-- Nodes that are written one by one, in room for just as many.
use Rattle.std.proofs.Common.{◌≡◌, ◌∙◌, ◌+◌, ◌<◌, ◌≤◌, ℕ, List, [], ◌∷◌, ◌++◌, length, take, set, refl, sym, ap, subst, suc, zero, add-one}
use Rattle.std.specs.Prelude.{Some, slice_get}
use Rattle.std.proofs.lemmas.List.{length-set, map-append, take_all, take_more_set}
use Rattle.std.proofs.lemmas.Option.{slice_get_within}
use Rattle.lq_volume.specs.State.{Record}
use Rattle.lq_embed.specs.Saves.{nodes_in}

-- the nodes of the first entries are written
pub record AreWritten (es : List (ℕ × Record)) (index : ℕ) (out : List ℕ) : Type 0 where
  pub room : length out ≡ length es
  pub written : take index out ≡ nodes_in (take index es)

-- one more item of a list
take-next : {X : Type 0} (xs : List X) (i : ℕ) (x : X) → slice_get xs i ≡ Some x
    → take (suc i) xs ≡ take i xs ++ x ∷ []
take-next [] i x h = cc
take-next (y ∷ ys) zero x h = let same : y ≡ x = cc in rw same refl
take-next (y ∷ ys) (suc i) x h = ap (λ (zs : List _). y ∷ zs) (take-next ys i x h)

-- the next node
pub written-next : (es : List (ℕ × Record)) (index : ℕ) (out : List ℕ) (node : ℕ) (r : Record)
    → slice_get es index ≡ Some (node, r) → AreWritten es index out
    → AreWritten es (index + 1) (set out index node)
written-next es index out node r at was =
    let lt : index < length out = subst (λ n. index < n) (sym was.room)
    (slice_get_within es index (node, r) at) in
    let next : take (index + 1) es ≡ take index es ++ (node, r) ∷ [] =
    rw add-one (take-next es index (node, r) at) in
    record {
      room = length-set out index node ∙ was.room;
      written = take_more_set out index node lt ∙ (ap (λ l. l ++ node ∷ []) was.written
          ∙ sym (ap nodes_in next ∙ map-append (λ e. e.0) (take index es) ((node, r) ∷ [])));
    }

-- all of them
pub written-all : (es : List (ℕ × Record)) (index : ℕ) (out : List ℕ) → length out ≤ index
    → AreWritten es index out → out ≡ nodes_in es
written-all es index out past was =
    sym (take_all index out past)
    ∙ (was.written
    ∙ ap nodes_in (take_all index es (subst (λ n. n ≤ index) was.room past)))
