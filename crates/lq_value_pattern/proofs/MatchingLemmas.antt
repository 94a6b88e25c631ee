-- What single elements take, and that going back to the latest star is enough.
use Rattle.std.proofs.Common.{◌≡◌, ◌&&◌, ℕ, ◌+◌, List, [], ◌∷◌, ◌++◌, length, drop, true, false, refl, sym, ap, ◌∙◌, arith, append_assoc, length-append, drop-drop}
use Rattle.std.proofs.lemmas.Bool.{false≢true}
use Rattle.std.proofs.lemmas.Bool.Decides.{same_from_decides}
use Rattle.std.proofs.lemmas.List.Prefix.{front_rest}
use Rattle.lq_value_pattern.specs.declared.element.Element.{Element}
use Rattle.lq_value_pattern.specs.declared.element.Element.TheVariants.{Star}
use Rattle.lq_value_pattern.specs.Element.{takes}
use Rattle.lq_value_pattern.specs.Pattern.{is_fit, head_then, is_end, some_rest}
use Rattle.lq_value_pattern.specs.Matching.{IsSingle, AreSingle, TakesOne, TakesRun, PassesToStar, Finds}
use Rattle.lq_value_pattern.specs.Seek.{take_front}
use Rattle.lq_value_pattern.proofs.PatternLemmas.{some_found, some_at, some_dropped}

-- ---- single elements

-- a single element takes the first character, and the others fit the rest
single_fits : (e : Element) (es : List Element) (cs : List ℕ) → IsSingle e
    → is_fit (e ∷ es) cs ≡ head_then (takes e) (is_fit es) cs
single_fits Star es cs s = absurd s
single_fits e es cs s = refl

-- single elements take a character each, and the others fit what is left
pub fits_join : (piece es : List Element) (cs : List ℕ) → AreSingle piece
    → is_fit (piece ++ es) cs ≡ (take_front piece cs && is_fit es (drop (length piece) cs))
fits_join [] es cs s = refl
fits_join (e ∷ piece) es [] s = single_fits e (piece ++ es) [] s.0
fits_join (e ∷ piece) es (c ∷ cs) s =
    grind (arith, single_fits e (piece ++ es) (c ∷ cs) s.0, fits_join piece es cs s.1)

-- an element that takes a character is no star
single : (e : Element) (c : ℕ) → takes e c ≡ true → IsSingle e
single Star c t = absurd (false≢true t)
single e c t = tt

-- a single element after single elements makes single elements
pub AreSingle-push : (piece : List Element) (e : Element) → AreSingle piece → IsSingle e
    → AreSingle (piece ++ e ∷ [])
AreSingle-push [] e s t = (t, tt)
AreSingle-push (p ∷ piece) e s t = (s.0, AreSingle-push piece e s.1 t)

-- a text that some elements pass, and one element more that takes its next character
pub passes_more : (es : List Element) (cs : List ℕ) (es' : List Element) (cs' : List ℕ)
    (es'' : List Element) (cs'' : List ℕ) → TakesRun es cs es' cs' → TakesOne es' cs' es'' cs''
    → TakesRun es cs es'' cs''
passes_more es cs es' cs' es'' cs'' p t =
    let s = single t.e t.c t.taken in
    record {
      piece = p.piece ++ t.e ∷ [];
      run = p.run ++ t.c ∷ [];
      elements = cc (append_assoc p.piece (t.e ∷ []) es'');
      text = cc (append_assoc p.run (t.c ∷ []) cs'');
      same = simp length-append (ap (λ n. n + 1) p.same);
      single = AreSingle-push p.piece t.e p.single s;
      fit = cc (single_fits t.e es'' (t.c ∷ cs'') s);
    }

-- ---- a place behind which what is left decides

-- a pattern that passes up to a star fits some rest just where the star's part fits
found_star : (es : List Element) (cs : List ℕ) (es' : List Element) (cs' : List ℕ)
    → TakesRun es cs (Star ∷ es') cs' → some_rest (is_fit es) cs ≡ is_fit (Star ∷ es') cs'
found_star es cs es' cs' p = same_from_decides {P = is_fit (Star ∷ es') cs' ≡ true} _ _ (
  λ h.
      let r = some_found (is_fit es) cs h in
      let n = length p.run in
      let there : drop n (drop r.0 cs) ≡ drop r.0 cs' =
      grind (arith, drop-drop n r.0 cs, drop-drop r.0 n cs, front_rest cs p.run cs' p.text) in
      let fit = fits_join p.piece (Star ∷ es') (drop r.0 cs) p.single in
      some_dropped (is_fit es') cs' r.0 (grind (arith, r.2, fit, there, p.elements, p.same)),
  λ h. some_at (is_fit es) cs 0 (p.fit ∙ h),
)
    (λ h. h, λ h. h)

-- elements that pass up to a star are found there
pub found_at_star : (es : List Element) (cs : List ℕ) (e : Element) (es' left : List Element)
    (cs' : List ℕ) → left ≡ e ∷ es' → PassesToStar es cs left cs' → Finds es cs left cs'
found_at_star es cs Star es' left cs' is p =
    let from : TakesRun es cs (Star ∷ es') cs' = rw is at p.passes in
    rw is (record {
      same = found_star es cs es' cs' from;
      star = tt;
      shorter = omega (arith, ap length from.elements, length-append from.piece (Star ∷ es'));
    })
found_at_star es cs e es' left cs' is p = absurd (rw is at p.star)

-- elements that pass up to the text's end, and are all, are found there
pub found_at_end : (es : List Element) (cs : List ℕ) (left : List Element) (cs' : List ℕ)
    → left ≡ [] → is_end cs' ≡ true → PassesToStar es cs left cs' → Finds es cs left cs'
found_at_end es cs left cs' is end p = rw is (record {
  same = some_at (is_fit es) cs 0 (p.passes.fit ∙ (ap (λ l. is_fit l cs') is ∙ end)) ∙ sym end;
  star = tt;
  shorter = omega arith;
})

-- where no element is left and the text goes on, the pattern doesn't fit here
pub not_found : (es : List Element) (cs : List ℕ) (left : List Element) (cs' : List ℕ)
    → left ≡ [] → is_end cs' ≡ false → PassesToStar es cs left cs' → is_fit es cs ≡ false
not_found es cs left cs' is end p = p.passes.fit ∙ (ap (λ l. is_fit l cs') is ∙ end)

-- a place that isn't the first
pub found_later : (es : List Element) (text cs : List ℕ) (es' : List Element) (cs' : List ℕ)
    → some_rest (is_fit es) text ≡ some_rest (is_fit es) cs → Finds es cs es' cs'
    → Finds es text es' cs'
found_later es text cs es' cs' e f =
    record { same = e ∙ f.same; star = f.star; shorter = f.shorter }

-- a pattern that doesn't fit here fits some rest just where it fits a later one
pub some_later : (es : List Element) (c : ℕ) (cs : List ℕ) → is_fit es (c ∷ cs) ≡ false
    → some_rest (is_fit es) (c ∷ cs) ≡ some_rest (is_fit es) cs
some_later es c cs e = rw e refl

-- for the search at one place
pub ruleset found_here = (found_at_star, found_at_end, not_found)

-- for the search at the next place
pub ruleset later = (found_later, some_later)
