-- A source is read as the elements that it writes, and its fault is where they end.
use Rattle.std.proofs.Common.{◌≡◌, ◌<◌, ◌-◌, ◌↔◌, ℕ, zero, suc, List, [], ◌∷◌, ◌++◌, length, Result, Ok, Err, IfErr, IfOk, unwrap_or, IsUtf8, refl, sym, ap, ◌∙◌, arith, append_assoc, append-nil}
use Rattle.std.specs.Global.{Vec}
use Rattle.lq_value_pattern.specs.declared.element.Element.{Element}
use Rattle.lq_value_pattern.specs.declared.error.SourceError.{SourceError}
use Rattle.lq_value_pattern.specs.declared.error.SourceError.TheVariants.{Faulty, NoMemory}
use Rattle.lq_value_pattern.specs.declared.sign.Sign.{Sign}
use Rattle.lq_value_pattern.specs.SourceError.{IsFailedBy}
use Rattle.lq_value_pattern.specs.Sign.{signs_of, signs_len}
use Rattle.lq_value_pattern.specs.Source.{First, ends, has, faulty, whole, stuck, after_first, pieces_of, element_at, pattern_of, source_error}
use Rattle.lq_value_pattern.specs.Written.{IsElement, Writes, HasFaultAt}
use Rattle.lq_value_pattern.proofs.PieceLemmas.{begins, begins-whole, begins-stuck, pieces_of-step, whole_none, whole_more}
use Rattle.lq_value_pattern.proofs.ElementLemmas.{IsFirstElement, element_read, element_written}
use Rattle.lq_value_pattern.proofs.SourceLemmas.{element_shrinks, element_split, signs-text, signs-split}

-- ---- elements that are read are written

-- the first element of a source, and then the others
element_step : (ss : List Sign)
    → pieces_of element_at ss ≡ after_first ss (element_at ss) (pieces_of element_at)
element_step = pieces_of-step Element element_at element_shrinks

-- elements that are read to the end are written by the source
elements_read : (es : List Element) (ss rest : List Sign)
    → pieces_of element_at ss ≡ whole es rest → Writes ss es
elements_read [] ss rest e =
    rw (whole_none Element element_at element_shrinks ss rest e) at (element_read ss)
elements_read (x ∷ es) ss rest e =
    let m = whole_more Element element_at element_shrinks ss x es rest e in
    let h = element_split ss x m.0 m.1 in
    (h.0, m.0, h.1, h.2, elements_read es m.0 rest m.2)

-- where reading stops, what is before it is written, and no element is read
abbrev pub StopsAt : List Sign → List Sign → Type 0
StopsAt ss left = (es : List Element) × (front : List Sign) × (ss ≡ front ++ left) × Writes front es
    × (element_at left ≡ faulty)

-- elements that are read up to a fault stop at it
elements_stop : (n : ℕ) (ss left : List Sign)
    → length ss < n → pieces_of element_at ss ≡ stuck left → StopsAt ss left
elements_stop zero ss left l e = absurd (omega arith)
elements_stop (suc n) ss left l e =
    by (λ more. elements_stop n more left) (element_at ss) refl (sym (element_step ss) ∙ e)
  where
    by : ((more : List Sign) → length more < n
        → pieces_of element_at more ≡ stuck left → StopsAt more left)
        → (r : First Element) → element_at ss ≡ r
        → after_first ss r (pieces_of element_at) ≡ stuck left → StopsAt ss left
    by stops (ends rest) is k = absurd (let no : ⊥ = cc in no)
    by stops (has x rest) is k =
        let p = element_split ss x rest is in
        let more : pieces_of element_at rest ≡ stuck left = grind (arith, k) in
        let s = stops rest (omega (arith, element_shrinks ss x rest is)) more in (
          x ∷ s.0,
          p.0 ++ s.1,
          cc (p.1, s.2, append_assoc p.0 s.1 left),
          (p.0, s.1, refl, p.2, s.3),
          s.4,
        )
    by stops faulty is k =
        let same : ss ≡ left = cc in
        ([], [], same, refl, rw same at is)

-- ---- elements that are written are read

-- what writes elements before more signs is read as them, and then the rest
elements_written : (es : List Element) (front rest : List Sign) → Writes front es
    → pieces_of element_at (front ++ rest) ≡ begins es (pieces_of element_at rest)
elements_written [] front rest h = rw h refl
elements_written (e ∷ es) front rest h =
    let first : element_at (front ++ rest) ≡ has e (h.1 ++ rest) =
    rw (h.2, append_assoc) (element_written e h.0 (h.1 ++ rest) h.3) in
    cc (first, element_step (front ++ rest), elements_written es h.1 rest h.4)

-- ---- the laws

-- what is read without a fault is written by the source
ok_writes : (text : List ℕ) (es : List Element) → pattern_of text ≡ Ok es
    → Writes (signs_of text) es
ok_writes text es h =
    let ss = signs_of text in
    let w : (rest : List Sign) × (pieces_of element_at ss ≡ whole es rest) = grind arith in
    elements_read es ss w.0 w.1

-- what the source writes is read without a fault
writes_ok : (text : List ℕ) (es : List Element) → Writes (signs_of text) es
    → pattern_of text ≡ Ok es
writes_ok text es h =
    let ss = signs_of text in
    let none = begins-whole Element es [] in
    let all : pieces_of element_at ss ≡ whole es [] =
    cc (append-nil ss, elements_written es ss [] h, element_step [], none) in
    rw all refl

-- a source is read as some elements just where it writes them
pub source_written : (text : List ℕ) (es : List Element)
    → (pattern_of text ≡ Ok es) ↔ Writes (signs_of text) es
source_written text es = (ok_writes text es, writes_ok text es)

-- a source that is read up to an offset has its fault there
err_fault : (text : List ℕ) (offset : ℕ) → IsUtf8 text → pattern_of text ≡ Err offset
    → HasFaultAt text offset
err_fault text offset u h =
    let ss = signs_of text in
    let k : (left : List Sign) × (pieces_of element_at ss ≡ stuck left)
    × (length text - signs_len left ≡ offset) = grind arith in
    let s = elements_stop (suc (length ss)) ss k.0 (omega arith) k.1 in
    record {
      elements = s.0;
      front = s.1;
      rest = k.0;
      split = s.2;
      before = s.3;
      some = λ e. cc (e, s.4);
      none = λ x part behind e w. cc (e, s.4, element_written x part behind w);
      bytes = omega (arith, k.2, signs-text text u, ap signs_len s.2, signs-split s.1 k.0);
    }

-- where no element is written and something is left, the reader is stuck
faulty_there : (ss : List Sign) (r : First Element) → IsFirstElement ss r → (ss ≡ [] → ⊥)
    → ((e : Element) (part behind : List Sign) → ss ≡ part ++ behind → IsElement e part → ⊥)
    → r ≡ faulty
faulty_there ss (ends rest) h some none = absurd (some h)
faulty_there ss (has e rest) h some none = absurd (none e h.0 rest h.1 h.2)
faulty_there ss faulty h some none = refl

-- a source with a fault at an offset is read up to it
fault_err : (text : List ℕ) (offset : ℕ) → IsUtf8 text → HasFaultAt text offset
    → pattern_of text ≡ Err offset
fault_err text offset u f =
    let is = faulty_there f.rest (element_at f.rest) (element_read f.rest) f.some f.none in
    let before = elements_written f.elements f.front f.rest f.before in
    let stops = begins-stuck Element f.elements f.rest in
    let all : pieces_of element_at (signs_of text) ≡ stuck f.rest =
    cc (f.split, before, is, element_step f.rest, stops) in
    let bytes : length text - signs_len f.rest ≡ offset =
    omega (arith, signs-text text u, ap signs_len f.split, signs-split f.front f.rest, f.bytes) in
    rw (all, bytes) refl

-- a source is read up to an offset just where its fault is there
pub source_faulty : (text : List ℕ) (offset : ℕ) → IsUtf8 text
    → (pattern_of text ≡ Err offset) ↔ HasFaultAt text offset
source_faulty text offset u = (err_fault text offset u, fault_err text offset u)

-- ---- the same of a call's answer

-- an answer that is as the source is read is written by it
pub answer_written : (text : List ℕ) (r : Result (Vec Element) SourceError)
    → IfOk r (λ v. pattern_of text ≡ Ok v.items) → IfOk r (λ v. Writes (signs_of text) v.items)
answer_written text (Ok v) h = ok_writes text v.items h
answer_written text (Err e) h = tt

-- the offset of an error is that of the fault
pub fault_named : (text : List ℕ) (offset : ℕ) → IsUtf8 text
    → Faulty offset ≡ unwrap_or (source_error text) NoMemory → HasFaultAt text offset
fault_named text offset u is = err_fault text offset u (grind arith)

-- an answer that refuses with an offset names the offset of the fault
pub answer_fault : (text : List ℕ) (r : Result (Vec Element) SourceError)
    → IsUtf8 text → IsFailedBy r (source_error text)
    → IfErr r (λ e. (offset : ℕ) → e ≡ Faulty offset → HasFaultAt text offset)
answer_fault text (Ok v) u h = tt
answer_fault text (Err e) u h = λ offset is. fault_named text offset u (sym is ∙ h.1)
