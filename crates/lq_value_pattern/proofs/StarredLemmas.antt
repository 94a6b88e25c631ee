-- Plain elements with stars at their ends fit the texts that have their text in them.
use Rattle.std.proofs.Common.{◌≡◌, ℕ, List, [], ◌∷◌, ◌++◌, length, get_or, Bool, true, false, Decides, bytes_eq, chars, encode_utf8_all, string_bytes, IsCharBoundary, IsUtf8, refl, sym, ap, ◌∙◌, arith, append-nil, take_at}
use Rattle.std.specs.Str.Iter.{HasSubslice}
use Rattle.std.proofs.lemmas.Bool.Decides.{same_from_decides}
use Rattle.std.proofs.lemmas.List.{get_or_at}
use Rattle.std.proofs.lemmas.List.Prefix.{front_fits}
use Rattle.std.proofs.lemmas.Slice.Eq.{bytes_eq-Decides}
use Rattle.std.proofs.lemmas.Str.{IsCharBoundary-at_seam, IsCharBoundary-start, IsUtf8-take, chars-append, chars-nil, encodes-append, encodes-chars}
use Rattle.lq_value_pattern.specs.declared.element.Element.{Element}
use Rattle.lq_value_pattern.specs.declared.element.Element.TheVariants.{Star}
use Rattle.lq_value_pattern.specs.declared.starred.Starred.{Starred}
use Rattle.lq_value_pattern.specs.Pattern.{Fits, is_fit, plain_elements, starred_elements, with_stars}
use Rattle.lq_value_pattern.proofs.PatternLemmas.{fits-sound, fits-complete}

-- A text has these codes in it: at its front where no star stands before them, and at its end
-- where none stands behind them.
abbrev pub HasText : Bool → List ℕ → Bool → List ℕ → Type 0
HasText false cs false ds = ds ≡ cs
HasText false cs true ds = (back : List ℕ) × (ds ≡ cs ++ back)
HasText true cs false ds = (front : List ℕ) × (ds ≡ front ++ cs)
HasText true cs true ds = HasSubslice ds cs

-- ---- in characters

-- plain elements before others fit their characters, and the others the rest
plain-splits : (cs : List ℕ) (es : List Element) (ds : List ℕ) → Fits (plain_elements cs ++ es) ds
    → (rest : List ℕ) × (ds ≡ cs ++ rest) × Fits es rest
plain-splits [] es ds h = (ds, refl, h)
plain-splits (c ∷ cs) es ds h =
    let r = plain-splits cs es h.1 h.4 in (r.0, cc (h.2, h.3, r.1), r.2)

-- a text that is fitted has the characters in it
has-fitted : (before : Bool) (cs : List ℕ) (behind : Bool) (ds : List ℕ)
    → Fits (with_stars before cs behind) ds → HasText before cs behind ds
has-fitted false cs false ds h =
    let r = plain-splits cs [] ds h in cc (r.1, r.2, append-nil cs)
has-fitted false cs true ds h = let r = plain-splits cs (Star ∷ []) ds h in (r.0, r.1)
has-fitted true cs false ds h =
    let r = plain-splits cs [] h.1 h.4 in (h.0, cc (h.2, r.1, r.2, append-nil cs))
has-fitted true cs true ds h =
    let r = plain-splits cs (Star ∷ []) h.1 h.4 in (h.0, r.0, cc (h.2, r.1))

-- characters and what others fit are fitted by plain elements before the others
plain-joins : (cs : List ℕ) (es : List Element) (rest : List ℕ) → Fits es rest
    → Fits (plain_elements cs ++ es) (cs ++ rest)
plain-joins [] es rest h = h
plain-joins (c ∷ cs) es rest h = (c ∷ [], cs ++ rest, refl, refl, plain-joins cs es rest h)

-- a star fits a text
star-fits : (ds : List ℕ) → Fits (Star ∷ []) ds
star-fits ds = (ds, [], sym (append-nil ds), tt, refl)

-- a text that has the characters in it is fitted
fitted-has : (before : Bool) (cs : List ℕ) (behind : Bool) (ds : List ℕ)
    → HasText before cs behind ds → Fits (with_stars before cs behind) ds
fitted-has false cs false ds h = rw h (rw (append-nil cs) at (plain-joins cs [] [] refl))
fitted-has false cs true ds h = rw h.1 (plain-joins cs (Star ∷ []) h.0 (star-fits h.0))
fitted-has true cs false ds h =
    (h.0, cs, h.1, tt, rw (append-nil cs) at (plain-joins cs [] [] refl))
fitted-has true cs true ds h =
    (h.0, cs ++ h.1, h.2, tt, plain-joins cs (Star ∷ []) h.1 (star-fits h.1))

-- ---- in bytes

-- what stands before a character in a text is itself a text
front-utf8 : (t front rest : List ℕ) → IsUtf8 t → t ≡ front ++ rest
    → IsCharBoundary t (length front) → IsUtf8 front
front-utf8 t front rest u e cut =
    rw (e, take_at front rest (length front) refl) at (IsUtf8-take t (length front) u cut)

-- a character begins where a text that has one begins in another
text-begins : (t front : List ℕ) (b : ℕ) (x back : List ℕ) → IsUtf8 (b ∷ x)
    → t ≡ front ++ (b ∷ (x ++ back)) → IsCharBoundary t (length front)
text-begins t front b x back v e =
    let here : get_or t (length front) 0 ≡ b =
    rw e (get_or_at front b (x ++ back) 0 (length front) refl) in
    (front_fits t front _ e, λ _. rw here ((IsCharBoundary-start (b ∷ x) v).1 (omega arith)))

-- a text that has the bytes of another in it has its characters in it
has-chars : (before : Bool) (x : List ℕ) (behind : Bool) (t : List ℕ) → IsUtf8 x → IsUtf8 t
    → HasText before x behind t → HasText before (chars x) behind (chars t)
has-chars false x false t v u h = ap chars h
has-chars false x true t v u h = (chars h.0, ap chars h.1 ∙ chars-append x h.0 v)
has-chars true x false t v u h =
    let front = front-utf8 t h.0 x u h.1 (IsCharBoundary-at_seam t h.0 x h.1 v) in
    (chars h.0, ap chars h.1 ∙ chars-append h.0 x front)
has-chars true [] true t v u h = (chars t, [], cc (chars-nil, append-nil (chars t)))
has-chars true (b ∷ x) true t v u h =
    let rest = b ∷ (x ++ h.1) in
    let front = front-utf8 t h.0 rest u h.2 (text-begins t h.0 b x h.1 v h.2) in
    (chars h.0, chars h.1, cc (h.2, chars-append h.0 rest front, chars-append (b ∷ x) h.1 v))

-- a text that has the characters of another in it has its bytes in it
has-bytes : (before : Bool) (x : List ℕ) (behind : Bool) (t : List ℕ) → IsUtf8 x → IsUtf8 t
    → HasText before (chars x) behind (chars t) → HasText before x behind t
has-bytes false x false t v u h = cc (encodes-chars t u, encodes-chars x v)
has-bytes false x true t v u h = (
  encode_utf8_all h.0,
  cc (h.1, encodes-chars t u, encodes-append (chars x) h.0, encodes-chars x v),
)
has-bytes true x false t v u h = (
  encode_utf8_all h.0,
  cc (h.1, encodes-chars t u, encodes-append h.0 (chars x), encodes-chars x v),
)
has-bytes true x true t v u h =
    let back = encodes-append (chars x) h.1 in (
      encode_utf8_all h.0,
      encode_utf8_all h.1,
      cc (h.2, encodes-chars t u, encodes-append h.0 (chars x ++ h.1), back, encodes-chars x v),
    )

-- a test of whether the bytes are there is the test of the elements
tells : (r before : Bool) (x : List ℕ) (behind : Bool) (t : List ℕ) → IsUtf8 x → IsUtf8 t
    → Decides r (HasText before x behind t)
    → r ≡ is_fit (with_stars before (chars x) behind) (chars t)
tells r before x behind t v u is =
    let es = with_stars before (chars x) behind in
    same_from_decides {P = HasText before x behind t} r (is_fit es (chars t)) is (
      λ e. has-bytes before x behind t v u
          (has-fitted before (chars x) behind (chars t) (fits-sound es (chars t) e)),
      λ h. fits-complete es (chars t)
          (fitted-has before (chars x) behind (chars t) (has-chars before x behind t v u h)),
    )

-- the same of the elements that the parts of a pattern stand for
pub tells-starred : (r : Bool) (s : Starred) (before : Bool) (x : List ℕ) (behind : Bool)
    (t : List ℕ) → s.before ≡ before → x ≡ string_bytes s.text → s.behind ≡ behind
    → IsUtf8 x → IsUtf8 t → Decides r (HasText before x behind t)
    → r ≡ is_fit (starred_elements s) (chars t)
tells-starred r s before x behind t b e a v u is =
    rw (b, a, ← e) (tells r before x behind t v u is)

-- plain elements fit the text of their characters alone
pub fits-text : (x t : List ℕ) → IsUtf8 x → IsUtf8 t
    → bytes_eq x t ≡ is_fit (plain_elements (chars x)) (chars t)
fits-text x t v u =
    let is = bytes_eq-Decides x t in
    rw (append-nil (plain_elements (chars x))) at (tells (bytes_eq x t) false x false t v u
    (λ e. sym (is.0 e), λ e. is.1 (sym e)))
