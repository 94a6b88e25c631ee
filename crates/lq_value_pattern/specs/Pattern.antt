-- When a pattern fits a text: some split of the text into one part for each element, in order, lets
-- each part fit its element. A text is the list of its characters.
use Rattle.std.specs.Prelude.{◌≡◌, ℕ, List, [], ◌∷◌, ◌++◌, Bool, true, false, not, ◌&&◌, ◌||◌, map, Option, Some, None}
use Rattle.std.specs.Option.{option_map}
use Rattle.std.specs.Str.{chars}
use Rattle.std.specs.String.{string_bytes}
use Rattle.lq_value_pattern.specs.declared.element.Element.{Element}
use Rattle.lq_value_pattern.specs.declared.element.Element.TheVariants.{Star, Any, Plain, Set}
use Rattle.lq_value_pattern.specs.declared.starred.Starred.{Starred}
use Rattle.lq_value_pattern.specs.Element.{set_has, takes}

-- the part fits the element
abbrev pub IsPart : Element → List ℕ → Type 0
IsPart Star part = Unit {0}
IsPart Any part = (c : ℕ) × (part ≡ c ∷ [])
IsPart (Plain c) part = part ≡ c ∷ []
IsPart (Set negated items) part = (c : ℕ) × (part ≡ c ∷ []) × (set_has items c ≡ not negated)

abbrev pub Fits : List Element → List ℕ → Type 0
Fits [] text = text ≡ []
Fits (e ∷ es) text =
    (part : List ℕ) × (rest : List ℕ) × (text ≡ part ++ rest) × IsPart e part × Fits es rest

-- ---- the same as a test

-- the test passes for some suffix of the text, which may be the whole text or empty
abbrev pub some_rest : (List ℕ → Bool) → List ℕ → Bool
some_rest p [] = p []
some_rest p (c ∷ cs) = p (c ∷ cs) || some_rest p cs

abbrev pub head_then : (ℕ → Bool) → (List ℕ → Bool) → List ℕ → Bool
head_then t p [] = false
head_then t p (c ∷ cs) = t c && p cs

abbrev pub fits_from : Element → (List ℕ → Bool) → List ℕ → Bool
fits_from Star p text = some_rest p text
fits_from e p text = head_then (takes e) p text

abbrev pub is_end : List ℕ → Bool
is_end [] = true
is_end (c ∷ cs) = false

abbrev pub is_fit : List Element → List ℕ → Bool
is_fit [] text = is_end text
is_fit (e ∷ es) text = fits_from e (is_fit es) text

-- the characters, where all elements are plain
abbrev pub plain_chars : List Element → Option (List ℕ)
plain_chars [] = Some []
plain_chars (Plain c ∷ es) = option_map (λ cs. c ∷ cs) (plain_chars es)
plain_chars (e ∷ es) = None

-- one plain element for each character
abbrev pub plain_elements : List ℕ → List Element
plain_elements cs = map (λ c. Plain c) cs

-- a star or nothing
abbrev pub star_if : Bool → List Element
star_if false = []
star_if true = Star ∷ []

-- plain elements for these characters, with a star before them, after them, or both
abbrev pub with_stars : Bool → List ℕ → Bool → List Element
with_stars before cs behind = star_if before ++ (plain_elements cs ++ star_if behind)

abbrev pub starred_elements : Starred → List Element
starred_elements s = with_stars s.before (chars (string_bytes s.text)) s.behind
