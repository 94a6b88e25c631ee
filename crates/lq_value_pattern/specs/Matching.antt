-- How a pattern is matched: from star to star, with elements other than stars in between.
use Rattle.std.specs.Prelude.{◌≡◌, ◌≤◌, ℕ, List, [], ◌∷◌, ◌++◌, length, true, false}
use Rattle.std.specs.Str.{chars}
use Rattle.lq_value_pattern.specs.declared.element.Element.{Element}
use Rattle.lq_value_pattern.specs.declared.element.Element.TheVariants.{Star}
use Rattle.lq_value_pattern.specs.declared.matching.Taken.{Taken}
use Rattle.lq_value_pattern.specs.declared.matching.Taken.TheVariants.{More, AtStar, Never}
use Rattle.lq_value_pattern.specs.Element.{takes}
use Rattle.lq_value_pattern.specs.Pattern.{is_fit, some_rest}

abbrev pub IsSingle : Element → Type 0
IsSingle Star = ⊥
IsSingle e = Unit {0}

abbrev pub AreSingle : List Element → Type 0
AreSingle [] = Unit {0}
AreSingle (e ∷ es) = IsSingle e × AreSingle es

-- the first element is a star, or there is none
abbrev pub IsAtStar : List Element → Type 0
IsAtStar [] = Unit {0}
IsAtStar (Star ∷ es) = Unit {0}
IsAtStar (e ∷ es) = ⊥

-- the first element takes the first character, and these elements and characters are left
pub record TakesOne (es : List Element) (cs : List ℕ) (es' : List Element)
    (cs' : List ℕ) : Type 0 where
  pub e : Element
  pub c : ℕ
  pub elements : es ≡ e ∷ es'
  pub text : cs ≡ c ∷ cs'
  pub taken : takes e c ≡ true

abbrev pub IsTakenStep : Taken → List Element → List ℕ → Type 0
IsTakenStep (More left) es cs = TakesOne es cs left.elements.now (chars left.text.now)
IsTakenStep AtStar es cs = IsAtStar es
IsTakenStep Never es cs = is_fit es cs ≡ false

-- some elements other than stars took a character each, and these elements and characters are left
pub record TakesRun (es : List Element) (cs : List ℕ) (es' : List Element)
    (cs' : List ℕ) : Type 0 where
  pub piece : List Element
  pub run : List ℕ
  pub elements : es ≡ piece ++ es'
  pub text : cs ≡ run ++ cs'
  pub same : length piece ≡ length run
  pub single : AreSingle piece
  pub fit : is_fit es cs ≡ is_fit es' cs'

-- the same up to the next star
pub record PassesToStar (es : List Element) (cs : List ℕ) (es' : List Element)
    (cs' : List ℕ) : Type 0 where
  pub passes : TakesRun es cs es' cs'
  pub star : IsAtStar es'

-- the elements up to the next star fit at some place, and the rest after it decides the match
pub record Finds (es : List Element) (cs : List ℕ) (es' : List Element)
    (cs' : List ℕ) : Type 0 where
  pub same : some_rest (is_fit es) cs ≡ is_fit es' cs'
  pub star : IsAtStar es'
  pub shorter : length es' ≤ length es
