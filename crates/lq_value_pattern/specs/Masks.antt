-- How up to 32 elements are tried together: a mask for each character, of which each bit says
-- whether one of the elements takes the character.
use Rattle.std.specs.Prelude.{◌≡◌, ◌<◌, ◌≤◌, ◌+◌, ◌-◌, ℕ, suc, min, take, drop, List, [], ◌∷◌, Bool, true, false, length, get_or, slice_index}
use Rattle.std.specs.Int.{bit_at}
use Rattle.lq_value_pattern.specs.declared.element.Element.{Element}
use Rattle.lq_value_pattern.specs.declared.element.Element.TheVariants.{Star}
use Rattle.lq_value_pattern.specs.declared.element.Item.{Item}
use Rattle.lq_value_pattern.specs.declared.element.Item.TheVariants.{One}
use Rattle.lq_value_pattern.specs.declared.match_masks.Entered.{Entered}
use Rattle.lq_value_pattern.specs.Element.{takes}
use Rattle.lq_value_pattern.specs.Seek.{kept, take_front}

-- ---- bits of a mask

-- a bit that is put or stays as it was
abbrev pub marked : Bool → ℕ → ℕ
marked true bit = 1
marked false bit = bit

-- bit j of a mask is put where a test passed, and its other bits are as they were
pub record IsPut (hit : Bool) (j old new : ℕ) : Type 0 where
  pub at : bit_at new j ≡ marked hit (bit_at old j)
  pub others : (i : ℕ) → (i ≡ j → ⊥) → bit_at new i ≡ bit_at old i

-- bit j of a mask is the other one, and its other bits are as they were
pub record IsFlipped (j old new : ℕ) : Type 0 where
  pub at : bit_at new j ≡ 1 - bit_at old j
  pub others : (i : ℕ) → (i ≡ j → ⊥) → bit_at new i ≡ bit_at old i

-- bit j is put in each mask whose character passes the test
abbrev pub ArePut : (ℕ → Bool) → ℕ → List ℕ → List ℕ → List ℕ → Type 0
ArePut test j cs old new = (x : ℕ) → x < length cs
    → IsPut (test (slice_index cs x)) j (slice_index old x) (slice_index new x)

-- bit j of each mask is flipped
abbrev pub AreFlipped : ℕ → List ℕ → List ℕ → Type 0
AreFlipped j old new = (x : ℕ) → x < length old
    → IsFlipped j (slice_index old x) (slice_index new x)

-- no mask has bit j
abbrev pub AreBitsOff : ℕ → List ℕ → Type 0
AreBitsOff j masks = (x : ℕ) → x < length masks → bit_at (slice_index masks x) j ≡ 0

-- the bits other than j are as they were
abbrev pub AreOthersSame : ℕ → List ℕ → List ℕ → List ℕ → Type 0
AreOthersSame j cs old new = (x i : ℕ) → x < length cs → (i ≡ j → ⊥)
    → bit_at (slice_index new x) i ≡ bit_at (slice_index old x) i

-- bit j says whether the test passes, and other bits are as they were
pub record IsBitTaken (test : ℕ → Bool) (j : ℕ) (cs old new : List ℕ) : Type 0 where
  pub at : (x : ℕ) → x < length cs
      → bit_at (slice_index new x) j ≡ kept (test (slice_index cs x)) 1
  pub others : AreOthersSame j cs old new

-- the first two items are these characters, which are not ASCII
pub record IsPair (items : List Item) (c d : ℕ) : Type 0 where
  pub long : 2 ≤ length items
  pub are : take 2 items ≡ One c ∷ One d ∷ []
  pub first : 128 ≤ c
  pub second : 128 ≤ d

-- whether the element of this index takes the character
abbrev pub takes_at : List Element → ℕ → ℕ → Bool
takes_at es j c = takes (get_or es j Star) c

-- each bit says whether an element takes the mask's character
abbrev pub AreMasks : List Element → List ℕ → List ℕ → Type 0
AreMasks es cs masks = (x j : ℕ) → x < length cs → j < length es
    → bit_at (slice_index masks x) j ≡ kept (takes_at es j (slice_index cs x)) 1

-- ---- codes of characters

-- the first 128 characters are ASCII in order
abbrev pub IsAscii : List ℕ → Type 0
IsAscii cs = (x : ℕ) → x < 128 → slice_index cs x ≡ x

-- and no other is ASCII
pub record IsAlphabet (cs : List ℕ) : Type 0 where
  pub long : 128 ≤ length cs
  pub ascii : IsAscii cs
  pub apart : (x : ℕ) → 128 ≤ x → x < length cs → 128 ≤ slice_index cs x

-- each code is the index of the text's character
abbrev pub AreCodes : List ℕ → List ℕ → List ℕ → Type 0
AreCodes cs codes text = (i : ℕ) → i < length codes → (slice_index codes i < length cs)
    × (slice_index cs (slice_index codes i) ≡ slice_index text i)

-- a code of this character, which may be new
pub record IsEntered (c count : ℕ) (old new : List ℕ) (entered : Entered) : Type 0 where
  pub code : entered.code < entered.count
  pub is : slice_index new entered.code ≡ c
  pub behind : count ≤ entered.count
  pub within : entered.count ≤ count + 1
  pub same : (x : ℕ) → x < count → slice_index new x ≡ slice_index old x
  pub apart : (x : ℕ) → count ≤ x → x < entered.count → 128 ≤ slice_index new x

-- each mask of a code says which elements take the text's character
abbrev pub AreMasksOfCodes : List Element → List ℕ → List ℕ → List ℕ → Type 0
AreMasksOfCodes es text codes masks = (i : ℕ) → i < length codes
    → (slice_index codes i < length masks)
    × ((j : ℕ) → j < length es → bit_at (slice_index masks (slice_index codes i)) j
    ≡ kept (takes_at es j (slice_index text i)) 1)

-- ---- ends of elements

-- the ends after one more character, whose mask it is: an element ends there where it takes the
-- character and the element before it ended just before
pub record AreNextEnds (ends mask next : ℕ) : Type 0 where
  pub first : bit_at next 0 ≡ bit_at mask 0
  pub later : (j : ℕ) → bit_at next (suc j) ≡ min (bit_at ends j) (bit_at mask (suc j))

-- before index i of the text, bit j says whether the first j + 1 elements took the last characters
abbrev pub AreEnds : List Element → List ℕ → ℕ → ℕ → Type 0
AreEnds es cs i ends = (j k : ℕ) → j < length es → k + j + 1 ≡ i
    → bit_at ends j ≡ kept (take_front (take (suc j) es) (drop k cs)) 1
