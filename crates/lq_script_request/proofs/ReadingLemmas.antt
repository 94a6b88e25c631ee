-- The grammar's members, one turn at a time, with each value as the data that serde_json reads.
use Rattle.std.proofs.Common.{◌≡◌, ◌∙◌, ℕ, ◌-◌, ◌<◌, ◌≤◌, List, [], length, Option, Some, None, option_map, refl, ap}
use Rattle.std.specs.Prelude.{option_and_then}
use Rattle.json.specs.Token.{Token}
use Rattle.json.specs.Json as json
use Rattle.json.specs.Json.{Parse, parse_map, read_key, members, if_last}
use Rattle.json.proofs.Grammar.{members_end, members_more}
use Rattle.serde_json.specs.Data.{Data, object, Members, no_members, put}
use Rattle.serde_json.specs.Read.{of_json, of_members, converted}

-- what stands in a place, or another thing where nothing does
abbrev pick : {A : Type 0} → A → Option A → A
pick d None = d
pick d (Some a) = a

-- the two parts of what was found
found : {B : Type 0} (r s : List Token) (x : Option B) (b : B)
    → option_map {U = B × List Token} (λ y. (y, r)) x ≡ Some (b, s) → (r ≡ s) × (x ≡ Some b)
found r s None b e = absurd (cc)
found r s (Some y) b e =
    let same = ap (pick (y, r)) e in (ap (λ p. p.1) same, ap (λ p. Some p.0) same)

-- what was read and converted
pub converted_some : {A B : Type 0} (f : A → Option B) (o : Option (A × List Token)) (b : B)
    (r : List Token) → converted f o ≡ Some (b, r)
    → (a : A) × (o ≡ Some (a, r)) × (f a ≡ Some b)
converted_some f None b r e = absurd (cc)
converted_some f (Some p) b r e =
    let both = found p.1 r (f p.0) b e in
    (p.0, ap (λ s. Some (p.0, s)) both.0, both.1)

-- one function after another
twice : {A B : Type 0} (g : A → B) (r : List Token) (x : Option A)
    → option_map (λ b. (b, r)) (option_map g x) ≡ parse_map g (option_map (λ a. (a, r)) x)
twice g r None = refl
twice g r (Some a) = refl

-- an object is its members
pub converted-object : (o : Option (json.Members × List Token))
    → converted of_json (parse_map json.object o)
    ≡ parse_map object (converted (λ ms. of_members ms no_members) o)
converted-object None = refl
converted-object (Some p) = twice object p.1 (of_members p.0 no_members)

-- one member and the rest
with_member : (k : List ℕ) (j : json.Json) (d : Data) (old : Members) → of_json j ≡ Some d
    → (o : Option (json.Members × List Token))
    → converted (λ ms. of_members ms old) (parse_map (json.member k j) o)
    ≡ converted (λ ms. of_members ms (put k d old)) o
with_member k j d old e None = refl
with_member k j d old e (Some p) = rw e

module _ (p : Parse json.Json) (old : Members) where
  -- a turn over members
  pub member_read : (n : ℕ) (k : List ℕ) (ts s r : List Token) (d : Data) → 0 < n
      → read_key ts ≡ Some (Some k, s) → converted of_json (p s) ≡ Some (d, r)
      → converted (λ ms. of_members ms old) (members p n ts)
      ≡ converted (λ ms. of_members ms (put k d old)) (members p (n - 1) r)
  member_read n k ts s r d some key e =
      let j = converted_some of_json (p s) d r e in
      ap (converted (λ ms. of_members ms old)) (members_more p n k ts s r j.0 some key j.1)
      ∙ with_member k j.0 d old j.2 _

  -- the end of the members
  pub members_over : (n : ℕ) (ts r : List Token) → length ts ≤ n
      → read_key ts ≡ Some (None, r)
      → converted (λ ms. of_members ms old) (members p n ts) ≡ Some (old, r)
  members_over n ts r enough e =
      ap (converted (λ ms. of_members ms old)) (members_end p n ts r enough e)

-- what a value and nothing after it is
abbrev pub whole_of : Option (json.Json × List Token) → Option Data
whole_of o = option_and_then of_json (option_and_then (λ p. if_last p.0 p.1) o)

pub whole_read : (o : Option (json.Json × List Token)) (d : Data)
    → converted of_json o ≡ Some (d, []) → whole_of o ≡ Some d
whole_read o d e = let j = converted_some of_json o d [] e in ap whole_of j.1 ∙ j.2
