-- The steps of a put into the index of places, and what they come to.
use Rattle.std.proofs.Common.{◌≡◌, ℕ, List, ◌∙◌, arith, Bool, true, false}
use Rattle.std.specs.Prelude.{Option, Some, nat_eq}
use Rattle.std.specs.Option.{option_eq, option_map_or}
use Rattle.std.proofs.lemmas.Bool.Decides.{nat_tests}
use Rattle.lq_value.specs.NameHash.{hash_of}
use Rattle.lq_volume_entries.specs.declared.places.Places.{Places}
use Rattle.lq_volume_entries.specs.Places.{first_in, PutsNode, PutsFirst, PutsOther, SamePlaces}

-- whether nothing stands under a hash, or only a node that goes
abbrev pub is_free : Option ℕ → Option ℕ → Bool
is_free over o = option_map_or (λ there. option_map_or (nat_eq there) over false) o true

-- a node that is put under a free hash has the place
pub puts-first : (a b c : Places) (dir hash : ℕ) (name : List ℕ) (node : ℕ)
    (over first : Option ℕ) → SamePlaces a b → hash ≡ hash_of name → first ≡ first_in b dir hash
    → is_free over first ≡ true → PutsFirst b c dir hash node → PutsNode a c dir name node over
puts-first a b c dir hash name node over first same hash_is there free put = record {
  first = λ d h.
      let x = put.first d h in
      let y = same.first d h in
      let z = same.first dir hash in
      grind (arith, nat_tests);
  others = λ d n.
      let x = put.others d n in
      let y = same.others d n in
      let z = same.first dir hash in
      grind (arith, nat_tests);
}

-- a hash that is given back to the node that stood there is as it was
pub puts-back : (a b c d : Places) (dir hash node there : ℕ) → SamePlaces a b
    → Some there ≡ first_in b dir hash → PutsFirst b c dir hash node
    → PutsFirst c d dir hash there → SamePlaces a d
puts-back a b c d dir hash node there same was put back = record {
  first = λ e h.
      let x = put.first e h in
      let y = back.first e h in
      let z = same.first e h in
      grind (arith, nat_tests);
  others = λ e n. back.others e n ∙ (put.others e n ∙ same.others e n);
}

-- a node that is put under its name, where the hash isn't free, has the place
pub puts-other : (a b c : Places) (dir hash : ℕ) (name : List ℕ) (node : ℕ)
    (over first : Option ℕ) → SamePlaces a b → hash ≡ hash_of name → first ≡ first_in a dir hash
    → is_free over first ≡ false → PutsOther b c dir name node → PutsNode a c dir name node over
puts-other a b c dir hash name node over first same hash_is there shut put = record {
  first = λ d h. let x = put.first d h in let y = same.first d h in grind (arith, nat_tests);
  others = λ d n. let x = put.others d n in let y = same.others d n in grind (arith, nat_tests);
}

-- places that are the same twice over
pub same-twice : (a b c : Places) → SamePlaces a b → SamePlaces b c → SamePlaces a c
same-twice a b c x y = record {
  first = λ d h. y.first d h ∙ x.first d h;
  others = λ d n. y.others d n ∙ x.others d n;
}

-- whether a node that stands there goes, as the code tests it
pub goes-is : (over : Option ℕ) (there : ℕ) (is : Bool) → option_eq nat_eq over (Some there) ≡ is
    → option_map_or (nat_eq there) over false ≡ is
goes-is over there is h = grind (arith, nat_tests)
