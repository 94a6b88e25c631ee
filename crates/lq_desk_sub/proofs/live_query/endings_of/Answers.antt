use Rattle.std.proofs.Common.{◌≡◌, ◌+◌, ◌*◌, ◌^◌, ◌%◌, ◌∷◌, ◌∙◌, ℕ, ap, arith, sym, Bool, true, false, drop, inl, inr, refl}
use Rattle.std.specs.Prelude.{◌⊎◌, ◌||◌}
use Rattle.std.specs.Int.{bit_at, w64}
use Rattle.std.specs.Int.RustNames.{bit_or}
use Rattle.std.proofs.lemmas.Nat.Bits.{bit_at_set_same, bit_at_or, bit_at-lt}
use Rattle.std.specs.Str.{bytes_eq}
use Rattle.std.proofs.lemmas.Slice.Eq.{bytes_eq-Decides}
use Rattle.std.proofs.lemmas.List.{at_drop_more}
use Rattle.lq_desk_sub.specs.Passing.{ending_of, is_name_among}
use Rattle.lq_desk_sub.proofs.live_query.endings_of.Goals as goal

-- a bit of the first of two words
either-left : (a b i : ℕ) → bit_at a i ≡ 1 → bit_at (bit_or a b) i ≡ 1
either-left a b i is = omega (arith, is, bit_at_or a b i, bit_at-lt b i)

pub loop-name-preserved : goal.loop-name-preserved
loop-name-preserved c name among = elim (c.loop-name.invariant name among) [
  | inl set ↦ inl (either-left c.loop-name.endings _ (ending_of name) set)
  | inr rest ↦ by (bytes_eq name c.name-item.result) refl (sym (here name) ∙ rest)
]
  where
    here : (name : _) → is_name_among (drop c.loop-name.name-index c.args.names.now) name
        ≡ (bytes_eq name c.name-item.result
        || is_name_among (drop (c.loop-name.name-index + 1) c.args.names.now) name)
    here name =
        at_drop_more (λ xs. is_name_among xs name) c.args.names.now c.loop-name.name-index
        c.name-item.result c.loop-name-test.true
        ∙ ap (λ x. is_name_among (x ∷ drop (c.loop-name.name-index + 1) c.args.names.now) name)
        (sym c.name-item.is)

    by : (b : Bool) → bytes_eq name c.name-item.result ≡ b
        → (b || is_name_among (drop (c.loop-name.name-index + 1) c.args.names.now) name) ≡ true
        → (bit_at (bit_or c.loop-name.endings (1 * 2 ^ c.ending_of.result % 2 ^ 64))
        (ending_of name) ≡ 1)
        ⊎ (is_name_among (drop (c.loop-name.name-index + 1) c.args.names.now) name ≡ true)
    by true same more =
        let is = c.ending_of.ensures.value ∙ ap ending_of (c.as_str.ensures.value
        ∙ sym ((bytes_eq-Decides name c.name-item.result).0 same)) in
        inl (ap (bit_at _) (sym is)
        ∙ bit_at_set_same w64 c.loop-name.endings c.ending_of.result c.ending_of.ensures.few)
    by false same more = inr more
