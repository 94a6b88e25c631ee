use Rattle.std.proofs.Common.{◌≡◌, ◌<◌, ◌+◌, ℕ, List, [], ◌∷◌, ◌++◌, length, take, get_or}
use Rattle.std.proofs.lemmas.List.{take_more}
use Rattle.lq_value_pattern.specs.declared.element.Element.{Element}
use Rattle.lq_value_pattern.proofs.copying.copy_elements.Goals as goal

-- one element more is copied
copied_more : (es copies more : List Element) (i : ℕ) (x copy : Element)
    → i < length es → x ≡ get_or es i x → copy ≡ x → more ≡ copies ++ copy ∷ []
    → copies ≡ take i es → more ≡ take (i + 1) es
copied_more es copies more i x copy h is same pushed so_far = cc (take_more es i x h)

pub loop-element-preserved : goal.loop-element-preserved
loop-element-preserved c =
    copied_more c.args.elements.now _ _ c.loop-element.element-index c.element-item.result _
    c.loop-element-test.true c.element-item.is c.in_ok-copy.ensures
    c.in_ok-push.ensures.items c.loop-element.invariant
