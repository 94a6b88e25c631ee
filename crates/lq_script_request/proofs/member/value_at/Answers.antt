use Rattle.std.proofs.Common.{◌≡◌, ◌+◌, ◌≤◌, ◌∷◌, ◌++◌, decimal, drop, length, refl, subst}
use Rattle.lq_script_request.proofs.MemberLemmas.{IsValue-false, IsValue-text, IsValue-true, IsValue-whole}
use Rattle.lq_script_request.proofs.member.value_at.Goals as goal

pub returns-in_ok-value-in-34 : goal.returns-in_ok-value-in-34
returns-in_ok-value-in-34 c =
    let t = c.in_ok-value-in-34 in
    IsValue-text c.args.text.now c.args.at t.end _ t.value.now refl t.ensures

pub returns-in-116 : goal.returns-in-116
returns-in-116 c =
    let same = c.as_bytes-bytes.ensures.value in
    let at = c.args.at in
    IsValue-true c.args.text.now at _ refl
    (subst (λ b. drop at b ≡ 116 ∷ 114 ∷ 117 ∷ 101 ∷ drop (at + 4) b) same
    (c.if-begins_at.ensures.text refl))
    (subst (λ b. at + 4 ≤ length b) same (c.if-begins_at.ensures.within refl))

pub returns-in-102 : goal.returns-in-102
returns-in-102 c =
    let same = c.as_bytes-bytes.ensures.value in
    let at = c.args.at in
    IsValue-false c.args.text.now at _ refl
    (subst (λ b. drop at b ≡ 102 ∷ 97 ∷ 108 ∷ 115 ∷ 101 ∷ drop (at + 5) b) same
    (c.if-begins_at-2.ensures.text refl))
    (subst (λ b. at + 5 ≤ length b) same (c.if-begins_at-2.ensures.within refl))

pub returns-in_ok-number-in_default : goal.returns-in_ok-number-in_default
returns-in_ok-number-in_default c =
    let same = c.as_bytes-bytes.ensures.value in
    let at = c.args.at in
    let n = c.in_ok-number-in_default.number in
    let end = c.in_ok-number-in_default.end in
    let is = c.in_ok-number-in_default.ensures in
    IsValue-whole c.args.text.now at n end _ refl is.small
    (subst (λ b. drop at b ≡ decimal n ++ drop end b) same is.written) is.after
    (subst (λ b. end ≤ length b) same is.within)
