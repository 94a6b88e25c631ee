use Rattle.std.proofs.Common.{◌≡◌, ◌∙◌, ◌+◌, ◌-◌, ◌<◌, ◌++◌, ◌^◌, ℕ, suc, pos, negsuc, Some, arith, decimal, drop, get_or, length, lt-ltb, sym, ap}
use Rattle.std.proofs.lemmas.Int.{to_z_pos, to_z-of_z}
use lib.IntN.{◌-ℤ◌}
use mir.Val.{of_z, to_z}
use mir.Syntax.{w64}
use Rattle.serde_json.specs.Data.{negative, number}
use Rattle.serde_json.specs.Find.{of_integer}
use Rattle.serde_json.specs.View.{number_view}
use Rattle.lq_script_request.proofs.MemberLemmas.{IsValue-negative}
use Rattle.lq_script_request.proofs.member.negative_at.Goals as goal

zero-less : (n : ℕ) → pos 0 -ℤ pos (suc n) ≡ negsuc n
zero-less n =
    let less : suc n - 1 ≡ n = omega arith in
    rw (lt-ltb 0 (suc n) (omega arith)) (ap negsuc less)

-- what is below 0 by n
below-zero : (n : ℕ) → n + 1 < 10 ^ 18
    → to_z w64 (of_z w64 (pos 0 -ℤ to_z w64 (suc n))) ≡ negsuc n
below-zero n small =
    let is : to_z w64 (suc n) ≡ pos (suc n) = to_z_pos w64 (suc n) (omega arith) in
    ap (λ z. to_z w64 (of_z w64 (pos 0 -ℤ z))) is
    ∙ ap (λ z. to_z w64 (of_z w64 z)) (zero-less n)
    ∙ to_z-of_z w64 (negsuc n) (record { sfits = omega (arith, small) })

pub returns : goal.returns
returns c =
    let bytes = c.args.bytes.now in
    let at = c.args.at in
    let d = c.in_ok-number.ensures in
    let end = c.in_ok-number.end in
    let m = c.in_ok-number.number - 1 in
    let n : c.in_ok-number.number ≡ suc m = omega (arith, c.if-number-eq0.false) in
    let small : m + 1 < 10 ^ 18 = omega (arith, d.small, n) in
    let minus : get_or bytes at 0 ≡ 45 =
    sym c.byte_at.ensures.value ∙ c.if-byte_at-ne45.false in
    let within : at < length bytes = c.byte_at.ensures.within (omega arith) in
    let made : number_view c.from.result ≡ negative (negsuc m) =
    c.from.ensures ∙ ap (λ k. of_integer (to_z w64 (of_z w64 (pos 0 -ℤ to_z w64 k)))) n
    ∙ ap of_integer (below-zero m small) in
    IsValue-negative bytes at m end _ (ap (λ k. Some (number k)) made) small within minus
    (d.written ∙ ap (λ k. decimal k ++ drop end bytes) n) (omega (arith, d.after)) d.within
