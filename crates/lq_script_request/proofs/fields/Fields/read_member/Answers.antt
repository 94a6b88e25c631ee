use Rattle.std.proofs.Common.{◌≡◌, ◌∙◌, ◌⊎◌, ◌+◌, ◌<◌, arith, subst, sym, ap, inl, inr, get_or, length}
use Rattle.lq_script_request.specs.Members.{IsMember, IsPastSpace}
use Rattle.lq_script_request.proofs.MemberLemmas.{IsMember-parts}
use Rattle.lq_script_request.proofs.fields.Fields.read_member.Goals.{else-byte-ne44-via-then-byte-ne44+else-byte-ne125, else-byte-ne44-via-else-byte-ne44}
use Rattle.lq_script_request.proofs.fields.Fields.read_member.Goals as goal

pub returns : goal.returns
returns c =
    let text = c.args.text.now in
    let same = c.as_bytes-bytes.ensures.value in
    let k = c.in_ok-key in
    let f = c.in_ok-found in
    let at = c.past_space-colon.result in
    let end = c.past_space-end.result in
    let colon : get_or text at 0 ≡ 58 =
    ap (λ b. get_or b at 0) (sym same) ∙ sym c.byte_at.ensures.value ∙ c.if-byte_at-ne58.false in
    let colon_inside = c.byte_at.ensures.within (omega arith) in
    let colon_within : at < length text = omega (arith, colon_inside, ap length same) in
    let is : c.byte_at-byte.result ≡ get_or text end 0 =
    c.byte_at-byte.ensures.value ∙ ap (λ b. get_or b end 0) same in
    let some : 0 < c.byte_at-byte.result = elim c.else-byte-ne44.branch [
      | else-byte-ne44-via-then-byte-ne44+else-byte-ne125 w ↦ omega (arith, w.if-byte-ne125.false)
      | else-byte-ne44-via-else-byte-ne44 w ↦ omega (arith, w.if-byte-ne44.false)
    ] in
    let inside = c.byte_at-byte.ensures.within some in
    let within : end < length text = omega (arith, inside, ap length same) in
    let next : (get_or text end 0 ≡ 44) ⊎ (get_or text end 0 ≡ 125) =
    elim c.else-byte-ne44.branch [
      | else-byte-ne44-via-then-byte-ne44+else-byte-ne125 w ↦ inr (sym is ∙ w.if-byte-ne125.false)
      | else-byte-ne44-via-else-byte-ne44 w ↦ inl (sym is ∙ w.if-byte-ne44.false)
    ] in
    subst (λ fields. IsMember text c.args.from c.args.self.now fields end) (sym c.put.ensures)
    (IsMember-parts text c.args.from k.key_end at c.past_space.result f.value_end end k.key.now
    f.found c.args.self.now k.ensures
    (subst (λ b. IsPastSpace b k.key_end at) same c.past_space-colon.ensures) colon_within colon
    (subst (λ b. IsPastSpace b (at + 1) c.past_space.result) same c.past_space.ensures) f.ensures
    (subst (λ b. IsPastSpace b f.value_end end) same c.past_space-end.ensures) within next)
