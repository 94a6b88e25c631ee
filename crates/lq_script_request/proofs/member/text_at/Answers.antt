use Rattle.std.proofs.Common.{◌≡◌, ◌∙◌, ◌+◌, ◌<◌, sym, subst, ap, arith, length, get_or}
use Rattle.std.proofs.lemmas.Str.{IsCharBoundary-after_ascii}
use Rattle.lq_script_request.specs.Members.{IsText, IsTextEnd}
use Rattle.lq_script_request.proofs.LexLemmas.{text-lexed}
use Rattle.lq_script_request.proofs.member.text_at.Goals as goal

pub range-requires-clause-start_boundary : goal.range-requires-clause-start_boundary
range-requires-clause-start_boundary c = λ _.
    let text = c.args.text.now in
    let same = c.as_bytes-bytes.ensures.value in
    let quote : get_or text c.args.at 0 ≡ 34 =
    ap (λ b. get_or b c.args.at 0) (sym same) ∙ sym c.byte_at.ensures.value
    ∙ c.if-byte_at-ne34.false in
    let inside = c.byte_at.ensures.within (omega arith) in
    let within : c.args.at < length text = omega (arith, inside, ap length same) in
    IsCharBoundary-after_ascii text c.args.at c.utf8.text within (omega arith)

pub returns : goal.returns
returns c =
    let text = c.args.text.now in
    let same = c.as_bytes-bytes.ensures.value in
    let quote : get_or text c.args.at 0 ≡ 34 =
    ap (λ b. get_or b c.args.at 0) (sym same) ∙ sym c.byte_at.ensures.value
    ∙ c.if-byte_at-ne34.false in
    let inside = c.byte_at.ensures.within (omega arith) in
    let within : c.args.at < length text = omega (arith, inside, ap length same) in
    subst (λ s. IsText text c.args.at s (c.in_ok-end.end + 1)) (sym c.range.ensures.value)
    (text-lexed text c.args.at c.in_ok-end.end within quote
    (subst (λ b. IsTextEnd b (c.args.at + 1) c.in_ok-end.end) same c.in_ok-end.ensures))
