use Rattle.std.proofs.Common.{◌≡◌, ◌∙◌, ◌+◌, ◌<◌, [], arith, refl, subst, sym, ap, get_or, length}
use Rattle.serde_json.specs.Data.{object}
use Rattle.lq_script_request.specs.declared.fields.Fields.{Fields}
use Rattle.lq_script_request.specs.Members.{IsPastSpace, lexemes}
use Rattle.lq_script_request.proofs.FieldsLemmas.{AreLastMembers-from, Show-absent, whole_data-from}
use Rattle.lq_script_request.proofs.LexLemmas.{end-of-text}
use Rattle.lq_script_request.proofs.MemberLemmas.{AreRead-all, AreRead-first, AreRead-more, opened}
use Rattle.lq_script_request.proofs.fields.Fields.read_plain.Goals as goal

pub members-init : goal.members-init
members-init c =
    let text = c.args.text.now in
    let same = c.as_bytes-bytes.ensures.value in
    let at = c.past_space-brace.result in
    let brace : get_or text at 0 ≡ 123 =
    ap (λ b. get_or b at 0) (sym same) ∙ sym c.byte_at.ensures.value ∙ c.if-byte_at-ne123.false in
    let inside = c.byte_at.ensures.within (omega arith) in
    let within : at < length text = omega (arith, inside, ap length same) in
    AreRead-first text c.past_space.result c.in-Some.end c.args.self.now c.read_member.new.self
    (opened text at c.past_space.result
    (subst (λ b. IsPastSpace b 0 at) same c.past_space-brace.ensures) within brace
    (subst (λ b. IsPastSpace b (at + 1) c.past_space.result) same c.past_space.ensures))
    (Show-absent c.args.self.now c.requires) c.in-Some.ensures

pub members-preserved : goal.members-preserved
members-preserved c =
    let text = c.args.text.now in
    let same = c.as_bytes-bytes.ensures.value in
    let l = c.members in
    let comma : get_or text l.end 0 ≡ 44 =
    ap (λ b. get_or b l.end 0) (sym same) ∙ sym c.byte_at-in-members.ensures.value
    ∙ c.members-test.true in
    AreRead-more text l.end c.past_space-in-members.result c.in-Some-read_member.next l.self
    c.read_member-in-members.new.self l.invariant comma
    (subst (λ b. IsPastSpace b (l.end + 1) c.past_space-in-members.result) same
    c.past_space-in-members.ensures) c.in-Some-read_member.ensures

-- the text is the object of the members that were found
pub returns : goal.returns
returns c =
    let text = c.args.text.now in
    let same = c.as_bytes-bytes.ensures.value in
    let l = c.members in
    let fields : Fields = record l.self { text = c.args.text } in
    let other : get_or text l.end 0 ≡ 44 → ⊥ = λ e. c.members-test.false
    (c.byte_at-in-members.ensures.value ∙ ap (λ b. get_or b l.end 0) same ∙ e) in
    let gap = subst (λ b. IsPastSpace b (l.end + 1) c.past_space-2.result) same
    c.past_space-2.ensures in
    let none : lexemes text (l.end + 1) ≡ [] = gap.lexed
    ∙ end-of-text text c.past_space-2.result
    (omega (arith, c.if-past_space-bytes.false, ap length same)) in
    let all = AreRead-all text l.end l.self l.invariant other none in
    record {
      value = λ _. whole_data-from fields text (object l.invariant.found) refl all;
      found = λ _. AreLastMembers-from fields text (object l.invariant.found) refl all
          l.invariant.shows;
    }
