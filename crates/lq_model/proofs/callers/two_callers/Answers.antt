-- The book of the server is what both seats made, and each of them knew a prefix of it.
use Rattle.std.proofs.Common.{ap, ◌∙◌, subst, inl, inr, rules}
use Rattle.lq_value.specs.declared.refusal.Refusal.{Refusal}
use Rattle.lq_board.specs.Token.{SeatToken}
use Rattle.lq_server_slots.specs.declared.identity.Identity.{Identity}
use Rattle.lq_model.specs.Followed.{HasApplied, HasMade, IsPairRefused}
use Rattle.lq_model.proofs.FollowLemmas.{both_made, first_amid, second_amid}
use Rattle.lq_model.proofs.callers.two_callers.Goals as goal

pub returns-in_err-result-clause-refused : goal.returns-in_err-result-clause-refused
returns-in_err-result-clause-refused g c =
    let old = c.enlist.new.other in
    let other = c.enlist-2.new.other in
    let one = c.join_over-one.result.0.seat in
    let two = c.join_over-one.result.1.seat in
    let e : Refusal = c.in_err-result.field-0.0 in
    let a = subst (HasApplied old one c.args.first.now) c.in_err-result.was
    c.join_over-one.ensures.first.2 in
    let why : IsPairRefused g.N.Named.start c.args.first.now c.args.second.now e =
    inl (first_amid c.two_seats_make_the_book.ensures g.N.Named.start old one other two
    c.args.first.now c.args.second.now e c.join_over-one.result.1.result
    c.retire_both-retired.result
    (ap (λ (s : SeatToken Identity). s.author.changes) c.enlist.ensures.other
    ∙ c.in-Ok.ensures.author)
    (ap (λ (s : SeatToken Identity). s.author.changes) c.enlist-2.ensures.other
    ∙ c.in-Ok-seat_by.ensures.author)
    (ap (λ (s : SeatToken Identity). s.book.start) c.enlist.ensures.other
    ∙ c.in-Ok.ensures.start)
    a c.join_over-one.ensures.second.2 c.retire_both-retired.ensures) in
    search (rules, why)

pub returns-in_err-other-clause-refused : goal.returns-in_err-other-clause-refused
returns-in_err-other-clause-refused g c =
    let old = c.enlist.new.other in
    let other = c.enlist-2.new.other in
    let one = c.join_over-one.result.0.seat in
    let two = c.join_over-one.result.1.seat in
    let e : Refusal = c.in_err-other.field-0.0 in
    let b = subst (HasApplied other two c.args.second.now) c.in_err-other.was
    c.join_over-one.ensures.second.2 in
    let why : IsPairRefused g.N.Named.start c.args.first.now c.args.second.now e =
    inr (second_amid c.two_seats_make_the_book.ensures g.N.Named.start old one other two
    c.args.first.now c.args.second.now e c.join_over-one.result.0.result
    c.retire_both-retired.result
    (ap (λ (s : SeatToken Identity). s.author.changes) c.enlist.ensures.other
    ∙ c.in-Ok.ensures.author)
    (ap (λ (s : SeatToken Identity). s.author.changes) c.enlist-2.ensures.other
    ∙ c.in-Ok-seat_by.ensures.author)
    (ap (λ (s : SeatToken Identity). s.book.start) c.enlist-2.ensures.other
    ∙ c.in-Ok-seat_by.ensures.start)
    c.join_over-one.ensures.first.2 b c.retire_both-retired.ensures) in
    search (rules, why)

pub returns-clause-made : goal.returns-clause-made
returns-clause-made g c =
    let old = c.enlist.new.other in
    let other = c.enlist-2.new.other in
    let one = c.join_over-one.result.0.seat in
    let two = c.join_over-one.result.1.seat in
    let a = subst (HasApplied old one c.args.first.now) c.in_ok-result.was
    c.join_over-one.ensures.first.2 in
    let b = subst (HasApplied other two c.args.second.now) c.in_ok-other.was
    c.join_over-one.ensures.second.2 in
    both_made c.two_seats_make_the_book.ensures g.N.Named.start old one other two c.args.first.now
    c.args.second.now c.retire_both-retired.result
    (ap (λ (s : SeatToken Identity). s.author.changes) c.enlist.ensures.other
    ∙ c.in-Ok.ensures.author)
    (ap (λ (s : SeatToken Identity). s.author.changes) c.enlist-2.ensures.other
    ∙ c.in-Ok-seat_by.ensures.author)
    (subst (HasMade old one) a.ok a.made) (subst (HasMade other two) b.ok b.made)
    c.retire_both-retired.ensures
