-- The one seat's changes are all changes, so it knew all of them when one was refused.
use Rattle.std.proofs.Common.{◌≡◌, ◌≤◌, ℕ, List, length, sym, ap, ◌∙◌, arith, length-append}
use Rattle.lq_board.specs.Known.{Author}
use Rattle.lq_board.specs.Author.{with_roll}
use Rattle.lq_board.specs.Roll.{without_number, numbers}
use Rattle.lq_board.specs.Token.{SeatToken}
use Rattle.lq_server_slots.specs.declared.identity.Identity.{Identity}
use Rattle.lq_model.proofs.FollowLemmas.{alone}
use Rattle.lq_model.proofs.MadeLemmas.{stopped_so}
use Rattle.lq_model.proofs.model.gather.Goals as goal

pub returns : goal.returns
returns g c =
    let author = λ (s : SeatToken Identity). s.author in
    let k : ℕ = c.args.seat.now.author.number in
    let d = c.dismiss.ensures in
    let gathered : List ℕ = c.dismiss.new.head.author.gathered in
    let met : c.meet.new.one.author ≡ c.args.seat.now.author = ap author c.meet.ensures.one in
    let lead = ap author c.meet.ensures.two ∙ c.requires.leads in
    let number : c.meet.new.one.author.number ≡ k = ap (λ (a : Author). a.number) met in
    let now =
    ap author c.latest.ensures.same ∙ ap author d.head
    ∙ ap (λ (n : ℕ). with_roll c.meet.new.two.author
    (without_number n c.meet.new.two.author.enlisted) gathered) number
    ∙ ap (λ (a : Author). with_roll a (without_number k a.enlisted) gathered) lead in
    let whole : gathered ≡ numbers c.latest.result =
    sym (ap (λ (a : Author). a.gathered) (ap author c.latest.ensures.same ∙ ap author d.head))
    ∙ c.latest.ensures.whole (ap (λ (a : Author). a.leads) now)
    (ap (λ (a : Author). a.enlisted) now ∙ alone k) in
    let all : c.args.seat.now.author.changes ≡ numbers c.latest.result =
    sym (ap (λ (a : Author). a.changes) met)
    ∙ sym (d.merged.alone (ap (λ (a : Author). a.gathered) lead)) ∙ whole in
    let most : length c.args.seat.now.book.changes ≤ c.latest.result =
    grind (arith, length-append) in
    stopped_so c.args.seat.now g.N.Named.start c.args.changes.now c.args.refusal c.latest.result
    c.requires.stopped all most
