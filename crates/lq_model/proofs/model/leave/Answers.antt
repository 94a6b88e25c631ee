-- The leading seat has gathered what the one enlisted seat made, and no other is enlisted.
use Rattle.std.proofs.Common.{ℕ, List, sym, ap, ◌∙◌, subst}
use Rattle.lq_volume.specs.Book.{Book}
use Rattle.lq_board.specs.Known.{Author}
use Rattle.lq_board.specs.Author.{with_roll}
use Rattle.lq_board.specs.Roll.{without_number}
use Rattle.lq_board.specs.Token.{SeatToken}
use Rattle.lq_server_slots.specs.declared.identity.Identity.{Identity}
use Rattle.lq_server.specs.Retired.{IsRetired}
use Rattle.lq_model.proofs.FollowLemmas.{alone}
use Rattle.lq_model.proofs.model.leave.Goals as goal

pub returns-clause-retired : goal.returns-clause-retired
returns-clause-retired g c =
    let r = c.retire-retired.result in
    let book =
    ap (λ (s : SeatToken Identity). s.book) c.dismiss.ensures.head ∙ c.requires.met in
    subst (λ (b : Book). IsRetired g.N.Named.start b r.volume r.changes) book
    c.retire-retired.ensures.retired

pub returns-clause-all : goal.returns-clause-all
returns-clause-all g c =
    let k : ℕ = c.args.seat.author.number in
    let lead = c.requires.leads in
    let d = c.dismiss.ensures in
    let gathered : List ℕ = c.dismiss.new.head.author.gathered in
    let now =
    ap (λ (s : SeatToken Identity). s.author) d.head
    ∙ ap (λ (a : Author). with_roll a (without_number k a.enlisted) gathered) lead in
    let whole =
    c.retire-retired.ensures.whole (ap (λ (a : Author). a.leads) now)
    (ap (λ (a : Author). a.enlisted) now ∙ alone k) in
    sym (d.merged.alone (ap (λ (a : Author). a.gathered) lead)) ∙ whole
