-- No change was made before the one seat was enlisted, and then just those that it made.
use Rattle.std.proofs.Common.{◌≡◌, ℕ, [], ◌∷◌, refl, sym, ap, ◌∙◌, subst, inr}
use Rattle.std.specs.Prelude.{IfOk}
use Rattle.lq_volume.specs.Book.{Book, Extends}
use Rattle.lq_board.specs.Known.{Author}
use Rattle.lq_board.specs.Author.{leader, with_roll}
use Rattle.lq_board.specs.Token.{SeatToken}
use Rattle.lq_server_slots.specs.declared.identity.Identity.{Identity}
use Rattle.lq_model.specs.declared.model.Followed.{Followed}
use Rattle.lq_model.specs.Followed.{HasHungUp, IsFollowed}
use Rattle.lq_model.proofs.FollowLemmas.{Meets, followed}
use Rattle.lq_model.proofs.MadeLemmas.{made_all, made_ok}
use Rattle.lq_model.proofs.model.follow.Goals as goal

pub leave-requires-clause-leads : goal.leave-requires-clause-leads
leave-requires-clause-leads g c =
    let made = made_ok c.enlist.new.other c.join_over-reader.result.1.seat c.args.changes.now
    c.join_over-reader.result.1.result c.join_over-reader.ensures.second.2 c.in_default.not-Err in
    let author = λ (s : SeatToken Identity). s.author in
    let first = ap author c.in_ok-server.ensures.head in
    let k : ℕ = c.in_ok-server.callers.seat.author.number in
    let number : c.meet.new.one.author.number ≡ k =
    ap (λ (s : SeatToken Identity). s.author.number) c.meet.ensures.one
    ∙ ap (λ (a : Author). a.number) made.author
    ∙ ap (λ (s : SeatToken Identity). s.author.number) c.enlist.ensures.other in
    ap author c.meet-2.ensures.two ∙ ap author c.meet.ensures.two
    ∙ ap author c.enlist.ensures.head
    ∙ ap (λ (a : Author). with_roll a (k ∷ a.enlisted) a.gathered) first
    ∙ ap (λ (n : ℕ). with_roll leader (n ∷ []) []) (sym number)

pub leave-requires-clause-signs : goal.leave-requires-clause-signs
leave-requires-clause-signs g c =
    let made = made_ok c.enlist.new.other c.join_over-reader.result.1.seat c.args.changes.now
    c.join_over-reader.result.1.result c.join_over-reader.ensures.second.2 c.in_default.not-Err in
    ap (λ (s : SeatToken Identity). s.author.signs) c.meet.ensures.one
    ∙ ap (λ (a : Author). a.signs) made.author
    ∙ ap (λ (s : SeatToken Identity). s.author.signs) c.enlist.ensures.other

pub returns-clause-followed : goal.returns-clause-followed
returns-clause-followed g c =
    let begun = c.in_ok-server.callers.reader in
    let on = c.books_extend_on.ensures in
    let out = subst
    (λ o. IfOk o (HasHungUp begun)) c.in_ok-reader.was c.join_over-reader.ensures.first.0 in
    let m = c.meet-2.ensures in
    let met = subst (λ (s : SeatToken Identity). Meets s c.meet-2.new.one) c.seat-2.ensures.now
    (record { seat = m.one; later = m.first }) in
    let made = made_ok c.enlist.new.other c.join_over-reader.result.1.seat c.args.changes.now
    c.join_over-reader.result.1.result c.join_over-reader.ensures.second.2 c.in_default.not-Err in
    let fresh = ap (λ (s : SeatToken Identity). s.author.changes) c.enlist.ensures.other
    ∙ c.in_ok-server.ensures.author in
    let r = c.leave.ensures.retired in
    let made_book : Book = c.join_over-reader.result.1.seat.book in
    let head_book : Book = c.meet.new.two.book in
    let last_book : Book = c.meet-2.new.one.book in
    let one : Extends head_book made_book =
    subst (λ (b : Book). Extends b made_book) c.meet.ensures.same c.meet.ensures.first in
    let two : Extends last_book head_book =
    subst (λ (b : Book). Extends b head_book) (sym m.same) m.second in
    let later = on made_book last_book r.book (on made_book head_book last_book one two) r.later in
    subst (λ (f : Followed). IsFollowed g.N.Named.start c.args.predicate.now c.args.changes.now f)
    (sym c.leave.ensures.left)
    (followed c.updates_stay.ensures on c.states_stay.ensures _ _ _ _ _ _
    begun _ c.sync-synced.new.reader _ c.meet-2.new.one c.leave.result.retired
    c.args.changes.now
    c.in_ok-server.ensures.opened out
    c.sync-synced.ensures c.headline.ensures met r
    (made_all c.enlist.new.other c.join_over-reader.result.1.seat c.meet.new.one c.args.changes.now
    r.book
    c.leave.result.retired.changes fresh made c.meet.ensures.one later c.leave.ensures.all
    r.number)
    refl)

pub returns-in-Err-clause-refused : goal.returns-in-Err-clause-refused
returns-in-Err-clause-refused g c = inr c.gather.ensures
