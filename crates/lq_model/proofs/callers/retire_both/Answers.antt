-- The leading seat has met both seats, has gathered what they made, and no other is enlisted.
use Rattle.std.proofs.Common.{◌≡◌, ℕ, List, [], ◌∷◌, ap, ◌∙◌, subst}
use Rattle.lq_volume.specs.Book.{Book, Extends}
use Rattle.lq_board.specs.Known.{Author}
use Rattle.lq_board.specs.Author.{leader, with_roll}
use Rattle.lq_board.specs.Roll.{IsMerged, without_number}
use Rattle.lq_board.specs.Token.{SeatToken}
use Rattle.lq_server_slots.specs.declared.identity.Identity.{Identity}
use Rattle.lq_model.proofs.FollowLemmas.{none_left}
use Rattle.lq_model.proofs.callers.retire_both.Goals as goal

pub returns : goal.returns
returns g c =
    let author = λ (s : SeatToken Identity). s.author in
    let k : ℕ = c.args.one.author.number in
    let l : ℕ = c.args.two.author.number in
    let d = c.dismiss.ensures in
    let e = c.dismiss-2.ensures in
    let by = c.retire.ensures.retired in
    let on = c.books_extend_on.ensures in
    let gathered : List ℕ = c.dismiss.new.head.author.gathered in
    let all : List ℕ = c.dismiss-2.new.head.author.gathered in
    let one = ap author c.meet.ensures.one in
    let two = ap author c.meet-2.ensures.one in
    let lead : c.meet-2.new.two.author ≡ with_roll leader (l ∷ k ∷ []) [] =
    ap author c.meet-2.ensures.two ∙ ap author c.meet.ensures.two ∙ c.requires.leads in
    let first : c.dismiss.new.head.author
    ≡ with_roll leader (without_number k (l ∷ k ∷ [])) gathered =
    ap author d.head
    ∙ ap (λ (n : ℕ). with_roll c.meet-2.new.two.author
    (without_number n c.meet-2.new.two.author.enlisted) gathered)
    (ap (λ (a : Author). a.number) one)
    ∙ ap (λ (a : Author). with_roll a (without_number k a.enlisted) gathered) lead in
    let last : c.dismiss-2.new.head.author
    ≡ with_roll leader (without_number l (without_number k (l ∷ k ∷ []))) all =
    ap author e.head
    ∙ ap (λ (n : ℕ). with_roll c.dismiss.new.head.author
    (without_number n c.dismiss.new.head.author.enlisted) all)
    (ap (λ (a : Author). a.number) two)
    ∙ ap (λ (a : Author). with_roll a (without_number l a.enlisted) all) first in
    let book : c.dismiss-2.new.head.book ≡ c.meet-2.new.two.book =
    ap (λ (s : SeatToken Identity). s.book) e.head
    ∙ ap (λ (s : SeatToken Identity). s.book) d.head in
    let knows : Extends by.book c.meet-2.new.two.book =
    subst (λ (b : Book). Extends by.book b) book by.later in
    let one_known : Extends c.meet.new.two.book c.args.one.book =
    subst (λ (b : Book). Extends b c.args.one.book) c.meet.ensures.same c.meet.ensures.first in
    let two_known : Extends c.meet-2.new.two.book c.args.two.book =
    subst (λ (b : Book). Extends b c.args.two.book) c.meet-2.ensures.same
    c.meet-2.ensures.first in
    record {
      retired = record {
        book = by.book;
        full = by.full;
        begins = by.begins;
        later = on c.args.one.book c.meet.new.two.book by.book one_known
            (on c.meet.new.two.book c.meet-2.new.two.book by.book c.meet-2.ensures.second knows);
        state = by.state;
        number = by.number;
        limit = by.limit;
      };
      second = on c.args.two.book c.meet-2.new.two.book by.book two_known knows;
      gathered = gathered;
      all = all;
      early = subst (λ (old : List ℕ). IsMerged old c.args.one.author.changes gathered)
          (ap (λ (a : Author). a.gathered) lead)
          (subst (λ (own : List ℕ). IsMerged c.meet-2.new.two.author.gathered own gathered)
          (ap (λ (a : Author). a.changes) one) d.merged);
      late = subst (λ (own : List ℕ). IsMerged gathered own all)
          (ap (λ (a : Author). a.changes) two) e.merged;
      whole = c.retire.ensures.whole (ap (λ (a : Author). a.leads) last)
          (ap (λ (a : Author). a.enlisted) last ∙ none_left k l);
    }
