-- With each change that is accepted, the seat has made one more of those given.
use Rattle.std.proofs.Common.{◌≡◌, ◌+◌, List, [], ◌∷◌, ◌++◌, take, take_all, Some, sym, ap, ◌∙◌, subst, rules, arith}
use Rattle.std.proofs.lemmas.List.{take_more}
use Rattle.std.proofs.lemmas.Option.{slice_get-get_or}
use Rattle.lq_volume.specs.declared.change.Change.{Change}
use Rattle.lq_volume.specs.Book.{Book}
use Rattle.lq_board.specs.Token.{SeatToken}
use Rattle.lq_server_slots.specs.declared.identity.Identity.{Identity}
use Rattle.lq_model.specs.Followed.{HasMade}
use Rattle.lq_model.proofs.MadeLemmas.{made_more, made_still, refused_here}
use Rattle.lq_model.proofs.model.apply_all.Goals as goal

pub loop-change-preserved : goal.loop-change-preserved
loop-change-preserved g c =
    let l = c.loop-change in
    let made = l.invariant in
    let xs : List Change = c.args.changes.now in
    let x : Change = c.change-item.result in
    let longer : take l.change-index xs ++ x ∷ [] ≡ take (l.change-index + 1) xs =
    ap (λ (y : Change). take l.change-index xs ++ y ∷ []) c.change-item.is
    ∙ sym (take_more xs l.change-index x c.loop-change-test.true) in
    let new = c.apply.new.seat in
    let ok = c.in_ok-apply.ensures in (
      ap (λ (s : SeatToken Identity). s.board) ok.seat ∙ made.0,
      ap (λ (s : SeatToken Identity). s.slot) ok.seat ∙ made.1,
      ap (λ (b : Book). b.start) ok.later.1 ∙ made.2,
      subst (HasMade c.args.seat.now new) longer
          (made_more c.args.seat.now l.seat new _ _ x made.3 ok.author ok.ok),
    )

-- the change that is refused is the one after those that were made
pub returns-in_err-apply-clause-applied : goal.returns-in_err-apply-clause-applied
returns-in_err-apply-clause-applied g c =
    let l = c.loop-change in
    let made = l.invariant in
    let xs : List Change = c.args.changes.now in
    let x : Change = c.change-item.result in
    let new = c.apply.new.seat in
    let no = c.in_err-apply.ensures in
    let why = refused_here new.book xs l.change-index x _
    (slice_get-get_or xs l.change-index x c.loop-change-test.true
    ∙ sym (ap (λ (y : Change). Some y) c.change-item.is)) no.err in
    record {
      accepted = l.change-index;
      made = made_still c.args.seat.now l.seat new (take l.change-index xs) made.3 no.others
          no.later;
      start = ap (λ (b : Book). b.start) no.later.1 ∙ made.2;
      ok = search rules;
      err = search (rules, why);
    }

-- where none is refused, all were made
pub returns-clause-applied : goal.returns-clause-applied
returns-clause-applied g c =
    let l = c.loop-change in
    let made = l.invariant in
    let xs : List Change = c.args.changes.now in
    let past = c.loop-change-test.false in
    record {
      accepted = l.change-index;
      made = made.3;
      start = made.2;
      ok = take_all l.change-index xs (omega (arith, past));
      err = search rules;
    }
