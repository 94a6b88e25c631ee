use Rattle.std.proofs.Common.{◌≡◌, arith, rules, false, true≢false, inl, inr, refl, sym, ◌∙◌, subst}
use Rattle.std.proofs.lemmas.Result.{IfOk-weaker, on_err_weaker}
use mathlib.Core.List.{IsPrefix}
use Rattle.lq_volume.specs.Book.{Book, Extends}
use Rattle.lq_server_slots.specs.Updates.{updates}
use Rattle.lq_server_slots.specs.Rule.{all_updates}
use Rattle.lq_server_slots.specs.Reading.{Gives, known_book, received, is_marked}
use Rattle.lq_server_slots.specs.Hold.{ReaderHold}
use Rattle.lq_server.specs.Syncing.{IsSynced, IsRead}
use Rattle.lq_server.proofs.OwnLemmas.{hold}
use Rattle.lq_server.proofs.HeadlineLemmas.{prefix_told}
use Rattle.lq_server.proofs.reader.Reader.read_waiting.Goals as goal

pub returns-then-is_ended : goal.returns-then-is_ended
unfolding updates
returns-then-is_ended g c = record {
  own = c.requires.own;
  seat = refl;
  later = search rules;
  rest = refl;
  port = search rules;
  received = subst (λ (r : ReaderHold). IsPrefix (received r.reading)
      (all_updates r.reading.port.floor (known_book r.reading))) c.self.view_is
      (prefix_told c.self.inside.reading c.update_facts.ensures);
  known = search rules;
  refused = search rules;
  gives = inl (refl, refl, grind arith);
  fails = tt;
  over = λ _. refl;
  waits = search rules;
}

pub returns : goal.returns
returns g c =
    let live = subst (λ (r : ReaderHold). is_marked r.reading ≡ false) c.self.view_is
    (sym c.if-is_ended.ensures) in
    let old = c.args.self.now in
    let new = c.read_waiting.new.self in
    let i = c.self-2.inside in
    let mid : ReaderHold = hold i.reading i.seat i.slot i.hang_up_asked in
    let x = c.pump.ensures.0 in
    let s : IsSynced old mid x =
    subst (λ (r : ReaderHold). IsSynced old r x) (sym c.self-2.view_is) c.pump.ensures.1 in
    let w = c.read_waiting.ensures in record {
      own = grind arith;
      seat = s.seat;
      later = s.later;
      rest = λ k. hold new i.seat (s.slot k) (s.hang_up_asked k);
      port = (w.same.0 ∙ s.port.0, w.same.1 ∙ s.port.1, w.same.2 ∙ s.port.2);
      received = search rules;
      known = subst (λ (b : Book). Extends (known_book new) b) s.known_stays w.known;
      refused = search rules;
      gives = IfOk-weaker c.read_waiting.result (Gives mid.reading new)
          (IsRead old (record mid { reading = new }))
          (λ a h. inr (live, (mid, x, s, h, refl))) w.gives;
      fails = on_err_weaker c.read_waiting.result (λ h. (live, (mid, x, s, h, refl))) w.fails;
      over = λ some. absurd (true≢false (sym some ∙ live));
      waits = w.waits;
    }
