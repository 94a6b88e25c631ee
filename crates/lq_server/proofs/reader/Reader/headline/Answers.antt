use Rattle.std.proofs.Common.{◌≡◌, sym, ap, ◌∙◌, subst}
use Rattle.std.proofs.lemmas.Option.{MatchOption-at_some}
use Rattle.lq_update.specs.declared.mark.Mark.{Mark}
use Rattle.lq_server_slots.specs.Reading.{known_book}
use Rattle.lq_server.specs.Headline.{ReaderIsTold, result_after}
use Rattle.lq_server.proofs.HeadlineLemmas.{ends_whole, once_told, only_ended, opened_told, prefix_told}
use Rattle.lq_server.proofs.reader.Reader.headline.Goals as goal

pub returns : goal.returns
returns c =
    let r = c.self.inside.reading in
    let told = c.update_facts.ensures in
    let ends = ends_whole r told in
    let after = result_after r.port.floor (known_book r) in
    subst ReaderIsTold c.self.view_is (record {
      book = told.legal_list.full;
      opened = opened_told r told;
      prefix = prefix_told r told;
      once = once_told r told;
      mark = ends;
      over = λ some next a ends_next g. only_ended r next a ends ends_next some g;
      settled = λ yes. c.is_settled.ensures.whole (c.is_settled.ensures.received.1 yes)
          ∙ ap after (sym c.last_change.ensures.change ∙ c.last_change.ensures.received);
      closed = λ k there. sym c.result.ensures.entries
          ∙ MatchOption-at_some _ (λ (k : Mark). c.result.result.now ≡ after k.change) k there
          c.result.ensures.marked;
    })
