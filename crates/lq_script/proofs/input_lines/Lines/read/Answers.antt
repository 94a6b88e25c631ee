-- What a read gives.
use Rattle.std.proofs.Common.{rules, arith, ◌≡◌, ◌++◌, ◌∙◌, Err, List, ℕ}
use Rattle.lq_script_lines.specs.Lines.{line_of, unended_line}
use Rattle.lq_script.proofs.InputLemmas.{hands_last, reply_handed, stops_in}
use Rattle.lq_script.proofs.input_lines.Lines.read.Goals as goal

-- what two parts are, both together are
join : {a b x y : List ℕ} → a ≡ x → b ≡ y → a ++ b ≡ x ++ y
join p q = cc

pub returns-in_default-clause-reads : goal.returns-in_default-clause-reads
returns-in_default-clause-reads g c = λ given h. (
  c.in_default.ensures.fails,
  c.in_default.ensures.bytes,
  h.within,
  c.clear.ensures.items,
)

pub returns-then-count-eq0-clause-reads : goal.returns-then-count-eq0-clause-reads
returns-then-count-eq0-clause-reads g c = λ given h.
    let bytes = c.in-Ok.ensures.bytes in
    record {
      consumed = rw c.if-count-eq0.true at bytes.0;
      at_end = bytes.1 c.if-count-eq0.true (omega arith);
      within = h.within;
      hands = hands_last c.lines_grow.ensures.end given
          (c.in_ok-answer.ensures.ok _ h.kept
          ∙ join c.clear.ensures.items
          (reply_handed (line_of (unended_line given)) 0 (λ state _. state)));
    }

pub returns-in_err-take-clause-reads : goal.returns-in_err-take-clause-reads
returns-in_err-take-clause-reads g c = λ given h.
    let is : c.from_residual-in_err-take.result ≡ Err c.in_err-take.field-0.0 = search rules in
    rw is (stops_in given _ _ _ _ _ c.in_err-take.field-0.0 c.in_err-take.ensures.fault
    c.clear.ensures.items c.in-Ok.ensures.bytes.0 (λ e. c.in_err-take.ensures.limit e given h)
    (λ e. c.in_err-take.ensures.memory e given h))

pub returns-clause-reads : goal.returns-clause-reads
returns-clause-reads g c = λ given h. record {
  piece = _;
  consumed = c.in-Ok.ensures.bytes.0;
  come = c.in_ok-take.ensures.come given h;
  hands = rw c.clear.ensures.items at (c.in_ok-take.ensures.hands given h);
}
