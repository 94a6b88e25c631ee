use Rattle.std.proofs.Common.{◌≡◌, ◌∙◌, ap, inr, rules, sym, Err}
use Rattle.std.specs.Prelude.{ok_or}
use Rattle.std.specs.Str.{IsUtf8}
use Rattle.serde_json.specs.Read.{read}
use Rattle.lq_value.specs.declared.refusal.Refusal.TheVariants.{BadLine}
use Rattle.lq_script_request.specs.Fields.{whole_data}
use Rattle.lq_script_request.specs.Request.{raw_asked_from, request_from, request_in}
use Rattle.lq_script_request.proofs.PlainLemmas.{line-asks}
use Rattle.lq_script_request.proofs.RequestLemmas.{asked-not_utf8, asked-utf8, error-then, line-asks-found, line-refused, refused-along, value-then}
use Rattle.lq_script_request.proofs.parse_line.request_in.Goals as goal

pub returns-in-Some-clause-value : goal.returns-in-Some-clause-value
returns-in-Some-clause-value c =
    ap request_in c.in-Some.ensures.line ∙ line-asks c.in-Some.slot c.in-Some.ensures.small

pub returns-then-not-is_utf8-clause-refused : goal.returns-then-not-is_utf8-clause-refused
returns-then-not-is_utf8-clause-refused c =
    let other : ¬ IsUtf8 c.args.line.now = search rules in
    inr (ap request_from (asked-not_utf8 c.args.line.now other))

pub returns-in_err-read-clause-refused : goal.returns-in_err-read-clause-refused
returns-in_err-read-clause-refused c =
    let utf8 : IsUtf8 c.args.line.now = search rules in
    let asks = asked-utf8 c.args.line.now utf8
    ∙ ap raw_asked_from (ap read (sym c.from_utf8_unchecked-text.ensures)) in
    let is : c.from_residual.result ≡ Err c.in_err-read.field-0.0 = search rules in
    rw is (line-refused c.args.line.now _ _ asks c.in_err-read.ensures.refused)

pub returns-in_default-raw_request_in-clause-refused :
    goal.returns-in_default-raw_request_in-clause-refused
returns-in_default-raw_request_in-clause-refused c =
    let utf8 : IsUtf8 c.args.line.now = search rules in
    let asks = asked-utf8 c.args.line.now utf8
    ∙ ap raw_asked_from (ap read (sym c.from_utf8_unchecked-text.ensures)) in
    let found = line-asks-found c.args.line.now _ (whole_data c.read.new.self) asks
    c.in_ok-read.ensures.value in
    inr (ap request_from (found
    ∙ ap (λ asks. ok_or asks BadLine) (sym c.in_default-raw_request_in.ensures)))

pub returns-clause-value : goal.returns-clause-value
returns-clause-value c =
    let utf8 : IsUtf8 c.args.line.now = search rules in
    let asks = asked-utf8 c.args.line.now utf8
    ∙ ap raw_asked_from (ap read (sym c.from_utf8_unchecked-text.ensures)) in
    let found = line-asks-found c.args.line.now _ (whole_data c.read.new.self) asks
    c.in_ok-read.ensures.value in
    let same = ap request_from (found
    ∙ ap (λ asks. ok_or asks BadLine) (sym c.in-Some-raw_request_in.ensures)) in
    value-then c.read_request.result (λ request is. same ∙ is) c.read_request.ensures.value

pub returns-clause-refused : goal.returns-clause-refused
returns-clause-refused c =
    let utf8 : IsUtf8 c.args.line.now = search rules in
    let asks = asked-utf8 c.args.line.now utf8
    ∙ ap raw_asked_from (ap read (sym c.from_utf8_unchecked-text.ensures)) in
    let found = line-asks-found c.args.line.now _ (whole_data c.read.new.self) asks
    c.in_ok-read.ensures.value in
    let same = ap request_from (found
    ∙ ap (λ asks. ok_or asks BadLine) (sym c.in-Some-raw_request_in.ensures)) in
    error-then c.read_request.result (λ e. refused-along c.args.line.now e _ same)
    c.read_request.ensures.refused
