use Rattle.std.proofs.Common.{◌≡◌, sym, ◌∙◌, ap, ◌++◌, append-nil, arith, length, string_bytes, true, false}
use Rattle.std.proofs.Math.Utf8.{encode}
use Rattle.lq_predicate_formula.specs.Literals.{unescaped}
use Rattle.lq_predicate_formula.proofs.RawLemmas.{backslash, escaped_char, plain_char, one_more, unescaped_none}
use Rattle.lq_predicate_formula.proofs.raw.unescape.Goals as goal

pub loop-c-preserved-then-escaped : goal.loop-c-preserved-then-escaped
loop-c-preserved-then-escaped c =
    let rest = c.loop-c.c-iterator.rest.now in
    let left = c.next.new.self.rest.now in
    one_more (string_bytes c.loop-c.text) (string_bytes c.push.new.self)
    (unescaped false c.args.raw.now) c.in-Some.c (unescaped c.loop-c.escaped rest)
    (unescaped false left) c.loop-c.invariant c.in_ok-push.ensures.bytes
    (ap (λ b. unescaped b rest) c.if-escaped.true ∙ ap (unescaped true) c.in-Some.ensures.steps.0
    ∙ escaped_char c.in-Some.c left)

pub loop-c-preserved : goal.loop-c-preserved
loop-c-preserved c =
    let rest = c.loop-c.c-iterator.rest.now in
    let left = c.next.new.self.rest.now in
    one_more (string_bytes c.loop-c.text) (string_bytes c.push-else-c-eq92.new.self)
    (unescaped false c.args.raw.now) c.in-Some.c (unescaped c.loop-c.escaped rest)
    (unescaped c.loop-c.escaped left) c.loop-c.invariant c.in_ok-push-2.ensures.bytes
    (ap (λ b. unescaped b rest) c.if-escaped.false ∙ ap (unescaped false) c.in-Some.ensures.steps.0
    ∙ plain_char c.in-Some.c left c.if-c-eq92.false
    ∙ ap (λ b. encode c.in-Some.c ++ unescaped b left) (sym c.if-escaped.false))

pub loop-c-preserved-then-c-eq92 : goal.loop-c-preserved-then-c-eq92
loop-c-preserved-then-c-eq92 c =
    ap (λ l. string_bytes c.loop-c.text ++ l)
    (sym (ap (λ b. unescaped b c.loop-c.c-iterator.rest.now) c.if-escaped.false
    ∙ ap (unescaped false) c.in-Some.ensures.steps.0
    ∙ backslash c.in-Some.c c.next.new.self.rest.now c.if-c-eq92.true)) ∙ c.loop-c.invariant

pub returns-clause-value : goal.returns-clause-value
returns-clause-value c =
    let none : length c.loop-c.c-iterator.rest.now ≡ 0 = omega (arith, c.in-None.ensures) in
    sym (append-nil (string_bytes c.loop-c.text)) ∙ ap (λ l. string_bytes c.loop-c.text ++ l)
    (sym (unescaped_none c.loop-c.escaped c.loop-c.c-iterator.rest.now none)) ∙ c.loop-c.invariant
