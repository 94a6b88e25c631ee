use Rattle.std.proofs.Common.{arith, refl, sym, ap, ◌∙◌, ◌+◌, None, Some}
use Rattle.lq_predicate_formula.specs.Grammar.{nesting}
use Rattle.lq_predicate_formula.specs.Machine.{start}
use Rattle.lq_predicate_formula.specs.TokenView.{placed_of}
use Rattle.lq_predicate.proofs.ReadLemmas.{ends_made, token_fits, token_stops}
use Rattle.lq_predicate.proofs.SoFarLemmas.{all_texts, ends, goes_on, one_too_many, starts}
use Rattle.lq_predicate.proofs.read_whole.read_text.Goals as goal

pub loop-placed-init : goal.loop-placed-init
loop-placed-init g c = (
  start nesting,
  (c.requires.new, refl),
  starts c.args.text.now c.machine_reads.ensures c.requires.short,
)

pub stop_in_text-requires : goal.stop_in_text-requires
stop_in_text-requires g c =
    let i = c.loop-placed.invariant in
    token_fits _ _ _ _ _ i.2 (placed_of c.in-Some.placed) _ _ c.in-Some.ensures.some _
    c.in-Some.ensures.offset (c.in-Err.ensures i.0 i.1.0 i.1.1)

pub returns-in-Err-clause-whole : goal.returns-in-Err-clause-whole
returns-in-Err-clause-whole g c =
    let i = c.loop-placed.invariant in
    rw c.stop_in_text.ensures (token_stops _ _ _ _ _ i.2 (placed_of c.in-Some.placed) _ _
    c.in-Some.ensures.some g.B.Builder.part _ (c.one_token_list.ensures _ _)
    (c.in-Err.ensures i.0 i.1.0 i.1.1))

pub returns-then-words-gt-MOST_WORDS-clause-whole :
    goal.returns-then-words-gt-MOST_WORDS-clause-whole
returns-then-words-gt-MOST_WORDS-clause-whole g c =
    let i = c.loop-placed.invariant in
    let h = c.in-Ok.ensures i.0 i.1.0 i.1.1 in
    one_too_many _ _ _ _ _ i.2 (placed_of c.in-Some.placed) _ _ c.in-Some.ensures.some
    (c.one_token_list.ensures _ _) _ _ h.1
    (ap (λ n. c.loop-placed.words + n) c.word_count-words.ensures.value)
    c.if-words-gt-MOST_WORDS.true

pub loop-placed-preserved : goal.loop-placed-preserved
loop-placed-preserved g c =
    let i = c.loop-placed.invariant in
    let h = c.in-Ok.ensures i.0 i.1.0 i.1.1 in (
      h.0,
      h.2,
      goes_on _ _ _ _ _ i.2 (placed_of c.in-Some.placed) _ _ c.in-Some.ensures.some _ _ h.1
          (ap (λ n. c.loop-placed.words + n) c.word_count-words.ensures.value)
          (omega (arith, c.if-words-gt-MOST_WORDS.false)) c.in-Some.ensures.offset
          c.in-Some.ensures.text,
    )

pub returns-in_default-2-clause-whole : goal.returns-in_default-2-clause-whole
returns-in_default-2-clause-whole g c =
    let i = c.loop-placed.invariant in
    ends_made g.B.Builder.part c.args.text.now _ None
    (sym c.in_default-2.is ∙ c.in_ok-part.ensures i.0 i.1.0 i.1.1)
    (ends _ _ _ _ _ i.2 _ c.in_default.ensures.none refl)

pub returns-clause-whole : goal.returns-clause-whole
returns-clause-whole g c =
    let i = c.loop-placed.invariant in
    ends_made g.B.Builder.part c.args.text.now _ (Some c.in-Some-2.part)
    (sym c.in-Some-2.is ∙ c.in_ok-part.ensures i.0 i.1.0 i.1.1)
    (ends _ _ _ _ _ i.2 _ c.in_default.ensures.none refl)

pub returns-clause-texts : goal.returns-clause-texts
returns-clause-texts g c =
    all_texts _ _ _ _ _ c.loop-placed.invariant.2 c.in_default.ensures.none
