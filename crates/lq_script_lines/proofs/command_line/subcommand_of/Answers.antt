use Rattle.std.proofs.Common.{◌≡◌, ◌∙◌, ap, sym, subst, codes, false, true, None, Some}
use Rattle.clap.specs.Faults.{fault_of, is_simple_and_free}
use Rattle.clap.specs.Kinds.{HasKind}
use Rattle.clap.specs.Matches.{first_value, found_of}
use Rattle.clap.specs.Values.{kind_of}
use Rattle.clap.specs.Simple.{App, app_of}
use Rattle.clap.specs.declared.error.kind.ErrorKind.TheVariants.{OutOfMemory}
use Rattle.lq_script_lines.specs.CommandLine.{lq_app}
use Rattle.lq_script_lines.specs.Words.{IsCheckOf, texts_of}
use Rattle.lq_script_lines.proofs.CommandLineLemmas.{asked, check_named, refused_is_usage, run_named, some_is, threads_named}
use Rattle.lq_script_lines.proofs.CommandWalkLemmas.{Asks, is_free}
use Rattle.lq_script_lines.proofs.command_line.subcommand_of.Goals.{In-Some}
use Rattle.lq_script_lines.proofs.command_line.subcommand_of.Goals as goal

pub returns-in-Err-2-clause-usage : goal.returns-in-Err-2-clause-usage
returns-in-Err-2-clause-usage c usage =
    let is : app_of c.in-Ok.command ≡ lq_app = c.in-Ok.ensures in
    let memory : kind_of c.in-Err.error ≡ OutOfMemory → ⊥ = λ e.
    let yes : c.eq.result ≡ true = rw (c.kind.ensures ∙ e) at c.eq.ensures in
    absurd (let bad : true ≡ false = sym yes ∙ c.if-eq.false in cc) in
    refused_is_usage (texts_of c.args.words.now) c.in-Err.error
    (subst (λ (a : App). HasKind (fault_of a (texts_of c.args.words.now)) c.in-Err.error) is
    (c.in-Err.ensures.kinds (ap is_simple_and_free is ∙ is_free))) memory

-- what the words ask for is what the parse answers
asks : (c : In-Some) → Asks (texts_of c.args.words.now)
    (c.in-Some.name.now, first_value (found_of c.in-Some.inner.now) (codes "formula"))
asks c =
    let parsed = c.in-Ok-try_get_matches_from.ensures in
    asked (app_of c.in-Ok.command) (texts_of c.args.words.now) c.in-Ok-try_get_matches_from.matches
    c.subcommand.result _ c.in-Ok.ensures
    (sym c.has_stray_dashes.ensures ∙ c.if-has_stray_dashes.false) parsed.kinds parsed.matches
    c.subcommand.ensures.name c.subcommand.ensures.rows c.in-Some.is

pub returns-then-eq-2-clause-ok : goal.returns-then-eq-2-clause-ok
returns-then-eq-2-clause-ok c =
    run_named _ _ _ (asks (goal.at.returns-then-eq-2-clause-ok c).In-Some)
    (sym c.eq-2.ensures ∙ c.if-eq-2.true)

pub returns-then-eq-3-clause-ok : goal.returns-then-eq-3-clause-ok
returns-then-eq-3-clause-ok c =
    threads_named _ _ _ (asks (goal.at.returns-then-eq-3-clause-ok c).In-Some)
    (sym c.eq-3.ensures ∙ c.if-eq-3.true)

pub returns-in-Some-get_str-clause-ok : goal.returns-in-Some-get_str-clause-ok
returns-in-Some-get_str-clause-ok c =
    let named = check_named _ _ _ (asks (goal.at.returns-in-Some-get_str-clause-ok c).In-Some)
    (sym c.eq-2.ensures ∙ c.if-eq-2.false) (sym c.eq-3.ensures ∙ c.if-eq-3.false) in
    subst (IsCheckOf (texts_of c.args.words.now))
    (some_is _ _ (sym named.1.0 ∙ sym c.in-Some-get_str.ensures)) named.1.1

pub returns-clause-usage : goal.returns-clause-usage
returns-clause-usage c usage =
    let named = check_named _ _ _ (asks (goal.at.returns-clause-usage c).In-Some)
    (sym c.eq-2.ensures ∙ c.if-eq-2.false) (sym c.eq-3.ensures ∙ c.if-eq-3.false) in
    absurd (let bad : Some named.0 ≡ None = sym named.1.0 ∙ sym c.in-None.ensures in cc)
