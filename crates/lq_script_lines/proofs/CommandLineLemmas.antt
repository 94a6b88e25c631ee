-- What a parse says of the program's words.
use Rattle.std.proofs.Common.{◌≡◌, ◌∙◌, inl, inr, false, true, refl, sym, ap, ap₂, subst, codes, List, [], Option, Some, None, option_map, arith, ⊎_elim}
use Rattle.std.specs.Str.{bytes_eq}
use Rattle.clap.specs.Walk.{Text, Row, first_of, rows_of}
use Rattle.clap.specs.Simple.{App, HasMatchesOf, is_simple, subcommand_of, subcommand_rows_of}
use Rattle.clap.specs.Kinds.{HasKind, Kinds}
use Rattle.clap.specs.Matches.{first_value, found_of, subcommand_name_of}
use Rattle.clap.specs.Values.{kind_of}
use Rattle.clap.specs.declared.error.Error.{Error}
use Rattle.clap.specs.declared.error.kind.ErrorKind.TheVariants.{OutOfMemory}
use Rattle.clap.specs.declared.parser.matches.ArgMatches.{ArgMatches}
use Rattle.clap.specs.declared.parser.matches.ArgMatches.TheViews.{out-ArgMatches, out-SubCommand}
use Rattle.clap.proofs.OnLiterals.{clap_on_literals}
use Rattle.std.specs.Box.{box_value}
use Rattle.std.specs.Borrow.{Bor}
use Rattle.clap.specs.Faults.{fault_of, is_simple_and_free}
use Rattle.clap.proofs.WalkLemmas.{first_value-rows}
use Rattle.lq_script_lines.specs.CommandLine.{lq_app}
use Rattle.lq_script_lines.specs.Words.{IsCheckOf, IsRun, IsThreads, IsUsage, has_stray}
use Rattle.lq_script_lines.proofs.CommandWalkLemmas.{Asks, check_taken, given, is_free, is_plain}
use Rattle.lq_script_lines.proofs.CommandFaultLemmas.{taken}

-- clap takes words that ask for a subcommand, and they give it, with its formula
asks_taken : (words : List Text) (p : Text × Option Text) → Asks words p
    → (fault_of lq_app words ≡ []) × (given words ≡ Some p)
unfolding clap_on_literals
asks_taken words p (inl run) = rw (run.0, run.1) (refl, refl)
asks_taken words p (inr (inl threads)) = rw (threads.0, threads.1) (refl, refl)
asks_taken words p (inr (inr (formula, (inl plain, is)))) =
    rw (plain.0, is) (check_taken formula plain.1)
asks_taken words p (inr (inr (formula, (inr dashes, is)))) = rw (dashes, is) (refl, refl)

-- what clap refuses, but for want of memory, asks for nothing
pub refused_is_usage : (words : List Text) (e : Error) → HasKind (fault_of lq_app words) e
    → (kind_of e ≡ OutOfMemory → ⊥) → IsUsage words
refused_is_usage words e fails memory = record {
  not_run = λ run. none _ (inl (run, refl));
  not_threads = λ threads. none _ (inr (inl (threads, refl)));
  not_check = λ formula check. none _ (inr (inr (formula, (check, refl))));
}
  where
    none : (p : Text × Option Text) → Asks words p → ⊥
    none p asks = ⊎_elim memory (λ among. among)
        (subst (λ (k : Kinds). HasKind k e) (asks_taken words p asks).0 fails)

-- words that ask for `run` by its name ask for a run
pub run_named : (words : List Text) (name : Text) (first : Option Text) → Asks words (name, first)
    → bytes_eq name (codes "run") ≡ true → IsRun words
run_named words name first asks e = grind arith

-- those that ask for `threads` ask for a run by threads
pub threads_named : (words : List Text) (name : Text) (first : Option Text)
    → Asks words (name, first) → bytes_eq name (codes "threads") ≡ true → IsThreads words
threads_named words name first asks e = grind arith

-- those that ask for another give a formula, and ask for a check of it
pub check_named : (words : List Text) (name : Text) (first : Option Text)
    → Asks words (name, first) → bytes_eq name (codes "run") ≡ false
    → bytes_eq name (codes "threads") ≡ false
    → (formula : Text) × ((first ≡ Some formula) × IsCheckOf words formula)
check_named words name first asks no_run no_threads = grind arith

-- equal options hold equal values
pub some_is : {X : Type 0} (x y : X) → Some x ≡ Some y → x ≡ y
some_is x y e = cc

-- the subcommand that a parse answers, read by its getters
name_rows : {X : Type 0} (f : X → Text) (g : X → List Row) (o : Option X)
    → option_map f o ≡ option_map (λ (p : Text × List Row). p.0) (option_map (λ b. (f b, g b)) o)
name_rows f g None = refl
name_rows f g (Some x) = refl

-- what is read of the subcommand: its name and its formula
abbrev read_of : Option (Bor Text × Bor ArgMatches) → Option (Text × Option Text)
read_of = option_map (λ p. (p.0.now, first_value (found_of p.1.now) (codes "formula")))

-- what is read is the rows' name and formula
read_is : (r : Option (Bor Text × Bor ArgMatches)) (o : Option (Text × List Row))
    → option_map (λ p. p.0.now) r ≡ option_map (λ p. p.0) o
    → option_map (λ p. rows_of (found_of p.1.now)) r ≡ option_map (λ p. p.1) o
    → read_of r ≡ option_map (λ p. (p.0, first_of (codes "formula") p.1)) o
read_is None None n e = refl
read_is None (Some q) n e = absurd (let bad : None ≡ Some q.0 = n in cc)
read_is (Some p) None n e = absurd (let bad : Some p.0.now ≡ None = n in cc)
read_is (Some p) (Some q) n e =
    let name : p.0.now ≡ q.0 = cc in
    let rows : rows_of (found_of p.1.now) ≡ q.1 = cc in
    ap₂ (λ (x : Text) (y : Option Text). Some (x, y)) name
    (first_value-rows (found_of p.1.now) (codes "formula") ∙ ap (first_of (codes "formula")) rows)

-- words without a stray `-` that a parse by the program's command takes ask for what is read of it
pub asked : (a : App) (words : List Text) (m : ArgMatches)
    (r : Option (Bor Text × Bor ArgMatches)) (q : Bor Text × Bor ArgMatches) → a ≡ lq_app
    → has_stray words ≡ false → (is_simple_and_free a ≡ true → fault_of a words ≡ [])
    → HasMatchesOf a words m → option_map (λ p. p.0.now) r ≡ subcommand_name_of m
    → option_map (λ p. rows_of (found_of p.1.now)) r ≡ option_map (λ p. p.1) (subcommand_rows_of m)
    → r ≡ Some q → Asks words (q.0.now, first_value (found_of q.1.now) (codes "formula"))
asked a words m r q is stray kinds matches name rows found =
    let passes : fault_of lq_app words ≡ [] = subst (λ (b : App). fault_of b words ≡ []) is
    (kinds (ap is_simple_and_free is ∙ is_free)) in
    let gives : subcommand_rows_of m ≡ subcommand_of lq_app words =
    subst (λ (b : App). subcommand_rows_of m ≡ subcommand_of b words) is
    (matches (ap is_simple is ∙ is_plain)).1 in
    let named : subcommand_name_of m ≡ option_map (λ p. p.0) (subcommand_rows_of m) =
    name_rows (λ b. (out-SubCommand (box_value b)).name.now)
    (λ b. rows_of (found_of (out-SubCommand (box_value b)).matches)) (out-ArgMatches m).subcommand
    in
    let read : read_of r ≡ given words = read_is r (subcommand_of lq_app words)
    (name ∙ named ∙ ap (option_map (λ p. p.0)) gives) (rows ∙ ap (option_map (λ p. p.1)) gives) in
    let asks = taken words stray passes in
    subst (Asks words)
    (some_is _ _ (sym (asks_taken words asks.0 asks.1).1 ∙ sym read ∙ ap read_of found)) asks.1
