-- A text's escapes, run by run.
use Rattle.std.proofs.Common.{◌≡◌, ℕ, ◌+◌, ◌-◌, ◌<◌, ◌≤◌, Bool, true, false, cond, List, [], ◌∷◌, ◌++◌, length, get_or, take, drop, refl, ap, sym, ◌∙◌, rules, arith, append_assoc, append-nil}
use Rattle.std.proofs.lemmas.Grind.{common_steps}
use Rattle.std.specs.List.{prefix_len}
use Rattle.json.specs.Print.{escape_byte, escape}
use Rattle.lq_script_desk.specs.Escaping.{needs_no_escape}

-- a plain byte stands for itself
pub escape_plain : (x : ℕ) → needs_no_escape x ≡ true → escape_byte x ≡ x ∷ []
unfolding escape_byte
escape_plain x e = search rules

-- one byte more, plain or not, before a text that is split behind its run
run_by : (x : ℕ) (xs : List ℕ) (b : Bool) → needs_no_escape x ≡ b
    → escape xs ≡ take (prefix_len needs_no_escape xs) xs
    ++ escape (drop (prefix_len needs_no_escape xs) xs)
    → escape (x ∷ xs) ≡ take (cond b (1 + prefix_len needs_no_escape xs) 0) (x ∷ xs)
    ++ escape (drop (cond b (1 + prefix_len needs_no_escape xs) 0) (x ∷ xs))
run_by x xs b e rest = grind (arith, escape_plain)

-- the run before the first byte that has an escape stands for itself
pub escape_run : (xs : List ℕ)
    → escape xs ≡ take (prefix_len needs_no_escape xs) xs
    ++ escape (drop (prefix_len needs_no_escape xs) xs)
escape_run [] = refl
escape_run (x ∷ xs) = run_by x xs (needs_no_escape x) refl (escape_run xs)

-- the same for the byte behind the run
stops_by : (x : ℕ) (xs : List ℕ) (byte : ℕ) (behind : List ℕ) (b : Bool) → needs_no_escape x ≡ b
    → (drop (prefix_len needs_no_escape xs) xs ≡ byte ∷ behind → needs_no_escape byte ≡ false)
    → drop (cond b (1 + prefix_len needs_no_escape xs) 0) (x ∷ xs) ≡ byte ∷ behind
    → needs_no_escape byte ≡ false
stops_by x xs byte behind b e rest h = grind arith

-- the byte behind the run has an escape
pub run_stops : (xs : List ℕ) (byte : ℕ) (behind : List ℕ)
    → drop (prefix_len needs_no_escape xs) xs ≡ byte ∷ behind → needs_no_escape byte ≡ false
run_stops [] byte behind h = absurd (cc)
run_stops (x ∷ xs) byte behind h =
    stops_by x xs byte behind (needs_no_escape x) refl (run_stops xs byte behind) h

-- a list is its first element and those behind it
first_and_behind : (s : List ℕ) → 1 ≤ length s → s ≡ get_or s 0 0 ∷ take (length s - 1) (drop 1 s)
first_and_behind [] h = absurd (omega arith)
first_and_behind (x ∷ xs) h = grind (arith, common_steps)

-- the byte behind a run has an escape
pub first_escaped : (xs stop : List ℕ) (n : ℕ) → n ≡ prefix_len needs_no_escape xs
    → stop ≡ drop n xs → 1 ≤ length stop → needs_no_escape (get_or stop 0 0) ≡ false
first_escaped xs stop n e s h =
    run_stops xs (get_or stop 0 0) (take (length stop - 1) (drop 1 stop))
    (ap (λ k. drop k xs) (sym e) ∙ (sym s ∙ first_and_behind stop h))

-- a text is a run, the escape behind it, and what is left
pub escape_parts : (xs run stop : List ℕ) (n : ℕ) → n ≡ prefix_len needs_no_escape xs
    → run ≡ take n xs → stop ≡ drop n xs → 1 ≤ length stop
    → escape xs ≡ run
    ++ (escape_byte (get_or stop 0 0) ++ escape (take (length stop - 1) (drop 1 stop)))
escape_parts xs run stop n e r s h =
    let whole = escape_run xs in
    let parts = first_and_behind stop h in
    cc

-- a text that ends with its run
pub escape_whole : (xs run stop : List ℕ) (n : ℕ) → n ≡ prefix_len needs_no_escape xs
    → run ≡ take n xs → stop ≡ drop n xs → length stop < 1 → escape xs ≡ run
escape_whole xs run [] n e r s h = let whole = escape_run xs in cc (append-nil run)
escape_whole xs run (x ∷ stop) n e r s h = absurd (omega arith)

-- what was put and what is left stay the whole
pub put_on : (out later last text run byte more close whole : List ℕ) → later ≡ out ++ run
    → last ≡ later ++ byte → text ≡ run ++ (byte ++ more)
    → out ++ (text ++ close) ≡ whole → last ++ (more ++ close) ≡ whole
put_on out later last text run byte more close whole first second parts all =
    grind (arith, append_assoc)

-- what was put and the end are the whole
pub put_last : (out later last text run close whole : List ℕ) → later ≡ out ++ run
    → last ≡ later ++ close → text ≡ run
    → out ++ (text ++ close) ≡ whole → last ≡ whole
put_last out later last text run close whole first second same all = grind (arith, append_assoc)
