-- The values that are put in place by offsets give the text that is found token by token.
use Rattle.std.proofs.Common.{◌≡◌, ◌∙◌, ◌+◌, ◌-◌, ◌≤◌, ℕ, List, [], ◌∷◌, ◌++◌, length, take, drop, Option, None, Some, refl, sym, ap, ap₂, subst, arith, append_assoc, length-append, length-drop}
use Rattle.std.specs.Prelude.{option_to_list}
use Rattle.std.proofs.lemmas.List.{drop-append-le, drop_all, take-append-le, take_all}
use Rattle.lq_value.specs.declared.op.Op.{Op}
use Rattle.lq_value.specs.declared.value.Value.{Value}
use Rattle.lq_predicate_formula.specs.Tokens.{HasOneTokenList, HasTokens, Placed, bare}
use Rattle.lq_embed.specs.declared.parameters.Parameter.{Parameter}
use Rattle.lq_embed.specs.BoundFormula.{between, literal_at, replaced_from, with_values}
use Rattle.lq_embed.specs.BoundTokens.{BoundIsRead}
use Rattle.lq_embed.specs.Parameters.{operator_of, parameter_at, parameters_after}
use Rattle.lq_embed.proofs.BoundTokenLemmas.{lexes, part_or, rewritten, word_end}
use Rattle.lq_embed.proofs.NamedLemmas.{is_parameter}

-- ---- by offsets

-- the bytes from one offset to the end of what came before another
between_front : (pre rest : List ℕ) (at to : ℕ) → at ≤ length pre → to ≡ length pre
    → between (pre ++ rest) at to ≡ drop at pre
between_front pre rest at to le is =
    ap (λ l. take (to - at) l) (drop-append-le at pre rest le)
    ∙ (take-append-le (to - at) (drop at pre) rest (omega (arith, is, length-drop at pre))
    ∙ take_all (to - at) (drop at pre) (omega (arith, is, length-drop at pre)))

-- all the bytes from an offset on
between_end : (bytes : List ℕ) (at : ℕ) → between bytes at (length bytes) ≡ drop at bytes
between_end bytes at =
    take_all (length bytes - at) (drop at bytes) (omega (arith, length-drop at bytes))

-- by offsets it is the same text
replaced_is : (values : List Value) (formula : List ℕ) (before : Option Op) (ts : List Placed)
    (pre bs : List ℕ) (at offset : ℕ) (h : HasTokens offset bs ts) → formula ≡ pre ++ bs
    → offset ≡ length pre → at ≤ length pre
    → replaced_from values formula at (parameters_after before ts)
    ≡ drop at pre ++ rewritten values before ts offset bs h
unfolding rewritten
replaced_is values formula before [] pre bs at offset h whole is le =
    between_end formula at
    ∙ (ap (drop at) whole ∙ drop-append-le at pre bs le)
replaced_is values formula before (t ∷ ts) pre bs at offset h whole is le =
    by (parameter_at before t) refl (λ from within.
    replaced_is values formula (operator_of t.token) ts ((pre ++ h.2.blank) ++ h.2.part) h.1 from
    h.0 h.3 split_more size_more within)
  where
    split_front : formula ≡ (pre ++ h.2.blank) ++ (h.2.part ++ h.1)
    split_front = whole ∙ (ap (λ l. pre ++ l) h.2.split
        ∙ sym (append_assoc pre h.2.blank (h.2.part ++ h.1)))

    split_more : formula ≡ ((pre ++ h.2.blank) ++ h.2.part) ++ h.1
    split_more = split_front ∙ sym (append_assoc (pre ++ h.2.blank) h.2.part h.1)

    size_front : length (pre ++ h.2.blank) ≡ offset + length h.2.blank
    size_front = omega (arith, length-append pre h.2.blank, is)

    size_more : h.0 ≡ length ((pre ++ h.2.blank) ++ h.2.part)
    size_more =
        omega (arith, length-append (pre ++ h.2.blank) h.2.part, size_front, h.2.is_next)

    by : (m : Option Parameter) → parameter_at before t ≡ m
        → ((from : ℕ) → from ≤ length ((pre ++ h.2.blank) ++ h.2.part)
        → replaced_from values formula from (parameters_after (operator_of t.token) ts)
        ≡ drop from ((pre ++ h.2.blank) ++ h.2.part)
        ++ rewritten values (operator_of t.token) ts h.0 h.1 h.3)
        → replaced_from values formula at (option_to_list m
        ++ parameters_after (operator_of t.token) ts)
        ≡ drop at pre ++ (h.2.blank ++ (part_or values h.2.part m
        ++ rewritten values (operator_of t.token) ts h.0 h.1 h.3))
    by None none behind =
        let rest = rewritten values (operator_of t.token) ts h.0 h.1 h.3 in
        let front = pre ++ h.2.blank in
        let far : at ≤ length front = omega (arith, le, length-append pre h.2.blank) in
        behind at (omega (arith, far, length-append front h.2.part))
        ∙ (ap (λ l. l ++ rest) (drop-append-le at front h.2.part far)
        ∙ (append_assoc (drop at front) h.2.part rest
        ∙ (ap (λ l. l ++ (h.2.part ++ rest)) (drop-append-le at pre h.2.blank le)
        ∙ append_assoc (drop at pre) h.2.blank (h.2.part ++ rest))))
    by (Some p) some behind =
        let rest = rewritten values (operator_of t.token) ts h.0 h.1 h.3 in
        let front = pre ++ h.2.blank in
        let more = front ++ h.2.part in
        let k = is_parameter before t p some in
        let w = word_end t h.2.token.inside (offset + length h.2.blank) h.2.part h.1 k.raw
        k.unmarked h.2.token.offset h.2.token.raw k.is_word h.2.token.token in
        let begin : p.offset ≡ length front =
        omega (arith, k.offset, h.2.token.offset, size_front) in
        let size : length h.2.part ≡ length k.raw = ap length w.0 in
        let end : p.end ≡ length more =
        omega (arith, k.end, h.2.token.offset, size_front, size, length-append front h.2.part) in
        let first : between formula at p.offset ≡ drop at pre ++ h.2.blank =
        ap (λ f. between f at p.offset) split_front
        ∙ (between_front front (h.2.part ++ h.1) at p.offset
        (omega (arith, le, length-append pre h.2.blank)) begin
        ∙ drop-append-le at pre h.2.blank le) in
        let others : replaced_from values formula p.end
        (parameters_after (operator_of t.token) ts) ≡ rest =
        behind p.end (omega (arith, end))
        ∙ ap (λ l. l ++ rest) (drop_all p.end more (omega (arith, end))) in
        ap₂ (λ l r. l ++ (literal_at values p ++ r)) first others
        ∙ append_assoc (drop at pre) h.2.blank (literal_at values p ++ rest)

-- ---- the law

-- so the formula with its values has these tokens, and no others
pub bound_read : ((at : ℕ) (text : List ℕ) → HasOneTokenList at text) → BoundIsRead
bound_read law values formula ts us h fine have has =
    let same = replaced_is values formula None ts [] formula 0 0 h refl refl (omega arith) in
    let found = lexes values None ts 0 formula h (length formula) fine have 0 in
    let only = (law 0 (with_values values formula ts)).only in
    let mine : HasTokens 0 (with_values values formula ts) found.0 =
    subst (λ l. HasTokens 0 l found.0) (sym same) found.1 in
    ap bare (only us has ∙ sym (only found.0 mine)) ∙ found.2
