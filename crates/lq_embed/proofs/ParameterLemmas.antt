-- The parameters that are found, a token at a time.
use Rattle.std.proofs.Common.{◌≡◌, ◌∙◌, ◌+◌, ℕ, List, [], ◌∷◌, ◌++◌, length, Option, None, Some, refl, sym, ap, subst, append_assoc, append-nil}
use Rattle.std.specs.Prelude.{option_to_list}
use Rattle.lq_value.specs.declared.op.Op.{Op}
use Rattle.lq_value.specs.declared.refusal.Refusal.TheVariants.{BadQuery}
use Rattle.lq_predicate_formula.specs.Tokens.{HasOneTokenList, HasTokens, IsBlank, Placed, Yields}
use Rattle.lq_embed.specs.declared.parameters.Parameter.{Parameter}
use Rattle.lq_embed.specs.ParameterList.{HasFault, HasParameters}
use Rattle.lq_embed.specs.Parameters.{fault_of, first_fault, operator_of, or_later, parameter_at, parameters_after, parameters_of}

-- the formula's tokens, where the last of them are these
pub record HasMore (formula : List ℕ) (found : List Parameter) (before : Option Op)
    (ts : List Placed) : Type 0 where
  pub tokens : List Placed
  pub has : HasTokens 0 formula tokens
  pub are : parameters_of tokens ≡ found ++ parameters_after before ts
  pub fault : first_fault (length formula) tokens ≡ first_fault (length formula) ts

-- how far the reading has come: the parameters found so far, and the rest at its offset, which
-- comes after this operator if there is one
pub record HasSoFar (formula : List ℕ) (found : List Parameter) (before : Option Op) (offset : ℕ)
    (rest : List ℕ) : Type 0 where
  pub room : offset + length rest ≡ length formula
  pub more : (ts : List Placed) → HasTokens offset rest ts → HasMore formula found before ts

-- the tokens of the rest, after its first one
more_after : {formula : List ℕ} {found : List Parameter} {before : Option Op} {offset : ℕ}
    {rest : List ℕ} {t : Placed} {next : ℕ} {left : List ℕ} (ts : List Placed)
    → HasSoFar formula found before offset rest → Yields offset rest t next left
    → HasTokens next left ts → HasMore formula found before (t ∷ ts)
more_after {t = t} {next = next} {left = left} ts was yields has =
    was.more (t ∷ ts) (next, left, yields, has)

-- a token that may be in a formula, and the parameter that it is, if it is one
pub goes_on : {formula : List ℕ} {found more : List Parameter} {before after : Option Op}
    {offset : ℕ} {rest : List ℕ} {t : Placed} {next : ℕ} {left : List ℕ}
    → HasSoFar formula found before offset rest → Yields offset rest t next left
    → next + length left ≡ offset + length rest
    → fault_of (length formula) t.offset t.token ≡ None
    → more ≡ found ++ option_to_list (parameter_at before t) → after ≡ operator_of t.token
    → HasSoFar formula more after next left
goes_on {formula = formula} {found = found} {more = more} {before = before} {after = after}
    {t = t} {next = next} {left = left} was yields room fine is op_is =
    subst (λ (o : Option Op). HasSoFar formula more o next left) (sym op_is) (record {
      room = room ∙ was.room;
      more = λ ts has.
          let m = more_after ts was yields has in
          let behind = parameters_after (operator_of t.token) ts in record {
            tokens = m.tokens;
            has = m.has;
            are = m.are ∙ (sym (append_assoc found (option_to_list (parameter_at before t)) behind)
                ∙ ap (λ ps. ps ++ behind) (sym is));
            fault = m.fault ∙ ap (λ f. or_later f (first_fault (length formula) ts)) fine;
          };
    })

-- a token that is in no formula
pub stops_at : {formula : List ℕ} {found : List Parameter} {before : Option Op} {offset : ℕ}
    {rest : List ℕ} {t : Placed} {next : ℕ} {left : List ℕ} {fault : ℕ}
    → HasSoFar formula found before offset rest → Yields offset rest t next left
    → HasOneTokenList next left → fault_of (length formula) t.offset t.token ≡ Some fault
    → HasFault formula (BadQuery fault)
stops_at {formula = formula} {fault = fault} was yields behind is =
    let m = more_after behind.tokens was yields behind.has in record {
      tokens = m.tokens;
      has = m.has;
      offset = fault;
      fault = m.fault
          ∙ ap (λ f. or_later f (first_fault (length formula) behind.tokens)) is;
      is = refl;
    }

-- no token is left
pub ends_here : {formula : List ℕ} {found : List Parameter} {before : Option Op} {offset : ℕ}
    {rest : List ℕ} → HasSoFar formula found before offset rest → IsBlank rest
    → HasParameters formula found
ends_here {found = found} was blank =
    let m = was.more [] blank in record {
      tokens = m.tokens;
      has = m.has;
      fine = m.fault;
      are = sym (m.are ∙ append-nil found);
    }
