-- What a subscription holds, and its next parcel.
use Rattle.std.proofs.Common.{◌≡◌, List, [], ◌∷◌, refl, Some, None, Option, Bool, true, false, ap, sym}
use Rattle.lq_update.specs.declared.message.Message.{Message}
use Rattle.lq_update.specs.declared.mark.Mark.{Mark}
use Rattle.lq_update.specs.declared.parcel.Parcel.{Parcel}
use Rattle.lq_update.specs.declared.parcel.Parcel.TheVariants.{Update, Fin}
use Rattle.lq_desk_sub.specs.Held.{next_of, without_parcel, with_back}
use Rattle.lq_desk_sub.specs.Laws.{PuttingBackUndoes}

-- a parcel that goes out and is put back leaves all as it was
pub undoes : PuttingBackUndoes
undoes h p is = by h.messages h.mark h.mark_out p is
  where
    by : (ms : List Message) (o : Option Mark) (out : Bool) (q : Parcel) → next_of ms o out ≡ Some q
        → with_back (without_parcel (record h { messages = ms; mark = o; mark_out = out })
        (Some q)) q
        ≡ record h { messages = ms; mark = o; mark_out = out }
    by [] None out q is = absurd (let no : ⊥ = cc in no)
    by [] (Some mark) true q is = absurd (let no : ⊥ = cc in no)
    by [] (Some mark) false (Update m) is = absurd (let no : ⊥ = cc in no)
    by [] (Some mark) false (Fin n) is = refl
    by (m ∷ ms) o out (Fin n) is = absurd (let no : ⊥ = cc in no)
    by (m ∷ ms) o out (Update n) is =
        let same : m ≡ n = cc in
        ap (λ x. record h { messages = x ∷ ms; mark = o; mark_out = out }) (sym same)
