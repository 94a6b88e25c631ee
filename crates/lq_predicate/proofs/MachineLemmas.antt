-- A token leads the code's machine as it leads the specified one.
use Rattle.std.proofs.Common.{◌≡◌, ◌≤◌, ◌+◌, ◌-◌, ℕ, suc, List, [], ◌∷◌, ◌++◌, length, map, reverse, Some, refl, sym, ap, ◌∙◌, subst, arith}
use Rattle.std.specs.Prelude.{option_map}
use Rattle.std.proofs.lemmas.List.{reverse-append, length-reverse, length-map}
use Rattle.arrayvec.specs.ArrayVec.{ArrayVec, array_vec_len}
use Rattle.lq_value.specs.declared.literal.Literal.{Literal}
use Rattle.lq_value.specs.declared.op.Op.{Op}
use Rattle.lq_predicate_formula.specs.Capped.{capped}
use Rattle.lq_predicate_formula.specs.Literals.{name_of, literal_of}
use Rattle.lq_predicate_formula.specs.Machine.{Frame, Expected, operand, after_attr, after_op, after_operand, MachineState, step_at, empty_frame, completed, deeper, close, said_by, open_weight}
use Rattle.lq_predicate_formula.specs.Query.{Query, Compare, both_of}
use Rattle.lq_predicate_formula.specs.Tokens.{Token, opens, closes, bang, ands, ors, op, word}
use Rattle.lq_predicate.specs.Building.{HasBuilt, IsBuilt, built_expected, built_frame}
use Rattle.lq_predicate.specs.declared.machine.Expected.{Expected as Expects}
use Rattle.lq_predicate.specs.declared.machine.Expected.TheVariants as expects
use Rattle.lq_predicate.specs.declared.machine.Frame.{Frame as Built}
use Rattle.lq_predicate.specs.declared.machine.Frames.{Frames}

-- where there is room, one level more leaves one less
deeper_some : (r m : ℕ) (k : ℕ → MachineState) → r ≡ suc m → deeper r k ≡ Some (k m)
deeper_some r m k e = ap (λ n. deeper n k) e

-- each open frame weighs one at least
open_long : (fs : List Frame) → length fs ≤ open_weight fs
open_long [] = omega arith
open_long (f ∷ fs) = let h = open_long fs in omega (arith, h)

module _ {N P : Type 0} (named : List ℕ → N) (parts : List Query → P) where
  -- the token leads to a state that is built
  abbrev Leads : Expected → MachineState → Token → Frames P → Expects N → Type 0
  Leads p s t frames next =
      (x : MachineState) × (step_at p s t ≡ Some x) × IsBuilt named parts frames x next

  -- ---- where an operand is expected

  -- a name
  pub name_read : (frames : Frames P) (s : MachineState) (raw : List ℕ) (n : N)
      → HasBuilt parts frames s → (a : List ℕ) × (name_of raw ≡ Some a) × (n ≡ named a)
      → Leads operand s (word raw) frames (expects.AfterAttr n)
  name_read frames s raw n h (a, e, is) = (
    _,
    ap (option_map (λ name. record {
      below = s.below;
      top = s.top;
      expected = after_attr name;
      room = s.room;
    })) e,
    (
      record { below = h.below; top = h.top; room = h.room; light = h.light },
      ap (λ k. expects.AfterAttr k) is,
    ),
  )

  -- where frames have room, the state has
  left_room : (frames : Frames P) (s : MachineState) → HasBuilt parts frames s
      → (frames.room ≡ 0 → ⊥) → s.room ≡ suc (frames.room - 1)
  left_room frames s h some = let e = h.room in omega (arith, e, some)

  -- `(`
  pub opened : (frames : Frames P) (s : MachineState) (below : ArrayVec (Built P)) (top : Built P)
      → HasBuilt parts frames s → (frames.room ≡ 0 → ⊥)
      → below.items ≡ frames.below.items ++ frames.top ∷ [] → top ≡ built_frame parts empty_frame
      → Leads operand s opens (record { below = below; top = top; room = frames.room - 1 })
      expects.Operand
  opened frames s below top h some push new =
      let left = left_room frames s h some in (
        _,
        deeper_some s.room (frames.room - 1) _ left,
        (
          record {
            below = ap reverse push ∙ reverse-append frames.below.items (frames.top ∷ [])
                ∙ ap (λ t. t ∷ reverse frames.below.items) h.top
                ∙ ap (λ ts. built_frame parts s.top ∷ ts) h.below;
            top = new;
            room = refl;
            light = let light = h.light in omega (arith, left, light);
          },
          refl,
        ),
      )

  -- there is a place for each frame that has room
  pub never_full : (frames : Frames P) (s : MachineState) → HasBuilt parts frames s
      → (frames.room ≡ 0 → ⊥) → array_vec_len frames.below ≡ 64 → ⊥
  never_full frames s h some full =
      let long = open_long s.below in
      let same = ap length h.below in
      let back = length-reverse frames.below.items in
      let seen : length (map (built_frame parts) s.below) ≡ length s.below = length-map _ _ in
      let room = h.room in
      let light = h.light in
      omega (arith, light, some, full, long, same, back, seen, room)

  -- `!`
  pub banged : (frames : Frames P) (s : MachineState) (n : ℕ) → HasBuilt parts frames s
      → (frames.room ≡ 0 → ⊥) → n ≡ capped (frames.top.bangs + 1)
      → Leads operand s bang (record {
        below = frames.below;
        top = record {
          or_parts = frames.top.or_parts;
          and_parts = frames.top.and_parts;
          bangs = n;
        };
        room = frames.room - 1;
      }) expects.Operand
  banged frames s n h some new =
      let left = left_room frames s h some in
      let light = h.light in
      let was : frames.top.bangs ≡ s.top.bangs = ap (λ t. t.bangs) h.top in
      let more : n ≡ suc s.top.bangs = omega (arith, was, new, light) in (
        _,
        deeper_some s.room (frames.room - 1) _ left,
        (
          record {
            below = h.below;
            top = let top = h.top in cc;
            room = refl;
            light = omega (arith, left, light);
          },
          refl,
        ),
      )

  -- ---- in a comparison

  -- an operator
  pub op_read : (p : Expected) (frames : Frames P) (s : MachineState) (n : N) (o : Op)
      → HasBuilt parts frames s → expects.AfterAttr n ≡ built_expected named p
      → Leads p s (op o) frames (expects.AfterOp n o)
  op_read (after_attr a) frames s n o h e = (
    _,
    refl,
    (
      record { below = h.below; top = h.top; room = h.room; light = h.light },
      let same : n ≡ named a = cc in ap (λ k. expects.AfterOp k o) same,
    ),
  )
  op_read operand frames s n o h e = absurd (let no : ⊥ = cc in no)
  op_read (after_op a q) frames s n o h e = absurd (let no : ⊥ = cc in no)
  op_read after_operand frames s n o h e = absurd (let no : ⊥ = cc in no)

  -- what completes an operand
  abbrev Completes : {Q : Type 0} → (Query → Q) → Q → Frames P → Frames P → Expects N → Type 0
  Completes part made frames frames' next = (s : MachineState) (q : Query)
      → HasBuilt parts frames s → made ≡ part q
      → IsBuilt named parts frames' (completed q s.below s.top s.room) next

  -- a literal
  pub literal_read : {Q : Type 0} (part : Query → Q) (made : Q) (p : Expected)
      (frames frames' : Frames P) (s : MachineState) (n : N) (o : Op) (raw : List ℕ)
      (next : Expects N)
      → HasBuilt parts frames s → expects.AfterOp n o ≡ built_expected named p
      → ((a : List ℕ) → n ≡ named a → (l : Literal) × (literal_of o raw ≡ Some l)
      × (made ≡ part (Compare a o l)))
      → Completes part made frames frames' next → Leads p s (word raw) frames' next
  literal_read part made (after_op a q) frames frames' s n o raw next h e has done =
      let same : n ≡ named a = cc in
      let one : o ≡ q = cc in
      let l = has a same in (
        _,
        ap (option_map (λ literal. completed (Compare a q literal) s.below s.top s.room))
            (subst (λ k. literal_of k raw ≡ Some l.0) one l.1),
        done s (Compare a q l.0) h (subst (λ k. made ≡ part (Compare a k l.0)) one l.2),
      )
  literal_read part made operand frames frames' s n o raw next h e has done =
      absurd (let no : ⊥ = cc in no)
  literal_read part made (after_attr a) frames frames' s n o raw next h e has done =
      absurd (let no : ⊥ = cc in no)
  literal_read part made after_operand frames frames' s n o raw next h e has done =
      absurd (let no : ⊥ = cc in no)

  -- ---- after an operand

  -- `&&`
  pub ands_read : (frames : Frames P) (s : MachineState) → HasBuilt parts frames s
      → Leads after_operand s ands (record {
        below = frames.below;
        top = record {
          or_parts = frames.top.or_parts;
          and_parts = frames.top.and_parts;
          bangs = 0;
        };
        room = frames.room;
      }) expects.Operand
  ands_read frames s h = (
    _,
    refl,
    (
      record {
        below = h.below;
        top = let top = h.top in cc;
        room = h.room;
        light = let light = h.light in omega (arith, light);
      },
      refl,
    ),
  )

  -- `||`
  pub ors_read : (frames : Frames P) (s : MachineState) (or_parts and_parts : P)
      → HasBuilt parts frames s
      → or_parts ≡ parts (s.top.or_parts ++ both_of s.top.and_parts ∷ [])
      → and_parts ≡ parts [] → Leads after_operand s ors (record {
        below = frames.below;
        top = record { or_parts = or_parts; and_parts = and_parts; bangs = 0 };
        room = frames.room;
      }) expects.Operand
  ors_read frames s or_parts and_parts h more none = (
    _,
    refl,
    (
      record {
        below = h.below;
        top = cc;
        room = h.room;
        light = let light = h.light in omega (arith, light);
      },
      refl,
    ),
  )

  -- `)` where a frame is below
  pub closed : {Q : Type 0} (part : Query → Q) (made : Q) (frames frames' : Frames P)
      (s : MachineState) (b : ArrayVec (Built P)) (outer : Built P) (room : ℕ) (next : Expects N)
      → HasBuilt parts frames s → frames.below.items ≡ b.items ++ outer ∷ []
      → made ≡ part (said_by s.top) → room ≡ capped (frames.room + 1)
      → Completes part made (record { below = b; top = outer; room = room }) frames' next
      → Leads after_operand s closes frames' next
  closed part made frames frames' s b outer room next h pop e new done =
      by s.below
      (sym (reverse-append b.items (outer ∷ [])) ∙ sym (ap reverse pop) ∙ h.below)
      (let was = h.room in let light = h.light in omega (arith, was, new, light))
      (let light = h.light in omega (arith, light))
    where
      by : (fs : List Frame) → outer ∷ reverse b.items ≡ map (built_frame parts) fs
          → room ≡ suc s.room → s.room + open_weight fs ≤ 64
          → (x : MachineState) × (close fs s.top s.room ≡ Some x)
          × IsBuilt named parts frames' x next
      by [] is more fits = absurd (let no : ⊥ = cc in no)
      by (f ∷ fs) is more fits = (
        _,
        refl,
        done (record { below = fs; top = f; expected = operand; room = suc s.room })
            (said_by s.top)
            (record { below = cc; top = cc; room = more; light = omega (arith, fits) }) e,
      )
