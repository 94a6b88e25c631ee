-- What the sets of a watch say of a slot's subscription: which changes may have messages for it.
use Rattle.std.proofs.Common.{◌≡◌, ◌≢◌, ℕ, ◌≤◌, ◌<◌, List, [], ◌∷◌, refl, ap, length, ◌∙◌, sym, arith, Some, None, Option, Bool, true, false}
use Rattle.std.specs.Prelude.{◌-◌, ◌%◌, ◌||◌, not, slice_get}
use Rattle.std.specs.List.{list_any}
use Rattle.std.specs.Option.{option_map_or}
use Rattle.std.proofs.lemmas.Bool.{both_ways}
use Rattle.lq_predicate.specs.Query.{Query}
use Rattle.lq_predicate.specs.Names.{names_of}
use Rattle.lq_predicate.specs.Needs.{needs_attribute}
use Rattle.lq_volume.specs.declared.change.Change.{Change}
use Rattle.lq_volume.specs.declared.change.Change.TheVariants.{Create, Remove, Move, Write, SetAttr, RemoveAttr}
use Rattle.lq_update.specs.declared.open_options.Flags.{Flags}
use Rattle.lq_update.specs.Laws.{BareCreatesTellNothing}
use Rattle.lq_desk_sub.specs.declared.slot_set.SlotSet.{SlotSet}
use Rattle.lq_desk_sub.specs.declared.watch.Watch.{Watch}
use Rattle.lq_desk_sub.specs.Laws.{PassedTellNothing}
use Rattle.lq_desk_sub.specs.Passing.{TellsNothing, are_written, ending_of, is_name_among}
use Rattle.lq_desk_sub.specs.SlotSet.{has}
use Rattle.lq_desk_sub.specs.Watch.{slots_at, slots_for}

-- the set has an index, if `is_in`, and no other index is put in or taken out
pub record IsPut (old : SlotSet) (index : ℕ) (is_in : Bool) (new : SlotSet) : Type 0 where
  pub here : has new.word index ≡ is_in
  pub others : (i : ℕ) → i ≢ index → has new.word i ≡ has old.word i

-- ---- the sets of the endings

-- a set below n without the index has an ending of none of the names, and none has to have the
-- index always; each has the others as before
pub record AreSet (names : List (List ℕ)) (always : Bool) (index n : ℕ) (old new : List SlotSet)
    : Type 0 where
  pub here : (name : List ℕ) → ending_of name < n
      → has (slots_at new (ending_of name)).word index ≡ false
      → (always ≡ false) × (is_name_among names name ≡ false)
  pub others : (e i : ℕ) → i ≢ index
      → has (slots_at new e).word i ≡ has (slots_at old e).word i

-- ---- what a slot that is left out says

-- an ending is one of 64
pub ending-lt : (name : List ℕ) → ending_of name < 64
ending-lt name = by (slice_get name (length name - 1))
  where
    by : (o : Option ℕ) → option_map_or (λ byte. byte % 64) o 0 < 64
    by None = omega arith
    by (Some byte) = omega arith

-- the sets of a watch before and after a slot's subscription is watched
module _ (law : PassedTellNothing) (bare : BareCreatesTellNothing) (q : Query) (flags : Flags)
    (old new : Watch)
    (index n : ℕ) (wide : 64 ≤ n)
    (all : IsPut old.all index true new.all)
    (creates : IsPut old.creates index (not (needs_attribute q)) new.creates)
    (writes : IsPut old.writes index (flags.values || are_written (names_of q)) new.writes)
    (attrs : AreSet (names_of q) flags.values index n old.attrs new.attrs)
  where
    -- what isn't among the names is passed over
    over : (b : Bool) → b ≡ false → not (b || false) ≡ true
    over false is = refl
    over true is = absurd (let no : ⊥ = cc in no)

    -- a change of an attribute of another name
    passed : (name : List ℕ)
        → has (slots_at new.attrs (ending_of name)).word index ≡ false
        → not (list_any (is_name_among (names_of q)) (name ∷ [])) ≡ true
    passed name out = over (is_name_among (names_of q) name)
        (attrs.here name (omega (arith, wide, ending-lt name)) out).1

    -- and of one with messages of values
    unasked : (name : List ℕ) → has (slots_at new.attrs (ending_of name)).word index ≡ false
        → flags.values ≡ false
    unasked name out = (attrs.here name (omega (arith, wide, ending-lt name)) out).0

    -- where one of two isn't true, neither is
    neither : (a b : Bool) → (a || b) ≡ false → (a ≡ false) × (b ≡ false)
    neither true b is = absurd (let no : ⊥ = cc in no)
    neither false b is = (refl, is)

    -- what isn't false is true
    needed : (b : Bool) → not b ≡ false → b ≡ true
    needed true is = refl
    needed false is = absurd (let no : ⊥ = cc in no)

    -- a change whose set leaves the slot out has no message
    pub watch-here : (c : Change) → has (slots_for new c).word index ≡ false
        → TellsNothing q flags c
    watch-here (Create dir name kind size time) out = λ s seq volume lawful.
        bare q flags s dir name kind size time seq volume lawful
        (needed (needs_attribute q) (sym creates.here ∙ out))
    watch-here (Remove node) out = absurd (both_ways _ out all.here)
    watch-here (Move node dir name clobber) out = absurd (both_ways _ out all.here)
    watch-here (Write node size time) out =
        let none = neither flags.values (are_written (names_of q)) (sym writes.here ∙ out) in
        law q flags (Write node size time) none.0 (ap not none.1)
    watch-here (SetAttr node attr value) out =
        law q flags (SetAttr node attr value) (unasked attr out) (passed attr out)
    watch-here (RemoveAttr node attr) out =
        law q flags (RemoveAttr node attr) (unasked attr out) (passed attr out)

    -- the other slots stay as they were
    pub watch-others : (c : Change) (i : ℕ) → i ≢ index
        → has (slots_for new c).word i ≡ has (slots_for old c).word i
    watch-others (Create dir name kind size time) i = creates.others i
    watch-others (Remove node) i = all.others i
    watch-others (Move node dir name clobber) i = all.others i
    watch-others (Write node size time) i = writes.others i
    watch-others (SetAttr node attr value) i = attrs.others (ending_of attr) i
    watch-others (RemoveAttr node attr) i = attrs.others (ending_of attr) i
