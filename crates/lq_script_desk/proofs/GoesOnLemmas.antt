-- A slot's fold after events goes on over more events.
use Rattle.std.proofs.Common.{◌≡◌, ℕ, List, [], ◌∷◌, ◌++◌, length, refl, ap, ◌∙◌, sym, arith, append_assoc, length-append, Bool}
use Rattle.std.proofs.lemmas.List.Elements.{filter_map-append}
use Rattle.lq_value.specs.declared.entry.Entry.{Entry}
use Rattle.lq_update.specs.declared.message.Message.{Message}
use Rattle.lq_update.specs.Fold.{Folding, folding_after_all, opened_at}
use Rattle.lq_update.specs.Laws.{FoldingsFollow}
use Rattle.lq_desk_world.specs.declared.event.Event.{Event}
use Rattle.lq_desk_world.specs.Events.{Answer, Opened}
use Rattle.lq_desk_world.specs.Headline.{parcel_in, parcels_in, reads_of, as_update, updates_among, updates_in}
use Rattle.lq_script_desk.specs.Folds.{after_message}
use Rattle.lq_script_desk.specs.History.{IsFoldOf, StaysTaken}
use Rattle.lq_script_desk.proofs.FoldLemmas.{NoneRefused, begun, kept_after}

-- a slot that stays taken, and then again
taken-append : (slot : ℕ) (events more : List Event) (answers mores : List Answer)
    → length events ≡ length answers → StaysTaken slot events answers → StaysTaken slot more mores
    → StaysTaken slot (events ++ more) (answers ++ mores)
taken-append slot [] more [] mores same taken still = still
taken-append slot [] more (a ∷ answers) mores same taken still = absurd (omega (arith, same))
taken-append slot (e ∷ events) more [] mores same taken still = absurd (omega (arith, same))
taken-append slot (e ∷ events) more (a ∷ answers) mores same taken still =
    (taken.0, taken-append slot events more answers mores (omega (arith, same)) taken.1 still)

-- its reads are those of both
reads-append : (slot : ℕ) (events more : List Event) (answers mores : List Answer)
    → length events ≡ length answers → StaysTaken slot events answers
    → reads_of slot (events ++ more) (answers ++ mores)
    ≡ reads_of slot events answers ++ reads_of slot more mores
reads-append slot [] more [] mores same taken = refl
reads-append slot [] more (a ∷ answers) mores same taken = absurd (omega (arith, same))
reads-append slot (e ∷ events) more [] mores same taken = absurd (omega (arith, same))
reads-append slot (e ∷ events) more (a ∷ answers) mores same taken =
    rw (
      taken.0,
      reads-append slot events more answers mores (omega (arith, same)) taken.1,
      append_assoc,
    )

-- a fold after messages and others
kept-append : (f : Folding) (xs ys : List Message)
    → kept_after f (xs ++ ys) ≡ kept_after (kept_after f xs) ys
kept-append f [] ys = refl
kept-append f (m ∷ xs) ys = kept-append (after_message m f) xs ys

-- folds with the same fields are the same
same-fold : (f g : Folding) → f.seq ≡ g.seq → f.change ≡ g.change → f.settled ≡ g.settled
    → f.entries ≡ g.entries → f ≡ g
same-fold f g a b c d = of a b c d
  where
    made : ℕ → ℕ → Bool → List Entry → Folding
    made seq change settled entries =
        record { seq = seq; change = change; settled = settled; entries = entries }

    of : {s t c d : ℕ} {x y : Bool} {p q : List Entry} → s ≡ t → c ≡ d → x ≡ y → p ≡ q
        → made s c x p ≡ made t d y q
    of a b c d = rw (a, b, c, d) refl

-- a slot's result is what its fold keeps after the updates that were read
fold-kept : FoldingsFollow → (slot : ℕ) (events : List Event) (answers : List Answer)
    → NoneRefused slot events answers → (f : Folding) (i : IsFoldOf slot events answers f)
    → f ≡ kept_after (opened_at i.at i.first) (updates_in (reads_of slot i.after i.afters))
fold-kept follow slot events answers none f i =
    let ms = updates_in (reads_of slot i.after i.afters) in
    let all = none i.before i.after i.befores i.afters i.opener i.query i.options i.at i.first
    i.asks i.opening i.opened i.place in
    let says = follow (opened_at i.at i.first) ms in
    same-fold f (folding_after_all (opened_at i.at i.first) ms) (i.seq ∙ sym all.1)
    (i.change ∙ sym says.1) (i.settled ∙ sym says.2) (i.entries ∙ sym says.0)
    ∙ sym all.0

-- a fold that goes on from a slot's result is the slot's result after both
pub goes-on : FoldingsFollow → (slot : ℕ) (events more : List Event) (answers mores : List Answer)
    → length events ≡ length answers → NoneRefused slot events answers
    → NoneRefused slot (events ++ more) (answers ++ mores) → (old f : Folding)
    → IsFoldOf slot events answers old → StaysTaken slot more mores
    → f ≡ kept_after old (updates_in (reads_of slot more mores))
    → IsFoldOf slot (events ++ more) (answers ++ mores) f
goes-on follow slot events more answers mores count none nones old f i taken is =
    let start = opened_at i.at i.first in
    let same : length i.after ≡ length i.afters = omega (
      arith,
      count,
      i.place,
      ap length i.opening,
      ap length i.opened,
      length-append i.before (i.opener ∷ i.after),
      length-append i.befores (Opened slot i.at i.first ∷ i.afters),
    ) in
    let updates = ap updates_in (reads-append slot i.after more i.afters mores same i.taken)
    ∙ ap updates_among
    (filter_map-append parcel_in (reads_of slot i.after i.afters) (reads_of slot more mores))
    ∙ filter_map-append as_update (parcels_in (reads_of slot i.after i.afters))
    (parcels_in (reads_of slot more mores)) in
    begun follow slot (events ++ more) (answers ++ mores) nones i.before (i.after ++ more) i.befores
    (i.afters ++ mores) i.opener (Opened slot i.at i.first) f i.place
    (ap (λ l. l ++ more) i.opening ∙ append_assoc i.before _ more)
    (ap (λ l. l ++ mores) i.opened ∙ append_assoc i.befores _ mores)
    (record {
      query = i.query;
      options = i.options;
      at = i.at;
      first = i.first;
      asks = i.asks;
      answer_is = refl;
      taken = taken-append slot i.after more i.afters mores same i.taken taken;
      fold = is
          ∙ (ap (λ g. kept_after g (updates_in (reads_of slot more mores)))
          (fold-kept follow slot events answers none old i)
          ∙ (sym (kept-append start (updates_in (reads_of slot i.after i.afters))
          (updates_in (reads_of slot more mores)))
          ∙ ap (kept_after start) (sym updates)));
    })
