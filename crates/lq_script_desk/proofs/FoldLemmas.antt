-- A slot's fold after a script's events: Fold over its opening's result and what was read since.
use Rattle.std.proofs.Common.{◌≡◌, ◌≢◌, ◌⊎◌, ◌==◌, ℕ, zero, suc, ◌+◌, ◌-◌, ◌≤◌, List, [], ◌∷◌, ◌++◌, length, replicate, refl, ap, ◌∙◌, sym, subst, arith, append_assoc, length-append, inl, inr, true, false, Option, Some, None}
use Rattle.std.specs.Prelude.{slice_get, slice_set}
use Rattle.std.specs.Option.{option_flatten}
use Rattle.std.proofs.lemmas.Bool.Decides.{nat_tests}
use Rattle.std.proofs.lemmas.List.{take_all}
use Rattle.lq_value.specs.declared.entry.Entry.{Entry}
use Rattle.lq_value.specs.Refusal.{first_refusal}
use Rattle.lq_predicate.specs.Query.{Query}
use Rattle.lq_volume.specs.State.{State, IsVolume, empty_state}
use Rattle.lq_volume.specs.Book.{number_of, state_at}
use Rattle.lq_volume.specs.Result.{result_of}
use Rattle.lq_update.specs.declared.open_options.OpenOptions.{OpenOptions}
use Rattle.lq_update.specs.declared.message.Message.{Message}
use Rattle.lq_update.specs.Fold.{Folding, fold_refusals, folding_after, folding_after_all, opened_at}
use Rattle.lq_update.specs.Laws.{FoldingsFollow, RebuildsTakeAll}
use Rattle.lq_desk_world.specs.World.{World, Subscribed, taken_before_free}
use Rattle.lq_desk_world.specs.declared.event.Event.{Event}
use Rattle.lq_desk_world.specs.Events.{Answer, Opened, answer_to, asked_to_open, next}
use Rattle.lq_desk_world.specs.Turns.{after_events}
use Rattle.lq_desk_world.specs.Headline.{ReadersAreTold, OpeningsAreTold, accepted, run_book, frees, reads_of, updates_in}
use Rattle.lq_desk_world.specs.Laws.{RunsTellReaders}
use Rattle.lq_script_desk.specs.Answered.{slot_named}
use Rattle.lq_script_desk.specs.Folds.{Folds, after_message, after_message_if, fold_at, folds_after, no_folds, with_fold}
use Rattle.lq_script_desk.specs.Script.{script_session, script_world}
use Rattle.lq_script_desk.specs.Session.{Session}
use Rattle.lq_script_desk.specs.History.{IsFoldOf, StaysTaken, answers_of, answers_to, events_of, session_after, world_after}
use Rattle.lq_script_desk.proofs.HistoryLemmas.{lines-played, run-answers, session_step}
use Rattle.lq_script_desk.proofs.EventLemmas.{Does, IsQuiet, does, finishes, leaves, opens, quiet-folds, reads}

-- ---- one event

-- an element after one was set: it is that one, or it was there
set-read : (xs : Folds) (i j : ℕ) (o : Option Folding) (f : Folding)
    → option_flatten (slice_get (slice_set xs j o) i) ≡ Some f
    → ((j ≡ i) × (o ≡ Some f)) ⊎ ((j ≢ i) × (option_flatten (slice_get xs i) ≡ Some f))
set-read [] i j o f is = absurd (let no : ⊥ = cc in no)
set-read (x ∷ xs) zero zero o f is = inl (refl, is)
set-read (x ∷ xs) zero (suc j) o f is = inr (omega arith, is)
set-read (x ∷ xs) (suc i) zero o f is = inr (omega arith, is)
set-read (x ∷ xs) (suc i) (suc j) o f is = grind (arith, set-read xs i j o f is)

-- a slot's fold after one was set
pub fold-set : (folds : Folds) (k slot : ℕ) (o : Option Folding) (f : Folding)
    → fold_at (with_fold folds k o) slot ≡ Some f
    → (((k == slot) ≡ true) × (k ≡ slot) × (o ≡ Some f))
    ⊎ (((k == slot) ≡ false) × (fold_at folds slot ≡ Some f))
fold-set folds k slot o f is = grind (arith, nat_tests, set-read)

-- a fold after messages, of which it ignores those that it refuses
abbrev pub kept_after : Folding → List Message → Folding
kept_after f [] = f
kept_after f (m ∷ ms) = kept_after (after_message m f) ms

-- a slot's fold goes on from folds: it was there, and the slot stays taken
abbrev pub GoesOn : ℕ → Folds → List Event → List Answer → Folding → Type 0
GoesOn slot folds events answers f = (old : Folding) × (fold_at folds slot ≡ Some old)
    × StaysTaken slot events answers
    × (f ≡ kept_after old (updates_in (reads_of slot events answers)))

-- a slot's fold begins: the first event opens the slot, which then stays taken
pub record Begins (slot : ℕ) (e : Event) (a : Answer) (events : List Event) (answers : List Answer)
    (f : Folding) : Type 0 where
  pub query : Query
  pub options : OpenOptions
  pub at : ℕ
  pub first : List Entry
  pub asks : asked_to_open e ≡ Some (query, options)
  pub answer_is : a ≡ Opened slot at first
  pub taken : StaysTaken slot events answers
  pub fold : f ≡ kept_after (opened_at at first) (updates_in (reads_of slot events answers))

-- an answer that leaves the folds frees no slot and gives no update
quiet-reads : (slot : ℕ) (e : Event) (a : Answer) (events : List Event) (answers : List Answer)
    → IsQuiet a → (frees slot e a ≡ false)
    × (updates_in (reads_of slot (e ∷ events) (a ∷ answers))
    ≡ updates_in (reads_of slot events answers))
quiet-reads slot e a events answers quiet = grind arith

-- nor does an answer that a slot was opened
pub opened-reads : (slot : ℕ) (e : Event) (k at : ℕ) (first : List Entry) (events : List Event)
    (answers : List Answer) → (frees slot e (Opened k at first) ≡ false)
    × (updates_in (reads_of slot (e ∷ events) (Opened k at first ∷ answers))
    ≡ updates_in (reads_of slot events answers))
opened-reads slot e k at first events answers = grind arith

-- a fold after an event was there before it, or the event opened the slot
pub one-more : {w : World} {e : Event} {a : Answer} {slots : List (Option Subscribed)}
    → Does w e a slots → (slot : ℕ) (folds : Folds) (events : List Event) (answers : List Answer)
    (f : Folding) → GoesOn slot (folds_after (slot_named e) a folds) events answers f
    → GoesOn slot folds (e ∷ events) (a ∷ answers) f ⊎ Begins slot e a events answers f
one-more (leaves {e} {a} quiet same) slot folds events answers f g =
    let no = quiet-reads slot e a events answers quiet in
    let stays = quiet-folds (slot_named e) a folds quiet in
    inl (g.0, rw stays at g.1, (no.0, g.2), rw no.1 g.3)
one-more {w} (opens {e} {q} {o} {at} {first} s asks) slot folds events answers f g =
    let none = opened-reads slot e (taken_before_free w.slots + 1) at first events answers in
    elim (fold-set folds _ slot _ g.0 g.1) [
      | inl own ↦ let same : opened_at at first ≡ g.0 = cc in inr (record {
        query = q;
        options = o;
        at = at;
        first = first;
        asks = asks;
        answer_is = ap (λ k. Opened k at first) own.1;
        taken = g.2;
        fold = rw same g.3;
      })
      | inr other ↦ inl (g.0, other.1, (none.0, g.2), rw none.1 g.3)
    ]
one-more (reads {k} {m} same) slot folds events answers f g =
    elim (fold-set folds k slot _ g.0 g.1) [
      | inl own ↦
          let was : (old : Folding) × (fold_at folds k ≡ Some old) × (g.0 ≡ after_message m old) =
          grind arith in
          let there : fold_at folds slot ≡ Some was.0 =
          subst (λ (j : ℕ). fold_at folds j ≡ Some was.0) own.1 was.1 in
          inl (was.0, there, (refl, g.2), rw (own.0, ← was.2) g.3)
      | inr other ↦ inl (g.0, other.1, (refl, g.2), rw other.0 g.3)
    ]
one-more (finishes {k} some) slot folds events answers f g =
    elim (fold-set folds k slot _ g.0 g.1) [
      | inl own ↦ absurd (let no : ⊥ = cc in no)
      | inr other ↦ inl (g.0, other.1, (other.0, g.2), rw other.0 g.3)
    ]

-- ---- many events

-- no message is refused that is read after an opening of the slot
abbrev pub NoneRefused : ℕ → List Event → List Answer → Type 0
NoneRefused slot events answers =
    (before after : List Event) (befores afters : List Answer) (opener : Event) (q : Query)
    (options : OpenOptions) (at : ℕ) (first : List Entry)
    → asked_to_open opener ≡ Some (q, options) → events ≡ before ++ opener ∷ after
    → answers ≡ befores ++ Opened slot at first ∷ afters → length before ≡ length befores
    → (kept_after (opened_at at first) (updates_in (reads_of slot after afters))
    ≡ folding_after_all (opened_at at first) (updates_in (reads_of slot after afters)))
    × ((folding_after_all (opened_at at first) (updates_in (reads_of slot after afters))).seq
    ≡ length (updates_in (reads_of slot after afters)))

module _ (follow : FoldingsFollow) (slot : ℕ) (all : List Event) (alls : List Answer)
    (none : NoneRefused slot all alls) where
  -- the fold that begins with an event among all of them
  pub begun : (before events : List Event) (befores answers : List Answer) (e : Event) (a : Answer)
      (f : Folding) → length before ≡ length befores → all ≡ before ++ e ∷ events
      → alls ≡ befores ++ a ∷ answers → Begins slot e a events answers f
      → IsFoldOf slot all alls f
  begun before events befores answers e a f place is are b =
      let opened = are ∙ ap (λ x. befores ++ x ∷ answers) b.answer_is in
      let all = none before events befores answers e b.query b.options b.at b.first b.asks is
      opened place in
      let fold = b.fold ∙ all.0 in
      let says = follow (opened_at b.at b.first) (updates_in (reads_of slot events answers)) in
      record {
        before = before;
        after = events;
        befores = befores;
        afters = answers;
        opener = e;
        query = b.query;
        options = b.options;
        at = b.at;
        first = b.first;
        asks = b.asks;
        opening = is;
        opened = opened;
        place = place;
        taken = b.taken;
        seq = ap (λ (g : Folding). g.seq) fold ∙ all.1;
        entries = ap (λ (g : Folding). g.entries) fold ∙ says.0;
        change = ap (λ (g : Folding). g.change) fold ∙ says.1;
        settled = ap (λ (g : Folding). g.settled) fold ∙ says.2;
      }

  -- a fold after the last of all events goes on from those before them, or begins among them
  since : (s : Session) (before events : List Event) (befores : List Answer) (f : Folding)
      → length before ≡ length befores → all ≡ before ++ events
      → alls ≡ befores ++ answers_to s.core events
      → fold_at (after_events session_step s events).folds slot ≡ Some f
      → GoesOn slot s.folds events (answers_to s.core events) f ⊎ IsFoldOf slot all alls f
  since s before [] befores f place is are had = inl (f, had, tt, refl)
  since s before (e ∷ events) befores f place is are had =
      let a = answer_to s.core e in
      let rest = answers_to (next s.core e) events in
      let more : length (before ++ e ∷ []) ≡ length (befores ++ a ∷ []) =
      omega (arith, place, length-append before (e ∷ []), length-append befores (a ∷ [])) in
      elim (since (session_step s e).1 (before ++ e ∷ []) events (befores ++ a ∷ []) f more
      (is ∙ sym (append_assoc before (e ∷ []) events))
      (are ∙ sym (append_assoc befores (a ∷ []) rest)) had) [
        | inr done ↦ inr done
        | inl goes ↦ elim (one-more (does s.core e) slot s.folds events rest f goes) [
          | inl still ↦ inl still
          | inr b ↦ inr (begun before events befores rest e a f place is are b)
        ]
      ]

-- ---- no message is refused

-- a fold refuses none of these messages
abbrev TakesAll : Folding → List Message → Type 0
TakesAll f ms = (front rest : List Message) (m : Message) → front ++ m ∷ rest ≡ ms
    → first_refusal (fold_refusals (folding_after_all f front) m) ≡ None

-- so it goes over all of them
takes-all : (f : Folding) (ms : List Message) → TakesAll f ms
    → kept_after f ms ≡ folding_after_all f ms
takes-all f [] takes = refl
takes-all f (m ∷ ms) takes =
    ap (λ o. kept_after (after_message_if f m o) ms) (takes [] ms m refl)
    ∙ takes-all (folding_after f m) ms
    (λ front rest n is. takes (m ∷ front) rest n (ap (λ l. m ∷ l) is))

-- and has taken as many messages as these are
takes-count : (f : Folding) (ms : List Message) → TakesAll f ms
    → (folding_after_all f ms).seq ≡ f.seq + length ms
takes-count f [] takes = omega arith
takes-count f (m ∷ ms) takes =
    let one = taken-next f m (takes [] ms m refl) in
    let rest = takes-count (folding_after f m) ms
    (λ front rest n is. takes (m ∷ front) rest n (ap (λ l. m ∷ l) is)) in
    omega (arith, one, rest)
  where
    taken-next : (f : Folding) (m : Message) → first_refusal (fold_refusals f m) ≡ None
        → m.seq ≡ f.seq + 1
    taken-next f m is = grind (arith, nat_tests)

-- the first events accept no more changes than all
accepted-front : (before events : List Event) (befores answers : List Answer)
    → length before ≡ length befores → length (accepted before befores)
    ≤ length (accepted (before ++ events) (befores ++ answers))
accepted-front [] events [] answers same = omega arith
accepted-front [] events (a ∷ befores) answers same = absurd (omega (arith, same))
accepted-front (e ∷ before) events [] answers same = absurd (omega (arith, same))
accepted-front (e ∷ before) events (a ∷ befores) answers same =
    simp length-append
    (omega (arith, accepted-front before events befores answers (omega (arith, same))))

-- what the readers are told over a whole run
told-all : (s : State) (events : List Event) (answers : List Answer)
    → ReadersAreTold s events answers → OpeningsAreTold s events answers
told-all s events answers told =
    let n = length events in
    rw (take_all n events (omega arith), take_all n answers (omega (arith, told.count)))
    at (told.readers n)

-- what is read after an opening is the beginning of its updates, of which none is refused
pub none-refused : RebuildsTakeAll → (s : State) → IsVolume s → (slot : ℕ) (events : List Event)
    (answers : List Answer) → ReadersAreTold s events answers → NoneRefused slot events answers
none-refused rebuilds s volume slot events answers told before after befores afters opener q options
    at first asks opening opened place =
    let b = run_book s events answers in
    let reads = reads_of slot after afters in
    let says = told-all s events answers told before after befores afters opener q options slot at
    first asks opening opened place in
    let start : first ≡ result_of q (state_at b at) = says.1.folding volume [] reads refl tt in
    let fewer : length (accepted before befores) ≤ length (accepted events answers) =
    rw (opening, opened) (accepted-front before _ befores _ place) in
    let takes : TakesAll (opened_at at first) (updates_in reads) = λ front rest m is.
    rw start (rebuilds q options.flags b at (number_of b) front (rest ++ says.1.prefix.0) m volume
    told.book (omega (arith, says.0.number)) (omega (arith, says.0.number, fewer))
    (sym (append_assoc front (m ∷ rest) says.1.prefix.0)
    ∙ (ap (λ ms. ms ++ says.1.prefix.0) is ∙ says.1.prefix.1))) in (
      takes-all (opened_at at first) (updates_in reads) takes,
      omega (arith, takes-count (opened_at at first) (updates_in reads) takes),
    )

-- ---- scripts

-- the volume of a script's first world
pub first-volume : IsVolume (empty_state 1000000000000)
first-volume = grind arith

-- no slot has a fold before the first event
pub none-first : (slot : ℕ) (f : Folding) → fold_at no_folds slot ≡ Some f → ⊥
none-first slot f had = let free = none 64 (slot - 1) in grind arith
  where
    none : (n i : ℕ) → option_flatten {T = Folding} (slice_get (replicate n None) i) ≡ None
    none zero i = refl
    none (suc n) zero = refl
    none (suc n) (suc i) = none n i

-- a slot's fold after a script is Fold over its opening's result and what was read
pub script-folds : RunsTellReaders → RebuildsTakeAll → FoldingsFollow → (lines : List (List ℕ))
    (slot : ℕ) (f : Folding) → fold_at (session_after lines).folds slot ≡ Some f
    → IsFoldOf slot (events_of lines) (answers_of lines) f
script-folds law rebuilds follow lines slot f had =
    let events = events_of lines in
    let answers = answers_of lines in
    let told = law script_world (world_after lines) events answers
    (run-answers script_world events) in
    let none = none-refused rebuilds (empty_state 1000000000000) first-volume slot events answers
    told in
    elim (since follow slot events answers none script_session [] events [] f refl refl refl
    (rw (lines-played lines script_session) at had)) [
      | inl goes ↦ absurd (none-first slot goes.0 goes.1)
      | inr is ↦ is
    ]
