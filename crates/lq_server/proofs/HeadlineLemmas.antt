-- The headline of a reader, and of the answers of its reads.
use Rattle.std.proofs.Common.{◌≡◌, ◌⊎◌, ⊎_elim, ℕ, ◌+◌, ◌≤◌, true≢false, List, [], ◌∷◌, ◌++◌, length, Some, None, refl, sym, ap, ◌∙◌, subst, arith, add-zero, append_assoc, append-nil, length-append}
use Rattle.std.specs.Prelude.{IsSome, option_to_list}
use Rattle.std.specs.List.{AllByRecursion}
use Rattle.std.proofs.lemmas.Grind.{common_steps}
use mathlib.Core.List.{IsPrefix}
use Rattle.lq_value.specs.declared.entry.Entry.{Entry}
use Rattle.lq_predicate.specs.Query.{Query}
use Rattle.lq_volume.specs.declared.change.Change.{Change}
use Rattle.lq_volume.specs.State.{State}
use Rattle.lq_volume.specs.Change.{after}
use Rattle.lq_volume.specs.Book.{Extends, state_at, changes_between}
use Rattle.lq_update.specs.declared.open_options.Flags.{Flags}
use Rattle.lq_update.specs.declared.message.Opcode.{Opcode}
use Rattle.lq_update.specs.declared.message.Message.{Message}
use Rattle.lq_update.specs.declared.mark.Mark.{Mark}
use Rattle.lq_update.specs.Updates.{numbered, step_of, told_by, updates_from}
use Rattle.lq_update.specs.Fold.{folded}
use Rattle.lq_update.specs.Laws.{FoldsGiveResults, WholeFoldsGiveResults}
use Rattle.lq_desk_sub.specs.declared.read.Read.{Read}
use Rattle.lq_desk_sub.specs.declared.read.Read.TheVariants.{Fin, Ended}
use Rattle.lq_server_slots.specs.Updates.{updates}
use Rattle.lq_server_slots.specs.Rule.{query_of}
use Rattle.lq_server_slots.specs.Reading.{ReadingHold, Gives, IsTold, known_book, received, mark_read}
use Rattle.lq_server.specs.Headline.{updates_upto, result_after, AreNumbered, IsMarkAfter, EndsWhole, IsAnswered, AreAnswers, update_in, updates_read, ReadsHaveMark, AnswersAreTold}

-- ---- the numbers of an update list

-- the messages of one change are numbered on
numbered-are : (seq change : ℕ) (xs : List (Opcode × Entry))
    → AreNumbered seq (numbered seq change xs)
numbered-are seq change [] = tt
numbered-are seq change (x ∷ xs) = (refl, numbered-are (seq + 1) change xs)

-- and so are two lists of which the second goes on from the first
numbered-append : (n : ℕ) (xs ys : List Message) → AreNumbered n xs
    → AreNumbered (n + length xs) ys → AreNumbered n (xs ++ ys)
numbered-append n [] ys h k = rw add-zero at k
numbered-append n (x ∷ xs) ys h k =
    let more : n + length (x ∷ xs) ≡ n + 1 + length xs = omega arith in
    (h.0, numbered-append (n + 1) xs ys h.1 (rw more at k))

-- and a front of such a list
numbered-front : (n : ℕ) (xs ys : List Message) → AreNumbered n (xs ++ ys) → AreNumbered n xs
numbered-front n [] ys h = tt
numbered-front n (x ∷ xs) ys h = (h.0, numbered-front (n + 1) xs ys h.1)

-- the messages of changes one after another are numbered
updates_from-numbered : (q : Query) (flags : Flags) (s : State) (cs : List Change) (seq : ℕ)
    → AreNumbered seq (updates_from q flags s cs seq)
updates_from-numbered q flags s [] seq = tt
updates_from-numbered q flags s (c ∷ cs) seq =
    let here : List Message = step_of q flags s c seq in
    numbered-append seq here (updates_from q flags (after s c) cs (seq + length here))
    (numbered-are seq (s.number + 1) (told_by q flags s c))
    (updates_from-numbered q flags (after s c) cs (seq + length here))

-- ---- one reader

-- the book that is known has the opening's changes at least
pub opened_told : (r : ReadingHold) → IsTold r → r.port.floor.opened ≤ length (known_book r).changes
opened_told r told = grind (arith, common_steps)

-- what was received is a front of the update list over the known book
pub prefix_told : (r : ReadingHold) → IsTold r
    → IsPrefix (received r)
    (updates_upto r.port.floor (known_book r) (length (known_book r).changes))
unfolding updates
prefix_told r told =
    (option_to_list r.hand ++ told.legal_list.front.0, grind (arith, append_assoc))

-- its messages come each once, by their numbers
pub once_told : (r : ReadingHold) → IsTold r → AreNumbered 1 (received r)
once_told r told =
    let f = r.port.floor in
    let b = known_book r in
    let front = prefix_told r told in
    numbered-front 1 (received r) front.0
    (subst (AreNumbered 1) (sym front.1)
    (updates_from-numbered (query_of f) f.flags (state_at b f.opened)
    (changes_between b f.opened (length b.changes)) 1))

-- after the mark it is the whole list up to its change
pub ends_whole : (r : ReadingHold) → IsTold r → EndsWhole r
unfolding updates
ends_whole r told k is = grind (arith, append-nil)

-- a read that answers adds its message to what was received
gives_one : (old new : ReadingHold) (a : Read) → Gives old new a
    → received new ≡ received old ++ update_in a
gives_one old new a g = grind (arith, append-nil)

-- after the mark a read leaves it, and without a message it gives `Ended`
after_mark : (old new : ReadingHold) (a : Read) → Gives old new a → IsSome (mark_read old)
    → (mark_read new ≡ mark_read old) × (update_in a ≡ [] → a ≡ Ended)
after_mark old new a g some = grind arith

-- a list of no length is empty
no_length : (xs : List Message) → length xs ≡ 0 → xs ≡ []
no_length [] e = refl
no_length (x ∷ xs) e = absurd (omega arith)

-- and so after the whole list and its mark
pub only_ended : (r next : ReadingHold) (a : Read) → EndsWhole r → EndsWhole next
    → IsSome (mark_read r) → Gives r next a → a ≡ Ended
only_ended r next a whole after some g =
    let k : (k : Mark) × (mark_read r ≡ Some k) = grind arith in
    let step = after_mark r next a g some in
    let one = (whole k.0 k.1).seq in
    let two = (after k.0 (step.0 ∙ k.1)).seq in
    let more =
    ap (length {A = Message}) (gives_one r next a g) ∙ length-append (received r) (update_in a) in
    step.1 (no_length (update_in a) (omega (arith, one, two, more)))

-- ---- the answers of reads

-- what all answers leave: their messages were received, over a longer book, from the same port
answers-grow : (old new : ReadingHold) (answers : List Read) → AreAnswers old answers new
    → (received new ≡ received old ++ updates_read answers)
    × Extends (known_book new) (known_book old)
    × (new.port.floor ≡ old.port.floor)
answers-grow old new [] h = (h.received ∙ sym (append-nil (received old)), h.known, h.port.2)
answers-grow old new (a ∷ answers) h =
    let mid : ReadingHold = h.0 in
    let next : ReadingHold = h.1 in
    let rest = answers-grow next new answers h.4 in
    let one : received next ≡ received old ++ update_in a =
    gives_one mid next a h.3.gives
    ∙ ap (λ (l : List Message). l ++ update_in a) h.2.received in (
      rest.0 ∙ ap (λ (l : List Message). l ++ updates_read answers) one
          ∙ append_assoc (received old) (update_in a) (updates_read answers),
      (h.2.known.0 ++ h.3.known.0 ++ rest.1.0, grind (arith, append_assoc)),
      rest.2 ∙ h.3.port.2 ∙ h.2.port.2,
    )

-- a mark that was read stays the mark over all answers
marks-stay : (old new : ReadingHold) (answers : List Read) → AreAnswers old answers new
    → IsSome (mark_read old) → mark_read new ≡ mark_read old
marks-stay old new [] h some = h.mark
marks-stay old new (a ∷ answers) h some =
    let now = subst IsSome (sym h.2.mark) some in
    let step = (after_mark h.0 h.1 a h.3.gives now).0 in
    marks-stay h.1 new answers h.4 (subst IsSome (sym step) now) ∙ step ∙ h.2.mark

-- answers after the mark that have no message are all `Ended`
all_ended : (old new : ReadingHold) (answers : List Read) → AreAnswers old answers new
    → IsSome (mark_read old) → length (updates_read answers) ≡ 0
    → AllByRecursion (λ a. a ≡ Ended) answers
all_ended old new [] h some none = tt
all_ended old new (a ∷ answers) h some none =
    let now = subst IsSome (sym h.2.mark) some in
    let step = after_mark h.0 h.1 a h.3.gives now in
    let long = length-append (update_in a) (updates_read answers) in (
      step.1 (no_length (update_in a) (omega (arith, none, long))),
      all_ended h.1 new answers h.4 (subst IsSome (sym step.0) now) (omega (arith, none, long)),
    )

-- the answers before one, that one, and those after it
split : (old new : ReadingHold) (front : List Read) (a : Read) (rest : List Read)
    → AreAnswers old (front ++ a ∷ rest) new
    → (mid : ReadingHold) × (next : ReadingHold)
    × AreAnswers old front mid × IsAnswered mid next a × AreAnswers next rest new
split old new [] a rest h = h
split old new (b ∷ front) a rest h =
    let s = split h.1 new front a rest h.4 in
    (s.0, s.1, (h.0, h.1, h.2, h.3, s.2), s.3, s.4)

-- a read leaves no mark, or answers it
gives_none : (old new : ReadingHold) (a : Read) → Gives old new a → mark_read old ≡ None
    → (mark_read new ≡ None) ⊎ ((k : Mark) × (a ≡ Fin k))
gives_none old new a g none = grind arith

-- a mark that is read is among the answers
has_mark : (old new : ReadingHold) (answers : List Read) → AreAnswers old answers new
    → mark_read old ≡ None → IsSome (mark_read new) → ReadsHaveMark answers
has_mark old new [] h none some =
    absurd (true≢false (sym (subst IsSome (h.mark ∙ none) some)))
has_mark old new (a ∷ answers) h none some =
    ⊎_elim
    (λ still.
    let t = has_mark h.1 new answers h.4 still some in
    (t.0, a ∷ t.1, t.2, ap (λ (l : List Read). a ∷ l) t.3))
    (λ k. (k.0, [], answers, ap (λ (b : Read). b ∷ answers) k.1))
    (gives_none h.0 h.1 a h.3.gives (h.2.mark ∙ none))

-- the messages of answers and of more
updates_read-append : (front rest : List Read)
    → updates_read (front ++ rest) ≡ updates_read front ++ updates_read rest
updates_read-append [] rest = refl
updates_read-append (a ∷ front) rest =
    ap (λ (l : List Message). update_in a ++ l) (updates_read-append front rest)
    ∙ sym (append_assoc (update_in a) (updates_read front) (updates_read rest))

module _ (first last : ReadingHold) (answers : List Read) (empty : received first ≡ [])
    (h : AreAnswers first answers last) where
  -- the messages of the answers are what was received
  got_all : received last ≡ updates_read answers
  got_all =
      (answers-grow first last answers h).0
      ∙ ap (λ (l : List Message). l ++ updates_read answers) empty

  -- the mark among the answers, and what is before and after it
  mark_at : EndsWhole last → (front rest : List Read) (k : Mark)
      → answers ≡ front ++ Fin k ∷ rest
      → IsMarkAfter last.port.floor (known_book last) (updates_read front) k
      × AllByRecursion (λ a. a ≡ Ended) rest
  mark_at ends front rest k is =
      let s = split first last front (Fin k) rest
      (subst (λ (l : List Read). AreAnswers first l last) is h) in
      let g = s.3.gives in
      let before = answers-grow first s.0 front s.2 in
      let after = answers-grow s.1 last rest s.4 in
      let some : IsSome (mark_read s.1) = subst IsSome (sym g.3) refl in
      let whole = ends k (marks-stay s.1 last rest s.4 some ∙ g.3) in
      let none : length (updates_read rest) ≡ 0 =
      omega (
        arith,
        g.4.seq,
        whole.seq,
        ap (length {A = Message}) after.0,
        length-append (received s.1) (updates_read rest),
      ) in
      let all : received last ≡ updates_read front =
      after.0 ∙ ap (λ (l : List Message). received s.1 ++ l) (no_length (updates_read rest) none)
      ∙ append-nil (received s.1) ∙ g.0 ∙ before.0
      ∙ ap (λ (l : List Message). l ++ updates_read front) empty in (
        subst (λ (l : List Message). IsMarkAfter last.port.floor (known_book last) l k) all whole,
        all_ended s.1 last rest s.4 some none,
      )

-- the law of a reader's answers
pub answers_told : FoldsGiveResults → WholeFoldsGiveResults → AnswersAreTold
answers_told folds wholes first last answers empty none h told =
    let f = last.reading.port.floor in
    let b = known_book last.reading in
    let got = got_all first.reading last.reading answers empty h in
    let marks = mark_at first.reading last.reading answers empty h told.mark in
    let zero : b.start.number ≡ 0 = told.book.first in
    let within : f.opened ≤ length b.changes = told.opened in (
      got,
      record {
        prefix = subst (λ (l : List Message). IsPrefix l (updates_upto f b (length b.changes)))
            got told.prefix;
        once = subst (AreNumbered 1) got told.once;
        mark = marks;
        ended = λ front rest is.
            let s = split first.reading last.reading front Ended rest
            (subst (λ (l : List Read). AreAnswers first.reading l last.reading) is h) in
            has_mark first.reading s.0 front s.2 none s.3.gives.2;
        folding = λ front rest is settled.
            let more = updates_read rest ++ told.prefix.0 in
            let split_is : updates_read front ++ more ≡ updates_upto f b (length b.changes) =
            grind (arith, append_assoc, updates_read-append, got, told.prefix.1) in
            folds (query_of f) f.flags b f.opened (length b.changes) (updates_read front)
            told.book.start told.book.lawful (omega arith) (omega arith) (more, split_is) settled;
        closing = λ front rest k is.
            let m = (marks front rest k is).0 in
            ap (folded (result_after f b f.opened)) m.all
            ∙ wholes (query_of f) f.flags b f.opened k.change told.book.start told.book.lawful
            (omega arith) m.opened;
      },
    )
