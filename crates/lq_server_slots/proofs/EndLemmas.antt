-- A subscription as the book grows, and as it ends.
use Rattle.std.proofs.Common.{◌≡◌, ℕ, ◌+◌, ◌<◌, ◌≤◌, Bool, true, false, List, [], ◌∷◌, ◌++◌, length, Option, Some, None, refl, sym, ap, ◌∙◌, subst, arith, add-zero, append-nil, append_assoc, length-append}
use Rattle.std.specs.Prelude.{is_none}
use Rattle.std.proofs.lemmas.Bool.Decides.{nat_tests}
use Rattle.lq_predicate.specs.Query.{Query}
use Rattle.lq_volume.specs.declared.change.Change.{Change}
use Rattle.lq_volume.specs.State.{State}
use Rattle.lq_volume.specs.Book.{Book, Extends, grown, state_of}
use Rattle.lq_board.specs.Book.{IsFullBook}
use Rattle.lq_update.specs.declared.open_options.Flags.{Flags}
use Rattle.lq_update.specs.declared.message.Message.{Message}
use Rattle.lq_update.specs.declared.mark.Mark.{Mark}
use Rattle.lq_update.specs.declared.mark.Cause.TheVariants.{Overrun}
use Rattle.lq_update.specs.Updates.{step_of}
use Rattle.lq_volume.specs.Change.{IsLawful}
use Rattle.lq_update.specs.Laws.{StepsAreFew}
use Rattle.lq_desk_sub.specs.Held.{Held, Prepared, prepared_for, committed, opened_with, with_messages, ended_by, overruns, after_messages_by, after_messages}
use Rattle.lq_desk_sub.specs.Passing.{TellsNothing}
use Rattle.lq_port.specs.End.{End, all_put}
use Rattle.lq_server_slots.specs.declared.delivery.Delivery.{Delivery}
use Rattle.lq_server_slots.specs.declared.delivery.Opening.{Opening}
use Rattle.lq_server_slots.specs.declared.identity.FirstClose.{FirstClose}
use Rattle.lq_server_slots.specs.declared.identity.FirstClose.TheVariants.{Never}
use Rattle.lq_server_slots.specs.declared.identity.LastReport.{LastReport}
use Rattle.lq_server_slots.specs.declared.identity.LastReport.TheVariants.{Live}
use Rattle.lq_server_slots.specs.Updates.{updates}
use Rattle.lq_server_slots.specs.Rule.{floor_of, query_of, messages_in}
use Rattle.lq_server_slots.specs.LegalList.{known_by}
use Rattle.lq_server_slots.specs.Standing.{messages_given, Stands, IsOverrun, HasPrepared, seen_of, report_of}
use Rattle.lq_server_slots.proofs.UpdateLemmas.{extends_self, extends_trans, extends_length, updates-add, updates-same, updates-none}

-- messages that overrun are some, and more than the backlog has room for
overrun_test : (h : Held) (more : List Message) → overruns h more ≡ true
    → (0 < length more) × (h.backlog < length h.messages + length more)
overrun_test h more test = grind (arith, nat_tests)

-- messages that are no overrun leave no more held than the backlog
room_left : (h : Held) (more : List Message) → overruns h more ≡ false
    → length h.messages ≤ h.backlog → length h.messages + length more ≤ h.backlog
room_left h more test few = grind (arith, nat_tests)

-- an overrun stays one over each longer book
over_longer : (q : Query) (flags : Flags) (o places backlog seen : ℕ) (book book' : Book) (e : ℕ)
    → IsFullBook book → Extends book' book → o ≤ e → IsOverrun q flags o places backlog seen book e
    → IsOverrun q flags o places backlog seen book' e
over_longer q flags o places backlog seen book book' e full p le over =
    let at = over.within in
    let one = updates-same q flags book book' o e full.first p le (omega arith) in
    let two = updates-same q flags book book' o (e + 1) full.first p (omega arith) (omega arith) in
    let long = extends_length book book' p in
    grind arith

module _ (h : Held) (e : End Delivery Opening) (places : ℕ) (last_report : LastReport)
    (first_close : FirstClose) (book : Book) (s : Stands h e places last_report first_close book)
  where
    -- an ended one stands over each longer book
    pub longer_marked : (book' : Book) (k : Mark) → Extends book' book → IsFullBook book'
        → h.mark ≡ Some k → Stands h e places last_report first_close book'
    longer_marked book' k p full mark =
        let fits = rw mark at s.mark in
        let opened = rw mark at s.opened in
        let long = extends_length book book' p in
        let later = extends_trans (known_by e.floor (all_put e)) book book' s.later p in
        let same =
        updates-same h.query h.flags book book' h.opened k.change s.full.first p opened fits.1 in
        let over : k.cause ≡ Overrun
        → IsOverrun h.query h.flags h.opened places h.backlog (seen_of last_report) book' k.change =
        λ c. over_longer h.query h.flags h.opened places h.backlog (seen_of last_report) book book'
        k.change
        s.full p opened ((rw mark at s.overrun) c) in
        grind arith

    module _ (live : h.mark ≡ None) where
      -- what was given is all updates of the book so far
      old_is : messages_given h e ≡ updates h.query h.flags book h.opened (length book.changes)
      old_is = rw live at s.list

      -- the opening is within the book
      opened_is : h.opened ≤ length book.changes
      opened_is = rw live at s.opened

      -- it ends by an overrun, in a book that goes on from this one
      overran : (book' : Book) → Extends book' book → IsFullBook book'
          → IsOverrun h.query h.flags h.opened places h.backlog (seen_of last_report) book'
          (length book.changes)
          → Stands (ended_by h Overrun (length book.changes)) e places last_report first_close book'
      overran book' p full over =
          let long = extends_length book book' p in
          let later = extends_trans (known_by e.floor (all_put e)) book book' s.later p in
          let same =
          updates-same h.query h.flags book book' h.opened (length book.changes) s.full.first p
          opened_is (omega arith) in
          let old = old_is in
          let opened = opened_is in
          grind arith

      module _ (c : Change) (full' : IsFullBook (grown book (c ∷ [])))
          (three : length (step_of h.query h.flags (state_of book) c (h.sent + 1)) ≤ 3) where
        -- the updates of the change
        abbrev more : List Message
        more = step_of h.query h.flags (state_of book) c (h.sent + 1)

        -- the book with the change
        abbrev book' : Book
        book' = grown book (c ∷ [])

        -- the book is longer by the change
        long : length book'.changes ≡ length book.changes + 1
        long = length-append book.changes (c ∷ [])

        -- the updates of the longer book are what was given and those of the change
        now : updates h.query h.flags book' h.opened (length book.changes + 1)
            ≡ messages_given h e ++ more
        now =
            rw (
              updates-add h.query h.flags book c h.opened s.full.first opened_is,
              ← old_is,
              s.sent,
            )

        -- with the change's updates held, the subscription stands over the longer book
        goes_on : length h.messages + length more ≤ h.backlog
            → Stands (with_messages h more) e places last_report first_close book'
        goes_on room =
            let later =
            extends_trans (known_by e.floor (all_put e)) book book' s.later (c ∷ [], refl) in
            let all : messages_given (with_messages h more) e ≡ messages_given h e ++ more =
            sym (append_assoc (messages_in (all_put e)) h.messages more) in
            let count = length-append (messages_given h e) more in
            let held = length-append h.messages more in
            let one = long in
            let list = now in
            let opened = opened_is in
            grind arith

        module _ (filled : 0 < length h.messages
            → places + seen_of last_report ≤ length (messages_in (all_put e))) where
          -- more updates than the backlog takes are an overrun
          over_is : 0 < length more → h.backlog < length h.messages + length more
              → IsOverrun h.query h.flags h.opened places h.backlog (seen_of last_report) book'
              (length book.changes)
          over_is some many =
              let front =
              updates-same h.query h.flags book book' h.opened (length book.changes) s.full.first
              (c ∷ [], refl) opened_is (omega arith) ∙ sym old_is in
              let count = length-append (messages_in (all_put e)) h.messages in
              let after = length-append (messages_given h e) more in
              let one = long in
              let list = now in
              grind arith

          -- the subscription stands after the change, by whether it overruns
          pub by_test : (b : Bool) → overruns h more ≡ b
              → Stands (after_messages_by h more (length book.changes) b) e places last_report
              first_close
              book'
          by_test true test =
              let t = overrun_test h more test in
              overran book' (c ∷ [], refl) full' (over_is t.0 t.1)
          by_test false test = goes_on (room_left h more test s.bounded)

-- a new one
pub stands_new : (q : Query) (flags : Flags) (backlog : ℕ) (e : End Delivery Opening) (places : ℕ)
    (book : Book) → e.taken ≡ [] → e.ahead ≡ [] → floor_of e.floor ≡ book → query_of e.floor ≡ q
    → e.floor.flags ≡ flags
    → e.floor.opened ≡ length book.changes → e.places ≡ places → IsFullBook book
    → Stands (opened_with q flags (length book.changes) backlog) e places
    (Live (length book.changes) 0) Never book
stands_new q flags backlog e places book taken ahead floor query moves opening port full =
    let put : all_put e ≡ [] = rw (taken, ahead) in
    let later : Extends book (known_by e.floor (all_put e)) = rw (put, floor) (extends_self book) in
    let none = updates-none q flags book (length book.changes) in
    grind arith

-- there is a mark, where the test says so
pub some_there : (o : Option Mark) → is_none o ≡ false → (k : Mark) × (o ≡ Some k)
some_there o e = grind arith

-- and none, where it says that
pub none_there : (o : Option Mark) → is_none o ≡ true → o ≡ None
none_there o e = grind arith

-- the messages of a change are made
pub prepared_of : (s : State) (c : Change) (p q : Prepared) → q ≡ prepared_for s c p → HasPrepared
    q s c
prepared_of s c p q e = rw e (λ _. (refl, refl))

-- a commit makes it stand over the book with the change
pub committed_stands : (p q : Prepared) (e : End Delivery Opening) (places : ℕ)
    (last_report : LastReport)
    (first_close : FirstClose) (book : Book) (c : Change) → p.held.mark ≡ None
    → q ≡ committed p → StepsAreFew
    → (0 < length p.held.messages → places + seen_of last_report ≤ length (messages_in (all_put e)))
    → Stands p.held e places last_report first_close book → HasPrepared p (state_of book) c
    → IsLawful (state_of book) c → IsFullBook (grown book (c ∷ []))
    → Stands q.held e places last_report first_close (grown book (c ∷ []))
committed_stands p q e places last_report first_close book c live is few filled s prepared lawful
    full =
    let r = prepared live in
    subst (λ (h : Held). Stands h e places last_report first_close (grown book (c ∷ [])))
    (sym (ap (λ (z : Prepared). z.held) is
    ∙ (λ i. after_messages p.held (r.0 i) ((r.1 ∙ s.full.number) i))))
    (by_test p.held e places last_report first_close book s live c full
    (few p.held.query p.held.flags (state_of book) c (p.held.sent + 1) s.full.state lawful) filled
    (overruns p.held (step_of p.held.query p.held.flags (state_of book) c (p.held.sent + 1))) refl)

-- and one that a change tells nothing stands over the book with the change as it is
pub untold_stands : (p : Prepared) (e : End Delivery Opening) (places : ℕ)
    (last_report : LastReport) (first_close : FirstClose) (book : Book) (c : Change) → StepsAreFew
    → (0 < length p.held.messages → places + seen_of last_report ≤ length (messages_in (all_put e)))
    → Stands p.held e places last_report first_close book
    → TellsNothing p.held.query p.held.flags c
    → IsLawful (state_of book) c → IsFullBook (grown book (c ∷ []))
    → Stands p.held e places last_report first_close (grown book (c ∷ []))
untold_stands p e places last_report first_close book c few filled s none lawful full =
    by p.held.mark refl
  where
    same : after_messages p.held [] (state_of book).number ≡ p.held
    same = λ i. record p.held {
      sent = add-zero p.held.sent i;
      messages = append-nil p.held.messages i;
    }

    by : (o : Option Mark) → p.held.mark ≡ o
        → Stands p.held e places last_report first_close (grown book (c ∷ []))
    by (Some k) mark =
        longer_marked p.held e places last_report first_close book s (grown book (c ∷ [])) k
        (c ∷ [], refl) full mark
    by None live =
        let empty = none (state_of book) (p.held.sent + 1) s.full.state lawful in
        let r : Prepared = record p { ready = []; before = (state_of book).number } in
        subst (λ (h : Held). Stands h e places last_report first_close (grown book (c ∷ []))) same
        (committed_stands r (committed r) e places last_report first_close book c live refl few
        filled s (λ is. (sym empty, refl)) lawful full)

-- a subscription stands on once its reader is told
pub told_now : (h : Held) (e : End Delivery Opening) (places : ℕ) (last_report : LastReport)
    (first_close : FirstClose) (book : Book) (seen : ℕ) → Stands h e places last_report first_close
    book
    → Stands h e places (report_of (length book.changes) seen h.mark) first_close book
told_now h e places last_report first_close book seen s = grind arith
