-- The steps of a read.
use Rattle.std.proofs.Common.{◌≡◌, ◌↔◌, ◌-◌, ◌≤◌, Bool, true, false, true≢false, List, [], ◌∷◌, ◌++◌, length, map, Option, Some, None, refl, sym, ap, ◌∙◌, arith, append_assoc, append-nil, length-append}
use Rattle.std.specs.Prelude.{IfSome, IsSome, is_some, option_to_list, Result, Ok, Err, OnErr, OnOk, IfOk}
use Rattle.std.proofs.lemmas.List.{take_at}
use mathlib.Core.List.{IsPrefix}
use Rattle.lq_value.specs.declared.refusal.Refusal.{Refusal}
use Rattle.lq_value.specs.Refusal.{first_refusal, FailsOnlyForMemory}
use Rattle.lq_value.specs.declared.entry.Entry.{Entry}
use Rattle.lq_volume.specs.Book.{Extends, state_of, state_at}
use Rattle.lq_volume.specs.Result.{result_of}
use Rattle.lq_board.specs.Book.{IsFullBook}
use Rattle.lq_update.specs.declared.message.Message.{Message}
use Rattle.lq_update.specs.declared.mark.Mark.{Mark}
use Rattle.lq_update.specs.declared.parcel.Parcel.TheVariants.{Update as told_update, Fin as told_fin}
use Rattle.lq_update.specs.Fold.{Folding, folded, last_change, fold_refusals, folding_after, folding_after_all}
use Rattle.lq_update.specs.Laws.{RebuildsTakeAll, FoldsGiveResults, FoldingsFollow, SettledIsTested, WholeFoldsGiveResults}
use Rattle.lq_update.specs.Updates.{IsSettled}
use Rattle.lq_desk_sub.specs.declared.read.Read.{Read}
use Rattle.lq_desk_sub.specs.declared.read.Read.TheVariants.{Update, Fin, Empty, Ended}
use Rattle.lq_port.specs.End.{End, IsSamePort, IsFront, Loses}
use Rattle.lq_server_slots.specs.declared.delivery.Delivery.{Delivery}
use Rattle.lq_server_slots.specs.declared.delivery.Opening.{Opening}
use Rattle.lq_server_slots.specs.Updates.{updates}
use Rattle.lq_server_slots.specs.Rule.{floor_of, query_of, message_of, mark_or, messages_in, mark_in, all_updates, IsMark, MayFollow}
use Rattle.lq_server_slots.specs.LegalList.{known_by, LegalList}
use Rattle.lq_server_slots.specs.Reading.{ReadingHold, opening_of, known_book, received, ready, mark_read, what_of, IsTold, IsReadStep}
use Rattle.lq_server_slots.proofs.UpdateLemmas.{extends_length, extends_self}
use Rattle.lq_server_slots.proofs.PortLemmas.{prefix_trans, messages_in-snoc, mark_in-append, last_book-snoc, legal_list-none, legal_list-step}

-- ---- what was read

-- what a contract sees of a reading's parts
abbrev pub hold : End Delivery Opening → Option Message → Folding → ReadingHold
hold e hand result = record { port = e; hand = hand; result = result }

-- what was received is what was folded
received_is : (r : ReadingHold) (got : List Message)
    → messages_in r.port.taken ≡ got ++ option_to_list r.hand → received r ≡ got
received_is r got all =
    let o : List Message = option_to_list r.hand in
    rw all (take_at got o (length (got ++ o) - length o) (omega (arith, length-append got o)))

-- what is so of a reading that has folded these messages
is_told : (r : ReadingHold) (got : List Message) → LegalList r.port.floor r.port.taken
    → messages_in r.port.taken ≡ got ++ option_to_list r.hand
    → r.result ≡ folding_after_all (opening_of r.port.floor) got
    → (IsSome (mark_read r) → r.hand ≡ None) → IsTold r
is_told r got list all folds no_hand =
    let is = received_is r got all in
    record { legal_list = list; all = rw is all; folds = rw is folds; no_hand = no_hand }

-- what was received is a front of the updates over the known book
received_front : (r : ReadingHold) → IsTold r
    → IsPrefix (received r) (all_updates r.port.floor (known_book r))
received_front r told =
    prefix_trans (received r) (messages_in r.port.taken) (all_updates r.port.floor (known_book r))
    (option_to_list r.hand, sym told.all) told.legal_list.front

-- the known book has all changes of the opening
opened_within : (f : Opening) (ps : List Delivery) → LegalList f ps
    → f.opened ≤ length (known_by f ps).changes
opened_within f ps list =
    let long = extends_length (floor_of f) (known_by f ps) list.later in
    omega (arith, list.opening)

-- the state at the opening is that of the floor
opening_state : (f : Opening) (ps : List Delivery) → LegalList f ps
    → state_at (known_by f ps) f.opened ≡ state_of (floor_of f)
opening_state f ps list =
    let first : (floor_of f).start.number ≡ 0 = rw list.later.1 at list.full.first in
    rw (
      list.later.1,
      take_at (floor_of f).changes list.later.0
          (f.opened - (floor_of f).start.number) (omega (arith, list.opening)),
    )

-- the fold refuses no next message
fold_fits : RebuildsTakeAll → (f : Opening) (ps : List Delivery) (got : List Message) (m : Message)
    → LegalList f ps → messages_in ps ≡ got ++ m ∷ []
    → first_refusal (fold_refusals (folding_after_all (opening_of f) got) m) ≡ None
unfolding updates
fold_fits law f ps got m list all =
    let b = known_by f ps in
    let zero : b.start.number ≡ 0 = list.full.first in
    let within = opened_within f ps list in
    rw (← opening_state f ps list)
    (law (query_of f) f.flags b f.opened (length b.changes) got list.front.0 m list.full.start
    list.full.lawful (omega arith) (omega arith) (rw (all, append_assoc) at list.front.1))

-- the fold by one message more
folds-snoc : (f : Folding) (ms : List Message) (m : Message)
    → folding_after_all f (ms ++ m ∷ []) ≡ folding_after (folding_after_all f ms) m
folds-snoc f [] m = refl
folds-snoc f (n ∷ ms) m = folds-snoc (folding_after f n) ms m

-- ---- a message that is folded

-- The message m comes next: it is in hand, or was just taken, so that the port's end is e. Nothing
-- else was taken and not read, and the mark wasn't read.
pub record IsNext (old : ReadingHold) (e : End Delivery Opening) (m : Message) : Type 0 where
  pub legal_list : LegalList e.floor e.taken
  pub all : messages_in e.taken ≡ received old ++ m ∷ []
  pub folds : old.result ≡ folding_after_all (opening_of e.floor) (received old)
  pub front : IsFront (ready old) (told_update m) (map what_of e.ahead)
  pub port : IsSamePort old.port e
  pub known : Extends (known_by e.floor e.taken) (known_book old)
  pub was_live : mark_read old ≡ None
  pub live : mark_in e.taken ≡ None

module _ (old : ReadingHold) (e : End Delivery Opening) (m : Message) (next : IsNext old e m) where
  -- the fold doesn't refuse it
  pub next_fits : RebuildsTakeAll → first_refusal (fold_refusals old.result m) ≡ None
  next_fits law =
      rw next.folds (fold_fits law e.floor e.taken (received old) m next.legal_list next.all)

  -- it was folded, or stays in hand
  pub next_reads : (result : Folding) (hand : Option Message) (read : Result Read Refusal)
      → OnOk read ((result ≡ folding_after old.result m) × (hand ≡ None))
      → OnErr read ((result ≡ old.result) × (hand ≡ Some m)) → IsTold (hold e hand result)
  next_reads result hand (Ok a) ok err =
      is_told (hold e hand result) (received old ++ m ∷ []) next.legal_list
      (rw (ok.1, append-nil) next.all) (rw (ok.0, folds-snoc, ← next.folds)) (λ _. ok.1)
  next_reads result hand (Err x) ok err =
      is_told (hold e hand result) (received old) next.legal_list (rw err.1 next.all)
      (rw err.0 next.folds) (λ some. absurd (true≢false (sym some ∙ ap is_some next.live)))

  -- and the mark is still to come
  pub still_live : is_some (mark_read old) ≡ is_some (mark_in e.taken)
  still_live = ap is_some (next.was_live ∙ sym next.live)

  -- so the read gives it, or fails and loses nothing
  pub next_step : (w : Bool) (result : Folding) (hand : Option Message)
      (read : Result Read Refusal) → FailsOnlyForMemory read
      → OnOk read ((result ≡ folding_after old.result m) × (hand ≡ None))
      → OnErr read ((result ≡ old.result) × (hand ≡ Some m)) → IfOk read (λ a. a ≡ Update m)
      → IsReadStep w old (hold e hand result) read
  next_step w result hand read refused ok err gave =
      let reads = next_reads result hand read ok err in
      let folds : hand ≡ None → received (hold e hand result) ≡ received old ++ m ∷ [] =
      λ none. received_is (hold e hand result) _ (rw (none, append-nil) next.all) in
      let stays : hand ≡ Some m → received (hold e hand result) ≡ received old =
      λ some. received_is (hold e hand result) _ (rw some next.all) in
      let received = received_front (hold e hand result) reads in
      grind arith

-- a message in hand comes next
pub hand_next : (old : ReadingHold) (m : Message) → IsTold old → old.hand ≡ Some m
    → IsNext old old.port m
hand_next old m told there =
    let all : messages_in old.port.taken ≡ received old ++ m ∷ [] = told.all ∙ rw there in
    let known = extends_self (known_book old) in
    grind arith

-- ---- a parcel that is taken

-- a front of parcels, without their books
front_of : (ps : List Delivery) (x : Delivery) (rest : List Delivery) → IsFront ps x rest
    → IsFront (map what_of ps) x.what (map what_of rest)
front_of [] x rest e = ap (map what_of) e
front_of (p ∷ ps) x rest e = (ap what_of e.0, ap (map what_of) e.1)

-- with nothing in hand, the end after a parcel was taken
module _ (old : ReadingHold) (told : IsTold old) (none : old.hand ≡ None)
    (e : End Delivery Opening) (x : Delivery) (same : IsSamePort old.port e)
    (loses : Loses old.port x e) (comes : MayFollow old.port.taken old.port.floor x) where
  -- the book that the reader knows grows with the parcel
  later : Extends (known_by e.floor e.taken) (known_book old)
  later = rw (loses.0, last_book-snoc) comes.later

  -- with the parcel, what was taken is still a list that the port allows
  legal_list_then : LegalList e.floor e.taken
  legal_list_then =
      rw (same.2, loses.0)
      (legal_list-step old.port.floor old.port.taken x told.legal_list comes)

  -- the parcel's message is the last that was taken
  messages_then : messages_in e.taken ≡ received old ++ message_of x.what
  messages_then =
      let bare : messages_in old.port.taken ≡ received old = told.all ∙ rw (none, append-nil) in
      rw (loses.0, messages_in-snoc) (ap (λ (l : List Message). l ++ message_of x.what) bare)

  -- the mark that was taken is the parcel's, if it is one
  pub mark_then : mark_in e.taken ≡ mark_or x.what None
  mark_then = rw (loses.0, mark_in-append old.port.taken (x ∷ []) comes.open_yet)

  -- the parcel stood in front of those that wait
  front_then : IsFront (ready old) x.what (map what_of e.ahead)
  front_then = rw none (front_of old.port.ahead x e.ahead loses.1)

  -- a message that is taken comes next
  pub took_next : (m : Message) → x.what ≡ told_update m → IsNext old e m
  took_next m is =
      let list = legal_list_then in
      let messages = messages_then in
      let front = front_then in
      let known = later in
      let mark = mark_then in
      grind arith

  -- when the mark is taken, the reader has ended
  pub took_mark : (k : Mark) → x.what ≡ told_fin k → IsTold (hold e old.hand old.result)
  took_mark k is =
      is_told (hold e old.hand old.result) (received old) legal_list_then
      (messages_then ∙ rw (is, none)) (rw same.2 told.folds) (λ _. none)

  -- and the read gives it
  pub mark_step : (w : Bool) (k : Mark) → x.what ≡ told_fin k
      → IsReadStep w old (hold e old.hand old.result) (Ok (Fin k))
  mark_step w k is =
      let now = hold e old.hand old.result in
      let reads = took_mark k is in
      let all : messages_in e.taken ≡ received now = reads.all ∙ rw (none, append-nil) in
      let got : received now ≡ received old =
      received_is now (received old) (messages_then ∙ rw (is, none)) in
      let marked : mark_in e.taken ≡ Some k = rw is at mark_then in
      let mark : IsMark e.floor (messages_in e.taken) (known_by e.floor e.taken) k =
      rw marked at legal_list_then.mark in
      let prefix = received_front now reads in
      let known = later in
      let front = front_then in
      let told_mark : IsMark e.floor (received now) (known_by e.floor e.taken) k =
      rw (← all) mark in
      grind arith

-- ---- a read that changes nothing

module _ (w : Bool) (old : ReadingHold) (told : IsTold old) where
  -- the mark was read before
  pub ended_step : is_some (mark_read old) ≡ true → IsReadStep w old old (Ok Ended)
  ended_step over =
      let received = received_front old told in
      let known = extends_self (known_book old) in
      grind arith

  -- nothing is there, and the read doesn't wait
  pub empty_step : old.hand ≡ None → is_some (mark_read old) ≡ false → old.port.ahead ≡ []
      → (w ≡ true → ⊥) → IsReadStep w old old (Ok Empty)
  empty_step none live ahead stays =
      let received = received_front old told in
      let known = extends_self (known_book old) in
      grind arith

-- a new reading received nothing
pub reads_new : (e : End Delivery Opening) (result : Folding) → e.taken ≡ []
    → e.floor.opened ≡ length (floor_of e.floor).changes → IsFullBook (floor_of e.floor)
    → result ≡ opening_of e.floor → IsTold (hold e None result)
reads_new e result taken opening full is =
    is_told (hold e None result) [] (rw taken (legal_list-none e.floor opening full)) (rw taken) is
    (λ _. refl)

-- ---- the result

-- where it is settled, the result is the query's after the latest change
pub settled_result : FoldsGiveResults → FoldingsFollow → SettledIsTested → (r : ReadingHold)
    → IsTold r → r.result.settled ≡ true
    → r.result.entries ≡ result_of (query_of r.port.floor) (state_at (known_book r) r.result.change)
unfolding updates
settled_result law follow test r told settled =
    let f = r.port.floor in
    let b = known_book r in
    let full = told.legal_list.full in
    let zero : b.start.number ≡ 0 = full.first in
    let within = opened_within f r.port.taken told.legal_list in
    let by = follow (opening_of f) (received r) in
    rw (told.folds, by.0, by.1, ← opening_state f r.port.taken told.legal_list)
    (law (query_of f) f.flags b f.opened (length b.changes) (received r) full.start full.lawful
    (omega arith) (omega arith) (received_front r told)
    ((test (received r)).1 (rw (told.folds, by.2) at settled)))

-- the entries are those of the opening with what was received folded in
pub entries_folded : FoldingsFollow → (r : ReadingHold) → IsTold r
    → r.result.entries ≡ folded (opening_of r.port.floor).entries (received r)
entries_folded follow r told =
    rw told.folds (follow (opening_of r.port.floor) (received r)).0

-- the latest change is that of the last message received
pub change_received : FoldingsFollow → (r : ReadingHold) → IsTold r
    → r.result.change ≡ last_change r.port.floor.opened (received r)
change_received follow r told =
    rw told.folds (follow (opening_of r.port.floor) (received r)).1

-- it is settled just where what was received is
pub settled_received : FoldingsFollow → SettledIsTested → (r : ReadingHold) → IsTold r
    → (r.result.settled ≡ true) ↔ IsSettled (received r)
settled_received follow test r told =
    rw (told.folds, (follow (opening_of r.port.floor) (received r)).2)
    ((test (received r)).1, (test (received r)).0)

-- after the mark the result is the query's after the mark's change
pub marked_result : WholeFoldsGiveResults → FoldingsFollow → (r : ReadingHold) → IsTold r
    → (shown : List Entry) → shown ≡ r.result.entries → (o : Option Mark) → mark_read r ≡ o
    → IfSome o (λ k. shown ≡ result_of (query_of r.port.floor) (state_at (known_book r) k.change))
unfolding updates
marked_result law follow r told shown now None is = tt
marked_result law follow r told shown now (Some k) is =
    let f = r.port.floor in
    let full = told.legal_list.full in
    let fits : IsMark f (messages_in r.port.taken) (known_book r) k = rw is at told.legal_list.mark
    in
    let bare : r.hand ≡ None = told.no_hand (rw is) in
    let got : messages_in r.port.taken ≡ received r = told.all ∙ rw (bare, append-nil) in
    let zero : (known_book r).start.number ≡ 0 = full.first in
    rw (
      now,
      entries_folded follow r told,
      ← got,
      fits.all,
      ← opening_state f r.port.taken told.legal_list,
    )
    (law (query_of f) f.flags (known_book r) f.opened k.change full.start full.lawful (omega arith)
    fits.opened)
