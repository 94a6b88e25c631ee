-- What several lines of a run have done, and a whole run.
use Rattle.std.proofs.Common.{◌≡◌, inl, inr, ℕ, zero, suc, ◌+◌, ◌≤◌, List, [], ◌∷◌, ◌++◌, length, map, Option, Some, None, Result, Ok, Err, IfErr, is_err, is_ok, if◌then◌else◌, true, false, refl, sym, ap, ◌∙◌, subst, arith, append_assoc, append-nil, length-append}
use Rattle.std.proofs.KnownBytes.{Appends-nil, Appends-trans, Consumes-nil}
use Rattle.std.specs.Io.KnownBytes.{Consumes, Keeps}
use Rattle.lq_volume.specs.State.{State, empty_state}
use Rattle.lq_volume.specs.declared.change.Applied.{Applied}
use Rattle.lq_volume.specs.declared.change.Change.{Change as Change_}
use Rattle.lq_volume.specs.Book.{Book, Extends, IsBook}
use Rattle.lq_board.specs.Known.{Author}
use Rattle.lq_board.specs.Roll.{numbers, numbers_after}
use Rattle.lq_server.specs.Made.{MakesMore}
use Rattle.lq_server.specs.Retired.{IsRetired}
use Rattle.lq_desk_world.specs.Events.{Answer, Changed, Opened, Moved, Took, Empty, Ended, Asked as Asked_, Noticed, Shut, Finished, Refused}
use Rattle.lq_script_desk.specs.Response.{Response, Answers as Answers_, Refuses, Found, Listed, Fetched, Rebuilt}
use Rattle.lq_script_desk.specs.Reply.{reply_text}
use Rattle.lq_script_desk.specs.Writes.{HasTaken, ClosesAfter, ClosesRun, PutsText}
use mathlib.Core.List.{IsPrefix}
use Rattle.lq_script_lines.specs.declared.run_fault.RunFault.{RunFault}
use Rattle.lq_script_lines.specs.declared.run_fault.RunFault.TheVariants.{Read, Write, Limit, Memory, Thread}
use Rattle.lq_script_lines.specs.Lines.{lines_of}
use Rattle.lq_script_lines.specs.Outcome.{ReaderLog}
use Rattle.lq_script_desk.specs.Script.{script_session}
use Rattle.lq_script.specs.Asked.{Asked, asked_in, asked_reads}
use Rattle.lq_script.specs.Answers.{Answers, HasMadeAll, KnowsOwn, Replies}
use Rattle.lq_script.specs.Reading.{AnswersScript, HasRead, HasReadAfter, HasReadAll, HasReadSome, Unanswered}
use Rattle.lq_script.specs.Changes.{LeavesUntold, TellsAllChanges, change_in, change_told, changes_told, replies_text}
use Rattle.lq_script.specs.Progress.{AnswersRun, AppendsReads, Carries, OwnToken, SeatStanding, TellsMade, TellsRetired}
use Rattle.lq_script.proofs.ChangeLemmas.{each_later, made_same, made_then}
use Rattle.lq_script.proofs.ReadingLemmas.{front_alone, front_asked}
use Rattle.lq_script.proofs.BookLemmas.{extends_length, extends_same, none_more}
use Rattle.lq_script.proofs.AnswerLemmas.{answers_none, replied_fault, replied_line, replied_lost, replied_more, replied_never, replied_none, replied_reads, replied_reads_fault, replied_then, replied_waits}

-- ---- what a writer took

-- it took nothing
pub takes_none : (written : Option (List ℕ)) (bytes : List ℕ) → HasTaken written written bytes bytes
takes_none written bytes = record { taken = []; appended = Appends-nil written; split = refl }

-- it took nothing where they stay
pub keeps_takes : (written written' : Option (List ℕ)) (bytes : List ℕ) → Keeps written written'
    → HasTaken written written' bytes bytes
keeps_takes None b bytes k = record { taken = []; appended = tt; split = refl }
keeps_takes (Some x) None bytes k = absurd k
keeps_takes (Some x) (Some y) bytes k =
    record { taken = []; appended = k ∙ sym (append-nil x); split = refl }

-- first of these bytes, then of their rest
pub takes_more : (a b c : Option (List ℕ)) (bytes rest last : List ℕ) → HasTaken a b bytes rest
    → HasTaken b c rest last → HasTaken a c bytes last
takes_more a b c bytes rest last s t = record {
  taken = s.taken ++ t.taken;
  appended = Appends-trans a b c s.taken t.taken s.appended t.appended;
  split =
      s.split
      ∙ ap (λ (l : List ℕ). s.taken ++ l) t.split
      ∙ sym (append_assoc s.taken t.taken last);
}

-- with more bytes behind these, the rest has those too
takes_beside : (a b : Option (List ℕ)) (bytes rest more : List ℕ) → HasTaken a b bytes rest
    → HasTaken a b (bytes ++ more) (rest ++ more)
takes_beside a b bytes rest more s = record {
  taken = s.taken;
  appended = s.appended;
  split = ap (λ (l : List ℕ). l ++ more) s.split ∙ append_assoc s.taken rest more;
}

-- first of these bytes, then of the rest and more
takes_then : (a b c : Option (List ℕ)) (bytes rest more last : List ℕ) → HasTaken a b bytes rest
    → HasTaken b c (rest ++ more) last → HasTaken a c (bytes ++ more) last
takes_then a b c bytes rest more last s t =
    takes_more a b c (bytes ++ more) (rest ++ more) last (takes_beside a b bytes rest more s) t

-- a standing whose writer and whose replies that wait stay
took_same : (a b : SeatStanding) → b.written ≡ a.written → b.waits ≡ a.waits
    → HasTaken a.written b.written (a.waits ++ []) b.waits
took_same a b written waits =
    subst (λ (w : Option (List ℕ)). HasTaken a.written w (a.waits ++ []) b.waits) (sym written)
    (subst (λ (l : List ℕ). HasTaken a.written a.written l b.waits)
    (waits ∙ sym (append-nil a.waits)) (takes_none a.written b.waits))

-- ---- what replies tell

-- the changes that more replies tell
pub told_append : (xs ys : List Response)
    → changes_told (xs ++ ys) ≡ changes_told xs ++ changes_told ys
told_append [] ys = refl
told_append (x ∷ xs) ys =
    ap (λ (l : List Applied). change_told x ++ l) (told_append xs ys)
    ∙ sym (append_assoc (change_told x) (changes_told xs) (changes_told ys))

-- and their texts
pub text_append : (xs ys : List Response)
    → replies_text (xs ++ ys) ≡ replies_text xs ++ replies_text ys
text_append [] ys = refl
text_append (x ∷ xs) ys =
    ap (λ (l : List ℕ). reply_text x ++ l) (text_append xs ys)
    ∙ sym (append_assoc (reply_text x) (replies_text xs) (replies_text ys))

-- an answer tells one change at most
few_in : (a : Answer) → length (change_in a) ≤ 1
few_in (Changed applied) = omega arith
few_in (Opened slot at result) = omega arith
few_in (Moved was) = omega arith
few_in (Took parcel) = omega arith
few_in Empty = omega arith
few_in Ended = omega arith
few_in Asked_ = omega arith
few_in (Noticed was) = omega arith
few_in (Shut change) = omega arith
few_in Finished = omega arith
few_in (Refused e) = omega arith

-- so does a reply
pub few_told : (r : Response) → length (change_told r) ≤ 1
few_told (Answers_ slot a) = few_in a
few_told (Refuses e) = omega arith
few_told (Found node) = omega arith
few_told (Listed node e) = omega arith
few_told (Fetched at result) = omega arith
few_told (Rebuilt change result settled) = omega arith

-- ---- lines

-- no line was carried out
pub carries_none : (s : SeatStanding) (u : Unit {0}) → Carries [] (Ok u) s s
carries_none s u = record {
  replies = [];
  untold = [];
  rest = s.waits;
  made = made_same s.seat;
  took = subst (λ (l : List ℕ). HasTaken s.written s.written l s.waits) (sym (append-nil s.waits))
      (takes_none s.written s.waits);
  stops = (refl, refl);
  replied = replied_none u s.seat s.slots;
}

-- a read joined those that wait
pub carries_wait : (a b : SeatStanding) (u : Unit {0}) (slot : ℕ) → b.seat ≡ a.seat
    → b.written ≡ a.written → b.waits ≡ a.waits → b.slots ≡ a.slots ++ slot ∷ []
    → Carries (asked_reads (slot ∷ [])) (Ok u) a b
carries_wait a b u slot seat written waits slots = record {
  replies = [];
  untold = [];
  rest = b.waits;
  made = subst (λ (s : OwnToken). MakesMore a.seat s []) (sym seat) (made_same a.seat);
  took = took_same a b written waits;
  stops = (refl, refl);
  replied = subst (λ (s : OwnToken).
      Replies (asked_reads (slot ∷ [])) (Ok u) [] a.seat s a.slots b.slots)
      (sym seat) (replied_waits u a.seat a.slots b.slots slot slots);
}

-- lines after lines
pub carries_then : (xs ys : List Asked) (r : Result (Unit {0}) RunFault) (a b c : SeatStanding)
    (u : Unit {0}) → Carries xs (Ok u) a b → Carries ys r b c → Carries (xs ++ ys) r a c
carries_then xs ys r a b c u h k =
    let all : changes_told h.replies ++ (changes_told k.replies ++ k.untold)
    ≡ changes_told (h.replies ++ k.replies) ++ k.untold =
    sym (append_assoc (changes_told h.replies) (changes_told k.replies) k.untold)
    ∙ ap (λ (l : List Applied). l ++ k.untold) (sym (told_append h.replies k.replies)) in
    let first : MakesMore a.seat b.seat (changes_told h.replies) =
    subst (MakesMore a.seat b.seat)
    (ap (λ (l : List Applied). changes_told h.replies ++ l) h.stops.0
    ∙ append-nil (changes_told h.replies)) h.made in
    let took : HasTaken a.written b.written (a.waits ++ replies_text h.replies) b.waits =
    subst (λ (l : List ℕ). HasTaken a.written b.written (a.waits ++ replies_text h.replies) l)
    h.stops.1 h.took in
    record {
      replies = h.replies ++ k.replies;
      untold = k.untold;
      rest = k.rest;
      made = subst (MakesMore a.seat c.seat) all
          (made_then a.seat b.seat c.seat (changes_told h.replies)
          (changes_told k.replies ++ k.untold) first k.made);
      took = subst (λ (l : List ℕ). HasTaken a.written c.written l k.rest)
          (append_assoc a.waits (replies_text h.replies) (replies_text k.replies)
          ∙ ap (λ (l : List ℕ). a.waits ++ l) (sym (text_append h.replies k.replies)))
          (takes_then a.written b.written c.written (a.waits ++ replies_text h.replies) b.waits
          (replies_text k.replies) k.rest took k.took);
      stops = k.stops;
      replied = replied_then xs ys r h.replies k.replies a.seat b.seat c.seat a.slots b.slots
          c.slots u h.replied k.replied;
    }

-- one line, by the change that its reply tells, and by the reply that was put
pub carries_put : (x : Asked) (result : Result (Unit {0}) RunFault) (a b : SeatStanding)
    (r : Response) → a.slots ≡ [] → b.slots ≡ a.slots → MakesMore a.seat b.seat (change_told r)
    → Answers a.seat b.seat (x ∷ []) [] (r ∷ [])
    → PutsText result a.written a.waits b.written b.waits (reply_text r)
    → Carries (x ∷ []) result a b
carries_put x (Ok u) a b r none slots made answers put = record {
  replies = r ∷ [];
  untold = [];
  rest = b.waits;
  made = subst (MakesMore a.seat b.seat)
      (sym (append-nil (change_told r)) ∙ sym (append-nil (change_told r ++ []))) made;
  took = subst (λ (l : List ℕ). HasTaken a.written b.written (a.waits ++ l) b.waits)
      (sym (append-nil (reply_text r))) put;
  stops = (refl, refl);
  replied = subst (Replies (x ∷ []) (Ok u) (r ∷ []) a.seat b.seat a.slots) (sym slots)
      (replied_line u x r a.seat b.seat a.slots none answers);
}
carries_put x (Err Read) a b r none slots made answers put = absurd put
carries_put x (Err Write) a b r none slots made answers put = record {
  replies = r ∷ [];
  untold = [];
  rest = put.0;
  made = subst (MakesMore a.seat b.seat)
      (sym (append-nil (change_told r)) ∙ sym (append-nil (change_told r ++ []))) made;
  took = subst (λ (l : List ℕ). HasTaken a.written b.written (a.waits ++ l) put.0)
      (sym (append-nil (reply_text r))) put.1;
  stops = refl;
  replied = replied_fault Write x r a.seat b.seat a.slots b.slots none answers;
}
carries_put x (Err Limit) a b r none slots made answers put = absurd put
carries_put x (Err Memory) a b r none slots made answers put = record {
  replies = [];
  untold = change_told r;
  rest = b.waits;
  made = made;
  took = subst (λ (l : List ℕ). HasTaken a.written b.written l b.waits) (sym (append-nil a.waits))
      put;
  stops = (few_told r, refl);
  replied = replied_lost Memory x r a.seat b.seat a.slots b.slots none answers;
}
carries_put x (Err Thread) a b r none slots made answers put = absurd put

-- the seat of a batch stays, and tells no change
reads_made : (a b : SeatStanding) (replies : List Response) → b.seat ≡ a.seat
    → changes_told replies ≡ [] → MakesMore a.seat b.seat (changes_told replies ++ [])
reads_made a b replies seat none =
    subst (λ (s : OwnToken). MakesMore a.seat s (changes_told replies ++ [])) (sym seat)
    (subst (MakesMore a.seat a.seat) (ap (λ (l : List Applied). l ++ []) (sym none))
    (made_same a.seat))

-- and it stays where a fault came
seat_made : (a b : SeatStanding) → b.seat ≡ a.seat → MakesMore a.seat b.seat []
seat_made a b seat = subst (λ (s : OwnToken). MakesMore a.seat s []) (sym seat) (made_same a.seat)

-- a batch of reads, whose replies were put behind those that waited and then written
pub carries_reads : (result : Result (Unit {0}) RunFault) (a b : SeatStanding) (waits : List ℕ)
    → b.seat ≡ a.seat → b.slots ≡ [] → AppendsReads (length a.slots) a.waits waits
    → PutsText result a.written waits b.written b.waits [] → Carries [] result a b
carries_reads (Ok u) a b waits seat slots reads put = record {
  replies = reads.replies;
  untold = [];
  rest = b.waits;
  made = reads_made a b reads.replies seat reads.none;
  took = subst (λ (l : List ℕ). HasTaken a.written b.written l b.waits)
      (append-nil waits ∙ reads.appended) put;
  stops = (refl, refl);
  replied = subst (Replies [] (Ok u) reads.replies a.seat b.seat a.slots) (sym slots)
      (replied_reads u a.seat b.seat a.slots reads.replies (seat_made a b seat) reads.number);
}
carries_reads (Err Read) a b waits seat slots reads put = absurd put
carries_reads (Err Write) a b waits seat slots reads put = record {
  replies = reads.replies;
  untold = [];
  rest = put.0;
  made = reads_made a b reads.replies seat reads.none;
  took = subst (λ (l : List ℕ). HasTaken a.written b.written l put.0)
      (append-nil waits ∙ reads.appended) put.1;
  stops = refl;
  replied = replied_reads_fault Write a.seat b.seat a.slots b.slots reads.replies
      (seat_made a b seat) reads.number;
}
carries_reads (Err Limit) a b waits seat slots reads put = absurd put
carries_reads (Err Memory) a b waits seat slots reads put = record {
  replies = reads.replies;
  untold = [];
  rest = b.waits;
  made = reads_made a b reads.replies seat reads.none;
  took = subst (λ (l : List ℕ). HasTaken a.written b.written l b.waits) reads.appended put;
  stops = (omega arith, refl);
  replied = replied_reads_fault Memory a.seat b.seat a.slots b.slots reads.replies
      (seat_made a b seat) reads.number;
}
carries_reads (Err Thread) a b waits seat slots reads put = absurd put

-- one more read was appended
pub reads_more : (count : ℕ) (old mid new : List ℕ) (r : Response) → AppendsReads count old mid
    → change_told r ≡ [] → new ≡ mid ++ reply_text r → AppendsReads (count + 1) old new
reads_more count old mid new r h none more = record {
  replies = h.replies ++ r ∷ [];
  number = omega (arith, h.number, length-append h.replies (r ∷ []));
  none =
      told_append h.replies (r ∷ [])
      ∙ ap (λ (l : List Applied). l ++ (change_told r ++ [])) h.none
      ∙ append-nil (change_told r) ∙ none;
  appended =
      more
      ∙ ap (λ (l : List ℕ). l ++ reply_text r) h.appended
      ∙ append_assoc old (replies_text h.replies) (reply_text r)
      ∙ ap (λ (l : List ℕ). old ++ l)
      (ap (λ (l : List ℕ). replies_text h.replies ++ l) (sym (append-nil (reply_text r)))
      ∙ sym (text_append h.replies (r ∷ [])));
}

-- what has reads appended begins as before
pub reads_front : (count : ℕ) (old new : List ℕ) → AppendsReads count old new → IsPrefix old new
reads_front count old new h = (replies_text h.replies, sym h.appended)

-- each text begins with itself
pub front_same : (xs : List ℕ) → IsPrefix xs xs
front_same xs = ([], append-nil xs)

-- and so does what begins with that
pub front_on : (old mid new : List ℕ) → IsPrefix old mid → IsPrefix mid new → IsPrefix old new
front_on old mid new h k = (
  h.0 ++ k.0,
  sym (append_assoc old h.0 k.0) ∙ ap (λ (l : List ℕ). l ++ k.0) h.1 ∙ k.1,
)

-- no reads were appended
pub no_reads : (old : List ℕ) → AppendsReads 0 old old
no_reads old =
    record { replies = []; number = refl; none = refl; appended = sym (append-nil old) }

-- the replies that wait were written, and no line was carried out
pub carries_written : (result : Result (Unit {0}) RunFault) (a b : SeatStanding)
    → b.seat ≡ a.seat → a.slots ≡ [] → b.slots ≡ []
    → PutsText result a.written a.waits b.written b.waits [] → Carries [] result a b
carries_written result a b seat none slots put =
    carries_reads result a b a.waits seat slots
    (subst (λ (l : List ℕ). AppendsReads (length l) a.waits a.waits) (sym none) (no_reads a.waits))
    put

-- ---- what the runner's parts put

-- a line that made no change, and whose reply had no memory
pub carries_quiet : (asked : List Asked) (a b : SeatStanding) → MakesMore a.seat b.seat []
    → b.written ≡ a.written → b.waits ≡ a.waits → Carries asked (Err Memory) a b
carries_quiet asked a b made written waits = record {
  replies = [];
  untold = [];
  rest = b.waits;
  made = made;
  took = took_same a b written waits;
  stops = (omega arith, refl);
  replied = replied_never asked Memory a.seat b.seat a.slots b.slots made;
}

-- no line was carried out, for want of memory
pub carries_memory : (asked : List Asked) (s : SeatStanding) → Carries asked (Err Memory) s s
carries_memory asked s = carries_quiet asked s s (made_same s.seat) refl refl

-- what an equal result says, of what is asked in other words
pub carries_as : (xs ys : List Asked) (r s : Result (Unit {0}) RunFault) (a b : SeatStanding)
    → xs ≡ ys → r ≡ s → Carries ys s a b → Carries xs r a b
carries_as xs ys r s a b same is h =
    subst (λ (l : List Asked). Carries l r a b) (sym same)
    (subst (λ (t : Result (Unit {0}) RunFault). Carries ys t a b) (sym is) h)

-- after a fault more lines have no reply
pub carries_more : (xs ys : List Asked) (e : RunFault) (a b : SeatStanding)
    → Carries xs (Err e) a b → Carries (xs ++ ys) (Err e) a b
carries_more xs ys e a b h = record {
  replies = h.replies;
  untold = h.untold;
  rest = h.rest;
  made = h.made;
  took = h.took;
  stops = h.stops;
  replied = replied_more xs ys e h.replies a.seat b.seat a.slots b.slots h.replied;
}

-- a success is one, whatever it gives
pub carries_ok : (asked : List Asked) (a b : SeatStanding) (u v : Unit {0})
    → Carries asked (Ok u) a b → Carries asked (Ok v) a b
carries_ok asked a b u v h = carries_as asked asked (Ok v) (Ok u) a b refl refl h

-- reads for which memory was wanting
pub carries_kept : (a b : SeatStanding) → b.seat ≡ a.seat → b.written ≡ a.written
    → b.waits ≡ a.waits → Carries [] (Err Memory) a b
carries_kept a b seat written waits = carries_quiet [] a b (seat_made a b seat) written waits

-- a push that found memory put the value
pub pushed : {E : Type 0} {new : List ℕ} (old : List ℕ) (x : ℕ) (r : Result (Unit {0}) E)
    → new ≡ (if is_ok r then old ++ x ∷ [] else old) → is_err r ≡ false → new ≡ old ++ x ∷ []
pushed old x (Ok u) is h = is
pushed old x (Err e) is h = absurd (let no : true ≡ false = h in cc)

-- ---- what was read

-- all lines are the first ones
some_of_all : (reader : ReaderLog) (asked : List Asked) → HasReadAll reader asked
    → HasReadSome reader asked
some_of_all reader asked read = record {
  given = read.given;
  consumed = read.consumed;
  front = ([], append-nil asked ∙ read.asks);
}

-- so are those before a fault
some_of : (e : RunFault) (reader : ReaderLog) (asked : List Asked) → HasReadAfter e reader asked
    → HasReadSome reader asked
some_of Read reader asked read = record {
  given = read.given;
  consumed = read.consumed;
  front = subst (λ (l : List Asked). IsPrefix l (asked_in (lines_of read.given))) (sym read.asks)
      (front_alone read.given);
}
some_of Write reader asked read = read
some_of Limit reader asked read = record {
  given = read.given ++ read.next ∷ read.rest;
  consumed = read.consumed;
  front = subst (λ (l : List Asked). IsPrefix l
      (asked_in (lines_of (read.given ++ read.next ∷ read.rest)))) (sym read.asks)
      (front_asked read.given (read.next ∷ read.rest));
}
some_of Memory reader asked read = read
some_of Thread reader asked read = absurd read

-- 1 to k are k numbers
numbers_after_length : (n k : ℕ) → length (numbers_after n k) ≡ k
numbers_after_length n zero = refl
numbers_after_length n (suc k) =
    let rest = numbers_after_length (n + 1) k in omega (arith, rest)

numbers_length : (k : ℕ) → length (numbers k) ≡ k
numbers_length k = numbers_after_length 0 k

-- ---- a whole run

-- a writer that took no bytes more took none of these
takes_nothing : (a b : Option (List ℕ)) (bytes : List ℕ) → HasTaken a b [] []
    → HasTaken a b bytes bytes
takes_nothing a b bytes t = record {
  taken = t.taken;
  appended = t.appended;
  split = ap (λ (l : List ℕ). l ++ bytes) (t.split ∙ append-nil t.taken);
}

-- what lines that were carried out have for a whole run: no reads waited before them, and what is
-- left is as its result says
run_answers : (result r : Result (Unit {0}) RunFault) (asked all : List Asked) (a b : SeatStanding)
    → a.slots ≡ [] → (h : Carries asked r a b) → (rest : List Asked) → all ≡ asked ++ rest
    → Unanswered result h.replied.next (h.replied.more ++ rest)
    → AnswersRun result all a.seat b.seat h.replies
run_answers result r asked all a b none h rest is unanswered = record {
  done = h.replied.done;
  next = h.replied.next;
  more = h.replied.more ++ rest;
  split =
      is
      ∙ ap (λ (l : List Asked). l ++ rest)
      (ap (λ (l : List ℕ). asked_reads l ++ asked) (sym none) ∙ h.replied.split)
      ∙ append_assoc h.replied.done (h.replied.next ++ h.replied.more) rest
      ∙ ap (λ (l : List Asked). h.replied.done ++ l)
      (append_assoc h.replied.next h.replied.more rest);
  unanswered = unanswered;
  answers = h.replied.answers;
}

-- a run that carried out lines, then wrote of what was left, and answers this
tells : (result r : Result (Unit {0}) RunFault) (reader : ReaderLog) (asked all rest : List Asked)
    (a b : SeatStanding) (written : Option (List ℕ)) (last : List ℕ) → a.waits ≡ []
    → a.slots ≡ [] → (h : Carries asked r a b) → HasTaken b.written written h.rest last
    → LeavesUntold result h.untold last → HasRead result reader all → all ≡ asked ++ rest
    → Unanswered result h.replied.next (h.replied.more ++ rest)
    → TellsMade result reader a.seat b.seat a.written written
tells result r reader asked all rest a b written last first none h t leaves read is unanswered =
    record {
      replies = h.replies;
      untold = h.untold;
      rest = last;
      asked = all;
      made = h.made;
      took = subst (λ (l : List ℕ). HasTaken a.written written (l ++ replies_text h.replies) last)
          first
          (takes_more a.written b.written written (a.waits ++ replies_text h.replies) h.rest last
          h.took t);
      leaves = leaves;
      read = read;
      answered = run_answers result r asked all a b none h rest is unanswered;
    }

-- one that ended between two lines, with nothing that waits
pub tells_end : (result : Result (Unit {0}) RunFault) (reader : ReaderLog) (asked : List Asked)
    (a b : SeatStanding) (u : Unit {0}) (written : Option (List ℕ)) (last : List ℕ)
    → a.waits ≡ [] → a.slots ≡ [] → b.waits ≡ [] → b.slots ≡ [] → Carries asked (Ok u) a b
    → HasTaken b.written written [] last → LeavesUntold result [] last
    → HasRead result reader asked → Unanswered result [] []
    → TellsMade result reader a.seat b.seat a.written written
tells_end result reader asked a b u written last first none quiet no_slots h t leaves read full =
    tells result (Ok u) reader asked asked [] a b written last first none h
    (subst (λ (l : List ℕ). HasTaken b.written written l last) (sym quiet ∙ sym h.stops.1) t)
    (subst (λ (l : List Applied). LeavesUntold result l last) (sym h.stops.0) leaves) read
    (sym (append-nil asked))
    (subst (λ (l : List Asked). Unanswered result l (h.replied.more ++ []))
    (sym h.replied.leaves.0)
    (subst (Unanswered result [])
    (sym (append-nil h.replied.more ∙ h.replied.leaves.1 ∙ ap asked_reads no_slots)) full))

-- a flush at the end
pub tells_flush : (result : Result (Unit {0}) RunFault) (reader : ReaderLog) (asked : List Asked)
    (a b : SeatStanding) (u : Unit {0}) (written : Option (List ℕ)) → a.waits ≡ []
    → a.slots ≡ [] → b.waits ≡ [] → b.slots ≡ [] → Carries asked (Ok u) a b
    → HasTaken b.written written [] [] → IfErr result (λ e. e ≡ Write) → HasReadAll reader asked
    → TellsMade result reader a.seat b.seat a.written written
tells_flush (Ok v) reader asked a b u written first none quiet no_slots h t fault read =
    tells_end (Ok v) reader asked a b u written [] first none quiet no_slots h t (refl, refl) read
    (refl, refl)
tells_flush (Err e) reader asked a b u written first none quiet no_slots h t fault read =
    subst (λ (f : RunFault). TellsMade (Err f) reader a.seat b.seat a.written written) (sym fault)
    (tells_end (Err Write) reader asked a b u written [] first none quiet no_slots h t (omega arith)
    (some_of_all reader asked read) (omega arith))

-- what a close that kept its fault leaves, with nothing that waits
leaves_none : (e : RunFault) → LeavesUntold (Err e) [] []
leaves_none Read = (refl, refl)
leaves_none Write = omega arith
leaves_none Limit = (refl, refl)
leaves_none Memory = (omega arith, refl)
leaves_none Thread = (refl, refl)

-- and which lines
full_none : (e : RunFault) (reader : ReaderLog) (asked : List Asked) → HasReadAfter e reader asked
    → Unanswered (Err e) [] []
full_none Read reader asked read = (refl, refl)
full_none Write reader asked read = omega arith
full_none Limit reader asked read = (refl, refl)
full_none Memory reader asked read = omega arith
full_none Thread reader asked read = absurd read

-- a close after a fault between two lines that isn't the writer's
closed_after : (fault answer : RunFault) (reader : ReaderLog) (asked : List Asked)
    (a b : SeatStanding) (u : Unit {0}) (written : Option (List ℕ)) → a.waits ≡ []
    → a.slots ≡ [] → b.waits ≡ [] → b.slots ≡ [] → Carries asked (Ok u) a b
    → ClosesAfter fault answer b.written b.waits written → HasReadAfter fault reader asked
    → TellsMade (Err answer) reader a.seat b.seat a.written written
closed_after fault answer reader asked a b u written first none quiet no_slots h (inl kept) read =
    subst (λ (f : RunFault). TellsMade (Err f) reader a.seat b.seat a.written written) (sym kept.0)
    (tells_end (Err fault) reader asked a b u written [] first none quiet no_slots h
    (subst (λ (l : List ℕ). HasTaken b.written written l []) quiet kept.1) (leaves_none fault) read
    (full_none fault reader asked read))
closed_after fault answer reader asked a b u written first none quiet no_slots h (inr failed) read =
    subst (λ (f : RunFault). TellsMade (Err f) reader a.seat b.seat a.written written)
    (sym failed.0)
    (tells_end (Err Write) reader asked a b u written failed.1.0 first none quiet no_slots h
    (subst (λ (l : List ℕ). HasTaken b.written written l failed.1.0) quiet failed.1.1)
    (omega arith) (some_of fault reader asked read) (omega arith))

-- any close after a fault between two lines
pub tells_closed : (fault answer : RunFault) (reader : ReaderLog) (asked : List Asked)
    (a b : SeatStanding) (u : Unit {0}) (written : Option (List ℕ)) → a.waits ≡ []
    → a.slots ≡ [] → b.waits ≡ [] → b.slots ≡ [] → Carries asked (Ok u) a b
    → ClosesRun fault answer b.written b.waits written → HasReadAfter fault reader asked
    → TellsMade (Err answer) reader a.seat b.seat a.written written
tells_closed Read answer reader asked a b u written first none quiet no_slots h closed read =
    closed_after Read answer reader asked a b u written first none quiet no_slots h closed read
tells_closed Write answer reader asked a b u written first none quiet no_slots h closed read =
    subst (λ (f : RunFault). TellsMade (Err f) reader a.seat b.seat a.written written)
    (sym closed.0)
    (tells_end (Err Write) reader asked a b u written [] first none quiet no_slots h closed.1
    (leaves_none Write) read (omega arith))
tells_closed Limit answer reader asked a b u written first none quiet no_slots h closed read =
    closed_after Limit answer reader asked a b u written first none quiet no_slots h closed read
tells_closed Memory answer reader asked a b u written first none quiet no_slots h closed read =
    closed_after Memory answer reader asked a b u written first none quiet no_slots h closed read
tells_closed Thread answer reader asked a b u written first none quiet no_slots h closed read =
    absurd read

-- a close after want of memory in a line; these lines were read, and then perhaps more
tells_memory : (answer : RunFault) (reader : ReaderLog) (asked : List Asked) (a b : SeatStanding)
    (written : Option (List ℕ)) → a.waits ≡ [] → a.slots ≡ [] → Carries asked (Err Memory) a b
    → ClosesAfter Memory answer b.written b.waits written → HasReadSome reader asked
    → TellsMade (Err answer) reader a.seat b.seat a.written written
tells_memory answer reader asked a b written first none h (inl kept) read =
    subst (λ (f : RunFault). TellsMade (Err f) reader a.seat b.seat a.written written) (sym kept.0)
    (tells (Err Memory) (Err Memory) reader asked asked [] a b written [] first none h
    (subst (λ (l : List ℕ). HasTaken b.written written l []) (sym h.stops.1) kept.1)
    (h.stops.0, refl) read (sym (append-nil asked)) h.replied.leaves)
tells_memory answer reader asked a b written first none h (inr failed) read =
    subst (λ (f : RunFault). TellsMade (Err f) reader a.seat b.seat a.written written)
    (sym failed.0)
    (tells (Err Write) (Err Memory) reader asked asked [] a b written failed.1.0 first none h
    (subst (λ (l : List ℕ). HasTaken b.written written l failed.1.0) (sym h.stops.1) failed.1.1)
    h.stops.0 read (sym (append-nil asked)) h.replied.leaves)

-- any close after a fault in a line
pub tells_fault : (fault answer : RunFault) (reader : ReaderLog) (asked : List Asked)
    (a b : SeatStanding) (written : Option (List ℕ)) → a.waits ≡ [] → a.slots ≡ []
    → Carries asked (Err fault) a b → ClosesRun fault answer b.written b.waits written
    → HasReadSome reader asked → TellsMade (Err answer) reader a.seat b.seat a.written written
tells_fault Read answer reader asked a b written first none h closed read = absurd h.stops
tells_fault Write answer reader asked a b written first none h closed read =
    subst (λ (f : RunFault). TellsMade (Err f) reader a.seat b.seat a.written written)
    (sym closed.0)
    (tells (Err Write) (Err Write) reader asked asked [] a b written h.rest first none h
    (takes_nothing b.written written h.rest closed.1)
    (let none : length h.untold ≡ 0 = ap (λ (l : List Applied). length l) h.stops in omega arith)
    read (sym (append-nil asked)) h.replied.leaves)
tells_fault Limit answer reader asked a b written first none h closed read = absurd h.stops
tells_fault Memory answer reader asked a b written first none h closed read =
    tells_memory answer reader asked a b written first none h closed read
tells_fault Thread answer reader asked a b written first none h closed read = absurd h.stops

-- a reader of which nothing was read
pub read_nothing : (reader : ReaderLog) → reader.left' ≡ reader.left → HasReadSome reader []
read_nothing reader same = record {
  given = [];
  consumed = subst (λ (l : Option (List ℕ)). Consumes reader.left l []) (sym same)
      (Consumes-nil reader.left);
  front = ([], refl);
}

-- a run that never began, for want of memory
pub tells_never : (s : OwnToken) (e : RunFault) (reader : ReaderLog)
    (written written' : Option (List ℕ)) → e ≡ Memory → Keeps written written'
    → reader.left' ≡ reader.left → TellsMade (Err e) reader s s written written'
tells_never s e reader written written' is keeps same =
    subst (λ (f : RunFault). TellsMade (Err f) reader s s written written') (sym is) (record {
      replies = [];
      untold = [];
      rest = [];
      asked = [];
      made = made_same s;
      took = keeps_takes written written' [] keeps;
      leaves = (omega arith, refl);
      read = read_nothing reader same;
      answered = record {
        done = [];
        next = [];
        more = [];
        split = refl;
        unanswered = omega arith;
        answers = answers_none s;
      };
    })

-- the first book of a seat that made no change, and that knows no change but its own
first_book : (start : State) (new final : Book) (s : OwnToken) → s.author.changes ≡ []
    → HasMadeAll s → Extends new s.book → Extends final new → final.start ≡ start
    → record { start = start; changes = [] } ≡ s.book
first_book start new final s fresh m e f begins =
    let none : s.book.changes ≡ [] =
    none_more s.book.changes (m.all ∙ ap (λ (ns : List ℕ). length ns) fresh) in
    let starts : s.book.start ≡ start =
    ap (λ (b : Book). b.start) (sym e.1) ∙ ap (λ (b : Book). b.start) (sym f.1) ∙ begins in
    ap (λ (v : State). record { start = v; changes = [] }) (sym starts)
    ∙ ap (λ (cs : List Change_). record { start = s.book.start; changes = cs }) (sym none)

-- the server of a run was retired, and all its changes are those of the run's seat, which had made
-- none before
pub tells_retired : (start volume : State) (changes : ℕ) (result : Result (Unit {0}) RunFault)
    (reader : ReaderLog) (old new : OwnToken) (written written' : Option (List ℕ))
    → start ≡ empty_state 1000000000000 → old.author.changes ≡ []
    → TellsMade result reader old new written written'
    → (by : IsRetired start new.book volume changes) → new.author.changes ≡ numbers changes
    → TellsRetired start volume changes result reader written written'
tells_retired start volume changes result reader old new written written' root fresh h by all =
    let made : List Applied = changes_told h.replies ++ h.untold in
    let own : new.author.changes ≡ map (λ (t : Applied). t.change) made =
    ap (λ (x : Author). x.changes) h.made.author
    ∙ ap (λ (ns : List ℕ). ns ++ map (λ (t : Applied). t.change) made) fresh in
    let knows : KnowsOwn old =
    let no : length old.author.changes ≡ 0 = ap (λ (ns : List ℕ). length ns) fresh in
    omega (arith, no) in
    let count : length new.author.changes ≡ length by.book.changes =
    ap (λ (ns : List ℕ). length ns) all ∙ numbers_length changes ∙ by.number in
    let same : by.book ≡ new.book =
    extends_same by.book new.book by.later
    (let few = h.answered.answers.knows knows in
    let le = extends_length by.book new.book by.later in omega (arith, few, le, count)) in
    let every : HasMadeAll new = record {
      all = ap (λ (b : Book). length b.changes) (sym same) ∙ sym count;
      lawful = subst IsBook same by.full.lawful;
      first = ap (λ (b : Book). b.start.number) (sym same) ∙ by.full.first;
    } in
    let before = h.answered.answers.before knows every in
    let begins : script_session.core.book ≡ old.book =
    ap (λ (v : State). record { start = v; changes = [] }) (sym root)
    ∙ first_book start new.book by.book old fresh before h.made.later by.later by.begins in
    record {
      known = new.book;
      retired = by;
      tells = record {
        replies = h.replies;
        untold = h.untold;
        rest = h.rest;
        asked = h.asked;
        all = record {
          in_order = sym own ∙ all ∙ ap numbers by.number;
          each = each_later new.book by.book made by.later h.made.each;
        };
        took = h.took;
        leaves = h.leaves;
        read = h.read;
        answered = record {
          done = h.answered.done;
          next = h.answered.next;
          more = h.answered.more;
          split = h.answered.split;
          unanswered = h.answered.unanswered;
          replied = h.answered.answers.replied knows every script_session begins;
          book = h.answered.answers.book knows every script_session begins ∙ sym same;
        };
      };
    }

-- no line was carried out, and the book has no change
never_answers : (book : Book) → script_session.core.book ≡ book
    → AnswersScript (Err Memory) [] book []
never_answers book is = record {
  done = [];
  next = [];
  more = [];
  split = refl;
  unanswered = omega arith;
  replied = tt;
  book = is;
}

-- a server that was never made
pub tells_none : (e : RunFault) (reader : ReaderLog) (written written' : Option (List ℕ))
    → e ≡ Memory → Keeps written written' → reader.left' ≡ reader.left
    → TellsAllChanges (Err e) reader written written'
tells_none e reader written written' is keeps same =
    subst (λ (f : RunFault). TellsAllChanges (Err f) reader written written') (sym is) (record {
      book = record { start = empty_state 1000000000000; changes = [] };
      lawful = tt;
      begins = refl;
      tells = record {
        replies = [];
        untold = [];
        rest = [];
        asked = [];
        all = record { in_order = refl; each = tt };
        took = keeps_takes written written' [] keeps;
        leaves = (omega arith, refl);
        read = read_nothing reader same;
        answered = never_answers (record { start = empty_state 1000000000000; changes = [] }) refl;
      };
    })
