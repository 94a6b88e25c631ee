-- The replies of a seat's run are those of a session, where all changes that it knows are its own.
use Rattle.std.proofs.Common.{◌≡◌, ◌≢◌, ℕ, ◌+◌, List, [], ◌∷◌, ◌++◌, length, unwrap_or, IfOk, IfErr, true, false, Option, Some, None, Result, Ok, Err, refl, sym, ap, ◌∙◌, subst, arith, append_assoc, append-nil, length-append}
use Rattle.std.proofs.lemmas.List.{map-append}
use Rattle.lq_value.specs.declared.refusal.Refusal.{Refusal}
use Rattle.lq_value.specs.declared.refusal.Refusal.TheVariants.{NoEntry, NoMemory, NoNode}
use Rattle.lq_value.specs.Refusal.{first_refusal}
use Rattle.lq_value.specs.declared.entry.Entry.{Entry}
use Rattle.lq_predicate.specs.Query.{Query}
use Rattle.lq_volume.specs.State.{Record, State, node_in, record_at}
use Rattle.lq_volume.specs.Lookup.{entry_refusals, find_refusals}
use Rattle.lq_volume.specs.Result.{result_of}
use Rattle.lq_volume.specs.declared.change.Change.{Change as Change_}
use Rattle.lq_volume.specs.declared.change.Applied.{Applied}
use Rattle.lq_volume.specs.Change.{node_of, refused}
use Rattle.lq_volume.specs.Laws.{ChangesCount}
use Rattle.lq_volume.specs.Book.{AreLawful, Book, grown, number_of, state_of}
use Rattle.lq_board.specs.Known.{Author}
use Rattle.lq_server_slots.specs.Applied.{IsAdded}
use Rattle.lq_server.specs.Made.{MakesMore}
use Rattle.lq_desk_world.specs.declared.event.Event.{Event}
use Rattle.lq_desk_world.specs.declared.event.Event.TheVariants.{Change, Take}
use Rattle.lq_desk_world.specs.Events.{Changed}
use Rattle.lq_script_request.specs.declared.request.Request.TheVariants as request
use Rattle.lq_script_request.specs.declared.request.Look.{Look}
use Rattle.lq_script_request.specs.declared.request.Look.TheVariants as look
use Rattle.lq_script_lines.specs.declared.run_fault.RunFault.{RunFault}
use Rattle.lq_script_desk.specs.declared.response.Response.{Response as Response_}
use Rattle.lq_script_desk.specs.Answer.{response_of}
use Rattle.lq_script_desk.specs.Answered.{entry_answer, found_answer, found_in, line_outcome, look_response}
use Rattle.lq_script_desk.specs.Reply.{reply_text}
use Rattle.lq_script_desk.specs.Response.{Response, Answers as Answers_, Fetched, Found, Listed, Refuses}
use Rattle.lq_script_desk.specs.Session.{Session}
use Rattle.lq_script.specs.Asked.{AreReplies, Asked, after_asked, goes_by_changes, asked_reads}
use Rattle.lq_script.specs.Answers.{Answers, AnswersRefusal, HasMadeAll, KnowsOwn, Replies}
use Rattle.lq_script.specs.Progress.{OwnToken}
use Rattle.lq_script.proofs.BookLemmas.{before_is, extends_length, extends_same, lawful_front, state_number}
use Rattle.lq_script.proofs.TurnLemmas.{IsOther, change_answer, change_book, turn_answer, turn_book, turn_leaves}

-- ---- lines one after another

pub after_append : (s : Session) (xs ys : List Asked)
    → after_asked s (xs ++ ys) ≡ after_asked (after_asked s xs) ys
after_append s [] ys = refl
after_append s (x ∷ xs) ys = after_append (line_outcome s x).1 xs ys

replies_append : (s : Session) (xs ys : List Asked) (rs qs : List Response) → AreReplies s xs rs
    → AreReplies (after_asked s xs) ys qs → AreReplies s (xs ++ ys) (rs ++ qs)
replies_append s [] ys [] qs h k = k
replies_append s [] ys (r ∷ rs) qs h k = absurd h
replies_append s (x ∷ xs) ys [] qs h k = absurd h
replies_append s (x ∷ xs) ys (r ∷ rs) qs h k =
    (h.0, replies_append (line_outcome s x).1 xs ys rs qs h.1 k)

-- no line
pub answers_none : (a : OwnToken) → Answers a a [] [] []
answers_none a = record {
  knows = λ k. k;
  before = λ k m. m;
  replied = λ k m s e. tt;
  book = λ k m s e. e;
}

-- lines, and then more
pub answers_then : (a b c : OwnToken) (xs ys next : List Asked) (rs qs : List Response)
    → Answers a b xs [] rs → Answers b c ys next qs → Answers a c (xs ++ ys) next (rs ++ qs)
answers_then a b c xs ys next rs qs h k =
    let mid : KnowsOwn a → HasMadeAll c → (s : Session) → s.core.book ≡ a.book
    → (after_asked s xs).core.book ≡ b.book =
    λ o m s e.
    ap (λ (l : List Asked). (after_asked s l).core.book) (sym (append-nil xs))
    ∙ h.book o (k.before (h.knows o) m) s e in
    record {
      knows = λ o. k.knows (h.knows o);
      before = λ o m. h.before o (k.before (h.knows o) m);
      replied = λ o m s e. replies_append s xs ys rs qs
          (h.replied o (k.before (h.knows o) m) s e)
          (k.replied (h.knows o) m (after_asked s xs) (mid o m s e));
      book = λ o m s e.
          ap (λ (l : List Asked). (after_asked s l).core.book) (append_assoc xs ys next)
          ∙ ap (λ (t : Session). t.core.book) (after_append s xs (ys ++ next))
          ∙ k.book (h.knows o) m (after_asked s xs) (mid o m s e);
    }

-- lines whose replies are lost
pub answers_lost : (a b : OwnToken) (asked : List Asked) (replies : List Response)
    → Answers a b asked [] replies → Answers a b [] asked []
answers_lost a b asked replies h = record {
  knows = h.knows;
  before = h.before;
  replied = λ o m s e. tt;
  book = λ o m s e.
      ap (λ (l : List Asked). (after_asked s l).core.book) (sym (append-nil asked))
      ∙ h.book o m s e;
}

-- ---- a seat that makes no change

-- its changes stay
own_same : (a b : OwnToken) → MakesMore a b [] → b.author.changes ≡ a.author.changes
own_same a b h = ap (λ (x : Author). x.changes) h.author ∙ append-nil a.author.changes

own_count : (a b : OwnToken) → MakesMore a b []
    → length b.author.changes ≡ length a.author.changes
own_count a b h = ap (λ (ns : List ℕ). length ns) (own_same a b h)

-- nobody else made one
same_book : (a b : OwnToken) → MakesMore a b [] → KnowsOwn a → HasMadeAll b → b.book ≡ a.book
same_book a b h o m =
    extends_same b.book a.book h.later
    (let le = extends_length b.book a.book h.later in
    omega (arith, le, m.all, own_count a b h, o))

made_before : (a b : OwnToken) → MakesMore a b [] → KnowsOwn a → HasMadeAll b → HasMadeAll a
made_before a b h o m =
    let is = same_book a b h o m in
    record {
      all = ap (λ (x : Book). length x.changes) (sym is) ∙ m.all ∙ own_count a b h;
      lawful = subst (λ (x : Book). AreLawful x.start x.changes) is m.lawful;
      first = ap (λ (x : Book). x.start.number) (sym is) ∙ m.first;
    }

-- lines that change no book
pub answers_quiet : (a b : OwnToken) (asked : List Asked) (replies : List Response)
    → MakesMore a b []
    → (KnowsOwn a → HasMadeAll b → (s : Session) → s.core.book ≡ b.book
    → AreReplies s asked replies)
    → ((s : Session) → (after_asked s asked).core.book ≡ s.core.book)
    → Answers a b asked [] replies
answers_quiet a b asked replies h replied leaves = record {
  knows = λ o.
      let le = extends_length b.book a.book h.later in omega (arith, le, own_count a b h, o);
  before = made_before a b h;
  replied = λ o m s e. replied o m s (e ∙ sym (same_book a b h o m));
  book = λ o m s e.
      ap (λ (l : List Asked). (after_asked s l).core.book) (append-nil asked)
      ∙ leaves s ∙ e ∙ sym (same_book a b h o m);
}

-- a line that was not carried out
pub answers_stay : (a b : OwnToken) → MakesMore a b [] → Answers a b [] [] []
answers_stay a b h = answers_quiet a b [] [] h (λ o m s e. tt) (λ s. refl)

-- what a line asks changes no book
abbrev pub LeavesBook : Asked → Type 0
LeavesBook a = (s : Session) → (line_outcome s a).1.core.book ≡ s.core.book

-- a line that changes no book, with its reply
pub answers_line : (a b : OwnToken) (x : Asked) (r : Response) → MakesMore a b [] → LeavesBook x
    → (KnowsOwn a → HasMadeAll b → (s : Session) → s.core.book ≡ b.book
    → goes_by_changes x ≡ true → reply_text r ≡ reply_text (line_outcome s x).0)
    → Answers a b (x ∷ []) [] (r ∷ [])
answers_line a b x r h leaves replied =
    answers_quiet a b (x ∷ []) (r ∷ []) h (λ o m s e. (replied o m s e, tt)) leaves

-- a line without a request
pub answers_refused : (a : OwnToken) (e : Refusal) → MakesMore a a []
    → Answers a a (Err e ∷ []) [] (Refuses e ∷ [])
answers_refused a e h = answers_line a a (Err e) (Refuses e) h (λ s. refl) (λ o m s is b. refl)

-- an event that is no change
pub event_leaves : (e : Event) → IsOther e → LeavesBook (Ok (request.Event e))
event_leaves e other s = turn_leaves s.core e other

-- ---- a change

-- what a seat that made this change knew before it
record OneMore (a b : OwnToken) (t : Applied) (c : Change_) : Type 0 where
  made : HasMadeAll a
  book : b.book ≡ grown a.book (c ∷ [])
  lawful : refused (state_of a.book) c ≡ None
  answer : t ≡ record { change = number_of a.book + 1; node = node_of (state_of a.book) c }

-- its changes are one more
own_more : (a b : OwnToken) (t : Applied) → MakesMore a b (t ∷ [])
    → length b.author.changes ≡ length a.author.changes + 1
own_more a b t h =
    let is : length b.author.changes ≡ length (a.author.changes ++ t.change ∷ []) =
    ap (λ (x : Author). length x.changes) h.author in
    omega (arith, is, length-append a.author.changes (t.change ∷ []))

one_more : (a b : OwnToken) (t : Applied) (c : Change_) → MakesMore a b (t ∷ [])
    → IsAdded a.book b.book t c → KnowsOwn a → HasMadeAll b → OneMore a b t c
one_more a b t c h added o m =
    let more = own_more a b t h in
    let one : length b.book.changes ≡ length a.book.changes + 1 =
    omega (arith, added.above, added.number, m.all, more, o) in
    let before = before_is b.book a.book added.later one in
    let book : b.book ≡ grown a.book (c ∷ []) =
    added.place ∙ ap (λ (x : Book). grown x (c ∷ [])) before in
    let lawful = lawful_front a.book.start a.book.changes c
    (subst (λ (x : Book). AreLawful x.start x.changes) book m.lawful) in
    let first : a.book.start.number ≡ 0 = ap (λ (x : Book). x.start.number) (sym book) ∙ m.first in
    record {
      made = record {
        all = let k : length a.book.changes ≡ length a.author.changes =
            omega (arith, one, m.all, more) in k;
        lawful = lawful.0;
        first = first;
      };
      book = book;
      lawful = lawful.1;
      answer =
          ap (λ (n : ℕ). record { change = n; node = t.node })
          (let k : t.change ≡ number_of a.book + 1 = omega (arith, added.number, one, first) in k)
          ∙ ap (λ (n : ℕ). record { change = number_of a.book + 1; node = n })
          (added.node ∙ ap (λ (x : Book). node_of (state_of x) c) before);
    }

-- an accepted change
pub answers_change : (a b : OwnToken) (t : Applied) (c : Change_) → MakesMore a b (t ∷ [])
    → IsAdded a.book b.book t c
    → Answers a b (Ok (request.Event (Change c)) ∷ []) [] (Answers_ 0 (Changed t) ∷ [])
answers_change a b t c h added = record {
  knows = λ o. omega (arith, own_more a b t h, added.above, added.number, o);
  before = λ o m. (one_more a b t c h added o m).made;
  replied = λ o m s e.
      let is = one_more a b t c h added o m in (
        λ goes.
            ap (λ (x : Applied). reply_text (Answers_ 0 (Changed x))) is.answer
            ∙ ap (λ (r : Option Refusal). reply_text (Answers_ 0 (change_answer a.book c r)))
            (sym is.lawful)
            ∙ ap (λ (x : Book). reply_text
            (Answers_ 0 (change_answer x c (refused (state_of x) c)))) (sym e)
            ∙ ap (λ x. reply_text (Answers_ 0 x)) (sym (turn_answer s.core c)),
        tt,
      );
  book = λ o m s e.
      let is = one_more a b t c h added o m in
      turn_book s.core c
      ∙ ap (λ (x : Book). change_book x c (refused (state_of x) c)) e
      ∙ ap (λ (r : Option Refusal). change_book a.book c r) is.lawful
      ∙ sym is.book;
}

-- what an answer that isn't for want of memory says of the volume
refused_is : (r : Option Refusal) (e : Refusal) → e ≡ unwrap_or r NoMemory → e ≢ NoMemory
    → r ≡ Some e
refused_is None e is other = absurd (other is)
refused_is (Some x) e is other = ap Some (sym is)

-- a change that was refused
pub answers_no_change : (a b : OwnToken) (c : Change_) (e : Refusal) → MakesMore a b []
    → e ≡ unwrap_or (refused (state_of b.book) c) NoMemory → e ≢ NoMemory
    → Answers a b (Ok (request.Event (Change c)) ∷ []) [] (Refuses e ∷ [])
answers_no_change a b c e h is other =
    let no : refused (state_of b.book) c ≡ Some e =
    refused_is (refused (state_of b.book) c) e is other in
    record {
      knows = λ o.
          let le = extends_length b.book a.book h.later in omega (arith, le, own_count a b h, o);
      before = made_before a b h;
      replied = λ o m s k.
          let here : s.core.book ≡ b.book = k ∙ sym (same_book a b h o m) in (
            λ goes.
                ap (λ (r : Option Refusal). reply_text
                (Answers_ 0 (change_answer b.book c r))) (sym no)
                ∙ ap (λ (x : Book). reply_text
                (Answers_ 0 (change_answer x c (refused (state_of x) c)))) (sym here)
                ∙ ap (λ x. reply_text (Answers_ 0 x)) (sym (turn_answer s.core c)),
            tt,
          );
      book = λ o m s k.
          let here : s.core.book ≡ b.book = k ∙ sym (same_book a b h o m) in
          turn_book s.core c
          ∙ ap (λ (x : Book). change_book x c (refused (state_of x) c)) here
          ∙ ap (λ (r : Option Refusal). change_book b.book c r) no;
    }

-- what a refused change says
pub change_refused : (a b : OwnToken) (c : Change_) (e : Refusal) → MakesMore a b []
    → e ≡ unwrap_or (refused (state_of b.book) c) NoMemory
    → AnswersRefusal a b (Ok (request.Event (Change c))) e
change_refused a b c e h is =
    record { none = answers_stay a b h; refused = answers_no_change a b c e h is }

-- ---- looks

-- the reply to a look-up that found something
found_is : {T : Type 0} (r : Option Refusal) (missing : Refusal) (found : T → Response)
    (there : Option T) (x : T) → r ≡ None → there ≡ Some x
    → found_answer r missing found there ≡ found x
found_is r missing found there x none some =
    ap (λ (o : Option Refusal). found_answer o missing found there) none
    ∙ ap (λ o. found_answer None missing found o) some

-- and to one that was refused
refused_look : {T : Type 0} (r : Option Refusal) (missing : Refusal) (found : T → Response)
    (there : Option T) (e : Refusal) → r ≡ Some e → found_answer r missing found there ≡ Refuses e
refused_look r missing found there e is =
    ap (λ (o : Option Refusal). found_answer o missing found there) is

-- a look and its reply in the volume that the seat then knows
answers_look : (a b : OwnToken) (l : Look) (r : Response) → MakesMore a b []
    → (KnowsOwn a → HasMadeAll b → (s : Session) → s.core.book ≡ b.book → r ≡ look_response s l)
    → Answers a b (Ok (request.Look l) ∷ []) [] (r ∷ [])
answers_look a b l r h is =
    answers_line a b (Ok (request.Look l)) r h (λ s. refl)
    (λ o m s e goes. ap reply_text (is o m s e))

-- what a look-up by the volume answers where a session has this book
in_book : (s : Session) (b : Book) (f : State → Response) → s.core.book ≡ b
    → f (state_of b) ≡ f (state_of s.core.book)
in_book s b f e = ap (λ (x : Book). f (state_of x)) (sym e)

pub answers_find : (a b : OwnToken) (dir : ℕ) (name : List ℕ) (node : ℕ) → MakesMore a b []
    → node_in (state_of b.book).records dir name ≡ Some node
    → first_refusal (find_refusals (state_of b.book) dir name) ≡ None
    → Answers a b (Ok (request.Look (look.Find dir name)) ∷ []) [] (Found node ∷ [])
answers_find a b dir name node h there none =
    answers_look a b (look.Find dir name) (Found node) h (λ o m s e.
    sym (found_is (first_refusal (find_refusals (state_of b.book) dir name)) NoEntry Found
    (node_in (state_of b.book).records dir name) node none there)
    ∙ in_book s b.book (λ v. found_in v dir name) e)

pub find_refused : (a b : OwnToken) (dir : ℕ) (name : List ℕ) (e : Refusal) → MakesMore a b []
    → first_refusal (find_refusals (state_of b.book) dir name) ≡ Some e
    → AnswersRefusal a b (Ok (request.Look (look.Find dir name))) e
find_refused a b dir name e h is = record {
  none = answers_stay a b h;
  refused = λ other. answers_look a b (look.Find dir name) (Refuses e) h (λ o m s k.
      sym (refused_look (first_refusal (find_refusals (state_of b.book) dir name)) NoEntry Found
      (node_in (state_of b.book).records dir name) e is)
      ∙ in_book s b.book (λ v. found_in v dir name) k);
}

pub answers_entry : (a b : OwnToken) (node : ℕ) (r : Record) → MakesMore a b []
    → record_at (state_of b.book) node ≡ Some r
    → first_refusal (entry_refusals (state_of b.book) node) ≡ None
    → Answers a b (Ok (request.Look (look.Entry node)) ∷ []) [] (Listed node r ∷ [])
answers_entry a b node r h there none =
    answers_look a b (look.Entry node) (Listed node r) h (λ o m s e.
    sym (found_is (first_refusal (entry_refusals (state_of b.book) node)) NoNode (Listed node)
    (record_at (state_of b.book) node) r none there)
    ∙ in_book s b.book (λ v. entry_answer v node) e)

pub entry_refused : (a b : OwnToken) (node : ℕ) (e : Refusal) → MakesMore a b []
    → e ≡ unwrap_or (first_refusal (entry_refusals (state_of b.book) node)) NoMemory
    → AnswersRefusal a b (Ok (request.Look (look.Entry node))) e
entry_refused a b node e h is = record {
  none = answers_stay a b h;
  refused = λ other. answers_look a b (look.Entry node) (Refuses e) h (λ o m s k.
      sym (refused_look (first_refusal (entry_refusals (state_of b.book) node)) NoNode
      (Listed node) (record_at (state_of b.book) node) e
      (refused_is (first_refusal (entry_refusals (state_of b.book) node)) e is other))
      ∙ in_book s b.book (λ v. entry_answer v node) k);
}

pub answers_fetch : ChangesCount → (a b : OwnToken) (q : Query) (at : ℕ) (entries : List Entry)
    → MakesMore a b [] → at ≡ length b.book.changes → entries ≡ result_of q (state_of b.book)
    → Answers a b (Ok (request.Look (look.Fetch q)) ∷ []) [] (Fetched at entries ∷ [])
answers_fetch count a b q at entries h number is =
    answers_look a b (look.Fetch q) (Fetched at entries) h (λ o m s e.
    ap (λ (n : ℕ). Fetched n entries) (number ∙ sym (state_number count b.book m.first))
    ∙ ap (λ (l : List Entry). Fetched (state_of b.book).number l) is
    ∙ in_book s b.book (λ v. Fetched v.number (result_of q v)) e)

pub fetch_refused : (a b : OwnToken) (q : Query) (e : Refusal) → MakesMore a b [] → e ≡ NoMemory
    → AnswersRefusal a b (Ok (request.Look (look.Fetch q))) e
fetch_refused a b q e h is =
    record { none = answers_stay a b h; refused = λ other. absurd (other is) }

-- ---- lines of slots, whose replies no changes decide

pub answers_free : (a b : OwnToken) (x : Asked) (r : Response) → MakesMore a b [] → LeavesBook x
    → goes_by_changes x ≡ false → Answers a b (x ∷ []) [] (r ∷ [])
answers_free a b x r h leaves free =
    answers_line a b x r h leaves
    (λ o m s e goes. absurd (let no : false ≡ true = sym free ∙ goes in cc))

pub refused_free : (a b : OwnToken) (x : Asked) (e : Refusal) → MakesMore a b [] → LeavesBook x
    → goes_by_changes x ≡ false → AnswersRefusal a b x e
refused_free a b x e h leaves free = record {
  none = answers_stay a b h;
  refused = λ other. answers_free a b x (Refuses e) h leaves free;
}

pub ok_free : (r : Result Response_ Refusal) (a b : OwnToken) (x : Asked) → MakesMore a b []
    → LeavesBook x → goes_by_changes x ≡ false
    → IfOk r (λ y. Answers a b (x ∷ []) [] (response_of y ∷ []))
ok_free (Ok y) a b x h leaves free = answers_free a b x (response_of y) h leaves free
ok_free (Err e) a b x h leaves free = tt

pub err_free : (r : Result Response_ Refusal) (a b : OwnToken) (x : Asked) → MakesMore a b []
    → LeavesBook x → goes_by_changes x ≡ false → IfErr r (AnswersRefusal a b x)
err_free (Ok y) a b x h leaves free = tt
err_free (Err e) a b x h leaves free = refused_free a b x e h leaves free

-- ---- reads

reads_replied : (s : Session) (slots : List ℕ) (replies : List Response)
    → length replies ≡ length slots → AreReplies s (asked_reads slots) replies
reads_replied s [] [] n = tt
reads_replied s [] (r ∷ rs) n = absurd (let no : ⊥ = omega (arith, n) in no)
reads_replied s (x ∷ xs) [] n = absurd (let no : ⊥ = omega (arith, n) in no)
reads_replied s (x ∷ xs) (r ∷ rs) n = (
  λ goes. absurd (let no : false ≡ true = goes in cc),
  reads_replied (line_outcome s (Ok (request.Event (Take x)))).1 xs rs
      (let k : length rs ≡ length xs = omega (arith, n) in k),
)

reads_leave : (s : Session) (slots : List ℕ)
    → (after_asked s (asked_reads slots)).core.book ≡ s.core.book
reads_leave s [] = refl
reads_leave s (x ∷ xs) =
    reads_leave (line_outcome s (Ok (request.Event (Take x)))).1 xs
    ∙ event_leaves (Take x) tt s

pub answers_reads : (a b : OwnToken) (slots : List ℕ) (replies : List Response) → MakesMore a b []
    → length replies ≡ length slots → Answers a b (asked_reads slots) [] replies
answers_reads a b slots replies h n =
    answers_quiet a b (asked_reads slots) replies h
    (λ o m s e. reads_replied s slots replies n) (λ s. reads_leave s slots)

-- ---- lines that were carried out

-- no line
pub replied_none : (u : Unit {0}) (a : OwnToken) (slots : List ℕ)
    → Replies [] (Ok u) [] a a slots slots
replied_none u a slots = record {
  done = [];
  next = [];
  more = asked_reads slots;
  split = append-nil (asked_reads slots);
  leaves = (refl, refl);
  answers = answers_none a;
}

-- lines that were not carried out, for a fault
pub replied_never : (asked : List Asked) (e : RunFault) (a b : OwnToken) (slots slots' : List ℕ)
    → MakesMore a b [] → Replies asked (Err e) [] a b slots slots'
replied_never asked e a b slots slots' h = record {
  done = [];
  next = [];
  more = asked_reads slots ++ asked;
  split = refl;
  leaves = omega arith;
  answers = answers_stay a b h;
}

-- a line that was carried out, without reads that wait
pub replied_line : (u : Unit {0}) (x : Asked) (r : Response) (a b : OwnToken) (slots : List ℕ)
    → slots ≡ [] → Answers a b (x ∷ []) [] (r ∷ [])
    → Replies (x ∷ []) (Ok u) (r ∷ []) a b slots slots
replied_line u x r a b slots none h = record {
  done = x ∷ [];
  next = [];
  more = [];
  split = ap (λ (l : List ℕ). asked_reads l ++ x ∷ []) none;
  leaves = (refl, sym (ap asked_reads none));
  answers = h;
}

pub replied_fault : (e : RunFault) (x : Asked) (r : Response) (a b : OwnToken)
    (slots slots' : List ℕ) → slots ≡ [] → Answers a b (x ∷ []) [] (r ∷ [])
    → Replies (x ∷ []) (Err e) (r ∷ []) a b slots slots'
replied_fault e x r a b slots slots' none h = record {
  done = x ∷ [];
  next = [];
  more = [];
  split = ap (λ (l : List ℕ). asked_reads l ++ x ∷ []) none;
  leaves = omega arith;
  answers = h;
}

-- and one whose reply was lost
pub replied_lost : (e : RunFault) (x : Asked) (r : Response) (a b : OwnToken)
    (slots slots' : List ℕ) → slots ≡ [] → Answers a b (x ∷ []) [] (r ∷ [])
    → Replies (x ∷ []) (Err e) [] a b slots slots'
replied_lost e x r a b slots slots' none h = record {
  done = [];
  next = x ∷ [];
  more = [];
  split = ap (λ (l : List ℕ). asked_reads l ++ x ∷ []) none;
  leaves = omega arith;
  answers = answers_lost a b (x ∷ []) (r ∷ []) h;
}

-- a read that waits
pub replied_waits : (u : Unit {0}) (a : OwnToken) (slots slots' : List ℕ) (slot : ℕ)
    → slots' ≡ slots ++ slot ∷ [] → Replies (asked_reads (slot ∷ [])) (Ok u) [] a a slots slots'
replied_waits u a slots slots' slot is = record {
  done = [];
  next = [];
  more = asked_reads slots';
  split =
      sym (map-append (λ (n : ℕ). Ok (request.Event (Take n))) slots (slot ∷ []))
      ∙ ap asked_reads (sym is);
  leaves = (refl, refl);
  answers = answers_none a;
}

-- reads that waited, and have their replies
pub replied_reads : (u : Unit {0}) (a b : OwnToken) (slots : List ℕ) (replies : List Response)
    → MakesMore a b [] → length replies ≡ length slots → Replies [] (Ok u) replies a b slots []
replied_reads u a b slots replies h n = record {
  done = asked_reads slots;
  next = [];
  more = [];
  split = refl;
  leaves = (refl, refl);
  answers = answers_reads a b slots replies h n;
}

pub replied_reads_fault : (e : RunFault) (a b : OwnToken) (slots slots' : List ℕ)
    (replies : List Response) → MakesMore a b [] → length replies ≡ length slots
    → Replies [] (Err e) replies a b slots slots'
replied_reads_fault e a b slots slots' replies h n = record {
  done = asked_reads slots;
  next = [];
  more = [];
  split = refl;
  leaves = omega arith;
  answers = answers_reads a b slots replies h n;
}

-- after a fault more lines have no reply
pub replied_more : (xs ys : List Asked) (e : RunFault) (rs : List Response) (a b : OwnToken)
    (s s' : List ℕ) → Replies xs (Err e) rs a b s s' → Replies (xs ++ ys) (Err e) rs a b s s'
replied_more xs ys e rs a b s s' h = record {
  done = h.done;
  next = h.next;
  more = h.more ++ ys;
  split =
      sym (append_assoc (asked_reads s) xs ys)
      ∙ ap (λ (l : List Asked). l ++ ys) h.split
      ∙ append_assoc h.done (h.next ++ h.more) ys
      ∙ ap (λ (l : List Asked). h.done ++ l) (append_assoc h.next h.more ys);
  leaves = h.leaves;
  answers = h.answers;
}

-- lines after lines
pub replied_then : (xs ys : List Asked) (r : Result (Unit {0}) RunFault) (rs qs : List Response)
    (a b c : OwnToken) (s s' s'' : List ℕ) (u : Unit {0}) → Replies xs (Ok u) rs a b s s'
    → Replies ys r qs b c s' s'' → Replies (xs ++ ys) r (rs ++ qs) a c s s''
replied_then xs ys r rs qs a b c s s' s'' u h k =
    let first : asked_reads s ++ xs ≡ h.done ++ asked_reads s' =
    h.split
    ∙ ap (λ (l : List Asked). h.done ++ (l ++ h.more)) h.leaves.0
    ∙ ap (λ (l : List Asked). h.done ++ l) h.leaves.1 in
    record {
      done = h.done ++ k.done;
      next = k.next;
      more = k.more;
      split =
          sym (append_assoc (asked_reads s) xs ys)
          ∙ ap (λ (l : List Asked). l ++ ys) first
          ∙ append_assoc h.done (asked_reads s') ys
          ∙ ap (λ (l : List Asked). h.done ++ l) k.split
          ∙ sym (append_assoc h.done k.done (k.next ++ k.more));
      leaves = k.leaves;
      answers = answers_then a b c h.done k.done k.next rs qs
          (subst (λ (l : List Asked). Answers a b h.done l rs) h.leaves.0 h.answers) k.answers;
    }
