-- Facts about every update list.
use Rattle.std.specs.Prelude.{◌≡◌, ◌↔◌, ◌⊎◌, ℕ, ℤ, ◌+◌, ◌≤◌, ◌<◌, List, [], ◌∷◌, ◌++◌, length, Bool, true, false, codes, Option, Some, None, IsSome}
use Rattle.std.specs.List.{AllByRecursion, list_any}
use Rattle.std.specs.Str.{bytes_eq}
use mathlib.Core.List.{IsPrefix}
use Rattle.lq_value.specs.declared.kind.Kind.{Kind}
use Rattle.lq_value.specs.Refusal.{first_refusal}
use Rattle.lq_predicate.specs.Query.{Query}
use Rattle.lq_predicate.specs.Laws.{GoesBy}
use Rattle.lq_predicate.specs.Needs.{needs_attribute}
use Rattle.lq_volume.specs.declared.change.Change.{Change}
use Rattle.lq_volume.specs.declared.change.Change.TheVariants.{Create, Write, SetAttr, RemoveAttr}
use Rattle.lq_volume.specs.State.{State, record_at, IsVolume}
use Rattle.lq_volume.specs.Change.{after, IsLawful}
use Rattle.lq_volume.specs.Book.{Book, Extends, after_all, grown, state_at, state_of, number_of, IsBook}
use Rattle.lq_volume.specs.Result.{match_at, result_of}
use Rattle.lq_update.specs.declared.message.Message.{Message}
use Rattle.lq_update.specs.declared.message.Opcode.TheVariants.{Created, Removed, ValueChanged}
use Rattle.lq_update.specs.declared.open_options.Flags.{Flags}
use Rattle.lq_update.specs.Diff.{diff}
use Rattle.lq_update.specs.Options.{no_values}
use Rattle.lq_update.specs.Touched.{is_match}
use Rattle.lq_update.specs.Values.{SameValue}
use Rattle.lq_update.specs.Updates.{step_of, updates_from, updates_of, IsSettled}
use Rattle.lq_update.specs.Fold.{Folding, ends_settled, settled_after, fold_refusals, folding_after_all, message_entry, opened_at, EntriesRise, folded, fits_in, last_change}

-- an update list up to a number is a prefix of the one up to the next number
abbrev pub UpdatesGrow : Type 0
UpdatesGrow = (q : Query) (flags : Flags) (b : Book) (m n : ℕ)
    → IsPrefix (updates_of q flags b m n) (updates_of q flags b m (n + 1))

-- the messages of a list of changes and further changes are those of the first list, then those of
-- the further ones from the state and number that the first ones lead to
abbrev pub UpdatesJoin : Type 0
UpdatesJoin = (q : Query) (flags : Flags) (s : State) (cs ds : List Change) (seq : ℕ) →
    updates_from q flags s (cs ++ ds) seq
    ≡ updates_from q flags s cs seq
    ++ updates_from q flags (after_all s cs) ds (seq + length (updates_from q flags s cs seq))

-- one more change in a book appends exactly its messages to an update list
abbrev pub ChangesAddSteps : Type 0
ChangesAddSteps = (q : Query) (flags : Flags) (b : Book) (c : Change) (m n : ℕ)
    → n ≡ number_of b → m ≤ n →
    updates_of q flags (grown b (c ∷ [])) m (n + 1)
    ≡ updates_of q flags b m n
    ++ step_of q flags (state_of b) c (length (updates_of q flags b m n) + 1)

-- a longer book has the same update list up to a number of the shorter one
abbrev pub UpdatesStay : Type 0
UpdatesStay = (q : Query) (flags : Flags) (longer b : Book) (m e : ℕ) → Extends longer b
    → b.start.number ≤ m → m ≤ e → e ≤ number_of b
    → updates_of q flags longer m e ≡ updates_of q flags b m e

-- an update list up to a number is a prefix of the update list up to a later number
abbrev pub UpdatesArePrefixes : Type 0
UpdatesArePrefixes = (q : Query) (flags : Flags) (b : Book) (m e n : ℕ) → e ≤ n
    → IsPrefix (updates_of q flags b m e) (updates_of q flags b m n)

-- an update list over no change is empty
abbrev pub UpdatesBeginEmpty : Type 0
UpdatesBeginEmpty = (q : Query) (flags : Flags) (b : Book) (m : ℕ) → updates_of q flags b m m ≡ []

-- an accepted change makes at most three messages for a query
abbrev pub StepsAreFew : Type 0
StepsAreFew = (q : Query) (flags : Flags) (s : State) (c : Change) (seq : ℕ) → IsVolume s
    → IsLawful s c → length (step_of q flags s c seq) ≤ 3

-- the entries of a result rise by node
abbrev pub ResultsRise : Type 0
ResultsRise = (q : Query) (s : State) → IsVolume s → EntriesRise (result_of q s)

-- folding a settled prefix of an update list over the opening's result gives the result after the
-- prefix's last change
abbrev pub FoldsGiveResults : Type 0
FoldsGiveResults = (q : Query) (flags : Flags) (b : Book) (m n : ℕ) (front : List Message)
    → IsVolume b.start → IsBook b → b.start.number ≤ m → m ≤ number_of b
    → IsPrefix front (updates_of q flags b m n) → IsSettled front
    → folded (result_of q (state_at b m)) front ≡ result_of q (state_at b (last_change m front))

-- folding a whole update list gives the result after all its changes
abbrev pub WholeFoldsGiveResults : Type 0
WholeFoldsGiveResults = (q : Query) (flags : Flags) (b : Book) (m n : ℕ) → IsVolume b.start
    → IsBook b → b.start.number ≤ m → m ≤ n
    → folded (result_of q (state_at b m)) (updates_of q flags b m n) ≡ result_of q (state_at b n)

-- After each prefix of an update list the next message fits: a removed triple or a moved one's old
-- triple is in the fold of the prefix, and a created one's node isn't.
abbrev pub MessagesFitIn : Type 0
MessagesFitIn = (q : Query) (flags : Flags) (b : Book) (m n : ℕ) (front rest : List Message)
    (message : Message) → IsVolume b.start → IsBook b
    → front ++ message ∷ rest ≡ updates_of q flags b m n
    → fits_in (folded (result_of q (state_at b m)) front) message ≡ true

-- after a prefix of an update list, a fold from the opening's result refuses no next message
abbrev pub RebuildsTakeAll : Type 0
RebuildsTakeAll = (q : Query) (flags : Flags) (b : Book) (m n : ℕ) (front rest : List Message)
    (message : Message) → IsVolume b.start → IsBook b → b.start.number ≤ m → m ≤ number_of b
    → front ++ message ∷ rest ≡ updates_of q flags b m n → first_refusal (fold_refusals
    (folding_after_all (opened_at m (result_of q (state_at b m))) front) message) ≡ None

-- folding many messages gives the entries of their fold, their last change, and whether they are
-- settled
abbrev pub FoldingsFollow : Type 0
FoldingsFollow = (f : Folding) (ms : List Message)
    → ((folding_after_all f ms).entries ≡ folded f.entries ms)
    × ((folding_after_all f ms).change ≡ last_change f.change ms)
    × ((folding_after_all f ms).settled ≡ settled_after f.settled ms)

-- a list is settled exactly where the test says so
abbrev pub SettledIsTested : Type 0
SettledIsTested = (ms : List Message) → IsSettled ms ↔ (ends_settled ms ≡ true)

-- the only names under which a change alters what an entry shows, if no place changes
abbrev pub names_altered : Change → Option (List (List ℕ))
names_altered (Write node size time) = Some (codes "size" ∷ codes "last_modified" ∷ [])
names_altered (SetAttr node attr value) = Some (attr ∷ [])
names_altered (RemoveAttr node attr) = Some (attr ∷ [])
names_altered c = None

-- a change under names that a predicate doesn't depend on leaves its result as it was
abbrev pub ChangesPassOver : Type 0
ChangesPassOver = (q : Query) (moved : Bool) (s : State) (c : Change)
    (names altered : List (List ℕ)) → IsVolume s → GoesBy names q → names_altered c ≡ Some altered
    → AllByRecursion (λ name. list_any (bytes_eq name) names ≡ false) altered
    → diff q moved s (after s c) ≡ []

-- a creation makes no message for a predicate that needs an attribute, since the new entry has none
abbrev pub BareCreatesTellNothing : Type 0
BareCreatesTellNothing = (q : Query) (flags : Flags) (s : State) (dir : ℕ) (name : List ℕ)
    (kind : Kind) (size : ℕ) (time : ℤ) (seq : ℕ) → IsVolume s
    → IsLawful s (Create dir name kind size time) → needs_attribute q ≡ true
    → step_of q flags s (Create dir name kind size time) seq ≡ []

-- a change without a message beside those of values leaves it as it was whether an entry matches
abbrev pub QuietKeepMatches : Type 0
QuietKeepMatches = (q : Query) (s : State) (c : Change) (seq node : ℕ) → IsVolume s
    → IsLawful s c → step_of q (no_values false) s c seq ≡ []
    → is_match q (record_at (after s c) node) ≡ is_match q (record_at s node)

-- these messages have one of this value of a node, for a change above this number
pub record TellsValue (ms : List Message) (node number : ℕ) (attribute : Option (List ℕ))
    : Type 0 where
  pub front : List Message
  pub message : Message
  pub rest : List Message
  pub among : ms ≡ front ++ message ∷ rest
  pub node_is : message.node ≡ node
  pub later : number < message.change
  pub tells : message.op ≡ ValueChanged attribute

-- these messages have a removed one of a node, for a change above this number, and after it a
-- created one
pub record LeavesAndComes (ms : List Message) (node number : ℕ) : Type 0 where
  pub front : List Message
  pub left : Message
  pub middle : List Message
  pub came : Message
  pub rest : List Message
  pub among : ms ≡ front ++ left ∷ middle ++ came ∷ rest
  pub nodes : (left.node ≡ node) × (came.node ≡ node)
  pub later : number < left.change
  pub removed : left.op ≡ Removed
  pub created : came.op ≡ Created

-- An update list with values tells each change within: where a node is in the result at two numbers
-- and a value of it differs, the messages between have one of this value, or else a removed message
-- of the node and later a created one.
abbrev pub ValuesAreTold : Type 0
ValuesAreTold = (q : Query) (flags : Flags) (b : Book) (at m n node : ℕ)
    (attribute : Option (List ℕ)) → flags.values ≡ true → IsVolume b.start → IsBook b
    → b.start.number ≤ at → at ≤ m → m ≤ n → n ≤ number_of b
    → IsSome (match_at q (state_at b m) node) → IsSome (match_at q (state_at b n) node)
    → (SameValue (state_at b m) (state_at b n) node attribute → ⊥)
    → TellsValue (updates_of q flags b at n) node m attribute
    ⊎ LeavesAndComes (updates_of q flags b at n) node m

-- the entry of a message of a value is in the result after its change, at this place
abbrev pub ValuesAreShown : Type 0
ValuesAreShown = (q : Query) (flags : Flags) (b : Book) (at n : ℕ) (front rest : List Message)
    (message : Message) (attribute : Option (List ℕ)) → IsVolume b.start → IsBook b
    → b.start.number ≤ at → at ≤ n → n ≤ number_of b
    → front ++ message ∷ rest ≡ updates_of q flags b at n → message.op ≡ ValueChanged attribute
    → match_at q (state_at b message.change) message.node ≡ Some (message_entry message)
