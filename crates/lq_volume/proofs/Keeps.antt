-- An accepted change keeps the numbers, the nodes and the tree, and alters no record but those it
-- touches.
use Rattle.std.proofs.Common.{◌≡◌, ◌≢◌, ℕ, ℤ, ◌+◌, ◌<◌, List, [], ◌∷◌, ◌++◌, refl, sym, arith, eqb, ap, ◌∙◌, Bool, true, false}
use Rattle.std.specs.Prelude.{not, filter, nat_eq, Option, Some, None, is_none, ◌&&◌, cond, nat_lt, ◌≤◌}
use Rattle.std.specs.Option.{option_map, option_map_or, option_to_list}
use Rattle.std.specs.List.{AllByRecursion}
use Rattle.std.specs.Map.{lookup}
use Rattle.std.specs.Str.{bytes_eq}
use Rattle.lq_value.specs.declared.value.Value.{Value}
use Rattle.std.proofs.lemmas.Bool.Decides.{nat_tests}
use Rattle.lq_value.specs.declared.kind.Kind.{Kind}
use Rattle.lq_volume.specs.declared.change.Change.{Change}
use Rattle.lq_volume.specs.declared.change.Change.TheVariants.{Create, Remove, Move, Write, SetAttr, RemoveAttr}
use Rattle.lq_volume_entries.specs.Attributes.{Attributes, HasOwnNames, is_reserved, with_attr, without_attr}
use Rattle.lq_volume_entries.specs.AttributeLaws.{NamesStayApart}
use Rattle.lq_volume_entries.specs.Kind.{is_folder}
use Rattle.lq_volume.specs.State.{State, Record, root, record_at, kind_at, is_folder_at, dir_of, reaches, node_in, has_entries, IsTree, IsFit, IsVolume}
use Rattle.lq_volume.specs.Change.{refused, refusals, after, node_of, record_left, at_place, rewritten, with_attrs, with_records, altered, without, other_at, other_than, is_other}
use Rattle.lq_volume_entries.specs.PlaceIndex.{CanMoveEntry}
use Rattle.lq_volume.specs.Laws.{ChangesKeepTrees, UntouchedStay, ClobberedGo}
use Rattle.lq_volume_entries.specs.Laws.{RecordsAreKept}
use Rattle.lq_volume.proofs.RecordLemmas.{Entries, All-then, All-filter, All-without, All-kept, is_taken-node_in}
use Rattle.lq_volume.proofs.Climbs.{Climb-more}
use Rattle.lq_volume.proofs.Changes.{none_holds, accepted_number, IsNumbered-create, IsNumbered-filter, IsNumbered-altered}
use Rattle.lq_volume.proofs.Tree.{IsChildless, childless-from_test, less-folder, IsTree-less, IsTree-edited, IsTree-kept, IsTree-more, dir_of-is, reaches-all, reaches-none, record-of}

-- a node that is there and is no file is a folder
pub is_folder-from_tests : (o : Option Kind)
    → is_none o ≡ false → option_map_or (λ k. not (is_folder k)) o false ≡ false
    → option_map_or is_folder o false ≡ true
is_folder-from_tests o h k = grind arith

-- a size that the test passes fits
small-from_test : (size : ℕ) → nat_lt 9223372036854775807 size ≡ false
    → size ≤ 9223372036854775807
small-from_test size h = grind (arith, nat_tests)

-- no name is that of a property
abbrev HasPlainNames : Attributes → Type 0
HasPlainNames attrs = AllByRecursion (λ a. is_reserved a.0 ≡ false) attrs

-- nor is one after another attribute is set
plain-with : (attrs : Attributes) (attr : List ℕ) (value : Value) → is_reserved attr ≡ false
    → HasPlainNames attrs → HasPlainNames (with_attr attrs attr value)
plain-with [] attr value off h = (off, tt)
plain-with (a ∷ attrs) attr value off h =
    elim (bytes_eq attr a.0) as (λ b. HasPlainNames
    (cond b ((a.0, value) ∷ attrs) (a ∷ with_attr attrs attr value))) [
      | true ↦ (h.0, h.1)
      | false ↦ (h.0, plain-with attrs attr value off h.1)
    ]

-- nor after one is removed
plain-without : (attrs : Attributes) (attr : List ℕ)
    → HasPlainNames attrs → HasPlainNames (without_attr attrs attr)
plain-without [] attr h = tt
plain-without (a ∷ attrs) attr h =
    elim (not (bytes_eq attr a.0)) as (λ b. HasPlainNames
    (cond b (a ∷ without_attr attrs attr) (without_attr attrs attr))) [
      | true ↦ (h.0, plain-without attrs attr h.1)
      | false ↦ plain-without attrs attr h.1
    ]

-- one record more
pub keeps-create : RecordsAreKept → (s : State) (new : Record) → new.attrs ≡ []
    → IsVolume s → refused s (Create new.dir new.name new.kind new.size new.time) ≡ None
    → IsVolume (record {
      limit = s.limit;
      number = s.number + 1;
      next = s.next + 1;
      records = s.records ++ (s.next, new) ∷ [];
    })
keeps-create laws s new bare v h =
    let rows = none_holds (refusals s (Create new.dir new.name new.kind new.size new.time)) h in
    record {
      numbered = IsNumbered-create laws s new v.numbered
          (accepted_number s (Create new.dir new.name new.kind new.size new.time) h);
      tree = IsTree-more laws s s.limit (s.number + 1) (s.next + 1) new v.numbered v.tree
          (is_folder-from_tests (kind_at s new.dir) rows.0 rows.1.0) rows.1.1.0
          (λ is. let r = rows.1.1.1.0 in grind (arith, nat_tests));
      fit = All-then (λ e. IsFit e.1) (λ e. IsFit e.1) s.records (s.next, new) (λ e h. h) v.fit
          (record {
            own = rw bare tt;
            plain = rw bare tt;
            small = small-from_test new.size rows.1.1.1.1.0;
          });
    }

-- an accepted removal leaves a volume
pub keeps-remove : RecordsAreKept → (s : State) (node : ℕ) → IsVolume s
    → refused s (Remove node) ≡ None
    → IsVolume (after s (Remove node))
keeps-remove laws s node v h =
    let rows = none_holds (refusals s (Remove node)) h in
    let differs : node ≡ root → ⊥ = let r = rows.1.0 in grind (arith, nat_tests) in
    record {
      numbered = IsNumbered-filter laws s (λ e. not (eqb e.0 node)) v.numbered
          (accepted_number s (Remove node) h);
      tree = IsTree-less laws s s.limit (s.number + 1) s.next node v.tree
          (childless-from_test laws s node v.tree rows.1.1.0) differs;
      fit = All-filter (λ e. IsFit e.1) (λ e. not (eqb e.0 node)) s.records v.fit;
    }

-- another node than this that is found at a place
other-found : (node : ℕ) (o : Option ℕ) (x : ℕ) → other_than node o ≡ Some x
    → (o ≡ Some x) × (x ≡ node → ⊥)
other-found node None x e = cc
other-found node (Some y) x e = (grind (arith, nat_tests), grind (arith, nat_tests))

-- a move takes no other node away
keeps-move_none : RecordsAreKept → (s : State) (node dir : ℕ) (name : List ℕ) → IsVolume s
    → other_at s node dir name ≡ None → is_folder_at s dir ≡ true → reaches s dir node ≡ false
    → IsTree (with_records s (altered node (at_place dir name) s.records))
keeps-move_none laws s node dir name v is folder below =
    IsTree-edited laws s node (at_place dir name) v.tree (λ r. refl)
    (λ _ _. folder) (λ _ _. below)
    (λ _ _ n r at e f. alone n r at e f (node_in s.records dir name) refl) (v.tree.sizes node)
  where
    alone : (n : ℕ) (r : Record) → record_at s n ≡ Some r → r.dir ≡ dir → r.name ≡ name
        → (o : Option ℕ) → node_in s.records dir name ≡ o → n ≡ node
    alone n r at e f None found = absurd (laws.places.none s.records dir name n r found at e f)
    alone n r at e f (Some x) found =
        let there = laws.places.some s.records dir name x v.numbered.rise found in
        let same : n ≡ x =
        v.tree.apart n x r there.0 at there.1 (e ∙ sym there.2) (f ∙ sym there.3) in
        let clash : other_than node (Some x) ≡ None = rw found at is in
        grind (arith, nat_tests)

-- a move takes another node away: it is at that place, and nothing is in it
module _ (laws : RecordsAreKept) (s : State) (x node dir : ℕ) (name : List ℕ)
    (v : IsVolume s) (is : other_at s node dir name ≡ Some x) (folder : is_folder_at s dir ≡ true)
    (empty : (is_folder_at s x && has_entries s x) ≡ false) where
  -- it has a record, with that place
  there : (r : Record) × (record_at s x ≡ Some r) × (r.dir ≡ dir) × (r.name ≡ name)
  there = laws.places.some s.records dir name x v.numbered.rise
      (other-found node (node_in s.records dir name) x is).0

  -- nothing is in it
  childless : IsChildless s x
  childless = childless-from_test laws s x v.tree empty

  -- it isn't the root
  no_root : x ≡ root → ⊥
  no_root e =
      let a = v.tree.no_root in
      let b : record_at s root ≡ Some there.0 = rw (← e) there.1 in
      cc

  -- the state without the node that is taken away
  abbrev without_x : State
  without_x = record s { records = filter (λ e. not (eqb e.0 x)) s.records }

  -- it is a tree
  tree : IsTree without_x
  tree = IsTree-less laws s s.limit s.number s.next x v.tree childless no_root

  -- a record there is one that was there, of another node
  was : (n : ℕ) (r : Record) → record_at without_x n ≡ Some r
      → (record_at s n ≡ Some r) × (n ≡ x → ⊥)
  was n r e =
      let l = laws.found.removed s.records x n in
      (grind (arith, nat_tests), grind (arith, nat_tests))

  -- the folder that is moved into isn't below the node that moves, there either
  below : reaches s dir node ≡ false → reaches without_x dir node ≡ false
  below off = reaches-none without_x dir node (λ k c.
      let d = Climb-more (dir_of without_x.records) (dir_of s.records) node k dir (λ n d h.
      let r = record-of without_x n d h in dir_of-is s n r.0 (was n r.0 r.1).0 ∙ ap Some r.2) c in
      let hit = (reaches-all laws s dir node v.tree folder).1 (k, d) in
      let clash : true ≡ false = sym hit ∙ off in
      cc)

  -- a move that takes a node away leaves a tree
  keeps-move_some : reaches s dir node ≡ false
      → IsTree (with_records s (altered node (at_place dir name) without_x.records))
  keeps-move_some off =
      IsTree-edited laws without_x node (at_place dir name) tree
      (λ r. refl)
      (λ _ _. less-folder laws s s.limit s.number s.next x v.tree childless no_root dir
      (λ e. childless x there.0 there.1 (there.2 ∙ e)) folder)
      (λ _ _. below off)
      (λ _ _ n r at e f. let w = was n r at in absurd
      (w.1 (v.tree.apart n x r there.0 w.0 there.1 (e ∙ sym there.2) (f ∙ sym there.3))))
      (tree.sizes node)

-- a move leaves a tree, whether or not it takes a node away
keeps-moved : RecordsAreKept → (s : State) (node dir : ℕ) (name : List ℕ) (other : Option ℕ)
    → IsVolume s → other_at s node dir name ≡ other
    → is_folder_at s dir ≡ true → reaches s dir node ≡ false
    → is_other other (λ x. is_folder_at s x && has_entries s x) ≡ false
    → IsTree (with_records s (altered node (at_place dir name) (without other s.records)))
keeps-moved laws s node dir name None v is folder off empty =
    keeps-move_none laws s node dir name v is folder off
keeps-moved laws s node dir name (Some x) v is folder off empty =
    keeps-move_some laws s x node dir name v is folder empty off

-- an accepted move leaves a volume
pub keeps-move : RecordsAreKept → (s : State) (node dir : ℕ) (name : List ℕ) (clobber : Bool)
    → IsVolume s → refused s (Move node dir name clobber) ≡ None
    → IsVolume (after s (Move node dir name clobber))
keeps-move laws s node dir name clobber v h =
    let rows = none_holds (refusals s (Move node dir name clobber)) h in
    record {
      numbered = IsNumbered-altered laws s (other_at s node dir name) node (at_place dir name)
          v.numbered (accepted_number s (Move node dir name clobber) h);
      tree = keeps-moved laws s node dir name (other_at s node dir name) v refl
          (is_folder-from_tests (kind_at s dir) rows.1.1.0 rows.1.1.1.0) rows.1.1.1.1.0
          rows.1.1.1.1.1.1.1.0;
      fit = All-kept (λ e. IsFit e.1) node
          (at_place dir name) (without (other_at s node dir name) s.records)
          (λ e h. record { own = h.own; plain = h.plain; small = h.small })
          (All-without (λ e. IsFit e.1) (other_at s node dir name) s.records v.fit);
    }

-- an accepted write leaves a volume
pub keeps-write : RecordsAreKept → (s : State) (node size : ℕ) (time : ℤ) → IsVolume s
    → refused s (Write node size time) ≡ None → IsVolume (after s (Write node size time))
keeps-write laws s node size time v h =
    let rows = none_holds (refusals s (Write node size time)) h in
    let file = rows.1.1.0 in
    let differs : eqb node root ≡ false = rows.1.0 in
    record {
      numbered = IsNumbered-altered laws s None node (rewritten size time) v.numbered
          (accepted_number s (Write node size time) h);
      tree = IsTree-kept laws s node (rewritten size time) v.tree
          (λ r. refl) (λ r. refl) (λ r. refl)
          (λ r is folder. absurd (let clash : is_folder_at s node ≡ true =
          grind (arith, nat_tests) in let no : ⊥ = cc in no));
      fit = All-kept (λ e. IsFit e.1) node (rewritten size time) s.records
          (λ e h. record {
            own = h.own;
            plain = h.plain;
            small = small-from_test size rows.1.1.1.0;
          })
          v.fit;
    }

-- attributes are no part of a tree
pub keeps-attrs : RecordsAreKept → (s : State) (node : ℕ) (f : Record → Attributes)
    → ((r : Record) → HasOwnNames r.attrs → HasOwnNames (f r))
    → ((r : Record) → HasPlainNames r.attrs → HasPlainNames (f r))
    → IsVolume s → s.number < s.limit
    → IsVolume (with_records s (altered node (λ r. with_attrs (f r) r) s.records))
keeps-attrs laws s node f own plain v more = record {
  numbered = IsNumbered-altered laws s None node (λ r. with_attrs (f r) r) v.numbered more;
  tree = IsTree-kept laws s node (λ r. with_attrs (f r) r) v.tree
      (λ r. refl) (λ r. refl) (λ r. refl) (λ r is folder. v.tree.sizes node r is folder);
  fit = All-kept (λ e. IsFit e.1) node (λ r. with_attrs (f r) r) s.records
      (λ e h. record { own = own e.1 h.own; plain = plain e.1 h.plain; small = h.small }) v.fit;
}

-- what the entries need of a creation and of a move
pub free-create : (s : State) (new : Record)
    → refused s (Create new.dir new.name new.kind new.size new.time) ≡ None
    → node_in s.records new.dir new.name ≡ None
free-create s new h =
    let rows = none_holds (refusals s (Create new.dir new.name new.kind new.size new.time)) h in
    let free = sym (is_taken-node_in s.records new.dir new.name) ∙ rows.1.1.0 in
    grind (arith, nat_tests)

-- an accepted move finds what the entries need of it
pub can-move : RecordsAreKept → (s : State) (node dir : ℕ) (name : List ℕ) (clobber : Bool)
    → IsVolume s → refused s (Move node dir name clobber) ≡ None
    → CanMoveEntry s.records node dir name (other_at s node dir name)
can-move laws s node dir name clobber v h =
    let rows = none_holds (refusals s (Move node dir name clobber)) h in
    record {
      apart = v.tree.apart;
      there = let is = rows.0 in let off = rows.1.0 in grind (arith, nat_tests);
      other_is = refl;
      stays_apart = (keeps-move laws s node dir name clobber v h).tree.apart;
    }

-- each accepted change leaves a volume
pub keeps-all : NamesStayApart → RecordsAreKept → ChangesKeepTrees
keeps-all own laws s (Create dir name kind size time) v h = keeps-create laws s
    (record { dir = dir; name = name; kind = kind; size = size; time = time; attrs = [] }) refl v h
keeps-all own laws s (Remove node) v h = keeps-remove laws s node v h
keeps-all own laws s (Move node dir name clobber) v h = keeps-move laws s node dir name clobber v h
keeps-all own laws s (Write node size time) v h = keeps-write laws s node size time v h
keeps-all own laws s (SetAttr node attr value) v h =
    keeps-attrs laws s node (λ r. with_attr r.attrs attr value)
    (λ r h. own.set r.attrs attr value h)
    (λ r plain. plain-with r.attrs attr value
    (none_holds (refusals s (SetAttr node attr value)) h).1.1.0 plain)
    v (accepted_number s (SetAttr node attr value) h)
keeps-all own laws s (RemoveAttr node attr) v h =
    keeps-attrs laws s node (λ r. without_attr r.attrs attr)
    (λ r h. own.removed r.attrs attr h)
    (λ r h. plain-without r.attrs attr h) v (accepted_number s (RemoveAttr node attr) h)

-- an altered record is what became of it, and each other is as it was
altered-here : RecordsAreKept → (es : Entries) (node : ℕ) (f : Record → Record)
    → lookup (nat_eq node) (altered node f es) ≡ option_map f (lookup (nat_eq node) es)
altered-here laws es node f = let l = laws.found.altered es node f node in grind (arith, nat_tests)

altered-other : RecordsAreKept → (es : Entries) (node : ℕ) (f : Record → Record) (n : ℕ) → n ≢ node
    → lookup (nat_eq n) es ≡ lookup (nat_eq n) (altered node f es)
altered-other laws es node f n differs =
    let l = laws.found.altered es node f n in grind (arith, nat_tests)

-- the record of a node that isn't the one taken away
look-without : RecordsAreKept → (es : Entries) (p : Option ℕ) (x : ℕ) → (p ≡ Some x → ⊥)
    → lookup (nat_eq x) (without p es) ≡ lookup (nat_eq x) es
look-without laws es None x off = refl
look-without laws es (Some y) x off =
    let l = laws.found.removed es y x in
    let differs : x ≡ y → ⊥ = λ e. off (ap Some (sym e)) in
    grind (arith, nat_tests)

-- a number that differs from the one in an option isn't that one
off-option : (o : Option ℕ) (n : ℕ) → AllByRecursion (λ node. n ≢ node) (option_to_list o)
    → o ≡ Some n → ⊥
off-option None n off e = cc
off-option (Some x) n off e = let differs = off.0 in grind (arith, nat_tests)

-- a node that a change doesn't touch keeps its record
pub untouched-all : RecordsAreKept → UntouchedStay
untouched-all laws s (Create dir name kind size time) n v h off =
    let l = laws.found.added s.records s.next (record {
      dir = dir;
      name = name;
      kind = kind;
      size = size;
      time = time;
      attrs = [];
    }) n v.numbered.below in
    let differs = off.0 in grind (arith, nat_tests)
untouched-all laws s (Remove node) n v h off =
    let l = laws.found.removed s.records node n in
    let differs = off.0 in
    grind (arith, nat_tests)
untouched-all laws s (Move node dir name clobber) n v h off =
    let other = other_at s node dir name in
    sym (look-without laws s.records other n (off-option other n off.1))
    ∙ altered-other laws (without other s.records) node (at_place dir name) n off.0
untouched-all laws s (Write node size time) n v h off =
    altered-other laws s.records node _ n off.0
untouched-all laws s (SetAttr node attr value) n v h off =
    altered-other laws s.records node _ n off.0
untouched-all laws s (RemoveAttr node attr) n v h off =
    altered-other laws s.records node _ n off.0

-- the record that is at the node of a change afterwards
pub record-left : RecordsAreKept → (s : State) (c : Change) → IsVolume s
    → record_at (after s c) (node_of s c) ≡ record_left s c
record-left laws s (Create dir name kind size time) v =
    let new : Record =
    record { dir = dir; name = name; kind = kind; size = size; time = time; attrs = [] } in
    let l = laws.found.added s.records s.next new s.next v.numbered.below in
    grind (arith, nat_tests)
record-left laws s (Remove node) v =
    let l = laws.found.removed s.records node node in
    grind (arith, nat_tests)
record-left laws s (Move node dir name clobber) v =
    altered-here laws (without (other_at s node dir name) s.records) node (at_place dir name)
    ∙ ap (option_map (at_place dir name)) (look-without laws s.records (other_at s node dir name)
    node (λ e. (other-found node (node_in s.records dir name) node e).1 refl))
record-left laws s (Write node size time) v = altered-here laws s.records node _
record-left laws s (SetAttr node attr value) v = altered-here laws s.records node _
record-left laws s (RemoveAttr node attr) v = altered-here laws s.records node _

-- the node that a move takes away is another one, and has no record afterwards
pub clobbered-go : RecordsAreKept → ClobberedGo
clobbered-go laws s (Create dir name kind size time) n v is = cc
clobbered-go laws s (Remove node) n v is = cc
clobbered-go laws s (Write node size time) n v is = cc
clobbered-go laws s (SetAttr node attr value) n v is = cc
clobbered-go laws s (RemoveAttr node attr) n v is = cc
clobbered-go laws s (Move node dir name clobber) n v is =
    let differs = (other-found node (node_in s.records dir name) n is).1 in (
      differs,
      rw is (let l = laws.found.altered (filter (λ e. not (eqb e.0 n)) s.records) node
          (at_place dir name) n in let k = laws.found.removed s.records n n in
          grind (arith, nat_tests)),
    )

-- the other node at a place has a record
pub other-there : RecordsAreKept → (s : State) (node dir : ℕ) (name : List ℕ) (x : ℕ) → IsVolume s
    → other_at s node dir name ≡ Some x → record_at s x ≡ None → ⊥
other-there laws s node dir name x v is none =
    let there = laws.places.some s.records dir name x v.numbered.rise
    (other-found node (node_in s.records dir name) x is).0 in
    let at = there.1 in
    cc
