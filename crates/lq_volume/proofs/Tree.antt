-- An accepted change keeps the tree.
use Rattle.std.proofs.Common.{◌≡◌, ◌⊎◌, subst, ℕ, zero, suc, ◌<◌, [], ◌∷◌, ◌++◌, refl, sym, arith, eqb, ap, ◌∙◌, true, false, length, inl, inr}
use Rattle.std.specs.Prelude.{Bool, not, filter, cond, Option, Some, None, ◌&&◌, ◌==◌}
use Rattle.std.specs.Option.{option_map}
use Rattle.std.specs.Str.{bytes_eq}
use Rattle.std.proofs.lemmas.Bool.Decides.{nat_tests}
use Rattle.std.proofs.lemmas.Bool.{cases_eq}
use Rattle.std.proofs.lemmas.Slice.Eq.{bytes_eq-Decides}
use Rattle.lq_volume_entries.specs.Kind.{is_folder}
use Rattle.lq_volume.specs.State.{State, Record, root, record_at, kind_at, is_folder_at, dir_of, reaches, has_entries, is_taken, IsNumbered, IsTree}
use Rattle.lq_volume.specs.Change.{altered, with_records}
use Rattle.lq_volume_entries.specs.Laws.{RecordsAreKept}
use Rattle.lq_volume.proofs.Climbs.{climbs-sound, climbs-complete, Climb-above, Climb-short, Climb-avoid, Climb-more, Climb-childless, Climb-moved, Climb-within}
use Rattle.lq_volume.specs.Walk.{Climb, ReachesAll}

-- a walk up from a node that is there reaches the root
pub reaches-root : (s : State) (n : ℕ) → IsTree s → (kind_at s n ≡ None → ⊥)
    → reaches s n root ≡ true
reaches-root s n t there = at (record_at s n) refl
  where
    at : (o : Option Record) → record_at s n ≡ o → reaches s n root ≡ true
    at (Some r) is = t.climb n r is
    at None is = climbs-complete (length s.records) 0 (dir_of s.records) root n (omega arith)
        (grind (arith, nat_tests))

-- a folder has a walk to the root
folder-climb : (s : State) (d : ℕ) → IsTree s → is_folder_at s d ≡ true
    → (k : ℕ) × Climb (dir_of s.records) root k d
folder-climb s d t h =
    let up = reaches-root s d t (λ none. let no : false ≡ true = rw none at h in cc) in
    let c = climbs-sound (length s.records) (dir_of s.records) root d up in
    (c.0, c.2)

-- each node with a record has one
node-climb : (s : State) (n : ℕ) (r : Record) → IsTree s → record_at s n ≡ Some r
    → (k : ℕ) × Climb (dir_of s.records) root k n
node-climb s n r t is =
    let c = climbs-sound (length s.records) (dir_of s.records) root n (t.climb n r is) in
    (c.0, c.2)

-- and a walk is found
climb-reaches : RecordsAreKept → (s : State) (n k : ℕ) → record_at s root ≡ None
    → Climb (dir_of s.records) root k n
    → reaches s n root ≡ true
climb-reaches laws s n k none c =
    let top : dir_of s.records root ≡ None = ap (option_map (λ (r : Record). r.dir)) none in
    climbs-complete (length s.records) k (dir_of s.records) root n
    (Climb-short laws k s.records root n top c) c

-- a node with a record is in that record's folder
pub dir_of-is : (s : State) (n : ℕ) (r : Record) → record_at s n ≡ Some r
    → dir_of s.records n ≡ Some r.dir
dir_of-is s n r is = ap (option_map (λ (v : Record). v.dir)) is

-- what a folder of a node says of a record
pub record-of : (s : State) (n d : ℕ) → dir_of s.records n ≡ Some d
    → (r : Record) × (record_at s n ≡ Some r) × (r.dir ≡ d)
record-of s n d is = at (record_at s n) refl is
  where
    at : (o : Option Record) → record_at s n ≡ o → option_map (λ (r : Record). r.dir) o ≡ Some d
        → (r : Record) × (record_at s n ≡ Some r) × (r.dir ≡ d)
    at None e more = cc
    at (Some r) e more = (r, e, cc)

-- nothing is in a node
abbrev pub IsChildless : State → ℕ → Type 0
IsChildless s x = (n : ℕ) (r : Record) → record_at s n ≡ Some r → r.dir ≡ x → ⊥

-- where the test of a removal and a move fails, nothing is in the node
pub childless-from_test : RecordsAreKept → (s : State) (x : ℕ) → IsTree s
    → (is_folder_at s x && has_entries s x) ≡ false → IsChildless s x
childless-from_test laws s x t h n r is e =
    let folder : is_folder_at s x ≡ true = rw (← e) (t.folders n r is) in
    let none : has_entries s x ≡ false = cc in
    let fails = laws.found.failing (λ v. v.dir == x) s.records n r none is in
    grind (arith, nat_tests)

-- one node less
module _ (laws : RecordsAreKept) (s : State) (limit number next x : ℕ) (t : IsTree s)
    (childless : IsChildless s x) (no_root : x ≡ root → ⊥) where
  -- the state without the node
  abbrev less : State
  less = record {
    limit = limit;
    number = number;
    next = next;
    records = filter (λ e. not (eqb e.0 x)) s.records;
  }

  -- a record there is another node's
  less-other : (n : ℕ) (r : Record) → record_at less n ≡ Some r → n ≡ x → ⊥
  less-other n r is e = let l = laws.found.removed s.records x n in grind (arith, nat_tests)

  -- each other node has its record
  less-same : (n : ℕ) → (n ≡ x → ⊥) → record_at less n ≡ record_at s n
  less-same n differs = let l = laws.found.removed s.records x n in grind (arith, nat_tests)

  -- a record there was there before
  less-old : (n : ℕ) (r : Record) → record_at less n ≡ Some r → record_at s n ≡ Some r
  less-old n r is = sym (less-same n (less-other n r is)) ∙ is

  -- each other node is in the folder that it was in
  less-dir : (n : ℕ) → (n ≡ x → ⊥) → dir_of less.records n ≡ dir_of s.records n
  less-dir n differs = ap (option_map (λ (r : Record). r.dir)) (less-same n differs)

  -- no node is in the one that goes
  less-none : (n : ℕ) → dir_of s.records n ≡ Some x → ⊥
  less-none n is = let r = record-of s n x is in childless n r.0 r.1 r.2

  -- the root has no record
  less-top : record_at less root ≡ None
  less-top = less-same root (λ e. no_root (sym e)) ∙ t.no_root

  -- each other folder is a folder still
  pub less-folder : (d : ℕ) → (d ≡ x → ⊥) → is_folder_at s d ≡ true → is_folder_at less d ≡ true
  less-folder d differs h = rw (less-same d differs) h

  -- with one node less, which nothing is in, the records are a tree
  pub IsTree-less : IsTree less
  IsTree-less = record {
    folders = λ n r is. less-folder r.dir (childless n r (less-old n r is))
        (t.folders n r (less-old n r is));
    climb = λ n r is.
        let c = node-climb s n r t (less-old n r is) in
        climb-reaches laws less n c.0 less-top
        (Climb-avoid (dir_of s.records) (dir_of less.records) root x c.0 n less-dir
        (λ j lt d. Climb-childless (dir_of s.records) x j n less-none (less-other n r is) d) c.1);
    apart = λ m n q r a b e f. t.apart m n q r (less-old m q a) (less-old n r b) e f;
    sizes = λ n r is. t.sizes n r (less-old n r is);
    no_root = less-top;
  }

-- in a tree the bounded walk from a folder finds all that any walk does
pub reaches-all : RecordsAreKept → ReachesAll
reaches-all laws s at to t folder = (
  (λ h. let c = climbs-sound (length s.records) (dir_of s.records) to at h in (c.0, c.2)),
  (λ w.
      let c = folder-climb s at t folder in
      let top : dir_of s.records root ≡ None = ap (option_map (λ (r : Record). r.dir)) t.no_root in
      let short = Climb-short laws c.0 s.records root at top c.1 in
      let less = Climb-within (dir_of s.records) root to c.0 w.0 at top c.1 w.1 in
      climbs-complete (length s.records) w.0 (dir_of s.records) to at (omega arith) w.1),
)

-- what no walk finds, the bounded one doesn't
pub reaches-none : (s : State) (at to : ℕ) → ((k : ℕ) → Climb (dir_of s.records) to k at → ⊥)
    → reaches s at to ≡ false
reaches-none s at to none = by (reaches s at to) refl
  where
    by : (b : Bool) → reaches s at to ≡ b → reaches s at to ≡ false
    by false e = e
    by true e =
        let c = climbs-sound (length s.records) (dir_of s.records) to at e in
        absurd (none c.0 c.2)

-- no walk from a node's folder comes back to the node
folder-off : (s : State) (n : ℕ) (r : Record) → IsTree s → record_at s n ≡ Some r
    → reaches s r.dir n ≡ false
folder-off s n r t is = reaches-none s r.dir n (above c.0 c.1)
  where
    c : (k : ℕ) × Climb (dir_of s.records) root k n
    c = node-climb s n r t is

    above : (j : ℕ) → Climb (dir_of s.records) root j n → (i : ℕ)
        → Climb (dir_of s.records) n i r.dir → ⊥
    above zero c i d =
        let none = t.no_root in
        let there : record_at s root ≡ Some r = rw c at is in
        cc
    above (suc k) c i d =
        let e = c.1 in
        let f = dir_of-is s n r is in
        let same : c.0 ≡ r.dir = cc in
        Climb-above (dir_of s.records) root n k (suc k) r.dir i
        (ap (option_map (λ (v : Record). v.dir)) t.no_root) (rw same at c.2) c (omega arith) d

-- one node's record altered, which keeps its kind, and with it perhaps its place
module _ (laws : RecordsAreKept) (s : State) (node : ℕ) (f : Record → Record)
    (t : IsTree s) (kinds : (r : Record) → (f r).kind ≡ r.kind) where
  -- the state with one record altered
  abbrev edited : State
  edited = with_records s (altered node f s.records)

  -- a record there is one that was there, or what became of it
  edited-old : (n : ℕ) (r : Record) → record_at edited n ≡ Some r
      → (v : Record) × (record_at s n ≡ Some v) × (v.kind ≡ r.kind)
      × (n ≡ node → (record_at s node ≡ Some v) × (f v ≡ r)) × ((n ≡ node → ⊥) → v ≡ r)
  edited-old n r is = at (record_at s n) refl (sym (laws.found.altered s.records node f n) ∙ is)
    where
      at : (o : Option Record) → record_at s n ≡ o
          → cond (eqb n node) (option_map f (record_at s n)) (record_at s n) ≡ Some r
          → (v : Record) × (record_at s n ≡ Some v) × (v.kind ≡ r.kind)
          × (n ≡ node → (record_at s node ≡ Some v) × (f v ≡ r)) × ((n ≡ node → ⊥) → v ≡ r)
      at None e h = absurd (grind (arith, nat_tests))
      at (Some v) e h = (
        v,
        e,
        (let k = kinds v in grind (arith, nat_tests)),
        λ same. (rw same at e, grind (arith, nat_tests)),
        λ differs. grind (arith, nat_tests),
      )

  -- each node is a folder just where it was one
  edited-kind : (d : ℕ) → is_folder_at edited d ≡ is_folder_at s d
  edited-kind d =
      let l = laws.found.altered s.records node f d in
      grind (arith, nat_tests, kinds)

  -- the root has no record
  edited-top : record_at edited root ≡ None
  edited-top =
      let l = laws.found.altered s.records node f root in
      let none = t.no_root in
      grind (arith, nat_tests)

  -- each other node is in the folder that it was in
  edited-dir : (n : ℕ) → (n ≡ node → ⊥) → dir_of edited.records n ≡ dir_of s.records n
  edited-dir n differs =
      let l = laws.found.altered s.records node f n in
      ap (option_map (λ (r : Record). r.dir)) (grind (arith, nat_tests))

  -- where the node's new folder isn't below it, its new place is free and a folder stays empty, the
  -- records are a tree
  module _ (folder : (v : Record) → record_at s node ≡ Some v → is_folder_at s (f v).dir ≡ true)
      (below : (v : Record) → record_at s node ≡ Some v → reaches s (f v).dir node ≡ false)
      (alone : (v : Record) → record_at s node ≡ Some v → (n : ℕ) (r : Record)
      → record_at s n ≡ Some r → r.dir ≡ (f v).dir → r.name ≡ (f v).name → n ≡ node)
      (empty : (v : Record) → record_at s node ≡ Some v → is_folder v.kind ≡ true
      → (f v).size ≡ 0) where
    -- the walk from the new folder keeps off the node
    edited-climb : (v : Record) → record_at s node ≡ Some v
        → (j : ℕ) × Climb (dir_of edited.records) root j node
    edited-climb v is =
        let c = folder-climb s (f v).dir t (folder v is) in
        let off = λ (j : ℕ) (lt : j < c.0) (d : Climb (dir_of s.records) node j (f v).dir).
        let hit = (reaches-all laws s (f v).dir node t (folder v is)).1 (j, d) in
        let clash : true ≡ false = sym hit ∙ below v is in
        let no : ⊥ = cc in
        no in
        let l = laws.found.altered s.records node f node in
        let here : dir_of edited.records node ≡ Some (f v).dir =
        ap (option_map (λ (r : Record). r.dir))
        (let there : record_at edited node ≡ Some (f v) = grind (arith, nat_tests) in there) in (
          suc c.0,
          (
            (f v).dir,
            here,
            Climb-avoid (dir_of s.records)
                (dir_of edited.records) root node c.0 (f v).dir edited-dir off c.1,
          ),
        )

    -- a walk goes up to the root from each node that had one
    edited-any : (o : Option Record) → record_at s node ≡ o → (n k : ℕ)
        → Climb (dir_of s.records) root k n → (j : ℕ) × Climb (dir_of edited.records) root j n
    edited-any None e n k c = (
      k,
      Climb-more (dir_of s.records) (dir_of edited.records) root k n (λ m d is.
          let l = laws.found.altered s.records node f m in grind (arith, nat_tests)) c,
    )
    edited-any (Some v) e n k c = Climb-moved (dir_of s.records)
        (dir_of edited.records) root node k n edited-dir (edited-climb v e) c

    pub IsTree-edited : IsTree edited
    IsTree-edited = record {
      folders = λ n r is. let o = edited-old n r is in elim (cases_eq n node) [
        | inl e ↦ let it = o.3 e in rw (edited-kind r.dir, ← it.1) (folder o.0 it.0)
        | inr differs ↦ rw (edited-kind r.dir, ← o.4 differs) (t.folders n o.0 o.1)
      ];
      climb = λ n r is. let o = edited-old n r is in
          let c = node-climb s n o.0 t o.1 in
          let j = edited-any (record_at s node) refl n c.0 c.1 in
          climb-reaches laws edited n j.0 edited-top j.1;
      apart = λ m n q r a b e g. let o = edited-old m q a in
          let p = edited-old n r b in
          elim (cases_eq m node) [
            | inl x ↦ elim (cases_eq n node) [
              | inl y ↦ x ∙ sym y
              | inr differs ↦
                  let it = o.3 x in let same = p.4 differs in
                  absurd (differs (alone o.0 it.0 n p.0 p.1 (cc) (cc)))
            ]
            | inr apart ↦ let same = o.4 apart in elim (cases_eq n node) [
              | inl y ↦
                  let it = p.3 y in
                  absurd (apart (alone p.0 it.0 m o.0 o.1 (cc) (cc)))
              | inr differs ↦
                  let too = p.4 differs in
                  t.apart m n o.0 p.0 o.1 p.1 (cc) (cc)
            ]
          ];
      sizes = λ n r is h. let o = edited-old n r is in
          let folds : is_folder o.0.kind ≡ true = ap is_folder o.2 ∙ h in
          elim (cases_eq n node) [
            | inl e ↦ let it = o.3 e in rw (← it.1) (empty o.0 it.0 folds)
            | inr differs ↦ rw (← o.4 differs) (t.sizes n o.0 o.1 folds)
          ];
      no_root = edited-top;
    }

-- one node's record altered, which keeps its place and kind
pub IsTree-kept : RecordsAreKept → (s : State) (node : ℕ) (f : Record → Record)
    → IsTree s → ((r : Record) → (f r).dir ≡ r.dir) → ((r : Record) → (f r).name ≡ r.name)
    → ((r : Record) → (f r).kind ≡ r.kind)
    → ((r : Record) → record_at s node ≡ Some r → is_folder r.kind ≡ true → (f r).size ≡ 0)
    → IsTree (with_records s (altered node f s.records))
IsTree-kept laws s node f t dirs names kinds empty =
    IsTree-edited laws s node f t kinds
    (λ v is. rw (dirs v) (t.folders node v is)) (λ v is. rw (dirs v) (folder-off s node v t is))
    (λ v is n r at e g. t.apart n node r v at is (e ∙ dirs v) (g ∙ names v)) empty

-- one node more
module _ (laws : RecordsAreKept) (s : State) (limit number next : ℕ) (v : Record)
    (n : IsNumbered s) (t : IsTree s) where
  -- the state with one record more, under the next node
  abbrev more : State
  more = record {
    limit = limit;
    number = number;
    next = next;
    records = s.records ++ (s.next, v) ∷ [];
  }

  -- the new node has its record
  more-here : record_at more s.next ≡ Some v
  more-here = let l = laws.found.added s.records s.next v s.next n.below in grind (arith, nat_tests)

  -- it had none before
  more-was : record_at s s.next ≡ None
  more-was = laws.found.above s.records s.next n.below

  -- each other node has its record
  more-same : (k : ℕ) → (k ≡ s.next → ⊥) → record_at more k ≡ record_at s k
  more-same k differs =
      let l = laws.found.added s.records s.next v k n.below in
      grind (arith, nat_tests)

  -- each record that was there is there
  more-at : (k : ℕ) (r : Record) → record_at s k ≡ Some r → record_at more k ≡ Some r
  more-at k r is =
      let l = laws.found.added s.records s.next v k n.below in
      let x = more-was in
      grind (arith, nat_tests)

  -- the root has no record
  more-top : record_at more root ≡ None
  more-top = let two = n.next in more-same root (λ e. omega arith) ∙ t.no_root

  -- each folder is a folder still
  more-folder : (d : ℕ) → is_folder_at s d ≡ true → is_folder_at more d ≡ true
  more-folder d h =
      let l = laws.found.added s.records s.next v d n.below in
      let x = more-was in
      grind (arith, nat_tests)

  -- each walk to the root is one still
  more-climb : (k j : ℕ) → Climb (dir_of s.records) root j k → Climb (dir_of more.records) root j k
  more-climb k j c = Climb-more (dir_of s.records) (dir_of more.records) root j k (λ m d is. let r =
      record-of s m d is in dir_of-is more m r.0 (more-at m r.0 r.1) ∙ ap Some r.2) c

  -- a record there is the new one, or was there
  more-old : (k : ℕ) (r : Record) → record_at more k ≡ Some r
      → ((k ≡ s.next) × (v ≡ r)) ⊎ (record_at s k ≡ Some r)
  more-old k r is =
      let l = laws.found.added s.records s.next v k n.below in elim (cases_eq k s.next) [
        | inl same ↦ inl (same, grind (arith, nat_tests))
        | inr differs ↦ inr (grind (arith, nat_tests))
      ]

  -- one more record, in a folder and at a free place, leaves a tree
  pub IsTree-more : is_folder_at s v.dir ≡ true → is_taken s v.dir v.name ≡ false
      → (is_folder v.kind ≡ true → v.size ≡ 0) → IsTree more
  IsTree-more folder free empty = record {
    folders = λ k r is. elim (more-old k r is) [
      | inl new ↦ rw (← new.1) (more-folder v.dir folder)
      | inr old ↦ more-folder r.dir (t.folders k r old)
    ];
    climb = λ k r is. elim (more-old k r is) [
      | inl new ↦
          let c = folder-climb s v.dir t folder in
          climb-reaches laws more k (suc c.0) more-top
          (v.dir, rw new.0 (dir_of-is more s.next v more-here), more-climb v.dir c.0 c.1)
      | inr old ↦
          let c = node-climb s k r t old in
          climb-reaches laws more k c.0 more-top (more-climb k c.0 c.1)
    ];
    apart = λ m k q r a b e f. elim (more-old m q a) [
      | inl x ↦ elim (more-old k r b) [
        | inl y ↦ x.0 ∙ sym y.0
        | inr old ↦ let new = x.1 in absurd (taken k r old (cc) (cc))
      ]
      | inr was ↦ elim (more-old k r b) [
        | inl y ↦ let new = y.1 in absurd (taken m q was (cc) (cc))
        | inr old ↦ t.apart m k q r was old e f
      ]
    ];
    sizes = λ k r is. elim (more-old k r is) [
      | inl new ↦ subst (λ (u : Record). is_folder u.kind ≡ true → u.size ≡ 0) new.1 empty
      | inr old ↦ t.sizes k r old
    ];
    no_root = more-top;
  }
    where
      taken : (k : ℕ) (r : Record) → record_at s k ≡ Some r → r.dir ≡ v.dir → r.name ≡ v.name → ⊥
      taken k r is e f =
          let fails = laws.found.failing
          (λ u. (u.dir == v.dir) && bytes_eq u.name v.name) s.records k r free is in
          let same = (bytes_eq-Decides r.name v.name).1 f in
          grind (arith, nat_tests)

-- no walk comes from a folder to a node that is none, since nothing is in it
pub reaches-file : (s : State) (node dir : ℕ) → IsTree s → is_folder_at s node ≡ false
    → is_folder_at s dir ≡ true → reaches s dir node ≡ false
reaches-file s node dir t file folder =
    reaches-none s dir node (λ k c. Climb-childless (dir_of s.records) node k dir alone differs c)
  where
    differs : dir ≡ node → ⊥
    differs e = let clash : is_folder_at s node ≡ true = rw (← e) folder in cc

    alone : (n : ℕ) → dir_of s.records n ≡ Some node → ⊥
    alone n is =
        let r = record-of s n node is in
        let clash : is_folder_at s node ≡ true = rw (← r.2) (t.folders n r.0 r.1) in
        cc
