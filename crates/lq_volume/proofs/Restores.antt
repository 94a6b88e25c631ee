-- What the calls of a restoring keep, when its records are a tree, and that none refuses a volume.
use Rattle.std.proofs.Common.{◌≡◌, ℕ, suc, ◌+◌, ◌<◌, ◌≤◌, [], ◌∷◌, ◌++◌, append_assoc, refl, sym, arith, eqb, ap, ◌∙◌, subst, Bool, true, false}
use Rattle.std.specs.Prelude.{not, cond, nat_eq, nat_le, nat_lt, Option, Some, None, is_some, ◌&&◌, ◌==◌, take, drop, slice_get}
use Rattle.std.specs.List.{AllByRecursion}
use Rattle.std.specs.Map.{lookup}
use Rattle.std.proofs.lemmas.Bool.Decides.{nat_tests}
use Rattle.std.proofs.lemmas.List.{append-nil}
use Rattle.lq_volume.specs.declared.restore_fault.RestoreFault.TheVariants.{Ring}
use Rattle.lq_volume_entries.specs.Kind.{is_folder}
use Rattle.lq_volume_entries.specs.Laws.{RecordsAreKept}
use Rattle.lq_volume_entries.specs.PlaceIndex.{IsApart}
use Rattle.lq_volume.specs.State.{State, Record, root, record_at, kind_at, is_folder_at, reaches, node_in, is_taken, IsNumbered, IsFit, IsVolume}
use Rattle.lq_volume.specs.Restore.{first_fault, start_faults, last_node, started, place_faults, attr_faults, push_faults, pushed, all_folder_faults, finish_faults, all_reach, IsPartial, IsRestoring, IsRestored, VolumesAreRestored}
use Rattle.lq_volume.proofs.RecordLemmas.{Entries, All-then, is_taken-node_in}
use Rattle.lq_volume.proofs.Keeps.{is_folder-from_tests}
use Rattle.lq_volume.proofs.FaultLemmas.{none_faults, both-pass, later-decide, first-pass}
use Rattle.lq_volume.proofs.EntryLists.{All-found, found-All, found-own, Rises-front, Rises-of_front, All-middle, lookup-front, lookup-middle, last-pushed, last-below, last-above, below-last, all-hold, hold-all, split-at}
use Rattle.lq_volume.proofs.AttributeLemmas.{attrs-own, attrs-plain, attrs-pass}

-- a volume that is begun is a part of one
pub begun : (limit number next : ℕ) → limit ≤ 1000000000000 → number ≤ limit → 2 ≤ next
    → next ≤ number + 2 → IsRestoring (started limit number next) root
begun limit number next low few least most = record {
  part = record {
    numbered = record {
      limit = low;
      number = few;
      next = least;
      few = most;
      rise = tt;
      above = tt;
      below = tt;
    };
    apart = λ m n q r a b e f. cc;
    sizes = tt;
    fit = tt;
  };
  is_last = refl;
}

-- one more record that the tests pass
module _ (laws : RecordsAreKept) (s : State) (last node : ℕ) (r : Record) (is : IsRestoring s last)
    (place : first_fault (place_faults s node r) ≡ None) where
  -- the rows
  rows : AllByRecursion (λ row. row.0 ≡ false) (place_faults s node r)
  rows = none_faults (place_faults s node r) place

  -- its node is above the last one
  above_last : last_node s.records < node
  above_last = let h = rows.0 in grind (arith, nat_tests)

  -- and above all
  pub all-below : AllByRecursion (λ f. f.0 < node) s.records
  all-below = below-last root node s.records is.part.numbered.rise above_last

  -- its place is free
  pub place-free : node_in s.records r.dir r.name ≡ None
  place-free =
      let free = sym (is_taken-node_in s.records r.dir r.name) ∙ rows.1.1.0 in
      grind (arith, nat_tests)

  -- its size fits
  pub size-fits : r.size ≤ 9223372036854775807
  size-fits = let h = rows.1.1.1.1.0 in grind (arith, nat_tests)

  -- no two records share a place
  apart-pushed : IsApart (pushed s node r).records
  apart-pushed m n q v at_m at_n dirs names =
      let a = laws.found.added s.records node r m all-below in
      let b = laws.found.added s.records node r n all-below in
      by (eqb m node) (eqb n node) refl refl (sym a ∙ at_m) (sym b ∙ at_n)
    where
      by : (x y : Bool) → eqb m node ≡ x → eqb n node ≡ y
          → cond (eqb m node) (Some r) (lookup (nat_eq m) s.records) ≡ Some q
          → cond (eqb n node) (Some r) (lookup (nat_eq n) s.records) ≡ Some v → m ≡ n
      by true true e f g h = grind (arith, nat_tests)
      by true false e f g h =
          let same : r ≡ q = grind (arith, nat_tests) in
          let there : lookup (nat_eq n) s.records ≡ Some v = grind (arith, nat_tests) in
          absurd (laws.places.none s.records r.dir r.name n v place-free there
          (sym dirs ∙ ap (λ (w : Record). w.dir) (sym same))
          (sym names ∙ ap (λ (w : Record). w.name) (sym same)))
      by false true e f g h =
          let same : r ≡ v = grind (arith, nat_tests) in
          let there : lookup (nat_eq m) s.records ≡ Some q = grind (arith, nat_tests) in
          absurd (laws.places.none s.records r.dir r.name m q place-free there
          (dirs ∙ ap (λ (w : Record). w.dir) (sym same))
          (names ∙ ap (λ (w : Record). w.name) (sym same)))
      by false false e f g h = is.part.apart m n q v
          (grind (arith, nat_tests)) (grind (arith, nat_tests)) dirs names

  -- the records are a part of a volume still
  pub IsRestoring-pushed : IsFit r → IsRestoring (pushed s node r) node
  IsRestoring-pushed fits = record {
    part = record {
      numbered = record {
        limit = is.part.numbered.limit;
        number = is.part.numbered.number;
        next = is.part.numbered.next;
        few = is.part.numbered.few;
        rise = laws.rise.added s.records node r is.part.numbered.rise all-below;
        above = All-then (λ e. 2 ≤ e.0) (λ e. 2 ≤ e.0) s.records (node, r) (λ e le. le)
            is.part.numbered.above
            (let least = last-above root 1 s.records (omega arith)
            (ones s.records is.part.numbered.above) in
            let over = above_last in
            omega arith);
        below = All-then (λ e. e.0 < s.next) (λ e. e.0 < s.next) s.records (node, r) (λ e lt. lt)
            is.part.numbered.below (let h = rows.1.0 in grind (arith, nat_tests));
      };
      apart = apart-pushed;
      sizes = All-then (λ e. (is_folder e.1.kind && not (e.1.size == 0)) ≡ false)
          (λ e. (is_folder e.1.kind && not (e.1.size == 0)) ≡ false) s.records (node, r) (λ e h. h)
          is.part.sizes rows.1.1.1.0;
      fit = All-then (λ e. IsFit e.1) (λ e. IsFit e.1) s.records (node, r) (λ e h. h)
          is.part.fit fits;
    };
    is_last = sym (last-pushed root s.records (node, r));
  }
    where
      ones : (es : Entries) → AllByRecursion (λ e. 2 ≤ e.0) es → AllByRecursion (λ e. 1 ≤ e.0) es
      ones [] h = tt
      ones (e ∷ es) h = let least = h.0 in (omega arith, ones es h.1)

-- each record's folder is there and no file, where the tests pass
folders-pass : (s : State) (es : Entries) → first_fault (all_folder_faults s es) ≡ None
    → AllByRecursion (λ e. is_folder_at s e.1.dir ≡ true) es
folders-pass s [] h = tt
folders-pass s (e ∷ es) h =
    let rows = none_faults (all_folder_faults s (e ∷ es)) h in (
      is_folder-from_tests (kind_at s e.1.dir) rows.0 rows.1.0,
      folders-pass s es (grind (arith, nat_tests)),
    )

-- the same back
pass-folders : (s : State) (es : Entries)
    → AllByRecursion (λ e. is_folder_at s e.1.dir ≡ true) es
    → first_fault (all_folder_faults s es) ≡ None
pass-folders s [] h = refl
pass-folders s (e ∷ es) h =
    let rest = pass-folders s es h.1 in
    let folder = h.0 in
    grind (arith, nat_tests)

-- the root has no record
pub top-free : (s : State) → IsNumbered s → record_at s root ≡ None
top-free s n = by (record_at s root) refl
  where
    by : (o : Option Record) → record_at s root ≡ o → record_at s root ≡ None
    by None e = e
    by (Some r) e =
        let least = All-found (λ e. 2 ≤ e.0) s.records root r n.above e in
        absurd (omega arith)

-- a part of a volume that the last tests pass is a volume
pub volume-from_tests : (s : State) → IsPartial s → first_fault (finish_faults s) ≡ None
    → IsVolume s
volume-from_tests s p h = record {
  numbered = p.numbered;
  tree = record {
    folders = λ n r is. All-found (λ e. is_folder_at s e.1.dir ≡ true) s.records n r folders is;
    climb = λ n r is. All-found (λ e. reaches s e.0 root ≡ true) s.records n r climbs_all is;
    apart = p.apart;
    sizes = λ n r is folder.
        let test = All-found (λ e. (is_folder e.1.kind && not (e.1.size == 0)) ≡ false)
        s.records n r p.sizes is in
        grind (arith, nat_tests);
    no_root = top-free s p.numbered;
  };
  fit = p.fit;
}
  where
    folders : AllByRecursion (λ e. is_folder_at s e.1.dir ≡ true) s.records
    folders = folders-pass s s.records (first-pass (all_folder_faults s s.records) _ h)

    climbs_all : AllByRecursion (λ e. reaches s e.0 root ≡ true) s.records
    climbs_all =
        let last = sym (later-decide (all_folder_faults s s.records) _
        (first-pass (all_folder_faults s s.records) _ h)) ∙ h in
        let all : all_reach s ≡ true = grind (arith, nat_tests) in
        all-hold (λ e. reaches s e.0 root) s.records all

-- no call of a restoring refuses a volume
module _ (laws : RecordsAreKept) (s : State) (v : IsVolume s) where
  -- each record is found under its node
  own : AllByRecursion (λ e. lookup (nat_eq e.0) s.records ≡ Some e.1) s.records
  own = found-own s.records v.numbered.rise

  -- the last tests pass
  finish-passes : first_fault (finish_faults s) ≡ None
  finish-passes =
      let all = hold-all (λ e. reaches s e.0 root) s.records
      (found-All (λ e. reaches s e.0 root ≡ true) s.records v.numbered.rise
      (λ n r is. v.tree.climb n r is)) in
      both-pass (all_folder_faults s s.records) _ (pass-folders s s.records
      (found-All (λ e. is_folder_at s e.1.dir ≡ true) s.records v.numbered.rise
      (λ n r is. v.tree.folders n r is))) (grind (arith, nat_tests))

  -- the tests of a record pass after those before it
  module _ (es fs : Entries) (e : ℕ × Record) (all : s.records ≡ es ++ e ∷ fs) where
    -- the state with the records before it
    abbrev before : State
    before = record { limit = s.limit; number = s.number; next = s.next; records = es }

    -- the nodes before it are below
    front : AllByRecursion (λ f. f.0 < e.0) es
    front = Rises-front es fs e (rw (← all) v.numbered.rise)

    -- it is found in the volume
    here : lookup (nat_eq e.0) s.records ≡ Some e.1
    here = rw all (lookup-middle es fs e front)

    -- no record before it has its place
    free : node_in es e.1.dir e.1.name ≡ None
    free = by (node_in es e.1.dir e.1.name) refl
      where
        by : (o : Option ℕ) → node_in es e.1.dir e.1.name ≡ o
            → node_in es e.1.dir e.1.name ≡ None
        by None is = is
        by (Some n) is =
            let there = laws.places.some es e.1.dir e.1.name n
            (Rises-of_front es (e ∷ fs) (rw (← all) v.numbered.rise)) is in
            let found : lookup (nat_eq n) s.records ≡ Some there.0 =
            rw all (lookup-front es (e ∷ fs) n there.0 there.1) in
            let same = v.tree.apart n e.0 there.0 e.1 found here there.2 there.3 in
            let less = All-found (λ f. f.0 < e.0) es n there.0 front there.1 in
            absurd (omega arith)

    -- the tests of its node, place and size
    place-passes : first_fault (place_faults before e.0 e.1) ≡ None
    place-passes =
        let least : 2 ≤ e.0 = All-middle (λ f. 2 ≤ f.0) es fs e (rw (← all) v.numbered.above) in
        let most : e.0 < s.next = All-middle (λ f. f.0 < s.next) es fs e
        (rw (← all) v.numbered.below) in
        let last : last_node es < e.0 = last-below root e.0 es (omega arith) front in
        let a : nat_le e.0 (last_node es) ≡ false = grind (arith, nat_tests) in
        let b : nat_le s.next e.0 ≡ false = grind (arith, nat_tests) in
        let c : is_taken before e.1.dir e.1.name ≡ false =
        is_taken-node_in es e.1.dir e.1.name ∙ ap is_some free in
        let size = v.tree.sizes e.0 e.1 here in
        let d : (is_folder e.1.kind && not (e.1.size == 0)) ≡ false = grind (arith, nat_tests) in
        let small = (All-found (λ f. IsFit f.1) s.records e.0 e.1 v.fit here).small in
        let f : nat_lt 9223372036854775807 e.1.size ≡ false = grind (arith, nat_tests) in
        grind arith

    -- all its tests
    push-passes : first_fault (push_faults before e.0 e.1) ≡ None
    push-passes =
        let fits = All-found (λ f. IsFit f.1) s.records e.0 e.1 v.fit here in
        both-pass (place_faults before e.0 e.1) (attr_faults [] e.1.attrs) place-passes
        (attrs-pass [] e.1.attrs fits.own fits.plain)

  -- all calls
  pub restored : IsRestored s
  restored = record {
    start =
        let a = v.numbered.number in
        let b = v.numbered.next in
        let c = v.numbered.few in
        grind (arith, nat_tests);
    push = λ es fs e all. push-passes es fs e all;
    finish = finish-passes;
  }

-- where each folder is one, the walks decide
pub finish-fails : (s : State) → first_fault (all_folder_faults s s.records) ≡ None
    → all_reach s ≡ false → first_fault (finish_faults s) ≡ Some Ring
finish-fails s folders walks = later-decide (all_folder_faults s s.records) _ folders
    ∙ ap (λ (b : Bool). first_fault ((not b, Ring) ∷ [])) walks

pub finish-holds : (s : State) → first_fault (all_folder_faults s s.records) ≡ None
    → all_reach s ≡ true → first_fault (finish_faults s) ≡ None
finish-holds s folders walks = later-decide (all_folder_faults s s.records) _ folders
    ∙ ap (λ (b : Bool). first_fault ((not b, Ring) ∷ [])) walks

-- a volume's record is not refused after those before it
pub push-restores : VolumesAreRestored → (s t : State) (i node : ℕ) (r : Record) → IsVolume s
    → slice_get s.records i ≡ Some (node, r)
    → t ≡ record { limit = s.limit; number = s.number; next = s.next; records = take i s.records }
    → first_fault (push_faults t node r) ≡ None
push-restores all s t i node r v at is =
    rw is (((all s v.numbered.limit).0 v).push (take i s.records) (drop (suc i) s.records) (node, r)
    (split-at s.records i (node, r) at))

-- records that no call refuses are a volume
module _ (laws : RecordsAreKept) (s : State) (low : s.limit ≤ 1000000000000)
    (is : IsRestored s) where
  -- the state with some of the records
  abbrev of_front : Entries → State
  of_front es = record { limit = s.limit; number = s.number; next = s.next; records = es }

  -- before the first record
  first-part : IsRestoring (of_front []) root
  first-part =
      let rows = none_faults (start_faults s.limit s.number s.next) is.start in
      let over = rows.0 in
      let off = rows.1.0 in
      begun s.limit s.number s.next low
      (grind (arith, nat_tests)) (grind (arith, nat_tests)) (grind (arith, nat_tests))

  -- after all of them
  whole-part : (es fs : Entries) → s.records ≡ es ++ fs → IsRestoring (of_front es) (last_node es)
      → IsRestoring (of_front s.records) (last_node s.records)
  whole-part es [] all h =
      let same : es ≡ s.records = sym (append-nil es) ∙ sym all in
      subst (λ (gs : Entries). IsRestoring (of_front gs) (last_node gs)) same h
  whole-part es (f ∷ fs) all h =
      let passes = is.push es fs f all in
      let place = first-pass (place_faults (of_front es) f.0 f.1) (attr_faults [] f.1.attrs)
      passes in
      let attrs = sym (later-decide (place_faults (of_front es) f.0 f.1)
      (attr_faults [] f.1.attrs) place) ∙ passes in
      let next = IsRestoring-pushed laws (of_front es) (last_node es) f.0 f.1 h place (record {
        own = attrs-own [] f.1.attrs attrs tt;
        plain = attrs-plain [] f.1.attrs attrs;
        small = size-fits laws (of_front es) (last_node es) f.0 f.1 h place;
      }) in
      whole-part (es ++ f ∷ []) fs (all ∙ sym (append_assoc es (f ∷ []) fs))
      (subst (λ (n : ℕ). IsRestoring (of_front (es ++ f ∷ [])) n)
      (sym (last-pushed root es f)) next)

  -- so they are one
  pub volume-restored : IsVolume s
  volume-restored =
      volume-from_tests s (whole-part [] s.records refl first-part).part is.finish

-- every volume, and nothing else
pub restored-all : RecordsAreKept → VolumesAreRestored
restored-all laws s low = ((λ v. restored laws s v), (λ is. volume-restored laws s low is))

-- one within a volume's records is not refused after those before it
pub record-restores : VolumesAreRestored → (s t : State) (fs : Entries) (node : ℕ) (r : Record)
    → IsVolume s → s.records ≡ t.records ++ (node, r) ∷ fs
    → t ≡ record { limit = s.limit; number = s.number; next = s.next; records = t.records }
    → first_fault (push_faults t node r) ≡ None
record-restores law s t fs node r v all is =
    subst (λ (u : State). first_fault (push_faults u node r) ≡ None) (sym is)
    (((law s v.numbered.limit).0 v).push t.records fs (node, r) all)
