-- The messages of what left and what came, with moves and without, in one form.
use Rattle.std.proofs.Common.{◌≡◌, List, [], ◌∷◌, ◌++◌, refl, ap, ◌∙◌, Bool, true, false, arith}
use Rattle.std.specs.Prelude.{cond, map, filter, not, ◌&&◌, Option, Some, None}
use Rattle.std.specs.Option.{option_map, option_map_or}
use Rattle.std.specs.List.{find, list_any}
use Rattle.std.proofs.lemmas.Bool.Decides.{nat_tests}
use Rattle.std.proofs.lemmas.Simd.{map-map}
use Rattle.std.proofs.lemmas.List.{map-append}
use Rattle.std.proofs.lemmas.List.Elements.{filter-append}
use Rattle.lq_value.specs.declared.entry.Entry.{Entry}
use Rattle.lq_update.specs.declared.message.Opcode.{Opcode}
use Rattle.lq_update.specs.declared.message.Opcode.TheVariants.{Created, Removed, Moved, ValueChanged}
use Rattle.lq_update.specs.Diff.{as_moved, has_node, is_move, messages_of, without_moves}
use Rattle.lq_update.proofs.EntryLemmas.{entry_at}

-- to filter what a function gives is to filter by what it gives
filter-map : {X Y : Type 0} (f : X → Y) (p : Y → Bool) (xs : List X)
    → filter p (map f xs) ≡ map f (filter (λ x. p (f x)) xs)
filter-map f p [] = refl
filter-map f p (x ∷ xs) =
    elim (p (f x)) as (λ b. cond b (f x ∷ filter p (map f xs)) (filter p (map f xs))
    ≡ map f (cond b (x ∷ filter (λ y. p (f y)) xs) (filter (λ y. p (f y)) xs))) [
      | true ↦ ap (λ rest. f x ∷ rest) (filter-map f p xs)
      | false ↦ filter-map f p xs
    ]

-- a filter that all pass leaves all
filter-true : {X : Type 0} (xs : List X) → filter (λ _. true) xs ≡ xs
filter-true [] = refl
filter-true (x ∷ xs) = ap (λ rest. x ∷ rest) (filter-true xs)

-- the entries whose node is in none of the others
abbrev pub alone : List Entry → List Entry → List Entry
alone entries others = filter (λ e. not (has_node e.node others)) entries

-- the entries with messages of their own, with moves or without
abbrev pub alone_if : Bool → List Entry → List Entry → List Entry
alone_if moved entries others = filter (λ e. not (moved && has_node e.node others)) entries

-- without moves these are all entries
pub alone-false : (es fs : List Entry) → alone_if false es fs ≡ es
alone-false es fs = filter-true es

-- what is told of an entry that came: that it was created, or moved from where its node was
abbrev pub came_op : Bool → List Entry → Entry → Opcode
came_op false gone f = Created
came_op true gone f =
    option_map_or (λ e. Moved e.dir e.name) (entry_at f.node gone) Created

-- a removed message makes a move where its node came
removed-any : (e : Entry) (gone come : List Entry)
    → list_any (is_move (Removed, e)) (without_moves gone come) ≡ has_node e.node come
removed-any e [] [] = refl
removed-any e [] (f ∷ come) = grind (arith, nat_tests, removed-any e [] come)
removed-any e (g ∷ gone) come = removed-any e gone come

-- so those of the entries that stand alone stay
removed-kept : (es gone come : List Entry)
    → filter (λ m. not (list_any (is_move m) (without_moves gone come)))
    (map (λ e. (Removed, e)) es)
    ≡ map (λ e. (Removed, e)) (alone es come)
removed-kept es gone come = filter-map (λ e. (Removed, e)) _ es
    ∙ (λ i. map (λ e. (Removed, e)) (filter (λ e. not (removed-any e gone come i)) es))

-- a created message is no first of a move
created-any : (f : Entry) (ms : List (Opcode × Entry)) → list_any (is_move (Created, f)) ms ≡ false
created-any f [] = refl
created-any f (m ∷ ms) = created-any f ms

-- so all of them stay
created-kept : (ms : List (Opcode × Entry)) (fs : List Entry)
    → filter (λ m. not (list_any (is_move m) ms)) (map (λ f. (Created, f)) fs)
    ≡ map (λ f. (Created, f)) fs
created-kept ms fs = filter-map (λ f. (Created, f)) _ fs
    ∙ ((λ i. map (λ f. (Created, f)) (filter (λ f. not (created-any f ms i)) fs))
    ∙ ap (map (λ f. (Created, f))) (filter-true fs))

-- a removed message is no second of a move
find-none : (e : Entry) (ms : List (Opcode × Entry)) → find (λ m. is_move m (Removed, e)) ms ≡ None
find-none e [] = refl
find-none e ((Removed, d) ∷ ms) = find-none e ms
find-none e ((Created, d) ∷ ms) = find-none e ms
find-none e ((Moved dir name, d) ∷ ms) = find-none e ms
find-none e ((ValueChanged attribute, d) ∷ ms) = find-none e ms

-- so it becomes no moved one
removed-stay : (ms : List (Opcode × Entry)) (es : List Entry)
    → map (as_moved ms) (map (λ e. (Removed, e)) es) ≡ map (λ e. (Removed, e)) es
removed-stay ms es = map-map (as_moved ms) (λ e. (Removed, e)) es
    ∙ (λ i. map (λ e. option_map_or (λ m. (Moved m.1.dir m.1.name, e)) (find-none e ms i)
    (Removed, e)) es)

-- a created message makes a move with the removed one of its node
find-came : (f : Entry) (gone come : List Entry)
    → find (λ m. is_move m (Created, f)) (without_moves gone come)
    ≡ option_map (λ e. (Removed, e)) (entry_at f.node gone)
find-came f [] [] = refl
find-came f [] (d ∷ come) = find-came f [] come
find-came f (e ∷ gone) come = grind (arith, nat_tests, find-came f gone come)

-- so it becomes what is told of its entry
created-told : (gone come fs : List Entry)
    → map (as_moved (without_moves gone come)) (map (λ f. (Created, f)) fs)
    ≡ map (λ f. (came_op true gone f, f)) fs
created-told gone come fs = map-map (as_moved (without_moves gone come)) (λ f. (Created, f)) fs
    ∙ (λ i. map (λ f. told f i) fs)
  where
    by : (f : Entry) (o : Option Entry) → ◌≡◌ {A = Opcode × Entry}
        (option_map_or (λ (m : Opcode × Entry). (Moved m.1.dir m.1.name, f))
        (option_map (λ e. (Removed, e)) o)
        (Created, f)) (option_map_or (λ e. Moved e.dir e.name) o Created, f)
    by f None = refl
    by f (Some e) = refl

    told : (f : Entry) → ◌≡◌ {A = Opcode × Entry} (as_moved (without_moves gone come) (Created, f))
        (came_op true gone f, f)
    told f = rw (find-came f gone come) (by f (entry_at f.node gone))

-- the messages with moves and those without, in one form
pub messages-split : (moved : Bool) (gone come : List Entry) → messages_of moved gone come
    ≡ map (λ e. (Removed, e)) (alone_if moved gone come)
    ++ map (λ f. (came_op moved gone f, f)) come
messages-split false gone come = rw (alone-false gone come) refl
messages-split true gone come =
    let ms = without_moves gone come in
    let removed = map (λ e. (Removed, e)) gone in
    let created = map (λ f. (Created, f)) come in
    ap (map (as_moved ms)) (filter-append (λ m. not (list_any (is_move m) ms)) removed created
    ∙ (λ i. removed-kept gone gone come i ++ created-kept ms come i))
    ∙ (map-append (as_moved ms) (map (λ e. (Removed, e)) (alone gone come)) created
    ∙ (λ i. removed-stay ms (alone gone come) i ++ created-told gone come come i))
