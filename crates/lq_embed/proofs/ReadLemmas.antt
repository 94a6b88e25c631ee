-- Loops of reads.
use Rattle.std.proofs.Common.{◌≡◌, ◌≢◌, ◌∙◌, ◌+◌, ◌<◌, ◌≤◌, ℕ, List, [], ◌∷◌, ◌++◌, length, get_or, take, drop, set, refl, sym, ap, subst, arith, true, false}
use Rattle.std.specs.Prelude.{Bool, Result, Ok, Err}
use Rattle.std.proofs.lemmas.List.{drop_more, drop-set-lt, length-take, set-get_or, take-append-drop, take_all, take_more, take_more_set}
use Rattle.lq_value.specs.declared.refusal.Refusal.{Refusal}
use Rattle.lq_desk_world.specs.Events.{Answer}
use Rattle.lq_desk_world.specs.Events as answer
use Rattle.lq_embed.specs.declared.out_structs.MessageOut.{MessageOut}
use Rattle.lq_embed.specs.Outs.{read_after}
use Rattle.lq_embed.specs.Reads.{IsStopped, ReadsEach, ReadsOne, last_count, read_gives}
use Rattle.lq_embed.specs.SessionState.{SessionState}
use Rattle.lq_embed.specs.Status.{outcome_status}

-- one more read, in the next place
each-more : {slot : ℕ} {last new : SessionState} {place read : MessageOut} (old : SessionState)
    (places reads : List MessageOut) → ReadsEach slot old places reads last
    → ReadsOne last new slot (Ok true) place read
    → ReadsEach slot old (places ++ (place ∷ [])) (reads ++ (read ∷ [])) new
each-more {slot = slot} {new = new} {place = place} {read = read} old [] reads each one = (
  new,
  read,
  [],
  ap (λ rs. rs ++ (read ∷ [])) each.0,
  subst (λ (s : SessionState). ReadsOne s new slot (Ok true) place read) each.1 one,
  (refl, refl),
)
each-more {slot = slot} {read = read} old (first ∷ places) reads each one = (
  each.0,
  each.1,
  each.2 ++ (read ∷ []),
  ap (λ rs. rs ++ (read ∷ [])) each.3,
  each.4,
  each-more each.0 places each.2 each.5 one,
)

-- how far the loop has come: each place before this one has what was read, the others are as before
pub record AreRead (slot : ℕ) (first now : SessionState) (i : ℕ) (before places : List MessageOut)
    : Type 0 where
  pub each : ReadsEach slot first (take i before) (take i places) now
  pub rest : drop i places ≡ drop i before

-- the places left are those that there were
next-left : {slot : ℕ} {first now : SessionState} {i : ℕ} {before places : List MessageOut}
    {place : MessageOut} (d : MessageOut) → AreRead slot first now i before places
    → i < length before → i < length places → place ≡ get_or places i d
    → place ∷ drop (i + 1) places ≡ get_or before i d ∷ drop (i + 1) before
next-left {i = i} {before = before} {places = places} d was lt inside at =
    ap (λ x. x ∷ drop (i + 1) places) at ∙ (sym (drop_more places i d inside)
    ∙ (was.rest ∙ drop_more before i d lt))

next-same : {slot : ℕ} {first now : SessionState} {i : ℕ} {before places : List MessageOut}
    {place : MessageOut} (d : MessageOut) → AreRead slot first now i before places
    → i < length before → i < length places → place ≡ get_or places i d
    → get_or before i d ≡ place
next-same d was lt inside at = ap (λ xs. get_or xs 0 d) (sym (next-left d was lt inside at))

-- one more
pub read-next : {slot : ℕ} {first now new : SessionState} {i : ℕ} {before places : List MessageOut}
    {place : MessageOut} (d read : MessageOut) → AreRead slot first now i before places
    → i < length before → i < length places → place ≡ get_or places i d → (there : Bool)
    → there ≡ true → ReadsOne now new slot (Ok there) place read
    → AreRead slot first new (i + 1) before (set places i read)
read-next {slot = slot} {first = first} {now = now} {new = new} {i = i} {before = before}
    {places = places}
    {place = place} d read was lt inside at there is one =
    let same : get_or before i d ≡ place = next-same d was lt inside at in
    let more : take (i + 1) before ≡ take i before ++ (place ∷ []) =
    take_more before i d lt ∙ ap (λ x. take i before ++ (x ∷ [])) same in
    record {
      each = subst (λ xs. ReadsEach slot first xs (take (i + 1) (set places i read)) new) (sym more)
          (subst (λ ys. ReadsEach slot first (take i before ++ (place ∷ [])) ys new)
          (sym (take_more_set places i read inside))
          (each-more first (take i before) (take i places) was.each
          (subst (λ b. ReadsOne now new slot (Ok b) place read) is one)));
      rest = drop-set-lt (i + 1) places i read (omega arith)
          ∙ ap (drop 1) (next-left d was lt inside at);
    }

-- each place was read into
pub read-all : {slot : ℕ} {first now : SessionState} {i : ℕ} {before places : List MessageOut}
    → AreRead slot first now i before places → length before ≤ i → length places ≤ i
    → ReadsEach slot first before places now
read-all {slot = slot} {first = first} {now = now} {i = i} {before = before} {places = places}
    was all full =
    subst (λ xs. ReadsEach slot first xs places now) (take_all i before all)
    (subst (λ ys. ReadsEach slot first (take i before) ys now) (take_all i places full) was.each)

-- a read that gives neither a message nor the mark leaves its place
place-stays : (answer : Answer) (place : MessageOut) → read_gives answer ≢ Ok true
    → read_after answer place ≡ place
place-stays (answer.Changed applied) place none = refl
place-stays (answer.Opened slot at result) place none = refl
place-stays (answer.Moved was) place none = refl
place-stays (answer.Took parcel) place none = absurd (none refl)
place-stays answer.Empty place none = refl
place-stays answer.Ended place none = refl
place-stays answer.Asked place none = refl
place-stays (answer.Noticed was) place none = refl
place-stays (answer.Shut change) place none = refl
place-stays answer.Finished place none = refl
place-stays (answer.Refused refusal) place none = refl

-- a read that gives neither, after which the loop ends
pub read-stop : {slot : ℕ} {first now new : SessionState} {i : ℕ} {before places : List MessageOut}
    {place read : MessageOut} {outcome : Result Bool Refusal} {status got_before got : ℕ}
    (d : MessageOut) → AreRead slot first now i before places → i < length before
    → i < length places → place ≡ get_or places i d → ReadsOne now new slot outcome place read
    → outcome ≢ Ok true → status ≡ outcome_status outcome → got ≡ last_count outcome got_before i
    → IsStopped first new slot status before (set places i read) got_before got
read-stop {slot = slot} {now = now} {new = new} {i = i} {before = before} {places = places}
    {place = place} {read = read} {outcome = outcome} {got_before = got_before} d was lt inside
    at one none code count =
    let same : read ≡ place =
    one.out ∙ place-stays one.answer place (λ is. none (one.parcel ∙ is)) in
    let left : drop i before ≡ place ∷ drop (i + 1) before =
    drop_more before i d lt
    ∙ ap (λ x. x ∷ drop (i + 1) before) (next-same d was lt inside at) in
    record {
      places = take i before;
      reads = take i places;
      place = place;
      rest = drop (i + 1) before;
      from = sym (take-append-drop i before) ∙ ap (λ xs. take i before ++ xs) left;
      to = ap (set places i) (same ∙ at)
          ∙ (set-get_or places i d ∙ (sym (take-append-drop i places)
          ∙ ap (λ xs. take i places ++ xs) (was.rest ∙ left)));
      last = now;
      each = was.each;
      outcome = outcome;
      read = subst (λ m. ReadsOne now new slot outcome place m) same one;
      none = none;
      code = code;
      count = count ∙ ap (last_count outcome got_before)
          (let e : i ≡ length (take i places) = omega (arith, length-take i places) in e);
    }

-- what a read with no message and no mark isn't
abbrev gave : Result Bool Refusal → Bool
gave (Ok there) = there
gave (Err refusal) = false

never : false ≢ true
never is = absurd (let no : ⊥ = cc in no)

pub err-none : (refusal : Refusal) (r : Result Bool Refusal) → r ≡ Err refusal → r ≢ Ok true
err-none refusal r at is = never (sym (ap gave at) ∙ ap gave is)

pub ok-none : (there : Bool) (r : Result Bool Refusal) → r ≡ Ok there → there ≡ false
    → r ≢ Ok true
ok-none there r at none is = never (sym none ∙ (sym (ap gave at) ∙ ap gave is))
