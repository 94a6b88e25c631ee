-- A change that is prepared and committed, and notices of taken slots.
use Rattle.std.proofs.Common.{◌≡◌, ℕ, Bool, ◌<◌, ◌≤◌, List, [], ◌∷◌, length, sym, subst, arith, ◌^◌, ◌∙◌}
use Rattle.std.specs.Prelude.{IsSome}
use Rattle.lq_volume.specs.declared.change.Change.{Change}
use Rattle.lq_volume.specs.Book.{Book, state_of, grown}
use Rattle.lq_volume.specs.Change.{IsLawful}
use Rattle.lq_board.specs.Known.{KnownSlot}
use Rattle.lq_board.specs.Book.{IsFullBook}
use Rattle.lq_board.specs.Slot.{slot_at, counted}
use Rattle.lq_server_slots.specs.declared.identity.Identity.{Identity}
use Rattle.lq_server_slots.specs.declared.subscription.Subscription.{Subscription}
use Rattle.lq_server_slots.specs.Marking.{hung_mark, MarkCovers}
use Rattle.lq_server_slots.specs.Standing.{IsConsistentAt, IsPreparedIf, SameButHeld, SameButPuts, CannotPut}
use Rattle.lq_server_slots.specs.Slots.{before_of, IsNoticed, IsServed, Serves}
use Rattle.lq_server_slots.proofs.SlotLemmas.{IsToFill, to_fill_then, taken_filled}
use Rattle.lq_server_slots.specs.Changing.{MayCommit}
use Rattle.lq_server_slots.proofs.TableLemmas.{counted_here}

-- a subscription has made few messages
pub few_sent : (s : Subscription) (book : Book) → IsConsistentAt s book
    → s.sub.held.sent < 2 ^ 63
few_sent s book stands = grind arith

-- one that has its mark where its reader asked has it after a commit or puts
pub noticed_still : (s t : Subscription) (p : KnownSlot Identity) → IsNoticed s p → t.asks ≡ s.asks
    → (IsSome s.sub.held.mark → t.sub.held.mark ≡ s.sub.held.mark) → IsNoticed t p
noticed_still s t p noticed asks still = grind arith

-- and it is served once its port is filled
pub served_filled : (s t : Subscription) (p : KnownSlot Identity) → IsNoticed s p → SameButPuts s t
    → CannotPut t → IsServed t p
served_filled s t p noticed alike stuck = grind arith

-- a change was committed in a taken slot, whose port is still to be filled
pub committed : (c : Change) (asked : Bool) (s t : Subscription) (p : KnownSlot Identity)
    (book : Book) → MayCommit c asked s p book
    → (IsConsistentAt s (before_of book) → IsPreparedIf asked s.sub (state_of (before_of book)) c
    → IsLawful (state_of (before_of book)) c → IsFullBook (grown (before_of book) (c ∷ []))
    → IsConsistentAt t (grown (before_of book) (c ∷ [])))
    → SameButHeld s t → t.first_close ≡ s.first_close
    → (hung_mark t.sub.held.mark → hung_mark s.sub.held.mark) → IsToFill t p book
committed c asked s t p book may stands others first_close hung =
    let grown = may.grown in
    let t_stands = stands may.stood.taken.stands may.prepared grown.lawful
    (subst IsFullBook grown.book grown.full) in
    to_fill_then s t p (before_of book) book may.stood.taken
    (subst (IsConsistentAt t) (sym grown.book) t_stands) others first_close hung

-- and then it was filled
pub committed_filled : (c : Change) (asked : Bool) (number : ℕ) (s t u : Subscription)
    (p : KnownSlot Identity) (book : Book) → MayCommit c asked s p book → IsToFill t p book
    → SameButHeld s t → (IsSome s.sub.held.mark → t.sub.held.mark ≡ s.sub.held.mark)
    → MarkCovers number s.sub.held.mark t.sub.held.mark → IsConsistentAt u book
    → SameButPuts t u → length t.input.taken ≤ length u.input.taken → CannotPut u
    → Serves number s u p book
committed_filled c asked number s t u p book may left others still covers stands alike same stuck =
    record {
      taken = taken_filled t u p book left stands alike same stuck;
      served = served_filled t u p
          (noticed_still s t p may.stood.noticed others.asks still) alike stuck;
      asks = alike.asks ∙ others.asks;
      query = (alike.held.query ∙ others.query, alike.held.flags ∙ others.flags);
      mark = rw alike.held.mark covers;
    }

-- after a notice the keeper knows just as many asks as were read
pub noticed_then : (s t : Subscription) (ps qs : List (KnownSlot Identity)) (k n : ℕ)
    → length ps ≡ 65 → k < 65 → qs ≡ counted ps k n → t.asks ≡ s.asks
    → (s.asks < n → IsSome t.sub.held.mark) → IsNoticed t (slot_at qs k)
noticed_then s t ps qs k n wide within is asks ended =
    let here = counted_here ps k n (omega arith) in
    rw (is, here, asks) ended

-- how often the slot's seats have asked, as the keeper knows, once it has read the count
pub counted_more : (ps qs : List (KnownSlot Identity)) (k n : ℕ) → length ps ≡ 65 → k < 65
    → qs ≡ counted ps k n → (slot_at ps k).asks ≤ n → (slot_at ps k).asks ≤ (slot_at qs k).asks
counted_more ps qs k n wide within is most =
    let here = counted_here ps k n (omega arith) in
    rw (is, here) most
