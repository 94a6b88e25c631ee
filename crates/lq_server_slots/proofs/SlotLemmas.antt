-- A slot under the lock, and a book that grew.
use Rattle.std.proofs.Common.{◌≡◌, ℕ, ◌-◌, ◌<◌, ◌≤◌, ◌⊎◌, Bool, true, List, [], ◌∷◌, ◌++◌, length, Some, None, refl, sym, ap, ◌∙◌, subst, arith, length-append}
use Rattle.std.proofs.lemmas.List.{take_at}
use Rattle.lq_volume.specs.declared.change.Change.{Change}
use Rattle.lq_volume.specs.Change.{IsLawful}
use Rattle.lq_volume.specs.Book.{Book, grown, state_of}
use Rattle.lq_board.specs.Known.{KnownSlot}
use Rattle.lq_board.specs.Book.{IsFullBook}
use Rattle.lq_port.specs.End.{all_put}
use Rattle.lq_server_slots.specs.declared.delivery.Delivery.{Delivery}
use Rattle.lq_server_slots.specs.declared.identity.Identity.{Identity}
use Rattle.lq_server_slots.specs.declared.subscription.Subscription.{Subscription}
use Rattle.lq_server_slots.specs.Rule.{messages_in, mark_in}
use Rattle.lq_server_slots.specs.Marking.{hung_mark}
use Rattle.lq_server_slots.specs.Identity.{identity_of}
use Rattle.lq_server_slots.specs.Standing.{IsConsistentAt, IsFilled, IsSeen, CannotPut, SameButPuts, SameButHeld}
use Rattle.lq_server_slots.specs.Slots.{IsTakenSlot, before_of, IsGrown}

-- ---- one slot

-- with no mark each parcel is a message
pub told_length : (ps : List Delivery) → mark_in ps ≡ None → length (messages_in ps) ≡ length ps
told_length [] e = refl
told_length (p ∷ ps) e = grind (arith, told_length ps)

-- with a message held, no mark was put
held_unmoved : (s : Subscription) (book : Book) → IsConsistentAt s book
    → 0 < length s.sub.held.messages → mark_in (all_put s.input) ≡ None
held_unmoved s book stands some = grind arith

-- where nothing more could be put, messages are held only after as many as the port has places, and
-- those that had been taken
pub stuck_filled : (s : Subscription) (book : Book) → IsConsistentAt s book → IsSeen s → CannotPut s
    → IsFilled s
stuck_filled s book stands seen stuck some =
    let put_so_far = told_length (all_put s.input) (held_unmoved s book stands some) in
    let long = length-append s.input.taken s.input.ahead in
    grind arith

-- puts leave its name
pub identity_alike : (s t : Subscription) → SameButPuts s t → identity_of t ≡ identity_of s
identity_alike s t a = grind arith

-- and so does a new mark
pub identity_others : (s t : Subscription) → SameButHeld s t → t.first_close ≡ s.first_close
    → identity_of t ≡ identity_of s
identity_others s t a first_close = grind arith

-- a taken slot whose port is still to be filled
pub record IsToFill (s : Subscription) (p : KnownSlot Identity) (book : Book) : Type 0 where
  pub stands : IsConsistentAt s book
  pub seen : IsSeen s
  pub out : p.out ≡ true
  pub name : p.name ≡ Some (identity_of s)
  pub hung : hung_mark s.sub.held.mark → s.asks < p.asks

-- a taken slot whose subscription and book changed stands, but for what its port has room for
pub to_fill_then : (s t : Subscription) (p : KnownSlot Identity) (book0 book : Book)
    → IsTakenSlot s p book0 → IsConsistentAt t book → SameButHeld s t
    → t.first_close ≡ s.first_close
    → (hung_mark t.sub.held.mark → hung_mark s.sub.held.mark) → IsToFill t p book
to_fill_then s t p book0 book taken stands others first_close hung = grind arith

-- a taken slot stands whole once its port is filled
pub taken_filled : (s t : Subscription) (p : KnownSlot Identity) (book : Book) → IsToFill s p book
    → IsConsistentAt t book → SameButPuts s t → length s.input.taken ≤ length t.input.taken
    → CannotPut t → IsTakenSlot t p book
taken_filled s t p book was stands alike same stuck =
    let seen : IsSeen t = grind arith in
    let filled = stuck_filled t book stands seen stuck in
    grind arith

-- its port may be filled
pub to_fill : (s : Subscription) (p : KnownSlot Identity) (book : Book) → IsTakenSlot s p book
    → IsToFill s p book
to_fill s p book taken = grind arith

-- the keeper knows more of a taken slot's asks, and the subscription may have ended
pub taken_noticed : (s t : Subscription) (p q : KnownSlot Identity) (n : ℕ) (asked : Bool)
    (book : Book)
    → IsTakenSlot s p book → IsConsistentAt t book → SameButHeld s t → t.first_close ≡ s.first_close
    → t.sub.held.messages ≡ s.sub.held.messages
    → (hung_mark t.sub.held.mark → (asked ≡ true) ⊎ hung_mark s.sub.held.mark)
    → (asked ≡ true → s.asks < n) → p.asks ≤ n
    → q ≡ record { out = p.out; asks = n; name = p.name } → IsTakenSlot t q book
taken_noticed s t p q n asked book taken stands others first_close messages hung test le is =
    grind arith

-- a taken slot stands on where all that is held, and whether it was closed, stay
pub taken_alike : (s t : Subscription) (p : KnownSlot Identity) (book : Book) → IsTakenSlot s p book
    → t.sub.held ≡ s.sub.held → SameButHeld s t → t.first_close ≡ s.first_close
    → IsTakenSlot t p book
taken_alike s t p book taken held others first_close =
    let stands : IsConsistentAt t book =
    rw (held, others.input, others.places, others.last_report, first_close) taken.stands in
    grind arith

-- ---- a book that grew by a change

-- a book that grew by a change, without its last change, is that book
before-grown : (b : Book) (c : Change) → before_of (grown b (c ∷ [])) ≡ b
before-grown b c =
    rw (take_at b.changes (c ∷ []) (length (b.changes ++ c ∷ []) - 1)
    (omega (arith, length-append b.changes (c ∷ []))))

-- the same, where it is known as an equation
pub before_is : (b d : Book) (c : Change) → d ≡ grown b (c ∷ []) → before_of d ≡ b
before_is b d c e = rw e (before-grown b c)

-- a book that grew by a lawful change
pub grown_is : (b d : Book) (c : Change) → d ≡ grown b (c ∷ []) → IsLawful (state_of b) c
    → IsFullBook d → IsGrown d c
grown_is b d c e lawful full =
    let before = before_is b d c e in
    record {
      book = e ∙ ap (λ (x : Book). grown x (c ∷ [])) (sym before);
      lawful = subst (λ (x : Book). IsLawful (state_of x) c) (sym before) lawful;
      full = full;
    }
