-- What is among parcels.
use Rattle.std.proofs.Common.{◌≡◌, ◌⊎◌, Bool, true, List, [], ◌∷◌, ◌++◌, Option, Some, None, refl, sym, ap, ◌∙◌, arith, append_assoc}
use Rattle.std.specs.Prelude.{IsSome, is_some}
use Rattle.lq_update.specs.declared.mark.Mark.{Mark}
use Rattle.lq_update.specs.declared.parcel.Parcel.{Parcel}
use Rattle.lq_server_slots.specs.declared.delivery.Delivery.{Delivery}
use Rattle.lq_server_slots.specs.Rule.{message_of, mark_or, messages_in, mark_in}
use Rattle.lq_server_slots.specs.Standing.{moved_mark}
use Rattle.lq_server.specs.Syncing.{is_mark_in_port}

-- the messages of two lists of parcels
pub messages_in-append : (ps qs : List Delivery)
    → messages_in (ps ++ qs) ≡ messages_in ps ++ messages_in qs
messages_in-append [] qs = refl
messages_in-append (p ∷ ps) qs =
    ap (λ l. message_of p.what ++ l) (messages_in-append ps qs)
    ∙ sym (append_assoc (message_of p.what) (messages_in ps) (messages_in qs))

-- the mark of the first parcels, or else that of the others
abbrev pub mark_over : Option Mark → Option Mark → Option Mark
mark_over (Some k) o = Some k
mark_over None o = o

-- that of a parcel and of two lists
or_over : (w : Parcel) (o p : Option Mark)
    → mark_or w (mark_over o p) ≡ mark_over (mark_or w o) p
or_over w o p = grind arith

-- the mark of two lists
pub mark_in-append : (ps qs : List Delivery)
    → mark_in (ps ++ qs) ≡ mark_over (mark_in ps) (mark_in qs)
mark_in-append [] qs = refl
mark_in-append (p ∷ ps) qs =
    ap (mark_or p.what) (mark_in-append ps qs) ∙ or_over p.what (mark_in ps) (mark_in qs)

-- t is the mark that was read, a the one that waits in the port, m the one that was made, and b
-- says whether it was put; nothing waits after the mark. One waits where it was put and wasn't
-- read, and what waits or was read is the one that was made.
pub marks_are : (t a m : Option Mark) (b : Bool) → mark_over t a ≡ moved_mark b m
    → (b ≡ true → IsSome m) → (IsSome t → a ≡ None)
    → (is_some a ≡ is_mark_in_port b (is_some t)) × ((a ≡ None) ⊎ (a ≡ m)) × (IsSome t → m ≡ t)
marks_are t a m b is made none = (grind arith, grind arith, λ some. grind arith)
