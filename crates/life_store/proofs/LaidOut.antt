-- What an object's layout says of its slots and words.
use Rattle.std.proofs.Common.{◌≡◌, ◌≢◌, ℕ, ◌+◌, ◌*◌, ◌<◌, length, Option, Some, None, false, cond, refl, sym, ap, ◌∙◌, arith, ⊎_elim}
use Rattle.std.proofs.lemmas.Bool.Decides.{eqb_tells}
use Rattle.std.proofs.lemmas.Nat.{mul-add-lt}
use Rattle.std.proofs.lemmas.Option.{none-some, same_Some, slice_get_past, slice_get_within}
use Rattle.std.specs.Prelude.{slice_get, nat_eq, nat_le, option_map}
use Rattle.life_store.specs.Content.{Slot, is_since, is_settled}
use Rattle.life_store.specs.Layout.{object_in, IsLaidOut}
use Rattle.life_store.specs.References.{HasWord}
use Rattle.life_store.specs.declared.plain_object.PlainObject.TheInside.{Inside}
use Rattle.life_store.proofs.SlotLemmas.{slots_length, slot_stamp}

pub slot_within : (a : Inside) (i j : ℕ) → HasWord i j (object_in a) → i < length a.stamps.items
slot_within a i j h = omega (arith, h.has_slot, slots_length a.width a.words.items a.stamps.items)

-- a word that is there lies in the list
pub word_within : (a : Inside) (i j : ℕ) → IsLaidOut a → HasWord i j (object_in a) → i * a.width + j < length a.words.items
word_within a i j ok h = omega (arith, ok.words, mul-add-lt i a.width j (length a.stamps.items) (slot_within a i j h) h.has_word)

-- ---- whether a position has stood since a moment

since_is : (moment x : ℕ) (o : Option Slot) → option_map (λ (s : Slot). s.stamp) o ≡ Some x → is_since moment o ≡ nat_le x moment
since_is moment x None e = absurd (none-some x e)
since_is moment x (Some s) e = ap (λ n. nat_le n moment) (same_Some s.stamp x e)

since_none : (moment : ℕ) (o : Option Slot) → option_map (λ (s : Slot). s.stamp) o ≡ None → is_since moment o ≡ false
since_none moment None e = refl
since_none moment (Some s) e = absurd (none-some s.stamp (sym e))

not_end : (a : Inside) (p : ℕ) → p ≢ length a.stamps.items → nat_eq p (length (object_in a).slots) ≡ false
not_end a p ne = ⊎_elim (λ h. absurd (ne (h.1 ∙ slots_length a.width a.words.items a.stamps.items))) (λ h. h.0) (eqb_tells p (length (object_in a).slots))

-- the end
pub settled_end : (a : Inside) (p moment : ℕ) → p ≡ length a.stamps.items → is_settled (object_in a) p moment ≡ nat_le a.end moment
settled_end a p moment e =
    ⊎_elim (λ h. ap (λ t. cond t (nat_le a.end moment) (is_since moment (slice_get (object_in a).slots p))) h.0)
    (λ h. absurd (h.1 (e ∙ sym (slots_length a.width a.words.items a.stamps.items))))
    (eqb_tells p (length (object_in a).slots))

-- a slot's position
pub settled_slot : (a : Inside) (p moment x : ℕ) → slice_get a.stamps.items p ≡ Some x → is_settled (object_in a) p moment ≡ nat_le x moment
settled_slot a p moment x e =
    let lt = slice_get_within a.stamps.items p x e in
    ap (λ t. cond t (nat_le a.end moment) (is_since moment (slice_get (object_in a).slots p))) (not_end a p (λ same. absurd (omega (arith, lt, same))))
    ∙ since_is moment x (slice_get (object_in a).slots p) (slot_stamp a.width a.words.items a.stamps.items p ∙ e)

-- no position
pub settled_past : (a : Inside) (p moment : ℕ) → length a.stamps.items < p → is_settled (object_in a) p moment ≡ false
settled_past a p moment lt =
    ap (λ t. cond t (nat_le a.end moment) (is_since moment (slice_get (object_in a).slots p))) (not_end a p (λ same. absurd (omega (arith, lt, same))))
    ∙ since_none moment (slice_get (object_in a).slots p) (slot_stamp a.width a.words.items a.stamps.items p ∙ slice_get_past a.stamps.items p (omega (arith, lt)))
