-- An object of which some words own nothing any more is the same else.
use Rattle.std.proofs.Common.{◌≡◌, ℕ, zero, suc, ◌+◌, ◌-◌, List, [], ◌∷◌, ◌++◌, length, take, drop, refl, sym, ap, ◌∙◌, arith}
use Rattle.std.specs.Prelude.{map, replicate}
use Rattle.life_store.specs.Content.{Slot, Object, blank_slot, resized, resized_slots, stamped, with_word}
use Rattle.life_forest.proofs.Puts.{put_in}
use Rattle.life_values.specs.Zeroed.{zeroed}
use Rattle.life_values.proofs.Owners.{count_put, with_word_is}

pub record IsLike (z o : Object) : Type 0 where
  pub ty : z.ty ≡ o.ty
  pub width : z.width ≡ o.width
  pub capacity : z.capacity ≡ o.capacity
  pub count : length z.slots ≡ length o.slots

pub zeroed_like : (i w : ℕ) (us : List ℕ) (o : Object) → IsLike (zeroed i w us o) o
zeroed_like i w [] o = record { ty = refl; width = refl; capacity = refl; count = refl }
zeroed_like i w (u ∷ us) o =
    let l = zeroed_like i w us (with_word i (w + u) 0 o) in
    record {
      ty = l.ty;
      width = l.width;
      capacity = l.capacity;
      count = l.count ∙ ap (λ (x : Object). length x.slots) (with_word_is i (w + u) 0 o) ∙ count_put o.slots i (w + u) 0;
    }

-- ---- the slots before

put_front : (ss : List Slot) (i u v : ℕ) → take i (put_in i u v ss) ≡ take i ss
put_front [] i u v = refl
put_front (s ∷ ss) zero u v = refl
put_front (s ∷ ss) (suc i) u v = ap (λ (rest : List Slot). s ∷ rest) (put_front ss i u v)

zeroed_front : (i w : ℕ) (us : List ℕ) (o : Object) → take i (zeroed i w us o).slots ≡ take i o.slots
zeroed_front i w [] o = refl
zeroed_front i w (u ∷ us) o = zeroed_front i w us (with_word i (w + u) 0 o) ∙ ap (λ (x : Object). take i x.slots) (with_word_is i (w + u) 0 o) ∙ put_front o.slots i (w + u) 0

pub take_none : (ss : List Slot) → take 0 ss ≡ []
take_none [] = refl
take_none (s ∷ ss) = refl

pub cut_slots : (w t i : ℕ) (ss : List Slot) → resized_slots w t i i ss ≡ take i ss ++ []
cut_slots w t i ss =
    let z : i - i ≡ 0 = omega arith in
    let rest : List Slot = drop i ss ++ replicate (i - length ss) (blank_slot w t) in
    ap (λ k. take i ss ++ map (stamped t) (take k (drop i ss ++ replicate (i - length ss) (blank_slot w t)))) z
    ∙ ap (λ (rr : List Slot). take i ss ++ map (stamped t) rr) (take_none rest)

-- a slot that goes may as well own something still
pub resized_zeroed : (t i : ℕ) (us : List ℕ) (o : Object) → resized t i i (zeroed i 0 us o) ≡ resized t i i o
resized_zeroed t i us o =
    let l = zeroed_like i 0 us o in
    let same : resized_slots (zeroed i 0 us o).width t i i (zeroed i 0 us o).slots ≡ resized_slots o.width t i i o.slots =
    cut_slots (zeroed i 0 us o).width t i (zeroed i 0 us o).slots ∙ ap (λ (ss : List Slot). ss ++ []) (zeroed_front i 0 us o) ∙ sym (cut_slots o.width t i o.slots) in
    (λ j. record { ty = l.ty j; width = l.width j; capacity = l.capacity j; slots = same j; end = t })
