-- What lives stays within the limit, and each object has the room for its slots, whatever is written, resized or ends, and whatever is born that the limit lets in.
use Rattle.std.proofs.Common.{◌≡◌, ℕ, zero, suc, ◌+◌, ◌-◌, ◌*◌, ◌≤◌, List, [], ◌∷◌, ◌++◌, length, map, replicate, Option, Some, None, refl, sym, ap, subst, ◌∙◌, arith, length-append}
use Rattle.std.specs.Prelude.{drop, slice_index, take}
use Rattle.life_types.specs.declared.ty.TyId.{TyId}
use Rattle.life_store.specs.Cells.{Cells, at, set, unset, sum_over, at-set_same, at-set_other, at-unset_same, at-unset_other, same_cells}
use Rattle.life_store.specs.Content.{Slot, Object, Content, blank_slot, cost, live_words_of, newborn, resized, resized_slots, stamped, with_birth, with_object, with_resize, without}
use Rattle.life_store.specs.Held.{filled_slots, owned_in, resized_at, resized_if, slots_at, with_words, wrote, wrote_if}
use Rattle.life_store.specs.Owners.{ended, ended_owned, ended_slots}
use Rattle.life_store.specs.Parts.{Parts, Single, Raw, Iterates, Views, Text, Vector, Unique, Member, NoMember, width}
use Rattle.life_store.proofs.CellLemmas.{none_some, some_same}
use Rattle.life_store.proofs.MapLemmas.{one_or_apart, sum-set, sum-set_fresh, sum-unset}
use Rattle.life_forest.proofs.Above.{with_words_size}
use Rattle.life_changes.specs.Bounded.{IsBounded}

-- ---- sums

pub live_set : (m : Cells Object) (k : ℕ) (q : Object) → sum_over cost (set m k q) ≤ cost q + sum_over cost m
live_set m k q = go (at m k) refl
  where
    go : (x : Option Object) → at m k ≡ x → sum_over cost (set m k q) ≤ cost q + sum_over cost m
    go None e = let s = sum-set_fresh cost m k q e in omega (arith, s)
    go (Some o) e = let s = sum-set cost m k o q e in omega (arith, s)

pub live_same : (m : Cells Object) (k : ℕ) (o q : Object) → at m k ≡ Some o → cost q ≡ cost o → sum_over cost (set m k q) ≡ sum_over cost m
live_same m k o q e same = let s = sum-set cost m k o q e in omega (arith, s, same)

pub live_unset : (m : Cells Object) (k : ℕ) → sum_over cost (unset m k) ≤ sum_over cost m
live_unset m k = go (at m k) refl
  where
    go : (x : Option Object) → at m k ≡ x → sum_over cost (unset m k) ≤ sum_over cost m
    go None e =
        let s = ap (sum_over cost) (same_cells (unset m k) m (λ q. one_or_apart k q (λ h. at-unset_same m k q h ∙ sym e ∙ ap (at m) h) (λ ne. at-unset_other m k q ne))) in
        omega (arith, s)
    go (Some o) e = let s = sum-unset cost m k o e in omega (arith, s)

-- what lives is counted
pub cost_within : (c : Content) (n : ℕ) (o : Object) → at c.objects n ≡ Some o → cost o ≤ live_words_of c
cost_within c n o e = let s = sum-unset cost c.objects n o e in omega (arith, s)

-- ---- the parts of an object

pub with_words_width : (i w : ℕ) (vs : List ℕ) (o : Object) → (with_words i w vs o).width ≡ o.width
with_words_width i w [] o = refl
with_words_width i w (v ∷ vs) o = with_words_width i (w + 1) vs _

pub with_words_capacity : (i w : ℕ) (vs : List ℕ) (o : Object) → (with_words i w vs o).capacity ≡ o.capacity
with_words_capacity i w [] o = refl
with_words_capacity i w (v ∷ vs) o = with_words_capacity i (w + 1) vs _

pub as_many : (ss : List Slot) (vs : List (List ℕ)) → length (filled_slots ss vs) ≡ length ss
as_many [] vs = refl
as_many (x ∷ ss) [] = refl
as_many (x ∷ ss) (v ∷ vs) = ap suc (as_many ss vs)

length-take : {A : Type 0} (n : ℕ) (xs : List A) → length (take n xs) ≤ n
length-take zero xs = omega arith
length-take (suc n) [] = omega arith
length-take (suc n) (x ∷ xs) = let r = length-take n xs in omega (arith, r)

length-map : {A B : Type 0} (f : A → B) (xs : List A) → length (map f xs) ≡ length xs
length-map f [] = refl
length-map f (x ∷ xs) = ap suc (length-map f xs)

pub few_slots : (w moment size since : ℕ) (ss : List Slot) → since ≤ size → length (resized_slots w moment size since ss) ≤ size
few_slots w moment size since ss le =
    let front = length-take since ss in
    let rest : List Slot = take (size - since) (drop since ss ++ replicate (size - length ss) (blank_slot w moment)) in
    let back = length-take (size - since) (drop since ss ++ replicate (size - length ss) (blank_slot w moment)) in
    let same = length-map (stamped moment) rest in
    let all = length-append (take since ss) (map (stamped moment) rest) in
    omega (arith, front, back, same, all, le)

-- ---- contents

-- what is there behind an end was there before
pub gone_before : (k : ℕ) (d : Content) (j : ℕ) (x : Object) → at (unset d.objects k) j ≡ Some x → at d.objects j ≡ Some x
gone_before k d j x e = one_or_apart k j (λ s. absurd (none_some (sym (at-unset_same d.objects k j s) ∙ e))) (λ ne. sym (at-unset_other d.objects k j ne) ∙ e)

module _ (limit : ℕ) where
  -- an object with as many words and as much room
  pub bounded_object : (k : ℕ) (o q : Object) (d : Content) → at d.objects k ≡ Some o → q.width ≡ o.width → q.capacity ≡ o.capacity → length q.slots ≤ q.capacity → IsBounded limit d → IsBounded limit (with_object k q d)
  bounded_object k o q d there wide room roomy h = record {
    within =
        let s = live_same d.objects k o q there ((λ i. 2 + wide i * room i)) in
        let w = h.within in
        omega (arith, s, w);
    roomy = λ j x e. one_or_apart k j
        (λ s. subst (λ (y : Object). length y.slots ≤ y.capacity) (some_same (sym (at-set_same d.objects k j q s) ∙ e)) roomy)
        (λ ne. h.roomy j x (sym (at-set_other d.objects k j q ne) ∙ e));
  }

  pub bounded_without : (k : ℕ) (d : Content) → IsBounded limit d → IsBounded limit (without k d)
  bounded_without k d h = record {
    within = let u = live_unset d.objects k in let w = h.within in omega (arith, u, w);
    roomy = λ j x e. h.roomy j x (gone_before k d j x e);
  }

  pub bounded_wrote : (k i w : ℕ) (vs : List ℕ) (d : Content) → IsBounded limit d → IsBounded limit (wrote k i w vs d)
  bounded_wrote k i w vs d h = go (at d.objects k) refl
    where
      go : (x : Option Object) → at d.objects k ≡ x → IsBounded limit (wrote_if x k i w vs d)
      go None e = h
      go (Some o) e =
          bounded_object k o (with_words i w vs o) d e (with_words_width i w vs o) (with_words_capacity i w vs o)
          (let s = with_words_size i w vs o in let r = with_words_capacity i w vs o in let l = h.roomy k o e in omega (arith, s, r, l)) h

  pub bounded_resize : (k size since : ℕ) (o : Object) (d : Content) → at d.objects k ≡ Some o → since ≤ size → size ≤ o.capacity → IsBounded limit d → IsBounded limit (with_resize k size since o d)
  bounded_resize k size since o d there le fits h =
      let one = bounded_object k o (resized (d.clock + 1) size since o) d there refl refl (let f = few_slots o.width (d.clock + 1) size since o.slots le in omega (arith, f, fits)) h in
      record { within = one.within; roomy = one.roomy }

  pub bounded_resized : (k size since : ℕ) (d : Content) → since ≤ size → ((o : Object) → at d.objects k ≡ Some o → size ≤ o.capacity) → IsBounded limit d → IsBounded limit (resized_at k size since d)
  bounded_resized k size since d le fits h = go (at d.objects k) refl
    where
      go : (x : Option Object) → at d.objects k ≡ x → IsBounded limit (resized_if x k size since d)
      go None e = h
      go (Some o) e = bounded_resize k size since o d e le (fits o e) h

  pub bounded_born : (ty : TyId) (w capacity : ℕ) (d : Content) → live_words_of d + (2 + w * capacity) ≤ limit → IsBounded limit d → IsBounded limit (with_birth ty w capacity d)
  bounded_born ty w capacity d fits h = record {
    within = let s = live_set d.objects d.births (newborn ty w capacity d.clock) in omega (arith, s, fits);
    roomy = λ j x e. one_or_apart d.births j
        (λ s. subst (λ (y : Object). length y.slots ≤ y.capacity) (some_same (sym (at-set_same d.objects d.births j (newborn ty w capacity d.clock) s) ∙ e)) (omega arith))
        (λ ne. h.roomy j x (sym (at-set_other d.objects d.births j (newborn ty w capacity d.clock) ne) ∙ e));
  }

-- ---- ends

-- what holds whatever object goes holds behind an end
module _ (P : Content → Type 0) (go : (k : ℕ) (d : Content) → P d → P (without k d)) where
  pub slots_keep : (end : List ℕ → Content → Content) → ((ws : List ℕ) (d : Content) → P d → P (end ws d)) → (ss : List Slot) (d : Content) → P d → P (ended_slots end ss d)
  slots_keep end each [] d h = h
  slots_keep end each (s ∷ ss) d h = slots_keep end each ss (end s.words d) (each s.words d h)

  owned_keeps : (end : List ℕ → Content → Content) → ((ws : List ℕ) (d : Content) → P d → P (end ws d)) → (x : Option ℕ) (d : Content) → P d → P (ended_owned end x d)
  owned_keeps end each None d h = h
  owned_keeps end each (Some k) d h = go k (ended_slots end (slots_at d k) d) (slots_keep end each (slots_at d k) d h)

  pub ended_keeps : (p : Parts) (ws : List ℕ) (d : Content) → P d → P (ended p ws d)
  ended_keeps Single ws d h = h
  ended_keeps Raw ws d h = h
  ended_keeps Iterates ws d h = h
  ended_keeps Views ws d h = h
  ended_keeps (Text ty) ws d h = owned_keeps (λ vs e. e) (λ vs e k. k) (owned_in (slice_index ws 0)) d h
  ended_keeps (Vector ty element) ws d h = owned_keeps (ended element) (ended_keeps element) (owned_in (slice_index ws 0)) d h
  ended_keeps (Unique ty target) ws d h = owned_keeps (ended target) (ended_keeps target) (owned_in (slice_index ws 0)) d h
  ended_keeps (Member first others) ws d h = ended_keeps others (drop (width first) ws) (ended first (take (width first) ws) d) (ended_keeps first (take (width first) ws) d h)
  ended_keeps NoMember ws d h = h

pub bounded_ended : (limit : ℕ) (p : Parts) (ws : List ℕ) (d : Content) → IsBounded limit d → IsBounded limit (ended p ws d)
bounded_ended limit p ws d h = ended_keeps (IsBounded limit) (bounded_without limit) p ws d h
