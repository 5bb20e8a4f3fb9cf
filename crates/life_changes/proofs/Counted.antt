-- How far a step counts: so many births and moments at most, and what lives stays within the limit, each object with the room for its slots.
use Rattle.std.proofs.Common.{◌≡◌, ℕ, ◌+◌, ◌*◌, ◌≤◌, ◌<◌, List, [], ◌∷◌, length, Option, Some, None, refl, sym, ap, subst, ◌∙◌, arith, suc-mul}
use Rattle.std.specs.Prelude.{drop, slice_index, take}
use Rattle.life_types.specs.declared.ty.TyId.{TyId}
use Rattle.life_store.specs.Cells.{at, unset, at-set_same, at-set_other}
use Rattle.life_store.specs.Content.{Slot, Object, Content, cost, live_words_of, newborn, resized, with_birth, with_object, with_rename, without}
use Rattle.life_store.specs.Held.{filled, filled_if, filled_slots, owned_in, resized_at, resized_if, slot_words, with_words, wrote, wrote_if}
use Rattle.life_store.specs.Owners.{consumed, ended, ended_slots, renamed, renamed_if, taken, taken_slots}
use Rattle.life_store.specs.Parts.{Parts, Single, Raw, Iterates, Views, Text, Vector, Unique, Member, NoMember, width}
use Rattle.life_store.proofs.CellLemmas.{some_same}
use Rattle.life_store.proofs.MapLemmas.{one_or_apart, sum-unset}
use Rattle.life_forest.proofs.Above.{with_words_size}
use Rattle.life_changes.specs.Bounded.{IsBounded}
use Rattle.life_changes.proofs.Bounds.{as_many, bounded_born, bounded_object, bounded_without, ended_keeps, few_slots, gone_before, live_set, slots_keep, with_words_capacity, with_words_width}

-- ---- contents

module _ (limit : ℕ) (c : Content) (b cap : ℕ) where
  -- behind so many births and moments; the one object has the capacity that it had
  pub record Counted (n t : ℕ) (d : Content) : Type 0 where
    pub births : d.births ≤ c.births + n
    pub clock : d.clock ≤ c.clock + t
    pub bounded : IsBounded limit d
    pub old : b < d.births
    pub same : (o : Object) → at d.objects b ≡ Some o → o.capacity ≡ cap

  pub counted_more : (n t m u : ℕ) (d : Content) → n ≤ m → t ≤ u → Counted n t d → Counted m u d
  counted_more n t m u d le lt h = record {
    births = let x = h.births in omega (arith, x, le);
    clock = let x = h.clock in omega (arith, x, lt);
    bounded = h.bounded;
    old = h.old;
    same = h.same;
  }

  -- an object with as many words and as much room
  pub counted_object : (n t k : ℕ) (o q : Object) (d : Content) → at d.objects k ≡ Some o → q.width ≡ o.width → q.capacity ≡ o.capacity → length q.slots ≤ q.capacity → Counted n t d → Counted n t (with_object k q d)
  counted_object n t k o q d there wide room roomy h = record {
    births = h.births;
    clock = h.clock;
    bounded = bounded_object limit k o q d there wide room roomy h.bounded;
    old = h.old;
    same = λ x e. one_or_apart k b
        (λ s. ap (λ (y : Object). y.capacity) (some_same (sym e ∙ at-set_same d.objects k b q s)) ∙ room ∙ h.same o (sym (ap (at d.objects) s) ∙ there))
        (λ ne. h.same x (sym (at-set_other d.objects k b q ne) ∙ e));
  }

  pub counted_without : (n t k : ℕ) (d : Content) → Counted n t d → Counted n t (without k d)
  counted_without n t k d h = record {
    births = h.births;
    clock = h.clock;
    bounded = bounded_without limit k d h.bounded;
    old = h.old;
    same = λ x e. h.same x (gone_before k d b x e);
  }

  pub counted_wrote : (n t k i w : ℕ) (vs : List ℕ) (d : Content) → Counted n t d → Counted n t (wrote k i w vs d)
  counted_wrote n t k i w vs d h = go (at d.objects k) refl
    where
      go : (x : Option Object) → at d.objects k ≡ x → Counted n t (wrote_if x k i w vs d)
      go None e = h
      go (Some o) e =
          counted_object n t k o (with_words i w vs o) d e (with_words_width i w vs o) (with_words_capacity i w vs o)
          (let s = with_words_size i w vs o in let r = with_words_capacity i w vs o in let l = h.bounded.roomy k o e in omega (arith, s, r, l)) h

  pub counted_filled : (n t k : ℕ) (vs : List (List ℕ)) (d : Content) → Counted n t d → Counted n t (filled k vs d)
  counted_filled n t k vs d h = go (at d.objects k) refl
    where
      go : (x : Option Object) → at d.objects k ≡ x → Counted n t (filled_if x k vs d)
      go None e = h
      go (Some o) e = counted_object n t k o (record o { slots = filled_slots o.slots vs }) d e refl refl (let s = as_many o.slots vs in let l = h.bounded.roomy k o e in omega (arith, s, l)) h

  -- the clock goes on
  counted_tick : (n t : ℕ) (d : Content) → Counted n t d → Counted n (t + 1) (record d { clock = d.clock + 1 })
  counted_tick n t d h = record {
    births = h.births;
    clock = let x = h.clock in omega (arith, x);
    bounded = record { within = h.bounded.within; roomy = h.bounded.roomy };
    old = h.old;
    same = h.same;
  }

  pub counted_resized : (n t k size since : ℕ) (d : Content) → since ≤ size → ((o : Object) → at d.objects k ≡ Some o → size ≤ o.capacity) → Counted n t d → Counted n (t + 1) (resized_at k size since d)
  counted_resized n t k size since d le fits h = go (at d.objects k) refl
    where
      go : (x : Option Object) → at d.objects k ≡ x → Counted n (t + 1) (resized_if x k size since d)
      go None e = counted_more n t n (t + 1) d (omega arith) (omega arith) h
      go (Some o) e =
          counted_tick n t (with_object k (resized (d.clock + 1) size since o) d)
          (counted_object n t k o (resized (d.clock + 1) size since o) d e refl refl
          (let f = few_slots o.width (d.clock + 1) size since o.slots le in let r = fits o e in omega (arith, f, r)) h)

  -- ---- new numbers

  pub counted_born : (n t : ℕ) (ty : TyId) (w capacity : ℕ) (d : Content) → live_words_of d + (2 + w * capacity) ≤ limit → Counted n t d → Counted (n + 1) t (with_birth ty w capacity d)
  counted_born n t ty w capacity d fits h = record {
    births = let x = h.births in omega (arith, x);
    clock = h.clock;
    bounded = bounded_born limit ty w capacity d fits h.bounded;
    old = let x = h.old in omega (arith, x);
    same = λ x e. h.same x (sym (at-set_other d.objects d.births b (newborn ty w capacity d.clock) (λ s. let l = h.old in absurd (omega (arith, s, l)))) ∙ e);
  }

  counted_renamed : (n t k : ℕ) (o : Object) (d : Content) → at d.objects k ≡ Some o → Counted n t d → Counted (n + 1) t (with_rename k o d)
  counted_renamed n t k o d there h = record {
    births = let x = h.births in omega (arith, x);
    clock = h.clock;
    bounded = record {
      within =
          let s = live_set (unset d.objects k) d.births o in
          let u = sum-unset cost d.objects k o there in
          let w = h.bounded.within in
          omega (arith, s, u, w);
      roomy = λ j x e. one_or_apart d.births j
          (λ s. subst (λ (y : Object). length y.slots ≤ y.capacity) (some_same (sym (at-set_same (unset d.objects k) d.births j o s) ∙ e)) (h.bounded.roomy k o there))
          (λ ne. (counted_without n t k d h).bounded.roomy j x (sym (at-set_other (unset d.objects k) d.births j o ne) ∙ e));
    };
    old = let x = h.old in omega (arith, x);
    same = λ x e. (counted_without n t k d h).same x (sym (at-set_other (unset d.objects k) d.births b o (λ s. let l = h.old in absurd (omega (arith, s, l)))) ∙ e);
  }

  counted_text : (n t : ℕ) (x : Option ℕ) (d : Content) → Counted n t d → Counted (n + 1) t (renamed x d).1
  counted_text n t None d h = counted_more n t (n + 1) t d (omega arith) (omega arith) h
  counted_text n t (Some k) d h = go (at d.objects k) refl
    where
      go : (x : Option Object) → at d.objects k ≡ x → Counted (n + 1) t (renamed_if x k d).1
      go None e = counted_more n t (n + 1) t d (omega arith) (omega arith) h
      go (Some o) e = counted_renamed n t k o d e h

  -- each string of a value gets one number
  pub counted_taken : (p : Parts) (ws : List ℕ) (n t : ℕ) (d : Content) → Counted n t d → Counted (n + width p) t (taken p ws d).1
  counted_taken Single ws n t d h = counted_more n t (n + 1) t d (omega arith) (omega arith) h
  counted_taken Raw ws n t d h = counted_more n t (n + 5) t d (omega arith) (omega arith) h
  counted_taken Iterates ws n t d h = counted_more n t (n + 5) t d (omega arith) (omega arith) h
  counted_taken Views ws n t d h = counted_more n t (n + 5) t d (omega arith) (omega arith) h
  counted_taken (Text ty) ws n t d h = counted_text n t (owned_in (slice_index ws 0)) d h
  counted_taken (Vector ty element) ws n t d h = counted_more n t (n + 1) t d (omega arith) (omega arith) h
  counted_taken (Unique ty target) ws n t d h = counted_more n t (n + 1) t d (omega arith) (omega arith) h
  counted_taken (Member first others) ws n t d h =
      let all : (n + width first) + width others ≡ n + (width first + width others) = omega arith in
      subst (λ k. Counted k t (taken (Member first others) ws d).1) all
      (counted_taken others (drop (width first) ws) (n + width first) t (taken first (take (width first) ws) d).1 (counted_taken first (take (width first) ws) n t d h))
  counted_taken NoMember ws n t d h = counted_more n t (n + 0) t d (omega arith) (omega arith) h

  pub counted_slots : (p : Parts) (ss : List Slot) (n t : ℕ) (d : Content) → Counted n t d → Counted (n + length ss * width p) t (taken_slots p ss d).1
  counted_slots p [] n t d h = counted_more n t _ t d (omega arith) (omega arith) h
  counted_slots p (s ∷ ss) n t d h =
      let m = suc-mul (length ss) (width p) in
      counted_more ((n + width p) + length ss * width p) t _ t _ (omega (arith, m)) (omega arith)
      (counted_slots p ss (n + width p) t (taken p s.words d).1 (counted_taken p s.words n t d h))

  pub counted_consumed : (p : Parts) (k n t : ℕ) (d : Content) → Counted n t d → Counted (n + width p) t (consumed p k d).1
  counted_consumed p k n t d h = counted_without (n + width p) t k (taken p (slot_words d k 0) d).1 (counted_taken p (slot_words d k 0) n t d h)

  -- ---- ends

  pub counted_ended : (p : Parts) (ws : List ℕ) (n t : ℕ) (d : Content) → Counted n t d → Counted n t (ended p ws d)
  counted_ended p ws n t d h = ended_keeps (Counted n t) (counted_without n t) p ws d h

  pub counted_all_ended : (p : Parts) (ss : List Slot) (n t : ℕ) (d : Content) → Counted n t d → Counted n t (ended_slots (ended p) ss d)
  counted_all_ended p ss n t d h = slots_keep (Counted n t) (counted_without n t) (ended p) (ended_keeps (Counted n t) (counted_without n t) p) ss d h
