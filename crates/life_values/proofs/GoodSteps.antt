-- Objects stay good where words are written that name what they should, and where one more is born.
use Rattle.std.proofs.Common.{◌≡◌, ℕ, zero, suc, ◌+◌, ◌-◌, ◌*◌, ◌≤◌, ◌<◌, List, [], ◌∷◌, length, map, replicate, take, Option, Some, None, refl, sym, ap, subst, ◌∙◌, arith}
use Rattle.std.specs.Prelude.{slice_get, slice_index, slice_set}
use Rattle.life_types.specs.declared.ty.TyId.{TyId}
use Rattle.life_store.specs.Cells.{Cells, at, set, at-set_same, at-set_other}
use Rattle.life_store.specs.Content.{Slot, Object, Content, blank_slot, cost, live_words_of, newborn, resized, stamped, with_birth, with_object, with_word, word_in, word_at}
use Rattle.life_store.specs.Held.{resized_at, resized_if, with_words}
use Rattle.life_store.specs.Kinds.{Owner}
use Rattle.life_store.proofs.MapLemmas.{set-set, sum-set, sum-set_fresh}
use Rattle.life_forest.specs.Kinds.{Kinds}
use Rattle.life_forest.proofs.Puts.{put_in}
use Rattle.life_forest.proofs.Widths.{count-blank, wide-resized}
use Rattle.life_seen.proofs.MapViews.{set_cases}
use Rattle.life_values.specs.Good.{IsNaming, IsGood, AreGood}
use Rattle.life_values.proofs.Owners.{with_word_is}
use Rattle.life_values.proofs.Renewed.{word_wide}

-- ---- a word that is read behind a write is what was written, or what stood there

index_or : {C : Type 0} (xs : List ℕ) (w v u k : ℕ) → slice_index (slice_set xs w v) u ≡ suc k → (slice_index xs u ≡ suc k → C) → (w ≡ u → v ≡ suc k → C) → C
index_or [] w v u k e was is = was e
index_or (x ∷ xs) zero v zero k e was is = is refl e
index_or (x ∷ xs) zero v (suc u) k e was is = was e
index_or (x ∷ xs) (suc w) v zero k e was is = was e
index_or (x ∷ xs) (suc w) v (suc u) k e was is = index_or xs w v u k e was (λ s h. is (ap suc s) h)

slot_or : {C : Type 0} (ss : List Slot) (i w v j u k : ℕ) → word_in (slice_get (put_in i w v ss) j) u ≡ suc k → (word_in (slice_get ss j) u ≡ suc k → C) → (w ≡ u → v ≡ suc k → C) → C
slot_or [] i w v j u k e was is = was e
slot_or (s ∷ ss) zero w v zero u k e was is = index_or s.words w v u k e was is
slot_or (s ∷ ss) zero w v (suc j) u k e was is = was e
slot_or (s ∷ ss) (suc i) w v zero u k e was is = was e
slot_or (s ∷ ss) (suc i) w v (suc j) u k e was is = slot_or ss i w v j u k e was is

word_or : {C : Type 0} (o : Object) (i w v j u k : ℕ) → word_at (with_word i w v o) j u ≡ suc k → (word_at o j u ≡ suc k → C) → (w ≡ u → v ≡ suc k → C) → C
word_or o i w v j u k e was is = slot_or o.slots i w v j u k (ap (λ (x : Object). word_at x j u) (sym (with_word_is i w v o)) ∙ e) was is

-- ---- blank slots

abbrev AllZero : List Slot → Type 0
AllZero ss = (i u : ℕ) → word_in (slice_get ss i) u ≡ 0

index_zero : (w u : ℕ) → slice_index (replicate w 0) u ≡ 0
index_zero zero zero = refl
index_zero zero (suc u) = refl
index_zero (suc w) zero = refl
index_zero (suc w) (suc u) = index_zero w u

none_zero : AllZero []
none_zero zero zero = refl
none_zero zero (suc u) = refl
none_zero (suc i) zero = refl
none_zero (suc i) (suc u) = refl

blanks_zero : (w t n : ℕ) → AllZero (replicate n (blank_slot w t))
blanks_zero w t zero i u = none_zero i u
blanks_zero w t (suc n) zero u = index_zero w u
blanks_zero w t (suc n) (suc i) u = blanks_zero w t n i u

take_zero : (k : ℕ) (ss : List Slot) → AllZero ss → AllZero (take k ss)
take_zero zero [] h i u = none_zero i u
take_zero zero (s ∷ ss) h i u = none_zero i u
take_zero (suc k) [] h i u = none_zero i u
take_zero (suc k) (s ∷ ss) h zero u = h 0 u
take_zero (suc k) (s ∷ ss) h (suc i) u = take_zero k ss (λ j v. h (suc j) v) i u

stamped_zero : (t : ℕ) (ss : List Slot) → AllZero ss → AllZero (map (stamped t) ss)
stamped_zero t [] h i u = none_zero i u
stamped_zero t (s ∷ ss) h zero u = h 0 u
stamped_zero t (s ∷ ss) h (suc i) u = stamped_zero t ss (λ j v. h (suc j) v) i u

module _ (kind : Kinds) where
  -- ---- later, where no old object has another type

  abbrev pub KeepsTypes : Content → Content → Type 0
  KeepsTypes c d = (k : ℕ) → k < c.births → (q : Object) → at d.objects k ≡ Some q → (x : Object) × (at c.objects k ≡ Some x) × (x.ty ≡ q.ty)

  naming_later : (c d : Content) → c.births ≤ d.births → KeepsTypes c d → (ty : TyId) (u m : ℕ) → IsNaming kind c ty u m → IsNaming kind d ty u m
  naming_later c d le keeps ty u m h = record {
    born = let b = h.born in omega (arith, b, le);
    type = λ q at_m. let x = keeps m h.born q at_m in h.type x.0 x.1 ∙ ap Some x.2;
  }

  good_later : (c d : Content) → c.births ≤ d.births → KeepsTypes c d → (o : Object) → IsGood kind c o → IsGood kind d o
  good_later c d le keeps o h = record {
    width = h.width;
    long = h.long;
    names = λ i u m owner e. naming_later c d le keeps o.ty u m (h.names i u m owner e);
  }

  -- ---- words are written

  pub good_word : (c : Content) (o : Object) (i w v : ℕ) → IsGood kind c o → ((k : ℕ) → kind.word o.ty w ≡ Owner → v ≡ suc k → IsNaming kind c o.ty w k) → IsGood kind c (with_word i w v o)
  good_word c o i w v h naming = record {
    width = h.width;
    long = word_wide i w v o h.long;
    names = λ j u m owner e. word_or o i w v j u m e (λ was. h.names j u m owner was)
        (λ same new. subst (λ x. IsNaming kind c o.ty x m) same (naming m (ap (kind.word o.ty) same ∙ owner) new));
  }

  pub good_words : (c : Content) (vs : List ℕ) (o : Object) (i w : ℕ) → IsGood kind c o → ((t v k : ℕ) → slice_get vs t ≡ Some v → kind.word o.ty (w + t) ≡ Owner → v ≡ suc k → IsNaming kind c o.ty (w + t) k)
      → IsGood kind c (with_words i w vs o)
  good_words c [] o i w h naming = h
  good_words c (v ∷ vs) o i w h naming =
      let z : w + 0 ≡ w = omega arith in
      good_words c vs (with_word i w v o) i (w + 1)
      (good_word c o i w v h (λ k owner e. subst (λ x. IsNaming kind c o.ty x k) z (naming 0 v k refl (ap (kind.word o.ty) z ∙ owner) e)))
      (λ t x k here owner e.
      let y : w + suc t ≡ w + 1 + t = omega arith in
      subst (λ u. IsNaming kind c o.ty u k) y (naming (suc t) x k here (ap (kind.word o.ty) y ∙ owner) e))

  -- ---- an object is written

  pub good_with : (limit : ℕ) (c : Content) (m : ℕ) (p o : Object) → AreGood kind limit c → at c.objects m ≡ Some o → p.ty ≡ o.ty → p.width ≡ o.width → p.capacity ≡ o.capacity → IsGood kind c p → AreGood kind limit (with_object m p c)
  good_with limit c m p o good there ty width capacity own = record {
    good = λ n x at_n. set_cases c.objects m n p x at_n
        (λ e same. subst (IsGood kind (with_object m p c)) same (good_later c (with_object m p c) (omega arith) keeps p own))
        (λ ne old. good_later c (with_object m p c) (omega arith) keeps x (good.good n x old));
    born = λ n x at_n. set_cases c.objects m n p x at_n (λ e same. let b = good.born m o there in omega (arith, b, e)) (λ ne old. good.born n x old);
    room =
        let r = good.room in
        let l : cost p ≡ cost o = (λ j. 2 + width j * capacity j) in
        let e = sum-set cost c.objects m o p there in
        record {
          within = let a = r.within in omega (arith, a, l, e);
          births = let a = r.births in omega (arith, a, l, e);
          clock = let a = r.clock in omega (arith, a, l, e);
        };
  }
    where
      keeps : KeepsTypes c (with_object m p c)
      keeps k lt q at_k = set_cases c.objects m k p q at_k (λ e same. (o, ap (at c.objects) (sym e) ∙ there, sym ty ∙ ap (λ (x : Object). x.ty) same)) (λ ne old. (q, old, refl))

  -- ---- an object is born with its slots

  pub record Sized (limit : ℕ) (ty : TyId) (w size : ℕ) (c : Content) (b : ℕ × Content) : Type 0 where
    pub number : b.0 ≡ c.births
    pub births : b.1.births ≡ c.births + 1
    pub same : (k : ℕ) → k < c.births → at b.1.objects k ≡ at c.objects k
    pub object : Object
    pub there : at b.1.objects b.0 ≡ Some object
    pub type : object.ty ≡ ty
    pub width : object.width ≡ w
    pub count : length object.slots ≡ size
    pub good : AreGood kind limit b.1

  module _ (limit : ℕ) (ty : TyId) (w size : ℕ) (c : Content) (good : AreGood kind limit c) (wide : kind.width ty ≡ w) (room : live_words_of c + (2 + w * size) ≤ limit) where
    abbrev blanks : Object
    blanks = resized (c.clock + 1) size 0 (newborn ty w size c.clock)

    abbrev sized : Content
    sized = record { objects = set c.objects c.births blanks; births = c.births + 1; clock = c.clock + 1 }

    is_sized : resized_at c.births size 0 (with_birth ty w size c) ≡ sized
    is_sized =
        ap (λ (x : Option Object). resized_if x c.births size 0 (with_birth ty w size c)) (at-set_same c.objects c.births c.births (newborn ty w size c.clock) refl)
        ∙ ap (λ (m : Cells Object). record { objects = m; births = c.births + 1; clock = c.clock + 1 }) (set-set c.objects c.births (newborn ty w size c.clock) blanks)

    free : at c.objects c.births ≡ None
    free = go (at c.objects c.births) refl
      where
        go : (x : Option Object) → at c.objects c.births ≡ x → at c.objects c.births ≡ None
        go None e = e
        go (Some o) e = let b = good.born c.births o e in absurd (omega (arith, b))

    keeps : KeepsTypes c sized
    keeps k lt q at_k = (q, sym (at-set_other c.objects c.births k blanks (λ e. absurd (omega (arith, e, lt)))) ∙ at_k, refl)

    zeros : AllZero blanks.slots
    zeros = stamped_zero (c.clock + 1) (take (size - 0) (replicate (size - 0) (blank_slot w (c.clock + 1)))) (take_zero (size - 0) (replicate (size - 0) (blank_slot w (c.clock + 1))) (blanks_zero w (c.clock + 1) (size - 0)))

    blank_good : IsGood kind sized blanks
    blank_good = record {
      width = sym wide;
      long = wide-resized w (c.clock + 1) size 0 [] tt;
      names = λ i u m owner e. let z = zeros i u in absurd (omega (arith, z, e));
    }

    live_sized : live_words_of sized ≡ 2 + w * size + live_words_of c
    live_sized = sum-set_fresh cost c.objects c.births blanks free

    sized_good : AreGood kind limit sized
    sized_good = record {
      good = λ n x at_n. set_cases c.objects c.births n blanks x at_n (λ e same. subst (IsGood kind sized) same blank_good) (λ ne old. good_later c sized (omega arith) keeps x (good.good n x old));
      born = λ n x at_n. set_cases c.objects c.births n blanks x at_n (λ e same. omega (arith, e)) (λ ne old. let b = good.born n x old in omega (arith, b));
      room =
          let r = good.room in
          let l = live_sized in
          record {
            within = omega (arith, l, room);
            births = let a = r.births in omega (arith, a, l);
            clock = let a = r.clock in omega (arith, a, l);
          };
    }

    pub sized_is : Sized limit ty w size c (c.births, resized_at c.births size 0 (with_birth ty w size c))
    sized_is =
        subst (λ (d : Content). Sized limit ty w size c (c.births, d)) (sym is_sized)
        (record {
          number = refl;
          births = refl;
          same = λ k lt. at-set_other c.objects c.births k blanks (λ e. absurd (omega (arith, e, lt)));
          object = blanks;
          there = at-set_same c.objects c.births c.births blanks refl;
          type = refl;
          width = refl;
          count = count-blank w (c.clock + 1) size;
          good = sized_good;
        })
