-- How far a copy counts: each birth takes two live words at least, and nothing ends, so the limit bounds the births. Each new object gets its slots at one moment.
use Rattle.std.proofs.Common.{◌≡◌, ℕ, ◌+◌, ◌*◌, ◌≤◌, ◌<◌, Bool, true, false, cond, List, [], ◌∷◌, ◌++◌, drop, length, take, Option, Some, None, refl, sym, ap, subst, ◌∙◌, arith}
use Rattle.std.proofs.lemmas.Bool.{ltb-false}
use Rattle.std.proofs.lemmas.Option.{same_Some}
use Rattle.std.specs.Prelude.{nat_lt, slice_index}
use Rattle.life_types.specs.declared.ty.TyId.{TyId}
use Rattle.life_store.specs.Cells.{at, set, at-set_same, at-set_other, sum_over}
use Rattle.life_store.specs.Content.{Slot, Object, Content, cost, live_words_of, newborn, resized, with_birth, with_object}
use Rattle.life_store.specs.Effects.{Setting, Attempt, Got, GotTrap, then_get}
use Rattle.life_store.specs.Held.{filled, filled_if, filled_slots, owned_in, resized_at, resized_if, slots_at}
use Rattle.life_store.specs.Owners.{copied, copied_buffer, copied_slots, owning, sized_birth, Words}
use Rattle.life_store.specs.Parts.{Parts, Single, Raw, Iterates, Views, Text, Vector, Unique, Member, NoMember, width}
use Rattle.life_store.specs.declared.run.TrapKind.TheVariants as trap
use Rattle.life_store.proofs.MapLemmas.{one_or_apart, sum-set_fresh}
use Rattle.life_forest.proofs.Coming.{IfGot, got_then}
use Rattle.life_changes.proofs.Bounds.{live_same}
use Rattle.life_changes.proofs.Counted.{counted_born, counted_filled, counted_resized, Counted}

module _ (limit : ℕ) (c : Content) (b cap : ℕ) where
  pub record Grown (d : Content) : Type 0 where
    pub births : ℕ
    pub moments : ℕ
    pub counted : Counted limit c b cap births moments d
    pub lives : 2 * births + live_words_of c ≤ live_words_of d
    pub soon : moments ≤ births
    pub below : (n : ℕ) (o : Object) → at d.objects n ≡ Some o → n < d.births

  -- the next number is free
  free : (d : Content) → Grown d → at d.objects d.births ≡ None
  free d h = go (at d.objects d.births) refl
    where
      go : (x : Option Object) → at d.objects d.births ≡ x → at d.objects d.births ≡ None
      go None e = e
      go (Some o) e = let l = h.below d.births o e in absurd (omega (arith, l))

  -- an object as large as it was
  grown_object : (d e : Content) (k : ℕ) (o q : Object) → at d.objects k ≡ Some o → cost q ≡ cost o → (h : Grown d) → (n t : ℕ) → n ≡ h.births → t ≤ n → e.objects ≡ set d.objects k q → e.births ≡ d.births → Counted limit c b cap n t e → Grown e
  grown_object d e k o q there same h n t births soon objects as_many counted = record {
    births = n;
    moments = t;
    counted = counted;
    lives =
        let s = live_same d.objects k o q there same in
        let l = h.lives in
        let m = ap (sum_over cost) objects in
        omega (arith, s, l, m, births);
    soon = soon;
    below = λ j x at_j.
        one_or_apart k j
        (λ e. let l = h.below k o there in omega (arith, e, l, as_many))
        (λ ne. let l = h.below j x (sym (at-set_other d.objects k j q ne) ∙ sym (ap (λ m. at m j) objects) ∙ at_j) in omega (arith, l, as_many));
  }

  module _ (s : Setting) (cells : s.given.cells ≡ limit) where
    -- an object of so many slots comes to life
    module _ (ty : TyId) (w size : ℕ) (d : Content) (h : Grown d) (fits : live_words_of d + (2 + w * size) ≤ limit) where
      abbrev born : Content
      born = with_birth ty w size d

      abbrev new : Object
      new = newborn ty w size d.clock

      new_there : at born.objects d.births ≡ Some new
      new_there = at-set_same d.objects d.births d.births new refl

      grown_born : Grown born
      grown_born = record {
        births = h.births + 1;
        moments = h.moments;
        counted = counted_born limit c b cap h.births h.moments ty w size d fits h.counted;
        lives = let f = sum-set_fresh cost d.objects d.births new (free d h) in let l = h.lives in omega (arith, f, l);
        soon = let l = h.soon in omega (arith, l);
        below = λ j x at_j.
            one_or_apart d.births j
            (λ e. omega (arith, e))
            (λ ne. let l = h.below j x (sym (at-set_other d.objects d.births j new ne) ∙ at_j) in omega (arith, l));
      }

      grown_sized : Grown (resized_at d.births size 0 born)
      unfolding grown_born
      grown_sized =
          grown_object born (resized_at d.births size 0 born) d.births new (resized (born.clock + 1) size 0 new) new_there refl grown_born (h.births + 1) (h.moments + 1) refl (let l = h.soon in omega (arith, l))
          (ap (λ (x : Option Object). (resized_if x d.births size 0 born).objects) new_there) (ap (λ (x : Option Object). (resized_if x d.births size 0 born).births) new_there)
          (counted_resized limit c b cap (h.births + 1) h.moments d.births size 0 born (omega arith) (λ o e. let same = ap (λ (x : Object). x.capacity) (same_Some new o (sym new_there ∙ e)) in omega (arith, same)) grown_born.counted)

    sized_grows : (ty : TyId) (w size : ℕ) (d : Content) → Grown d → IfGot (sized_birth s ty w size d) (λ v. Grown v.1)
    sized_grows ty w size d h = go (nat_lt s.given.cells (live_words_of d + (2 + w * size))) refl
      where
        go : (x : Bool) → nat_lt s.given.cells (live_words_of d + (2 + w * size)) ≡ x
            → IfGot (then_get {A = ℕ × Content} (cond x (GotTrap trap.Cells) (Got (d.births, with_birth ty w size d))) (λ v. Got (v.0, resized_at v.0 size 0 v.1))) (λ (v : ℕ × Content). Grown v.1)
        go true e = tt
        go false e = grown_sized ty w size d h (let l = ltb-false s.given.cells (live_words_of d + (2 + w * size)) e in omega (arith, l, cells))

    filled_grows : (k : ℕ) (vs : List (List ℕ)) (d : Content) → Grown d → Grown (filled k vs d)
    filled_grows k vs d h = go (at d.objects k) refl
      where
        go : (x : Option Object) → at d.objects k ≡ x → Grown (filled_if x k vs d)
        go None e = h
        go (Some o) e =
            grown_object d (with_object k (record o { slots = filled_slots o.slots vs }) d) k o (record o { slots = filled_slots o.slots vs }) e refl h h.births h.moments refl h.soon refl refl
            (subst (λ (x : Option Object). Counted limit c b cap h.births h.moments (filled_if x k vs d)) e (counted_filled limit c b cap h.births h.moments k vs d h.counted))

    slots_grow : (copy : List ℕ → Content → Attempt Words) → ((ws : List ℕ) (d : Content) → Grown d → IfGot (copy ws d) (λ v. Grown v.1)) → (ss : List Slot) (d : Content) → Grown d → IfGot (copied_slots copy ss d) (λ v. Grown v.1)
    slots_grow copy each [] d h = h
    slots_grow copy each (x ∷ ss) d h =
        got_then (copy x.words d) (λ v. then_get (copied_slots copy ss v.1) (λ vs. Got (v.0 ∷ vs.0, vs.1))) (λ v. Grown v.1) (λ v. Grown v.1) (each x.words d h)
        (λ v k. got_then (copied_slots copy ss v.1) (λ vs. Got (v.0 ∷ vs.0, vs.1)) (λ v. Grown v.1) (λ v. Grown v.1) (slots_grow copy each ss v.1 k) (λ vs k'. k'))

    buffer_grows : (ty : TyId) (w : ℕ) (copy : List ℕ → Content → Attempt Words) → ((ws : List ℕ) (d : Content) → Grown d → IfGot (copy ws d) (λ v. Grown v.1)) → (x : Option ℕ) (d : Content) → Grown d → IfGot (copied_buffer s ty w copy x d) (λ v. Grown v.1)
    buffer_grows ty w copy each None d h = tt
    buffer_grows ty w copy each (Some n) d h =
        got_then (sized_birth s ty w (length (slots_at d n)) d) (λ v. then_get (copied_slots copy (slots_at d n) v.1) (λ vs. Got (owning (v.0, filled v.0 vs.0 vs.1)))) (λ v. Grown v.1) (λ v. Grown v.1)
        (sized_grows ty w (length (slots_at d n)) d h)
        (λ v k. got_then (copied_slots copy (slots_at d n) v.1) (λ vs. Got (owning (v.0, filled v.0 vs.0 vs.1))) (λ v. Grown v.1) (λ v. Grown v.1) (slots_grow copy each (slots_at d n) v.1 k) (λ vs k'. filled_grows v.0 vs.0 vs.1 k'))

    pub copied_grows : (p : Parts) (ws : List ℕ) (d : Content) → Grown d → IfGot (copied s p ws d) (λ v. Grown v.1)
    copied_grows Single ws d h = h
    copied_grows Raw ws d h = h
    copied_grows Iterates ws d h = h
    copied_grows Views ws d h = h
    copied_grows (Text ty) ws d h = buffer_grows ty 1 (λ vs e. Got (vs, e)) (λ vs e k. k) (owned_in (slice_index ws 0)) d h
    copied_grows (Vector ty element) ws d h = buffer_grows ty (width element) (copied s element) (copied_grows element) (owned_in (slice_index ws 0)) d h
    copied_grows (Unique ty target) ws d h = tt
    copied_grows (Member first others) ws d h =
        got_then (copied s first (take (width first) ws) d) (λ a. then_get (copied s others (drop (width first) ws) a.1) (λ b'. Got (a.0 ++ b'.0, b'.1))) (λ v. Grown v.1) (λ v. Grown v.1)
        (copied_grows first (take (width first) ws) d h)
        (λ a k. got_then (copied s others (drop (width first) ws) a.1) (λ b'. Got (a.0 ++ b'.0, b'.1)) (λ v. Grown v.1) (λ v. Grown v.1) (copied_grows others (drop (width first) ws) a.1 k) (λ b' k'. k'))
    copied_grows NoMember ws d h = h
