-- No number returns and no object changes its type: what is there was there before, if it was born, with as many slots unless its size may change.
use Rattle.std.proofs.Common.{◌≡◌, ◌⊎◌, inl, inr, ⊎_elim, ℕ, suc, ◌+◌, ◌*◌, ◌≤◌, ◌<◌, List, [], ◌∷◌, ◌++◌, length, Option, Some, None, refl, sym, ap, subst, ◌∙◌, arith}
use Rattle.std.specs.Prelude.{drop, nat_lt, slice_index, take}
use Rattle.life_types.specs.declared.ty.TyId.{TyId}
use Rattle.life_core.specs.declared.instr.Form.{Form}
use Rattle.life_store.specs.Cells.{at, set}
use Rattle.life_store.specs.Content.{Slot, Object, Content, live_words_of, newborn, resized, with_birth, with_object, with_rename, with_resize, without}
use Rattle.life_store.specs.Effects.{Setting, Attempt, Got, then_get}
use Rattle.life_store.specs.Held.{filled, filled_if, filled_slots, owned_in, resized_at, resized_if, slot_words, slots_at, with_words, wrote, wrote_if}
use Rattle.life_store.specs.Owners.{Words, birth, consumed, copied, copied_buffer, copied_slots, ended, ended_owned, ended_slots, fresh, joined, object_with, owning, renamed, renamed_if, sized_birth, taken, taken_slots}
use Rattle.life_store.specs.Parts.{Parts, Single, Raw, Iterates, Views, Text, Vector, Unique, Member, NoMember, width}
use Rattle.life_store.proofs.CellLemmas.{none_some, some_same, set_cases, unset_cases}
use Rattle.life_forest.proofs.Above.{with_words_size, with_words_type}
use Rattle.life_forest.proofs.Coming.{IfGot, got_then, if_room}

-- the object was there, of this type, and with as many slots unless its size may change
pub record Stayed (loose : ℕ → Type 0) (c : Content) (n : ℕ) (x : Object) : Type 0 where
  pub object : Object
  pub there : at c.objects n ≡ Some object
  pub type : object.ty ≡ x.ty
  pub size : (loose n → ⊥) → length object.slots ≡ length x.slots

pub record Stays (loose : ℕ → Type 0) (c d : Content) : Type 0 where
  pub births : c.births ≤ d.births
  pub was : (n : ℕ) (x : Object) → n < c.births → at d.objects n ≡ Some x → Stayed loose c n x

pub stays_self : (loose : ℕ → Type 0) (c : Content) → Stays loose c c
stays_self loose c = record { births = omega arith; was = λ n x lt there. record { object = x; there = there; type = refl; size = λ fixed. refl } }

-- what may change for some may for more
pub stays_more : (loose more : ℕ → Type 0) (c d : Content) → ((n : ℕ) → loose n → more n) → Stays loose c d → Stays more c d
stays_more loose more c d le s = record {
  births = s.births;
  was = λ n x lt there. let w = s.was n x lt there in record { object = w.object; there = w.there; type = w.type; size = λ fixed. w.size (λ h. fixed (le n h)) };
}

-- one after the other
pub stays_then : (loose : ℕ → Type 0) (c d e : Content) → Stays loose c d → Stays loose d e → Stays loose c e
stays_then loose c d e first second = record {
  births = let a = first.births in let b = second.births in omega (arith, a, b);
  was = λ n x lt there.
      let b = second.was n x (let l = first.births in omega (arith, l, lt)) there in
      let a = first.was n b.object lt b.there in
      record { object = a.object; there = a.there; type = a.type ∙ b.type; size = λ fixed. a.size fixed ∙ b.size fixed };
}

module _ (loose : ℕ → Type 0) (c : Content) where
  -- ---- the changes of which all others are made

  -- all else is as it was, and at one number is an object of the same type
  pub stays_set : (d e : Content) (k : ℕ) (o q : Object) → d.births ≤ e.births → e.objects ≡ set d.objects k q → at d.objects k ≡ Some o → o.ty ≡ q.ty → (k < c.births → (loose k → ⊥) → length o.slots ≡ length q.slots) → Stays loose c d → Stays loose c e
  stays_set d e k o q later is old type size s = record {
    births = let b = s.births in omega arith;
    was = λ n x lt there. ⊎_elim (λ h. here n x lt h.0 (some_same (sym h.1 ∙ sym (ap (λ m. at m n) is) ∙ there))) (λ h. s.was n x lt (sym h.1 ∙ sym (ap (λ m. at m n) is) ∙ there)) (set_cases d.objects k n q);
  }
    where
      here : (n : ℕ) (x : Object) → n < c.births → k ≡ n → q ≡ x → Stayed loose c n x
      here n x lt at_k same =
          let w = s.was n o lt (ap (at d.objects) (sym at_k) ∙ old) in
          record {
            object = w.object;
            there = w.there;
            type = w.type ∙ type ∙ ap (λ (z : Object). z.ty) same;
            size = λ fixed. w.size fixed ∙ size (omega (arith, at_k, lt)) (λ l. fixed (subst loose at_k l)) ∙ ap (λ (z : Object). length z.slots) same;
          }

  -- .. or a new one
  pub stays_born : (d e : Content) (k : ℕ) (q : Object) → d.births ≤ e.births → e.objects ≡ set d.objects k q → d.births ≤ k → Stays loose c d → Stays loose c e
  stays_born d e k q later is new s = record {
    births = let b = s.births in omega arith;
    was = λ n x lt there. ⊎_elim (λ h. let b = s.births in absurd (omega (arith, h.0, lt, new, b))) (λ h. s.was n x lt (sym h.1 ∙ sym (ap (λ m. at m n) is) ∙ there)) (set_cases d.objects k n q);
  }

  pub stays_without : (k : ℕ) (d : Content) → Stays loose c d → Stays loose c (without k d)
  stays_without k d s = record {
    births = s.births;
    was = λ n x lt there. ⊎_elim (λ h. absurd (none_some (sym h.1 ∙ there))) (λ h. s.was n x lt (sym h.1 ∙ there)) (unset_cases d.objects k n);
  }

  pub stays_renamed_object : (k : ℕ) (o : Object) (d : Content) → Stays loose c d → Stays loose c (with_rename k o d)
  stays_renamed_object k o d s = stays_born (without k d) (with_rename k o d) d.births o (omega arith) refl (omega arith) (stays_without k d s)

  pub stays_birth : (ty : TyId) (w capacity : ℕ) (d : Content) → Stays loose c d → Stays loose c (with_birth ty w capacity d)
  stays_birth ty w capacity d s = stays_born d (with_birth ty w capacity d) d.births (newborn ty w capacity d.clock) (omega arith) refl (omega arith) s

  -- words are written
  pub stays_wrote : (k i w : ℕ) (vs : List ℕ) (d : Content) → Stays loose c d → Stays loose c (wrote k i w vs d)
  stays_wrote k i w vs d s = go (at d.objects k) refl
    where
      go : (x : Option Object) → at d.objects k ≡ x → Stays loose c (wrote_if x k i w vs d)
      go None e = s
      go (Some o) e =
          stays_set d (with_object k (with_words i w vs o) d) k o (with_words i w vs o) (omega arith) refl e (sym (with_words_type i w vs o)) (λ lt fixed. sym (with_words_size i w vs o)) s

  pub stays_filled : (k : ℕ) (values : List (List ℕ)) (d : Content) → Stays loose c d → Stays loose c (filled k values d)
  stays_filled k values d s = go (at d.objects k) refl
    where
      as_many : (ss : List Slot) (vs : List (List ℕ)) → length ss ≡ length (filled_slots ss vs)
      as_many [] vs = refl
      as_many (x ∷ ss) [] = refl
      as_many (x ∷ ss) (v ∷ vs) = ap suc (as_many ss vs)

      go : (x : Option Object) → at d.objects k ≡ x → Stays loose c (filled_if x k values d)
      go None e = s
      go (Some o) e = stays_set d (with_object k (record o { slots = filled_slots o.slots values }) d) k o (record o { slots = filled_slots o.slots values }) (omega arith) refl e refl (λ lt fixed. as_many o.slots values) s

  -- a new object, or one that may, has so many slots
  pub stays_resized : (k size since : ℕ) (d : Content) → loose k ⊎ (c.births ≤ k) → Stays loose c d → Stays loose c (resized_at k size since d)
  stays_resized k size since d may s = go (at d.objects k) refl
    where
      never : loose k ⊎ (c.births ≤ k) → k < c.births → (loose k → ⊥) → ⊥
      never (inl l) lt fixed = fixed l
      never (inr new) lt fixed = omega (arith, new, lt)

      go : (x : Option Object) → at d.objects k ≡ x → Stays loose c (resized_if x k size since d)
      go None e = s
      go (Some o) e =
          stays_set d (with_resize k size since o d) k o (resized (d.clock + 1) size since o) (omega arith) refl e refl (λ lt fixed. absurd (never may lt fixed)) s

  -- ---- what is there of an attempt

  abbrev pub GotStays : Attempt Words → Type 0
  GotStays x = IfGot x (λ v. Stays loose c v.1)

  -- .. with a new object
  abbrev pub BornStays : ℕ × Content → Type 0
  BornStays b = (c.births ≤ b.0) × Stays loose c b.1

  pub birth_stays : (s : Setting) (ty : TyId) (w capacity : ℕ) (d : Content) → Stays loose c d → IfGot (birth s ty w capacity d) BornStays
  birth_stays s ty w capacity d stays = if_room (nat_lt s.given.cells (live_words_of d + (2 + w * capacity))) _ (d.births, with_birth ty w capacity d) BornStays (stays.births, stays_birth ty w capacity d stays)

  pub sized_birth_stays : (s : Setting) (ty : TyId) (w size : ℕ) (d : Content) → Stays loose c d → IfGot (sized_birth s ty w size d) BornStays
  sized_birth_stays s ty w size d stays =
      got_then (birth s ty w size d) (λ b. Got (b.0, resized_at b.0 size 0 b.1)) BornStays BornStays (birth_stays s ty w size d stays) (λ b h. (h.0, stays_resized b.0 size 0 b.1 (inr h.0) h.1))

  joined_stays : (first : Attempt Words) (others : Content → Attempt Words) → GotStays first → ((d : Content) → Stays loose c d → GotStays (others d)) → GotStays (joined first others)
  joined_stays first others one more =
      got_then first (λ a. then_get (others a.1) (λ b. Got (a.0 ++ b.0, b.1))) (λ v. Stays loose c v.1) (λ v. Stays loose c v.1) one
      (λ a h. got_then (others a.1) (λ b. Got (a.0 ++ b.0, b.1)) (λ v. Stays loose c v.1) (λ v. Stays loose c v.1) (more a.1 h) (λ b k. k))

  -- ---- values that come to life

  pub fresh_stays : (s : Setting) (form : Form) (p : Parts) (d : Content) → Stays loose c d → GotStays (fresh s form p d)
  fresh_stays s form Single d stays = stays
  fresh_stays s form Raw d stays = stays
  fresh_stays s form Iterates d stays = stays
  fresh_stays s form Views d stays = stays
  fresh_stays s form (Text ty) d stays = got_then (birth s ty 1 0 d) (λ b. Got (owning b)) BornStays (λ v. Stays loose c v.1) (birth_stays s ty 1 0 d stays) (λ b h. h.1)
  fresh_stays s form (Vector ty element) d stays = got_then (birth s ty (width element) 0 d) (λ b. Got (owning b)) BornStays (λ v. Stays loose c v.1) (birth_stays s ty (width element) 0 d stays) (λ b h. h.1)
  fresh_stays s form (Unique ty target) d stays = stays
  fresh_stays s form (Member first others) d stays = joined_stays (fresh s form first d) (fresh s form others) (fresh_stays s form first d stays) (λ e h. fresh_stays s form others e h)
  fresh_stays s form NoMember d stays = stays

  pub object_stays : (s : Setting) (ty : TyId) (p : Parts) (value : Content → Attempt Words) (d : Content) → Stays loose c d → ((e : Content) → Stays loose c e → GotStays (value e)) → IfGot (object_with s ty p value d) BornStays
  object_stays s ty p value d stays each =
      got_then (sized_birth s ty (width p) 1 d) (λ b. then_get (value b.1) (λ v. Got (b.0, wrote b.0 0 0 v.0 v.1))) BornStays BornStays (sized_birth_stays s ty (width p) 1 d stays)
      (λ b h. got_then (value b.1) (λ v. Got (b.0, wrote b.0 0 0 v.0 v.1)) (λ v. Stays loose c v.1) BornStays (each b.1 h.1) (λ v k. (h.0, stays_wrote b.0 0 0 v.0 v.1 k)))

  -- ---- values that end

  pub ended_slots_stay : (end : List ℕ → Content → Content) → ((ws : List ℕ) (d : Content) → Stays loose c d → Stays loose c (end ws d)) → (ss : List Slot) (d : Content) → Stays loose c d → Stays loose c (ended_slots end ss d)
  ended_slots_stay end each [] d stays = stays
  ended_slots_stay end each (s ∷ ss) d stays = ended_slots_stay end each ss (end s.words d) (each s.words d stays)

  owned_stays : (end : List ℕ → Content → Content) → ((ws : List ℕ) (d : Content) → Stays loose c d → Stays loose c (end ws d)) → (x : Option ℕ) (d : Content) → Stays loose c d → Stays loose c (ended_owned end x d)
  owned_stays end each None d stays = stays
  owned_stays end each (Some n) d stays = stays_without n (ended_slots end (slots_at d n) d) (ended_slots_stay end each (slots_at d n) d stays)

  pub ended_stays : (p : Parts) (ws : List ℕ) (d : Content) → Stays loose c d → Stays loose c (ended p ws d)
  ended_stays Single ws d stays = stays
  ended_stays Raw ws d stays = stays
  ended_stays Iterates ws d stays = stays
  ended_stays Views ws d stays = stays
  ended_stays (Text ty) ws d stays = owned_stays (λ vs e. e) (λ vs e h. h) (owned_in (slice_index ws 0)) d stays
  ended_stays (Vector ty element) ws d stays = owned_stays (ended element) (λ vs e h. ended_stays element vs e h) (owned_in (slice_index ws 0)) d stays
  ended_stays (Unique ty target) ws d stays = owned_stays (ended target) (λ vs e h. ended_stays target vs e h) (owned_in (slice_index ws 0)) d stays
  ended_stays (Member first others) ws d stays = ended_stays others (drop (width first) ws) (ended first (take (width first) ws) d) (ended_stays first (take (width first) ws) d stays)
  ended_stays NoMember ws d stays = stays

  -- ---- values that are copied

  slots_copied : (copy : List ℕ → Content → Attempt Words) → ((ws : List ℕ) (d : Content) → Stays loose c d → GotStays (copy ws d)) → (ss : List Slot) (d : Content) → Stays loose c d → IfGot (copied_slots copy ss d) (λ vs. Stays loose c vs.1)
  slots_copied copy each [] d stays = stays
  slots_copied copy each (s ∷ ss) d stays =
      got_then (copy s.words d) (λ v. then_get (copied_slots copy ss v.1) (λ vs. Got (v.0 ∷ vs.0, vs.1))) (λ v. Stays loose c v.1) (λ vs. Stays loose c vs.1) (each s.words d stays)
      (λ v h. got_then (copied_slots copy ss v.1) (λ vs. Got (v.0 ∷ vs.0, vs.1)) (λ vs. Stays loose c vs.1) (λ vs. Stays loose c vs.1) (slots_copied copy each ss v.1 h) (λ vs k. k))

  buffer_copied : (s : Setting) (ty : TyId) (w : ℕ) (copy : List ℕ → Content → Attempt Words) → ((ws : List ℕ) (d : Content) → Stays loose c d → GotStays (copy ws d)) → (x : Option ℕ) (d : Content) → Stays loose c d → GotStays (copied_buffer s ty w copy x d)
  buffer_copied s ty w copy each None d stays = tt
  buffer_copied s ty w copy each (Some n) d stays =
      got_then (sized_birth s ty w (length (slots_at d n)) d) (λ b. then_get (copied_slots copy (slots_at d n) b.1) (λ vs. Got (owning (b.0, filled b.0 vs.0 vs.1)))) BornStays (λ v. Stays loose c v.1)
      (sized_birth_stays s ty w (length (slots_at d n)) d stays)
      (λ b h. got_then (copied_slots copy (slots_at d n) b.1) (λ vs. Got (owning (b.0, filled b.0 vs.0 vs.1))) (λ vs. Stays loose c vs.1) (λ v. Stays loose c v.1) (slots_copied copy each (slots_at d n) b.1 h.1) (λ vs k. stays_filled b.0 vs.0 vs.1 k))

  pub copied_stays : (s : Setting) (p : Parts) (ws : List ℕ) (d : Content) → Stays loose c d → GotStays (copied s p ws d)
  copied_stays s Single ws d stays = stays
  copied_stays s Raw ws d stays = stays
  copied_stays s Iterates ws d stays = stays
  copied_stays s Views ws d stays = stays
  copied_stays s (Text ty) ws d stays = buffer_copied s ty 1 (λ vs e. Got (vs, e)) (λ vs e h. h) (owned_in (slice_index ws 0)) d stays
  copied_stays s (Vector ty element) ws d stays = buffer_copied s ty (width element) (copied s element) (λ vs e h. copied_stays s element vs e h) (owned_in (slice_index ws 0)) d stays
  copied_stays s (Unique ty target) ws d stays = tt
  copied_stays s (Member first others) ws d stays =
      joined_stays (copied s first (take (width first) ws) d) (copied s others (drop (width first) ws)) (copied_stays s first (take (width first) ws) d stays) (λ e h. copied_stays s others (drop (width first) ws) e h)
  copied_stays s NoMember ws d stays = stays

  -- ---- values that are taken

  pub renamed_stays : (x : Option ℕ) (d : Content) → Stays loose c d → Stays loose c (renamed x d).1
  renamed_stays None d stays = stays
  renamed_stays (Some n) d stays = go (at d.objects n)
    where
      go : (o : Option Object) → Stays loose c (renamed_if o n d).1
      go None = stays
      go (Some o) = stays_renamed_object n o d stays

  pub taken_stays_on : (p : Parts) (ws : List ℕ) (d : Content) → Stays loose c d → Stays loose c (taken p ws d).1
  taken_stays_on Single ws d stays = stays
  taken_stays_on Raw ws d stays = stays
  taken_stays_on Iterates ws d stays = stays
  taken_stays_on Views ws d stays = stays
  taken_stays_on (Text ty) ws d stays = renamed_stays (owned_in (slice_index ws 0)) d stays
  taken_stays_on (Vector ty element) ws d stays = stays
  taken_stays_on (Unique ty target) ws d stays = stays
  taken_stays_on (Member first others) ws d stays = taken_stays_on others (drop (width first) ws) (taken first (take (width first) ws) d).1 (taken_stays_on first (take (width first) ws) d stays)
  taken_stays_on NoMember ws d stays = stays

  pub taken_slots_stay : (p : Parts) (ss : List Slot) (d : Content) → Stays loose c d → Stays loose c (taken_slots p ss d).1
  taken_slots_stay p [] d stays = stays
  taken_slots_stay p (s ∷ ss) d stays = taken_slots_stay p ss (taken p s.words d).1 (taken_stays_on p s.words d stays)

  pub consumed_stays_on : (p : Parts) (n : ℕ) (d : Content) → Stays loose c d → Stays loose c (consumed p n d).1
  consumed_stays_on p n d stays = stays_without n (taken p (slot_words d n 0) d).1 (taken_stays_on p (slot_words d n 0) d stays)
