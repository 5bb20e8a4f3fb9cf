-- What stands in the pointers of an object stays, but for objects that may change whole: no change writes the words of a pointer that isn't one of these.
use Rattle.std.proofs.Common.{◌≡◌, ◌⊎◌, inl, inr, ⊎_elim, ℕ, ◌+◌, ◌*◌, ◌≤◌, ◌<◌, List, [], ◌∷◌, ◌++◌, length, Option, Some, None, refl, sym, ap, subst, ◌∙◌, arith}
use Rattle.std.specs.Prelude.{drop, nat_lt, slice_index, take}
use Rattle.life_types.specs.Trees.{IsOrdered}
use Rattle.life_types.specs.Types.{Types}
use Rattle.life_types.specs.declared.ty.TyId.{TyId}
use Rattle.life_core.specs.declared.instr.Form.{Form}
use Rattle.life_store.specs.Cells.{at, set, unset}
use Rattle.life_store.specs.Content.{Slot, Object, Content, live_words_of, newborn, resized, with_birth, with_object, with_rename, without}
use Rattle.life_store.specs.Effects.{Setting, Attempt, Got, then_get}
use Rattle.life_store.specs.Held.{filled, filled_if, filled_slots, owned_in, resized_at, resized_if, slot_words, slots_at, wrote, wrote_if}
use Rattle.life_store.specs.Kinds.{kind_in}
use Rattle.life_store.specs.Owners.{Words, birth, consumed, copied, copied_buffer, copied_slots, ended, ended_owned, ended_slots, fresh, joined, object_with, owning, renamed, renamed_if, sized_birth, taken, taken_slots}
use Rattle.life_store.specs.Parts.{Parts, Single, Raw, Iterates, Views, Text, Vector, Unique, Member, NoMember, parts_at, width}
use Rattle.life_store.proofs.CellLemmas.{none_some, some_same, set_cases, unset_cases}
use Rattle.life_forest.proofs.Coming.{IfGot, got_then, if_room}
use Rattle.life_forest.proofs.Puts.{puts_in, wrote_is}
use Rattle.life_forest.proofs.Staying.{Stays, stays_birth, stays_filled, stays_more, stays_renamed_object, stays_resized, stays_self, stays_then, stays_without, stays_wrote}
use Rattle.life_forest.proofs.WrittenPointers.{IsNoPointer, SamePointers, apart_pointers, same_if, same_then}

-- what was there is there still with the same pointers, unless it may change
pub record Keeps (types : Types) (loose : ℕ → Type 0) (c d : Content) : Type 0 where
  pub stays : Stays loose c d
  pub kept : (n : ℕ) (o x : Object) → n < c.births → (loose n → ⊥) → at c.objects n ≡ Some o → at d.objects n ≡ Some x → SamePointers types o x

pub keeps_self : (types : Types) (loose : ℕ → Type 0) (c : Content) → Keeps types loose c c
keeps_self types loose c = record { stays = stays_self loose c; kept = λ n o x lt fixed was there. same_if types o x (some_same (sym was ∙ there)) }

-- what may change for some may for more
pub keeps_more : (types : Types) (loose more : ℕ → Type 0) (c d : Content) → ((n : ℕ) → loose n → more n) → Keeps types loose c d → Keeps types more c d
keeps_more types loose more c d le keeps = record { stays = stays_more loose more c d le keeps.stays; kept = λ n o x lt fixed was there. keeps.kept n o x lt (λ h. fixed (le n h)) was there }

-- one after the other
pub keeps_then : (types : Types) (loose : ℕ → Type 0) (c d e : Content) → Keeps types loose c d → Keeps types loose d e → Keeps types loose c e
keeps_then types loose c d e first second = record {
  stays = stays_then loose c d e first.stays second.stays;
  kept = λ n o x lt fixed was there.
      let b = second.stays.was n x (let l = first.stays.births in omega (arith, l, lt)) there in
      same_then types o b.object x b.type (first.kept n o b.object lt fixed was b.there) (second.kept n b.object x (let l = first.stays.births in omega (arith, l, lt)) fixed b.there there);
}

module _ (types : Types) (ordered : IsOrdered types) (loose : ℕ → Type 0) (c : Content) where
  -- an object that may change, or is new
  abbrev pub MayChange : ℕ → Type 0
  MayChange k = loose k ⊎ (c.births ≤ k)

  never : (k : ℕ) → MayChange k → k < c.births → (loose k → ⊥) → ⊥
  never k (inl l) lt fixed = fixed l
  never k (inr new) lt fixed = omega (arith, lt, new)

  -- .. or words that aren't those of a pointer
  abbrev pub MayWrite : (object word count : ℕ) → Type 0
  MayWrite k w len = MayChange k ⊎ ((o : Object) → at c.objects k ≡ Some o → (j : ℕ) → j < len → IsNoPointer (kind_in (parts_at types o.ty) (w + j)))

  -- ---- the changes of which all others are made

  keeps_less : (d e : Content) → ((n : ℕ) (x : Object) → at e.objects n ≡ Some x → at d.objects n ≡ Some x) → Stays loose c e → Keeps types loose c d → Keeps types loose c e
  keeps_less d e less stays keeps = record { stays = stays; kept = λ n o x lt fixed was there. keeps.kept n o x lt fixed was (less n x there) }

  -- all but one is as it was
  keeps_but : (d e : Content) (k : ℕ) → MayChange k → ((n : ℕ) (x : Object) → at e.objects n ≡ Some x → (k ≡ n) ⊎ (at d.objects n ≡ Some x)) → Stays loose c e → Keeps types loose c d → Keeps types loose c e
  keeps_but d e k may but stays keeps = record {
    stays = stays;
    kept = λ n o x lt fixed was there. ⊎_elim
        (λ same. absurd (never n (subst MayChange same may) lt fixed))
        (λ old. keeps.kept n o x lt fixed was old)
        (but n x there);
  }

  set_but : (d : Content) (k : ℕ) (q : Object) (n : ℕ) (x : Object) → at (set d.objects k q) n ≡ Some x → (k ≡ n) ⊎ (at d.objects n ≡ Some x)
  set_but d k q n x there = ⊎_elim (λ h. inl h.0) (λ h. inr (sym h.1 ∙ there)) (set_cases d.objects k n q)

  unset_less : (d : Content) (k : ℕ) (n : ℕ) (x : Object) → at (unset d.objects k) n ≡ Some x → at d.objects n ≡ Some x
  unset_less d k n x there = ⊎_elim (λ h. absurd (none_some (sym h.1 ∙ there))) (λ h. sym h.1 ∙ there) (unset_cases d.objects k n)

  pub keeps_without : (k : ℕ) (d : Content) → Keeps types loose c d → Keeps types loose c (without k d)
  keeps_without k d keeps = keeps_less d (without k d) (unset_less d k) (stays_without loose c k d keeps.stays) keeps

  pub keeps_renamed_object : (k : ℕ) (o : Object) (d : Content) → Keeps types loose c d → Keeps types loose c (with_rename k o d)
  keeps_renamed_object k o d keeps =
      keeps_but (without k d) (with_rename k o d) d.births (inr keeps.stays.births) (set_but (without k d) d.births o) (stays_renamed_object loose c k o d keeps.stays) (keeps_without k d keeps)

  pub keeps_birth : (ty : TyId) (w capacity : ℕ) (d : Content) → Keeps types loose c d → Keeps types loose c (with_birth ty w capacity d)
  keeps_birth ty w capacity d keeps =
      keeps_but d (with_birth ty w capacity d) d.births (inr keeps.stays.births) (set_but d d.births (newborn ty w capacity d.clock)) (stays_birth loose c ty w capacity d keeps.stays) keeps

  pub keeps_filled : (k : ℕ) (values : List (List ℕ)) (d : Content) → MayChange k → Keeps types loose c d → Keeps types loose c (filled k values d)
  keeps_filled k values d may keeps = keeps_but d (filled k values d) k may (λ n x there. go (at d.objects k) n x there) (stays_filled loose c k values d keeps.stays) keeps
    where
      go : (o : Option Object) (n : ℕ) (x : Object) → at (filled_if o k values d).objects n ≡ Some x → (k ≡ n) ⊎ (at d.objects n ≡ Some x)
      go None n x there = inr there
      go (Some o) n x there = set_but d k (record o { slots = filled_slots o.slots values }) n x there

  pub keeps_resized : (k size since : ℕ) (d : Content) → MayChange k → Keeps types loose c d → Keeps types loose c (resized_at k size since d)
  keeps_resized k size since d may keeps = keeps_but d (resized_at k size since d) k may (λ n x there. go (at d.objects k) n x there) (stays_resized loose c k size since d may keeps.stays) keeps
    where
      go : (o : Option Object) (n : ℕ) (x : Object) → at (resized_if o k size since d).objects n ≡ Some x → (k ≡ n) ⊎ (at d.objects n ≡ Some x)
      go None n x there = inr there
      go (Some o) n x there = set_but d k (resized (d.clock + 1) size since o) n x there

  -- words are written
  pub keeps_wrote : (k i w : ℕ) (vs : List ℕ) (d : Content) → MayWrite k w (length vs) → Keeps types loose c d → Keeps types loose c (wrote k i w vs d)
  keeps_wrote k i w vs d may keeps = go (at d.objects k) refl
    where
      stays : Stays loose c (wrote k i w vs d)
      stays = stays_wrote loose c k i w vs d keeps.stays

      on_object : (o : Object) → at d.objects k ≡ Some o → MayWrite k w (length vs) → Keeps types loose c (with_object k (record o { slots = puts_in i w vs o.slots }) d)
      on_object o e (inl change) = keeps_but d (with_object k (record o { slots = puts_in i w vs o.slots }) d) k change (set_but d k (record o { slots = puts_in i w vs o.slots })) (subst (Stays loose c) (wrote_is d k i w vs o e) stays) keeps
      on_object o e (inr apart) = record {
        stays = subst (Stays loose c) (wrote_is d k i w vs o e) stays;
        kept = λ n p x lt fixed was there. ⊎_elim
            (λ h. here n p x lt fixed was h.0 (some_same (sym h.1 ∙ there)))
            (λ h. keeps.kept n p x lt fixed was (sym h.1 ∙ there))
            (set_cases d.objects k n (record o { slots = puts_in i w vs o.slots }));
      }
        where
          here : (n : ℕ) (p x : Object) → n < c.births → (loose n → ⊥) → at c.objects n ≡ Some p → k ≡ n → record o { slots = puts_in i w vs o.slots } ≡ x → SamePointers types p x
          here n p x lt fixed was at_k is =
              let old : at d.objects n ≡ Some o = subst (λ m. at d.objects m ≡ Some o) at_k e in
              let before = keeps.stays.was n o lt old in
              let type : p.ty ≡ o.ty = ap (λ (y : Object). y.ty) (some_same (sym was ∙ before.there)) ∙ before.type in
              subst (SamePointers types p) is
              (same_then types p o (record o { slots = puts_in i w vs o.slots }) refl (keeps.kept n p o lt fixed was old)
              (apart_pointers types ordered o i w vs (λ j less. subst (λ ty. IsNoPointer (kind_in (parts_at types ty) (w + j))) type (apart p (subst (λ m. at c.objects m ≡ Some p) (sym at_k) was) j less))))

      go : (x : Option Object) → at d.objects k ≡ x → Keeps types loose c (wrote k i w vs d)
      go None e = subst (Keeps types loose c) (sym (ap (λ (x : Option Object). wrote_if x k i w vs d) e)) keeps
      go (Some o) e = subst (Keeps types loose c) (sym (wrote_is d k i w vs o e)) (on_object o e may)

  -- ---- what is there of an attempt

  abbrev pub GotKeeps : Attempt Words → Type 0
  GotKeeps x = IfGot x (λ v. Keeps types loose c v.1)

  -- .. with a new object
  abbrev pub BornKeeps : ℕ × Content → Type 0
  BornKeeps b = (c.births ≤ b.0) × Keeps types loose c b.1

  pub birth_keeps : (s : Setting) (ty : TyId) (w capacity : ℕ) (d : Content) → Keeps types loose c d → IfGot (birth s ty w capacity d) BornKeeps
  birth_keeps s ty w capacity d keeps = if_room (nat_lt s.given.cells (live_words_of d + (2 + w * capacity))) _ (d.births, with_birth ty w capacity d) BornKeeps (keeps.stays.births, keeps_birth ty w capacity d keeps)

  pub sized_birth_keeps : (s : Setting) (ty : TyId) (w size : ℕ) (d : Content) → Keeps types loose c d → IfGot (sized_birth s ty w size d) BornKeeps
  sized_birth_keeps s ty w size d keeps =
      got_then (birth s ty w size d) (λ b. Got (b.0, resized_at b.0 size 0 b.1)) BornKeeps BornKeeps (birth_keeps s ty w size d keeps) (λ b h. (h.0, keeps_resized b.0 size 0 b.1 (inr h.0) h.1))

  joined_keeps : (first : Attempt Words) (others : Content → Attempt Words) → GotKeeps first → ((d : Content) → Keeps types loose c d → GotKeeps (others d)) → GotKeeps (joined first others)
  joined_keeps first others one more =
      got_then first (λ a. then_get (others a.1) (λ b. Got (a.0 ++ b.0, b.1))) (λ v. Keeps types loose c v.1) (λ v. Keeps types loose c v.1) one
      (λ a h. got_then (others a.1) (λ b. Got (a.0 ++ b.0, b.1)) (λ v. Keeps types loose c v.1) (λ v. Keeps types loose c v.1) (more a.1 h) (λ b k. k))

  -- ---- values that come to life

  pub fresh_keeps : (s : Setting) (form : Form) (p : Parts) (d : Content) → Keeps types loose c d → GotKeeps (fresh s form p d)
  fresh_keeps s form Single d keeps = keeps
  fresh_keeps s form Raw d keeps = keeps
  fresh_keeps s form Iterates d keeps = keeps
  fresh_keeps s form Views d keeps = keeps
  fresh_keeps s form (Text ty) d keeps = got_then (birth s ty 1 0 d) (λ b. Got (owning b)) BornKeeps (λ v. Keeps types loose c v.1) (birth_keeps s ty 1 0 d keeps) (λ b h. h.1)
  fresh_keeps s form (Vector ty element) d keeps = got_then (birth s ty (width element) 0 d) (λ b. Got (owning b)) BornKeeps (λ v. Keeps types loose c v.1) (birth_keeps s ty (width element) 0 d keeps) (λ b h. h.1)
  fresh_keeps s form (Unique ty target) d keeps = keeps
  fresh_keeps s form (Member first others) d keeps = joined_keeps (fresh s form first d) (fresh s form others) (fresh_keeps s form first d keeps) (λ e h. fresh_keeps s form others e h)
  fresh_keeps s form NoMember d keeps = keeps

  pub object_keeps : (s : Setting) (ty : TyId) (p : Parts) (value : Content → Attempt Words) (d : Content) → Keeps types loose c d → ((e : Content) → Keeps types loose c e → GotKeeps (value e)) → IfGot (object_with s ty p value d) BornKeeps
  object_keeps s ty p value d keeps each =
      got_then (sized_birth s ty (width p) 1 d) (λ b. then_get (value b.1) (λ v. Got (b.0, wrote b.0 0 0 v.0 v.1))) BornKeeps BornKeeps (sized_birth_keeps s ty (width p) 1 d keeps)
      (λ b h. got_then (value b.1) (λ v. Got (b.0, wrote b.0 0 0 v.0 v.1)) (λ v. Keeps types loose c v.1) BornKeeps (each b.1 h.1) (λ v k. (h.0, keeps_wrote b.0 0 0 v.0 v.1 (inl (inr h.0)) k)))

  -- ---- values that end

  pub ended_slots_keep : (end : List ℕ → Content → Content) → ((ws : List ℕ) (d : Content) → Keeps types loose c d → Keeps types loose c (end ws d)) → (ss : List Slot) (d : Content) → Keeps types loose c d → Keeps types loose c (ended_slots end ss d)
  ended_slots_keep end each [] d keeps = keeps
  ended_slots_keep end each (s ∷ ss) d keeps = ended_slots_keep end each ss (end s.words d) (each s.words d keeps)

  owned_keeps : (end : List ℕ → Content → Content) → ((ws : List ℕ) (d : Content) → Keeps types loose c d → Keeps types loose c (end ws d)) → (x : Option ℕ) (d : Content) → Keeps types loose c d → Keeps types loose c (ended_owned end x d)
  owned_keeps end each None d keeps = keeps
  owned_keeps end each (Some n) d keeps = keeps_without n (ended_slots end (slots_at d n) d) (ended_slots_keep end each (slots_at d n) d keeps)

  pub ended_keeps : (p : Parts) (ws : List ℕ) (d : Content) → Keeps types loose c d → Keeps types loose c (ended p ws d)
  ended_keeps Single ws d keeps = keeps
  ended_keeps Raw ws d keeps = keeps
  ended_keeps Iterates ws d keeps = keeps
  ended_keeps Views ws d keeps = keeps
  ended_keeps (Text ty) ws d keeps = owned_keeps (λ vs e. e) (λ vs e h. h) (owned_in (slice_index ws 0)) d keeps
  ended_keeps (Vector ty element) ws d keeps = owned_keeps (ended element) (λ vs e h. ended_keeps element vs e h) (owned_in (slice_index ws 0)) d keeps
  ended_keeps (Unique ty target) ws d keeps = owned_keeps (ended target) (λ vs e h. ended_keeps target vs e h) (owned_in (slice_index ws 0)) d keeps
  ended_keeps (Member first others) ws d keeps = ended_keeps others (drop (width first) ws) (ended first (take (width first) ws) d) (ended_keeps first (take (width first) ws) d keeps)
  ended_keeps NoMember ws d keeps = keeps

  -- ---- values that are copied

  slots_copied : (copy : List ℕ → Content → Attempt Words) → ((ws : List ℕ) (d : Content) → Keeps types loose c d → GotKeeps (copy ws d)) → (ss : List Slot) (d : Content) → Keeps types loose c d → IfGot (copied_slots copy ss d) (λ vs. Keeps types loose c vs.1)
  slots_copied copy each [] d keeps = keeps
  slots_copied copy each (s ∷ ss) d keeps =
      got_then (copy s.words d) (λ v. then_get (copied_slots copy ss v.1) (λ vs. Got (v.0 ∷ vs.0, vs.1))) (λ v. Keeps types loose c v.1) (λ vs. Keeps types loose c vs.1) (each s.words d keeps)
      (λ v h. got_then (copied_slots copy ss v.1) (λ vs. Got (v.0 ∷ vs.0, vs.1)) (λ vs. Keeps types loose c vs.1) (λ vs. Keeps types loose c vs.1) (slots_copied copy each ss v.1 h) (λ vs k. k))

  buffer_copied : (s : Setting) (ty : TyId) (w : ℕ) (copy : List ℕ → Content → Attempt Words) → ((ws : List ℕ) (d : Content) → Keeps types loose c d → GotKeeps (copy ws d)) → (x : Option ℕ) (d : Content) → Keeps types loose c d → GotKeeps (copied_buffer s ty w copy x d)
  buffer_copied s ty w copy each None d keeps = tt
  buffer_copied s ty w copy each (Some n) d keeps =
      got_then (sized_birth s ty w (length (slots_at d n)) d) (λ b. then_get (copied_slots copy (slots_at d n) b.1) (λ vs. Got (owning (b.0, filled b.0 vs.0 vs.1)))) BornKeeps (λ v. Keeps types loose c v.1)
      (sized_birth_keeps s ty w (length (slots_at d n)) d keeps)
      (λ b h. got_then (copied_slots copy (slots_at d n) b.1) (λ vs. Got (owning (b.0, filled b.0 vs.0 vs.1))) (λ vs. Keeps types loose c vs.1) (λ v. Keeps types loose c v.1) (slots_copied copy each (slots_at d n) b.1 h.1) (λ vs k. keeps_filled b.0 vs.0 vs.1 (inr h.0) k))

  pub copied_keeps : (s : Setting) (p : Parts) (ws : List ℕ) (d : Content) → Keeps types loose c d → GotKeeps (copied s p ws d)
  copied_keeps s Single ws d keeps = keeps
  copied_keeps s Raw ws d keeps = keeps
  copied_keeps s Iterates ws d keeps = keeps
  copied_keeps s Views ws d keeps = keeps
  copied_keeps s (Text ty) ws d keeps = buffer_copied s ty 1 (λ vs e. Got (vs, e)) (λ vs e h. h) (owned_in (slice_index ws 0)) d keeps
  copied_keeps s (Vector ty element) ws d keeps = buffer_copied s ty (width element) (copied s element) (λ vs e h. copied_keeps s element vs e h) (owned_in (slice_index ws 0)) d keeps
  copied_keeps s (Unique ty target) ws d keeps = tt
  copied_keeps s (Member first others) ws d keeps =
      joined_keeps (copied s first (take (width first) ws) d) (copied s others (drop (width first) ws)) (copied_keeps s first (take (width first) ws) d keeps) (λ e h. copied_keeps s others (drop (width first) ws) e h)
  copied_keeps s NoMember ws d keeps = keeps

  -- ---- values that are taken

  pub renamed_keeps : (x : Option ℕ) (d : Content) → Keeps types loose c d → Keeps types loose c (renamed x d).1
  renamed_keeps None d keeps = keeps
  renamed_keeps (Some n) d keeps = go (at d.objects n)
    where
      go : (o : Option Object) → Keeps types loose c (renamed_if o n d).1
      go None = keeps
      go (Some o) = keeps_renamed_object n o d keeps

  pub taken_keeps : (p : Parts) (ws : List ℕ) (d : Content) → Keeps types loose c d → Keeps types loose c (taken p ws d).1
  taken_keeps Single ws d keeps = keeps
  taken_keeps Raw ws d keeps = keeps
  taken_keeps Iterates ws d keeps = keeps
  taken_keeps Views ws d keeps = keeps
  taken_keeps (Text ty) ws d keeps = renamed_keeps (owned_in (slice_index ws 0)) d keeps
  taken_keeps (Vector ty element) ws d keeps = keeps
  taken_keeps (Unique ty target) ws d keeps = keeps
  taken_keeps (Member first others) ws d keeps = taken_keeps others (drop (width first) ws) (taken first (take (width first) ws) d).1 (taken_keeps first (take (width first) ws) d keeps)
  taken_keeps NoMember ws d keeps = keeps

  pub taken_slots_keep : (p : Parts) (ss : List Slot) (d : Content) → Keeps types loose c d → Keeps types loose c (taken_slots p ss d).1
  taken_slots_keep p [] d keeps = keeps
  taken_slots_keep p (s ∷ ss) d keeps = taken_slots_keep p ss (taken p s.words d).1 (taken_keeps p s.words d keeps)

  pub consumed_keeps : (p : Parts) (n : ℕ) (d : Content) → Keeps types loose c d → Keeps types loose c (consumed p n d).1
  consumed_keeps p n d keeps = keeps_without n (taken p (slot_words d n 0) d).1 (taken_keeps p (slot_words d n 0) d keeps)
