-- Each vector and each string has its buffer behind a copy, and behind the birth of a local.
use Rattle.std.proofs.Common.{◌≡◌, ⊎_elim, ℕ, zero, suc, ◌+◌, ◌*◌, ◌≤◌, ◌<◌, List, [], ◌∷◌, length, Option, Some, None, refl, sym, ap, subst, ◌∙◌, arith, ◌⊎◌, length-append, ◌≢◌, ◌++◌}
use Rattle.std.proofs.lemmas.List.{length-drop, length-take}
use Rattle.std.specs.Prelude.{nat_lt, option_map, slice_get, slice_index, slice_set, drop, take}
use Rattle.life_types.specs.Trees.{IsOrdered}
use Rattle.life_types.specs.Types.{Types}
use Rattle.life_types.specs.declared.ty.TyId.{TyId}
use Rattle.life_core.specs.declared.instr.Form.{Form}
use Rattle.life_store.specs.Cells.{at, at-set_other, set, at-set_same}
use Rattle.life_store.specs.Content.{Slot, Object, Content, live_words_of, newborn, set_slot, with_birth, with_object, written}
use Rattle.life_store.specs.Doing.{replaced}
use Rattle.life_store.specs.Effects.{Attempt, Got, Setting, then_get}
use Rattle.life_store.specs.Held.{filled, filled_if, filled_slots, owned_in, owner_word, pointer_words, slots_at, slots_if, with_words, wrote, wrote_if}
use Rattle.life_store.specs.Owners.{Words, birth, copied, copied_buffer, copied_slots, ended, fresh, object_with, owning, sized_birth, born_pointer, empty_view}
use Rattle.life_store.specs.Parts.{Parts, Single, Raw, Iterates, Views, Text, Vector, Unique, Member, NoMember, parts_at, width}
use Rattle.life_store.specs.Places.{spot_words}
use Rattle.life_store.specs.State.{Null, Pointer, Static, To, Wild}
use Rattle.life_store.specs.declared.run.TrapKind.TheVariants as trap
use Rattle.life_store.proofs.CellLemmas.{none_some, set_cases, some_same}
use Rattle.life_forest.specs.Kinds.{rank_of}
use Rattle.life_forest.specs.Values.{AllWide}
use Rattle.life_forest.proofs.Coming.{IfGot, got_then, if_room}
use Rattle.life_forest.proofs.Laying.{IsMade}
use Rattle.life_forest.proofs.Stores.{if_such}
use Rattle.life_cover.specs.Buffered.{AreBut, HasBuffers, is_buffer_at}
use Rattle.life_cover.proofs.Buffering.{Each, Have, birth_but, ended_but, ended_leaves, filled_but}
use Rattle.life_cover.proofs.Copies.{IsFull, slot_within}
use Rattle.life_cover.proofs.BufferWords.{bufferless, joined_has, text_has, vector_has}
use Rattle.life_cover.proofs.PutWords.{value_have, wrote_but}
use Rattle.life_cover.proofs.Rebuffering.{IsSized, sized_but}

-- what was there is as it was
pub record IsMore (c d : Content) : Type 0 where
  pub births : c.births ≤ d.births
  pub same : (k : ℕ) → k < c.births → at d.objects k ≡ at c.objects k

pub more_self : (c : Content) → IsMore c c
more_self c = record { births = omega arith; same = λ k lt. refl }

more_then : (c d e : Content) → IsMore c d → IsMore d e → IsMore c e
more_then c d e one two = record {
  births = let a = one.births in let b = two.births in omega (arith, a, b);
  same = λ k lt. two.same k (let a = one.births in omega (arith, a, lt)) ∙ one.same k lt;
}

more_set : (c d e : Content) (n : ℕ) (o : Object) → c.births ≤ n → d.births ≤ e.births → e.objects ≡ set d.objects n o → IsMore c d → IsMore c e
more_set c d e n o new births is more = record {
  births = let a = more.births in omega (arith, a, births);
  same = λ k lt. ap (λ objects. at objects k) is ∙ at-set_other d.objects n k o (λ same. absurd (omega (arith, same, lt, new))) ∙ more.same k lt;
}

more_filled : (c d : Content) (n : ℕ) (rows : List (List ℕ)) → c.births ≤ n → IsMore c d → IsMore c (filled n rows d)
more_filled c d n rows new more = go (at d.objects n)
  where
    go : (o : Option Object) → IsMore c (filled_if o n rows d)
    go None = more
    go (Some o) = more_set c d (with_object n (record o { slots = filled_slots o.slots rows }) d) n (record o { slots = filled_slots o.slots rows }) new (omega arith) refl more

-- its one slot gets the words
pub one_written : (P : List ℕ → Type 0) (ss : List Slot) (v : ℕ) → length ss ≡ 1 → ((t : Slot) → slice_get ss 0 ≡ Some t → P (slice_set t.words 0 v)) → Each P (set_slot ss 0 (option_map (written 0 v) (slice_get ss 0)))
one_written P [] v one new i u e = absurd (omega (arith, one))
one_written P (t ∷ []) v one new zero u e = subst (λ (x : Slot). P x.words) (some_same e) (new t refl)
one_written P (t ∷ []) v one new (suc i) u e = absurd (none_some e)
one_written P (t ∷ r ∷ ss) v one new i u e = absurd (omega (arith, one))

-- one slot alone
lone : (ss : List Slot) (j : ℕ) (t : Slot) → length ss ≡ 1 → slice_get ss j ≡ Some t → 0 ≢ j → ⊥
lone ss j t one e ne = let lt = slot_within ss j t e in ne (omega (arith, lt, one))

-- a pointer has five words
five : (p : Pointer) → length (pointer_words p) ≡ 5
five Null = refl
five Wild = refl
five (To t) = refl
five (Static c) = refl

module _ (types : Types) (ordered : IsOrdered types) (s : Setting) where
  pub record IsCopied (p : Parts) (out : ℕ → Type 0) (d : Content) (v : Words) : Type 0 where
    pub has : HasBuffers p v.0
    pub wide : length v.0 ≡ width p
    pub buffers : AreBut types out v.1
    pub more : IsMore d v.1

  record AreCopies (p : Parts) (out : ℕ → Type 0) (count : ℕ) (d : Content) (vs : List (List ℕ) × Content) : Type 0 where
    pub rows : (i : ℕ) (ws : List ℕ) → slice_get vs.0 i ≡ Some ws → HasBuffers p ws
    pub count_is : length vs.0 ≡ count
    pub buffers : AreBut types out vs.1
    pub more : IsMore d vs.1

  slots_copied : (p : Parts) (copy : List ℕ → Content → Attempt Words) (out : ℕ → Type 0) (ss : List Slot) (c : Content) → ((i : ℕ) (t : Slot) → slice_get ss i ≡ Some t → (d : Content) → IsMore c d → AreBut types out d → IfGot (copy t.words d) (λ v. HasBuffers p v.0 × AreBut types out v.1 × IsMore d v.1))
      → (d : Content) → IsMore c d → AreBut types out d → IfGot (copied_slots copy ss d) (AreCopies p out (length ss) d)
  slots_copied p copy out [] c each d since h = record { rows = λ i ws e. absurd (none_some e); count_is = refl; buffers = h; more = more_self d }
  slots_copied p copy out (t ∷ ss) c each d since h =
      got_then (copy t.words d) (λ v. then_get (copied_slots copy ss v.1) (λ vs. Got (v.0 ∷ vs.0, vs.1))) (λ v. HasBuffers p v.0 × AreBut types out v.1 × IsMore d v.1) (AreCopies p out (length (t ∷ ss)) d) (each 0 t refl d since h)
      (λ v one. got_then (copied_slots copy ss v.1) (λ vs. Got (v.0 ∷ vs.0, vs.1)) (AreCopies p out (length ss) v.1) (AreCopies p out (length (t ∷ ss)) d) (slots_copied p copy out ss c (λ i u e. each (suc i) u e) v.1 (more_then c d v.1 since one.2) one.1)
      (λ vs all. record { rows = λ i ws e. first v.0 vs.0 i ws e one.0 all.rows; count_is = ap suc all.count_is; buffers = all.buffers; more = more_then d v.1 vs.1 one.2 all.more }))
    where
      first : (v : List ℕ) (vs : List (List ℕ)) (i : ℕ) (ws : List ℕ) → slice_get (v ∷ vs) i ≡ Some ws → HasBuffers p v → ((j : ℕ) (us : List ℕ) → slice_get vs j ≡ Some us → HasBuffers p us) → HasBuffers p ws
      first v vs zero ws e has more = subst (HasBuffers p) (some_same e) has
      first v vs (suc i) ws e has more = more i ws e

  -- a buffer of copies
  buffer_copied : (q p : Parts) (ty : TyId) (w : ℕ) → parts_at types ty ≡ p → width q ≡ 1 → ((ws : List ℕ) (m : ℕ) → owned_in (slice_index ws 0) ≡ Some m → HasBuffers q ws) → (copy : List ℕ → Content → Attempt Words) (n : ℕ) (d : Content)
      → ((out : ℕ → Type 0) (i : ℕ) (t : Slot) → slice_get (slots_at d n) i ≡ Some t → (e : Content) → IsMore d e → AreBut types out e → IfGot (copy t.words e) (λ v. HasBuffers p v.0 × AreBut types out v.1 × IsMore e v.1)) → (out : ℕ → Type 0) → AreBut types out d
      → IfGot (copied_buffer s ty w copy (Some n) d) (IsCopied q out d)
  buffer_copied q p ty w typed one owner copy n d each out h =
      got_then (sized_birth s ty w (length (slots_at d n)) d) (λ b. then_get (copied_slots copy (slots_at d n) b.1) (λ vs. Got (owning (b.0, filled b.0 vs.0 vs.1)))) (λ f. IsSized d ty w (length (slots_at d n)) f × AreBut types (λ k. out k ⊎ (k ≡ f.0)) f.1) (IsCopied q out d)
      (sized_but types s ty w (length (slots_at d n)) d out h)
      (λ f k. got_then (copied_slots copy (slots_at d n) f.1) (λ vs. Got (owning (f.0, filled f.0 vs.0 vs.1))) (AreCopies p (λ j. out j ⊎ (j ≡ f.0)) (length (slots_at d n)) f.1) (IsCopied q out d)
      (slots_copied p copy (λ j. out j ⊎ (j ≡ f.0)) (slots_at d n) d (each (λ j. out j ⊎ (j ≡ f.0))) f.1 (sized_more f k.0) k.1)
      (λ vs all.
      let number = k.0.number in
      let births = k.0.births in
      let there : at vs.1.objects f.0 ≡ Some k.0.object = all.more.same f.0 (omega (arith, number, births)) ∙ k.0.there in record {
        has = owner (suc f.0 ∷ []) f.0 refl;
        wide = sym one;
        buffers =
            filled_but types out f.0 vs.0 vs.1 (λ o e. let size = ap (λ (x : Object). length x.slots) (some_same (sym there ∙ e)) in let count = k.0.count in let rows = all.count_is in omega (arith, size, count, rows))
            (λ o e i ws slot. subst (λ (r : Parts). HasBuffers r ws) (sym (ap (λ (x : Object). parts_at types x.ty) (sym (some_same (sym there ∙ e))) ∙ ap (parts_at types) k.0.type ∙ typed)) (all.rows i ws slot)) all.buffers;
        more = more_filled d vs.1 f.0 vs.0 (omega (arith, number)) (more_then d f.1 vs.1 (sized_more f k.0) all.more);
      }))
    where
      sized_more : (f : ℕ × Content) → IsSized d ty w (length (slots_at d n)) f → IsMore d f.1
      sized_more f sized = record { births = let b = sized.births in omega (arith, b); same = sized.others }

  -- one value behind another
  joined_copied : (first others : Parts) (out : ℕ → Type 0) (d : Content) (a : Words) → IsCopied first out d a → (b : Words) → IsCopied others out a.1 b → IsCopied (Member first others) out d (a.0 ++ b.0, b.1)
  joined_copied first others out d a one b two = record {
    has = joined_has first others a.0 b.0 one.wide one.has two.has;
    wide = (let all = length-append a.0 b.0 in let x = one.wide in let y = two.wide in omega (arith, all, x, y));
    buffers = two.buffers;
    more = more_then d a.1 b.1 one.more two.more;
  }

  -- of what was there in a content before
  module _ (c : Content) where
    pub copied_but : (p : Parts) (bound : ℕ) → IsMade types ordered bound p → (ws : List ℕ) → length ws ≡ width p → IsFull c p ws → (out : ℕ → Type 0) (d : Content) → IsMore c d → AreBut types out d → IfGot (copied s p ws d) (IsCopied p out d)
    copied_but Single bound made ws wide has out d since h = record { has = bufferless Single (λ u. refl) ws; wide = wide; buffers = h; more = more_self d }
    copied_but Raw bound made ws wide has out d since h = record { has = bufferless Raw (λ u. refl) ws; wide = wide; buffers = h; more = more_self d }
    copied_but Iterates bound made ws wide has out d since h = record { has = bufferless Iterates (λ u. refl) ws; wide = wide; buffers = h; more = more_self d }
    copied_but Views bound made ws wide has out d since h = record { has = bufferless Views (λ u. refl) ws; wide = wide; buffers = h; more = more_self d }
    copied_but (Unique ty target) bound made ws wide has out d since h = tt
    copied_but NoMember bound made ws wide has out d since h = record { has = bufferless NoMember (λ u. refl) []; wide = refl; buffers = h; more = more_self d }
    copied_but (Member first others) bound made ws wide has out d since h =
        got_then (copied s first (take (width first) ws) d) (λ a. then_get (copied s others (drop (width first) ws) a.1) (λ b. Got (a.0 ++ b.0, b.1))) (IsCopied first out d) (IsCopied (Member first others) out d)
        (copied_but first bound made.0 (take (width first) ws) (let t = length-take (width first) ws in omega (arith, t, wide)) has.0 out d since h)
        (λ a one. got_then (copied s others (drop (width first) ws) a.1) (λ b. Got (a.0 ++ b.0, b.1)) (IsCopied others out a.1) (IsCopied (Member first others) out d)
        (copied_but others bound made.1 (drop (width first) ws) (let t = length-drop (width first) ws in omega (arith, t, wide)) has.1 out a.1 (more_then c d a.1 since one.more) one.buffers)
        (λ b two. joined_copied first others out d a one b two))
    copied_but (Text ty) bound made ws wide has out d since h =
        subst (λ (x : Option ℕ). IfGot (copied_buffer s ty 1 (λ vs e. Got (vs, e)) x d) (IsCopied (Text ty) out d)) (sym has.1)
        (buffer_copied (Text ty) Single ty 1 made.1 refl (λ us m e. text_has ty us m e) (λ vs e. Got (vs, e)) has.0 d (λ o i t at_i e more k. (bufferless Single (λ u. refl) t.words, k, more_self e)) out h)
    copied_but (Vector ty element) bound made ws wide has out d since h =
        subst (λ (x : Option ℕ). IfGot (copied_buffer s ty (width element) (copied s element) x d) (IsCopied (Vector ty element) out d)) (sym has.1)
        (buffer_copied (Vector ty element) element ty (width element) made.1 refl (λ us m e. vector_has ty element us m e) (copied s element) has.0 d
        (λ o i t at_i e more k.
        let full = has.3 i t (sym (ap (λ (x : Option Object). slice_get (slots_if x) i) (since.same has.0 has.2)) ∙ at_i) in
        if_such (copied s element t.words e) (IsCopied element o e) (λ v. HasBuffers element v.0 × AreBut types o v.1 × IsMore e v.1) (copied_but element (rank_of types ty) made.2 t.words full.0 full.1 o e (more_then c d e since more) k) (λ v copy. (copy.has, copy.buffers, copy.more)))
        out h)

  -- ---- a copy is written to a place

  -- where a value of these parts lies in objects of the type
  pub replaced_buffered : (bare : ℕ → Type 0) (p : Parts) (n i w : ℕ) (c : Content) (v : Words) → IsCopied p bare c v → n < c.births → ((o : Object) → at c.objects n ≡ Some o → (u : ℕ) → u < width p → is_buffer_at (parts_at types o.ty) (w + u) ≡ is_buffer_at p u)
      → AreBut types bare (replaced p (record { object = n; index = i; word = w }) v)
  replaced_buffered bare p n i w c v copy born lies =
      wrote_but types bare n i w v.0 (ended p (spot_words v.1 (record { object = n; index = i; word = w }) (width p)) v.1)
      (λ o there j lt e.
      copy.has j (sym (lies o (sym (copy.more.same n born) ∙ ended_leaves types p (spot_words v.1 (record { object = n; index = i; word = w }) (width p)) v.1 n o there) j (let wide = copy.wide in omega (arith, lt, wide))) ∙ e))
      (ended_but types bare p (spot_words v.1 (record { object = n; index = i; word = w }) (width p)) v.1 copy.buffers)

  -- .. so an object of one slot has its buffers
  pub replaced_one : (p : Parts) (bare : ℕ → Type 0) (n : ℕ) (c : Content) (v : Words) → IsCopied p bare c v → n < c.births → ((o : Object) → at c.objects n ≡ Some o → (parts_at types o.ty ≡ p) × (length o.slots ≡ 1) × ((t : Slot) → slice_get o.slots 0 ≡ Some t → length t.words ≡ width p))
      → (q : Object) → at (replaced p (record { object = n; index = 0; word = 0 }) v).objects n ≡ Some q → Have types q
  replaced_one p bare n c v copy born owner q there = go (at left.objects n) refl there
    where
      left : Content
      left = ended p (spot_words v.1 (record { object = n; index = 0; word = 0 }) (width p)) v.1

      was : (o : Object) → at left.objects n ≡ Some o → at c.objects n ≡ Some o
      was o is = sym (copy.more.same n born) ∙ ended_leaves types p (spot_words v.1 (record { object = n; index = 0; word = 0 }) (width p)) v.1 n o is

      go : (x : Option Object) → at left.objects n ≡ x → at (wrote_if x n 0 0 v.0 left).objects n ≡ Some q → Have types q
      go None e is = absurd (none_some (sym e ∙ is))
      go (Some o) e is =
          let a = owner o (was o e) in
          subst (Have types) (some_same (sym (at-set_same left.objects n n (with_words 0 0 v.0 o) refl) ∙ is))
          (value_have types o 0 v.0 p a.0 (λ j t at_j ne. absurd (lone o.slots j t a.1 at_j ne)) a.2 copy.wide copy.has)

  -- ---- an object of one slot comes to life

  born_buffer : (q : Parts) (id : TyId) (w : ℕ) → width q ≡ 1 → ((ws : List ℕ) (m : ℕ) → owned_in (slice_index ws 0) ≡ Some m → HasBuffers q ws) → (o : ℕ → Type 0) (e : Content) → AreBut types o e → IfGot (then_get (birth s id w 0 e) (λ b. Got (owning b))) (IsCopied q o e)
  born_buffer q id w one owner o e k =
      got_then (birth s id w 0 e) (λ b. Got (owning b)) (λ b. AreBut types o b.1 × IsMore e b.1) (IsCopied q o e)
      (if_room (nat_lt s.given.cells (live_words_of e + (2 + w * 0))) trap.Cells (e.births, with_birth id w 0 e) (λ b. AreBut types o b.1 × IsMore e b.1) (birth_but types o id w 0 e k, more_set e e (with_birth id w 0 e) e.births (newborn id w 0 e.clock) (omega arith) (omega arith) refl (more_self e)))
      (λ b j. record { has = owner (suc b.0 ∷ []) b.0 refl; wide = sym one; buffers = j.0; more = j.1 })

  fresh_but : (form : Form) (p : Parts) (out : ℕ → Type 0) (d : Content) → AreBut types out d → IfGot (fresh s form p d) (IsCopied p out d)
  fresh_but form Single out d h = record { has = bufferless Single (λ u. refl) (0 ∷ []); wide = refl; buffers = h; more = more_self d }
  fresh_but form Raw out d h = record { has = bufferless Raw (λ u. refl) (pointer_words (born_pointer form)); wide = five (born_pointer form); buffers = h; more = more_self d }
  fresh_but form Iterates out d h = record { has = bufferless Iterates (λ u. refl) (pointer_words Wild); wide = refl; buffers = h; more = more_self d }
  fresh_but form Views out d h = record { has = bufferless Views (λ u. refl) (pointer_words empty_view); wide = refl; buffers = h; more = more_self d }
  fresh_but form (Unique ty target) out d h = record { has = bufferless (Unique ty target) (λ u. refl) (owner_word None ∷ []); wide = refl; buffers = h; more = more_self d }
  fresh_but form NoMember out d h = record { has = bufferless NoMember (λ u. refl) []; wide = refl; buffers = h; more = more_self d }
  fresh_but form (Member first others) out d h =
      got_then (fresh s form first d) (λ a. then_get (fresh s form others a.1) (λ b. Got (a.0 ++ b.0, b.1))) (IsCopied first out d) (IsCopied (Member first others) out d) (fresh_but form first out d h)
      (λ a one. got_then (fresh s form others a.1) (λ b. Got (a.0 ++ b.0, b.1)) (IsCopied others out a.1) (IsCopied (Member first others) out d) (fresh_but form others out a.1 one.buffers) (λ b two. joined_copied first others out d a one b two))
  fresh_but form (Text ty) out d h = born_buffer (Text ty) ty 1 refl (λ us m e. text_has ty us m e) out d h
  fresh_but form (Vector ty element) out d h = born_buffer (Vector ty element) ty (width element) refl (λ us m e. vector_has ty element us m e) out d h

  -- words that are written give a value its buffers
  pub written_in : (bare : ℕ → Type 0) (n : ℕ) (ws : List ℕ) (d : Content) → ((o : Object) → at d.objects n ≡ Some o → Have types (with_words 0 0 ws o)) → AreBut types (λ k. bare k ⊎ (k ≡ n)) d → AreBut types bare (wrote n 0 0 ws d)
  written_in bare n ws d new h = go (at d.objects n) refl
    where
      go : (x : Option Object) → at d.objects n ≡ x → AreBut types bare (wrote_if x n 0 0 ws d)
      go None e k i o t free there slot = h k i o t (λ gone. ⊎_elim free (λ is. none_some (sym e ∙ ap (at d.objects) (sym is) ∙ there)) gone) there slot
      go (Some x) e k i o t free there slot =
          ⊎_elim
          (λ same. subst (λ (y : Object). (j : ℕ) (u : Slot) → slice_get y.slots j ≡ Some u → HasBuffers (parts_at types y.ty) u.words) (some_same (sym same.1 ∙ there)) (new x e) i t slot)
          (λ other. h k i o t (λ gone. ⊎_elim free (λ is. other.0 (sym is)) gone) (sym other.1 ∙ there) slot)
          (set_cases d.objects n k (with_words 0 0 ws x))

  slot_wide : (ss : List Slot) (t : Slot) (w : ℕ) → AllWide w ss → slice_get ss 0 ≡ Some t → length t.words ≡ w
  slot_wide [] t w h e = absurd (none_some e)
  slot_wide (x ∷ xs) t w h e = subst (λ (y : Slot). length y.words ≡ w) (some_same e) h.0

  row_have : (p : Parts) (o : Object) (ws : List ℕ) → parts_at types o.ty ≡ p → length o.slots ≡ 1 → ((t : Slot) → slice_get o.slots 0 ≡ Some t → length t.words ≡ width p) → length ws ≡ width p → HasBuffers p ws → Have types (with_words 0 0 ws o)
  row_have p o ws typed one wide size has = value_have types o 0 ws p typed (λ j t at_j ne. absurd (lone o.slots j t one at_j ne)) wide size has

  -- an object with a value that has its buffers
  pub with_buffered : (bare : ℕ → Type 0) (value : Content → Attempt Words) (ty : TyId) (c : Content) → ((out : ℕ → Type 0) (d : Content) → AreBut types out d → IfGot (value d) (IsCopied (parts_at types ty) out d)) → AreBut types bare c → IfGot (object_with s ty (parts_at types ty) value c) (λ b. AreBut types bare b.1)
  with_buffered bare value ty c each h =
      got_then (sized_birth s ty (width (parts_at types ty)) 1 c) (λ b. then_get (value b.1) (λ v. Got (b.0, wrote b.0 0 0 v.0 v.1))) (λ f. IsSized c ty (width (parts_at types ty)) 1 f × AreBut types (λ k. bare k ⊎ (k ≡ f.0)) f.1) (λ b. AreBut types bare b.1)
      (sized_but types s ty (width (parts_at types ty)) 1 c bare h)
      (λ f k. got_then (value f.1) (λ v. Got (f.0, wrote f.0 0 0 v.0 v.1)) (IsCopied (parts_at types ty) (λ j. bare j ⊎ (j ≡ f.0)) f.1) (λ b. AreBut types bare b.1)
      (each (λ j. bare j ⊎ (j ≡ f.0)) f.1 k.1)
      (λ v made. written_in bare f.0 v.0 v.1 (λ o there.
      let number = k.0.number in
      let births = k.0.births in
      let same : k.0.object ≡ o = some_same (sym (made.more.same f.0 (omega (arith, number, births)) ∙ k.0.there) ∙ there) in
      subst (λ (x : Object). Have types (with_words 0 0 v.0 x)) same
      (row_have (parts_at types ty) k.0.object v.0 (ap (parts_at types) k.0.type) k.0.count (λ t e. slot_wide k.0.object.slots t (width (parts_at types ty)) k.0.wide e) made.wide made.has)) made.buffers))

  -- as it comes to life
  pub born_buffered : (bare : ℕ → Type 0) (form : Form) (ty : TyId) (c : Content) → AreBut types bare c → IfGot (object_with s ty (parts_at types ty) (fresh s form (parts_at types ty)) c) (λ b. AreBut types bare b.1)
  born_buffered bare form ty c h = with_buffered bare (fresh s form (parts_at types ty)) ty c (fresh_but form (parts_at types ty)) h

  -- .. with a number
  pub number_buffered : (bare : ℕ → Type 0) (word : ℕ) (ty : TyId) (c : Content) → parts_at types ty ≡ Single → AreBut types bare c → IfGot (object_with s ty (parts_at types ty) (λ d. Got (word ∷ [], d)) c) (λ b. AreBut types bare b.1)
  number_buffered bare word ty c single h =
      with_buffered bare (λ d. Got (word ∷ [], d)) ty c (λ out d k. record { has = subst (λ (p : Parts). HasBuffers p (word ∷ [])) (sym single) (bufferless Single (λ u. refl) (word ∷ [])); wide = sym (ap width single); buffers = k; more = more_self d }) h
