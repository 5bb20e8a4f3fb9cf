-- Each vector and each string keeps its buffer behind births and ends, and where words of an object are written, but in objects that are left out.
use Rattle.std.proofs.Common.{◌≡◌, ⊎_elim, ℕ, zero, suc, ◌+◌, ◌-◌, ◌≤◌, ◌<◌, List, [], ◌∷◌, ◌++◌, length, map, Option, Some, None, refl, sym, ap, subst, ◌∙◌, arith, ◌⊎◌, inl, inr, ◌≢◌}
use Rattle.std.specs.Prelude.{drop, option_map, replicate, slice_get, slice_index, slice_set, take}
use Rattle.std.proofs.lemmas.List.{length-set}
use Rattle.life_types.specs.Types.{Types}
use Rattle.life_types.specs.declared.ty.TyId.{TyId}
use Rattle.life_store.specs.Cells.{at, set}
use Rattle.life_store.specs.Content.{Slot, Object, Content, blank_slot, newborn, resized, resized_slots, set_slot, stamped, with_birth, with_rename, with_resize, with_word, without, written}
use Rattle.life_store.specs.Edits.{cleared, owns, popped, size_of}
use Rattle.life_store.specs.Held.{filled, filled_if, filled_slots, owned_in, resized_at, resized_if, slot_words, slots_at, slots_if, wrote_if}
use Rattle.life_store.specs.Owners.{ended, ended_owned, ended_slots}
use Rattle.life_store.specs.Parts.{Parts, Single, Raw, Iterates, Views, Text, Vector, Unique, Member, NoMember, parts_at, width}
use Rattle.life_store.proofs.CellLemmas.{cell_cases, none_some, set_cases, some_same, unset_cases}
use Rattle.life_store.proofs.MapLemmas.{one_or_apart}
use Rattle.life_forest.proofs.Coming.{IfGot}
use Rattle.life_cover.specs.Buffered.{AreBut, HasBuffers}
use Rattle.life_cover.proofs.BufferWords.{bufferless, set_has}
use Rattle.life_cover.proofs.SingleParts.{AreSingle, single_has}

-- ---- slots

-- the words of each slot are such
abbrev pub Each : (List ℕ → Type 0) → List Slot → Type 0
Each P ss = (i : ℕ) (s : Slot) → slice_get ss i ≡ Some s → P s.words

each_none : (P : List ℕ → Type 0) → Each P []
each_none P i s e = absurd (none_some e)

each_more : (P : List ℕ → Type 0) (t : Slot) (ss : List Slot) → P t.words → Each P ss → Each P (t ∷ ss)
each_more P t ss h rest zero s e = subst (λ (x : Slot). P x.words) (some_same e) h
each_more P t ss h rest (suc i) s e = rest i s e

each_tail : (P : List ℕ → Type 0) (t : Slot) (ss : List Slot) → Each P (t ∷ ss) → Each P ss
each_tail P t ss h i s e = h (suc i) s e

pub each_take : (P : List ℕ → Type 0) (n : ℕ) (ss : List Slot) → Each P ss → Each P (take n ss)
each_take P zero ss h = each_none P
each_take P (suc n) [] h = each_none P
each_take P (suc n) (t ∷ ss) h = each_more P t (take n ss) (h 0 t refl) (each_take P n ss (each_tail P t ss h))

each_drop : (P : List ℕ → Type 0) (n : ℕ) (ss : List Slot) → Each P ss → Each P (drop n ss)
each_drop P zero ss h = h
each_drop P (suc n) [] h = h
each_drop P (suc n) (t ∷ ss) h = each_drop P n ss (each_tail P t ss h)

pub each_append : (P : List ℕ → Type 0) (ss rr : List Slot) → Each P ss → Each P rr → Each P (ss ++ rr)
each_append P [] rr h k = k
each_append P (t ∷ ss) rr h k = each_more P t (ss ++ rr) (h 0 t refl) (each_append P ss rr (each_tail P t ss h) k)

pub each_stamped : (P : List ℕ → Type 0) (m : ℕ) (ss : List Slot) → Each P ss → Each P (map (stamped m) ss)
each_stamped P m [] h = each_none P
each_stamped P m (t ∷ ss) h = each_more P (stamped m t) (map (stamped m) ss) (h 0 t refl) (each_stamped P m ss (each_tail P t ss h))

pub none_left : (n m : ℕ) → n ≤ m → n - m ≡ 0
none_left n m le = omega (arith, le)

-- no more slots than there were
each_resized : (P : List ℕ → Type 0) (w m size since : ℕ) (ss : List Slot) → size ≤ length ss → Each P ss → Each P (resized_slots w m size since ss)
each_resized P w m size since ss le h =
    each_append P (take since ss) _ (each_take P since ss h)
    (each_stamped P m (take (size - since) (drop since ss ++ replicate (size - length ss) (blank_slot w m)))
    (each_take P (size - since) (drop since ss ++ replicate (size - length ss) (blank_slot w m))
    (subst (λ n. Each P (drop since ss ++ replicate n (blank_slot w m))) (sym (none_left size (length ss) le)) (each_append P (drop since ss) [] (each_drop P since ss h) (each_none P)))))

-- one word of one slot is written
each_written : (P : List ℕ → Type 0) (ss : List Slot) (i w v : ℕ) → ((s : Slot) → slice_get ss i ≡ Some s → P (slice_set s.words w v)) → Each P ss → Each P (set_slot ss i (option_map (written w v) (slice_get ss i)))
each_written P ss i w v new h = go (slice_get ss i) refl
  where
    go : (o : Option Slot) → slice_get ss i ≡ o → Each P (set_slot ss i (option_map (written w v) o))
    go None e = h
    go (Some s) e = λ j t k. ⊎_elim (λ same. subst (λ (x : Slot). P x.words) same.1 (new s e)) (λ other. h j t other.1) (cell_cases ss i j (written w v s) t k)

-- rows instead of them, as many as there are slots
each_filled : (P : List ℕ → Type 0) (ss : List Slot) (rows : List (List ℕ)) → length ss ≤ length rows → ((i : ℕ) (ws : List ℕ) → slice_get rows i ≡ Some ws → P ws) → Each P (filled_slots ss rows)
each_filled P [] rows le h = each_none P
each_filled P (t ∷ ss) [] le h = absurd (omega (arith, le))
each_filled P (t ∷ ss) (ws ∷ rows) le h = each_more P (record t { words = ws }) (filled_slots ss rows) (h 0 ws refl) (each_filled P ss rows (omega (arith, le)) (λ i vs e. h (suc i) vs e))

module _ (types : Types) where
  -- of an object's slots
  abbrev pub Have : Object → Type 0
  Have o = Each (HasBuffers (parts_at types o.ty)) o.slots

  -- values have none
  pub single_have : (o : Object) → parts_at types o.ty ≡ Single → Have o
  single_have o single i s e = subst (λ (p : Parts). HasBuffers p s.words) (sym single) (bufferless Single (λ u. refl) s.words)

  pub alone_have : (o : Object) → AreSingle (parts_at types o.ty) → Have o
  alone_have o single i s e = single_has (parts_at types o.ty) single s.words

  -- more may be left out
  pub but_more : (out more : ℕ → Type 0) (c : Content) → ((n : ℕ) → out n → more n) → AreBut types out c → AreBut types more c
  but_more out more c lacks h n i o s free there slot = h n i o s (λ gone. free (lacks n gone)) there slot

  -- .. and not an object that has them
  pub but_one : (out : ℕ → Type 0) (n : ℕ) (c : Content) → ((o : Object) → at c.objects n ≡ Some o → Have o) → AreBut types out c → AreBut types (λ k. out k × (k ≢ n)) c
  but_one out n c have h k i o t free there slot = one_or_apart k n (λ same. have o (ap (at c.objects) (sym same) ∙ there) i t slot) (λ ne. h k i o t (λ gone. free (gone, ne)) there slot)

  module _ (out : ℕ → Type 0) where
    pub without_but : (n : ℕ) (c : Content) → AreBut types out c → AreBut types out (without n c)
    without_but n c h m i o s free there slot = ⊎_elim (λ gone. absurd (none_some (sym gone.1 ∙ there))) (λ kept. h m i o s free (sym kept.1 ∙ there) slot) (unset_cases c.objects n m)

    -- an object that has them, or is left out
    pub set_but : (n : ℕ) (o : Object) (c d : Content) → (out n ⊎ Have o) → d.objects ≡ set c.objects n o → AreBut types out c → AreBut types out d
    set_but n o c d new is h m i q s free there slot =
        ⊎_elim (λ same. at_n same.0 (some_same (sym same.1 ∙ here)) new) (λ other. h m i q s free (sym other.1 ∙ here) slot) (set_cases c.objects n m o)
      where
        here : at (set c.objects n o) m ≡ Some q
        here = ap (λ objects. at objects m) (sym is) ∙ there

        at_n : n ≡ m → o ≡ q → (out n ⊎ Have o) → HasBuffers (parts_at types q.ty) s.words
        at_n same_n same (inl gone) = absurd (free (subst out same_n gone))
        at_n same_n same (inr have) = subst (λ (x : Object). (j : ℕ) (t : Slot) → slice_get x.slots j ≡ Some t → HasBuffers (parts_at types x.ty) t.words) same have i s slot

    -- an object isn't left out where it has them
    pub have_in : (n : ℕ) (c : Content) → ((o : Object) → at c.objects n ≡ Some o → Have o) → AreBut types (λ k. out k ⊎ (k ≡ n)) c → AreBut types out c
    have_in n c have h k i o t free there slot = one_or_apart k n (λ same. have o (ap (at c.objects) (sym same) ∙ there) i t slot) (λ ne. h k i o t (λ gone. ⊎_elim free ne gone) there slot)

    pub birth_but : (ty : TyId) (w capacity : ℕ) (c : Content) → AreBut types out c → AreBut types out (with_birth ty w capacity c)
    birth_but ty w capacity c h = set_but c.births (newborn ty w capacity c.clock) c (with_birth ty w capacity c) (inr (each_none (HasBuffers (parts_at types ty)))) refl h

    -- an object goes under another number
    pub rename_but : (n : ℕ) (o : Object) (c : Content) → at c.objects n ≡ Some o → (out n → ⊥) → AreBut types out c → AreBut types out (with_rename n o c)
    rename_but n o c there free h = set_but c.births o (without n c) (with_rename n o c) (inr (λ i s e. h n i o s free there e)) refl (without_but n c h)

    -- one that is left out
    pub resized_but : (n size since : ℕ) (c : Content) → out n → AreBut types out c → AreBut types out (resized_at n size since c)
    resized_but n size since c gone h = go (at c.objects n)
      where
        go : (o : Option Object) → AreBut types out (resized_if o n size since c)
        go None = h
        go (Some o) = set_but n (resized (c.clock + 1) size since o) c (with_resize n size since o c) (inl gone) refl h

    -- ---- ends

    slots_ended : (end : List ℕ → Content → Content) → ((ws : List ℕ) (c : Content) → AreBut types out c → AreBut types out (end ws c)) → (ss : List Slot) (c : Content) → AreBut types out c → AreBut types out (ended_slots end ss c)
    slots_ended end each [] c h = h
    slots_ended end each (s ∷ ss) c h = slots_ended end each ss (end s.words c) (each s.words c h)

    owned_ended : (end : List ℕ → Content → Content) → ((ws : List ℕ) (c : Content) → AreBut types out c → AreBut types out (end ws c)) → (o : Option ℕ) (c : Content) → AreBut types out c → AreBut types out (ended_owned end o c)
    owned_ended end each None c h = h
    owned_ended end each (Some n) c h = without_but n (ended_slots end (slots_at c n) c) (slots_ended end each (slots_at c n) c h)

    pub ended_but : (p : Parts) (ws : List ℕ) (c : Content) → AreBut types out c → AreBut types out (ended p ws c)
    ended_but Single ws c h = h
    ended_but Raw ws c h = h
    ended_but Iterates ws c h = h
    ended_but Views ws c h = h
    ended_but (Text ty) ws c h = owned_ended (λ vs d. d) (λ vs d k. k) (owned_in (slice_index ws 0)) c h
    ended_but (Vector ty element) ws c h = owned_ended (ended element) (λ vs d k. ended_but element vs d k) (owned_in (slice_index ws 0)) c h
    ended_but (Unique ty target) ws c h = owned_ended (ended target) (λ vs d k. ended_but target vs d k) (owned_in (slice_index ws 0)) c h
    ended_but (Member first others) ws c h = ended_but others (drop (width first) ws) (ended first (take (width first) ws) c) (ended_but first (take (width first) ws) c h)
    ended_but NoMember ws c h = h

  -- what is there behind an end was there
  abbrev pub Leaves : (Content → Content) → Type 0
  Leaves end = (c : Content) (k : ℕ) (o : Object) → at (end c).objects k ≡ Some o → at c.objects k ≡ Some o

  pub without_leaves : (n : ℕ) → Leaves (without n)
  without_leaves n c k o there = ⊎_elim (λ gone. absurd (none_some (sym gone.1 ∙ there))) (λ kept. sym kept.1 ∙ there) (unset_cases c.objects n k)

  slots_leave : (end : List ℕ → Content → Content) → ((ws : List ℕ) → Leaves (end ws)) → (ss : List Slot) → Leaves (ended_slots end ss)
  slots_leave end each [] c k o there = there
  slots_leave end each (s ∷ ss) c k o there = each s.words c k o (slots_leave end each ss (end s.words c) k o there)

  owned_leaves : (end : List ℕ → Content → Content) → ((ws : List ℕ) → Leaves (end ws)) → (x : Option ℕ) → Leaves (ended_owned end x)
  owned_leaves end each None c k o there = there
  owned_leaves end each (Some n) c k o there = slots_leave end each (slots_at c n) c k o (without_leaves n (ended_slots end (slots_at c n) c) k o there)

  pub ended_leaves : (p : Parts) (ws : List ℕ) → Leaves (ended p ws)
  ended_leaves Single ws c k o there = there
  ended_leaves Raw ws c k o there = there
  ended_leaves Iterates ws c k o there = there
  ended_leaves Views ws c k o there = there
  ended_leaves (Text ty) ws c k o there = owned_leaves (λ vs d. d) (λ vs d j q h. h) (owned_in (slice_index ws 0)) c k o there
  ended_leaves (Vector ty element) ws c k o there = owned_leaves (ended element) (λ vs. ended_leaves element vs) (owned_in (slice_index ws 0)) c k o there
  ended_leaves (Unique ty target) ws c k o there = owned_leaves (ended target) (λ vs. ended_leaves target vs) (owned_in (slice_index ws 0)) c k o there
  ended_leaves (Member first others) ws c k o there = ended_leaves first (take (width first) ws) c k o (ended_leaves others (drop (width first) ws) (ended first (take (width first) ws) c) k o there)
  ended_leaves NoMember ws c k o there = there

  -- ---- fewer slots

  -- of an object that isn't left out
  module _ (bare : ℕ → Type 0) (b : ℕ) (clear : bare b → ⊥) where
    shrunk : (size since : ℕ) (c : Content) → ((o : Object) → at c.objects b ≡ Some o → size ≤ length o.slots) → AreBut types bare c → AreBut types bare (resized_at b size since c)
    shrunk size since c fewer h = go (at c.objects b) refl
      where
        go : (o : Option Object) → at c.objects b ≡ o → AreBut types bare (resized_if o b size since c)
        go None e = h
        go (Some o) e =
            set_but bare b (resized (c.clock + 1) size since o) c (with_resize b size since o c)
            (inr (each_resized (HasBuffers (parts_at types o.ty)) o.width (c.clock + 1) size since o.slots (fewer o e) (λ i s slot. h b i o s clear e slot))) refl h

    pub popped_buffered : (element : Parts) (size : ℕ) (c : Content) → size ≡ size_of c b → AreBut types bare c → IfGot (popped element b size c) (AreBut types bare)
    popped_buffered element zero c is h = tt
    popped_buffered element (suc n) c is h =
        shrunk n n (ended element (slot_words c b n) c) (λ o there. let size = ap (λ (x : Option Object). length (slots_if x)) (ended_leaves element (slot_words c b n) c b o there) in omega (arith, size, is)) (ended_but bare element (slot_words c b n) c h)

    pub cleared_buffered : (element : Parts) (c : Content) → AreBut types bare c → AreBut types bare (cleared element b c)
    cleared_buffered element c h = shrunk 0 0 (ended_slots (ended element) (slots_at c b) c) (λ o there. omega arith) (slots_ended bare (ended element) (λ vs d k. ended_but bare element vs d k) (slots_at c b) c h)

  -- ---- words are written

  -- each slot has words
  abbrev pub AllSome : List Slot → Type 0
  AllSome ss = (i : ℕ) (s : Slot) → slice_get ss i ≡ Some s → 0 < length s.words

  -- .. also where one word is another
  pub some_written : (ss : List Slot) (w v : ℕ) → AllSome ss → AllSome (set_slot ss 0 (option_map (written w v) (slice_get ss 0)))
  some_written ss w v h = each_written (λ ws. 0 < length ws) ss 0 w v (λ s e. let some = h 0 s e in let size = length-set s.words w v in omega (arith, some, size)) h

  -- a vector or a string
  abbrev pub IsBufferOwner : Parts → Type 0
  IsBufferOwner p = (ws : List ℕ) (m : ℕ) → owned_in (slice_index ws 0) ≡ Some m → HasBuffers p ws

  -- the object, as long as it lives, is one
  abbrev pub IsOwnerAt : Content → ℕ → Type 0
  IsOwnerAt c n = (o : Object) → at c.objects n ≡ Some o → IsBufferOwner (parts_at types o.ty) × AllSome o.slots

  -- an owner that owns something may be written anywhere
  pub owns_but : (out : ℕ → Type 0) (n i w m : ℕ) (c : Content) → AreBut types out c → AreBut types out (owns (record { object = n; index = i; word = w }) m c)
  owns_but out n i w m c h = go (at c.objects n) refl
    where
      at_slots : (o : Object) → at c.objects n ≡ Some o → (free : out n → ⊥) → Have (with_word i w (suc m) o)
      at_slots o there free = each_written (HasBuffers (parts_at types o.ty)) o.slots i w (suc m) (λ s e. set_has (parts_at types o.ty) s.words w m (h n i o s free there e)) (λ j s e. h n j o s free there e)

      go : (o : Option Object) → at c.objects n ≡ o → AreBut types out (wrote_if o n i w (suc m ∷ []) c)
      go None e k j q s free there slot = h k j q s free there slot
      go (Some o) e k j q s free there slot =
          ⊎_elim
          (λ same. subst (λ (x : Object). (t : ℕ) (u : Slot) → slice_get x.slots t ≡ Some u → HasBuffers (parts_at types x.ty) u.words) (some_same (sym same.1 ∙ there)) (at_slots o e (λ gone. free (subst out same.0 gone))) j s slot)
          (λ other. h k j q s free (sym other.1 ∙ there) slot)
          (set_cases c.objects n k (with_word i w (suc m) o))

  -- all slots of an object get rows that have their buffers
  pub filled_but : (out : ℕ → Type 0) (n : ℕ) (rows : List (List ℕ)) (c : Content) → ((o : Object) → at c.objects n ≡ Some o → length o.slots ≤ length rows) → ((o : Object) → at c.objects n ≡ Some o → (i : ℕ) (ws : List ℕ) → slice_get rows i ≡ Some ws → HasBuffers (parts_at types o.ty) ws)
      → AreBut types (λ k. out k ⊎ (k ≡ n)) c → AreBut types out (filled n rows c)
  filled_but out n rows c enough each h = go (at c.objects n) refl
    where
      go : (o : Option Object) → at c.objects n ≡ o → AreBut types out (filled_if o n rows c)
      go None e k i o s free there slot = h k i o s (λ gone. ⊎_elim free (λ is. none_some (sym e ∙ ap (at c.objects) (sym is) ∙ there)) gone) there slot
      go (Some o) e k i q s free there slot =
          ⊎_elim
          (λ same. subst (λ (x : Object). (t : ℕ) (u : Slot) → slice_get x.slots t ≡ Some u → HasBuffers (parts_at types x.ty) u.words) (some_same (sym same.1 ∙ there))
          (each_filled (HasBuffers (parts_at types o.ty)) o.slots rows (enough o e) (each o e)) i s slot)
          (λ other. h k i q s (λ gone. ⊎_elim free (λ is. other.0 (sym is)) gone) (sym other.1 ∙ there) slot)
          (set_cases c.objects n k (record o { slots = filled_slots o.slots rows }))
