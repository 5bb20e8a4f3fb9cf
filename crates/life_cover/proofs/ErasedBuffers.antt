-- Where an element of a vector is erased, the vector has one element less, and each vector and each string has its buffer.
use Rattle.std.proofs.Common.{◌≡◌, ℕ, zero, suc, ◌+◌, ◌-◌, ◌≤◌, ◌<◌, List, [], ◌∷◌, ◌++◌, length, length-append, map, Option, Some, None, refl, sym, ap, subst, ◌∙◌, arith, ◌⊎◌, inl, inr}
use Rattle.std.proofs.lemmas.List.{append-nil, length-drop, length-map, length-take}
use Rattle.std.specs.Prelude.{drop, replicate, slice_get, slice_index, take}
use Rattle.life_types.specs.Types.{Types}
use Rattle.life_store.specs.Cells.{at, at-set_same}
use Rattle.life_store.specs.Content.{Slot, Object, Content, blank_slot, resized, resized_slots, with_object, with_resize}
use Rattle.life_store.specs.Edits.{closed_up, erased, words_in}
use Rattle.life_store.specs.Held.{filled_if, filled_slots, owned_in, resized_at, resized_if, slots_at, slots_if, words_if}
use Rattle.life_store.specs.Owners.{ended, ended_owned, ended_slots, taken_slots}
use Rattle.life_store.specs.Parts.{Parts, Single, Raw, Iterates, Views, Text, Vector, Unique, Member, NoMember, parts_at, width}
use Rattle.life_store.proofs.CellLemmas.{none_some, some_same}
use Rattle.life_forest.proofs.Widths.{count-resized}
use Rattle.life_cover.specs.Buffered.{AreBut, HasBuffers}
use Rattle.life_cover.proofs.Buffering.{Each, each_append, each_stamped, each_take, ended_but, ended_leaves, have_in, none_left, set_but}
use Rattle.life_cover.proofs.Rebuffering.{AreFree, AreTaken, slots_taken}

-- ---- slots

-- the words of so many of the first are such
abbrev pub EachOf : (List ℕ → Type 0) → ℕ → List Slot → Type 0
EachOf P n ss = (i : ℕ) (s : Slot) → i < n → slice_get ss i ≡ Some s → P s.words

first_take : (P : List ℕ → Type 0) (n : ℕ) (ss : List Slot) → EachOf P n ss → Each P (take n ss)
first_take P zero ss h i s e = absurd (none_some e)
first_take P (suc n) [] h i s e = absurd (none_some e)
first_take P (suc n) (t ∷ ss) h zero s e = h 0 s (omega arith) e
first_take P (suc n) (t ∷ ss) h (suc i) s e = first_take P n ss (λ j u lt k. h (suc j) u (omega (arith, lt)) k) i s e

first_drop : (P : List ℕ → Type 0) (n since : ℕ) (ss : List Slot) → EachOf P n ss → EachOf P (n - since) (drop since ss)
first_drop P n zero ss h i s lt e = h i s (omega (arith, lt)) e
first_drop P n (suc since) [] h i s lt e = absurd (none_some e)
first_drop P n (suc since) (t ∷ ss) h i s lt e = first_drop P (n - 1) since ss (λ j u less k. h (suc j) u (omega (arith, less)) k) i s (omega (arith, lt)) e

-- no more slots than these
each_cut : (P : List ℕ → Type 0) (w m size since : ℕ) (ss : List Slot) → since ≤ size → size ≤ length ss → EachOf P size ss → Each P (resized_slots w m size since ss)
each_cut P w m size since ss to from h =
    each_append P (take since ss) _ (first_take P since ss (λ i s lt e. h i s (omega (arith, lt, to)) e))
    (each_stamped P m (take (size - since) (drop since ss ++ replicate (size - length ss) (blank_slot w m)))
    (first_take P (size - since) (drop since ss ++ replicate (size - length ss) (blank_slot w m))
    (subst (λ n. EachOf P (size - since) (drop since ss ++ replicate n (blank_slot w m))) (sym (none_left size (length ss) from))
    (subst (EachOf P (size - since)) (sym (append-nil (drop since ss))) (first_drop P size since ss h)))))

-- ---- rows

abbrev EachRow : (List ℕ → Type 0) → List (List ℕ) → Type 0
EachRow P rows = (i : ℕ) (ws : List ℕ) → slice_get rows i ≡ Some ws → P ws

rows_of : (P : List ℕ → Type 0) (ss : List Slot) → Each P ss → EachRow P (map words_in ss)
rows_of P [] h i ws e = absurd (none_some e)
rows_of P (t ∷ ss) h zero ws e = subst P (some_same e) (h 0 t refl)
rows_of P (t ∷ ss) h (suc i) ws e = rows_of P ss (λ j u k. h (suc j) u k) i ws e

rows_both : (P : List ℕ → Type 0) (xs ys : List (List ℕ)) → EachRow P xs → EachRow P ys → EachRow P (xs ++ ys)
rows_both P [] ys h k i ws e = k i ws e
rows_both P (x ∷ xs) ys h k zero ws e = h 0 ws e
rows_both P (x ∷ xs) ys h k (suc i) ws e = rows_both P xs ys (λ j u g. h (suc j) u g) k i ws e

pub first_filled : (P : List ℕ → Type 0) (ss : List Slot) (rows : List (List ℕ)) → EachRow P rows → EachOf P (length rows) (filled_slots ss rows)
first_filled P [] rows h i s lt e = absurd (none_some e)
first_filled P (t ∷ ss) [] h i s lt e = absurd (omega (arith, lt))
first_filled P (t ∷ ss) (ws ∷ rows) h zero s lt e = subst (λ (x : Slot). P x.words) (some_same e) (h 0 ws refl)
first_filled P (t ∷ ss) (ws ∷ rows) h (suc i) s lt e = first_filled P ss rows (λ j u k. h (suc j) u k) i s (omega (arith, lt)) e

pub count_filled : (ss : List Slot) (rows : List (List ℕ)) → length (filled_slots ss rows) ≡ length ss
count_filled [] rows = refl
count_filled (t ∷ ss) [] = refl
count_filled (t ∷ ss) (ws ∷ rows) = ap suc (count_filled ss rows)

-- ---- an end makes no objects

abbrev IsUnborn : (Content → Content) → Type 0
IsUnborn end = (c : Content) → (end c).births ≡ c.births

slots_unborn : (end : List ℕ → Content → Content) → ((ws : List ℕ) → IsUnborn (end ws)) → (ss : List Slot) → IsUnborn (ended_slots end ss)
slots_unborn end each [] c = refl
slots_unborn end each (s ∷ ss) c = slots_unborn end each ss (end s.words c) ∙ each s.words c

owned_unborn : (end : List ℕ → Content → Content) → ((ws : List ℕ) → IsUnborn (end ws)) → (x : Option ℕ) → IsUnborn (ended_owned end x)
owned_unborn end each None c = refl
owned_unborn end each (Some n) c = slots_unborn end each (slots_at c n) c

ended_unborn : (p : Parts) (ws : List ℕ) → IsUnborn (ended p ws)
ended_unborn Single ws c = refl
ended_unborn Raw ws c = refl
ended_unborn Iterates ws c = refl
ended_unborn Views ws c = refl
ended_unborn (Text ty) ws c = owned_unborn (λ vs d. d) (λ vs d. refl) (owned_in (slice_index ws 0)) c
ended_unborn (Vector ty element) ws c = owned_unborn (ended element) (λ vs. ended_unborn element vs) (owned_in (slice_index ws 0)) c
ended_unborn (Unique ty target) ws c = owned_unborn (ended target) (λ vs. ended_unborn target vs) (owned_in (slice_index ws 0)) c
ended_unborn (Member first others) ws c = ended_unborn others (drop (width first) ws) (ended first (take (width first) ws) c) ∙ ended_unborn first (take (width first) ws) c
ended_unborn NoMember ws c = refl

-- ---- a buffer with one element less

-- .. of so many, and each vector and each string has its buffer
pub record IsShut (types : Types) (bare : ℕ → Type 0) (b size : ℕ) (d : Content) : Type 0 where
  pub count : (q : Object) → at d.objects b ≡ Some q → length q.slots ≡ size - 1
  pub buffers : AreBut types bare d

module _ (types : Types) where
  free_drop : (p : Parts) (out : ℕ → Type 0) (n : ℕ) (ss : List Slot) → AreFree types p out ss → AreFree types p out (drop n ss)
  free_drop p out zero ss h = h
  free_drop p out (suc n) [] h = h
  free_drop p out (suc n) (t ∷ ss) h = free_drop p out n ss (λ i u e. h (suc i) u e)

  module _ (bare : ℕ → Type 0) (p : Parts) (b index : ℕ) (c : Content) (h : AreBut types bare c) (o : Object) (there : at c.objects b ≡ Some o) (typed : parts_at types o.ty ≡ p) (free : AreFree types p (λ k. bare k ⊎ (k ≡ b)) o.slots) (born : b < c.births) (lt : index < length o.slots) where
    module _ (gone : List ℕ) where
      abbrev left : Content
      left = ended p gone c

      abbrev later : List (List ℕ) × Content
      later = taken_slots p (drop (index + 1) o.slots) (ended p gone c)

      abbrev rows : List (List ℕ)
      rows = map words_in (take index o.slots) ++ (taken_slots p (drop (index + 1) o.slots) (ended p gone c)).0

      took : AreTaken types p (λ k. bare k ⊎ (k ≡ b)) b (length (drop (index + 1) o.slots)) (ended p gone c) (taken_slots p (drop (index + 1) o.slots) (ended p gone c))
      took =
          slots_taken types p (λ k. bare k ⊎ (k ≡ b)) b (inr refl) (drop (index + 1) o.slots) (free_drop p (λ k. bare k ⊎ (k ≡ b)) (index + 1) o.slots free) (ended p gone c) (let e = ended_unborn p gone c in omega (arith, e, born))
          (ended_but types (λ k. bare k ⊎ (k ≡ b)) p gone c (λ k j q t out is slot. h k j q t (λ gone. out (inl gone)) is slot))

      rows_count : length rows ≡ length o.slots - 1
      rows_count =
          let a = length-append (map words_in (take index o.slots)) (taken_slots p (drop (index + 1) o.slots) (ended p gone c)).0 in
          let d = length-map (take index o.slots) words_in in
          let e = length-take index o.slots in
          let f = took.count_is in
          let g = length-drop (index + 1) o.slots in
          omega (arith, a, d, e, f, g, lt)

      have_rows : EachRow (HasBuffers p) rows
      have_rows =
          rows_both (HasBuffers p) (map words_in (take index o.slots)) (taken_slots p (drop (index + 1) o.slots) (ended p gone c)).0
          (rows_of (HasBuffers p) (take index o.slots) (each_take (HasBuffers p) index o.slots (λ j t e. (free j t e).0))) took.has

      -- the buffer is as it was
      was : (q : Object) → at later.1.objects b ≡ Some q → o ≡ q
      was q e = some_same (sym there ∙ ended_leaves types p gone c b q (sym took.same ∙ e))

      module _ (q : Object) (same : o ≡ q) where
        abbrev filled_one : Object
        filled_one = record q { slots = filled_slots q.slots rows }

        abbrev before : Content
        before = with_object b (record q { slots = filled_slots q.slots rows }) later.1

        abbrev last : Object
        last = resized (later.1.clock + 1) (length o.slots - 1) index (record q { slots = filled_slots q.slots rows })

        slots_as : length (filled_slots q.slots rows) ≡ length o.slots
        slots_as = count_filled q.slots rows ∙ ap (λ (x : Object). length x.slots) (sym same)

        last_count : length last.slots ≡ length o.slots - 1
        last_count = count-resized q.width (later.1.clock + 1) (length o.slots - 1) index (filled_slots q.slots rows) (omega (arith, lt)) (let e = slots_as in omega (arith, lt, e))

        last_have : Each (HasBuffers (parts_at types q.ty)) last.slots
        last_have =
            subst (λ (r : Parts). Each (HasBuffers r) last.slots) (sym (ap (λ (x : Object). parts_at types x.ty) (sym same) ∙ typed))
            (each_cut (HasBuffers p) q.width (later.1.clock + 1) (length o.slots - 1) index (filled_slots q.slots rows) (omega (arith, lt)) (let e = slots_as in omega (arith, e))
            (subst (λ n. EachOf (HasBuffers p) n (filled_slots q.slots rows)) rows_count (first_filled (HasBuffers p) q.slots rows have_rows)))

        closed : IsShut types bare b (length o.slots) (with_resize b (length o.slots - 1) index filled_one before)
        closed = record {
          count = λ r is. ap (λ (x : Object). length x.slots) (some_same (sym is ∙ at-set_same before.objects b b last refl)) ∙ last_count;
          buffers = have_in types bare b (with_resize b (length o.slots - 1) index filled_one before)
              (λ r is. subst (λ (x : Object). Each (HasBuffers (parts_at types x.ty)) x.slots) (some_same (sym (at-set_same before.objects b b last refl) ∙ is)) last_have)
              (set_but types (λ k. bare k ⊎ (k ≡ b)) b last before (with_resize b (length o.slots - 1) index filled_one before) (inl (inr refl)) refl
              (set_but types (λ k. bare k ⊎ (k ≡ b)) b filled_one later.1 before (inl (inr refl)) refl took.buffers));
        }

      shut : IsShut types bare b (length o.slots) (closed_up b index (length o.slots) (map words_in (take index o.slots)) (taken_slots p (drop (index + 1) o.slots) (ended p gone c)))
      shut = go (at later.1.objects b) refl
        where
          go : (x : Option Object) → at later.1.objects b ≡ x → IsShut types bare b (length o.slots) (resized_at b (length o.slots - 1) index (filled_if x b rows later.1))
          go None e =
              subst (λ (x : Option Object). IsShut types bare b (length o.slots) (resized_if x b (length o.slots - 1) index later.1)) (sym e)
              (record { count = λ q is. absurd (none_some (sym e ∙ is)); buffers = have_in types bare b later.1 (λ q is. absurd (none_some (sym e ∙ is))) took.buffers })
          go (Some q) e =
              subst (λ (x : Option Object). IsShut types bare b (length o.slots) (resized_if x b (length o.slots - 1) index (with_object b (record q { slots = filled_slots q.slots rows }) later.1))) (sym (at-set_same later.1.objects b b (record q { slots = filled_slots q.slots rows }) refl))
              (closed q (was q e))

    pub erased_shut : IsShut types bare b (length o.slots) (erased p b index c)
    erased_shut =
        subst (λ (ss : List Slot). IsShut types bare b (length o.slots) (closed_up b index (length ss) (map words_in (take index ss)) (taken_slots p (drop (index + 1) ss) (ended p (words_if (slice_get ss index)) c)))) (sym (ap slots_if there))
        (shut (words_if (slice_get o.slots index)))
