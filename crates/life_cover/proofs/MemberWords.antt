-- A pointer that is a member of a local's object holds what it held, where the words of no such pointer are touched.
use Rattle.std.proofs.Common.{◌≡◌, ℕ, zero, suc, ◌+◌, ◌<◌, true, false, List, [], ◌∷◌, Option, Some, None, refl, sym, ap, subst, ◌∙◌, arith}
use Rattle.std.specs.Prelude.{drop, slice_get, slice_index}
use Rattle.life_types.specs.Trees.{IsOrdered}
use Rattle.life_types.specs.TypeTests.{is_pointer}
use Rattle.life_types.specs.Types.{HasEachOnce, Types}
use Rattle.life_types.specs.declared.ty.TyId.{TyId}
use Rattle.life_core.specs.Function.{Function}
use Rattle.life_core.specs.Operands.{Location}
use Rattle.life_proper.specs.Placed.{type_in}
use Rattle.life_store.specs.Cells.{at}
use Rattle.life_store.specs.Content.{Slot, Object, Content, word_at, word_in}
use Rattle.life_store.specs.Effects.{cell, put_content}
use Rattle.life_store.specs.Held.{pointer_in, pointer_of, slot_words, slots_if, words_at, words_if}
use Rattle.life_store.specs.Kinds.{Pointing, is_value, kind_in}
use Rattle.life_store.specs.Parts.{Parts, Single, Raw, Iterates, Views, Text, Vector, Unique, Member, NoMember, local_type, location_type, parts_at, type_within, word_within}
use Rattle.life_store.specs.Places.{location_cell, member_cell}
use Rattle.life_store.specs.State.{Cell, Empty, Named, Number, Pointer, Points, State}
use Rattle.life_store.proofs.CellLemmas.{none_some}
use Rattle.life_forest.specs.Forest.{Beneath, Foot, Touches}
use Rattle.life_forest.specs.FrameTypes.{IsVariable}
use Rattle.life_forest.specs.Kinds.{kinds_of}
use Rattle.life_forest.specs.Typed.{IsStore}
use Rattle.life_forest.proofs.Members.{path_within}
use Rattle.life_forest.proofs.SeenTypes.{pointer_parts, pointer_solid}
use Rattle.life_forest.proofs.Shaped.{IsShaped}
use Rattle.life_forest.proofs.StandingPointers.{IsPointer, pointer_width}
use Rattle.life_forest.proofs.TypedSteps.{location_of}
use Rattle.life_cover.proofs.Beside.{Keeps, kept_object}
use Rattle.life_cover.proofs.BufferWords.{drop_index, take_index}

-- ---- five words

word_of : (x : Option Slot) (u : ℕ) → slice_index (words_if x) u ≡ word_in x u
word_of None zero = refl
word_of None (suc u) = refl
word_of (Some s) u = refl

read_at : (c : Content) (n w j v : ℕ) (o : Object) → at c.objects n ≡ Some o → j < 5 → v ≡ w + j → slice_index (words_at c n 0 w 5) j ≡ word_at o 0 v
read_at c n w j v o there lt e =
    take_index (drop w (slot_words c n 0)) 5 j lt ∙ drop_index (slot_words c n 0) w j v e
    ∙ ap (λ (x : Option Object). slice_index (words_if (slice_get (slots_if x) 0)) v) there
    ∙ word_of (slice_get o.slots 0) v

pub five_same : (xs ys : List ℕ) → ((j : ℕ) → j < 5 → slice_index xs j ≡ slice_index ys j) → pointer_in xs ≡ pointer_in ys
five_same xs ys same =
    ap (λ a. pointer_of a (slice_index xs 1) (slice_index xs 2) (slice_index xs 3) (slice_index xs 4)) (same 0 (omega arith))
    ∙ ap (λ a. pointer_of (slice_index ys 0) a (slice_index xs 2) (slice_index xs 3) (slice_index xs 4)) (same 1 (omega arith))
    ∙ ap (λ a. pointer_of (slice_index ys 0) (slice_index ys 1) a (slice_index xs 3) (slice_index xs 4)) (same 2 (omega arith))
    ∙ ap (λ a. pointer_of (slice_index ys 0) (slice_index ys 1) (slice_index ys 2) a (slice_index xs 4)) (same 3 (omega arith))
    ∙ ap (λ a. pointer_of (slice_index ys 0) (slice_index ys 1) (slice_index ys 2) (slice_index ys 3) a) (same 4 (omega arith))

pub pointing : (p : Parts) → IsPointer p → (j : ℕ) → kind_in p j ≡ Pointing j
pointing Raw is j = refl
pointing Iterates is j = refl
pointing Views is j = refl
pointing Single is j = absurd is
pointing (Text id) is j = absurd is
pointing (Vector id element) is j = absurd is
pointing (Unique id target) is j = absurd is
pointing (Member first others) is j = absurd is
pointing NoMember is j = absurd is

module _ (types : Types) (ordered : IsOrdered types) where
  -- the words of a pointer at the end of a path
  pub path_words : (id part : TyId) (ms : List ℕ) → type_within types (Some id) ms ≡ Some part → IsPointer (parts_at types part) → (j v : ℕ) → j < 5 → v ≡ word_within types (Some id) ms + j → kind_in (parts_at types id) v ≡ Pointing j
  path_words id part ms typed points j v lt e =
      let wide = pointer_width (parts_at types part) points in
      ap (kind_in (parts_at types id)) e ∙ (path_within types ordered id part ms typed).words j (omega (arith, lt, wide)) ∙ pointing (parts_at types part) points j

-- ---- what is touched

-- neither the local's object nor a word of the pointer in it
pub record SparesAt (types : Types) (f : Function) (st : State) (foot : Foot) (l : Location) : Type 0 where
  pub apart : (n : ℕ) → cell st l.local ≡ Some (Named n) → Beneath (kinds_of types) st.world.content foot n → ⊥
  pub words : (n j : ℕ) → cell st l.local ≡ Some (Named n) → j < 5 → foot.part n (word_within types (local_type types f l.local) l.members + j) ≡ false

-- no object of a local, and no word of a pointer in one
pub record Spares (types : Types) (f : Function) (st : State) (foot : Foot) : Type 0 where
  pub apart : (x n : ℕ) → cell st x ≡ Some (Named n) → Beneath (kinds_of types) st.world.content foot n → ⊥
  pub words : (x n : ℕ) (id : TyId) → cell st x ≡ Some (Named n) → local_type types f x ≡ Some id → (u j : ℕ) → kind_in (parts_at types id) u ≡ Pointing j → foot.part n u ≡ false

module _ (types : Types) (ordered : IsOrdered types) (once : HasEachOnce types) (f : Function) (shaped : IsShaped types f) where
  -- what the type of a pointer's location is
  pub record IsPointing (l : Location) : Type 0 where
    pub part : TyId
    pub typed : location_type types f l ≡ Some part
    pub points : IsPointer (parts_at types part)

  pub is_pointing : (l : Location) → is_pointer (type_in types f l) ≡ true → IsPointing l
  is_pointing l pointer =
      let of = location_of types ordered once 0 [] f shaped l (type_in types f l) refl (pointer_solid (type_in types f l) pointer) in
      record { part = of.number; typed = of.is; points = pointer_parts types ordered of.number (type_in types f l) of.there pointer }

  module _ (st : State) (variables : (x n : ℕ) → cell st x ≡ Some (Named n) → IsVariable st.world.content (local_type types f x) n) (l : Location) (pointer : is_pointer (type_in types f l) ≡ true) where
    module _ (n : ℕ) (named : cell st l.local ≡ Some (Named n)) where
      abbrev v : IsVariable st.world.content (local_type types f l.local) n
      v = variables l.local n named

      abbrev w : ℕ
      w = word_within types (Some (variables l.local n named).object.ty) l.members

      word_is : word_within types (local_type types f l.local) l.members ≡ w
      word_is = ap (λ (id : Option TyId). word_within types id l.members) v.type

      pub kinds_at : (j : ℕ) → j < 5 → kind_in (parts_at types v.object.ty) (w + j) ≡ Pointing j
      kinds_at j lt =
          let is = is_pointing l pointer in
          path_words types ordered v.object.ty is.part l.members (subst (λ (id : Option TyId). type_within types id l.members ≡ Some is.part) v.type is.typed) is.points j (w + j) lt refl

    pub spares_at : (foot : Foot) → Spares types f st foot → SparesAt types f st foot l
    spares_at foot spares = record {
      apart = λ n named low. spares.apart l.local n named low;
      words = λ n j named lt. spares.words l.local n (v n named).object.ty named (v n named).type (word_within types (local_type types f l.local) l.members + j) j
          (ap (λ u. kind_in (parts_at types (v n named).object.ty) (u + j)) (word_is n named) ∙ kinds_at n named j lt);
    }

    -- so what a location holds it held before
    module _ (hand : ℕ → ℕ) (store : IsStore types hand st.world.content) (foot : Foot) (spares : SparesAt types f st foot l) (d : Content) (touch : Touches (kinds_of types) foot st.world.content d) where
      words_kept : (n : ℕ) → cell st l.local ≡ Some (Named n) → pointer_in (words_at d n 0 (word_within types (local_type types f l.local) l.members) 5) ≡ pointer_in (words_at st.world.content n 0 (word_within types (local_type types f l.local) l.members) 5)
      words_kept n named =
          let u = w n named in
          ap (λ z. pointer_in (words_at d n 0 z 5)) (word_is n named)
          ∙ five_same (words_at d n 0 u 5) (words_at st.world.content n 0 u 5)
          (λ j lt. read_at d n u j (u + j) kept.object kept.there lt refl
          ∙ kept.words 0 (u + j) (ap is_value (kinds_at n named j lt)) (ap (λ z. foot.part n (z + j)) (sym (word_is n named)) ∙ spares.words n j named lt)
          ∙ sym (read_at st.world.content n u j (u + j) (v n named).object (v n named).there lt refl))
          ∙ ap (λ z. pointer_in (words_at st.world.content n 0 z 5)) (sym (word_is n named))
        where
          kept : Keeps (kinds_of types) (foot.part n) d n (v n named).object
          kept = kept_object (kinds_of types) foot st.world.content d n (v n named).object touch (store.forest.births n (v n named).object (v n named).there) (spares.apart n named) (v n named).there

      pub held_before : (p : Pointer) → location_cell types f l (put_content d st) ≡ Some (Points p) → location_cell types f l st ≡ Some (Points p)
      held_before p held = go l.members refl (cell st l.local) refl held
        where
          go : (ms : List ℕ) → l.members ≡ ms → (x : Option Cell) → cell st l.local ≡ x → member_cell types f l.local ms x d ≡ Some (Points p) → member_cell types f l.local ms x st.world.content ≡ Some (Points p)
          go [] is x e h = h
          go (m ∷ ms) is (Some (Named n)) e h =
              let same = subst (λ (ks : List ℕ). pointer_in (words_at d n 0 (word_within types (local_type types f l.local) ks) 5) ≡ pointer_in (words_at st.world.content n 0 (word_within types (local_type types f l.local) ks) 5)) is (words_kept n e) in
              ap (λ (q : Pointer). Some (Points q)) (sym same) ∙ h
          go (m ∷ ms) is None e h = absurd (none_some h)
          go (m ∷ ms) is (Some Empty) e h = absurd (none_some h)
          go (m ∷ ms) is (Some (Number z)) e h = absurd (none_some h)
          go (m ∷ ms) is (Some (Points q)) e h = absurd (none_some h)
