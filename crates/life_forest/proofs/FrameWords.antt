-- A frame has a store behind numbers and pointers: in cells, in the words of objects and in members.
use Rattle.std.proofs.Common.{◌≡◌, ℕ, ◌+◌, ◌<◌, List, [], ◌∷◌, length, Option, Some, refl, sym, ap, subst, ◌∙◌, arith}
use Rattle.std.specs.Prelude.{ℤ, slice_set}
use Rattle.life_types.specs.Trees.{IsOrdered}
use Rattle.life_types.specs.Types.{Types}
use Rattle.life_types.specs.declared.ty.TyId.{TyId}
use Rattle.life_core.specs.Function.{Function}
use Rattle.life_store.specs.Cells.{at}
use Rattle.life_store.specs.Content.{Object}
use Rattle.life_store.specs.Doing.{saved, word_of_number}
use Rattle.life_store.specs.Effects.{cell, put_cell, put_content}
use Rattle.life_store.specs.Held.{pointer_words, wrote_if}
use Rattle.life_store.specs.Parts.{local_type, parts_at, width_at, word_within}
use Rattle.life_store.specs.Places.{member_pointed, wrote_spot}
use Rattle.life_store.specs.State.{Cell, Named, Pointer, Null, Wild, To, Static, State}
use Rattle.life_forest.specs.Frames.{HasStore, OnNext, named_in}
use Rattle.life_store.specs.Kinds.{Owner, kind_in}
use Rattle.life_forest.specs.Owned.{times}
use Rattle.life_forest.specs.Typed.{IsStore}
use Rattle.life_forest.specs.Values.{owned_of}
use Rattle.life_forest.specs.Within.{LiesWithin}
use Rattle.life_store.proofs.MapLemmas.{one_or_apart}
use Rattle.life_forest.proofs.Frames.{less_in_hand, named_put}
use Rattle.life_forest.proofs.Stores.{word_owned, wrote_store}

-- no word of the part is an owner
abbrev pub IsPlain : Types → TyId → Type 0
IsPlain types part = (u : ℕ) → kind_in (parts_at types part) u ≡ Owner → ⊥

module _ (types : Types) (ordered : IsOrdered types) (rest : ℕ → ℕ) (st : State) (store : HasStore types rest st) where
  abbrev has : ℕ → ℕ
  has k = times (named_in st.cells) k + rest k

  -- ---- a cell that names no object is given what names none

  pub cell_keeps : (x : ℕ) (old v : Cell) → cell st x ≡ Some old → ((k : ℕ) → times (named_in (v ∷ [])) k ≡ 0) → HasStore types rest (put_cell x v st)
  cell_keeps x old v there none =
      less_in_hand types has (λ k. times (named_in (slice_set st.cells x v)) k + rest k) st.world.content
      (λ k. let e = named_put st.cells x old v k there in let z = none k in omega arith) store

  -- ---- words without owners are written

  pub plain_keeps : (n i w : ℕ) (part : TyId) (o : Object) → at st.world.content.objects n ≡ Some o → LiesWithin types o.ty w part → i < length o.slots → IsPlain types part → (vs : List ℕ) → length vs ≡ width_at types part
      → HasStore types rest (put_content (wrote_spot (record { object = n; index = i; word = w }) vs st.world.content) st)
  plain_keeps n i w part o there within lt plain vs wide =
      wrote_store types ordered has has st.world.content store n i w part o there within lt vs wide (λ u m q k e is. absurd (plain u k))
      (λ k. let z = none k in omega arith)
    where
      none : (k : ℕ) → times (owned_of (parts_at types part) vs) k ≡ 0
      none k = one_or_apart (times (owned_of (parts_at types part) vs) k) 0 (λ z. z) (λ nz. let r = word_owned (parts_at types part) vs k (omega arith) in absurd (plain r.0 r.1))

  -- a number
  pub save_keeps : (z : ℤ) (n i w : ℕ) (part : TyId) (o : Object) → at st.world.content.objects n ≡ Some o → LiesWithin types o.ty w part → i < length o.slots → IsPlain types part → width_at types part ≡ 1 → HasStore types rest (saved z n i w o st)
  save_keeps z n i w part o there within lt plain one =
      subst (λ d. IsStore types has d) (ap (λ (x : Option Object). wrote_if x n i w (word_of_number z ∷ []) st.world.content) there)
      (plain_keeps n i w part o there within lt plain (word_of_number z ∷ []) (sym one))

  -- a pointer, in a member of a local's object
  pub member_keeps : (f : Function) (x m : ℕ) (ms : List ℕ) (p : Pointer) (n : ℕ) (part : TyId) (o : Object) → at st.world.content.objects n ≡ Some o → LiesWithin types o.ty (word_within types (local_type types f x) (m ∷ ms)) part → 0 < length o.slots
      → IsPlain types part → width_at types part ≡ 5 → OnNext (member_pointed types f x (m ∷ ms) (Some (Named n)) p st) (HasStore types rest)
  member_keeps f x m ms p n part o there within lt plain five =
      plain_keeps n 0 (word_within types (local_type types f x) (m ∷ ms)) part o there within lt plain (pointer_words p) (pointer_length p ∙ sym five)
    where
      pointer_length : (v : Pointer) → length (pointer_words v) ≡ 5
      pointer_length Null = refl
      pointer_length Wild = refl
      pointer_length (To t) = refl
      pointer_length (Static s) = refl
