-- What a value has that lies in an object with its buffers: each vector and each string in it has one, those in the elements of its vectors included, so it can be copied.
use Rattle.std.proofs.Common.{◌≡◌, ℕ, zero, suc, ◌+◌, ◌<◌, true, List, [], ◌∷◌, length, Option, Some, None, refl, sym, ap, subst, ◌∙◌, arith}
use Rattle.std.specs.Prelude.{drop, slice_get, slice_index, sum_by, take, unwrap_or}
use Rattle.std.proofs.lemmas.List.Sums.{sum_by-cons}
use Rattle.life_types.specs.Trees.{IsOrdered, members_at}
use Rattle.life_types.specs.Types.{Types}
use Rattle.life_types.specs.declared.ty.Ty.{Ty}
use Rattle.life_types.specs.declared.ty.Ty.TheVariants as ty
use Rattle.life_types.specs.declared.ty.TyId.{TyId}
use Rattle.life_store.specs.Cells.{at}
use Rattle.life_store.specs.Content.{Slot, Object, Content, word_in}
use Rattle.life_store.specs.Edits.{owned_at}
use Rattle.life_store.specs.Held.{owned_in, slots_at, slots_if}
use Rattle.life_store.specs.Parts.{Parts, Text, Vector, characters_type, members_if, parts_at, parts_of, struct_of, width, width_at}
use Rattle.life_store.proofs.CellLemmas.{none_some, some_same}
use Rattle.life_forest.specs.Forest.{Beneath}
use Rattle.life_forest.specs.Kinds.{kinds_of}
use Rattle.life_forest.specs.Typed.{IsStore}
use Rattle.life_forest.specs.Values.{AllWide}
use Rattle.life_forest.proofs.Laying.{parts_made}
use Rattle.life_cover.specs.Buffered.{AreBut, is_buffer_at}
use Rattle.life_cover.specs.Regions.{HasPart, Region, foot_of, itself, member_part}
use Rattle.life_cover.proofs.BufferWords.{drop_index, part_words, take_index}
use Rattle.life_cover.proofs.Buffers.{buffer, buffer_type, low}
use Rattle.life_cover.proofs.Copies.{IsFull, slot_within}
use Rattle.life_cover.proofs.ObjectParts.{all_below, part_within}
use Rattle.life_cover.proofs.OwnersStay.{owned_is}

slot_wide : (w j : ℕ) (ss : List Slot) (t : Slot) → AllWide w ss → slice_get ss j ≡ Some t → length t.words ≡ w
slot_wide w j [] t h e = absurd (none_some e)
slot_wide w zero (x ∷ xs) t h e = subst (λ (y : Slot). length y.words ≡ w) (some_same e) h.0
slot_wide w (suc j) (x ∷ xs) t h e = slot_wide w j xs t h.1 e

module _ (types : Types) (ordered : IsOrdered types) (hand : ℕ → ℕ) (c : Content) (store : IsStore types hand c) (bare : ℕ → Type 0) (buffered : AreBut types bare c)
    (clear : (a : Region) (b : ℕ) → Beneath (kinds_of types) c (foot_of types a) b → bare b → ⊥) where
  -- the words are those of a slot, from one on
  abbrev IsFrom : List ℕ → (w count : ℕ) → List ℕ → Type 0
  IsFrom us w count ws = (u : ℕ) → u < count → slice_index ws u ≡ slice_index us (w + u)

  abbrev IsFullFrom : ℕ → Type 0
  IsFullFrom bound = (id : TyId) → id.0 < bound → (n i w : ℕ) (o : Object) (t : Slot) → (bare n → ⊥) → at c.objects n ≡ Some o → slice_get o.slots i ≡ Some t → HasPart types o.ty w id → (ws : List ℕ) → IsFrom t.words w (width_at types id) ws → IsFull c (parts_at types id) ws

  module _ (bound : ℕ) (each : IsFullFrom bound) (n i : ℕ) (o : Object) (t : Slot) (free : bare n → ⊥) (there : at c.objects n ≡ Some o) (slot : slice_get o.slots i ≡ Some t) where
    -- what a value's first word owns
    first_buffer : (id : TyId) (w : ℕ) → HasPart types o.ty w id → is_buffer_at (parts_at types id) 0 ≡ true → 0 < width_at types id → (ws : List ℕ) → IsFrom t.words w (width_at types id) ws → (b : ℕ) × (owned_in (slice_index ws 0) ≡ Some b)
    first_buffer id w has is some ws from =
        let b = buffered n i o t free there slot (w + 0) (part_words types ordered o.ty w id has 0 some ∙ is) in
        (b.0, ap owned_in (from 0 some) ∙ b.1)

    behind : (v x y : ℕ) → (v + x) + y ≡ v + (x + y)
    behind v x y = omega arith

    start : (v : ℕ) → v ≡ 0 + v
    start v = omega arith

    nothing : (v : ℕ) → v + 0 ≡ v
    nothing v = omega arith

    -- the members of a struct
    members_filled : (ids : List TyId) (v : ℕ) → ((m : ℕ) (x : TyId) → slice_get ids m ≡ Some x → (x.0 < bound) × HasPart types o.ty (v + sum_by (width_at types) (take m ids)) x) → (us : List ℕ) → IsFrom t.words v (width (struct_of (parts_at types) ids)) us
        → IsFull c (struct_of (parts_at types) ids) us
    members_filled [] v placed us from = tt
    members_filled (x ∷ xs) v placed us from = (
      each x (placed 0 x refl).0 n i v o t free there slot (subst (λ w. HasPart types o.ty w x) (nothing v) (placed 0 x refl).1) (take (width_at types x) us) (λ u lt. take_index us (width_at types x) u lt ∙ from u (omega (arith, lt))),
      members_filled xs (v + width_at types x)
          (λ m y e. (
            (placed (suc m) y e).0,
            subst (λ w. HasPart types o.ty w y) (ap (λ s. v + s) (sum_by-cons (width_at types) x (take m xs)) ∙ sym (behind v (width_at types x) (sum_by (width_at types) (take m xs)))) (placed (suc m) y e).1,
          ))
          (drop (width_at types x) us) (λ u lt. drop_index us (width_at types x) u (width_at types x + u) refl ∙ from (width_at types x + u) (omega (arith, lt)) ∙ ap (slice_index t.words) (sym (behind v (width_at types x) u))),
    )

    of_type : (id : TyId) → id.0 < suc bound → (w : ℕ) → HasPart types o.ty w id → (ws : List ℕ) → IsFrom t.words w (width_at types id) ws → (x : Option Ty) → slice_get types.types id.0 ≡ x → IsFull c (parts_of types (parts_at types) x) ws
    of_type id less w has ws from (Some ty.Text) e =
        let parts : parts_at types id ≡ Text (characters_type types) = parts_made types ordered id ∙ ap (parts_of types (parts_at types)) e in
        first_buffer id w has (ap (λ (p : Parts). is_buffer_at p 0) parts) (let one : width_at types id ≡ 1 = ap width parts in omega (arith, one)) ws from
    of_type id less w has ws from (Some (ty.Vector element)) e = (b.0, b.1, store.forest.births b.0 (x b.0 owned).0 (x b.0 owned).1, slots b.0 owned)
      where
        parts : parts_at types id ≡ Vector element (parts_at types element)
        parts = parts_made types ordered id ∙ ap (parts_of types (parts_at types)) e

        one : width_at types id ≡ 1
        one = ap width parts

        b : (m : ℕ) × (owned_in (slice_index ws 0) ≡ Some m)
        b = first_buffer id w has (ap (λ (p : Parts). is_buffer_at p 0) parts) (omega (arith, one)) ws from

        owned : owned_at c (record { object = n; index = i; word = w }) ≡ Some b.0
        owned =
            owned_is c n i w o there ∙ ap (λ (y : Option Slot). owned_in (word_in y w)) slot ∙ ap (λ v. owned_in (slice_index t.words v)) (sym (nothing w)) ∙ ap owned_in (sym (from 0 (omega (arith, one)))) ∙ b.1

        lt : i < length o.slots
        lt = slot_within o.slots i t slot

        x : (m : ℕ) → owned_at c (record { object = n; index = i; word = w }) ≡ Some m → (y : Object) × (at c.objects m ≡ Some y)
        x m own = buffer types ordered hand c store n i w id o there (part_within types ordered o.ty w id has) lt element (parts_at types element) parts m own

        slots : (m : ℕ) → owned_at c (record { object = n; index = i; word = w }) ≡ Some m → (j : ℕ) (u : Slot) → slice_get (slots_at c m) j ≡ Some u → (length u.words ≡ width (parts_at types element)) × IsFull c (parts_at types element) u.words
        slots m own j u at_j = (
          slot_wide (width_at types element) j held.0.slots u (subst (λ v. AllWide v held.0.slots) ((store.fit m held.0 held.1).width ∙ ap (width_at types) typed) (store.fit m held.0 held.1).slots) here,
          each element below m j 0 held.0 u (clear (record { object = n; word = w; ty = id }) m (low types ordered hand c store n i w id o there (part_within types ordered o.ty w id has) lt element (parts_at types element) parts m own)) held.1 here
              (itself 0 element refl typed) u.words (λ v lt. ap (slice_index u.words) (start v)),
        )
          where
            held : (y : Object) × (at c.objects m ≡ Some y)
            held = buffer types ordered hand c store n i w id o there (part_within types ordered o.ty w id has) lt element (parts_at types element) parts m own

            typed : held.0.ty ≡ element
            typed = buffer_type types ordered hand c store n i w id o there (part_within types ordered o.ty w id has) lt element (parts_at types element) parts m own

            here : slice_get held.0.slots j ≡ Some u
            here = sym (ap (λ (y : Option Object). slice_get (slots_if y) j) held.1) ∙ at_j

            below : element.0 < bound
            below = let part = ordered.parts id.0 (ty.Vector element) e in omega (arith, part, less)
    of_type id less w has ws from (Some (ty.Struct number)) e =
        members_filled (members_at types number) w
        (λ m y there_m.
        let h = ordered.parts id.0 (ty.Struct number) e in (
          (let l = all_below types id.0 h.members m y h.below (sym (ap (λ (q : List TyId). slice_get q m) (members_are number h.members h.there)) ∙ there_m) in omega (arith, l, less)),
          member_part w (w + sum_by (width_at types) (take m (members_at types number))) m id y has (ap (λ (q : Option Ty). slice_get (members_if types q) m) e ∙ there_m)
              (ap (λ (q : Option Ty). w + sum_by (width_at types) (take m (members_if types q))) (sym e)),
        )) ws (λ u lt. from u (let made : width_at types id ≡ width (struct_of (parts_at types) (members_at types number)) = ap width (parts_made types ordered id ∙ ap (parts_of types (parts_at types)) e) in omega (arith, lt, made)))
      where
        members_are : (k : ℕ) (ids : List TyId) → slice_get types.structs k ≡ Some ids → members_at types k ≡ ids
        members_are k ids h = ap (λ (q : Option (List TyId)). unwrap_or q []) h
    of_type id less w has ws from None e = tt
    of_type id less w has ws from (Some _) e = tt

  filled_below : (bound : ℕ) → IsFullFrom bound
  filled_below zero id less n i w o t free there slot has ws from = absurd (omega (arith, less))
  filled_below (suc bound) id less n i w o t free there slot has ws from =
      subst (λ (p : Parts). IsFull c p ws) (sym (parts_made types ordered id)) (of_type bound (filled_below bound) n i o t free there slot id less w has ws from (slice_get types.types id.0) refl)

  pub filled : (id : TyId) (n i w : ℕ) (o : Object) (t : Slot) → (bare n → ⊥) → at c.objects n ≡ Some o → slice_get o.slots i ≡ Some t → HasPart types o.ty w id → (ws : List ℕ) → IsFrom t.words w (width_at types id) ws → IsFull c (parts_at types id) ws
  filled id = filled_below (suc id.0) id (omega arith)
