-- What is so of an owner that stands in a store: its buffer lives, is of the type that its parts name, and has so many words.
use Rattle.std.proofs.Common.{◌≡◌, ℕ, zero, suc, ◌+◌, ◌*◌, ◌<◌, ◌≤◌, [], length, take, drop, Option, Some, None, refl, sym, ap, subst, ◌∙◌, arith, mul_comm, mul-le-mul_right}
use Rattle.std.proofs.lemmas.List.{get_or-take, get_or-drop}
use Rattle.std.specs.Prelude.{slice_get, slice_index}
use Rattle.life_types.specs.Trees.{IsOrdered}
use Rattle.life_types.specs.Types.{Types}
use Rattle.life_types.specs.declared.ty.TyId.{TyId}
use Rattle.life_store.specs.Cells.{at}
use Rattle.life_store.specs.Content.{Slot, Object, Content, word_at, word_in}
use Rattle.life_store.specs.Edits.{owned_at}
use Rattle.life_store.specs.Held.{owned_in, slots_if, words_at, words_if}
use Rattle.life_store.specs.Kinds.{Owner, kind_in}
use Rattle.life_store.specs.Parts.{Parts, Single, Text, Unique, Vector, parts_at, width, width_at}
use Rattle.life_store.specs.References.{Rows}
use Rattle.life_store.specs.declared.object.ObjRef.{ObjRef}
use Rattle.life_store.proofs.CellLemmas.{none_some, some_same}
use Rattle.life_forest.specs.Kinds.{kinds_of as forest_kinds, rank_of}
use Rattle.life_forest.specs.Values.{AllWide, IsOf, Known}
use Rattle.life_forest.proofs.Below.{lives as lives_in}
use Rattle.life_forest.proofs.FromTypes.{object_is_known}
use Rattle.life_forest.proofs.Laying.{IsMade, made_at}
use Rattle.life_forest.proofs.OwnedAims.{OwnsType, owned_object}
use Rattle.life_forest.proofs.Placed.{place_owns}
use Rattle.life_forest.proofs.Stores.{lesser}
use Rattle.life_seen.specs.Housed.{IsHoused, IsRef}
use Rattle.life_seen.specs.Kinds.{kinds_of}
use Rattle.life_seen.specs.Named.{names_of}
use Rattle.life_seen.proofs.Contents.{seen_none}
use Rattle.life_seen.proofs.References.{lives_placed}
use Rattle.life_pointers.specs.Owned.{spot_seen}
use Rattle.life_pointers.specs.declared.owned.Spot.{Spot}
use Rattle.life_values.specs.Ending.{AreSized}
use Rattle.life_cells.specs.Fits.{meant}
use Rattle.life_changes.specs.Owners.{StandsAt}
use Rattle.life_changes.proofs.Bounds.{cost_within}
use Rattle.life_changes.proofs.Inside.{owner_inside}

-- ---- a word as it is read

slot_first : (x : Option Slot) (u : ℕ) → slice_index (take 1 (drop u (words_if x))) 0 ≡ word_in x u
slot_first None u = let z : u + 0 ≡ u = omega arith in get_or-take 1 (drop u []) 0 0 (omega arith) ∙ get_or-drop u [] 0 0 ∙ ap (slice_index []) z
slot_first (Some s) u = let z : u + 0 ≡ u = omega arith in get_or-take 1 (drop u s.words) 0 0 (omega arith) ∙ get_or-drop u s.words 0 0 ∙ ap (slice_index s.words) z

pub first_word : (m : Content) (n i u : ℕ) (o : Object) → at m.objects n ≡ Some o → slice_index (words_at m n i u 1) 0 ≡ word_at o i u
first_word m n i u o there = ap (λ (x : Option Object). slice_index (take 1 (drop u (words_if (slice_get (slots_if x) i)))) 0) there ∙ slot_first (slice_get o.slots i) u

pub owned_word : (w n : ℕ) → owned_in w ≡ Some n → w ≡ suc n
owned_word zero n e = absurd (none_some e)
owned_word (suc k) n e = ap suc (some_same e)

-- what lives stands in the row of its reference
pub ref_placed : (types : Types) (c : Content) (rows : Rows) → IsHoused (kinds_of types) c rows → (r : ObjRef) → IsRef c rows r → (o : Object) → at (meant types c rows).objects r.birth ≡ Some o → at rows r.birth ≡ Some r.row
ref_placed types c rows housed r referred o there = go (at c.objects r.birth) refl
  where
    go : (x : Option Object) → at c.objects r.birth ≡ x → at rows r.birth ≡ Some r.row
    go None e = absurd (none_some (sym (seen_none (kinds_of types) (names_of c rows) c r.birth e) ∙ there))
    go (Some q) e = let p = lives_placed (kinds_of types) c rows housed r.birth q e in p.1 ∙ ap Some (referred.row p.0 p.1)

-- ---- what owns, by its parts

-- .. an object of the type, with these parts
pub record OwnsParts (types : Types) (ty id : TyId) (element : Parts) : Type 0 where
  pub owns : OwnsType (parts_at types ty) id
  pub made : parts_at types id ≡ element
  pub lower : rank_of types id < rank_of types ty

module _ (types : Types) (ordered : IsOrdered types) (ty id : TyId) where
  abbrev Made : Parts → Type 0
  Made = IsMade types ordered (rank_of types ty)

  pub text_parts : parts_at types ty ≡ Text id → OwnsParts types ty id Single
  text_parts is =
      let made = subst Made is (made_at types ordered ty) in
      record { owns = subst (λ p. OwnsType p id) (sym is) (record { one = refl; owner = refl; owned = refl }); made = made.1; lower = made.0 }

  pub vector_parts : (element : Parts) → parts_at types ty ≡ Vector id element → OwnsParts types ty id element
  vector_parts element is =
      let made = subst Made is (made_at types ordered ty) in
      record { owns = subst (λ p. OwnsType p id) (sym is) (record { one = refl; owner = refl; owned = refl }); made = made.1; lower = made.0 }

  pub unique_parts : (target : Parts) → parts_at types ty ≡ Unique id target → OwnsParts types ty id target
  unique_parts target is =
      let made = subst Made is (made_at types ordered ty) in
      record { owns = subst (λ p. OwnsType p id) (sym is) (record { one = refl; owner = refl; owned = refl }); made = made.1; lower = made.0 }

-- ---- an owner

module _ (types : Types) (limit depth : ℕ) (hand : ℕ → ℕ) (ty : TyId) (spot : Spot) (c : Content) (rows : Rows) (here : StandsAt types limit depth hand ty spot c rows) where
  pub are_sized : AreSized (kinds_of types) (meant types c rows)
  are_sized n o e =
      let fit = here.store.fit n o e in
      record { wide = fit.slots; owners = λ u own. subst (λ w. u < w) (sym fit.width) (owner_inside (parts_at types o.ty) u own) }

  pub is_long : AllWide here.object.width here.object.slots
  is_long = (here.store.fit spot.object.birth here.object here.place.there).slots

  module _ (id : TyId) (element : Parts) (owns : OwnsParts types ty id element) where
    pub owns_there : kinds_of types here.object.ty spot.word ≡ Owner
    owns_there =
        let z : spot.word + 0 ≡ spot.word = omega arith in
        let one = owns.owns.one in
        ap (kind_in (parts_at types here.object.ty)) (sym z) ∙ here.place.within.words 0 (omega (arith, one)) ∙ owns.owns.owner

    pub word_inside : spot.word < here.object.width
    word_inside =
        let f = here.place.within.fits in
        let w : here.object.width ≡ width_at types here.object.ty = (here.store.fit spot.object.birth here.object here.place.there).width in
        let one = owns.owns.one in
        omega (arith, f, w, one)

    -- its type is at most that of the object
    pub below_object : rank_of types id < rank_of types here.object.ty
    below_object =
        lesser types here.served.ordered (rank_of types here.object.ty) (parts_at types here.object.ty) (made_at types here.served.ordered here.object.ty) (spot.word + 0) id
        (here.place.within.words 0 (let one = owns.owns.one in omega (arith, one)) ∙ owns.owns.owner)
        (here.place.within.owners 0 (let one = owns.owns.one in omega (arith, one)) ∙ owns.owns.owned)

-- ---- .. and its buffer

module _ (types : Types) (limit depth : ℕ) (hand : ℕ → ℕ) (ty : TyId) (spot : Spot) (c : Content) (rows : Rows) (here : StandsAt types limit depth hand ty spot c rows) (id : TyId) (element : Parts) (owns : OwnsParts types ty id element) (b : ℕ) (owned : owned_at (meant types c rows) (spot_seen spot) ≡ Some b) where
  pub word_is : word_at here.object spot.index spot.word ≡ suc b
  word_is =
      sym (first_word (meant types c rows) spot.object.birth spot.index spot.word here.object here.place.there)
      ∙ owned_word (slice_index (words_at (meant types c rows) spot.object.birth spot.index spot.word 1) 0) b owned

  -- it lives
  pub lives : (x : Object) × (at (meant types c rows).objects b ≡ Some x)
  lives =
      let held = place_owns types here.served.ordered hand (meant types c rows) here.store ty spot.object.birth spot.index spot.word here.object here.place owns.owns.one owns.owns.owner b owned in
      let h = here.store.forest.held b in
      lives_in (forest_kinds types) (meant types c rows) b (omega (arith, held, h))

  abbrev pub buffer : Object
  buffer = lives.0

  -- of the type
  pub type_is : buffer.ty ≡ id
  type_is = owned_object types here.served.ordered hand (meant types c rows) here.store ty spot.object.birth spot.index spot.word here.object here.place id owns.owns b owned buffer lives.1

  pub parts_are : parts_at types buffer.ty ≡ element
  parts_are = ap (parts_at types) type_is ∙ owns.made

  pub known : IsOf (forest_kinds types) (parts_at types buffer.ty) buffer (Known (forest_kinds types) (meant types c rows) (parts_at types buffer.ty))
  known = object_is_known types here.served.ordered hand (meant types c rows) here.store b buffer lives.1

  -- a reference names it
  pub placed : (r : ObjRef) → r.birth ≡ b → IsRef c rows r → at rows r.birth ≡ Some r.row
  placed r same referred = ref_placed types c rows here.housed r referred buffer (ap (at (meant types c rows).objects) same ∙ lives.1)

  pub roomy : length buffer.slots ≤ buffer.capacity
  roomy = here.bounded.roomy b buffer lives.1

  pub width_is : buffer.width ≡ width element
  width_is = known.words ∙ ap width parts_are

  -- all words of its elements are within the limit
  pub elements_within : 2 + length buffer.slots * width element ≤ limit
  elements_within =
      let w = cost_within (meant types c rows) b buffer lives.1 in
      let l = here.bounded.within in
      let k = mul-le-mul_right {m = length buffer.slots} {n = buffer.capacity} (width element) roomy in
      let e = ap (λ x. 2 + x * buffer.capacity) width_is in
      let s = mul_comm (width element) buffer.capacity in
      omega (arith, w, l, k, e, s)
