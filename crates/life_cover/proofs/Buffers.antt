-- Each change of a vector or a string touches what is owned in its place, and nothing else.
use Rattle.std.proofs.Common.{◌≡◌, ℕ, zero, suc, ◌+◌, ◌<◌, List, [], ◌∷◌, length, Option, Some, refl, sym, ap, subst, ◌∙◌, arith}
use Rattle.std.specs.Prelude.{slice_index}
use Rattle.std.proofs.lemmas.Bool.{or_right}
use Rattle.life_types.specs.Trees.{IsOrdered}
use Rattle.life_types.specs.Types.{Types}
use Rattle.life_types.specs.declared.ty.TyId.{TyId}
use Rattle.life_store.specs.Cells.{at}
use Rattle.life_store.specs.Content.{Object, Content}
use Rattle.life_store.specs.Edits.{cleared, erased, owned_at, popped, pushed, reserved, rewritten, size_of}
use Rattle.life_store.specs.Effects.{Setting}
use Rattle.life_store.specs.Held.{owned_in, slots_if}
use Rattle.life_store.specs.Kinds.{is_value, kind_in}
use Rattle.life_store.specs.Parts.{Parts, Text, Vector, parts_at, width, width_at}
use Rattle.life_store.specs.Places.{Spot, spot_words}
use Rattle.life_store.proofs.CellLemmas.{none_some, some_same}
use Rattle.life_forest.specs.Forest.{Beneath, Foot, Touches}
use Rattle.life_forest.specs.Kinds.{kinds_of, owned_type, rank_of}
use Rattle.life_forest.specs.Owned.{times}
use Rattle.life_forest.specs.Typed.{IsStore}
use Rattle.life_forest.specs.Values.{IsOf, Known, listed, owned_of}
use Rattle.life_forest.specs.Within.{LiesWithin}
use Rattle.life_forest.proofs.Adding.{pushed_number_touches}
use Rattle.life_forest.proofs.Coming.{IfGot}
use Rattle.life_forest.proofs.Counting.{one_same}
use Rattle.life_forest.proofs.Erasing.{erased_touches}
use Rattle.life_forest.proofs.FromTypes.{known_from, object_known}
use Rattle.life_forest.proofs.Growing.{OwnsBuffer}
use Rattle.life_forest.proofs.Laying.{IsMade, made_at}
use Rattle.life_forest.proofs.Lying.{Covers, LiesAt, value_beneath}
use Rattle.life_forest.proofs.Regrowing.{reserved_touches}
use Rattle.life_forest.proofs.Rewriting.{rewritten_touches}
use Rattle.life_forest.proofs.Shortening.{cleared_touches, popped_touches}
use Rattle.life_forest.proofs.Spots.{lies_at, spot_flat, spot_lives}
use Rattle.life_forest.proofs.Stores.{lesser}
use Rattle.life_cover.specs.Regions.{Region, foot_of}
use Rattle.life_cover.proofs.Inside.{in_region}

-- the region's foot has all its words
pub foot_covers : (types : Types) (n i w : ℕ) (item : TyId) (p : Parts) → parts_at types item ≡ p → Covers (kinds_of types) (foot_of types (record { object = n; word = w; ty = item })) (record { object = n; index = i; word = w }) p
foot_covers types n i w item p is u less =
    let wide = ap width is in
    or_right (is_value (kind_in p u)) ((foot_of types (record { object = n; word = w; ty = item })).part n (w + u))
    (in_region types (record { object = n; word = w; ty = item }) n (w + u) (record { object = refl; first = omega arith; last = omega (arith, less, wide) }))

module _ (types : Types) (ordered : IsOrdered types) (hand : ℕ → ℕ) (c : Content) (store : IsStore types hand c) (n i w : ℕ) (item : TyId) (o : Object) (there : at c.objects n ≡ Some o) (within : LiesWithin types o.ty w item) (lt : i < length o.slots) where
  abbrev spot : Spot
  spot = record { object = n; index = i; word = w }

  abbrev region : Region
  region = record { object = n; word = w; ty = item }

  number : (x b : ℕ) → owned_in x ≡ Some b → x ≡ suc b
  number zero b e = absurd (none_some e)
  number (suc x) b e = ap suc (some_same e)

  module _ (p : Parts) (is : parts_at types item ≡ p) (b : ℕ) (old_is : owned_of p (spot_words c (record { object = n; index = i; word = w }) (width p)) ≡ b ∷ []) where
    lies : LiesAt (kinds_of types) c spot p o
    lies = subst (λ q. LiesAt (kinds_of types) c spot q o) is (lies_at types ordered hand c store n i w item o there within lt)

    -- the buffer lies beneath the place
    pub buffer_low : Beneath (kinds_of types) c (foot_of types region) b
    buffer_low = value_beneath (kinds_of types) c spot p o lies (foot_of types region) (foot_covers types n i w item p is) b (let e = ap (λ xs. times xs b) old_is in let s = one_same b b refl in omega (arith, e, s))

    pub buffer_lives : (x : Object) × (at c.objects b ≡ Some x)
    buffer_lives =
        spot_lives types ordered hand c store n i w item o there within lt b
        (let e = ap (λ xs. times xs b) old_is in
        let s = one_same b b refl in
        let f = ap (λ q. times (owned_of q (spot_words c spot (width q))) b) is in
        omega (arith, e, s, f))

  -- ---- a vector

  module _ (ty : TyId) (element : Parts) (is_vector : parts_at types item ≡ Vector ty element) (b : ℕ) (owned : owned_at c (record { object = n; index = i; word = w }) ≡ Some b) where
    made : IsMade types ordered (rank_of types item) (Vector ty element)
    made = subst (IsMade types ordered (rank_of types item)) is_vector (made_at types ordered item)

    width_is : width_at types item ≡ 1
    width_is = ap width is_vector

    pub low : Beneath (kinds_of types) c (foot_of types region) b
    low = buffer_low (Vector ty element) is_vector b (ap listed owned)

    pub buffer : (x : Object) × (at c.objects b ≡ Some x)
    buffer = buffer_lives (Vector ty element) is_vector b (ap listed owned)

    some_word : slice_index (spot_words c spot (width_at types item)) 0 ≡ suc b
    some_word = ap (λ p. slice_index (spot_words c spot (width p)) 0) is_vector ∙ number (slice_index (spot_words c spot 1) 0) b owned

    pub buffer_type : buffer.0.ty ≡ ty
    buffer_type = sym (some_same (sym (ap (λ p. owned_type p 0) is_vector) ∙ spot_flat types ordered hand c store n i w item o there within lt 0 b buffer.0 (ap (λ p. kind_in p 0) is_vector) some_word buffer.1))

    -- .. whose parts are these
    pub buffer_parts : parts_at types ty ≡ element
    buffer_parts = made.1

    pub elements : IsOf (kinds_of types) element buffer.0 (Known (kinds_of types) c element)
    elements =
        object_known types ordered hand c store element (known_from types ordered hand c store (rank_of types ty) element made.2) b buffer.0 buffer.1
        (ap (parts_at types) buffer_type ∙ made.1)

    pub own : OwnsBuffer (kinds_of types) ty element spot b c o buffer.0
    own = record {
      lies = lies (Vector ty element) is_vector b (ap listed owned);
      owned = owned;
      there = buffer.1;
      is = elements;
      same = buffer_type;
      lower = lesser types ordered (rank_of types o.ty) (parts_at types o.ty) (made_at types ordered o.ty) (w + 0) ty
          (within.words 0 (let e = width_is in omega (arith, e)) ∙ ap (λ p. kind_in p 0) is_vector)
          (within.owners 0 (let e = width_is in omega (arith, e)) ∙ ap (λ p. owned_type p 0) is_vector);
      laid = λ u. ap (λ p. kind_in p u) made.1;
    }

    pub pop_touches : (size : ℕ) → IfGot (popped element b (suc size) c) (Touches (kinds_of types) (foot_of types region) c)
    pop_touches size = popped_touches (kinds_of types) hand c element b buffer.0 store.forest buffer.1 elements size (foot_of types region) low

    pub clear_touches : Touches (kinds_of types) (foot_of types region) c (cleared element b c)
    clear_touches = cleared_touches (kinds_of types) hand c element b buffer.0 store.forest buffer.1 elements (foot_of types region) low

    -- whatever its buffer lies beneath
    pub erase_touches : (index : ℕ) → index < size_of c b → (t : Foot) → Beneath (kinds_of types) c t b → Touches (kinds_of types) t c (erased element b index c)
    erase_touches index small t beneath =
        erased_touches (kinds_of types) hand c element b buffer.0 store.forest buffer.1 elements index (let e = ap (λ (x : Option Object). length (slots_if x)) buffer.1 in omega (arith, e, small)) t beneath

    pub reserve_touches : (s : Setting) (capacity : ℕ) → IfGot (reserved s ty element spot b capacity c) (Touches (kinds_of types) (foot_of types region) c)
    reserve_touches s capacity = reserved_touches (kinds_of types) ty element spot b hand c o buffer.0 store.forest own s capacity (foot_of types region) (foot_covers types n i w item (Vector ty element) is_vector)

    -- a value that owns nothing is added
    pub push_touches : (s : Setting) (ws : List ℕ) → length ws ≡ width element → ((k : ℕ) → times (owned_of element ws) k ≡ 0) → IfGot (pushed s ty element spot b (λ d. (ws, d)) c) (Touches (kinds_of types) (foot_of types region) c)
    push_touches s ws wide none =
        pushed_number_touches (kinds_of types) ty element spot b hand c o buffer.0 store.forest own ws wide none s (foot_of types region) (foot_covers types n i w item (Vector ty element) is_vector)

  -- ---- a string that is written anew: set, appended to, pushed to or cleared

  module _ (ty : TyId) (is_text : parts_at types item ≡ Text ty) (b : ℕ) (owned : owned_at c (record { object = n; index = i; word = w }) ≡ Some b) where
    pub rewrite_touches : (s : Setting) (words : List ℕ) → IfGot (rewritten s ty spot b words c) (Touches (kinds_of types) (foot_of types region) c)
    rewrite_touches s words =
        let made = subst (IsMade types ordered (rank_of types item)) is_text (made_at types ordered item) in
        let one = ap width is_text in
        rewritten_touches (kinds_of types) s ty spot o b words hand c store.forest (lies (Text ty) is_text b (ap listed owned)) owned
        (lesser types ordered (rank_of types o.ty) (parts_at types o.ty) (made_at types ordered o.ty) (w + 0) ty
        (within.words 0 (omega (arith, one)) ∙ ap (λ p. kind_in p 0) is_text)
        (within.owners 0 (omega (arith, one)) ∙ ap (λ p. owned_type p 0) is_text))
        (λ u. ap (λ p. kind_in p u) made.1)
        (foot_of types region) (foot_covers types n i w item (Text ty) is_text)
