-- Every content of a run stays one behind each change of a vector.
use Rattle.std.proofs.Common.{◌≡◌, ◌≢◌, ℕ, zero, suc, ◌+◌, ◌<◌, List, [], ◌∷◌, length, Option, Some, None, refl, sym, ap, subst, ◌∙◌, arith}
use Rattle.std.specs.Prelude.{slice_index}
use Rattle.life_types.specs.Trees.{IsOrdered}
use Rattle.life_types.specs.Types.{Types}
use Rattle.life_types.specs.declared.ty.TyId.{TyId}
use Rattle.life_store.specs.Cells.{at}
use Rattle.life_store.specs.Content.{Slot, Object, Content}
use Rattle.life_store.specs.Edits.{cleared, erased, owned_at, popped, pushed, reserved, size_of}
use Rattle.life_store.specs.Effects.{Setting}
use Rattle.life_store.specs.Held.{owned_in, slots_if}
use Rattle.life_store.specs.Owners.{consumed}
use Rattle.life_store.specs.Parts.{Parts, Vector, parts_at, width, width_at}
use Rattle.life_store.specs.Places.{Spot, spot_words}
use Rattle.life_forest.specs.Kinds.{kinds_of, owned_type, rank_of}
use Rattle.life_store.specs.Kinds.{kind_in}
use Rattle.life_forest.specs.Owned.{every, times, owns}
use Rattle.life_forest.specs.Forest.{IsForest}
use Rattle.life_forest.specs.Typed.{AreFit, IsStore}
use Rattle.life_forest.specs.Values.{AllWide, IsNamed, IsOf, Known, listed, owned_of}
use Rattle.life_forest.specs.Within.{LiesWithin}
use Rattle.life_forest.proofs.Adding.{pushed_number_fit, pushed_number_forest, pushed_object_fit, pushed_object_forest}
use Rattle.life_forest.proofs.Coming.{IfGot}
use Rattle.life_forest.proofs.Counting.{one_same}
use Rattle.life_forest.proofs.Erasing.{erased_fit, erased_forest}
use Rattle.life_forest.proofs.Fitting.{OwnsAlike}
use Rattle.life_forest.proofs.FittingBirths.{got_both}
use Rattle.life_forest.proofs.FromTypes.{known_from, object_known}
use Rattle.life_forest.proofs.Growing.{OwnsBuffer}
use Rattle.life_forest.proofs.Laying.{IsMade, made_at}
use Rattle.life_forest.proofs.Lying.{LiesAt}
use Rattle.life_forest.proofs.Regrowing.{reserved_fit, reserved_forest}
use Rattle.life_forest.proofs.Shortening.{cleared_fit, cleared_forest, popped_fit, popped_forest}
use Rattle.life_forest.proofs.Spots.{lies_at, owns_alike, spot_flat, spot_lives}
use Rattle.life_forest.proofs.Stores.{if_such, lesser}

module _ (types : Types) (ordered : IsOrdered types) (hand : ℕ → ℕ) (c : Content) (store : IsStore types hand c) (n i w : ℕ) (part : TyId) (o : Object) (there : at c.objects n ≡ Some o) (within : LiesWithin types o.ty w part) (lt : i < length o.slots)
    (ty : TyId) (element : Parts) (is_vector : parts_at types part ≡ Vector ty element) (b : ℕ) where
  abbrev spot : Spot
  spot = record { object = n; index = i; word = w }

  made : IsMade types ordered (rank_of types part) (Vector ty element)
  made = subst (IsMade types ordered (rank_of types part)) is_vector (made_at types ordered part)

  lies : LiesAt (kinds_of types) c spot (Vector ty element) o
  lies = subst (λ p. LiesAt (kinds_of types) c spot p o) is_vector (lies_at types ordered hand c store n i w part o there within lt)

  alike : OwnsAlike (kinds_of types) o spot (Vector ty element)
  alike = subst (OwnsAlike (kinds_of types) o spot) is_vector (owns_alike types ordered hand c store n i w part o there within lt)

  named : IsNamed (kinds_of types) ty element
  named = (ap width made.1, λ u. ap (λ p. owned_type p u) made.1)

  module _ (owned : owned_at c (record { object = n; index = i; word = w }) ≡ Some b) where
    width_is : width_at types part ≡ 1
    width_is = ap width is_vector

    old_is : owned_of (parts_at types part) (spot_words c spot (width_at types part)) ≡ b ∷ []
    old_is = ap (λ p. owned_of p (spot_words c spot (width p))) is_vector ∙ ap listed owned

    some_word : slice_index (spot_words c spot (width_at types part)) 0 ≡ suc b
    some_word = ap (λ p. slice_index (spot_words c spot (width p)) 0) is_vector ∙ number (slice_index (spot_words c spot 1) 0) owned
      where
        some_same : {x y : ℕ} → Some x ≡ Some y → x ≡ y
        some_same e = cc

        none_some : {x : ℕ} → ◌≡◌ {A = Option ℕ} None (Some x) → ⊥
        none_some e = cc

        number : (x : ℕ) → owned_in x ≡ Some b → x ≡ suc b
        number zero e = absurd (none_some e)
        number (suc x) e = ap suc (some_same e)

    -- the buffer, which lives
    buffer : (x : Object) × (at c.objects b ≡ Some x)
    buffer = spot_lives types ordered hand c store n i w part o there within lt b (let e = ap (λ xs. times xs b) old_is in let s = one_same b b refl in omega arith)

    abbrev ob : Object
    ob = buffer.0

    type_is : ob.ty ≡ ty
    type_is = sym (some_same (sym (ap (λ p. owned_type p 0) is_vector) ∙ spot_flat types ordered hand c store n i w part o there within lt 0 b ob (ap (λ p. kind_in p 0) is_vector) some_word buffer.1))
      where
        some_same : {x y : TyId} → Some x ≡ Some y → x ≡ y
        some_same e = cc

    elements : IsOf (kinds_of types) element ob (Known (kinds_of types) c element)
    elements =
        object_known types ordered hand c store element (known_from types ordered hand c store (rank_of types ty) element made.2) b ob buffer.1
        (ap (parts_at types) type_is ∙ made.1)

    own : OwnsBuffer (kinds_of types) ty element spot b c o ob
    own = record {
      lies = lies;
      owned = owned;
      there = buffer.1;
      is = elements;
      same = type_is;
      lower = lesser types ordered (rank_of types o.ty) (parts_at types o.ty) (made_at types ordered o.ty) (w + 0) ty
          (within.words 0 (let e = width_is in omega arith) ∙ ap (λ p. kind_in p 0) is_vector)
          (within.owners 0 (let e = width_is in omega arith) ∙ ap (λ p. owned_type p 0) is_vector);
      laid = λ u. ap (λ p. kind_in p u) made.1;
    }

    buffer_names : (u : ℕ) → owned_type (parts_at types ob.ty) u ≡ owned_type element u
    buffer_names u = ap (λ p. owned_type p u) (ap (parts_at types) type_is ∙ made.1)

    both : {d : Content} → IsForest (kinds_of types) hand d → AreFit (kinds_of types) d → IsStore types hand d
    both forest fit = record { forest = forest; fit = fit }

    -- ---- the changes

    pub pop_store : (size : ℕ) → IfGot (popped element b (suc size) c) (IsStore types hand)
    pop_store size = both
        (popped_forest (kinds_of types) hand c element b ob store.forest buffer.1 elements size)
        (popped_fit (kinds_of types) hand c element b ob store.forest buffer.1 elements size store.fit)

    pub clear_store : IsStore types hand (cleared element b c)
    clear_store = both
        (cleared_forest (kinds_of types) hand c element b ob store.forest buffer.1 elements)
        (cleared_fit (kinds_of types) hand c element b ob store.forest buffer.1 elements store.fit)

    pub erase_store : (index : ℕ) → index < size_of c b → IsStore types hand (erased element b index c)
    erase_store index small =
        let here : index < length ob.slots = (let e = ap (λ (x : Option Object). length (slots_if x)) buffer.1 in omega arith) in
        both
        (erased_forest (kinds_of types) hand c element b ob store.forest buffer.1 elements index here)
        (erased_fit (kinds_of types) hand c element b ob store.forest buffer.1 elements index here store.fit buffer_names)

    pub reserve_store : (s : Setting) (capacity : ℕ) → IfGot (reserved s ty element spot b capacity c) (IsStore types hand)
    reserve_store s capacity =
        if_such (reserved s ty element spot b capacity c) (λ d. IsForest (kinds_of types) hand d × AreFit (kinds_of types) d) (IsStore types hand)
        (got_both (reserved s ty element spot b capacity c) (IsForest (kinds_of types) hand) (AreFit (kinds_of types))
        (reserved_forest (kinds_of types) ty element spot b hand c o ob store.forest own s capacity)
        (reserved_fit (kinds_of types) ty element spot b hand c o ob store.forest own s capacity store.fit named alike))
        (λ d h. both h.0 h.1)

    -- a value that owns nothing is added
    pub push_store : (s : Setting) (ws : List ℕ) → length ws ≡ width element → ((k : ℕ) → times (owned_of element ws) k ≡ 0) → IfGot (pushed s ty element spot b (λ d. (ws, d)) c) (IsStore types hand)
    push_store s ws wide none =
        if_such (pushed s ty element spot b (λ d. (ws, d)) c) (λ d. IsForest (kinds_of types) hand d × AreFit (kinds_of types) d) (IsStore types hand)
        (got_both (pushed s ty element spot b (λ d. (ws, d)) c) (IsForest (kinds_of types) hand) (AreFit (kinds_of types))
        (pushed_number_forest (kinds_of types) ty element spot b hand c o ob store.forest own ws wide none s)
        (pushed_number_fit (kinds_of types) ty element spot b hand c o ob store.forest own ws wide none s store.fit named alike))
        (λ d h. both h.0 h.1)

-- ---- an object that gives its value over, which isn't the vector's and doesn't own it

module _ (types : Types) (ordered : IsOrdered types) (hand : ℕ → ℕ) (c : Content) (m : ℕ) (store : IsStore types (λ k. times (m ∷ []) k + hand k) c) (n i w : ℕ) (part : TyId) (o : Object) (there : at c.objects n ≡ Some o) (within : LiesWithin types o.ty w part)
    (lt : i < length o.slots) (ty : TyId) (element : Parts) (is_vector : parts_at types part ≡ Vector ty element) (b : ℕ) (owned : owned_at c (record { object = n; index = i; word = w }) ≡ Some b) (om : Object) (sl : Slot) (m_there : at c.objects m ≡ Some om)
    (one_slot : om.slots ≡ sl ∷ []) (m_type : om.ty ≡ ty) (m_apart : n ≢ m) (not_owned : owns (kinds_of types) every om n ≡ 0) where
  abbrev whole : ℕ → ℕ
  whole k = times (m ∷ []) k + hand k

  m_wide : length sl.words ≡ width element
  m_wide =
      let fit = store.fit m om m_there in
      (subst (AllWide om.width) one_slot fit.slots).0
      ∙ fit.width
      ∙ ap (width_at types) m_type
      ∙ ap width (made types ordered (λ k. times (m ∷ []) k + hand k) c store n i w part o there within lt ty element is_vector b).1

  pub push_object_store : (s : Setting) → IfGot (pushed s ty element (record { object = n; index = i; word = w }) b (consumed element m) c) (IsStore types hand)
  push_object_store s =
      let x = buffer types ordered (λ k. times (m ∷ []) k + hand k) c store n i w part o there within lt ty element is_vector b owned in
      let it = own types ordered (λ k. times (m ∷ []) k + hand k) c store n i w part o there within lt ty element is_vector b owned in
      if_such (pushed s ty element (record { object = n; index = i; word = w }) b (consumed element m) c) (λ d. IsForest (kinds_of types) hand d × AreFit (kinds_of types) d) (IsStore types hand)
      (got_both (pushed s ty element (record { object = n; index = i; word = w }) b (consumed element m) c) (IsForest (kinds_of types) hand) (AreFit (kinds_of types))
      (pushed_object_forest (kinds_of types) ty element (record { object = n; index = i; word = w }) b hand c o x.0 m om sl store.forest it m_there one_slot m_type m_wide m_apart not_owned s)
      (pushed_object_fit (kinds_of types) ty element (record { object = n; index = i; word = w }) b hand c o x.0 m om sl store.forest it m_there one_slot m_type m_wide m_apart not_owned s store.fit
      (named types ordered (λ k. times (m ∷ []) k + hand k) c store n i w part o there within lt ty element is_vector b)
      (alike types ordered (λ k. times (m ∷ []) k + hand k) c store n i w part o there within lt ty element is_vector b)))
      (λ d h. record { forest = h.0; fit = h.1 })
