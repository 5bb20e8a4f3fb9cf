-- Every content of a run stays one where an object is born or ends, and behind each change of a string.
use Rattle.std.proofs.Common.{◌≡◌, ℕ, suc, ◌+◌, ◌<◌, List, [], ◌∷◌, length, Option, Some, refl, ap, subst, ◌∙◌, arith}
use Rattle.life_types.specs.Trees.{IsOrdered}
use Rattle.life_types.specs.Types.{Types}
use Rattle.life_types.specs.declared.ty.TyId.{TyId}
use Rattle.life_core.specs.declared.instr.Form.{Form}
use Rattle.life_store.specs.Births.{with_value_object}
use Rattle.life_store.specs.Cells.{at, at-set_same}
use Rattle.life_store.specs.Content.{Slot, Object, Content, newborn, with_birth}
use Rattle.life_store.specs.Edits.{owned_at, rewritten}
use Rattle.life_store.specs.Effects.{Setting}
use Rattle.life_store.specs.Held.{resized_if}
use Rattle.life_store.specs.Owners.{ended_object, fresh, object_with}
use Rattle.life_store.specs.Parts.{Text, parts_at, width, width_at}
use Rattle.life_store.specs.Places.{Spot}
use Rattle.life_forest.specs.Kinds.{kinds_of, owned_type, rank_of}
use Rattle.life_store.specs.Kinds.{kind_in}
use Rattle.life_forest.specs.Owned.{times}
use Rattle.life_forest.specs.Forest.{IsForest}
use Rattle.life_forest.specs.Typed.{AreFit, IsStore}
use Rattle.life_forest.specs.Values.{AllWide}
use Rattle.life_forest.specs.Within.{LiesWithin}
use Rattle.life_forest.proofs.Coming.{Came, CameWords, IfGot, fresh_came}
use Rattle.life_forest.proofs.Copying.{sized_is}
use Rattle.life_forest.proofs.FittingBirths.{FitWords, fit_sized, fresh_fit, got_both}
use Rattle.life_forest.proofs.Fitting.{OwnsAlike}
use Rattle.life_forest.proofs.FromTypes.{object_is_known}
use Rattle.life_forest.proofs.Lying.{LiesAt}
use Rattle.life_forest.proofs.Laying.{IsMade, laid_at, made_at, named_at}
use Rattle.life_forest.proofs.Objects.{object_came, object_ended_fit, object_ended_forest, object_fit}
use Rattle.life_forest.proofs.Rewriting.{rewritten_fit, rewritten_forest}
use Rattle.life_forest.proofs.Spots.{lies_at, owns_alike}
use Rattle.life_forest.proofs.Stores.{if_such, lesser}

module _ (types : Types) (ordered : IsOrdered types) where
  -- ---- an object is born

  -- with a value as it comes to life: a local of the type, or what a unique_ptr is to own
  pub born_store : (s : Setting) (form : Form) (ty : TyId) (hand : ℕ → ℕ) (c : Content) → IsStore types hand c
      → IfGot (object_with s ty (parts_at types ty) (fresh s form (parts_at types ty)) c) (λ b. IsStore types (λ k. times (b.0 ∷ []) k + hand k) b.1)
  born_store s form ty hand c store =
      let p = parts_at types ty in
      let value : (h : ℕ → ℕ) (d : Content) → IsForest (kinds_of types) h d → IfGot (fresh s form (parts_at types ty) d) (CameWords (kinds_of types) (rank_of types ty) h (parts_at types ty) d) =
      λ h d f. fresh_came (kinds_of types) s form (parts_at types ty) (rank_of types ty) (laid_at types ordered ty) h d f in
      if_such (object_with s ty p (fresh s form p) c) (λ b. Came (kinds_of types) (suc (rank_of types ty)) hand (b.0 ∷ []) c b.1 × AreFit (kinds_of types) b.1) (λ b. IsStore types (λ k. times (b.0 ∷ []) k + hand k) b.1)
      (got_both (object_with s ty p (fresh s form p) c) (λ b. Came (kinds_of types) (suc (rank_of types ty)) hand (b.0 ∷ []) c b.1) (λ b. AreFit (kinds_of types) b.1)
      (object_came (kinds_of types) ty p (λ u. refl) s (suc (rank_of types ty)) (fresh s form p) (omega arith) value hand c store.forest)
      (object_fit (kinds_of types) ty p (λ u. refl) s (suc (rank_of types ty)) (fresh s form p) (omega arith) (refl, λ u. refl)
      (λ h d f g. got_both (fresh s form p d) (CameWords (kinds_of types) (rank_of types ty) h p d) (FitWords (kinds_of types) p) (value h d f)
      (fresh_fit (kinds_of types) s form p (rank_of types ty) (laid_at types ordered ty) (named_at types ordered ty) h d f g)) hand c store.forest store.fit))
      (λ b h. record { forest = h.0.forest; fit = h.1 })

  -- of one word
  pub value_born_store : (ty : TyId) (hand : ℕ → ℕ) (c : Content) → width_at types ty ≡ 1 → IsStore types hand c → IsStore types (λ k. times (c.births ∷ []) k + hand k) (with_value_object ty c)
  value_born_store ty hand c wide store =
      let there : at (with_birth ty 1 1 c).objects c.births ≡ Some (newborn ty 1 1 c.clock) = at-set_same c.objects c.births c.births (newborn ty 1 1 c.clock) refl in
      subst (IsStore types (λ k. times (c.births ∷ []) k + hand k)) (ap (λ (x : Option Object). resized_if x c.births 1 0 (with_birth ty 1 1 c)) there)
      (record {
        forest = (sized_is (kinds_of types) (suc (rank_of types ty)) hand ty 1 1 1 c (omega arith) store.forest).came.forest;
        fit = fit_sized (kinds_of types) hand c ty 1 1 1 store.forest wide store.fit;
      })

  -- ---- an object of one slot ends, which none owns

  pub ended_store : (hand : ℕ → ℕ) (c : Content) (n : ℕ) (o : Object) (s : Slot) → IsStore types (λ k. times (n ∷ []) k + hand k) c → at c.objects n ≡ Some o → o.slots ≡ s ∷ [] → IsStore types hand (ended_object (parts_at types o.ty) n c)
  ended_store hand c n o s store there one_slot =
      let is = object_is_known types ordered (λ k. times (n ∷ []) k + hand k) c store n o there in
      let wide : length s.words ≡ width_at types o.ty = (subst (AllWide (width_at types o.ty)) one_slot is.wide).0 in
      record {
        forest = object_ended_forest (kinds_of types) (parts_at types o.ty) n c hand o s there one_slot is wide store.forest;
        fit = object_ended_fit (kinds_of types) (parts_at types o.ty) n c hand o s there one_slot is wide store.forest store.fit;
      }

  -- ---- a string is given other characters

  module _ (hand : ℕ → ℕ) (c : Content) (store : IsStore types hand c) (n i w : ℕ) (part : TyId) (o : Object) (there : at c.objects n ≡ Some o) (within : LiesWithin types o.ty w part) (lt : i < length o.slots)
      (ty : TyId) (is_text : parts_at types part ≡ Text ty) (b : ℕ) where
    made : IsMade types ordered (rank_of types part) (Text ty)
    made = subst (IsMade types ordered (rank_of types part)) is_text (made_at types ordered part)

    pub rewrite_store : owned_at c (record { object = n; index = i; word = w }) ≡ Some b → (s : Setting) (words : List ℕ) → IfGot (rewritten s ty (record { object = n; index = i; word = w }) b words c) (IsStore types hand)
    rewrite_store owned s words =
        let spot : Spot = record { object = n; index = i; word = w } in
        let lies = subst (λ p. LiesAt (kinds_of types) c (record { object = n; index = i; word = w }) p o) is_text (lies_at types ordered hand c store n i w part o there within lt) in
        let alike = subst (OwnsAlike (kinds_of types) o (record { object = n; index = i; word = w })) is_text (owns_alike types ordered hand c store n i w part o there within lt) in
        let wide : width_at types part ≡ 1 = ap width is_text in
        let lower : rank_of types ty < rank_of types o.ty =
        lesser types ordered (rank_of types o.ty) (parts_at types o.ty) (made_at types ordered o.ty) (w + 0) ty (within.words 0 (omega arith) ∙ ap (λ p. kind_in p 0) is_text) (within.owners 0 (omega arith) ∙ ap (λ p. owned_type p 0) is_text) in
        if_such (rewritten s ty (record { object = n; index = i; word = w }) b words c) (λ d. IsForest (kinds_of types) hand d × AreFit (kinds_of types) d) (IsStore types hand)
        (got_both (rewritten s ty (record { object = n; index = i; word = w }) b words c) (IsForest (kinds_of types) hand) (AreFit (kinds_of types))
        (rewritten_forest (kinds_of types) s ty (record { object = n; index = i; word = w }) o b words hand c store.forest lies owned lower (λ u. ap (λ p. kind_in p u) made.1))
        (rewritten_fit (kinds_of types) s ty (record { object = n; index = i; word = w }) o b words hand c store.forest lies owned lower (λ u. ap (λ p. kind_in p u) made.1) alike (ap width made.1, λ u. ap (λ p. owned_type p u) made.1) store.fit))
        (λ d h. record { forest = h.0; fit = h.1 })
