-- Copies of owners at a place, and views of the whole of a string.
use Rattle.std.proofs.Common.{◌≡◌, ◌++◌, ℕ, Bool, true, false, not, if◌then◌else◌, List, [], None, Some, Option, refl, sym, ap, ◌∙◌, subst, slice_get, append_assoc, ◌∷◌}
use Rattle.std.proofs.lemmas.Bool.{and_from, false≢true}
use Rattle.life_elab_laws.proofs.ObjectTypes.{is_owner_of_values}
use Rattle.life_types.specs.Pointees.{or_void}
use Rattle.life_types.specs.Trees.{holds_unique, tree_at, tree_of, tree_within}
use Rattle.life_types.specs.TypeTests.{is_pointer}
use Rattle.life_types.specs.Types.{Types}
use Rattle.life_types.specs.declared.place.Place.{Place}
use Rattle.life_types.specs.declared.ty.Ty.{Ty}
use Rattle.life_types.specs.declared.ty.Ty.TheVariants as ty
use Rattle.life_types.specs.declared.ty.TyId.{TyId}
use Rattle.life_typed.specs.declared.typed_expr.ExprType.TheVariants.{Of}
use Rattle.life_core.specs.Function.{Function}
use Rattle.life_core.specs.Operands.{Operand, Whole}
use Rattle.life_core.specs.Step.{Aim, Copy}
use Rattle.life_core.specs.Touched.{place_uses}
use Rattle.life_pset.specs.Shapes.{operand_type, tree_if, ty_if}
use Rattle.life_proper.specs.OperandTypes.{keeps_const, same, spans}
use Rattle.life_proper.specs.Placed.{is_const_place, is_place, type_of}
use Rattle.life_proper.specs.WellFormed.{is_source_of}
use Rattle.life_proper.specs.declared.known.Known.{Known}
use Rattle.life_proper.specs.declared.known.Known.TheVariants as known
use Rattle.life_proper.proofs.ReadyTests.{both_known, uses_ready}
use Rattle.life_writer.specs.Pointers.{aimed}
use Rattle.life_writer.specs.Writing.{State, emit, gives}
use Rattle.life_elab_laws.proofs.Among.{among_left}
use Rattle.life_elab_laws.proofs.Gifts.{Gift, IsGivenAs, IsPlaceOf, nothing}
use Rattle.life_elab_laws.proofs.Held.{place_there}
use Rattle.life_elab_laws.proofs.Instructions.{acted_part}
use Rattle.life_elab_laws.proofs.LookedLocals.{place_used}
use Rattle.life_elab_laws.proofs.Making.{AreHeld, IsFilling, IsPlace, keeps_all}
use Rattle.life_elab_laws.proofs.Parts.{Part}
use Rattle.life_elab_laws.proofs.Shaping.{IsFineStep}
use Rattle.life_elab_laws.proofs.Types.{same_type}
use Rattle.life_elab_laws.proofs.ViewSteps.{view_taker}
use Rattle.life_elab_laws.proofs.Filling.{only_uses}
use Rattle.life_elab_laws.proofs.Values.{by_owners}

-- ---- the types of owners

pub owner_same : (table : Types) (t : Ty) → is_owner_of_values table t ≡ true → same t t ≡ true
owner_same table = by_owners table _ (same_type ty.Text) (λ item. same_type (ty.Vector item))

owner_no_pointer : (table : Types) (t : Ty) → is_owner_of_values table t ≡ true → not (is_pointer t) ≡ true
owner_no_pointer table = by_owners table _ refl (λ item. refl)

-- none holds a unique_ptr
no_unique : (table types : Types) (b : Bool) (id : Option TyId) → is_owner_of_values table (if b then ty_if types id else ty.Void) ≡ true → holds_unique (tree_if types id) ≡ false
unfolding tree_at
no_unique table types false id o = absurd (false≢true o)
no_unique table types true None o = absurd (false≢true o)
no_unique table types true (Some id) o = go (slice_get types.types id.0) o
  where
    go : (t : Option Ty) → is_owner_of_values table (or_void t) ≡ true → holds_unique (tree_of types (tree_within id.0 types) t) ≡ false
    go (Some ty.Text) o = refl
    go (Some (ty.Vector item)) o = refl
    go (Some _) o = absurd (false≢true o)
    go None o = absurd (false≢true o)

-- ---- what a place that is used is

pub place_held : (o : Operand) (n : ℕ) (k : List Known) → IsPlace o n k → AreHeld (place_uses o) n k
place_held o n k h = subst (λ (xs : List ℕ). AreHeld xs n k) (sym h.uses) ((h.below, h.held), tt)

module _ (types : Types) (texts : ℕ) (fs : List Function) (f : Function) where
  -- ---- copies

  pub copy_fine : (table : Types) (t : Ty) (to from : Operand) → is_owner_of_values table t ≡ true → type_of types f to ≡ t → keeps_const false (is_const_place types f to) ≡ true → type_of types f from ≡ t
      → IsFineStep types texts fs f (Copy to from)
  copy_fine table t to from o at free source = record {
    given = refl;
    formed =
        and_from (same (type_of types f to) (type_of types f from)) _ (ap (λ (u : Ty). same u (type_of types f from)) at ∙ ap (same t) source ∙ owner_same table t o)
        (and_from (not (is_pointer (type_of types f to))) _ (ap (λ (u : Ty). not (is_pointer u)) at ∙ owner_no_pointer table t o)
        (and_from (not (holds_unique (tree_if types (operand_type types f to)))) (not (is_const_place types f to))
        (ap not (no_unique table types (is_place types f to) (operand_type types f to) (ap (is_owner_of_values table) at ∙ o))) free));
  }

  pub copies_part : {A : Type 0} (P : Gift types texts fs f A) (x : A) (table : Types) (t : Ty) (constant : Bool) (to from : Operand) (place : Place) (s : State) → is_owner_of_values table t ≡ true
      → (P.typed x → IsPlaceOf types texts fs f t false to × IsPlaceOf types texts fs f t constant from) → ((n : ℕ) (k : List Known) → P.ready x n k → IsPlace to n k × IsPlace from n k)
      → Part types texts fs f P x None s (gives tt (emit place (Copy to from) s)) (nothing types texts fs f)
  copies_part P x table t constant to from place s o typed ready =
      acted_part types texts fs f P x place (Copy to from) s
      (λ h. let both = typed h in copy_fine table t to from o both.0.typed both.0.held both.1.typed)
      (λ n k q. let both = ready n k q in uses_ready k (place_uses to ++ place_uses from) [] (both_known known.Ready k (place_uses to) (place_uses from) (place_there to n k both.0) (place_there from n k both.1)))
      (λ n m k q. keeps_all f m None k)

  -- ---- a view of the whole of a string

  pub whole_given : (o : Operand) → type_of types f o ≡ ty.Text → IsGivenAs types texts fs f (Of ty.View) (aimed (Whole o))
  whole_given o text = λ u l loc at taken. record {
    given = refl;
    formed =
        ap (λ (t : Ty). is_source_of types texts fs f t (Whole o)) (at ∙ view_taker types u loc taken)
        ∙ and_from (spans types ty.View (type_of types f o)) true (ap (spans types ty.View) text) refl;
  }

  pub whole_filling : (o : Operand) (n : ℕ) (k : List Known) → IsPlace o n k → IsFilling f (λ p. Aim p (Whole o)) n k
  whole_filling o n k h = record {
    uses = place_uses o ++ [];
    held = subst (λ (xs : List ℕ). AreHeld (xs ++ []) n k) (sym h.uses) ((h.below, h.held), tt);
    touches = λ x e. refl;
    parts = λ x m ms. only_uses (sym (append_assoc (place_uses o) [] (x ∷ [])));
    looks = λ l x m. among_left (place_uses o) [] x (place_used f o x m);
  }
