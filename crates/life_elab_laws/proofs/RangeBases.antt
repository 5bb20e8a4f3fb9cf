-- The hidden range of a loop: a reference to an owner, or another view or span (ISO/IEC 14882:2017 [stmt.ranged]).
use Rattle.std.proofs.Common.{◌≡◌, ℕ, Bool, true, not, List, [], ◌∷◌, ◌++◌, length, if◌then◌else◌, Option, Some, None, refl, sym, ap, ◌∙◌, subst}
use Rattle.std.proofs.lemmas.Bool.{and_from, false≢true}
use Rattle.life_elab_laws.proofs.ObjectTypes.{is_owner_of_values}
use Rattle.life_types.specs.Pointees.{pointee, ty_of}
use Rattle.life_types.specs.TypeTests.{is_constant, is_void}
use Rattle.life_types.specs.Types.{Types}
use Rattle.life_types.specs.declared.place.Place.{Place}
use Rattle.life_types.specs.declared.ty.Ty.{Ty}
use Rattle.life_types.specs.declared.ty.Ty.TheVariants as ty
use Rattle.life_types.specs.declared.ty.TyId.{TyId}
use Rattle.life_typed.specs.Members.{element_type}
use Rattle.life_core.specs.Function.{Function}
use Rattle.life_core.specs.Kinds.{has_kind, is_object}
use Rattle.life_core.specs.Operands.{Base, Location, Operand, Owner, Place as Aimed, Pointer, behind, whole}
use Rattle.life_core.specs.Touched.{base_uses, place_uses}
use Rattle.life_pset.specs.Shapes.{target_of, ty_if}
use Rattle.life_proper.specs.OperandTypes.{keeps_const, owned_element, same, seen_element, takes}
use Rattle.life_proper.specs.Placed.{is_const_place, type_in, type_of}
use Rattle.life_proper.specs.WellFormed.{is_source_of}
use Rattle.life_proper.specs.declared.known.Known.{Known}
use Rattle.life_writer.specs.Building.{Fill, built}
use Rattle.life_writer.specs.Pointers.{As, aimed, pointed}
use Rattle.life_writer.specs.Temporaries.{hidden}
use Rattle.life_writer.specs.Writing.{State, mapped}
use Rattle.life_elab_laws.proofs.BaseSteps.{IsBase, IsBaseOf, base_stays}
use Rattle.life_elab_laws.proofs.Conditions.{Spares}
use Rattle.life_elab_laws.proofs.Elements.{element_there}
use Rattle.life_elab_laws.proofs.Fronts.{IsFront}
use Rattle.life_elab_laws.proofs.Gifts.{Gift, IsPlaceOf, a_place, a_pointer}
use Rattle.life_elab_laws.proofs.Growing.{Begins, begins_before}
use Rattle.life_elab_laws.proofs.HiddenLocals.{a_hidden, hidden_grows, hidden_part, with_hidden}
use Rattle.life_elab_laws.proofs.HiddenStay.{IsHidden}
use Rattle.life_elab_laws.proofs.Making.{AreHeld}
use Rattle.life_elab_laws.proofs.OwnerSteps.{owner_same}
use Rattle.life_elab_laws.proofs.Parts.{Part, seen_part}
use Rattle.life_elab_laws.proofs.PendingTemporaries.{IsTemporary}
use Rattle.life_elab_laws.proofs.Targets.{owner_target, target_no_void}
use Rattle.life_elab_laws.proofs.ViewSteps.{pointer_is_held}
use Rattle.life_elab_laws.proofs.WalkerSteps.{keeps_itself}
use Rattle.life_elab_laws.proofs.WrittenLocals.{fits_hidden}

-- what an owner of values has as its elements
owner_elements : (few more : Types) → IsFront few.types more.types → (t : Ty) → is_owner_of_values few t ≡ true → owned_element more t ≡ element_type few t
owner_elements few more front ty.Text o = refl
owner_elements few more front (ty.Vector item) o = element_there few more front item o
owner_elements few more front _ o = absurd (false≢true o)

one_same : {x y : ℕ} → x ∷ [] ≡ y ∷ [] → x ≡ y
one_same e = cc

-- a hidden local is no temporary
pub hidden_spared : (f : Function) (low : ℕ) (table : List Ty) (y : ℕ) → IsHidden f y → IsTemporary low f.locals table y → ⊥
hidden_spared f low table y hid is = false≢true (sym (ap (has_kind is_object) hid.there ∙ ap is_object hid.kind) ∙ ap (has_kind is_object) is.there ∙ ap is_object is.kind)

module _ (types : Types) (texts : ℕ) (fs : List Function) (f : Function) where
  -- ---- what a hidden reference or iterator points to

  pub behind_hidden : (x : ℕ) (u : Ty) (target : TyId) (c : Bool) (t : Ty) → type_in types f (whole x) ≡ u → pointee types u ≡ ty_of types target → target_of u ≡ Some target → is_constant u ≡ c
      → ty_of types target ≡ t → not (is_void t) ≡ true → IsPlaceOf types texts fs f t c (behind x)
  behind_hidden x u target c t at object has const typed there = record {
    typed =
        ap (λ (w : Ty). if not (is_void (pointee types w)) then ty_if types (target_of w) else ty.Void) at
        ∙ ap (λ (o : Option TyId). if not (is_void (pointee types u)) then ty_if types o else ty.Void) has
        ∙ ap (λ (b : Bool). if b then ty_of types target else ty.Void) (ap (λ (w : Ty). not (is_void w)) (object ∙ typed) ∙ there)
        ∙ typed;
    held = ap (λ (w : Ty). keeps_const c (is_constant w)) at ∙ ap (keeps_const c) const ∙ keeps_itself c;
  }

  -- ---- what has elements through a hidden local

  pub record IsHiddenBase (t : Ty) (constant : Bool) (b : Base) : Type 0 where
    pub of : IsBaseOf types texts fs f t constant b
    pub is : (y : ℕ) → base_uses b ≡ y ∷ [] → IsHidden f y

  abbrev pub a_hidden_base : Ty → Bool → Gift types texts fs f Base
  a_hidden_base t constant = record { typed = IsHiddenBase t constant; ready = IsBase; stays = base_stays types texts fs f }

  -- no temporary's end touches it
  pub base_spared : (t : Ty) (constant : Bool) (b : Base) (n : ℕ) (k j : List Known) → IsHiddenBase t constant b → IsBase b n k → Spares types texts fs f k j → IsBase b n j
  base_spared t constant b n k j is h spares = record { local = h.local; uses = h.uses; below = h.below; held = spares h.local (λ low. hidden_spared f low types.types h.local (is.is h.local h.uses)) ∙ h.held }

  -- a reference to an owner, at a place or made
  pub hidden_owner_part : (few : Types) → IsFront few.types types.types → (id : TyId) (constant : Bool) (t : Ty) (o : Operand) (colon : Place) (s : State) → is_owner_of_values few t ≡ true
      → (Begins types f s → ty_of types id ≡ t) → fits_hidden types s.types (ty.Reference id constant) ≡ true
      → Part types texts fs f (a_place types texts fs f t constant) o None s (mapped (λ r. Owner (behind r)) (built (Fill colon (pointed (aimed (Aimed o)))) (hidden colon (ty.Reference id constant)) s))
      (a_hidden_base (element_type few t) constant)
  hidden_owner_part few front id constant t o colon s own here fits =
      seen_part types texts fs f (a_place types texts fs f t constant) o None s (built (Fill colon (pointed (aimed (Aimed o)))) (hidden colon (ty.Reference id constant)) s) (a_hidden types texts fs f (ty.Reference id constant)) (λ r. Owner (behind r))
      (a_hidden_base (element_type few t) constant)
      (hidden_part types texts fs f colon (ty.Reference id constant) s fits (a_place types texts fs f t constant) o (pointed (aimed (Aimed o)))
      (λ b p y is. record {
        given = refl;
        formed =
            ap (λ (u : Ty). is_source_of types texts fs f u (Aimed o)) is.typed
            ∙ and_from (same (ty_of types id) (type_of types f o)) (keeps_const constant (is_const_place types f o)) (ap (same (ty_of types id)) p.typed ∙ ap (λ (u : Ty). same u t) (later b) ∙ owner_same few t own) p.held;
      })
      (λ n k h. record { uses = place_uses o ++ []; held = subst (λ (xs : List ℕ). AreHeld (xs ++ []) n k) (sym h.uses) ((h.below, h.held), tt); touches = λ x. refl }))
      (λ b is.
      let place = behind_hidden (length s.locals) (ty.Reference id constant) id constant t is.typed refl refl refl (later b) (target_no_void few t (owner_target few t own)) in
      record {
        of = record { element = ap (owned_element types) place.typed ∙ owner_elements few types front t own; held = place.held };
        is = λ y e. subst (λ (z : ℕ). IsHidden f z) (one_same e) is.is;
      })
      (λ n k q. record { local = length s.locals; uses = refl; below = q.0; held = q.1 })
    where
      later : Begins types f (with_hidden colon (ty.Reference id constant) s).state → ty_of types id ≡ t
      later b = here (begins_before types f s (with_hidden colon (ty.Reference id constant) s).state (hidden_grows colon (ty.Reference id constant) s) b)

  -- another view or span
  pub hidden_pointer_part : (t element : Ty) (constant : Bool) (l : Location) (colon : Place) (s : State) → takes types t t ≡ true → seen_element types t ≡ element → is_constant t ≡ constant → fits_hidden types s.types t ≡ true
      → Part types texts fs f (a_pointer types texts fs f t) l None s (mapped (λ r. Pointer (whole r)) (built (Fill colon (pointed (As l))) (hidden colon t) s)) (a_hidden_base element constant)
  hidden_pointer_part t element constant l colon s taken elements const fits =
      seen_part types texts fs f (a_pointer types texts fs f t) l None s (built (Fill colon (pointed (As l))) (hidden colon t) s) (a_hidden types texts fs f t) (λ r. Pointer (whole r)) (a_hidden_base element constant)
      (hidden_part types texts fs f colon t s fits (a_pointer types texts fs f t) l (pointed (As l))
      (λ b p y is. record {
        given = refl;
        formed = ap (λ (u : Ty). takes types u (type_in types f l)) is.typed ∙ ap (takes types t) p.typed ∙ taken;
      })
      (λ n k h. record { uses = l.local ∷ []; held = (pointer_is_held l n k h, tt); touches = λ x. refl }))
      (λ b is. record {
        of = record {
          element = ap (seen_element types) is.typed ∙ elements;
          held = ap (λ (u : Ty). keeps_const constant (is_constant u)) is.typed ∙ ap (keeps_const constant) const ∙ keeps_itself constant;
        };
        is = λ y e. subst (λ (z : ℕ). IsHidden f z) (one_same e) is.is;
      })
      (λ n k q. record { local = length s.locals; uses = refl; below = q.0; held = q.1 })
