-- What ends is an object or a pointer, and neither the result nor a slot.
use Rattle.std.proofs.Common.{◌≡◌, ℕ, true, false, not, List, slice_get, Option, Some, refl, sym, ap, ◌∙◌, None, ◌≤◌, ◌<◌}
use Rattle.std.proofs.lemmas.Bool.{and_from, false≢true}
use Rattle.life_elab_laws.proofs.ObjectTypes.{is_owner_of_values, is_walker_of_values}
use Rattle.life_types.specs.Pointees.{ty_of}
use Rattle.life_types.specs.TypeTests.{is_value, is_void}
use Rattle.life_types.specs.Types.{Types, is_slot_type}
use Rattle.life_types.specs.declared.ty.NameId.{NameId}
use Rattle.life_types.specs.declared.ty.Ty.{Ty}
use Rattle.life_types.specs.declared.ty.Ty.TheVariants as ty
use Rattle.life_typed.specs.BaseTypes.{type_at}
use Rattle.life_core.specs.Function.{Function}
use Rattle.life_core.specs.declared.program.Local.{Local}
use Rattle.life_elab_laws.proofs.EndSteps.{ends_here}
use Rattle.life_elab_laws.proofs.Shaped.{AreShaped, is_passing, shaped_at}
use Rattle.life_elab_laws.proofs.Shaping.{is_lasting, lasts_at}
use Rattle.life_elab_laws.proofs.Following.{may_end}
use Rattle.life_elab_laws.proofs.Targets.{owner_target, reference_no_slot, value_target, struct_target}
use Rattle.life_elab_laws.proofs.VariablePlaces.{a_raw, a_reference, a_struct, a_unique, a_value, a_view, a_walker, an_alias, an_owner, IsVariableType, variable_type, a_struct_alias}
use Rattle.life_proper.specs.Placed.{is_slot_local, result_at, slot_at}
use Rattle.life_proper.specs.WellFormed.{can_end}
use Rattle.life_elab_laws.proofs.TemporaryEnds.{beyond_result, named_result}

-- ---- slots

value_no_slot : (types : Types) (t : Ty) → is_value t ≡ true → is_slot_type types (Some t) ≡ false
value_no_slot types (ty.Reference target constant) v = absurd (false≢true v)
value_no_slot types _ v = refl

walker_no_slot : (types : Types) (t : Ty) → is_walker_of_values types t ≡ true → is_slot_type types (Some t) ≡ false
walker_no_slot types (ty.Reference target constant) w = absurd (false≢true w)
walker_no_slot types _ w = refl

owner_no_slot : (types : Types) (t : Ty) → is_owner_of_values types t ≡ true → is_slot_type types (Some t) ≡ false
owner_no_slot types (ty.Reference target constant) o = absurd (false≢true o)
owner_no_slot types _ o = refl

module _ (types : Types) (texts : ℕ) (fs : List Function) (f : Function) (shaped : AreShaped types f.locals)
    (nameless : (l : Local) → slice_get f.locals f.parameters ≡ Some l → is_void (ty_of types f.result) ≡ false → l.name ≡ None)
    (low : ℕ) (own : is_void (ty_of types f.result) ≡ false → f.parameters < low) where
  -- what lives isn't the result
  no_result : (y : ℕ) (l : Local) → slice_get f.locals y ≡ Some l → (l.name ≡ None → low ≤ y) → not (result_at types f y) ≡ true
  no_result y l at beyond = go l.name refl
    where
      go : (o : Option NameId) → l.name ≡ o → not (result_at types f y) ≡ true
      go None none = beyond_result types texts fs f low y own (beyond none)
      go (Some n) some = named_result types texts fs f nameless y l at (λ none. clash (sym some ∙ none))
        where
          clash : ◌≡◌ {A = Option NameId} (Some n) None → ⊥
          clash e = cc

  -- what lives
  pub variable_ends : (y : ℕ) (l : Local) → slice_get f.locals y ≡ Some l → is_passing l ≡ false → (l.name ≡ None → low ≤ y) → may_end types f y ≡ true → ends_here types texts fs f y ≡ true
  variable_ends y l at lasts beyond ends =
      go (variable_type types l.ty (shaped_at types f.locals y l shaped at lasts))
    where
      both : is_slot_type types (slice_get types.types l.ty.0) ≡ false → ends_here types texts fs f y ≡ true
      both slot =
          and_from (can_end types texts fs f y) (lasts_at f y)
          (and_from (may_end types f y) _ ends
          (and_from (not (result_at types f y)) (not (slot_at types f y)) (no_result y l at beyond) (ap (λ (o : Option Local). not (is_slot_local types f o)) at ∙ ap not slot)))
          (ap is_lasting at ∙ ap not lasts)

      go : IsVariableType types l.ty → ends_here types texts fs f y ≡ true
      go (a_value t found v) = both (ap (is_slot_type types) found ∙ value_no_slot types t v)
      go (a_walker t found w) = both (ap (is_slot_type types) found ∙ walker_no_slot types t w)
      go (a_unique target found v) = both (ap (is_slot_type types) found)
      go (a_struct number found) = both (ap (is_slot_type types) found)
      go (an_owner t found o) = both (ap (is_slot_type types) found ∙ owner_no_slot types t o)
      go (a_raw target constant found v) = both (ap (is_slot_type types) found)
      go (a_view found) = both (ap (is_slot_type types) found)
      go (a_reference target constant found v) = both (ap (is_slot_type types) found ∙ reference_no_slot types target constant (value_target types (type_at types target) v))
      go (a_struct_alias target constant number found structure pointless) = both (ap (is_slot_type types) found ∙ reference_no_slot types target constant (struct_target types (type_at types target) pointless))
      go (an_alias target constant found o) = both (ap (is_slot_type types) found ∙ reference_no_slot types target constant (owner_target types (type_at types target) o))
