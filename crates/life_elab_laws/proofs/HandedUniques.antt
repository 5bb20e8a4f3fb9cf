-- What a parameter is handed by a unique_ptr that is made or moved: it is given over, to a unique_ptr and to nothing else.
use Rattle.std.proofs.Common.{◌≡◌, inr, ℕ, Bool, true, List, ◌∷◌, Some, Option, slice_get, refl, sym, ap, ◌∙◌, subst, unwrap_or, inl}
use Rattle.std.proofs.lemmas.Bool.{false≢true}
use Rattle.life_types.specs.Types.{Types}
use Rattle.life_types.specs.TypeTests.{is_value}
use Rattle.life_types.specs.declared.ty.Ty.{Ty}
use Rattle.life_types.specs.declared.ty.Ty.TheVariants as ty
use Rattle.life_types.specs.declared.ty.TyId.{TyId}
use Rattle.life_elab_laws.proofs.ObjectTypes.{is_owner_of_values}
use Rattle.life_elab_laws.proofs.TypeKinds.{is_struct_type}
use Rattle.life_typed.specs.BaseTypes.{type_at}
use Rattle.life_typed.specs.Conversions.{fits}
use Rattle.life_typed.specs.Delimiters.{DelimitersForm, behind_first, behind_others}
use Rattle.life_typed.specs.TypedForm.{Form, ◌⨟◌}
use Rattle.life_typed.specs.declared.typed_expr.ExprType.{ExprType}
use Rattle.life_typed.specs.declared.typed_expr.ExprType.TheVariants.{Of}
use Rattle.life_type_expr.specs.Lists.{fits_at_all}
use Rattle.life_core.specs.Function.{Function}
use Rattle.life_core.specs.Operands.{Argument}
use Rattle.life_well_typed.specs.Expressions.{typed_in}
use Rattle.life_well_typed.specs.Given.{is_given, is_number}
use Rattle.life_writer.specs.Around.{Around}
use Rattle.life_writer.specs.ExpressionForms.{all_uses}
use Rattle.life_writer.specs.Giving as giving
use Rattle.life_writer.specs.Writing.{Gives, State}
use Rattle.life_elab_laws.proofs.RowTypes.{sees}
use Rattle.life_elab_laws.proofs.AliasForms.{no_owner_given}
use Rattle.life_elab_laws.proofs.ExpressionForms.{Standing}
use Rattle.life_elab_laws.proofs.FormedFits.{IsBound, at_place, by_temporary, given_bound}
use Rattle.life_elab_laws.proofs.FreshUniques.{IsFresh, fresh_builds}
use Rattle.life_elab_laws.proofs.GivenKinds.{given_number, given_pointer, given_view}
use Rattle.life_elab_laws.proofs.HandedArguments.{Hands as AllHanded}
use Rattle.life_elab_laws.proofs.HandedForms.{owner_before}
use Rattle.life_elab_laws.proofs.HandedOwners.{walker_no_unique_given}
use Rattle.life_elab_laws.proofs.HandedTypes.{IsHandedType, a_raw, a_reference, a_unique, a_value, a_view, a_walker, an_alias, an_owner, a_struct_alias, a_struct}
use Rattle.life_elab_laws.proofs.Locations.{is_pointed}
use Rattle.life_elab_laws.proofs.Setting.{Setting}
use Rattle.life_elab_laws.proofs.Targets.{owner_target, value_target, struct_target}
use Rattle.life_elab_laws.proofs.TypedKinds.{value_place}
use Rattle.life_elab_laws.proofs.StructReferences.{struct_alone}

module _ (a : Around) (visible : List ℕ) (types : Types) (texts : ℕ) (fs : List Function) (f : Function) (setting : Setting a types fs f) where
  abbrev Stood : State → Type 0
  Stood s = Standing a visible types texts fs f setting s

  abbrev Hands : List TyId → State → Gives (List Argument) → Type 0
  Hands ids s w = AllHanded types texts fs f ids s w

  abbrev others_of : Form → DelimitersForm → List TyId → State → Gives (List Argument)
  others_of es d ids s = giving.arguments a (all_uses a es) (behind_others d) ids s

  pub fresh_first : (e es : Form) (d : DelimitersForm) (id : TyId) (ids : List TyId) → IsFresh a visible types texts fs f setting e → ((s : State) → Stood s → Hands ids s (others_of es d ids s)) → IsHandedType a.program.types id
      → is_given a.program.types (type_at a.program.types id) (typed_in e) ≡ true → (s : State) → Stood s → Hands (id ∷ ids) s (giving.arguments a (all_uses a (e ⨟ es)) d (id ∷ ids) s)
  fresh_first e es d id ids from rest kind given s stands = go kind
    where
      given_as : (t : Ty) → slice_get a.program.types.types id.0 ≡ Some t → is_given a.program.types t (typed_in e) ≡ true
      given_as t at = subst (λ (x : Ty). is_given a.program.types x (typed_in e) ≡ true) (ap (λ (o : Option Ty). unwrap_or o ty.Void) at) given

      -- as what it is
      told : (t : Ty) → is_given a.program.types t (typed_in e) ≡ true → fits_at_all (fits a.program.types t (Of (ty.Unique from.owned)) (typed_in e).category) ≡ true
      told t h = subst (λ (x : ExprType). fits_at_all (fits a.program.types t x (typed_in e).category) ≡ true) from.is h

      no_number : (t : Ty) → is_value t ≡ true → is_given a.program.types t (typed_in e) ≡ true → ⊥
      no_number t v h = false≢true (subst (λ (x : ExprType). is_number x ≡ true) from.is (given_number a.program.types t (typed_in e) v h))

      no_owner : (t : Ty) → is_owner_of_values a.program.types t ≡ true → is_given a.program.types t (typed_in e) ≡ true → ⊥
      no_owner t o h = no_owner_given a.program.types t o (ty.Unique from.owned) refl (typed_in e).category (told t h)

      -- it is no place, and nothing that a reference to a value or an owner may be bound to is made of it
      no_place : (target : TyId) (constant : Bool) → IsBound a.program.types target constant (typed_in e) → (is_given a.program.types (type_at a.program.types target) (typed_in e) ≡ true → ⊥) → ⊥
      no_place target constant (at_place there) none = value_place (sym from.value ∙ there.place)
      no_place target constant (by_temporary other initial) none = none initial

      go : IsHandedType a.program.types id → Hands (id ∷ ids) s (giving.arguments a (all_uses a (e ⨟ es)) d (id ∷ ids) s)
      go (a_value worth) = absurd (no_number (type_at a.program.types id) worth given)
      go (a_raw target constant at worth) =
          absurd (false≢true (subst (λ (x : ExprType). is_pointed x ≡ true) from.is (given_pointer a.program.types (ty.Raw target constant) (typed_in e) refl (given_as (ty.Raw target constant) at))))
      go (a_view at) = absurd (false≢true (subst (λ (x : ExprType). sees x ≡ true) from.is (given_view a.program.types (typed_in e) (given_as ty.View at))))
      go (a_walker t at w) = absurd (walker_no_unique_given a.program.types t w from.owned (typed_in e).category (told t (given_as t at)))
      go (an_owner t at o) = absurd (no_owner t o (given_as t at))
      go (an_alias target constant at o) =
          absurd (no_place target constant (given_bound a.program.types target constant (typed_in e) (owner_target a.program.types (type_at a.program.types target) o) (given_as (ty.Reference target constant) at))
          (no_owner (type_at a.program.types target) o))
      go (a_reference target constant at v) =
          absurd (no_place target constant (given_bound a.program.types target constant (typed_in e) (value_target a.program.types (type_at a.program.types target) v) (given_as (ty.Reference target constant) at))
          (no_number (type_at a.program.types target) v))
      go (a_struct_alias target constant number at structure pointless) =
          absurd (false≢true (subst (λ (x : ExprType). is_struct_type x ≡ true) from.is
          (struct_alone a.program.types target constant number (typed_in e) structure (struct_target a.program.types (type_at a.program.types target) pointless) (given_as (ty.Reference target constant) at) (λ held place. absurd (value_place (sym from.value ∙ place))))))
      go (a_struct number at) = absurd (false≢true (told (ty.Struct number) (given_as (ty.Struct number) at)))
      go (a_unique target at w) =
          owner_before a visible types texts fs f setting e es d id ids (ty.Unique target) at (inr (inl w))
          (λ s stands. fresh_builds a visible types texts fs f setting e from target w (given_as (ty.Unique target) at) (behind_first d) s stands) rest s stands
