-- What a parameter is handed by a struct: a reference to it, or the whole of it, which is given over.
use Rattle.std.proofs.Common.{◌≡◌, ℕ, true, List, ◌∷◌, Some, Option, slice_get, refl, sym, ap, ◌∙◌, subst, unwrap_or, inr}
use Rattle.std.proofs.lemmas.Bool.{false≢true}
use Rattle.life_elab_laws.proofs.ObjectTypes.{is_owner_of_values, is_walker_of_values}
use Rattle.life_types.specs.TypeTests.{is_value}
use Rattle.life_types.specs.Types.{Types}
use Rattle.life_types.specs.declared.ty.Ty.{Ty}
use Rattle.life_types.specs.declared.ty.Ty.TheVariants as ty
use Rattle.life_types.specs.declared.ty.TyId.{TyId}
use Rattle.life_typed.specs.BaseTypes.{type_at}
use Rattle.life_typed.specs.Conversions.{fits}
use Rattle.life_typed.specs.Delimiters.{DelimitersForm, behind_others, behind_first}
use Rattle.life_typed.specs.TypedForm.{Form, ◌⨟◌}
use Rattle.life_typed.specs.declared.typed_expr.Category.{Category}
use Rattle.life_typed.specs.declared.typed_expr.ExprType.{ExprType}
use Rattle.life_typed.specs.declared.typed_expr.ExprType.TheVariants.{Of}
use Rattle.life_type_expr.specs.Lists.{fits_at_all}
use Rattle.life_core.specs.Function.{Function}
use Rattle.life_core.specs.Operands.{Argument}
use Rattle.life_well_typed.specs.Expressions.{typed_in}
use Rattle.life_well_typed.specs.Given.{is_given, is_number}
use Rattle.life_writer.specs.Around.{Around}
use Rattle.life_writer.specs.ExpressionForms.{all_uses, uses}
use Rattle.life_writer.specs.Giving as giving
use Rattle.life_writer.specs.Writing.{Gives, State}
use Rattle.life_elab_laws.proofs.AliasForms.{no_owner_given}
use Rattle.life_elab_laws.proofs.ExpressionForms.{Standing}
use Rattle.life_elab_laws.proofs.GivenKinds.{given_number, given_pointer, given_view}
use Rattle.life_elab_laws.proofs.HandedArguments.{Hands as AllHanded}
use Rattle.life_elab_laws.proofs.HandedForms.{alias_first, given_before}
use Rattle.life_elab_laws.proofs.HandedTypes.{IsHandedType, a_raw, a_reference, a_struct_alias, a_unique, a_value, a_view, a_walker, an_alias, an_owner, a_struct}
use Rattle.life_elab_laws.proofs.Locations.{is_pointed}
use Rattle.life_elab_laws.proofs.RowTypes.{sees}
use Rattle.life_elab_laws.proofs.MadeStructs.{IsAnyStruct, struct_typed, as_struct, unseen_over}
use Rattle.life_elab_laws.proofs.AdmittedTypes.{struct_built, struct_tabled}
use Rattle.life_elab_laws.proofs.Setting.{Setting}
use Rattle.life_elab_laws.proofs.StructReferences.{struct_aliased}
use Rattle.life_elab_laws.proofs.Targets.{owner_target, struct_target, value_target}
use Rattle.life_elab_laws.proofs.Values.{by_walkers}

-- ---- what is handed to no such parameter

pub struct_no_walker : (types : Types) (t : Ty) → is_walker_of_values types t ≡ true → (number : ℕ) (c : Category) → fits_at_all (fits types t (Of (ty.Struct number)) c) ≡ true → ⊥
struct_no_walker types = by_walkers types _ (λ item held number c h. false≢true h) (λ item held number c h. false≢true h)

module _ (a : Around) (visible : List ℕ) (types : Types) (texts : ℕ) (fs : List Function) (f : Function) (setting : Setting a types fs f) where
  abbrev Stood : State → Type 0
  Stood s = Standing a visible types texts fs f setting s

  abbrev Hands : List TyId → State → Gives (List Argument) → Type 0
  Hands ids s w = AllHanded types texts fs f ids s w

  abbrev others_of : Form → DelimitersForm → List TyId → State → Gives (List Argument)
  others_of es d ids s = giving.arguments a (all_uses a es) (behind_others d) ids s

  pub struct_first : (e es : Form) (d : DelimitersForm) (id : TyId) (ids : List TyId) → IsAnyStruct a visible types texts fs f setting e → ((s : State) → Stood s → Hands ids s (others_of es d ids s)) → IsHandedType a.program.types id
      → is_given a.program.types (type_at a.program.types id) (typed_in e) ≡ true → (s : State) → Stood s → Hands (id ∷ ids) s (giving.arguments a (all_uses a (e ⨟ es)) d (id ∷ ids) s)
  struct_first e es d id ids from rest kind given s stands = go kind
    where
      its : (number : ℕ) × ((typed_in e).ty ≡ Of (ty.Struct number))
      its = struct_typed a visible types texts fs f setting e from

      given_as : (t : Ty) → slice_get a.program.types.types id.0 ≡ Some t → is_given a.program.types t (typed_in e) ≡ true
      given_as t at = subst (λ (x : Ty). is_given a.program.types x (typed_in e) ≡ true) (ap (λ (o : Option Ty). unwrap_or o ty.Void) at) given

      type_there : (t : Ty) → slice_get a.program.types.types id.0 ≡ Some t → type_at a.program.types id ≡ t
      type_there t at = ap (λ (o : Option Ty). unwrap_or o ty.Void) at

      -- as what it is
      told : (t : Ty) → slice_get a.program.types.types id.0 ≡ Some t → fits_at_all (fits a.program.types t (Of (ty.Struct its.0)) (typed_in e).category) ≡ true
      told t at = subst (λ (x : ExprType). fits_at_all (fits a.program.types t x (typed_in e).category) ≡ true) its.1 (given_as t at)

      go : IsHandedType a.program.types id → Hands (id ∷ ids) s (giving.arguments a (all_uses a (e ⨟ es)) d (id ∷ ids) s)
      go (a_value worth) = absurd (false≢true (subst (λ (x : ExprType). is_number x ≡ true) its.1 (given_number a.program.types (type_at a.program.types id) (typed_in e) worth given)))
      go (a_raw target constant at worth) =
          absurd (false≢true (subst (λ (x : ExprType). is_pointed x ≡ true) its.1 (given_pointer a.program.types (ty.Raw target constant) (typed_in e) refl (given_as (ty.Raw target constant) at))))
      go (a_view at) = absurd (false≢true (subst (λ (x : ExprType). sees x ≡ true) its.1 (given_view a.program.types (typed_in e) (given_as ty.View at))))
      go (a_walker t at w) = absurd (struct_no_walker a.program.types t w its.0 (typed_in e).category (told t at))
      go (a_unique target at w) = absurd (false≢true (told (ty.Unique target) at))
      go (an_owner t at o) = absurd (no_owner_given a.program.types t o (ty.Struct its.0) refl (typed_in e).category (told t at))
      go (a_struct number at) =
          let built = inr (inr (struct_tabled a.program.types id number (type_there (ty.Struct number) at))) in
          given_before a visible types texts fs f setting e es d id ids (ty.Struct number) at built
          (λ s stands.
          unseen_over a visible types texts fs f setting number (λ (s : State). giving.given (uses a e) (ty.Struct number) (behind_first d) s)
          ((as_struct a visible types texts fs f setting e number from (given_as (ty.Struct number) at)).unseen (behind_first d)) (struct_tabled a.program.types id number (type_there (ty.Struct number) at)) (uses a e).place s stands) rest s stands
      go (an_alias target constant at o) =
          let to = struct_aliased a visible types texts fs f setting e target constant from (owner_target a.program.types (type_at a.program.types target) o) (given_as (ty.Reference target constant) at) in
          absurd (false≢true (sym (ap (is_owner_of_values a.program.types) to.structure) ∙ o))
      go (a_reference target constant at v) =
          let to = struct_aliased a visible types texts fs f setting e target constant from (value_target a.program.types (type_at a.program.types target) v) (given_as (ty.Reference target constant) at) in
          absurd (false≢true (sym (ap is_value to.structure) ∙ v))
      go (a_struct_alias target constant number at structure pointless) =
          let wide = struct_target a.program.types (type_at a.program.types target) pointless in
          let to = struct_aliased a visible types texts fs f setting e target constant from wide (given_as (ty.Reference target constant) at) in
          alias_first a visible types texts fs f setting e es d id ids target constant to.aliased rest at wide (struct_built a.program.types target number structure) s stands
