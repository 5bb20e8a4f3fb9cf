-- What a parameter is handed by an owner, an iterator or a span: a view of a string, a span of a vector, or another iterator or span.
use Rattle.std.proofs.Common.{◌≡◌, inl, ℕ, Bool, true, false, List, ◌∷◌, None, Some, Option, slice_get, refl, sym, ap, ◌∙◌, subst, unwrap_or}
use Rattle.std.proofs.lemmas.Bool.{and_from, false≢true}
use Rattle.life_types.specs.Pointees.{or_void, ty_of}
use Rattle.life_types.specs.Types.{Types, is_slot_type}
use Rattle.life_types.specs.declared.ty.Ty.{Ty}
use Rattle.life_types.specs.declared.ty.Ty.TheVariants as ty
use Rattle.life_types.specs.declared.ty.TyId.{TyId}
use Rattle.life_elab_laws.proofs.ObjectTypes.{is_owner_of_values, is_walker_of_values}
use Rattle.life_typed.specs.BaseTypes.{type_at}
use Rattle.life_typed.specs.Conversions.{fits}
use Rattle.life_typed.specs.Delimiters.{DelimitersForm, behind_first, behind_others}
use Rattle.life_typed.specs.TypedForm.{Form, Typed, ◌⨟◌}
use Rattle.life_typed.specs.declared.typed_expr.ExprType.{ExprType}
use Rattle.life_typed.specs.declared.typed_expr.ExprType.TheVariants.{Of}
use Rattle.life_type_expr.specs.Lists.{fits_at_all}
use Rattle.life_core.specs.Function.{Function}
use Rattle.life_core.specs.Operands.{Argument, PointerOf}
use Rattle.life_proper.specs.OperandTypes.{keeps_const, same, takes}
use Rattle.life_well_typed.specs.Expressions.{typed_in}
use Rattle.life_well_typed.specs.Given.{is_given, is_number}
use Rattle.life_writer.specs.Around.{Around, own_type}
use Rattle.life_writer.specs.ExpressionForms.{all_uses, uses}
use Rattle.life_writer.specs.Giving as giving
use Rattle.life_writer.specs.Pointers.{located}
use Rattle.life_writer.specs.Uses.{own}
use Rattle.life_writer.specs.Using.{pointer, pointing, register_type}
use Rattle.life_writer.specs.Writing.{Gives, State, ◌>>◌, mapped}
use Rattle.life_typed.specs.declared.typed_expr.Category.{Category}
use Rattle.life_elab_laws.proofs.ExpressionForms.{Standing, pointer_part}
use Rattle.life_elab_laws.proofs.FormedFits.{given_raw, given_string, given_vector, given_walker}
use Rattle.life_elab_laws.proofs.FormedVariables.{owner_no_value, owner_no_location}
use Rattle.life_elab_laws.proofs.Gifts.{a_pointer, a_pointing, takes_from}
use Rattle.life_elab_laws.proofs.GivenKinds.{given_number, given_pointer, given_view}
use Rattle.life_elab_laws.proofs.HandedForms.{alias_first, owner_before}
use Rattle.life_elab_laws.proofs.HandedArguments.{Hands as AllHanded, pointer_handed}
use Rattle.life_elab_laws.proofs.HandedTypes.{IsHandedType, an_alias, an_owner, a_raw, a_reference, a_unique, a_value, a_view, a_walker, a_struct_alias, a_struct}
use Rattle.life_elab_laws.proofs.Locations.{is_location, is_pointed}
use Rattle.life_elab_laws.proofs.MadeForms.{IsOwning, owning_owner}
use Rattle.life_elab_laws.proofs.ObjectForms.{IsOwner}
use Rattle.life_elab_laws.proofs.Parts.{Makes}
use Rattle.life_elab_laws.proofs.PointedCalls.{gives_plainly}
use Rattle.life_elab_laws.proofs.PointerForms.{own_typed}
use Rattle.life_elab_laws.proofs.RowTypes.{sees}
use Rattle.life_elab_laws.proofs.SeenForms.{string_points}
use Rattle.life_elab_laws.proofs.Setting.{Setting}
use Rattle.life_elab_laws.proofs.VariablePlaces.{stands_later, walker_is}
use Rattle.life_elab_laws.proofs.WalkerForms.{IsWalker, vector_points, walker_pointer}
use Rattle.life_elab_laws.proofs.WalkerSteps.{keeps_itself}
use Rattle.life_elab_laws.proofs.WrittenLocals.{fits_register}
use Rattle.life_elab_laws.proofs.AliasForms.{no_owner_given, owning_aliased, owning_builds, value_reference_refused, walker_reference_refused, struct_reference_refused, owner_no_struct_given, walker_no_struct_given}
use Rattle.life_elab_laws.proofs.Targets.{owner_target, value_target, struct_target}
use Rattle.life_elab_laws.proofs.Elements.{one_element}
use Rattle.life_elab_laws.proofs.Values.{by_owners, by_walkers}

-- ---- what is handed to no such parameter

pub owner_no_iterator : (types : Types) (t : Ty) (e : Typed) → is_owner_of_values types t ≡ true → (target : TyId) (constant : Bool) → fits_at_all (fits types (ty.Iterator target constant) (Of t) e.category) ≡ true → ⊥
owner_no_iterator types ty.Text e o target constant h = false≢true h
owner_no_iterator types (ty.Vector item) e o target constant h = false≢true h
owner_no_iterator types _ e o target constant h = false≢true o

-- a unique_ptr
pub owner_no_unique_given : (types : Types) (t : Ty) → is_owner_of_values types t ≡ true → (target : TyId) (c : Category) → fits_at_all (fits types (ty.Unique target) (Of t) c) ≡ true → ⊥
owner_no_unique_given types = by_owners types _ (λ target c h. false≢true h) (λ item target c h. false≢true h)

-- no iterator and no span is given a unique_ptr
pub walker_no_unique_given : (types : Types) (t : Ty) → is_walker_of_values types t ≡ true → (owned : TyId) (c : Category) → fits_at_all (fits types t (Of (ty.Unique owned)) c) ≡ true → ⊥
walker_no_unique_given types = by_walkers types _ (λ item constant owned c h. false≢true h) (λ item constant owned c h. false≢true h)

pub unique_no_walker_given : (types : Types) (t : Ty) → is_walker_of_values types t ≡ true → (target : TyId) (c : Category) → fits_at_all (fits types (ty.Unique target) (Of t) c) ≡ true → ⊥
unique_no_walker_given types = by_walkers types _ (λ item held target c h. false≢true h) (λ item held target c h. false≢true h)

pub walker_no_raw : (types more : Types) (t : Ty) → is_walker_of_values types t ≡ true → (target : TyId) (constant : Bool) → takes_from more (ty.Raw target constant) (Of t) ≡ true → ⊥
walker_no_raw types more (ty.Iterator item held) w target constant h = false≢true h
walker_no_raw types more (ty.Span item held) w target constant h = false≢true h
walker_no_raw types more _ w target constant h = false≢true w

pub walker_no_text : (types : Types) (t : Ty) → is_walker_of_values types t ≡ true → sees (Of t) ≡ true → ⊥
walker_no_text types = by_walkers types _ (λ item held. false≢true) (λ item held. false≢true)

module _ (a : Around) (visible : List ℕ) (types : Types) (texts : ℕ) (fs : List Function) (f : Function) (setting : Setting a types fs f) where
  abbrev Stood : State → Type 0
  Stood s = Standing a visible types texts fs f setting s

  abbrev Hands : List TyId → State → Gives (List Argument) → Type 0
  Hands ids s w = AllHanded types texts fs f ids s w

  abbrev others_of : Form → DelimitersForm → List TyId → State → Gives (List Argument)
  others_of es d ids s = giving.arguments a (all_uses a es) (behind_others d) ids s

  -- ---- a pointer, before the others

  pointer_first : (e es : Form) (d : DelimitersForm) (id : TyId) (ids : List TyId) (t u : Ty) → ((s : State) → Stood s → Hands ids s (others_of es d ids s)) → slice_get a.program.types.types id.0 ≡ Some t → is_slot_type types (Some t) ≡ false
      → (s : State) → Stood s → giving.argument a (uses a e) t (behind_first d) s ≡ mapped PointerOf (pointer (uses a e) t s) → takes types t u ≡ true → Makes types texts fs f None s (pointer (uses a e) t s) (a_pointer types texts fs f u)
      → Hands (id ∷ ids) s (giving.arguments a (all_uses a (e ⨟ es)) d (id ∷ ids) s)
  pointer_first e es d id ids t u rest at none s stands alone taken first =
      let w = pointer (uses a e) t s in
      subst (λ (x : Ty). Hands (id ∷ ids) s (giving.argument a (uses a e) x (behind_first d) s >> λ x s. mapped (λ xs. x ∷ xs) (others_of es d ids s))) (sym (ap (λ (o : Option Ty). unwrap_or o ty.Void) at))
      (subst (λ (g : Gives Argument). Hands (id ∷ ids) s (g >> λ x s. mapped (λ xs. x ∷ xs) (others_of es d ids s))) (sym alone)
      (pointer_handed types texts fs f id t ids (others_of es d ids) s (ap or_void (setting.front id.0 t at)) u (pointer (uses a e) t) (ap (is_slot_type types) (setting.front id.0 t at) ∙ none) taken first
      (rest w.state (stands_later a visible s w.state first.grown stands))))

  -- ---- by an owner

  -- where what it gives a pointer lies
  owner_pointer : (e : Form) (o : IsOwner a visible types texts fs f setting e) (t : Ty) → is_location t ≡ true → fits_register a.program.types t ≡ true → (s : State) → Stood s
      → Makes types texts fs f None s (pointing (uses a e) s) (a_pointing types texts fs f (Of t)) → Makes types texts fs f None s (pointer (uses a e) t s) (a_pointer types texts fs f t)
  owner_pointer e o t loc fits s stands made =
      subst (λ (x : Ty). Makes types texts fs f None s (pointing (uses a e) s >> λ p s. located (uses a e).place x p s) (a_pointer types texts fs f t)) (sym (register_is o.ty o.owner (ap own_type (sym (own_typed a visible types texts fs f setting e) ∙ o.is))))
      (pointer_part a visible types texts fs f setting (pointing (uses a e)) (Of t) t (uses a e).place s refl loc fits stands (gives_plainly made))
    where
      register_is : (u : Ty) → is_owner_of_values a.program.types u ≡ true → own (uses a e) ≡ u → register_type t (own (uses a e)) ≡ t
      register_is = by_owners a.program.types _ (λ same. ap (register_type t) same) (λ item same. ap (register_type t) same)

  pub owner_first : (e es : Form) (d : DelimitersForm) (id : TyId) (ids : List TyId) → IsOwning a visible types texts fs f setting e → ((s : State) → Stood s → Hands ids s (others_of es d ids s)) → IsHandedType a.program.types id
      → is_given a.program.types (type_at a.program.types id) (typed_in e) ≡ true → (s : State) → Stood s → Hands (id ∷ ids) s (giving.arguments a (all_uses a (e ⨟ es)) d (id ∷ ids) s)
  owner_first e es d id ids from rest kind given s stands = go kind
    where
      o : IsOwner a visible types texts fs f setting e
      o = owning_owner a visible types texts fs f setting e from

      given_as : (t : Ty) → slice_get a.program.types.types id.0 ≡ Some t → is_given a.program.types t (typed_in e) ≡ true
      given_as t at = subst (λ (x : Ty). is_given a.program.types x (typed_in e) ≡ true) (ap (λ (o : Option Ty). unwrap_or o ty.Void) at) given

      no_number : is_number (typed_in e).ty ≡ true → ⊥
      no_number n = owner_no_value a.program.types o.ty o.owner (subst (λ (x : ExprType). is_number x ≡ true) o.is n)

      go : IsHandedType a.program.types id → Hands (id ∷ ids) s (giving.arguments a (all_uses a (e ⨟ es)) d (id ∷ ids) s)
      go (a_value worth) = absurd (no_number (given_number a.program.types (type_at a.program.types id) (typed_in e) worth given))
      go (a_raw target constant at worth) =
          absurd (owner_no_location a.program.types o.ty o.owner (subst (λ (x : ExprType). is_pointed x ≡ true) o.is (given_pointer a.program.types (ty.Raw target constant) (typed_in e) refl (given_as (ty.Raw target constant) at))))
      go (a_view at) =
          pointer_first e es d id ids ty.View ty.View rest at refl s stands refl refl
          (owner_pointer e o ty.View refl refl s stands (string_points a visible types texts fs f setting e o (given_string a.program.types o.ty (typed_in e) o.owner o.is (given_as ty.View at)) s stands))
      go (a_walker (ty.Iterator item constant) at w) =
          absurd (owner_no_iterator a.program.types o.ty (typed_in e) o.owner item constant (subst (λ (x : ExprType). fits_at_all (fits a.program.types (ty.Iterator item constant) x (typed_in e).category) ≡ true) o.is (given_as (ty.Iterator item constant) at)))
      go (a_walker (ty.Span item constant) at w) =
          let to = given_vector a.program.types item constant o.constant o.ty (typed_in e) o.owner o.is o.told (given_as (ty.Span item constant) at) in
          pointer_first e es d id ids (ty.Span item constant) (ty.Span item constant) rest at refl s stands refl
          (and_from (same (ty_of types item) (ty_of types item)) (keeps_const constant constant) (one_element a.program.types types setting.front item w) (keeps_itself constant))
          (owner_pointer e o (ty.Span item constant) refl w s stands (vector_points a visible types texts fs f setting e o item constant to.is to.kept s stands))
      go (a_walker _ at w) = absurd (false≢true w)
      go (a_unique target at w) =
          absurd (owner_no_unique_given a.program.types o.ty o.owner target (typed_in e).category (subst (λ (x : ExprType). fits_at_all (fits a.program.types (ty.Unique target) x (typed_in e).category) ≡ true) o.is (given_as (ty.Unique target) at)))
      go (an_owner t at owned) = owner_before a visible types texts fs f setting e es d id ids t at (inl owned) (λ s stands. owning_builds a visible types texts fs f setting e from t owned (given_as t at) (behind_first d) s stands) rest s stands
      go (an_alias target constant at owned) = alias_first a visible types texts fs f setting e es d id ids target constant (owning_aliased a visible types texts fs f setting e target constant owned (given_as (ty.Reference target constant) at) from) rest at (owner_target a.program.types (type_at a.program.types target) owned) (inl owned) s stands
      go (a_reference target constant at worth) = absurd (value_reference_refused a visible types texts fs f setting e target constant worth (given_as (ty.Reference target constant) at) from)
      go (a_struct number at) =
          absurd (owner_no_struct_given a.program.types o.ty o.owner number (typed_in e).category (subst (λ (x : ExprType). fits_at_all (fits a.program.types (ty.Struct number) x (typed_in e).category) ≡ true) o.is (given_as (ty.Struct number) at)))
      go (a_struct_alias target constant number at structure pointless) = absurd (struct_reference_refused a visible types texts fs f setting e target constant number structure (struct_target a.program.types (type_at a.program.types target) pointless) (given_as (ty.Reference target constant) at) from)

  -- ---- by an iterator or a span

  pub walker_first : (e es : Form) (d : DelimitersForm) (id : TyId) (ids : List TyId) → IsWalker a visible types texts fs f setting e → ((s : State) → Stood s → Hands ids s (others_of es d ids s)) → IsHandedType a.program.types id
      → is_given a.program.types (type_at a.program.types id) (typed_in e) ≡ true → (s : State) → Stood s → Hands (id ∷ ids) s (giving.arguments a (all_uses a (e ⨟ es)) d (id ∷ ids) s)
  walker_first e es d id ids from rest kind given s stands = go kind
    where
      given_as : (t : Ty) → slice_get a.program.types.types id.0 ≡ Some t → is_given a.program.types t (typed_in e) ≡ true
      given_as t at = subst (λ (x : Ty). is_given a.program.types x (typed_in e) ≡ true) (ap (λ (o : Option Ty). unwrap_or o ty.Void) at) given

      no_number : is_number (typed_in e).ty ≡ true → ⊥
      no_number n = false≢true (sym (walker_is a.program.types from.ty from.walker).value ∙ subst (λ (x : ExprType). is_number x ≡ true) from.is n)

      walks : (t : Ty) → slice_get a.program.types.types id.0 ≡ Some t → is_walker_of_values a.program.types t ≡ true → is_slot_type types (Some t) ≡ false
          → giving.argument a (uses a e) t (behind_first d) s ≡ mapped PointerOf (pointer (uses a e) t s) → Hands (id ∷ ids) s (giving.arguments a (all_uses a (e ⨟ es)) d (id ∷ ids) s)
      walks t at w none alone =
          pointer_first e es d id ids t from.ty rest at none s stands alone (given_walker a.program.types types setting.front t from.ty (typed_in e) w from.walker from.is (given_as t at))
          (walker_pointer a visible types texts fs f setting e from t s stands)

      go : IsHandedType a.program.types id → Hands (id ∷ ids) s (giving.arguments a (all_uses a (e ⨟ es)) d (id ∷ ids) s)
      go (a_value worth) = absurd (no_number (given_number a.program.types (type_at a.program.types id) (typed_in e) worth given))
      go (a_raw target constant at worth) =
          absurd (walker_no_raw a.program.types types from.ty from.walker target constant (subst (λ (x : ExprType). takes_from types (ty.Raw target constant) x ≡ true) from.is
          (given_raw a.program.types types setting.front target constant worth (typed_in e) (given_as (ty.Raw target constant) at))))
      go (a_view at) = absurd (walker_no_text a.program.types from.ty from.walker (subst (λ (x : ExprType). sees x ≡ true) from.is (given_view a.program.types (typed_in e) (given_as ty.View at))))
      go (a_walker (ty.Iterator item constant) at w) = walks (ty.Iterator item constant) at w refl refl
      go (a_walker (ty.Span item constant) at w) = walks (ty.Span item constant) at w refl refl
      go (a_walker _ at w) = absurd (false≢true w)
      go (a_unique target at w) =
          absurd (unique_no_walker_given a.program.types from.ty from.walker target (typed_in e).category (subst (λ (x : ExprType). fits_at_all (fits a.program.types (ty.Unique target) x (typed_in e).category) ≡ true) from.is (given_as (ty.Unique target) at)))
      go (an_owner t at owned) =
          absurd (no_owner_given a.program.types t owned from.ty (walker_is a.program.types from.ty from.walker).owner (typed_in e).category
          (subst (λ (x : ExprType). fits_at_all (fits a.program.types t x (typed_in e).category) ≡ true) from.is (given_as t at)))
      go (an_alias target constant at owned) = absurd (walker_reference_refused a visible types texts fs f setting e target constant (owner_target a.program.types (type_at a.program.types target) owned) (given_as (ty.Reference target constant) at) from)
      go (a_reference target constant at worth) = absurd (walker_reference_refused a visible types texts fs f setting e target constant (value_target a.program.types (type_at a.program.types target) worth) (given_as (ty.Reference target constant) at) from)
      go (a_struct number at) =
          absurd (walker_no_struct_given a.program.types from.ty from.walker number (typed_in e).category (subst (λ (x : ExprType). fits_at_all (fits a.program.types (ty.Struct number) x (typed_in e).category) ≡ true) from.is (given_as (ty.Struct number) at)))
      go (a_struct_alias target constant number at structure pointless) =
          absurd (walker_reference_refused a visible types texts fs f setting e target constant (struct_target a.program.types (type_at a.program.types target) pointless) (given_as (ty.Reference target constant) at) from)
