-- What is behind a pointer, and what a reference refers to that a call gives, whatever it is: its place, and its address.
use Rattle.std.proofs.Common.{◌≡◌, ℕ, Bool, true, false, List, Ok, Some, None, refl, sym, ap, ◌∙◌, subst, slice_get, ◌∷◌, []}
use Rattle.std.proofs.lemmas.Bool.{and_from, false≢true}
use Rattle.life_elab_laws.proofs.ObjectTypes.{is_target}
use Rattle.life_types.specs.Pointees.{ty_of}
use Rattle.life_types.specs.Types.{Types}
use Rattle.life_types.specs.declared.place.Place.{Place}
use Rattle.life_types.specs.declared.ty.Ty.{Ty}
use Rattle.life_types.specs.declared.ty.Ty.TheVariants as ty
use Rattle.life_types.specs.declared.ty.TyId.{TyId}
use Rattle.life_typed.specs.BaseTypes.{type_at}
use Rattle.life_typed.specs.Delimiters.{DelimitersForm}
use Rattle.life_typed.specs.Operators.{dereferenced}
use Rattle.life_typed.specs.Programs.{FunctionForm}
use Rattle.life_typed.specs.TypedForm.{Form, Typed, address_of, call, dereference, typed}
use Rattle.life_typed.specs.declared.typed_expr.Category.{Category}
use Rattle.life_typed.specs.declared.typed_expr.Category.TheVariants as category
use Rattle.life_typed.specs.declared.typed_expr.ExprType.{ExprType}
use Rattle.life_typed.specs.declared.typed_expr.ExprType.TheVariants.{Of}
use Rattle.life_type_expr.specs.Operands.{dereferenced_to, place_of, pointed_to, value}
use Rattle.life_core.specs.Function.{Function}
use Rattle.life_core.specs.Operands.{Location, Operand, Place as Aimed, Through, behind as through}
use Rattle.life_proper.specs.OperandTypes.{aims_at, keeps_const, same}
use Rattle.life_proper.specs.Placed.{is_const_place}
use Rattle.life_proper.specs.Placed as placed
use Rattle.life_proper.specs.WellFormed.{is_itself}
use Rattle.life_well_typed.specs.Expressions.{IsAddress, parameter_types, typed_in}
use Rattle.life_well_typed.specs.Given.{is_number}
use Rattle.life_writer.specs.Around.{Around, own_type, parameters_of}
use Rattle.life_writer.specs.Around as around
use Rattle.life_writer.specs.Bases.{reference_to}
use Rattle.life_writer.specs.Building.{Fill, built}
use Rattle.life_writer.specs.Calls.{called}
use Rattle.life_writer.specs.ExpressionForms.{all_uses, form_uses, uses}
use Rattle.life_writer.specs.Giving as giving
use Rattle.life_writer.specs.Pointers.{aimed, located}
use Rattle.life_writer.specs.Registers.{wanted}
use Rattle.life_writer.specs.Uses.{own}
use Rattle.life_writer.specs.Using.{operand}
use Rattle.life_writer.specs.Writing.{Gives, State, gives, mapped}
use Rattle.life_elab_laws.proofs.Aiming.{place_given}
use Rattle.life_elab_laws.proofs.CalledPointers.{referred_call}
use Rattle.life_elab_laws.proofs.ExpressionForms.{Hands, IsForm, IsWhole, Placed, Points, Standing, no_literal, pointer_form, no_null}
use Rattle.life_elab_laws.proofs.Filling.{aimed_filling}
use Rattle.life_elab_laws.proofs.FormedVariables.{behind_place}
use Rattle.life_elab_laws.proofs.Gifts.{a_place, a_pointer, a_pointing, nothing as no_gift}
use Rattle.life_elab_laws.proofs.Parts.{seen_part}
use Rattle.life_elab_laws.proofs.PointerForms.{own_typed, placed_operand, raw_target, result_later}
use Rattle.life_elab_laws.proofs.Setting.{Setting}
use Rattle.life_elab_laws.proofs.Targets.{one_target, target_no_void, target_type}
use Rattle.life_elab_laws.proofs.TypedKinds.{HasKind, a_null, a_number, a_pointer as is_pointer_kind, a_text, a_view, err_ok, no_value, ok_same, value_place}
use Rattle.life_elab_laws.proofs.Values.{by_values}
use Rattle.life_elab_laws.proofs.VariablePlaces.{stands_later}

-- ---- what is behind a raw pointer

pub record IsBehind (types : Types) (inner e : Typed) : Type 0 where
  pub target : TyId
  pub constant : Bool
  pub pointer : inner.ty ≡ Of (ty.Raw target constant)
  pub wide : is_target types (type_at types target) ≡ true
  pub form : Form
  pub is : e ≡ place_of types target constant e.place form

pub behind_pointer : (types : Types) (inner e : Typed) → HasKind types inner → pointed_to types e.place inner ≡ Ok e → IsBehind types inner e
behind_pointer types inner e kind h = go kind
  where
    refused : dereferenced inner.ty ≡ None → IsBehind types inner e
    refused none = absurd (err_ok (sym (ap (λ o. dereferenced_to o types e.place inner) none) ∙ h))

    go : HasKind types inner → IsBehind types inner e
    go (a_number t is v) = refused (ap dereferenced is ∙ by_values (λ t. dereferenced (Of t) ≡ None) refl refl refl refl refl t v)
    go (no_value is v) = refused (ap dereferenced is)
    go (a_null is v) = refused (ap dereferenced is)
    go (a_view is) = refused (ap dereferenced is)
    go (a_text is v) = refused (ap dereferenced is)
    go (is_pointer_kind target constant is v) = record {
      target = target;
      constant = constant;
      pointer = is;
      wide = v;
      form = dereference (typed inner.place inner.ty inner.category inner.form);
      is = sym (ok_same (sym (ap (λ t. dereferenced_to (dereferenced t) types e.place inner) is) ∙ h));
    }

module _ (a : Around) (visible : List ℕ) (types : Types) (texts : ℕ) (fs : List Function) (f : Function) (setting : Setting a types fs f) where
  abbrev Stood : State → Type 0
  Stood s = Standing a visible types texts fs f setting s

  abbrev PlacedAs : Ty → Bool → State → Gives Operand → Type 0
  PlacedAs t constant s w = Placed a visible types texts fs f setting t constant s w

  module _ (inner : Form) (e : Typed) (place : Place) (is : IsWhole a visible types texts fs f setting inner) (d : IsBehind a.program.types (typed_in inner) e) where
    pointer_own : own (uses a inner) ≡ ty.Raw d.target d.constant
    pointer_own = sym (ap own_type (own_typed a visible types texts fs f setting inner)) ∙ ap own_type d.pointer

    reached : (s : State) → (form_uses a (dereference inner) place e.ty e.category).at s
        ≡ (let w = uses a inner in let l = located w.place (own w) (w.pointing s).given (w.pointing s).state in gives (Through l.given []) l.state)
    reached s =
        raw_target a visible types texts fs f setting (uses a inner) (ty.Raw d.target d.constant) place e.category s pointer_own refl
        ∙ ap (mapped (λ (q : Location). Through q [])) (ap (λ (x : Ty). located (uses a inner).place x ((uses a inner).pointing s).given ((uses a inner).pointing s).state) (sym pointer_own))

    pub behind_named : (s : State) → Stood s → PlacedAs (type_at a.program.types d.target) d.constant s ((form_uses a (dereference inner) place e.ty e.category).at s)
    behind_named s stands =
        let w = uses a inner in
        let l = located w.place (own w) (w.pointing s).given (w.pointing s).state in
        subst (λ (g : Gives Operand). PlacedAs (type_at a.program.types d.target) d.constant s g) (sym (reached s))
        (seen_part types texts fs f (no_gift types texts fs f) tt None s l (a_pointer types texts fs f (ty.Raw d.target d.constant)) (λ q. Through q []) (a_place types texts fs f (type_at a.program.types d.target) d.constant)
        (is.pointers (ty.Raw d.target d.constant) d.pointer refl s stands)
        (λ b h. behind_place types texts fs f l.given (ty.Raw d.target d.constant) d.target d.constant (type_at a.program.types d.target) h refl refl refl
        (target_type a.program.types types setting.front d.target d.wide) (target_no_void a.program.types (type_at a.program.types d.target) d.wide))
        (λ n k q. record { local = q.local; uses = ap (λ (x : ℕ). x ∷ []) q.is; below = q.below; held = q.held }))

    -- no local stands there
    pub behind_apart : (s : State) (y : ℕ) → is_itself types texts fs f y ((form_uses a (dereference inner) place e.ty e.category).at s).given ≡ false
    behind_apart s y = ap (λ (g : Gives Operand). is_itself types texts fs f y g.given) (reached s)

  -- ---- what a call gives a reference to

  pub call_named : (g : ℕ) (given : Form) (delimiters : DelimitersForm) (e : Typed) (place : Place) (of : FunctionForm) → slice_get a.program.functions g ≡ Some of → (target : TyId) (constant : Bool)
      → type_at a.program.types of.result ≡ ty.Reference target constant → is_target a.program.types (type_at a.program.types target) ≡ true → e.category ≡ category.Place target constant
      → (s : State) → Stood s → Hands a visible types texts fs f setting of s (giving.arguments a (all_uses a given) delimiters (parameter_types (Some of)) s)
      → PlacedAs (type_at a.program.types target) constant s ((form_uses a (call g given delimiters) place e.ty e.category).at s)
  call_named g given delimiters e place of at target constant refers wide held s stands hands =
      let first = subst (λ (ids : List TyId). Hands a visible types texts fs f setting of s (giving.arguments a (all_uses a given) delimiters ids s)) (sym (ap parameters_of at)) hands in
      subst (λ (t : Ty). PlacedAs (type_at a.program.types target) constant s (mapped through (built (Fill place (called g (giving.arguments a (all_uses a given) delimiters (around.parameter_types a g) s).given)) (wanted place None t) (giving.arguments a (all_uses a given) delimiters (around.parameter_types a g) s).state))) (sym (ap reference_to held))
      (referred_call types texts fs f g of (setting.callees g of at) s (giving.arguments a (all_uses a given) delimiters (around.parameter_types a g) s) first a.program.types setting.front target constant wide
      (result_later a visible types texts fs f setting g of at ∙ refers) place (stands_later a visible s (giving.arguments a (all_uses a given) delimiters (around.parameter_types a g) s).state first.grown stands).table setting.plain)

  -- ---- the address of what stands at a place

  pub place_address_form : (inner : Form) (e : Typed) (id : TyId) (constant : Bool) (t : Ty) → (typed_in inner).category ≡ category.Place id constant → type_at a.program.types id ≡ t → is_target a.program.types t ≡ true
      → ((s : State) → Stood s → PlacedAs t constant s ((uses a inner).at s)) → IsAddress a.program.types (typed_in inner).category e → IsForm a visible types texts fs f setting (address_of inner) e
  place_address_form inner e id constant t place here worth names h =
      pointer_form a visible types texts fs f setting (address_of inner) e (record { kind = is_pointer_kind id constant typed_as wide; place = λ i c at. absurd (value_place (sym no ∙ at)) }) no (λ n. false≢true (sym (ap is_number typed_as) ∙ n)) refl (λ place b. refl)
      (λ at. absurd (no_literal a visible types texts fs f setting (ty.Raw id constant) (sym typed_as ∙ at))) (λ at. absurd (no_null a visible types texts fs f setting (ty.Raw id constant) (sym typed_as ∙ at)))
      (λ p at s stands. subst (λ (t : ExprType). Points a visible types texts fs f setting t s (mapped (λ o. aimed (Aimed o)) (operand (uses a inner) s))) (sym typed_as)
      (seen_part types texts fs f (no_gift types texts fs f) tt None s (operand (uses a inner) s) (a_place types texts fs f t constant) (λ o. aimed (Aimed o)) (a_pointing types texts fs f (Of (ty.Raw id constant)))
      (subst (λ (g : Gives Operand). PlacedAs t constant s g) (sym (placed_operand a visible types texts fs f setting inner id constant s place)) (names s stands))
      (λ b h.
      place_given types texts fs f (ty.Raw id constant) (operand (uses a inner) s).given
      (and_from (aims_at types (ty.Raw id constant) (placed.type_of types f (operand (uses a inner) s).given)) (keeps_const constant (is_const_place types f (operand (uses a inner) s).given))
      (ap (same (ty_of types id)) (h.typed ∙ sym here ∙ sym (target_type a.program.types types setting.front id wide)) ∙ one_target a.program.types types setting.front id wide) h.held))
      (λ n k q. aimed_filling f (operand (uses a inner) s).given n k q)))
    where
      addressed : e ≡ value e.place (ty.Raw id constant) e.form
      addressed = (subst (λ (c : Category). IsAddress a.program.types c e) place h).1

      typed_as : e.ty ≡ Of (ty.Raw id constant)
      typed_as = ap (λ (y : Typed). y.ty) addressed

      no : e.category ≡ category.Value
      no = ap (λ (y : Typed). y.category) addressed

      wide : is_target a.program.types (type_at a.program.types id) ≡ true
      wide = ap (is_target a.program.types) here ∙ worth
