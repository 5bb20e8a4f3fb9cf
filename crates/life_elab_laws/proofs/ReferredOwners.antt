-- Owners behind pointers and references: what a raw pointer points to, what a call that gives a reference answers, and their addresses.
use Rattle.std.proofs.Common.{◌≡◌, ℕ, Bool, true, false, List, Ok, Option, Some, None, refl, sym, ap, ◌∙◌, subst, slice_get, inl}
use Rattle.std.proofs.lemmas.Bool.{false≢true}
use Rattle.life_elab_laws.proofs.ObjectTypes.{is_owner_of_values, is_walker_of_values}
use Rattle.life_elab_laws.proofs.TypeKinds.{is_owner_type, owns_elements, is_walker_type}
use Rattle.life_types.specs.TypeTests.{is_value}
use Rattle.life_types.specs.Types.{Types}
use Rattle.life_types.specs.declared.place.Place.{Place}
use Rattle.life_types.specs.declared.ty.Ty.{Ty}
use Rattle.life_types.specs.declared.ty.Ty.TheVariants as ty
use Rattle.life_types.specs.declared.ty.TyId.{TyId}
use Rattle.life_typed.specs.BaseTypes.{type_at}
use Rattle.life_typed.specs.Delimiters.{DelimitersForm}
use Rattle.life_typed.specs.Programs.{FunctionForm}
use Rattle.life_typed.specs.TypedForm.{Form, Typed, address_of, call, dereference}
use Rattle.life_typed.specs.declared.typed_expr.Category.{Category}
use Rattle.life_typed.specs.declared.typed_expr.Category.TheVariants as category
use Rattle.life_typed.specs.declared.typed_expr.ExprType.{ExprType}
use Rattle.life_typed.specs.declared.typed_expr.ExprType.TheVariants.{Of}
use Rattle.life_type_expr.specs.Operands.{pointed_to}
use Rattle.life_core.specs.Function.{Function}
use Rattle.life_core.specs.Operands.{Operand}
use Rattle.life_well_typed.specs.Expressions.{HasResult, IsAddress, parameter_types, typed_in}
use Rattle.life_writer.specs.Around.{Around, parameters_of}
use Rattle.life_writer.specs.Around as around
use Rattle.life_writer.specs.ExpressionForms.{all_uses, form_uses}
use Rattle.life_writer.specs.Giving as giving
use Rattle.life_writer.specs.Writing.{Gives, State}
use Rattle.life_elab_laws.proofs.BehindPointers.{IsBehind, behind_apart, behind_named, behind_pointer, call_named, place_address_form}
use Rattle.life_elab_laws.proofs.CalledPointers.{walked_call}
use Rattle.life_elab_laws.proofs.ExpressionForms.{Hands, IsForm, IsWhole, Placed, Standing}
use Rattle.life_elab_laws.proofs.ExpressionTypes.{IsAnswered, answered_as, answers_nothing, answers_owner, answers_place, answers_raw, answers_value, answers_view, answers_walker, answers_struct, answers_made, answers_unique, answers_whole}
use Rattle.life_elab_laws.proofs.ObjectForms.{IsObject, IsObjectAt}
use Rattle.life_elab_laws.proofs.PointerForms.{result_later}
use Rattle.life_elab_laws.proofs.ResultTypes.{result_is}
use Rattle.life_elab_laws.proofs.Setting.{Setting}
use Rattle.life_elab_laws.proofs.Targets.{IsTarget, owner_target, target_is, to_owner, to_struct, to_value}
use Rattle.life_elab_laws.proofs.TypedKinds.{value_place}
use Rattle.life_elab_laws.proofs.Values.{by_values}
use Rattle.life_elab_laws.proofs.VariablePlaces.{walker_is}
use Rattle.life_elab_laws.proofs.WalkerForms.{IsWalkerAt, owner_no_walker, value_no_walker}
use Rattle.life_elab_laws.proofs.FormedFits.{walker_itself}
use Rattle.life_elab_laws.proofs.PointedCalls.{gives_called}
use Rattle.life_elab_laws.proofs.CalledOwners.{call_builds}
use Rattle.life_elab_laws.proofs.MadeForms.{IsMadeAt}
use Rattle.life_typed.specs.Conversions.{is_place}

-- ---- what is behind a raw pointer

pub owner_behind : (types : Types) (inner e : Typed) (d : IsBehind types inner e) → is_owner_type e.ty ≡ true → is_owner_of_values types (type_at types d.target) ≡ true
owner_behind types inner e d n = owns (target_is types (type_at types d.target) d.wide)
  where
    told : owns_elements (type_at types d.target) ≡ true
    told = subst (λ (x : ExprType). is_owner_type x ≡ true) (ap (λ (y : Typed). y.ty) d.is) n

    no_owner : (t : Ty) → is_value t ≡ true → owns_elements t ≡ false
    no_owner = by_values (λ t. owns_elements t ≡ false) refl refl refl refl refl

    owns : IsTarget types (type_at types d.target) → is_owner_of_values types (type_at types d.target) ≡ true
    owns (to_owner o) = o
    owns (to_value v) = absurd (false≢true (sym (no_owner (type_at types d.target) v) ∙ told))
    owns (to_struct number s pointless) = absurd (false≢true (sym (ap owns_elements s) ∙ told))

module _ (a : Around) (visible : List ℕ) (types : Types) (texts : ℕ) (fs : List Function) (f : Function) (setting : Setting a types fs f) where
  abbrev Stood : State → Type 0
  Stood s = Standing a visible types texts fs f setting s

  abbrev PlacedAs : Ty → Bool → State → Gives Operand → Type 0
  PlacedAs t constant s w = Placed a visible types texts fs f setting t constant s w

  -- ---- an owner behind a raw pointer

  module _ (inner : Form) (e : Typed) (place : Place) (is : IsWhole a visible types texts fs f setting inner) (n : is_owner_type e.ty ≡ true) (h : pointed_to a.program.types e.place (typed_in inner) ≡ Ok e) where
    d : IsBehind a.program.types (typed_in inner) e
    d = behind_pointer a.program.types (typed_in inner) e is.kind.kind h

    pub dereferenced_object : IsObjectAt a visible types texts fs f setting e ((form_uses a (dereference inner) place e.ty e.category).at)
    dereferenced_object = record {
      ty = type_at a.program.types d.target;
      is = ap (λ (y : Typed). y.ty) d.is;
      owner = owner_behind a.program.types (typed_in inner) e d n;
      id = d.target;
      constant = d.constant;
      place = ap (λ (y : Typed). y.category) d.is;
      here = refl;
      names = behind_named a visible types texts fs f setting inner e place is d;
      apart = λ s stands y dead. behind_apart a visible types texts fs f setting inner e place is d s y;
    }

  -- ---- what a call answers that gives a reference

  -- no other answer is an owner at a place
  owner_answered : (result : Ty) (t : ExprType) (k : Category) → IsAnswered a.program.types result t k → is_owner_type t ≡ true → is_place k ≡ true
      → (target : TyId) × (constant : Bool) × (result ≡ ty.Reference target constant) × (is_owner_of_values a.program.types (type_at a.program.types target) ≡ true) × (t ≡ Of (type_at a.program.types target)) × (k ≡ category.Place target constant)
  owner_answered result t k (answers_nothing void own held) n p = absurd (false≢true (sym (ap is_owner_type own) ∙ n))
  owner_answered result t k (answers_value v own held) n p = absurd (false≢true (sym (by_values (λ t. owns_elements t ≡ false) refl refl refl refl refl result v) ∙ sym (ap is_owner_type own) ∙ n))
  owner_answered result t k (answers_raw target constant raw w own held) n p = absurd (false≢true (sym (ap is_owner_type own) ∙ n))
  owner_answered result t k (answers_walker w own held) n p = absurd (false≢true (sym (walker_is a.program.types result w).owner ∙ sym (ap is_owner_type own) ∙ n))
  owner_answered result t k (answers_whole number whole own held) n p = absurd (false≢true (sym (ap is_owner_type own) ∙ n))
  owner_answered result t k (answers_unique target unique w own held) n p = absurd (false≢true (sym (ap is_owner_type own) ∙ n))
  owner_answered result t k (answers_made o own held) n p = absurd (false≢true (sym (ap is_place held) ∙ p))
  owner_answered result t k (answers_view view own held) n p = absurd (false≢true (sym (ap is_owner_type own) ∙ n))
  owner_answered result t k (answers_place target constant refers w own held) n p =
      absurd (false≢true (sym (by_values (λ t. owns_elements t ≡ false) refl refl refl refl refl (type_at a.program.types target) w) ∙ sym (ap is_owner_type own) ∙ n))
  owner_answered result t k (answers_owner target constant refers o own held) n p = (target, constant, refers, o, own, held)
  owner_answered result t k (answers_struct target constant number refers structure pointless own held) n p = absurd (false≢true (sym (ap is_owner_type own) ∙ n))

  pub call_object : (g : ℕ) (given : Form) (delimiters : DelimitersForm) (e : Typed) (place : Place) → is_owner_type e.ty ≡ true → is_place e.category ≡ true → HasResult a.program.types (slice_get a.program.functions g) e
      → ((of : FunctionForm) → slice_get a.program.functions g ≡ Some of → (s : State) → Stood s → Hands a visible types texts fs f setting of s (giving.arguments a (all_uses a given) delimiters (parameter_types (Some of)) s))
      → IsObjectAt a visible types texts fs f setting e ((form_uses a (call g given delimiters) place e.ty e.category).at)
  call_object g given delimiters e place n p h hands = go (slice_get a.program.functions g) refl h
    where
      go : (o : Option FunctionForm) → slice_get a.program.functions g ≡ o → HasResult a.program.types o e → IsObjectAt a visible types texts fs f setting e ((form_uses a (call g given delimiters) place e.ty e.category).at)
      go None at h = absurd h
      go (Some of) at h = record {
        ty = type_at a.program.types target;
        is = x.4;
        owner = x.3;
        id = target;
        constant = constant;
        place = x.5;
        here = refl;
        names = names;
        apart = λ s stands y dead. refl;
      }
        where
          x : (target : TyId) × (constant : Bool) × (type_at a.program.types of.result ≡ ty.Reference target constant) × (is_owner_of_values a.program.types (type_at a.program.types target) ≡ true)
              × (e.ty ≡ Of (type_at a.program.types target)) × (e.category ≡ category.Place target constant)
          x = owner_answered (type_at a.program.types of.result) e.ty e.category (answered_as a.program.types e (type_at a.program.types of.result) (result_is a.program.types (type_at a.program.types of.result) (setting.returned g of at)) h) n p

          target : TyId
          target = x.0

          constant : Bool
          constant = x.1

          names : (s : State) → Stood s → PlacedAs (type_at a.program.types target) constant s ((form_uses a (call g given delimiters) place e.ty e.category).at s)
          names s stands = call_named a visible types texts fs f setting g given delimiters e place of at target constant x.2 (owner_target a.program.types (type_at a.program.types target) x.3) x.5 s stands (hands of at s stands)

  -- ---- .. or an owner that it gives itself

  -- no other answer is an owner that is a value
  made_answered : (result : Ty) (t : ExprType) (k : Category) → IsAnswered a.program.types result t k → is_owner_type t ≡ true → is_place k ≡ false → (is_owner_of_values a.program.types result ≡ true) × (t ≡ Of result) × (k ≡ category.Value)
  made_answered result t k (answers_nothing void own held) n p = absurd (false≢true (sym (ap is_owner_type own) ∙ n))
  made_answered result t k (answers_value v own held) n p = absurd (false≢true (sym (by_values (λ t. owns_elements t ≡ false) refl refl refl refl refl result v) ∙ sym (ap is_owner_type own) ∙ n))
  made_answered result t k (answers_raw target constant raw w own held) n p = absurd (false≢true (sym (ap is_owner_type own) ∙ n))
  made_answered result t k (answers_walker w own held) n p = absurd (false≢true (sym (walker_is a.program.types result w).owner ∙ sym (ap is_owner_type own) ∙ n))
  made_answered result t k (answers_view view own held) n p = absurd (false≢true (sym (ap is_owner_type own) ∙ n))
  made_answered result t k (answers_whole number whole own held) n p = absurd (false≢true (sym (ap is_owner_type own) ∙ n))
  made_answered result t k (answers_unique target unique w own held) n p = absurd (false≢true (sym (ap is_owner_type own) ∙ n))
  made_answered result t k (answers_made o own held) n p = (o, own, held)
  made_answered result t k (answers_place target constant refers w own held) n p = absurd (false≢true (sym p ∙ ap is_place held))
  made_answered result t k (answers_owner target constant refers o own held) n p = absurd (false≢true (sym p ∙ ap is_place held))
  made_answered result t k (answers_struct target constant number refers structure pointless own held) n p = absurd (false≢true (sym p ∙ ap is_place held))

  pub call_made : (g : ℕ) (given : Form) (delimiters : DelimitersForm) (e : Typed) (place : Place) → is_owner_type e.ty ≡ true → is_place e.category ≡ false → HasResult a.program.types (slice_get a.program.functions g) e
      → ((of : FunctionForm) → slice_get a.program.functions g ≡ Some of → (s : State) → Stood s → Hands a visible types texts fs f setting of s (giving.arguments a (all_uses a given) delimiters (parameter_types (Some of)) s))
      → IsMadeAt a visible types texts fs f setting e ((form_uses a (call g given delimiters) place e.ty e.category).object)
  call_made g given delimiters e place n p h hands = go (slice_get a.program.functions g) refl h
    where
      go : (o : Option FunctionForm) → slice_get a.program.functions g ≡ o → HasResult a.program.types o e → IsMadeAt a visible types texts fs f setting e ((form_uses a (call g given delimiters) place e.ty e.category).object)
      go None at h = absurd h
      go (Some of) at h =
          let result = type_at a.program.types of.result in
          let x = made_answered result e.ty e.category (answered_as a.program.types e result (result_is a.program.types result (setting.returned g of at)) h) n p in
          record {
            ty = result;
            is = x.1;
            owner = x.0;
            value = x.2;
            builds = λ s stands.
                call_builds a visible types texts fs f setting g of at result (inl x.0) (result_later a visible types texts fs f setting g of at) place s (giving.arguments a (all_uses a given) delimiters (around.parameter_types a g) s)
                (subst (λ (ids : List TyId). Hands a visible types texts fs f setting of s (giving.arguments a (all_uses a given) delimiters ids s)) (sym (ap parameters_of at)) (hands of at s stands));
          }

  -- ---- .. or an iterator or a span

  -- no other answer is one
  walker_answered : (result : Ty) (t : ExprType) (k : Category) → IsAnswered a.program.types result t k → is_walker_type t ≡ true → (is_walker_of_values a.program.types result ≡ true) × (t ≡ Of result) × (k ≡ category.Value)
  walker_answered result t k (answers_nothing void own held) n = absurd (false≢true (sym (ap is_walker_type own) ∙ n))
  walker_answered result t k (answers_value v own held) n = absurd (false≢true (sym (value_no_walker result v) ∙ sym (ap is_walker_type own) ∙ n))
  walker_answered result t k (answers_raw target constant raw w own held) n = absurd (false≢true (sym (ap is_walker_type own) ∙ n))
  walker_answered result t k (answers_view view own held) n = absurd (false≢true (sym (ap is_walker_type own) ∙ n))
  walker_answered result t k (answers_walker w own held) n = (w, own, held)
  walker_answered result t k (answers_whole number whole own held) n = absurd (false≢true (sym (ap is_walker_type own) ∙ n))
  walker_answered result t k (answers_unique target unique w own held) n = absurd (false≢true (sym (ap is_walker_type own) ∙ n))
  walker_answered result t k (answers_struct target constant number refers structure pointless own held) n = absurd (false≢true (sym (ap is_walker_type own) ∙ n))
  walker_answered result t k (answers_made o own held) n = absurd (false≢true (sym (owner_no_walker a.program.types result o) ∙ sym (ap is_walker_type own) ∙ n))
  walker_answered result t k (answers_place target constant refers w own held) n =
      absurd (false≢true (sym (value_no_walker (type_at a.program.types target) w) ∙ sym (ap is_walker_type own) ∙ n))
  walker_answered result t k (answers_owner target constant refers o own held) n = absurd (false≢true (sym (owner_no_walker a.program.types (type_at a.program.types target) o) ∙ sym (ap is_walker_type own) ∙ n))

  -- .. and it is a value
  pub walker_value : (g : ℕ) (e : Typed) → is_walker_type e.ty ≡ true → HasResult a.program.types (slice_get a.program.functions g) e → e.category ≡ category.Value
  walker_value g e n h = go (slice_get a.program.functions g) refl h
    where
      go : (o : Option FunctionForm) → slice_get a.program.functions g ≡ o → HasResult a.program.types o e → e.category ≡ category.Value
      go None at h = absurd h
      go (Some of) at h =
          (walker_answered (type_at a.program.types of.result) e.ty e.category (answered_as a.program.types e (type_at a.program.types of.result) (result_is a.program.types (type_at a.program.types of.result) (setting.returned g of at)) h) n).2

  pub call_walker : (g : ℕ) (given : Form) (delimiters : DelimitersForm) (e : Typed) (place : Place) → is_walker_type e.ty ≡ true → HasResult a.program.types (slice_get a.program.functions g) e
      → ((of : FunctionForm) → slice_get a.program.functions g ≡ Some of → (s : State) → Stood s → Hands a visible types texts fs f setting of s (giving.arguments a (all_uses a given) delimiters (parameter_types (Some of)) s))
      → IsWalkerAt a visible types texts fs f setting e ((form_uses a (call g given delimiters) place e.ty e.category).pointing)
  call_walker g given delimiters e place n h hands = go (slice_get a.program.functions g) refl h
    where
      go : (o : Option FunctionForm) → slice_get a.program.functions g ≡ o → HasResult a.program.types o e → IsWalkerAt a visible types texts fs f setting e ((form_uses a (call g given delimiters) place e.ty e.category).pointing)
      go None at h = absurd h
      go (Some of) at h =
          let x = walker_answered (type_at a.program.types of.result) e.ty e.category (answered_as a.program.types e (type_at a.program.types of.result) (result_is a.program.types (type_at a.program.types of.result) (setting.returned g of at)) h) n in
          record {
            ty = type_at a.program.types of.result;
            is = x.1;
            walker = x.0;
            place = λ id constant held. absurd (value_place (sym x.2 ∙ held));
            points = λ s stands.
                gives_called
                (walked_call types texts fs f g of (setting.callees g of at) s (giving.arguments a (all_uses a given) delimiters (around.parameter_types a g) s)
                (subst (λ (ids : List TyId). Hands a visible types texts fs f setting of s (giving.arguments a (all_uses a given) delimiters ids s)) (sym (ap parameters_of at)) (hands of at s stands))
                a.program.types (type_at a.program.types of.result) x.0
                (result_later a visible types texts fs f setting g of at) (walker_itself a.program.types types setting.front (type_at a.program.types of.result) x.0));
          }

  -- ---- the address of an owner

  pub owner_address_form : (inner : Form) (e : Typed) → IsObject a visible types texts fs f setting inner → IsAddress a.program.types (typed_in inner).category e → IsForm a visible types texts fs f setting (address_of inner) e
  owner_address_form inner e is h = place_address_form a visible types texts fs f setting inner e is.id is.constant is.ty is.place is.here (owner_target a.program.types is.ty is.owner) is.names h
