-- Structs behind pointers and references: what a raw pointer points to, what a call that gives a reference answers, and their addresses.
use Rattle.std.proofs.Common.{◌≡◌, ◌⊎◌, inl, inr, ℕ, Bool, true, List, Ok, Option, Some, None, refl, sym, ap, ◌∙◌, subst, slice_get}
use Rattle.std.proofs.lemmas.Bool.{false≢true}
use Rattle.life_elab_laws.proofs.ObjectTypes.{is_struct, is_plain_struct}
use Rattle.life_elab_laws.proofs.TypeKinds.{is_struct_type}
use Rattle.life_types.specs.Types.{Types}
use Rattle.life_types.specs.declared.place.Place.{Place}
use Rattle.life_types.specs.declared.ty.Ty.{Ty}
use Rattle.life_types.specs.declared.ty.Ty.TheVariants as ty
use Rattle.life_types.specs.declared.ty.TyId.{TyId}
use Rattle.life_typed.specs.BaseTypes.{type_at}
use Rattle.life_typed.specs.Delimiters.{DelimitersForm}
use Rattle.life_typed.specs.Programs.{FunctionForm}
use Rattle.life_typed.specs.TypedForm.{Form, Typed, address_of, call, dereference}
use Rattle.life_typed.specs.declared.typed_expr.Category.{Category}
use Rattle.life_typed.specs.declared.typed_expr.Category.TheVariants as category
use Rattle.life_typed.specs.declared.typed_expr.ExprType.{ExprType}
use Rattle.life_typed.specs.declared.typed_expr.ExprType.TheVariants.{Of}
use Rattle.life_type_expr.specs.Operands.{pointed_to}
use Rattle.life_core.specs.Function.{Function}
use Rattle.life_core.specs.Operands.{Operand}
use Rattle.life_well_typed.specs.Expressions.{HasResult, IsAddress, parameter_types, typed_in}
use Rattle.life_writer.specs.Around.{Around, parameters_of}
use Rattle.life_writer.specs.Around as around
use Rattle.life_writer.specs.ExpressionForms.{all_uses, form_uses}
use Rattle.life_writer.specs.Giving as giving
use Rattle.life_writer.specs.Uses.{Remaining}
use Rattle.life_writer.specs.Writing.{Gives, State}
use Rattle.life_elab_laws.proofs.BehindPointers.{IsBehind, behind_named, behind_pointer, call_named, place_address_form}
use Rattle.life_elab_laws.proofs.ExpressionForms.{Hands, IsForm, IsWhole, Placed, Standing}
use Rattle.life_elab_laws.proofs.ExpressionTypes.{IsAnswered, answered_as, answers_made, answers_nothing, answers_owner, answers_place, answers_raw, answers_struct, answers_unique, answers_value, answers_view, answers_walker, answers_whole}
use Rattle.life_elab_laws.proofs.PointerForms.{result_later}
use Rattle.life_elab_laws.proofs.ResultTypes.{result_is}
use Rattle.life_elab_laws.proofs.Setting.{Setting}
use Rattle.life_elab_laws.proofs.StructForms.{IsStruct, IsStructAt, owner_no_struct, value_no_struct, walker_no_struct}
use Rattle.life_elab_laws.proofs.Targets.{IsTarget, struct_target, target_is, to_owner, to_struct, to_value}
use Rattle.life_elab_laws.proofs.PlainStructs.{struct_plain}
use Rattle.life_elab_laws.proofs.MadeStructs.{IsAnyStructAt, at_once, struct_made, struct_there}
use Rattle.life_elab_laws.proofs.MadeForms.{BuildsIn, less_plain}
use Rattle.life_elab_laws.proofs.CalledOwners.{call_builds}
use Rattle.life_elab_laws.proofs.AdmittedTypes.{IsTabled, struct_tabled}

-- ---- what is behind a raw pointer

pub struct_behind : (types : Types) (inner e : Typed) (d : IsBehind types inner e) → is_struct_type e.ty ≡ true → (number : ℕ) × (type_at types d.target ≡ ty.Struct number) × (is_plain_struct types (ty.Struct number) ≡ true)
struct_behind types inner e d n = go (target_is types (type_at types d.target) d.wide)
  where
    told : is_struct (type_at types d.target) ≡ true
    told = subst (λ (x : ExprType). is_struct_type x ≡ true) (ap (λ (y : Typed). y.ty) d.is) n

    go : IsTarget types (type_at types d.target) → (number : ℕ) × (type_at types d.target ≡ ty.Struct number) × (is_plain_struct types (ty.Struct number) ≡ true)
    go (to_value v) = absurd (false≢true (sym (value_no_struct (type_at types d.target) v) ∙ told))
    go (to_owner o) = absurd (false≢true (sym (owner_no_struct types (type_at types d.target) o) ∙ told))
    go (to_struct number structure pointless) = (number, structure, ap (is_plain_struct types) (sym structure) ∙ pointless)

-- ---- what a call answers

-- a struct is the answer of a function that gives a reference to it, or of one that gives it back
pub record IsReferred (types : Types) (result : Ty) (t : ExprType) (k : Category) : Type 0 where
  pub target : TyId
  pub constant : Bool
  pub number : ℕ
  pub refers : result ≡ ty.Reference target constant
  pub structure : type_at types target ≡ ty.Struct number
  pub pointless : is_plain_struct types (type_at types target) ≡ true
  pub is : t ≡ Of (ty.Struct number)
  pub place : k ≡ category.Place target constant

-- .. as a whole
abbrev IsGivenBack : Ty → ExprType → Category → Type 0
IsGivenBack result t k = (number : ℕ) × (result ≡ ty.Struct number) × (t ≡ Of (ty.Struct number)) × (k ≡ category.Value)

struct_answered : (types : Types) (result : Ty) (t : ExprType) (k : Category) → IsAnswered types result t k → is_struct_type t ≡ true → IsReferred types result t k ⊎ IsGivenBack result t k
struct_answered types result t k (answers_nothing void own held) n = absurd (false≢true (sym (ap is_struct_type own) ∙ n))
struct_answered types result t k (answers_value v own held) n = absurd (false≢true (sym (ap is_struct_type own ∙ value_no_struct result v) ∙ n))
struct_answered types result t k (answers_raw target constant raw w own held) n = absurd (false≢true (sym (ap is_struct_type own) ∙ n))
struct_answered types result t k (answers_view view own held) n = absurd (false≢true (sym (ap is_struct_type own) ∙ n))
struct_answered types result t k (answers_walker w own held) n = absurd (false≢true (sym (ap is_struct_type own ∙ walker_no_struct types result w) ∙ n))
struct_answered types result t k (answers_place target constant refers w own held) n = absurd (false≢true (sym (ap is_struct_type own ∙ value_no_struct (type_at types target) w) ∙ n))
struct_answered types result t k (answers_owner target constant refers o own held) n = absurd (false≢true (sym (ap is_struct_type own ∙ owner_no_struct types (type_at types target) o) ∙ n))
struct_answered types result t k (answers_made o own held) n = absurd (false≢true (sym (ap is_struct_type own ∙ owner_no_struct types result o) ∙ n))
struct_answered types result t k (answers_unique target unique w own held) n = absurd (false≢true (sym (ap is_struct_type own) ∙ n))
struct_answered types result t k (answers_struct target constant number refers structure pointless own held) n =
    inl (record { target = target; constant = constant; number = number; refers = refers; structure = structure; pointless = pointless; is = own; place = held })
struct_answered types result t k (answers_whole number whole own held) n = inr (number, whole, own, held)

module _ (a : Around) (visible : List ℕ) (types : Types) (texts : ℕ) (fs : List Function) (f : Function) (setting : Setting a types fs f) where
  abbrev Stood : State → Type 0
  Stood s = Standing a visible types texts fs f setting s

  abbrev PlacedAs : Ty → Bool → State → Gives Operand → Type 0
  PlacedAs t constant s w = Placed a visible types texts fs f setting t constant s w

  pub dereferenced_struct : (inner : Form) (e : Typed) (place : Place) → IsWhole a visible types texts fs f setting inner → is_struct_type e.ty ≡ true → pointed_to a.program.types e.place (typed_in inner) ≡ Ok e
      → IsStructAt a visible types texts fs f setting e ((form_uses a (dereference inner) place e.ty e.category).at)
  dereferenced_struct inner e place is n h = record {
    number = structure.0;
    is = ap (λ (y : Typed). y.ty) d.is ∙ ap Of structure.1;
    id = d.target;
    constant = d.constant;
    place = ap (λ (y : Typed). y.category) d.is;
    here = structure.1;
    names = λ s stands.
        subst (λ (t : Ty). PlacedAs t d.constant s ((form_uses a (dereference inner) place e.ty e.category).at s)) structure.1
        (behind_named a visible types texts fs f setting inner e place is d s stands);
    lies = λ none. absurd (false≢true (sym none ∙ structure.2));
  }
    where
      d : IsBehind a.program.types (typed_in inner) e
      d = behind_pointer a.program.types (typed_in inner) e is.kind.kind h

      structure : (number : ℕ) × (type_at a.program.types d.target ≡ ty.Struct number) × (is_plain_struct a.program.types (ty.Struct number) ≡ true)
      structure = struct_behind a.program.types (typed_in inner) e d n

  -- what the call of a function answers where that is a struct
  answered : (g : ℕ) (of : FunctionForm) (e : Typed) → slice_get a.program.functions g ≡ Some of → is_struct_type e.ty ≡ true → HasResult a.program.types (Some of) e
      → IsReferred a.program.types (type_at a.program.types of.result) e.ty e.category ⊎ IsGivenBack (type_at a.program.types of.result) e.ty e.category
  answered g of e at n h =
      struct_answered a.program.types (type_at a.program.types of.result) e.ty e.category
      (answered_as a.program.types e (type_at a.program.types of.result) (result_is a.program.types (type_at a.program.types of.result) (setting.returned g of at)) h) n

  pub call_struct : (g : ℕ) (given : Form) (delimiters : DelimitersForm) (e : Typed) (place : Place) → is_struct_type e.ty ≡ true → HasResult a.program.types (slice_get a.program.functions g) e
      → ((of : FunctionForm) → slice_get a.program.functions g ≡ Some of → (s : State) → Stood s → Hands a visible types texts fs f setting of s (giving.arguments a (all_uses a given) delimiters (parameter_types (Some of)) s))
      → IsAnyStructAt a visible types texts fs f setting e ((form_uses a (call g given delimiters) place e.ty e.category).at) ((form_uses a (call g given delimiters) place e.ty e.category).object)
  call_struct g given delimiters e place n h hands = go (slice_get a.program.functions g) refl h
    where
      go : (o : Option FunctionForm) → slice_get a.program.functions g ≡ o → HasResult a.program.types o e → IsAnyStructAt a visible types texts fs f setting e ((form_uses a (call g given delimiters) place e.ty e.category).at) ((form_uses a (call g given delimiters) place e.ty e.category).object)
      go None at h = absurd h
      go (Some of) at h = by (answered g of e at n h)
        where
          by : IsReferred a.program.types (type_at a.program.types of.result) e.ty e.category ⊎ IsGivenBack (type_at a.program.types of.result) e.ty e.category → IsAnyStructAt a visible types texts fs f setting e ((form_uses a (call g given delimiters) place e.ty e.category).at) ((form_uses a (call g given delimiters) place e.ty e.category).object)
          by (inl x) = struct_there (record {
            number = x.number;
            is = x.is;
            id = x.target;
            constant = x.constant;
            place = x.place;
            here = x.structure;
            names = λ s stands.
                subst (λ (t : Ty). PlacedAs t x.constant s ((form_uses a (call g given delimiters) place e.ty e.category).at s)) x.structure
                (call_named a visible types texts fs f setting g given delimiters e place of at x.target x.constant x.refers (struct_target a.program.types (type_at a.program.types x.target) x.pointless) x.place s stands (hands of at s stands));
            lies = λ none. absurd (false≢true (sym none ∙ ap (is_plain_struct a.program.types) (sym x.structure) ∙ x.pointless));
          })
          by (inr x) = struct_made (record { number = x.0; is = x.2; value = x.3; tabled = struct_tabled a.program.types of.result x.0 x.1; builds = λ s stands. less_plain a visible types texts fs f setting (ty.Struct x.0) s (made s) (builds s stands); unseen = at_once builds })
            where
              made : State → Gives Remaining
              made = (form_uses a (call g given delimiters) place e.ty e.category).object

              builds : (s : State) → Stood s → BuildsIn a visible types texts fs f setting true (ty.Struct x.0) s (made s)
              builds s stands =
                  call_builds a visible types texts fs f setting g of at (ty.Struct x.0) (inr (inr (struct_tabled a.program.types of.result x.0 x.1))) (result_later a visible types texts fs f setting g of at ∙ x.1) place s
                  (giving.arguments a (all_uses a given) delimiters (around.parameter_types a g) s)
                  (subst (λ (ids : List TyId). Hands a visible types texts fs f setting of s (giving.arguments a (all_uses a given) delimiters ids s)) (sym (ap parameters_of at)) (hands of at s stands))

  -- .. at a place, or made
  pub struct_called : (g : ℕ) (e : Typed) → is_struct_type e.ty ≡ true → HasResult a.program.types (slice_get a.program.functions g) e
      → ((target : TyId) × (constant : Bool) × (e.category ≡ category.Place target constant)) ⊎ ((number : ℕ) × IsTabled a.program.types (ty.Struct number) × (e.ty ≡ Of (ty.Struct number)) × (e.category ≡ category.Value))
  struct_called g e n h = go (slice_get a.program.functions g) refl h
    where
      go : (o : Option FunctionForm) → slice_get a.program.functions g ≡ o → HasResult a.program.types o e
          → ((target : TyId) × (constant : Bool) × (e.category ≡ category.Place target constant)) ⊎ ((number : ℕ) × IsTabled a.program.types (ty.Struct number) × (e.ty ≡ Of (ty.Struct number)) × (e.category ≡ category.Value))
      go None at h = absurd h
      go (Some of) at h = elim (answered g of e at n h) [
        | inl x ↦ inl (x.target, x.constant, x.place)
        | inr x ↦ inr (x.0, struct_tabled a.program.types of.result x.0 x.1, x.2, x.3)
      ]

  pub struct_address_form : (inner : Form) (e : Typed) → IsStruct a visible types texts fs f setting inner → IsAddress a.program.types (typed_in inner).category e → IsForm a visible types texts fs f setting (address_of inner) e
  struct_address_form inner e is h =
      place_address_form a visible types texts fs f setting inner e is.id is.constant (ty.Struct is.number) is.place is.here
      (struct_target a.program.types (ty.Struct is.number) (sym (struct_plain a.program.types setting.values.ordered is.id is.number is.here) ∙ (subst (λ (c : Category). IsAddress a.program.types c e) is.place h).2)) is.names h
