-- What a pointer that is a member is given by what is listed for it: another pointer, nothing, a literal, the whole of a string or a vector.
use Rattle.std.proofs.Common.{◌≡◌, ℕ, Bool, true, List, Some, refl, subst}
use Rattle.std.proofs.lemmas.Bool.{and_from, false≢true}
use Rattle.life_elab_laws.proofs.ObjectTypes.{is_target, is_walker_of_values}
use Rattle.life_types.specs.Pointees.{ty_of}
use Rattle.life_types.specs.Types.{Types, class}
use Rattle.life_types.specs.declared.ty.Class.TheVariants as classes
use Rattle.life_types.specs.declared.ty.Ty.{Ty}
use Rattle.life_types.specs.declared.ty.Ty.TheVariants as ty
use Rattle.life_types.specs.declared.ty.TyId.{TyId}
use Rattle.life_typed.specs.BaseTypes.{type_at}
use Rattle.life_typed.specs.Conversions.{fits}
use Rattle.life_typed.specs.TypedForm.{Form}
use Rattle.life_typed.specs.declared.typed_expr.ExprType.{ExprType}
use Rattle.life_typed.specs.declared.typed_expr.ExprType.TheVariants.{Of}
use Rattle.life_type_expr.specs.Lists.{fits_at_all}
use Rattle.life_core.specs.Function.{Function}
use Rattle.life_proper.specs.OperandTypes.{keeps_const, same}
use Rattle.life_well_typed.specs.Expressions.{typed_in}
use Rattle.life_well_typed.specs.Given.{is_given}
use Rattle.life_writer.specs.Around.{Around}
use Rattle.life_writer.specs.ExpressionForms.{uses}
use Rattle.life_writer.specs.Using.{pointing}
use Rattle.life_writer.specs.Writing.{State}
use Rattle.life_elab_laws.proofs.Elements.{one_element}
use Rattle.life_elab_laws.proofs.ExpressionForms.{IsWhole, Standing}
use Rattle.life_elab_laws.proofs.ExpressionTypes.{seen_kind}
use Rattle.life_elab_laws.proofs.FormedFits.{given_raw, given_seen, given_string, given_vector, given_walker}
use Rattle.life_elab_laws.proofs.FormedVariables.{owner_no_location}
use Rattle.life_elab_laws.proofs.Gifts.{takes_from}
use Rattle.life_elab_laws.proofs.GivenKinds.{given_pointer, given_view}
use Rattle.life_elab_laws.proofs.HandedForms.{no_walker_given}
use Rattle.life_elab_laws.proofs.HandedOwners.{owner_no_iterator, walker_no_raw, walker_no_text}
use Rattle.life_elab_laws.proofs.HandedStructs.{struct_no_walker}
use Rattle.life_elab_laws.proofs.Locations.{is_location, is_pointed, seen_pointed}
use Rattle.life_elab_laws.proofs.ObjectForms.{IsOwner}
use Rattle.life_elab_laws.proofs.PointerForms.{points_whole}
use Rattle.life_elab_laws.proofs.RowTypes.{sees}
use Rattle.life_elab_laws.proofs.SeenForms.{string_points}
use Rattle.life_elab_laws.proofs.Setting.{Setting}
use Rattle.life_elab_laws.proofs.WalkerForms.{IsWalker, vector_points, walker_points}
use Rattle.life_elab_laws.proofs.WalkerSteps.{keeps_itself}
use Rattle.life_elab_laws.proofs.PointedCalls.{GivesPointer, gives_plainly}

pub location_class : (t : Ty) → is_location t ≡ true → class (Some t) ≡ classes.Pointer
location_class (ty.Raw target constant) loc = refl
location_class ty.View loc = refl
location_class (ty.Iterator item constant) loc = refl
location_class (ty.Span item constant) loc = refl
location_class _ loc = absurd (false≢true loc)

module _ (a : Around) (visible : List ℕ) (types : Types) (texts : ℕ) (fs : List Function) (f : Function) (setting : Setting a types fs f) where
  abbrev Stood : State → Type 0
  Stood s = Standing a visible types texts fs f setting s

  abbrev Given : Form → Ty → Type 0
  Given e t = is_given a.program.types t (typed_in e) ≡ true

  pub record IsShown (e : Form) (t : Ty) : Type 0 where
    pub source : ExprType
    pub points : (s : State) → Stood s → GivesPointer types texts fs f source s (pointing (uses a e) s)
    pub taken : takes_from types t source ≡ true

  -- ---- by an expression with a value

  pub whole_raw : (e : Form) → IsWhole a visible types texts fs f setting e → (target : TyId) (constant : Bool) → is_target a.program.types (type_at a.program.types target) ≡ true → Given e (ty.Raw target constant) → IsShown e (ty.Raw target constant)
  whole_raw e is target constant w given = record {
    source = (typed_in e).ty;
    points = λ s stands. points_whole a visible types texts fs f setting e is (given_pointer a.program.types (ty.Raw target constant) (typed_in e) refl given) s stands;
    taken = given_raw a.program.types types setting.front target constant w (typed_in e) given;
  }

  pub whole_view : (e : Form) → IsWhole a visible types texts fs f setting e → Given e ty.View → IsShown e ty.View
  whole_view e is given =
      let seen = seen_kind a.program.types (typed_in e) is.kind.kind (given_view a.program.types (typed_in e) given) in
      record {
        source = (typed_in e).ty;
        points = λ s stands. points_whole a visible types texts fs f setting e is (seen_pointed (typed_in e).ty seen) s stands;
        taken = given_seen types (typed_in e).ty seen;
      }

  pub whole_no_walker : (e : Form) → IsWhole a visible types texts fs f setting e → (t : Ty) → is_walker_of_values a.program.types t ≡ true → Given e t → ⊥
  whole_no_walker e is t w given = no_walker_given a.program.types (typed_in e) is.kind.kind t w given

  -- ---- by an owner

  pub owner_no_raw : (e : Form) → IsOwner a visible types texts fs f setting e → (target : TyId) (constant : Bool) → Given e (ty.Raw target constant) → ⊥
  owner_no_raw e o target constant given =
      owner_no_location a.program.types o.ty o.owner (subst (λ (x : ExprType). is_pointed x ≡ true) o.is (given_pointer a.program.types (ty.Raw target constant) (typed_in e) refl given))

  pub string_view : (e : Form) → IsOwner a visible types texts fs f setting e → Given e ty.View → IsShown e ty.View
  string_view e o given = record {
    source = Of ty.View;
    points = λ s stands. gives_plainly (string_points a visible types texts fs f setting e o (given_string a.program.types o.ty (typed_in e) o.owner o.is given) s stands);
    taken = refl;
  }

  pub owner_span : (e : Form) → IsOwner a visible types texts fs f setting e → (t : Ty) → is_walker_of_values a.program.types t ≡ true → Given e t → IsShown e t
  owner_span e o (ty.Span item constant) w given =
      let to = given_vector a.program.types item constant o.constant o.ty (typed_in e) o.owner o.is o.told given in
      record {
        source = Of (ty.Span item constant);
        points = λ s stands. gives_plainly (vector_points a visible types texts fs f setting e o item constant to.is to.kept s stands);
        taken = and_from (same (ty_of types item) (ty_of types item)) (keeps_const constant constant) (one_element a.program.types types setting.front item w) (keeps_itself constant);
      }
  owner_span e o (ty.Iterator item constant) w given =
      absurd (owner_no_iterator a.program.types o.ty (typed_in e) o.owner item constant (subst (λ (x : ExprType). fits_at_all (fits a.program.types (ty.Iterator item constant) x (typed_in e).category) ≡ true) o.is given))
  owner_span e o _ w given = absurd (false≢true w)

  -- ---- by an iterator or a span

  pub walker_walker : (e : Form) → IsWalker a visible types texts fs f setting e → (t : Ty) → is_walker_of_values a.program.types t ≡ true → Given e t → IsShown e t
  walker_walker e from t w given = record {
    source = Of from.ty;
    points = λ s stands. walker_points a visible types texts fs f setting e from s stands;
    taken = given_walker a.program.types types setting.front t from.ty (typed_in e) w from.walker from.is given;
  }

  pub no_raw_walker : (e : Form) → IsWalker a visible types texts fs f setting e → (target : TyId) (constant : Bool) → is_target a.program.types (type_at a.program.types target) ≡ true → Given e (ty.Raw target constant) → ⊥
  no_raw_walker e from target constant w given =
      walker_no_raw a.program.types types from.ty from.walker target constant
      (subst (λ (x : ExprType). takes_from types (ty.Raw target constant) x ≡ true) from.is (given_raw a.program.types types setting.front target constant w (typed_in e) given))

  pub no_view_walker : (e : Form) → IsWalker a visible types texts fs f setting e → Given e ty.View → ⊥
  no_view_walker e from given = walker_no_text a.program.types from.ty from.walker (subst (λ (x : ExprType). sees x ≡ true) from.is (given_view a.program.types (typed_in e) given))

  -- ---- a struct gives none

  module _ (e : Form) (number : ℕ) (is : (typed_in e).ty ≡ Of (ty.Struct number)) where
    pub no_raw_struct : (target : TyId) (constant : Bool) → Given e (ty.Raw target constant) → ⊥
    no_raw_struct target constant given = false≢true (subst (λ (x : ExprType). is_pointed x ≡ true) is (given_pointer a.program.types (ty.Raw target constant) (typed_in e) refl given))

    pub no_view_struct : Given e ty.View → ⊥
    no_view_struct given = false≢true (subst (λ (x : ExprType). sees x ≡ true) is (given_view a.program.types (typed_in e) given))

    pub no_walker_struct : (t : Ty) → is_walker_of_values a.program.types t ≡ true → Given e t → ⊥
    no_walker_struct t w given = struct_no_walker a.program.types t w number (typed_in e).category (subst (λ (x : ExprType). fits_at_all (fits a.program.types t x (typed_in e).category) ≡ true) is given)
