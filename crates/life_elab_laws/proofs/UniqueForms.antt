-- unique_ptrs that are named or members, and any that lie in a local: what they own, and a pointer to that.
use Rattle.std.proofs.Common.{◌≡◌, ℕ, Bool, true, false, List, Contains, slice_get, Option, Some, None, Ok, refl, sym, ap, ◌∙◌, subst, unwrap_or}
use Rattle.std.proofs.lemmas.Bool.{false≢true}
use Rattle.life_elab_laws.proofs.UniqueSteps.{got_filling, got_given, target_part}
use Rattle.life_writer.specs.Around.{Around, own_type}
use Rattle.life_writer.specs.declared.behind.Behind.{Behind}
use Rattle.life_typed.specs.Delimiters.{DelimitersForm}
use Rattle.life_typed.specs.TypedForm.{Form, Typed, dereference, local, method}
use Rattle.life_core.specs.Function.{Function}
use Rattle.life_core.specs.Operands.{Get, Location, Name, Operand, Owner}
use Rattle.life_core.specs.declared.operand.Which.TheVariants as which
use Rattle.life_well_typed.specs.Members.{IsCalled}
use Rattle.life_well_typed.specs.Expressions.{IsVariable, typed_in}
use Rattle.life_elab_laws.proofs.ExpressionForms.{IsForm, Placed, Points, Standing, no_literal, pointer_form, no_null}
use Rattle.life_elab_laws.proofs.VariableParts.{LiesIn, lies_at, variable_lies}
use Rattle.life_elab_laws.proofs.VariablePlaces.{IsVariableType, an_alias, a_raw, a_reference, a_struct, a_unique, a_value, a_view, a_walker, an_owner, kind_is, place_is, variable_there, variable_type, a_struct_alias, stands_later}
use Rattle.life_elab_laws.proofs.Parts.{Makes, leaf_part, seen_part, then_part}
use Rattle.life_core.specs.declared.program.LocalKind.TheVariants.{Object}
use Rattle.life_typed.specs.declared.typed_expr.Category.TheVariants as category
use Rattle.life_typed.specs.declared.typed_expr.ExprType.{ExprType}
use Rattle.life_typed.specs.declared.typed_expr.ExprType.TheVariants.{Of}
use Rattle.life_typed.specs.declared.typed_expr.Method.TheVariants as methods
use Rattle.life_types.specs.declared.ty.Ty.{Ty}
use Rattle.life_types.specs.declared.ty.Ty.TheVariants as ty
use Rattle.life_types.specs.declared.place.Place.{Place}
use Rattle.life_elab_laws.proofs.Setting.{Setting}
use Rattle.life_writer.specs.Writing.{Gives, State, ◌>>◌, gives, mapped}
use Rattle.life_core.specs.Tree.{Tree}
use Rattle.life_types.specs.declared.ty.TyId.{TyId}
use Rattle.life_typed.specs.declared.typed_program.TypedLocal.{TypedLocal}
use Rattle.life_types.specs.Types.{Types}
use Rattle.life_elab_laws.proofs.Gifts.{IsPlaceOf, a_place, a_pointing, nothing as no_gift}
use Rattle.life_writer.specs.Pointers.{aimed}
use Rattle.life_writer.specs.Bases.{base_by, element}
use Rattle.life_elab_laws.proofs.Values.{by_owners, by_values, by_walkers}
use Rattle.life_typed.specs.Operators.{dereferenced}
use Rattle.life_type_expr.specs.Operands.{dereferenced_to, pointed_to, variable_of}
use Rattle.life_elab_laws.proofs.ObjectForms.{IsReached}
use Rattle.life_elab_laws.proofs.Elements.{element_target, element_there}
use Rattle.life_elab_laws.proofs.Shaped.{element_further}
use Rattle.life_proper.specs.WellFormed.{is_itself}
use Rattle.life_writer.specs.ExpressionForms.{target_at, uses}
use Rattle.life_elab_laws.proofs.ViewForms.{gives_as}
use Rattle.life_well_typed.specs.Given.{is_number}
use Rattle.life_elab_laws.proofs.ObjectTypes.{is_element, is_owner_of_values, is_walker_of_values}
use Rattle.life_elab_laws.proofs.TypeKinds.{is_unique_type}
use Rattle.life_types.specs.TypeTests.{is_unique}
use Rattle.life_elab_laws.proofs.FormedVariables.{object_formed}
use Rattle.life_elab_laws.proofs.TypedKinds.{a_pointer, ok_same, owner_named, value_place, value_simple, walker_named}
use Rattle.life_writer.specs.Using.{location_in, operand}
use Rattle.life_writer.specs.MethodForms.{got}
use Rattle.life_writer.specs.Uses.{own}
use Rattle.life_elab_laws.proofs.PointerForms.{own_typed, placed_operand}
use Rattle.life_typed.specs.BaseTypes.{type_at}
use Rattle.life_writer.specs.Variables.{variable_place}
use Rattle.life_elab_laws.proofs.ExpressionKinds.{variable_built}

-- no owner of elements is one, and no iterator or span
pub owner_no_unique : (types : Types) (t : Ty) → is_owner_of_values types t ≡ true → is_unique t ≡ false
owner_no_unique types = by_owners types _ refl (λ item. refl)

pub walker_no_unique : (types : Types) (t : Ty) → is_walker_of_values types t ≡ true → is_unique t ≡ false
walker_no_unique types = by_walkers types _ (λ target constant. refl) (λ target constant. refl)

module _ (a : Around) (visible : List ℕ) (types : Types) (texts : ℕ) (fs : List Function) (f : Function) (setting : Setting a types fs f) where
  abbrev Stood : State → Type 0
  Stood s = Standing a visible types texts fs f setting s

  -- ---- one that is named, or a member

  pub record IsUniqueAt (e : Typed) (at : State → Gives Operand) (decision : Behind → Option (State → Gives Tree)) : Type 0 where
    pub target : TyId
    pub is : e.ty ≡ Of (ty.Unique target)
    pub worth : is_element a.program.types (type_at a.program.types target) ≡ true
    pub id : TyId
    pub constant : Bool
    pub place : e.category ≡ category.Place id constant
    pub owns : type_at a.program.types id ≡ ty.Unique target
    -- in a variable, as the whole or as a member of it
    pub lies : LiesIn a visible types texts fs f setting at
    pub placed : (s : State) → Stood s → Placed a visible types texts fs f setting (ty.Unique target) false s (at s)
    pub undecided : (b : Behind) → decision b ≡ None

  abbrev pub IsUnique : Form → Type 0
  IsUnique form = IsUniqueAt (typed_in form) ((uses a form).at) ((uses a form).decision)

  pub unique_same : (e e' : Typed) (at : State → Gives Operand) (decision other : Behind → Option (State → Gives Tree)) → e.ty ≡ e'.ty → e.category ≡ e'.category → ((b : Behind) → (((c : Behind) → decision c ≡ None) → other b ≡ None))
      → IsUniqueAt e at decision → IsUniqueAt e' at other
  unique_same e e' at decision other t c still is = record {
    target = is.target;
    is = sym t ∙ is.is;
    worth = is.worth;
    id = is.id;
    constant = is.constant;
    place = sym c ∙ is.place;
    owns = is.owns;
    lies = is.lies;
    placed = is.placed;
    undecided = λ b. still b is.undecided;
  }

  -- a variable
  pub variable_unique : (x : ℕ) (e : Typed) → is_unique_type e.ty ≡ true → Contains visible x → IsVariable a.program.types x (slice_get a.function.locals x) e → IsUniqueAt e (λ s. gives (variable_place s x) s) (λ b. None)
  variable_unique x e n c h = go (slice_get a.function.locals x) refl h
    where
      go : (o : Option TypedLocal) → slice_get a.function.locals x ≡ o → IsVariable a.program.types x o e → IsUniqueAt e (λ s. gives (variable_place s x) s) (λ b. None)
      go None found h = absurd h
      go (Some l) found h = kind (variable_type a.program.types l.ty (variable_built a.program.types a.function.locals x l setting.variables found))
        where
          as_type : (t : Ty) → slice_get a.program.types.types l.ty.0 ≡ Some t → type_at a.program.types l.ty ≡ t
          as_type t at = ap (λ (o : Option Ty). unwrap_or o ty.Void) at

          named : (t : Ty) → slice_get a.program.types.types l.ty.0 ≡ Some t → e ≡ variable_of t a.program.types l.ty l.constant e.place (local x)
          named t at = h ∙ ap (λ (o : Option Ty). variable_of (unwrap_or o ty.Void) a.program.types l.ty l.constant e.place (local x)) at

          other : (t : Ty) → e.ty ≡ Of t → is_unique t ≡ false → IsUniqueAt e (λ s. gives (variable_place s x) s) (λ b. None)
          other t at none = absurd (false≢true (sym none ∙ ap is_unique_type (sym at) ∙ n))

          kind : IsVariableType a.program.types l.ty → IsUniqueAt e (λ s. gives (variable_place s x) s) (λ b. None)
          kind (a_value t at v) =
              other t
              (by_values (λ u. e ≡ variable_of u a.program.types l.ty l.constant e.place (local x) → e.ty ≡ Of (type_at a.program.types l.ty)) (λ is. ap (λ (y : Typed). y.ty) is) (λ is. ap (λ (y : Typed). y.ty) is) (λ is. ap (λ (y : Typed). y.ty) is) (λ is. ap (λ (y : Typed). y.ty) is) (λ is. ap (λ (y : Typed). y.ty) is) t v (named t at)
              ∙ ap Of (as_type t at))
              (value_simple t v).unique
          kind (a_raw target constant at v) = other (ty.Raw target constant) (ap (λ (y : Typed). y.ty) (named (ty.Raw target constant) at) ∙ ap Of (as_type (ty.Raw target constant) at)) refl
          kind (a_view at) = other ty.View (ap (λ (y : Typed). y.ty) (named ty.View at) ∙ ap Of (as_type ty.View at)) refl
          kind (a_reference target constant at v) = other (type_at a.program.types target) (ap (λ (y : Typed). y.ty) (named (ty.Reference target constant) at)) (value_simple (type_at a.program.types target) v).unique
          kind (an_alias target constant at o) = other (type_at a.program.types target) (ap (λ (y : Typed). y.ty) (named (ty.Reference target constant) at)) (owner_no_unique a.program.types (type_at a.program.types target) o)
          kind (a_walker t at w) = other t (ap (λ (y : Typed). y.ty) (walker_named a.program.types e l.ty l.constant (local x) t w (named t at)) ∙ ap Of (as_type t at)) (walker_no_unique a.program.types t w)
          kind (a_struct number at) = other (ty.Struct number) (ap (λ (y : Typed). y.ty) (named (ty.Struct number) at) ∙ ap Of (as_type (ty.Struct number) at)) refl
          kind (a_struct_alias target constant number at structure pointless) = other (ty.Struct number) (ap (λ (y : Typed). y.ty) (named (ty.Reference target constant) at) ∙ ap Of structure) refl
          kind (an_owner t at o) = other t (ap (λ (y : Typed). y.ty) (owner_named a.program.types e l.ty l.constant (local x) t o (named t at)) ∙ ap Of (as_type t at)) (owner_no_unique a.program.types t o)
          kind (a_unique target at w) = record {
            target = target;
            is = ap (λ (y : Typed). y.ty) (named (ty.Unique target) at) ∙ ap Of (as_type (ty.Unique target) at);
            worth = w;
            id = l.ty;
            constant = l.constant;
            place = ap (λ (y : Typed). y.category) (named (ty.Unique target) at);
            owns = as_type (ty.Unique target) at;
            lies = variable_lies a visible types texts fs f setting x l (ty.Unique target) c found at refl;
            placed = λ s stands. let v = stands.seen x l c found in
                leaf_part types texts fs f (variable_place s x) s (a_place types texts fs f (ty.Unique target) false)
                (λ b. subst (IsPlaceOf types texts fs f (ty.Unique target) false) (sym (place_is a s x l v Object (kind_is a s x l v (ty.Unique target) at))) (object_formed types texts fs f a setting.front s b x l v (ty.Unique target) false at refl refl))
                (λ b k alive. variable_there a s x l v f k alive);
            undecided = λ b. refl;
          }

  -- ---- where it lies

  module _ (form : Form) (is : IsUnique form) where
    -- its own type
    pub own_unique : own (uses a form) ≡ ty.Unique is.target
    own_unique = ap own_type (sym (own_typed a visible types texts fs f setting form) ∙ is.is)

    -- an object of the function, or in one
    abbrev pub unique_at : State → Location
    unique_at s = lies_at a visible types texts fs f setting (uses a form).at is.lies s

    pub unique_operand : (s : State) → Stood s → operand (uses a form) s ≡ gives (Name (unique_at s)) s
    unique_operand s stands = placed_operand a visible types texts fs f setting form is.id is.constant s is.place ∙ is.lies.here s stands

    pub unique_placed : (s : State) → Stood s → Makes types texts fs f None s (gives (Name (unique_at s)) s) (a_place types texts fs f (ty.Unique is.target) false)
    unique_placed s stands = subst (λ (w : Gives Operand). Makes types texts fs f None s w (a_place types texts fs f (ty.Unique is.target) false)) (is.lies.here s stands) (is.placed s stands)

  -- ---- any one that lies in a local, a temporary too: what it owns

  pub record IsLying (form : Form) : Type 0 where
    pub target : TyId
    pub is : (typed_in form).ty ≡ Of (ty.Unique target)
    pub worth : is_element a.program.types (type_at a.program.types target) ≡ true
    -- there, once it has come to life
    pub location : State → Gives Location
    pub here : (s : State) → Stood s → operand (uses a form) s ≡ mapped Name (location s)
    pub placed : (s : State) → Stood s → Placed a visible types texts fs f setting (ty.Unique target) false s (mapped Name (location s))

  pub unique_lies : (form : Form) → IsUnique form → IsLying form
  unique_lies form is = record {
    target = is.target;
    is = is.is;
    worth = is.worth;
    location = λ s. gives (unique_at form is s) s;
    here = unique_operand form is;
    placed = unique_placed form is;
  }

  module _ (form : Form) (is : IsLying form) where
    own_lying : own (uses a form) ≡ ty.Unique is.target
    own_lying = ap own_type (sym (own_typed a visible types texts fs f setting form) ∙ is.is)

    lying_target : (place : Place) (s : State) → Stood s → Placed a visible types texts fs f setting (type_at a.program.types is.target) false s (target_at (own (uses a form)) (uses a form) place (category.Place is.target false) s)
    lying_target place s stands =
        let placed = is.placed s stands in
        let w = is.location s in
        subst (Placed a visible types texts fs f setting (type_at a.program.types is.target) false s) (sym reached)
        (then_part types texts fs f (no_gift types texts fs f) tt None s (mapped Name w) _ (a_place types texts fs f (ty.Unique is.target) false) (a_place types texts fs f (type_at a.program.types is.target) false) stands.opened placed
        (target_part types texts fs f a.program.types place is.target false (type_at a.program.types is.target) w.given w.state setting.front setting.plain (stands_later a visible s w.state placed.grown stands).table refl is.worth))
      where
        reached : target_at (own (uses a form)) (uses a form) place (category.Place is.target false) s ≡ (mapped Name (is.location s) >> λ o s. element place (category.Place is.target false) (Owner o) which.Target s)
        reached =
            ap (λ (t : Ty). target_at t (uses a form) place (category.Place is.target false) s) own_lying
            ∙ ap (λ (t : Ty). base_by t (uses a form) s >> λ b s. element place (category.Place is.target false) b which.Target s) own_lying
            ∙ ap (λ (w : Gives Operand). mapped Owner w >> λ b s. element place (category.Place is.target false) b which.Target s) (is.here s stands)

    pub lying_dereferenced : (e : Typed) → pointed_to a.program.types e.place (typed_in form) ≡ Ok e → IsReached a visible types texts fs f setting (dereference form) e
    lying_dereferenced e h =
        let one = ok_same (sym (ap (λ (x : ExprType). dereferenced_to (dereferenced x) a.program.types e.place (typed_in form)) is.is) ∙ h) in
        record {
          ty = type_at a.program.types is.target;
          id = is.target;
          constant = false;
          is = sym (ap (λ (y : Typed). y.ty) one);
          place = sym (ap (λ (y : Typed). y.category) one);
          here = refl;
          worth = is.worth;
          names = λ place s stands. lying_target place s stands;
          behind = λ place s y. ap (λ (x : Ty). is_itself types texts fs f y (target_at x (uses a form) place (category.Place is.target false) s).given) own_lying;
        }

    -- ---- a pointer to it

    pub lying_points : (s : State) → Stood s → Points a visible types texts fs f setting (Of (ty.Raw is.target false)) s (mapped (λ l. aimed (Get l)) (is.location s))
    lying_points s stands =
        let w = is.location s in
        seen_part types texts fs f (no_gift types texts fs f) tt None s (mapped Name w) (a_place types texts fs f (ty.Unique is.target) false) (λ o. aimed (Get (location_in o))) (a_pointing types texts fs f (Of (ty.Raw is.target false)))
        (is.placed s stands)
        (λ b q. got_given types texts fs f is.target false w.given (ap (is_element types) (element_there a.program.types types setting.front is.target is.worth) ∙ element_further a.program.types types setting.front setting.plain (type_at a.program.types is.target) is.worth) q)
        (λ n k q. got_filling types texts fs f w.given n k q)

    pub lying_get_form : (given : Form) (d : DelimitersForm) (e : Typed) → IsCalled a.program.types (typed_in form).ty (typed_in form).category methods.Get given e → IsForm a visible types texts fs f setting (method form methods.Get given d) e
    lying_get_form given d e h =
        pointer_form a visible types texts fs f setting (method form methods.Get given d) e (record { kind = a_pointer is.target false told.0 (element_target a.program.types (type_at a.program.types is.target) is.worth); place = λ id c at. absurd (value_place (sym told.1 ∙ at)) }) told.1 (λ n. false≢true (sym (ap is_number told.0) ∙ n)) refl (λ place b. refl) (λ at. absurd (no_literal a visible types texts fs f setting (ty.Raw is.target false) (sym told.0 ∙ at))) (λ at. absurd (no_null a visible types texts fs f setting (ty.Raw is.target false) (sym told.0 ∙ at)))
        (λ p place s stands. subst (λ (t : ExprType). Points a visible types texts fs f setting t s (got (uses a form) s)) (sym told.0)
        (subst (λ (w : Gives Operand). Points a visible types texts fs f setting (Of (ty.Raw is.target false)) s (mapped (λ o. aimed (Get (location_in o))) w)) (sym (is.here s stands)) (lying_points s stands)))
      where
        told : (e.ty ≡ Of (ty.Raw is.target false)) × (e.category ≡ category.Value)
        told = gives_as (Of (ty.Raw is.target false), category.Value) e (subst (λ (x : ExprType). IsCalled a.program.types x (typed_in form).category methods.Get given e) is.is h).2
