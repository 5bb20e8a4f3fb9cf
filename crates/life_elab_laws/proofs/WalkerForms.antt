-- Iterators and spans: how each expression that is one is written.
use Rattle.std.proofs.Common.{◌≡◌, ℕ, Bool, true, false, List, Contains, slice_get, Option, Some, None, refl, sym, ap, ◌∙◌, subst, unwrap_or, [], ◌∷◌}
use Rattle.std.proofs.lemmas.Bool.{false≢true}
use Rattle.life_elab_laws.proofs.ObjectTypes.{is_owner_of_values, is_walker_of_values, is_element}
use Rattle.life_elab_laws.proofs.TypeKinds.{is_walker, is_walker_type}
use Rattle.life_types.specs.TypeTests.{is_value, is_constant}
use Rattle.life_types.specs.Types.{Types}
use Rattle.life_types.specs.declared.ty.Ty.{Ty}
use Rattle.life_types.specs.declared.ty.Ty.TheVariants as ty
use Rattle.life_types.specs.declared.ty.TyId.{TyId}
use Rattle.life_typed.specs.BaseTypes.{type_at}
use Rattle.life_typed.specs.Members.{element_type}
use Rattle.life_typed.specs.TypedForm.{Form, Typed, local}
use Rattle.life_typed.specs.declared.typed_expr.Category.TheVariants as category
use Rattle.life_typed.specs.declared.typed_expr.ExprType.{ExprType}
use Rattle.life_typed.specs.declared.typed_expr.ExprType.TheVariants.{NullPointer, Of, TextLiteral}
use Rattle.life_typed.specs.declared.typed_program.TypedLocal.{TypedLocal}
use Rattle.life_type_expr.specs.Operands.{variable_of}
use Rattle.life_core.specs.Function.{Function}
use Rattle.life_core.specs.Operands.{Location, whole, Base, Pointer, Whole}
use Rattle.life_core.specs.Step.{Cursor}
use Rattle.life_core.specs.declared.operand.RangeEnd.{RangeEnd}
use Rattle.life_well_typed.specs.Expressions.{IsVariable, typed_in}
use Rattle.life_writer.specs.Around.{Around, own_type}
use Rattle.life_writer.specs.Bases.{base as base_of, base_by}
use Rattle.life_writer.specs.ExpressionForms.{uses}
use Rattle.life_writer.specs.MethodForms.{cursor}
use Rattle.life_writer.specs.Pointers.{As, By, Pointing, aimed}
use Rattle.life_writer.specs.Using.{operand, pointer, pointing, pointing_by}
use Rattle.life_writer.specs.Variables.{variable}
use Rattle.life_writer.specs.Writing.{Gives, State, gives}
use Rattle.life_elab_laws.proofs.BaseSteps.{a_base}
use Rattle.life_elab_laws.proofs.ExpressionForms.{Standing, pointer_own, pointer_part, pointing_itself}
use Rattle.life_elab_laws.proofs.ExpressionKinds.{variable_built}
use Rattle.life_elab_laws.proofs.FormedVariables.{pointer_formed}
use Rattle.life_elab_laws.proofs.Gifts.{a_pointer, a_pointing, nothing as no_gift, a_place}
use Rattle.life_elab_laws.proofs.Locations.{is_pointed}
use Rattle.life_elab_laws.proofs.ObjectForms.{IsAsked, IsOwner, owner_asked}
use Rattle.life_elab_laws.proofs.Parts.{Makes, leaf_part, seen_part}
use Rattle.life_elab_laws.proofs.PointerForms.{own_typed}
use Rattle.life_elab_laws.proofs.Setting.{Setting}
use Rattle.life_elab_laws.proofs.TypedKinds.{owner_named, walker_named, place_same, value_place}
use Rattle.life_elab_laws.proofs.Values.{by_owners, by_values}
use Rattle.life_elab_laws.proofs.VariablePlaces.{a_raw, a_reference, a_struct, a_unique, a_value, a_view, a_walker, an_alias, an_owner, IsVariableType, pointer_there, variable_type, walker_is, a_struct_alias}
use Rattle.life_elab_laws.proofs.WalkerSteps.{cursor_filling, cursor_given, keeps_itself, span_given}
use Rattle.life_elab_laws.proofs.WrittenLocals.{fits_register}
use Rattle.life_types.specs.Pointees.{ty_of}
use Rattle.life_proper.specs.OperandTypes.{keeps_const, seen_element, same}
use Rattle.life_proper.specs.Placed.{is_const_place}
use Rattle.life_writer.specs.Uses.{own}
use Rattle.life_elab_laws.proofs.Aiming.{keeps_further}
use Rattle.life_elab_laws.proofs.OwnerSteps.{whole_filling}
use Rattle.life_elab_laws.proofs.Elements.{element_target, element_there, one_element}
use Rattle.life_elab_laws.proofs.Targets.{target_same}
use Rattle.life_elab_laws.proofs.PointedCalls.{GivesPointer, gives_plainly}

-- ---- types

pub record IsWalkerType (t : ExprType) : Type 0 where
  pub ty : Ty
  pub is : t ≡ Of ty
  pub walker : is_walker ty ≡ true

pub walker_type : (t : ExprType) → is_walker_type t ≡ true → IsWalkerType t
walker_type NullPointer n = absurd (false≢true n)
walker_type TextLiteral n = absurd (false≢true n)
walker_type (Of t) n = record { ty = t; is = refl; walker = n }

pub value_no_walker : (t : Ty) → is_value t ≡ true → is_walker t ≡ false
value_no_walker = by_values (λ t. is_walker t ≡ false) refl refl refl refl refl

pub owner_no_walker : (types : Types) (t : Ty) → is_owner_of_values types t ≡ true → is_walker t ≡ false
owner_no_walker types = by_owners types _ refl (λ item. refl)

pub walker_fits : (types : Types) (t : Ty) → is_walker_of_values types t ≡ true → fits_register types t ≡ true
walker_fits types (ty.Iterator target constant) w = w
walker_fits types (ty.Span target constant) w = w
walker_fits types _ w = absurd (false≢true w)

module _ (a : Around) (visible : List ℕ) (types : Types) (texts : ℕ) (fs : List Function) (f : Function) (setting : Setting a types fs f) where
  abbrev Stood : State → Type 0
  Stood s = Standing a visible types texts fs f setting s

  abbrev PointsTo : Ty → State → Gives Pointing → Type 0
  PointsTo t s w = Makes types texts fs f None s w (a_pointing types texts fs f (Of t))

  -- ---- an expression that is one

  pub record IsWalkerAt (e : Typed) (gives_it : State → Gives Pointing) : Type 0 where
    pub ty : Ty
    pub is : e.ty ≡ Of ty
    pub walker : is_walker_of_values a.program.types ty ≡ true
    -- a place has the type of its object
    pub place : (id : TyId) (constant : Bool) → e.category ≡ category.Place id constant → e.ty ≡ Of (type_at a.program.types id)
    pub points : (s : State) → Stood s → GivesPointer types texts fs f (Of ty) s (gives_it s)

  abbrev pub IsWalker : Form → Type 0
  IsWalker form = IsWalkerAt (typed_in form) ((uses a form).pointing)

  pub walker_same : (e e' : Typed) (gives_it : State → Gives Pointing) → e.ty ≡ e'.ty → e.category ≡ e'.category → IsWalkerAt e gives_it → IsWalkerAt e' gives_it
  walker_same e e' gives_it t k is = record { ty = is.ty; is = sym t ∙ is.is; walker = is.walker; place = λ id c at. sym t ∙ is.place id c (k ∙ at); points = is.points }

  -- a value is no place
  pub no_place : (e : Typed) → e.category ≡ category.Value → (id : TyId) (constant : Bool) → e.category ≡ category.Place id constant → e.ty ≡ Of (type_at a.program.types id)
  no_place e held id constant at = absurd (value_place (sym held ∙ at))

  -- a variable
  pub variable_walker : (x : ℕ) (e : Typed) → is_walker_type e.ty ≡ true → Contains visible x → IsVariable a.program.types x (slice_get a.function.locals x) e → IsWalkerAt e (λ s. gives (As (whole (variable s x))) s)
  variable_walker x e n c h = go (slice_get a.function.locals x) refl h
    where
      own_one : IsWalkerType e.ty
      own_one = walker_type e.ty n

      same : {u w : Ty} → Of u ≡ Of w → u ≡ w
      same e = cc

      go : (o : Option TypedLocal) → slice_get a.function.locals x ≡ o → IsVariable a.program.types x o e → IsWalkerAt e (λ s. gives (As (whole (variable s x))) s)
      go None found h = absurd h
      go (Some l) found h = kind (variable_type a.program.types l.ty (variable_built a.program.types a.function.locals x l setting.variables found))
        where
          typed : (t : Ty) → slice_get a.program.types.types l.ty.0 ≡ Some t → type_at a.program.types l.ty ≡ t
          typed t at = ap (λ (o : Option Ty). unwrap_or o ty.Void) at

          named : (t : Ty) → slice_get a.program.types.types l.ty.0 ≡ Some t → e ≡ variable_of t a.program.types l.ty l.constant e.place (local x)
          named t at = h ∙ ap (λ (o : Option Ty). variable_of (unwrap_or o ty.Void) a.program.types l.ty l.constant e.place (local x)) at

          other : (t : Ty) → e.ty ≡ Of t → is_walker t ≡ false → IsWalkerAt e (λ s. gives (As (whole (variable s x))) s)
          other t at none = absurd (false≢true (sym none ∙ ap is_walker (same (sym at ∙ own_one.is)) ∙ own_one.walker))

          kind : IsVariableType a.program.types l.ty → IsWalkerAt e (λ s. gives (As (whole (variable s x))) s)
          kind (a_value t at v) =
              other t
              (by_values (λ u. e ≡ variable_of u a.program.types l.ty l.constant e.place (local x) → e.ty ≡ Of (type_at a.program.types l.ty)) (λ is. ap (λ (y : Typed). y.ty) is) (λ is. ap (λ (y : Typed). y.ty) is) (λ is. ap (λ (y : Typed). y.ty) is) (λ is. ap (λ (y : Typed). y.ty) is) (λ is. ap (λ (y : Typed). y.ty) is) t v (named t at)
              ∙ ap Of (typed t at))
              (value_no_walker t v)
          kind (a_raw target constant at v) = other (ty.Raw target constant) (ap (λ (y : Typed). y.ty) (named (ty.Raw target constant) at) ∙ ap Of (typed (ty.Raw target constant) at)) refl
          kind (a_view at) = other ty.View (ap (λ (y : Typed). y.ty) (named ty.View at) ∙ ap Of (typed ty.View at)) refl
          kind (a_reference target constant at v) = other (type_at a.program.types target) (ap (λ (y : Typed). y.ty) (named (ty.Reference target constant) at)) (value_no_walker (type_at a.program.types target) v)
          kind (an_alias target constant at o) = other (type_at a.program.types target) (ap (λ (y : Typed). y.ty) (named (ty.Reference target constant) at)) (owner_no_walker a.program.types (type_at a.program.types target) o)
          kind (a_unique target at w) = other (ty.Unique target) (ap (λ (y : Typed). y.ty) (named (ty.Unique target) at) ∙ ap Of (typed (ty.Unique target) at)) refl
          kind (a_struct number at) = other (ty.Struct number) (ap (λ (y : Typed). y.ty) (named (ty.Struct number) at) ∙ ap Of (typed (ty.Struct number) at)) refl
          kind (a_struct_alias target constant number at structure pointless) = other (ty.Struct number) (ap (λ (y : Typed). y.ty) (named (ty.Reference target constant) at) ∙ ap Of structure) refl
          kind (an_owner t at o) = other t (ap (λ (y : Typed). y.ty) (owner_named a.program.types e l.ty l.constant (local x) t o (named t at)) ∙ ap Of (typed t at)) (owner_no_walker a.program.types t o)
          kind (a_walker t at w) = record {
            ty = t;
            is = ap (λ (y : Typed). y.ty) (walker_named a.program.types e l.ty l.constant (local x) t w (named t at)) ∙ ap Of (typed t at);
            walker = w;
            place = λ id constant at'.
                let named_one = walker_named a.program.types e l.ty l.constant (local x) t w (named t at) in
                ap (λ (y : Typed). y.ty) named_one ∙ ap (λ (i : TyId). Of (type_at a.program.types i)) (place_same l.ty id l.constant constant (sym (ap (λ (y : Typed). y.category) named_one) ∙ at'));
            points = λ s stands.
                gives_plainly
                (leaf_part types texts fs f (As (whole (variable s x))) s (a_pointing types texts fs f (Of t))
                (λ b. pointer_formed types texts fs f a setting.front s b x l (stands.seen x l c found) t (walker_is a.program.types t w).location at)
                (λ b k alive. pointer_there a s x l (stands.seen x l c found) f k alive));
          }

  -- ---- what it gives, and where it lies

  pub walker_points : (form : Form) → (is : IsWalker form) → (s : State) → Stood s → GivesPointer types texts fs f (Of is.ty) s (pointing (uses a form) s)
  walker_points form is s stands =
      subst (GivesPointer types texts fs f (Of is.ty) s) (sym (pointing_itself a visible types texts fs f setting (uses a form) s (ap is_pointed (sym (own_typed a visible types texts fs f setting form) ∙ is.is) ∙ (walker_is a.program.types is.ty is.walker).location))) (is.points s stands)

  pub walker_pointer : (form : Form) → (is : IsWalker form) → (wanted : Ty) (s : State) → Stood s → Makes types texts fs f None s (pointer (uses a form) wanted s) (a_pointer types texts fs f is.ty)
  walker_pointer form is wanted s stands =
      let loc = (walker_is a.program.types is.ty is.walker).location in
      subst (λ (w : Gives Location). Makes types texts fs f None s w (a_pointer types texts fs f is.ty))
      (sym (pointer_own a visible types texts fs f setting (uses a form) wanted is.ty s (ap own_type (sym (own_typed a visible types texts fs f setting form) ∙ is.is)) loc))
      (pointer_part a visible types texts fs f setting ((uses a form).pointing) (Of is.ty) is.ty (uses a form).place s refl loc (walker_fits a.program.types is.ty is.walker) stands (is.points s stands))

  -- ---- an end of a vector

  pub cursor_walker : (base : Form) (e : Typed) (item : TyId) (end : RangeEnd) → (is : IsOwner a visible types texts fs f setting base) → is.ty ≡ ty.Vector item → e.ty ≡ Of (ty.Iterator item is.constant) → e.category ≡ category.Value → IsWalkerAt e (cursor (uses a base) end)
  cursor_walker base e item end is vector at held = record {
    ty = ty.Iterator item is.constant;
    is = at;
    walker = ap (is_element a.program.types) here ∙ worth;
    place = no_place e held;
    points = λ s stands.
        gives_plainly
        (seen_part types texts fs f (no_gift types texts fs f) tt None s (base_of (uses a base) s) (a_base types texts fs f (element_type a.program.types is.ty) is.constant) (λ b. By (λ p. Cursor p b end)) (a_pointing types texts fs f (Of (ty.Iterator item is.constant)))
        ((owner_asked a visible types texts fs f setting base is).asks s stands)
        (λ b h. cursor_given types texts fs f item is.constant (element_type a.program.types is.ty) (base_of (uses a base) s).given end later (target_same a.program.types (element_type a.program.types is.ty) (element_target a.program.types (element_type a.program.types is.ty) worth)) h)
        (λ n k h. cursor_filling types texts fs f (base_of (uses a base) s).given end n k h));
  }
    where
      here : type_at a.program.types item ≡ element_type a.program.types is.ty
      here = ap (element_type a.program.types) (sym vector)

      worth : is_element a.program.types (element_type a.program.types is.ty) ≡ true
      worth = (owner_asked a visible types texts fs f setting base is).worth

      later : ty_of types item ≡ element_type a.program.types is.ty
      later = element_there a.program.types types setting.front item (ap (is_element a.program.types) here ∙ worth) ∙ here

  -- ---- a vector as what a span is given

  pub vector_points : (form : Form) → (is : IsOwner a visible types texts fs f setting form) → (item : TyId) (constant : Bool) → is.ty ≡ ty.Vector item → keeps_const constant is.constant ≡ true → (s : State) → Stood s → PointsTo (ty.Span item constant) s (pointing (uses a form) s)
  vector_points form is item constant vector kept s stands =
      let w = operand (uses a form) s in
      subst (PointsTo (ty.Span item constant) s)
      (sym (ap (λ (x : Ty). pointing_by x (uses a form) s) (ap own_type (sym (own_typed a visible types texts fs f setting form) ∙ is.is) ∙ vector)))
      (seen_part types texts fs f (no_gift types texts fs f) tt None s w (a_place types texts fs f is.ty is.constant) (λ o. aimed (Whole o)) (a_pointing types texts fs f (Of (ty.Span item constant)))
      (is.names s stands)
      (λ b h. span_given types texts fs f item constant item w.given refl worth
      (record { typed = h.typed ∙ vector; held = keeps_further constant is.constant (is_const_place types f w.given) kept h.held }))
      (λ n k h. whole_filling types texts fs f w.given n k h))
    where
      worth : same (ty_of types item) (ty_of types item) ≡ true
      worth = one_element a.program.types types setting.front item (subst (λ (t : Ty). is_owner_of_values a.program.types t ≡ true) vector is.owner)

  -- ---- a span that is asked

  pub span_asked : (base : Form) → (is : IsWalker base) → (item : TyId) (constant : Bool) → is.ty ≡ ty.Span item constant → IsAsked a visible types texts fs f setting base (type_at a.program.types item) constant
  span_asked base is item constant span = record {
    worth = worth;
    asks = λ s stands.
        subst (λ (w : Gives Base). Makes types texts fs f None s w (a_base types texts fs f (type_at a.program.types item) constant))
        (sym (ap (λ (x : Ty). base_by x (uses a base) s) (ap own_type (sym (own_typed a visible types texts fs f setting base) ∙ is.is) ∙ span)))
        (seen_part types texts fs f (no_gift types texts fs f) tt None s (pointer (uses a base) (own (uses a base)) s) (a_pointer types texts fs f (ty.Span item constant)) Pointer (a_base types texts fs f (type_at a.program.types item) constant)
        (subst (λ (u : Ty). Makes types texts fs f None s (pointer (uses a base) (own (uses a base)) s) (a_pointer types texts fs f u)) span (walker_pointer base is (own (uses a base)) s stands))
        (λ b h. record { element = ap (seen_element types) h.typed ∙ element_there a.program.types types setting.front item worth; held = ap (λ (t : Ty). keeps_const constant (is_constant t)) h.typed ∙ keeps_itself constant })
        (λ n k q. record { local = q.local; uses = ap (λ (x : ℕ). x ∷ []) q.is; below = q.below; held = q.held }));
  }
    where
      worth : is_element a.program.types (type_at a.program.types item) ≡ true
      worth = subst (λ (t : Ty). is_walker_of_values a.program.types t ≡ true) span is.walker
