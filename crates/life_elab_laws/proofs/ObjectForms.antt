-- Owners that stand at a place, and what has elements: how each is written.
use Rattle.std.proofs.Common.{◌≡◌, ℕ, Bool, true, false, nat_eq, arith, List, Contains, slice_get, Option, Some, None, refl, sym, ap, ◌∙◌, subst, unwrap_or, [], ◌∷◌}
use Rattle.std.proofs.lemmas.Bool.{false≢true}
use Rattle.std.proofs.lemmas.Bool.Decides.{nat_tests}
use Rattle.life_elab_laws.proofs.ObjectTypes.{is_owner_of_values, is_element}
use Rattle.life_elab_laws.proofs.TypeKinds.{is_owner_type, owns_elements, is_plain_type}
use Rattle.life_types.specs.TypeTests.{is_value}
use Rattle.life_types.specs.Types.{Types}
use Rattle.life_types.specs.declared.place.Place.{Place}
use Rattle.life_types.specs.declared.ty.Ty.{Ty}
use Rattle.life_types.specs.declared.ty.Ty.TheVariants as ty
use Rattle.life_types.specs.declared.ty.TyId.{TyId}
use Rattle.life_typed.specs.BaseTypes.{type_at}
use Rattle.life_typed.specs.Members.{element_type}
use Rattle.life_typed.specs.TypedForm.{Form, Typed, local}
use Rattle.life_typed.specs.declared.typed_expr.Category.{Category}
use Rattle.life_typed.specs.declared.typed_expr.Category.TheVariants as category
use Rattle.life_typed.specs.declared.typed_expr.ExprType.{ExprType}
use Rattle.life_typed.specs.declared.typed_expr.ExprType.TheVariants.{NullPointer, Of, TextLiteral}
use Rattle.life_typed.specs.declared.typed_program.TypedLocal.{TypedLocal}
use Rattle.life_type_expr.specs.Operands.{is_constant, place_of as place_typed, variable_of}
use Rattle.life_core.specs.Function.{Function}
use Rattle.life_core.specs.Operands.{Base, Operand, Owner, Pointer}
use Rattle.life_core.specs.declared.operand.Which.{Which}
use Rattle.life_proper.specs.OperandTypes.{owned_element, seen_element}
use Rattle.life_core.specs.declared.program.LocalKind.TheVariants.{Object, Register}
use Rattle.life_proper.specs.WellFormed.{is_itself}
use Rattle.life_well_typed.specs.Expressions.{IsVariable, typed_in}
use Rattle.life_writer.specs.Around.{Around, own_type}
use Rattle.life_writer.specs.Bases.{base as base_of, base_by, element}
use Rattle.life_writer.specs.Calls.{form_call}
use Rattle.life_writer.specs.ExpressionForms.{form_uses, uses}
use Rattle.life_writer.specs.MethodForms.{emptied, sized}
use Rattle.life_writer.specs.Uses.{own}
use Rattle.life_writer.specs.Using.{operand, pointer}
use Rattle.life_writer.specs.Variables.{variable, variable_place}
use Rattle.life_writer.specs.Writing.{Gives, State, ◌>>◌, gives, mapped}
use Rattle.life_writer.specs.declared.behind.Behind.{Behind}
use Rattle.life_elab_laws.proofs.BaseSteps.{a_base, a_which, element_part, size_part, zero_part}
use Rattle.life_elab_laws.proofs.ExpressionForms.{IsForm, IsWhole, Placed, Standing, Valued, place_form, placed_finds}
use Rattle.life_elab_laws.proofs.ExpressionKinds.{variable_built}
use Rattle.life_elab_laws.proofs.FormedVariables.{const_same, owner_formed, reference_formed}
use Rattle.life_elab_laws.proofs.Gifts.{a_number, a_place, a_pointer, both, nothing as no_gift}
use Rattle.life_elab_laws.proofs.Instructions.{IsIntoOf, into_of_later}
use Rattle.life_elab_laws.proofs.Locations.{number_no_pointer}
use Rattle.life_elab_laws.proofs.Parts.{Makes, and_part, leaf_part, seen_part, then_part}
use Rattle.life_elab_laws.proofs.PointerForms.{own_typed, placed_operand, pointer_whole}
use Rattle.life_elab_laws.proofs.Setting.{Setting}
use Rattle.life_elab_laws.proofs.TypedKinds.{a_number as is_number_kind, owner_named, place_same, value_place, walker_named}
use Rattle.life_elab_laws.proofs.Values.{by_owners, by_values}
use Rattle.life_elab_laws.proofs.VariablePlaces.{a_raw, a_reference, a_struct, a_unique, a_value, a_view, a_walker, an_alias, an_owner, IsVariableType, kind_is, owner_kind, place_is, stands_later, variable_there, variable_type, walker_is, a_struct_alias}
use Rattle.life_well_typed.specs.Given.{is_number}
use Rattle.life_elab_laws.proofs.Targets.{owner_target, target_no_void}
use Rattle.life_elab_laws.proofs.Elements.{element_held, element_target, element_there, owner_element, plain_element}

-- ---- types

-- an expression with no value and no pointer is an owner
pub record IsOwnerType (t : ExprType) : Type 0 where
  pub ty : Ty
  pub is : t ≡ Of ty
  pub owner : owns_elements ty ≡ true

pub owner_type : (t : ExprType) → is_owner_type t ≡ true → IsOwnerType t
owner_type NullPointer n = absurd (false≢true n)
owner_type TextLiteral n = absurd (false≢true n)
owner_type (Of t) n = record { ty = t; is = refl; owner = n }

-- two numbers that differ
pub other_number : (n m : ℕ) → (n ≡ m → ⊥) → nat_eq n m ≡ false
other_number n m other = go (nat_eq n m) refl
  where
    one : (a b : ℕ) → nat_eq a b ≡ true → a ≡ b
    one a b h = grind (arith, nat_tests)

    go : (b : Bool) → nat_eq n m ≡ b → nat_eq n m ≡ false
    go false e = e
    go true e = absurd (other (one n m e))

module _ (a : Around) (visible : List ℕ) (types : Types) (texts : ℕ) (fs : List Function) (f : Function) (setting : Setting a types fs f) where
  abbrev Stood : State → Type 0
  Stood s = Standing a visible types texts fs f setting s

  abbrev PlacedAs : Ty → Bool → State → Gives Operand → Type 0
  PlacedAs t constant s w = Placed a visible types texts fs f setting t constant s w

  abbrev ValuedAs : Ty → Option ℕ → State → Gives ℕ → Type 0
  ValuedAs t into s w = Valued a visible types texts fs f setting t into s w

  -- ---- an owner at a place

  pub record IsObjectAt (e : Typed) (at : State → Gives Operand) : Type 0 where
    pub ty : Ty
    pub is : e.ty ≡ Of ty
    pub owner : is_owner_of_values a.program.types ty ≡ true
    pub id : TyId
    pub constant : Bool
    pub place : e.category ≡ category.Place id constant
    pub here : type_at a.program.types id ≡ ty
    pub names : (s : State) → Stood s → PlacedAs ty constant s (at s)
    -- it is none of those that don't live
    pub apart : (s : State) → Stood s → (y : ℕ) → (Contains s.living y → ⊥) → is_itself types texts fs f y (at s).given ≡ false

  -- .. that an expression is
  abbrev pub IsObject : Form → Type 0
  IsObject form = IsObjectAt (typed_in form) ((uses a form).at)

  -- ---- an owner, at a place or in a temporary

  pub record IsOwnerAt (e : Typed) (place : State → Gives Operand) : Type 0 where
    pub ty : Ty
    pub is : e.ty ≡ Of ty
    pub owner : is_owner_of_values a.program.types ty ≡ true
    pub constant : Bool
    pub told : is_constant e.category ≡ constant
    pub names : (s : State) → Stood s → PlacedAs ty constant s (place s)

  -- .. that an expression is
  abbrev pub IsOwner : Form → Type 0
  IsOwner form = IsOwnerAt (typed_in form) (operand (uses a form))

  pub object_owner : (form : Form) → IsObject form → IsOwner form
  object_owner form is = record {
    ty = is.ty;
    is = is.is;
    owner = is.owner;
    constant = is.constant;
    told = ap is_constant is.place;
    names = λ s stands.
        subst (PlacedAs is.ty is.constant s) (sym (placed_operand a visible types texts fs f setting form is.id is.constant s is.place)) (is.names s stands);
  }

  -- the same with another type and category that are equal
  pub object_same : (e e' : Typed) (at : State → Gives Operand) → e.ty ≡ e'.ty → e.category ≡ e'.category → IsObjectAt e at → IsObjectAt e' at
  object_same e e' at t c is = record { ty = is.ty; is = sym t ∙ is.is; owner = is.owner; id = is.id; constant = is.constant; place = sym c ∙ is.place; here = is.here; names = is.names; apart = is.apart }

  -- a variable
  pub variable_object : (x : ℕ) (e : Typed) → is_owner_type e.ty ≡ true → Contains visible x → IsVariable a.program.types x (slice_get a.function.locals x) e → IsObjectAt e (λ s. gives (variable_place s x) s)
  variable_object x e n c h = go (slice_get a.function.locals x) refl h
    where
      own : IsOwnerType e.ty
      own = owner_type e.ty n

      same : {u w : Ty} → Of u ≡ Of w → u ≡ w
      same e = cc

      go : (o : Option TypedLocal) → slice_get a.function.locals x ≡ o → IsVariable a.program.types x o e → IsObjectAt e (λ s. gives (variable_place s x) s)
      go None found h = absurd h
      go (Some l) found h = kind (variable_type a.program.types l.ty (variable_built a.program.types a.function.locals x l setting.variables found))
        where
          typed : (t : Ty) → slice_get a.program.types.types l.ty.0 ≡ Some t → type_at a.program.types l.ty ≡ t
          typed t at = ap (λ (o : Option Ty). unwrap_or o ty.Void) at

          named : (t : Ty) → slice_get a.program.types.types l.ty.0 ≡ Some t → e ≡ variable_of t a.program.types l.ty l.constant e.place (local x)
          named t at = h ∙ ap (λ (o : Option Ty). variable_of (unwrap_or o ty.Void) a.program.types l.ty l.constant e.place (local x)) at

          -- it is no owner
          other : (t : Ty) → e.ty ≡ Of t → owns_elements t ≡ false → IsObjectAt e (λ s. gives (variable_place s x) s)
          other t at none = absurd (false≢true (sym none ∙ ap owns_elements (same (sym at ∙ own.is)) ∙ own.owner))

          value_alone : (t : Ty) → is_value t ≡ true → owns_elements t ≡ false
          value_alone = by_values (λ t. owns_elements t ≡ false) refl refl refl refl refl

          kind : IsVariableType a.program.types l.ty → IsObjectAt e (λ s. gives (variable_place s x) s)
          kind (a_value t at v) =
              other t
              (by_values (λ u. e ≡ variable_of u a.program.types l.ty l.constant e.place (local x) → e.ty ≡ Of (type_at a.program.types l.ty)) (λ is. ap (λ (y : Typed). y.ty) is) (λ is. ap (λ (y : Typed). y.ty) is) (λ is. ap (λ (y : Typed). y.ty) is) (λ is. ap (λ (y : Typed). y.ty) is) (λ is. ap (λ (y : Typed). y.ty) is) t v (named t at)
              ∙ ap Of (typed t at))
              (value_alone t v)
          kind (a_raw target constant at v) = other (ty.Raw target constant) (ap (λ (y : Typed). y.ty) (named (ty.Raw target constant) at) ∙ ap Of (typed (ty.Raw target constant) at)) refl
          kind (a_view at) = other ty.View (ap (λ (y : Typed). y.ty) (named ty.View at) ∙ ap Of (typed ty.View at)) refl
          kind (a_reference target constant at v) = other (type_at a.program.types target) (ap (λ (y : Typed). y.ty) (named (ty.Reference target constant) at)) (value_alone (type_at a.program.types target) v)
          kind (an_alias target constant at o) =
              let place : e ≡ place_typed a.program.types target constant e.place (local x) = named (ty.Reference target constant) at in
              record {
                ty = type_at a.program.types target;
                is = ap (λ (y : Typed). y.ty) place;
                owner = o;
                id = target;
                constant = constant;
                place = ap (λ (y : Typed). y.category) place;
                here = refl;
                names = λ s stands.
                    leaf_part types texts fs f (variable_place s x) s (a_place types texts fs f (type_at a.program.types target) constant)
                    (λ b. reference_formed types texts fs f a setting.front s b x l (stands.seen x l c found) target constant at (owner_target a.program.types (type_at a.program.types target) o))
                    (λ b k alive. variable_there a s x l (stands.seen x l c found) f k alive);
                apart = λ s stands y dead.
                    let v = stands.seen x l c found in
                    ap (is_itself types texts fs f y) (place_is a s x l v Register (kind_is a s x l v (ty.Reference target constant) at));
              }
          kind (a_unique target at w) = other (ty.Unique target) (ap (λ (y : Typed). y.ty) (named (ty.Unique target) at) ∙ ap Of (typed (ty.Unique target) at)) refl
          kind (a_struct number at) = other (ty.Struct number) (ap (λ (y : Typed). y.ty) (named (ty.Struct number) at) ∙ ap Of (typed (ty.Struct number) at)) refl
          kind (a_struct_alias target constant number at structure pointless) = other (ty.Struct number) (ap (λ (y : Typed). y.ty) (named (ty.Reference target constant) at) ∙ ap Of structure) refl
          kind (a_walker t at w) = other t (ap (λ (y : Typed). y.ty) (walker_named a.program.types e l.ty l.constant (local x) t w (named t at)) ∙ ap Of (typed t at)) (walker_is a.program.types t w).owner
          kind (an_owner t at o) = record {
            ty = t;
            is = ap (λ (y : Typed). y.ty) place ∙ ap Of (typed t at);
            owner = o;
            id = l.ty;
            constant = l.constant;
            place = ap (λ (y : Typed). y.category) place;
            here = typed t at;
            names = λ s stands.
                leaf_part types texts fs f (variable_place s x) s (a_place types texts fs f t l.constant)
                (λ b. owner_formed types texts fs f a setting.front s b x l (stands.seen x l c found) t l.constant at o)
                (λ b k alive. variable_there a s x l (stands.seen x l c found) f k alive);
            apart = λ s stands y dead.
                let v = stands.seen x l c found in
                ap (is_itself types texts fs f y) (place_is a s x l v Object (kind_is a s x l v t at ∙ owner_kind a.program.types t o)) ∙ other_number (variable s x) y (λ e. dead (subst (Contains s.living) e v.lives));
          }
            where
              place : e ≡ place_typed a.program.types l.ty l.constant e.place (local x)
              place = owner_named a.program.types e l.ty l.constant (local x) t o (named t at)

  -- ---- what has elements

  pub record IsAsked (base : Form) (t : Ty) (constant : Bool) : Type 0 where
    pub worth : is_element a.program.types t ≡ true
    pub asks : (s : State) → Stood s → Makes types texts fs f None s (base_of (uses a base) s) (a_base types texts fs f t constant)

  -- a view
  pub view_asked : (base : Form) → IsWhole a visible types texts fs f setting base → (typed_in base).ty ≡ Of ty.View → IsAsked base ty.Char true
  view_asked base is at = record {
    worth = refl;
    asks = λ s stands.
        subst (λ (w : Gives Base). Makes types texts fs f None s w (a_base types texts fs f ty.Char true)) (sym (ap (λ (x : Ty). base_by x (uses a base) s) (ap own_type (sym (own_typed a visible types texts fs f setting base) ∙ at))))
        (seen_part types texts fs f (no_gift types texts fs f) tt None s (pointer (uses a base) (own (uses a base)) s) (a_pointer types texts fs f ty.View) Pointer (a_base types texts fs f ty.Char true)
        (pointer_whole a visible types texts fs f setting base is ty.View at refl (own (uses a base)) s stands)
        (λ b h. record { element = ap (seen_element types) h.typed; held = refl })
        (λ n k q. record { local = q.local; uses = ap (λ (x : ℕ). x ∷ []) q.is; below = q.below; held = q.held }));
  }

  -- an owner
  owner_base : (base : Form) → (is : IsOwner base) → (s : State) → base_of (uses a base) s ≡ mapped Owner (operand (uses a base) s)
  owner_base base is s =
      ap (λ (x : Ty). base_by x (uses a base) s) (ap own_type (sym (own_typed a visible types texts fs f setting base) ∙ is.is))
      ∙ owned is.ty is.owner
    where
      owned : (t : Ty) → is_owner_of_values a.program.types t ≡ true → base_by t (uses a base) s ≡ mapped Owner (operand (uses a base) s)
      owned = by_owners a.program.types _ refl (λ item. refl)

  pub owner_asked : (base : Form) → (is : IsOwner base) → IsAsked base (element_type a.program.types is.ty) is.constant
  owner_asked base is = record {
    worth = element_held a.program.types is.ty is.owner;
    asks = λ s stands.
        let w = operand (uses a base) s in
        subst (λ (w : Gives Base). Makes types texts fs f None s w (a_base types texts fs f (element_type a.program.types is.ty) is.constant)) (sym (owner_base base is s))
        (seen_part types texts fs f (no_gift types texts fs f) tt None s w (a_place types texts fs f is.ty is.constant) Owner (a_base types texts fs f (element_type a.program.types is.ty) is.constant)
        (is.names s stands)
        (λ b h. record { element = ap (owned_element types) h.typed ∙ held is.ty is.owner; held = h.held })
        (λ n k q. record { local = q.local; uses = q.uses; below = q.below; held = q.held }));
  }
    where
      held : (t : Ty) → is_owner_of_values a.program.types t ≡ true → owned_element types t ≡ element_type a.program.types t
      held ty.Text o = refl
      held (ty.Vector item) o = element_there a.program.types types setting.front item o
      held _ o = absurd (false≢true o)

  -- ---- how many elements there are

  module _ (base : Form) (t : Ty) (constant : Bool) (is : IsAsked base t constant) where
    pub sized_part : (place : Place) (into : Option ℕ) (s : State) → IsIntoOf ty.Size s into → Stood s → ValuedAs ty.Size into s (sized (uses a base) place into s)
    sized_part place into s wanted stands =
        let b = base_of (uses a base) s in
        let first = is.asks s stands in
        then_part types texts fs f (no_gift types texts fs f) tt into s b _ (a_base types texts fs f t constant) (a_number types texts fs f ty.Size) stands.opened first
        (size_part types texts fs f into t constant place b.given b.state (target_no_void a.program.types t (element_target a.program.types t is.worth)) (into_of_later ty.Size s b.state into first.grown wanted))

    pub emptied_part : (place : Place) (into : Option ℕ) (s : State) → IsIntoOf ty.Bool s into → Stood s → ValuedAs ty.Bool into s (emptied (uses a base) place into s)
    emptied_part place into s wanted stands =
        let n = sized (uses a base) place None s in
        let first = sized_part place None s tt stands in
        then_part types texts fs f (no_gift types texts fs f) tt into s n _ (a_number types texts fs f ty.Size) (a_number types texts fs f ty.Bool) stands.opened first
        (zero_part types texts fs f into ty.Size place n.given n.state (into_of_later ty.Bool s n.state into first.grown wanted))

    -- ---- one of them

    pub element_placed : (place : Place) (id : TyId) (which : State → Gives Which) (s : State) → Stood s → type_at a.program.types id ≡ t
        → ((s : State) → Stood s → Makes types texts fs f None s (which s) (a_which types texts fs f))
        → PlacedAs t constant s (base_of (uses a base) s >> λ b s. which s >> λ i s. element place (category.Place id constant) b i s)
    element_placed place id which s stands here second =
        let b = base_of (uses a base) s in
        let w = which b.state in
        let P = a_base types texts fs f t constant in
        let Q = a_which types texts fs f in
        let first = is.asks s stands in
        let later = stands_later a visible s b.state first.grown stands in
        let other = second b.state later in
        let both_stand = stands_later a visible b.state w.state other.grown later in
        then_part types texts fs f (no_gift types texts fs f) tt None s (gives (b.given, w.given) w.state) _ (both types texts fs f P Q) (a_place types texts fs f t constant) stands.opened
        (and_part types texts fs f (no_gift types texts fs f) tt s b w P Q stands.opened first other)
        (element_part types texts fs f a.program.types place id constant t (b.given, w.given) w.state setting.front setting.plain both_stand.table here is.worth)

  -- a value at a place, which is named whatever it is made by
  pub element_form : (form : Form) (e : Typed) (id : TyId) (constant : Bool) (t : Ty) → e.ty ≡ Of t → e.category ≡ category.Place id constant → type_at a.program.types id ≡ t → is_value t ≡ true → form_call form ≡ None
      → ((place : Place) (b : Behind) → (form_uses a form place e.ty e.category).decision b ≡ None)
      → ((place : Place) (s : State) → Stood s → PlacedAs t constant s ((form_uses a form place e.ty (category.Place id constant)).at s)) → IsForm a visible types texts fs f setting form e
  element_form form e id constant t is category_is here v none plain reached =
      place_form a visible types texts fs f setting form e
      (record { kind = is_number_kind t is v; place = λ other c at. is ∙ ap Of (sym here ∙ ap (type_at a.program.types) (place_same id other constant c (sym category_is ∙ at))) })
      (λ at. value_place (sym at ∙ category_is)) none plain names
      (λ other c at place s stands.
      placed_finds a visible types texts fs f setting (type_at a.program.types other) c s ((form_uses a form place e.ty e.category).at s)
      (names other c at (sym (ap (λ (i : TyId). is_value (type_at a.program.types i)) (place_same id other constant c (sym category_is ∙ at))) ∙ ap is_value here ∙ v) place s stands))
      (λ p. absurd (number_no_pointer e.ty (ap is_number is ∙ v) p))
    where
      names : (other : TyId) (c : Bool) → e.category ≡ category.Place other c → is_value (type_at a.program.types other) ≡ true → (place : Place) (s : State) → Stood s
          → PlacedAs (type_at a.program.types other) c s ((form_uses a form place e.ty e.category).at s)
      names other c at w place s stands =
          let same = sym category_is ∙ at in
          subst (λ (k : Category). PlacedAs (type_at a.program.types other) c s ((form_uses a form place e.ty k).at s)) (sym category_is)
          (subst (λ (k : Bool). PlacedAs (type_at a.program.types other) k s ((form_uses a form place e.ty (category.Place id constant)).at s)) (const_same id other constant c same)
          (subst (λ (u : Ty). PlacedAs u constant s ((form_uses a form place e.ty (category.Place id constant)).at s)) (sym here ∙ ap (type_at a.program.types) (place_same id other constant c same))
          (reached place s stands)))

  -- ---- an element, which is at a place whatever it is

  pub record IsReached (form : Form) (e : Typed) : Type 0 where
    pub ty : Ty
    pub id : TyId
    pub constant : Bool
    pub is : e.ty ≡ Of ty
    pub place : e.category ≡ category.Place id constant
    pub here : type_at a.program.types id ≡ ty
    pub worth : is_element a.program.types ty ≡ true
    pub names : (place : Place) (s : State) → Stood s → PlacedAs ty constant s ((form_uses a form place e.ty (category.Place id constant)).at s)
    -- it is behind a pointer
    pub behind : (place : Place) (s : State) (y : ℕ) → is_itself types texts fs f y ((form_uses a form place e.ty (category.Place id constant)).at s).given ≡ false

  -- as a value
  pub reached_form : (form : Form) (e : Typed) → IsReached form e → is_plain_type e.ty ≡ true → form_call form ≡ None → ((place : Place) (b : Behind) → (form_uses a form place e.ty e.category).decision b ≡ None) → IsForm a visible types texts fs f setting form e
  reached_form form e is q none plain =
      element_form form e is.id is.constant is.ty is.is is.place is.here (plain_element a.program.types is.ty is.worth (subst (λ (x : ExprType). is_plain_type x ≡ true) is.is q)) none plain is.names

  -- .. and as an owner
  pub reached_object : (form : Form) (e : Typed) (place : Place) → IsReached form e → is_owner_type e.ty ≡ true → IsObjectAt e ((form_uses a form place e.ty e.category).at)
  reached_object form e place is n = record {
    ty = is.ty;
    is = is.is;
    owner = owner_element a.program.types is.ty is.worth (subst (λ (x : ExprType). is_owner_type x ≡ true) is.is n);
    id = is.id;
    constant = is.constant;
    place = is.place;
    here = is.here;
    names = λ s stands. subst (λ (k : Category). PlacedAs is.ty is.constant s ((form_uses a form place e.ty k).at s)) (sym is.place) (is.names place s stands);
    apart = λ s stands y dead. ap (λ (k : Category). is_itself types texts fs f y ((form_uses a form place e.ty k).at s).given) is.place ∙ is.behind place s y;
  }
