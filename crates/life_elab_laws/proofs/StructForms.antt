-- Structs at a place, such as variables, and their members.
use Rattle.std.proofs.Common.{◌≡◌, ℕ, Bool, true, false, List, Contains, length, slice_get, Option, Some, None, refl, sym, ap, ◌∙◌, subst, unwrap_or}
use Rattle.std.proofs.lemmas.Bool.{false≢true}
use Rattle.life_elab_laws.proofs.ObjectTypes.{is_owner_of_values, is_struct, is_struct_member, is_walker_of_values, is_plain_struct, is_element}
use Rattle.life_elab_laws.proofs.TypeKinds.{is_owner_type, is_plain_type, is_struct_type, is_walker_type}
use Rattle.life_types.specs.Trees.{members_at}
use Rattle.life_types.specs.TypeTests.{is_value}
use Rattle.life_types.specs.declared.place.Place.{Place}
use Rattle.life_types.specs.Types.{Types}
use Rattle.life_types.specs.declared.ty.Ty.{Ty}
use Rattle.life_types.specs.declared.ty.Ty.TheVariants as ty
use Rattle.life_types.specs.declared.ty.TyId.{TyId}
use Rattle.life_typed.specs.BaseTypes.{type_at}
use Rattle.life_typed.specs.TypedForm.{Form, Typed, local, member}
use Rattle.life_typed.specs.declared.typed_expr.Category.{Category}
use Rattle.life_typed.specs.declared.typed_expr.Category.TheVariants as category
use Rattle.life_typed.specs.declared.typed_expr.ExprType.{ExprType}
use Rattle.life_typed.specs.declared.typed_expr.ExprType.TheVariants.{Of}
use Rattle.life_typed.specs.declared.typed_program.TypedLocal.{TypedLocal}
use Rattle.life_type_expr.specs.Operands.{place_of as place_typed, variable_of}
use Rattle.life_core.specs.Function.{Function}
use Rattle.life_core.specs.Operands.{Operand, object_named}
use Rattle.life_core.specs.declared.program.LocalKind.TheVariants.{Object}
use Rattle.life_well_typed.specs.Expressions.{IsVariable, typed_in}
use Rattle.life_well_typed.specs.Given.{is_number}
use Rattle.life_well_typed.specs.Members.{IsMember, IsMemberAt}
use Rattle.life_writer.specs.Around.{Around}
use Rattle.life_writer.specs.ExpressionForms.{member_at, uses, form_uses}
use Rattle.life_writer.specs.Using.{operand, with_member, location_in}
use Rattle.life_writer.specs.Variables.{variable, variable_place}
use Rattle.life_writer.specs.Writing.{Gives, State, gives, mapped}
use Rattle.life_elab_laws.proofs.ExpressionForms.{IsForm, Placed, Standing, place_form, placed_finds}
use Rattle.life_elab_laws.proofs.ExpressionKinds.{variable_built}
use Rattle.life_elab_laws.proofs.FormedVariables.{const_same, object_formed, reference_formed}
use Rattle.life_elab_laws.proofs.Gifts.{a_place, nothing as no_gift, a_pointing, IsPlaceOf}
use Rattle.life_elab_laws.proofs.Locations.{number_no_pointer, is_location, is_pointed}
use Rattle.life_elab_laws.proofs.Making.{IsPlace}
use Rattle.life_elab_laws.proofs.Parts.{leaf_part, seen_part, Makes}
use Rattle.life_elab_laws.proofs.PointerForms.{placed_operand}
use Rattle.life_elab_laws.proofs.Setting.{Setting}
use Rattle.life_elab_laws.proofs.ObjectForms.{IsObjectAt, IsReached}
use Rattle.life_elab_laws.proofs.StructSteps.{member_apart, member_placed, member_there, at_member, member_pointer}
use Rattle.life_elab_laws.proofs.StructTypes.{IsHeld, a_struct_held, a_value_held, an_owner_held, has_member, held_is, member_type_there, a_raw_held, a_unique_held, a_view_held, a_walker_held}
use Rattle.life_elab_laws.proofs.TypedKinds.{a_number, kind_of_place, owner_named, place_same, value_place, walker_named, HasKind, a_pointer, a_view as a_view_kind}
use Rattle.life_elab_laws.proofs.Values.{by_owners, by_values, by_walkers}
use Rattle.life_elab_laws.proofs.VariableParts.{LiesIn, lies_named, member_within, variable_lies}
use Rattle.life_elab_laws.proofs.VariablePlaces.{IsVariableAt, IsVariableType, a_raw, a_reference, a_struct, a_unique, a_value, a_view, a_walker, an_alias, an_owner, kind_is, place_is, variable_there, variable_type, a_struct_alias, walker_is}
use Rattle.life_elab_laws.proofs.Targets.{struct_target, struct_named}
use Rattle.life_writer.specs.Pointers.{As, Pointing}
use Rattle.life_elab_laws.proofs.PlainStructs.{no_pointer_in, plain_within}
use Rattle.life_elab_laws.proofs.WalkerForms.{IsWalkerAt}
use Rattle.life_elab_laws.proofs.Elements.{struct_within}
use Rattle.life_elab_laws.proofs.PointedCalls.{gives_plainly}

-- nothing else is one
pub value_no_struct : (t : Ty) → is_value t ≡ true → is_struct t ≡ false
value_no_struct = by_values (λ t. is_struct t ≡ false) refl refl refl refl refl

pub owner_no_struct : (types : Types) (t : Ty) → is_owner_of_values types t ≡ true → is_struct t ≡ false
owner_no_struct types = by_owners types _ refl (λ item. refl)

pub walker_no_struct : (types : Types) (t : Ty) → is_walker_of_values types t ≡ true → is_struct t ≡ false
walker_no_struct types = by_walkers types _ (λ target constant. refl) (λ target constant. refl)

module _ (a : Around) (visible : List ℕ) (types : Types) (texts : ℕ) (fs : List Function) (f : Function) (setting : Setting a types fs f) where
  abbrev Stood : State → Type 0
  Stood s = Standing a visible types texts fs f setting s

  abbrev PlacedAs : Ty → Bool → State → Gives Operand → Type 0
  PlacedAs t constant s w = Placed a visible types texts fs f setting t constant s w

  -- ---- one at a place

  pub record IsStructAt (e : Typed) (at : State → Gives Operand) : Type 0 where
    pub number : ℕ
    pub is : e.ty ≡ Of (ty.Struct number)
    pub id : TyId
    pub constant : Bool
    pub place : e.category ≡ category.Place id constant
    pub here : type_at a.program.types id ≡ ty.Struct number
    pub names : (s : State) → Stood s → PlacedAs (ty.Struct number) constant s (at s)
    -- one that holds pointers or unique_ptrs is a variable, or in one
    pub lies : is_plain_struct a.program.types (ty.Struct number) ≡ false → LiesIn a visible types texts fs f setting at

  abbrev pub IsStruct : Form → Type 0
  IsStruct form = IsStructAt (typed_in form) ((uses a form).at)

  -- the same with another type and category that are equal
  pub struct_same : (e e' : Typed) (at : State → Gives Operand) → e.ty ≡ e'.ty → e.category ≡ e'.category → IsStructAt e at → IsStructAt e' at
  struct_same e e' at t c is = record { number = is.number; is = sym t ∙ is.is; id = is.id; constant = is.constant; place = sym c ∙ is.place; here = is.here; names = is.names; lies = is.lies }

  -- a variable
  pub variable_struct : (x : ℕ) (e : Typed) → is_struct_type e.ty ≡ true → Contains visible x → IsVariable a.program.types x (slice_get a.function.locals x) e → IsStructAt e (λ s. gives (variable_place s x) s)
  variable_struct x e n c h = go (slice_get a.function.locals x) refl h
    where
      go : (o : Option TypedLocal) → slice_get a.function.locals x ≡ o → IsVariable a.program.types x o e → IsStructAt e (λ s. gives (variable_place s x) s)
      go None found h = absurd h
      go (Some l) found h = kind (variable_type a.program.types l.ty (variable_built a.program.types a.function.locals x l setting.variables found))
        where
          as_type : (t : Ty) → slice_get a.program.types.types l.ty.0 ≡ Some t → type_at a.program.types l.ty ≡ t
          as_type t at = ap (λ (o : Option Ty). unwrap_or o ty.Void) at

          named : (t : Ty) → slice_get a.program.types.types l.ty.0 ≡ Some t → e ≡ variable_of t a.program.types l.ty l.constant e.place (local x)
          named t at = h ∙ ap (λ (o : Option Ty). variable_of (unwrap_or o ty.Void) a.program.types l.ty l.constant e.place (local x)) at

          other : (t : Ty) → e.ty ≡ Of t → is_struct t ≡ false → IsStructAt e (λ s. gives (variable_place s x) s)
          other t at none = absurd (false≢true (sym none ∙ ap is_struct_type (sym at) ∙ n))

          kind : IsVariableType a.program.types l.ty → IsStructAt e (λ s. gives (variable_place s x) s)
          kind (a_value t at v) =
              other t
              (by_values (λ u. e ≡ variable_of u a.program.types l.ty l.constant e.place (local x) → e.ty ≡ Of (type_at a.program.types l.ty)) (λ is. ap (λ (y : Typed). y.ty) is) (λ is. ap (λ (y : Typed). y.ty) is) (λ is. ap (λ (y : Typed). y.ty) is) (λ is. ap (λ (y : Typed). y.ty) is) (λ is. ap (λ (y : Typed). y.ty) is) t v (named t at)
              ∙ ap Of (as_type t at))
              (value_no_struct t v)
          kind (a_raw target constant at v) = other (ty.Raw target constant) (ap (λ (y : Typed). y.ty) (named (ty.Raw target constant) at) ∙ ap Of (as_type (ty.Raw target constant) at)) refl
          kind (a_view at) = other ty.View (ap (λ (y : Typed). y.ty) (named ty.View at) ∙ ap Of (as_type ty.View at)) refl
          kind (a_reference target constant at v) = other (type_at a.program.types target) (ap (λ (y : Typed). y.ty) (named (ty.Reference target constant) at)) (value_no_struct (type_at a.program.types target) v)
          kind (an_alias target constant at o) = other (type_at a.program.types target) (ap (λ (y : Typed). y.ty) (named (ty.Reference target constant) at)) (owner_no_struct a.program.types (type_at a.program.types target) o)
          kind (a_walker t at w) = other t (ap (λ (y : Typed). y.ty) (walker_named a.program.types e l.ty l.constant (local x) t w (named t at)) ∙ ap Of (as_type t at)) (walker_no_struct a.program.types t w)
          kind (an_owner t at o) = other t (ap (λ (y : Typed). y.ty) (owner_named a.program.types e l.ty l.constant (local x) t o (named t at)) ∙ ap Of (as_type t at)) (owner_no_struct a.program.types t o)
          kind (a_unique target at w) = other (ty.Unique target) (ap (λ (y : Typed). y.ty) (named (ty.Unique target) at) ∙ ap Of (as_type (ty.Unique target) at)) refl
          kind (a_struct_alias target constant number at structure pointless) = record {
            number = number;
            is = ap (λ (y : Typed). y.ty) (named (ty.Reference target constant) at) ∙ ap Of structure;
            id = target;
            constant = constant;
            place = ap (λ (y : Typed). y.category) (named (ty.Reference target constant) at);
            here = structure;
            names = λ s stands.
                subst (λ (t : Ty). PlacedAs t constant s (gives (variable_place s x) s)) structure
                (leaf_part types texts fs f (variable_place s x) s (a_place types texts fs f (type_at a.program.types target) constant)
                (λ b. reference_formed types texts fs f a setting.front s b x l (stands.seen x l c found) target constant at (struct_target a.program.types (type_at a.program.types target) pointless))
                (λ b k alive. variable_there a s x l (stands.seen x l c found) f k alive));
            lies = λ none. absurd (false≢true (sym none ∙ ap (is_plain_struct a.program.types) (sym structure) ∙ pointless));
          }
          kind (a_struct number at) = record {
            number = number;
            is = ap (λ (y : Typed). y.ty) (named (ty.Struct number) at) ∙ ap Of (as_type (ty.Struct number) at);
            id = l.ty;
            constant = l.constant;
            place = ap (λ (y : Typed). y.category) (named (ty.Struct number) at);
            here = as_type (ty.Struct number) at;
            names = λ s stands. named_there s stands;
            lies = λ none. variable_lies a visible types texts fs f setting x l (ty.Struct number) c found at refl;
          }
            where
              named_there : (s : State) → Stood s → PlacedAs (ty.Struct number) l.constant s (gives (variable_place s x) s)
              named_there s stands =
                  subst (λ (o : Operand). PlacedAs (ty.Struct number) l.constant s (gives o s)) (sym here)
                  (leaf_part types texts fs f (object_named (variable s x)) s (a_place types texts fs f (ty.Struct number) l.constant)
                  (λ b. object_formed types texts fs f a setting.front s b x l v (ty.Struct number) l.constant at refl refl)
                  (λ b k alive. subst (λ (o : Operand). IsPlace o (length s.locals) k) here (variable_there a s x l v f k alive)))
                where
                  v : IsVariableAt a s x l
                  v = stands.seen x l c found

                  here : variable_place s x ≡ object_named (variable s x)
                  here = place_is a s x l v Object (kind_is a s x l v (ty.Struct number) at)

  -- an element, or what is behind an iterator or a unique_ptr
  pub reached_struct : (form : Form) (e : Typed) (place : Place) → IsReached a visible types texts fs f setting form e → is_struct_type e.ty ≡ true → IsStructAt e ((form_uses a form place e.ty e.category).at)
  reached_struct form e place is n =
      let s = struct_named is.ty (subst (λ (x : ExprType). is_struct_type x ≡ true) is.is n) in
      record {
        number = s.0;
        is = is.is ∙ ap Of s.1;
        id = is.id;
        constant = is.constant;
        place = is.place;
        here = is.here ∙ s.1;
        names = λ z stands.
            subst (λ (t : Ty). PlacedAs t is.constant z ((form_uses a form place e.ty e.category).at z)) s.1
            (subst (λ (k : Category). PlacedAs is.ty is.constant z ((form_uses a form place e.ty k).at z)) (sym is.place) (is.names place z stands));
        -- an element has no pointers
        lies = λ none. absurd (false≢true (sym none ∙ struct_within a.program.types s.0 (subst (λ (t : Ty). is_element a.program.types t ≡ true) s.1 is.worth)));
      }

  -- ---- a member

  -- what it is, and how it is written
  pub record HasMember (base : Form) (which : ℕ) (e : Typed) (number : ℕ) (constant : Bool) : Type 0 where
    pub id : TyId
    pub there : slice_get (members_at a.program.types number) which ≡ Some id
    pub own : e.ty ≡ Of (type_at a.program.types id)
    pub held : e.category ≡ category.Place id constant
    pub kind : IsHeld a.program.types (type_at a.program.types id)
    pub told : e ≡ place_typed a.program.types id constant e.place e.form
    pub placed : (o : Operand) → IsPlaceOf types texts fs f (ty.Struct number) constant o → IsPlaceOf types texts fs f (type_at a.program.types id) constant (with_member which o)
    pub names : (s : State) → Stood s → PlacedAs (type_at a.program.types id) constant s (member_at (uses a base) which s)

  module _ (base : Form) (which : ℕ) (e : Typed) (is : IsStruct base) (h : IsMember a.program.types (typed_in base).ty (typed_in base).category which e) where
    base_at : (s : State) → operand (uses a base) s ≡ (uses a base).at s
    base_at s = placed_operand a visible types texts fs f setting base is.id is.constant s is.place

    pub found : HasMember base which e is.number is.constant
    found = go (slice_get (members_at a.program.types is.number) which) refl told
      where
        told : IsMemberAt a.program.types (slice_get (members_at a.program.types is.number) which) is.constant e
        told = subst (λ (k : Category). IsMember a.program.types (Of (ty.Struct is.number)) k which e) is.place (subst (λ (x : ExprType). IsMember a.program.types x (typed_in base).category which e) is.is h)

        go : (o : Option TyId) → slice_get (members_at a.program.types is.number) which ≡ o → IsMemberAt a.program.types o is.constant e → HasMember base which e is.number is.constant
        go None there told = absurd told
        go (Some id) there told = record {
          id = id;
          there = there;
          own = ap (λ (y : Typed). y.ty) told;
          held = ap (λ (y : Typed). y.category) told;
          kind = held_is a.program.types (type_at a.program.types id) member;
          told = told;
          placed = in_struct;
          names = λ s stands.
              subst (λ (w : Gives Operand). PlacedAs (type_at a.program.types id) is.constant s (mapped (with_member which) w)) (sym (base_at s))
              (seen_part types texts fs f (no_gift types texts fs f) tt None s ((uses a base).at s) (a_place types texts fs f (ty.Struct is.number) is.constant) (with_member which) (a_place types texts fs f (type_at a.program.types id) is.constant) (is.names s stands)
              (λ b q. in_struct ((uses a base).at s).given q)
              (λ n k q. member_there which ((uses a base).at s).given n k q));
        }
          where
            member : is_struct_member a.program.types (type_at a.program.types id) ≡ true
            member = has_member a.program.types setting.values is.number which id there

            later : slice_get (members_at types is.number) which ≡ Some id
            later = ap (λ (ids : List TyId). slice_get ids which) (setting.members is.number) ∙ there

            in_struct : (o : Operand) → IsPlaceOf types texts fs f (ty.Struct is.number) is.constant o → IsPlaceOf types texts fs f (type_at a.program.types id) is.constant (with_member which o)
            in_struct o q = member_placed types texts fs f is.number which id (type_at a.program.types id) is.constant o later (member_type_there a.program.types types setting.front id member) q

    -- of a struct that holds pointers or unique_ptrs
    pub member_lies : is_plain_struct a.program.types (ty.Struct is.number) ≡ false → LiesIn a visible types texts fs f setting (member_at (uses a base) which)
    member_lies none = let l = member_within a visible types texts fs f setting (uses a base).at (is.lies none) which in record {
      number = l.number;
      declared = l.declared;
      found = l.found;
      seen = l.seen;
      members = l.members;
      here = λ s stands. ap (λ (w : Gives Operand). mapped (with_member which) w) (base_at s) ∙ l.here s stands;
    }

    -- a pointer lies in the member itself
    abbrev pub pointing_at : State → Gives Pointing
    pointing_at s = mapped (λ o. As (location_in o)) (member_at (uses a base) which s)

    -- so the struct holds one
    held_pointer : is_location (type_at a.program.types found.id) ≡ true → is_plain_struct a.program.types (ty.Struct is.number) ≡ false
    held_pointer loc = go (is_plain_struct a.program.types (ty.Struct is.number)) refl
      where
        go : (b : Bool) → is_plain_struct a.program.types (ty.Struct is.number) ≡ b → b ≡ false
        go false plain = refl
        go true plain = absurd (no_pointer_in a.program.types setting.values.ordered is.number which found.id found.there plain loc)

    member_points : (t : Ty) → type_at a.program.types found.id ≡ t → is_location t ≡ true → (s : State) → Stood s → Makes types texts fs f None s (pointing_at s) (a_pointing types texts fs f (Of t))
    member_points t same loc s stands =
        let u = (uses a base).at s in
        let l = lies_named a visible types texts fs f setting (uses a base).at (is.lies (held_pointer (ap is_location same ∙ loc))) s stands in
        subst (λ (w : Gives Operand). Makes types texts fs f None s (mapped (λ o. As (location_in o)) (mapped (with_member which) w)) (a_pointing types texts fs f (Of t))) (sym (base_at s))
        (seen_part types texts fs f (no_gift types texts fs f) tt None s u (a_place types texts fs f (ty.Struct is.number) is.constant) (λ o. As (location_in (with_member which o))) (a_pointing types texts fs f (Of t)) (is.names s stands)
        (λ b q. at_member types texts fs f t which u.given u.state b l.location l.is l.local l.there l.named loc ((found.placed u.given q).typed ∙ same))
        (λ n k q. member_pointer which u.given l.location l.is n k q))

    -- a value, a raw pointer or a view
    pub member_form : is_plain_type e.ty ≡ true → IsForm a visible types texts fs f setting (member base which) e
    member_form q = go (type_at a.program.types found.id) refl found.kind (subst (λ (x : ExprType). is_plain_type x ≡ true) found.own q)
      where
        as_type : (id : TyId) (constant : Bool) → e.category ≡ category.Place id constant → (s : State) → Stood s → PlacedAs (type_at a.program.types id) constant s (member_at (uses a base) which s)
        as_type id constant at s stands =
            subst (λ (i : TyId). PlacedAs (type_at a.program.types i) constant s (member_at (uses a base) which s)) (place_same found.id id is.constant constant (sym found.held ∙ at))
            (subst (λ (d : Bool). PlacedAs (type_at a.program.types found.id) d s (member_at (uses a base) which s)) (const_same found.id id is.constant constant (sym found.held ∙ at)) (found.names s stands))

        formed : HasKind a.program.types e → (is_pointed e.ty ≡ true → (s : State) → Stood s → Makes types texts fs f None s (pointing_at s) (a_pointing types texts fs f e.ty)) → IsForm a visible types texts fs f setting (member base which) e
        formed kind points =
            place_form a visible types texts fs f setting (member base which) e (kind_of_place a.program.types e found.id is.constant e.form found.told kind)
            (λ value. value_place (sym value ∙ found.held)) refl (λ place b. refl)
            (λ id constant at worth place s stands. as_type id constant at s stands)
            (λ id constant at place s stands. placed_finds a visible types texts fs f setting (type_at a.program.types id) constant s (member_at (uses a base) which s) (as_type id constant at s stands))
            (λ p place s stands. points p s stands)

        pointed : (t : Ty) → type_at a.program.types found.id ≡ t → is_location t ≡ true → is_pointed e.ty ≡ true → (s : State) → Stood s → Makes types texts fs f None s (pointing_at s) (a_pointing types texts fs f e.ty)
        pointed t same loc p s stands = subst (λ (x : ExprType). Makes types texts fs f None s (pointing_at s) (a_pointing types texts fs f x)) (sym (found.own ∙ ap Of same)) (member_points t same loc s stands)

        go : (t : Ty) → type_at a.program.types found.id ≡ t → IsHeld a.program.types t → is_plain_type (Of t) ≡ true → IsForm a visible types texts fs f setting (member base which) e
        go t same (a_value_held v) q = formed (a_number t (found.own ∙ ap Of same) v) (λ p. absurd (number_no_pointer e.ty (ap is_number (found.own ∙ ap Of same) ∙ v) p))
        go t same (a_raw_held target constant raw w) q = formed (a_pointer target constant (found.own ∙ ap Of (same ∙ raw)) w) (pointed (ty.Raw target constant) (same ∙ raw) refl)
        go t same (a_view_held view) q = formed (a_view_kind (found.own ∙ ap Of (same ∙ view))) (pointed ty.View (same ∙ view) refl)
        go (ty.Iterator item constant) same (a_walker_held w) q = absurd (false≢true q)
        go (ty.Span item constant) same (a_walker_held w) q = absurd (false≢true q)
        go _ same (a_walker_held w) q = absurd (false≢true w)
        go ty.Text same (an_owner_held o) q = absurd (false≢true q)
        go (ty.Vector item) same (an_owner_held o) q = absurd (false≢true q)
        go _ same (an_owner_held o) q = absurd (false≢true o)
        go t same (a_unique_held target unique w) q = absurd (false≢true (sym (ap (λ (w : Ty). is_plain_type (Of w)) unique) ∙ q))
        go t same (a_struct_held n structure) q = absurd (false≢true (sym (ap (λ (w : Ty). is_plain_type (Of w)) structure) ∙ q))

    -- an iterator or a span
    pub member_walker : is_walker_type e.ty ≡ true → IsWalkerAt a visible types texts fs f setting e pointing_at
    member_walker n = go (type_at a.program.types found.id) refl found.kind (subst (λ (x : ExprType). is_walker_type x ≡ true) found.own n)
      where
        go : (t : Ty) → type_at a.program.types found.id ≡ t → IsHeld a.program.types t → is_walker_type (Of t) ≡ true → IsWalkerAt a visible types texts fs f setting e pointing_at
        go t same (a_walker_held w) n = record {
          ty = t;
          is = found.own ∙ ap Of same;
          walker = w;
          place = λ id constant at. found.own ∙ ap (λ (i : TyId). Of (type_at a.program.types i)) (place_same found.id id is.constant constant (sym found.held ∙ at));
          points = λ s stands. gives_plainly (member_points t same (walker_is a.program.types t w).location s stands);
        }
        go t same (a_value_held v) n = absurd (false≢true (sym (by_values (λ w. is_walker_type (Of w) ≡ false) refl refl refl refl refl t v) ∙ n))
        go t same (a_raw_held target constant raw w) n = absurd (false≢true (sym (ap (λ (u : Ty). is_walker_type (Of u)) raw) ∙ n))
        go t same (a_view_held view) n = absurd (false≢true (sym (ap (λ (u : Ty). is_walker_type (Of u)) view) ∙ n))
        go ty.Text same (an_owner_held o) n = absurd (false≢true n)
        go (ty.Vector item) same (an_owner_held o) n = absurd (false≢true n)
        go _ same (an_owner_held o) n = absurd (false≢true o)
        go t same (a_unique_held target unique w) n = absurd (false≢true (sym (ap (λ (u : Ty). is_walker_type (Of u)) unique) ∙ n))
        go t same (a_struct_held number structure) n = absurd (false≢true (sym (ap (λ (u : Ty). is_walker_type (Of u)) structure) ∙ n))

    -- an owner
    pub member_object : is_owner_type e.ty ≡ true → IsObjectAt a visible types texts fs f setting e (member_at (uses a base) which)
    member_object n = record {
      ty = type_at a.program.types found.id;
      is = found.own;
      owner = owns (type_at a.program.types found.id) found.kind (subst (λ (x : ExprType). is_owner_type x ≡ true) found.own n);
      id = found.id;
      constant = is.constant;
      place = found.held;
      here = refl;
      names = found.names;
      apart = λ s stands y dead. member_apart types texts fs f which y (operand (uses a base) s).given;
    }
      where
        owns : (u : Ty) → IsHeld a.program.types u → is_owner_type (Of u) ≡ true → is_owner_of_values a.program.types u ≡ true
        owns u (a_value_held v) n = absurd (false≢true (sym (by_values (λ w. is_owner_type (Of w) ≡ false) refl refl refl refl refl u v) ∙ n))
        owns u (a_raw_held target constant raw w) n = absurd (false≢true (sym (ap (λ (w : Ty). is_owner_type (Of w)) raw) ∙ n))
        owns u (a_view_held view) n = absurd (false≢true (sym (ap (λ (w : Ty). is_owner_type (Of w)) view) ∙ n))
        owns u (a_walker_held w) n = absurd (false≢true (sym (walker_is a.program.types u w).owner ∙ n))
        owns u (an_owner_held o) n = o
        owns u (a_unique_held target same w) n = absurd (false≢true (sym (ap (λ (w : Ty). is_owner_type (Of w)) same) ∙ n))
        owns u (a_struct_held number same) n = absurd (false≢true (sym (ap (λ (w : Ty). is_owner_type (Of w)) same) ∙ n))

    -- a struct
    pub member_struct : is_struct_type e.ty ≡ true → IsStructAt e (member_at (uses a base) which)
    member_struct n = go (type_at a.program.types found.id) found.kind refl
      where
        other : (u : Ty) → type_at a.program.types found.id ≡ u → is_struct u ≡ false → IsStructAt e (member_at (uses a base) which)
        other u at none = absurd (false≢true (sym (ap is_struct_type (found.own ∙ ap Of at) ∙ none) ∙ n))

        -- one that holds pointers is in one that does
        inside : (number : ℕ) → type_at a.program.types found.id ≡ ty.Struct number → is_plain_struct a.program.types (ty.Struct number) ≡ false → is_plain_struct a.program.types (ty.Struct is.number) ≡ false
        inside number same none = by_base (is_plain_struct a.program.types (ty.Struct is.number)) refl
          where
            by_base : (b : Bool) → is_plain_struct a.program.types (ty.Struct is.number) ≡ b → b ≡ false
            by_base false plain = refl
            by_base true plain = absurd (false≢true (sym none ∙ plain_within a.program.types setting.values.ordered is.number which found.id number found.there same plain))

        go : (u : Ty) → IsHeld a.program.types u → type_at a.program.types found.id ≡ u → IsStructAt e (member_at (uses a base) which)
        go u (a_value_held v) at = other u at (value_no_struct u v)
        go u (a_raw_held target constant raw w) at = other u at (ap is_struct raw)
        go u (a_view_held view) at = other u at (ap is_struct view)
        go u (a_walker_held w) at = other u at (walker_no_struct a.program.types u w)
        go u (an_owner_held o) at = other u at (owner_no_struct a.program.types u o)
        go u (a_unique_held target same w) at = other u at (ap is_struct same)
        go u (a_struct_held number same) at = record {
          number = number;
          is = found.own ∙ ap Of (at ∙ same);
          id = found.id;
          constant = is.constant;
          place = found.held;
          here = at ∙ same;
          names = λ s stands. subst (λ (w : Ty). PlacedAs w is.constant s (member_at (uses a base) which s)) (at ∙ same) (found.names s stands);
          lies = λ none. member_lies (inside number (at ∙ same) none);
        }
