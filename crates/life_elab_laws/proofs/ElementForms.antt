-- Elements by an index, and members of owners that only ask.
use Rattle.std.proofs.Common.{◌≡◌, ◌⊎◌, inl, inr, ℕ, Bool, true, false, cond, if◌then◌else◌, length, List, Option, Some, None, Ok, refl, sym, ap, ◌∙◌, subst}
use Rattle.std.proofs.lemmas.Bool.{false≢true}
use Rattle.life_elab_laws.proofs.FormKinds.{is_asking, is_read_either, is_edge}
use Rattle.life_elab_laws.proofs.ObjectTypes.{is_owner_of_values}
use Rattle.life_elab_laws.proofs.TypeKinds.{is_owner_type, form_type, is_plain_type}
use Rattle.life_types.specs.Types.{Types}
use Rattle.life_types.specs.declared.place.Place.{Place}
use Rattle.life_types.specs.declared.ty.Ty.{Ty}
use Rattle.life_types.specs.declared.ty.Ty.TheVariants as ty
use Rattle.life_types.specs.declared.ty.TyId.{TyId}
use Rattle.life_typed.specs.BaseTypes.{type_at}
use Rattle.life_typed.specs.Delimiters.{DelimitersForm}
use Rattle.life_typed.specs.Members.{element_type}
use Rattle.life_typed.specs.Operators.{indexed}
use Rattle.life_typed.specs.TypedForm.{Form, Typed, index, method, typed}
use Rattle.life_typed.specs.declared.basic.TheConstants.{CHAR}
use Rattle.life_typed.specs.declared.typed_expr.Category.TheVariants as category
use Rattle.life_typed.specs.declared.typed_expr.ExprType.{ExprType}
use Rattle.life_typed.specs.declared.typed_expr.ExprType.TheVariants.{Of}
use Rattle.life_typed.specs.declared.typed_expr.Method.{Method}
use Rattle.life_typed.specs.declared.typed_expr.Method.TheVariants as methods
use Rattle.life_type_expr.specs.Members.{indexed_at, indexed_to, is_position}
use Rattle.life_type_expr.specs.Operands.{is_constant, place_of}
use Rattle.life_core.specs.Function.{Function}
use Rattle.life_core.specs.declared.operand.Which.{Which}
use Rattle.life_core.specs.declared.operand.Which.TheVariants as which
use Rattle.life_proper.specs.declared.known.Known.{Known}
use Rattle.life_well_typed.specs.Expressions.{typed_in}
use Rattle.life_well_typed.specs.Given.{is_number}
use Rattle.life_well_typed.specs.Members.{IsCalled}
use Rattle.life_writer.specs.Around.{Around}
use Rattle.life_writer.specs.Bases.{base as base_of, element}
use Rattle.life_writer.specs.ExpressionForms.{uses}
use Rattle.life_writer.specs.Using.{value}
use Rattle.life_writer.specs.Writing.{State, ◌>>◌, gives, mapped}
use Rattle.life_elab_laws.proofs.BaseSteps.{IsWhich, IsWhichOf, a_which}
use Rattle.life_elab_laws.proofs.ExpressionForms.{IsForm, IsWhole, Placed, Standing, value_form}
use Rattle.life_elab_laws.proofs.Gifts.{a_number, nothing as no_gift}
use Rattle.life_elab_laws.proofs.ObjectForms.{IsAsked, IsOwner, element_placed, emptied_part, owner_asked, sized_part, view_asked, IsReached, reached_form}
use Rattle.life_elab_laws.proofs.Parts.{leaf_part, seen_part}
use Rattle.life_elab_laws.proofs.Setting.{Setting}
use Rattle.life_elab_laws.proofs.TypedKinds.{HasKind, a_null, a_number as is_number_kind, a_pointer as is_pointer_kind, a_text, a_view, err_ok, no_value, none_some, ok_same, some_same}
use Rattle.life_elab_laws.proofs.Values.{by_values}
use Rattle.life_elab_laws.proofs.ViewForms.{gives_as, IsAnswer}

position_number : (t : ExprType) → is_position t ≡ true → is_number t ≡ true
position_number (Of t) p = p
position_number _ p = absurd (false≢true p)

-- an operand has the type that it is written with
pub operand_typed : (form : Form) → (typed_in form).ty ≡ form_type form
operand_typed (typed place t c form) = refl
operand_typed _ = refl

-- what is asked has a value, or is an owner
pub either_read : (base : Form) (owner value : Bool) → is_read_either base owner value ≡ true → (value ≡ true) ⊎ ((is_owner_type (typed_in base).ty ≡ true) × (owner ≡ true))
either_read base owner value h = go (is_owner_type (form_type base)) refl h
  where
    go : (b : Bool) → is_owner_type (form_type base) ≡ b → (if b then owner else value) ≡ true → (value ≡ true) ⊎ ((is_owner_type (typed_in base).ty ≡ true) × (owner ≡ true))
    go true is h = inr (ap is_owner_type (operand_typed base) ∙ is, h)
    go false is h = inl h

module _ (a : Around) (visible : List ℕ) (types : Types) (texts : ℕ) (fs : List Function) (f : Function) (setting : Setting a types fs f) where
  -- ---- elements by an index

  pub record IsIndexed (base position e : Typed) (id : TyId) (constant : Bool) : Type 0 where
    pub number : is_number position.ty ≡ true
    pub is : e ≡ place_of a.program.types id constant e.place e.form

  pub indexed_by : (base position e : Typed) (closing : Place) (element : Option (TyId × Bool)) → indexed base.ty (is_constant base.category) ≡ element → indexed_at a.program.types e.place base position closing ≡ Ok e
      → (x : TyId × Bool) × (element ≡ Some x) × IsIndexed base position e x.0 x.1
  indexed_by base position e closing element at h = counted (is_position position.ty) refl h
    where
      told : (o : Option (TyId × Bool)) → is_number position.ty ≡ true → indexed_to o a.program.types e.place base position closing ≡ Ok e → (x : TyId × Bool) × (o ≡ Some x) × IsIndexed base position e x.0 x.1
      told None n h = absurd (err_ok h)
      told (Some x) n h = (x, refl, record { number = n; is = sym (ok_same h) ∙ ap (λ (y : Typed). place_of a.program.types x.0 x.1 e.place y.form) (ok_same h) })

      counted : (b : Bool) → is_position position.ty ≡ b → indexed_at a.program.types e.place base position closing ≡ Ok e → (x : TyId × Bool) × (element ≡ Some x) × IsIndexed base position e x.0 x.1
      counted true p h = told element (position_number position.ty p) (sym (ap (λ o. indexed_to o a.program.types e.place base position closing) (ap (λ (b : Bool). cond b (indexed base.ty (is_constant base.category)) None) p ∙ at)) ∙ h)
      counted false p h = absurd (err_ok (sym (ap (λ o. indexed_to o a.program.types e.place base position closing) (ap (λ (b : Bool). cond b (indexed base.ty (is_constant base.category)) None) p)) ∙ h))

  pub index_reached : (base position : Form) (closing : Place) (e : Typed) (t : Ty) (id : TyId) (constant : Bool) → IsAsked a visible types texts fs f setting base t constant → IsWhole a visible types texts fs f setting position
      → type_at a.program.types id ≡ t → IsIndexed (typed_in base) (typed_in position) e id constant → IsReached a visible types texts fs f setting (index base position closing) e
  index_reached base position closing e t id constant asked at_position here x = record {
    ty = t;
    id = id;
    constant = constant;
    is = ap (λ (y : Typed). y.ty) x.is ∙ ap Of here;
    place = ap (λ (y : Typed). y.category) x.is;
    here = here;
    worth = asked.worth;
    names = λ place s stands.
        element_placed a visible types texts fs f setting base t constant asked place id (λ s. mapped which.Index (value (uses a position) closing ty.Size None s)) s stands here
        (λ s stands. seen_part types texts fs f (no_gift types texts fs f) tt None s (value (uses a position) closing ty.Size None s) (a_number types texts fs f ty.Size) which.Index (a_which types texts fs f)
        (at_position.valued x.number closing ty.Size refl None s tt stands) (λ b h. h) (λ n k h. h));
    behind = λ place s y. refl;
  }

  -- .. of a view
  pub view_index_reached : (base position : Form) (closing : Place) (e : Typed) → IsWhole a visible types texts fs f setting base → IsWhole a visible types texts fs f setting position
      → indexed_at a.program.types e.place (typed_in base) (typed_in position) closing ≡ Ok e → IsReached a visible types texts fs f setting (index base position closing) e
  view_index_reached base position closing e is at_position h = go is.kind.kind
    where
      refused : indexed (typed_in base).ty (is_constant (typed_in base).category) ≡ None → IsReached a visible types texts fs f setting (index base position closing) e
      refused none = absurd (none_some (indexed_by (typed_in base) (typed_in position) e closing None none h).1)

      go : HasKind a.program.types (typed_in base) → IsReached a visible types texts fs f setting (index base position closing) e
      go (is_number_kind t is v) = refused (ap (λ (x : ExprType). indexed x (is_constant (typed_in base).category)) is ∙ by_values (λ t. indexed (Of t) (is_constant (typed_in base).category) ≡ None) refl refl refl refl refl t v)
      go (is_pointer_kind target constant is v) = refused (ap (λ (x : ExprType). indexed x (is_constant (typed_in base).category)) is)
      go (a_text is v) = refused (ap (λ (x : ExprType). indexed x (is_constant (typed_in base).category)) is)
      go (no_value is v) = refused (ap (λ (x : ExprType). indexed x (is_constant (typed_in base).category)) is)
      go (a_null is v) = refused (ap (λ (x : ExprType). indexed x (is_constant (typed_in base).category)) is)
      go (a_view at) = as_told (indexed_by (typed_in base) (typed_in position) e closing (Some (CHAR, true)) (ap (λ (x : ExprType). indexed x (is_constant (typed_in base).category)) at) h)
        where
          as_told : (x : TyId × Bool) × (Some (CHAR, true) ≡ Some x) × IsIndexed (typed_in base) (typed_in position) e x.0 x.1 → IsReached a visible types texts fs f setting (index base position closing) e
          as_told x =
              let one = sym (some_same x.1) in
              index_reached base position closing e ty.Char CHAR true (view_asked a visible types texts fs f setting base is at) at_position setting.chars
              (subst (λ (y : TyId × Bool). IsIndexed (typed_in base) (typed_in position) e y.0 y.1) one x.2)

  -- .. of an owner
  pub owner_index_reached : (base position : Form) (closing : Place) (e : Typed) → IsOwner a visible types texts fs f setting base → IsWhole a visible types texts fs f setting position
      → indexed_at a.program.types e.place (typed_in base) (typed_in position) closing ≡ Ok e → IsReached a visible types texts fs f setting (index base position closing) e
  owner_index_reached base position closing e is at_position h = go is.ty refl is.owner
    where
      told : (t : Ty) → is.ty ≡ t → (id : TyId) → type_at a.program.types id ≡ element_type a.program.types t → indexed (Of t) is.constant ≡ Some (id, is.constant) → IsReached a visible types texts fs f setting (index base position closing) e
      told t same id here by =
          let x = indexed_by (typed_in base) (typed_in position) e closing (Some (id, is.constant))
          (ap (λ (y : ExprType). indexed y (is_constant (typed_in base).category)) (is.is ∙ ap Of same) ∙ ap (indexed (Of t)) is.told ∙ by) h in
          index_reached base position closing e (element_type a.program.types is.ty) id is.constant (owner_asked a visible types texts fs f setting base is) at_position (here ∙ ap (element_type a.program.types) (sym same))
          (subst (λ (y : TyId × Bool). IsIndexed (typed_in base) (typed_in position) e y.0 y.1) (sym (some_same x.1)) x.2)

      go : (t : Ty) → is.ty ≡ t → is_owner_of_values a.program.types t ≡ true → IsReached a visible types texts fs f setting (index base position closing) e
      go ty.Text same o = told ty.Text same CHAR setting.chars refl
      go (ty.Vector item) same o = told (ty.Vector item) same item refl refl
      go _ same o = absurd (false≢true o)

  -- ---- the first and the last element of a vector

  pub edge_reached : (base : Form) (m : Method) (given : Form) (d : DelimitersForm) (e : Typed) → IsOwner a visible types texts fs f setting base → is_edge m ≡ true
      → IsCalled a.program.types (typed_in base).ty (typed_in base).category m given e → IsReached a visible types texts fs f setting (method base m given d) e
  edge_reached base m given d e is edge h = go is.ty refl is.owner m edge (subst (λ (x : ExprType). IsCalled a.program.types x (typed_in base).category m given e) is.is h)
    where
      asked : IsAsked a visible types texts fs f setting base (element_type a.program.types is.ty) is.constant
      asked = owner_asked a visible types texts fs f setting base is

      end_placed : (item : TyId) → is.ty ≡ ty.Vector item → (w : Which) → IsWhichOf types texts fs f w → ((n : ℕ) (k : List Known) → IsWhich w n k) → (place : Place) (s : State) → Standing a visible types texts fs f setting s
          → Placed a visible types texts fs f setting (element_type a.program.types is.ty) is.constant s (base_of (uses a base) s >> λ b s. element place (category.Place item is.constant) b w s)
      end_placed item same w formed there place s stands =
          element_placed a visible types texts fs f setting base (element_type a.program.types is.ty) is.constant asked place item (λ s. gives w s) s stands (ap (element_type a.program.types) (sym same))
          (λ s stands. leaf_part types texts fs f w s (a_which types texts fs f) (λ b. formed) (λ b k alive. there (length s.locals) k))

      own_type_is : (item : TyId) → is.ty ≡ ty.Vector item → IsAnswer (Of (type_at a.program.types item), category.Place item (is_constant (typed_in base).category)) e → e.ty ≡ Of (element_type a.program.types is.ty)
      own_type_is item same c =
          (gives_as (Of (type_at a.program.types item), category.Place item (is_constant (typed_in base).category)) e c).0 ∙ ap (λ (t : Ty). Of (element_type a.program.types t)) (sym same)

      own_place : (item : TyId) → IsAnswer (Of (type_at a.program.types item), category.Place item (is_constant (typed_in base).category)) e → e.category ≡ category.Place item is.constant
      own_place item c = (gives_as (Of (type_at a.program.types item), category.Place item (is_constant (typed_in base).category)) e c).1 ∙ ap (category.Place item) is.told

      go : (t : Ty) → is.ty ≡ t → is_owner_of_values a.program.types t ≡ true → (m : Method) → is_edge m ≡ true → IsCalled a.program.types (Of t) (typed_in base).category m given e → IsReached a visible types texts fs f setting (method base m given d) e
      go ty.Text same o methods.Front b c = absurd (none_some c.2)
      go ty.Text same o methods.Back b c = absurd (none_some c.2)
      go ty.Text same o _ b c = absurd (false≢true b)
      go (ty.Vector item) same o methods.Front b c = record {
        ty = element_type a.program.types is.ty;
        id = item;
        constant = is.constant;
        is = own_type_is item same c.2;
        place = own_place item c.2;
        here = ap (element_type a.program.types) (sym same);
        worth = asked.worth;
        names = λ place s stands. end_placed item same which.First tt (λ n k. tt) place s stands;
        behind = λ place s y. refl;
      }
      go (ty.Vector item) same o methods.Back b c = record {
        ty = element_type a.program.types is.ty;
        id = item;
        constant = is.constant;
        is = own_type_is item same c.2;
        place = own_place item c.2;
        here = ap (element_type a.program.types) (sym same);
        worth = asked.worth;
        names = λ place s stands. end_placed item same which.Last tt (λ n k. tt) place s stands;
        behind = λ place s y. refl;
      }
      go (ty.Vector item) same o _ b c = absurd (false≢true b)
      go _ same o m b c = absurd (false≢true o)

  -- ---- members of owners that only ask

  pub owner_method_form : (base : Form) (m : Method) (given : Form) (d : DelimitersForm) (e : Typed) → is_plain_type e.ty ≡ true → IsOwner a visible types texts fs f setting base → is_asking m ≡ true
      → IsCalled a.program.types (typed_in base).ty (typed_in base).category m given e → IsForm a visible types texts fs f setting (method base m given d) e
  owner_method_form base m given d e q is reached h = go is.ty refl is.owner m reached (subst (λ (x : ExprType). IsCalled a.program.types x (typed_in base).category m given e) is.is h)
    where
      asked : IsAsked a visible types texts fs f setting base (element_type a.program.types is.ty) is.constant
      asked = owner_asked a visible types texts fs f setting base is

      sized_form : IsAnswer (Of ty.Size, category.Value) e → IsForm a visible types texts fs f setting (method base methods.Size given d) e
      sized_form c =
          let x = gives_as (Of ty.Size, category.Value) e c in
          value_form a visible types texts fs f setting (method base methods.Size given d) e ty.Size x.0 x.1 refl refl (λ place b. refl)
          (λ place behind into s wanted stands. sized_part a visible types texts fs f setting base (element_type a.program.types is.ty) is.constant asked place into s wanted stands) (λ place behind r s. refl)

      emptied_form : IsAnswer (Of ty.Bool, category.Value) e → IsForm a visible types texts fs f setting (method base methods.Empty given d) e
      emptied_form c =
          let x = gives_as (Of ty.Bool, category.Value) e c in
          value_form a visible types texts fs f setting (method base methods.Empty given d) e ty.Bool x.0 x.1 refl refl (λ place b. refl)
          (λ place behind into s wanted stands. emptied_part a visible types texts fs f setting base (element_type a.program.types is.ty) is.constant asked place into s wanted stands) (λ place behind r s. refl)

      as_called : (m : Method) (t : Ty) → is.ty ≡ t → IsCalled a.program.types (Of t) (typed_in base).category m given e → IsCalled a.program.types (typed_in base).ty (typed_in base).category m given e
      as_called m t same c = subst (λ (x : ExprType). IsCalled a.program.types x (typed_in base).category m given e) (sym (is.is ∙ ap Of same)) c

      go : (t : Ty) → is.ty ≡ t → is_owner_of_values a.program.types t ≡ true → (m : Method) → is_asking m ≡ true → IsCalled a.program.types (Of t) (typed_in base).category m given e → IsForm a visible types texts fs f setting (method base m given d) e
      go ty.Text same o methods.Size b c = sized_form c.2
      go ty.Text same o methods.Empty b c = emptied_form c.2
      go ty.Text same o methods.Front b c = absurd (none_some c.2)
      go ty.Text same o methods.Back b c = absurd (none_some c.2)
      go ty.Text same o methods.Substr b c = absurd (none_some c.2)
      go ty.Text same o _ b c = absurd (false≢true b)
      go (ty.Vector item) same o methods.Size b c = sized_form c.2
      go (ty.Vector item) same o methods.Empty b c = emptied_form c.2
      go (ty.Vector item) same o methods.Front b c = reached_form a visible types texts fs f setting (method base methods.Front given d) e (edge_reached base methods.Front given d e is refl (as_called methods.Front (ty.Vector item) same c)) q refl (λ place b. refl)
      go (ty.Vector item) same o methods.Back b c = reached_form a visible types texts fs f setting (method base methods.Back given d) e (edge_reached base methods.Back given d e is refl (as_called methods.Back (ty.Vector item) same c)) q refl (λ place b. refl)
      go (ty.Vector item) same o methods.Substr b c = absurd (none_some c.2)
      go (ty.Vector item) same o _ b c = absurd (false≢true b)
      go _ same o m b c = absurd (false≢true o)
