-- How a well typed expression is read, by the kind of its type: as one that has a value or points, as an owner, an iterator or a span, a unique_ptr, or a struct.
use Rattle.std.proofs.Common.{◌≡◌, ℕ, Bool, true, false, refl, sym, ap, ◌∙◌, subst}
use Rattle.std.proofs.lemmas.Bool.{and_from, false≢true}
use Rattle.life_types.specs.TypeTests.{is_reference, is_unique, is_value}
use Rattle.life_types.specs.Types.{Types}
use Rattle.life_types.specs.declared.place.Place.{Place}
use Rattle.life_types.specs.declared.ty.Ty.{Ty}
use Rattle.life_types.specs.declared.ty.Ty.TheVariants as ty
use Rattle.life_types.specs.declared.ty.TyId.{TyId}
use Rattle.life_typed.specs.BaseTypes.{type_at}
use Rattle.life_typed.specs.Conversions.{is_place}
use Rattle.life_typed.specs.Programs.{ProgramForm}
use Rattle.life_typed.specs.TypedForm.{Form, paren, typed}
use Rattle.life_typed.specs.declared.typed_expr.Category.{Category}
use Rattle.life_typed.specs.declared.typed_expr.Category.TheVariants as category
use Rattle.life_typed.specs.declared.typed_expr.ExprType.{ExprType}
use Rattle.life_typed.specs.declared.typed_expr.ExprType.TheVariants.{NullPointer, Of, TextLiteral}
use Rattle.life_elab_laws.proofs.FormKinds.{is_read_form, is_read_fresh, is_read_object, is_read_owner, is_read_struct, is_read_unique, is_read_walker}
use Rattle.life_elab_laws.proofs.ObjectTypes.{is_admitted_variable, is_struct, is_target}
use Rattle.life_elab_laws.proofs.TypeKinds.{is_void_type, is_owner_type, is_plain_type, is_struct_type, is_unique_type, is_walker, is_walker_type, owns_elements}
use Rattle.life_elab_laws.proofs.KnownTypes.{is_known_type, target_no_reference, target_no_unique, target_no_walker, target_admits, admits_known}
use Rattle.life_elab_laws.proofs.TypedKinds.{place_same, value_place}
use Rattle.life_elab_laws.proofs.Values.{by_values}

abbrev pub is_known : Types → ExprType → Bool
is_known types (Of t) = is_known_type types t
is_known types _ = true

-- what is nothing, as `v.clear()` is, is left out
pub record IsRead (texts : ℕ) (program : ProgramForm) (t : ExprType) (c : Category) (form : Form) : Type 0 where
  pub value : is_plain_type t ≡ true → is_void_type t ≡ false → is_read_form texts program form ≡ true
  pub owner : is_owner_type t ≡ true → is_read_owner texts program form ≡ true
  pub object : is_owner_type t ≡ true → is_place c ≡ true → is_read_object texts program form ≡ true
  pub walker : is_walker_type t ≡ true → is_read_walker texts program form ≡ true
  pub unique : is_unique_type t ≡ true → is_read_unique texts program form ≡ true
  pub fresh : is_unique_type t ≡ true → is_place c ≡ false → is_read_fresh texts program form ≡ true
  pub structure : is_struct_type t ≡ true → is_read_struct texts program form ≡ true
  -- its type is one that the table may have
  pub known : is_known program.types t ≡ true
  -- a place has the type of its object, which is no reference
  pub place : (id : TyId) (constant : Bool) → c ≡ category.Place id constant → (t ≡ Of (type_at program.types id)) × (is_admitted_variable program.types id ≡ true) × (is_reference (type_at program.types id) ≡ false)

-- ---- kinds exclude each other

no_owner : (t : ExprType) → is_plain_type t ≡ true → is_owner_type t ≡ true → ⊥
no_owner (Of ty.Text) q n = false≢true q
no_owner (Of (ty.Vector item)) q n = false≢true q
no_owner (Of _) q n = false≢true n
no_owner NullPointer q n = false≢true n
no_owner TextLiteral q n = false≢true n

no_walker : (t : ExprType) → is_plain_type t ≡ true → is_walker_type t ≡ true → ⊥
no_walker (Of (ty.Iterator item constant)) q n = false≢true q
no_walker (Of (ty.Span item constant)) q n = false≢true q
no_walker (Of _) q n = false≢true n
no_walker NullPointer q n = false≢true n
no_walker TextLiteral q n = false≢true n

no_unique : (t : ExprType) → is_plain_type t ≡ true → is_unique_type t ≡ true → ⊥
no_unique (Of (ty.Unique target)) q n = false≢true q
no_unique (Of _) q n = false≢true n
no_unique NullPointer q n = false≢true n
no_unique TextLiteral q n = false≢true n

no_struct : (t : ExprType) → is_plain_type t ≡ true → is_struct_type t ≡ true → ⊥
no_struct (Of (ty.Struct number)) q n = false≢true q
no_struct (Of _) q n = false≢true n
no_struct NullPointer q n = false≢true n
no_struct TextLiteral q n = false≢true n

module _ (types : Types) where
  -- ---- what is a place

  abbrev pub IsPlaceOf : ExprType → Category → Type 0
  IsPlaceOf t c = (id : TyId) (constant : Bool) → c ≡ category.Place id constant → (t ≡ Of (type_at types id)) × (is_admitted_variable types id ≡ true) × (is_reference (type_at types id) ≡ false)

  -- what is no place
  pub made_place : (t : ExprType) (c : Category) → c ≡ category.Value → IsPlaceOf t c
  made_place t c made id constant at = absurd (value_place (sym made ∙ at))

  pub record IsThere (t : ExprType) (c : Category) : Type 0 where
    pub id : TyId
    pub constant : Bool
    pub at : c ≡ category.Place id constant
    pub typed : t ≡ Of (type_at types id)
    pub admitted : is_admitted_variable types id ≡ true
    pub value : is_reference (type_at types id) ≡ false

  pub there_place : (t : ExprType) (c : Category) → IsThere t c → IsPlaceOf t c
  there_place t c is id constant at =
      let same : is.id ≡ id = place_same is.id id is.constant constant (sym is.at ∙ at) in
      subst (λ (x : TyId). (t ≡ Of (type_at types x)) × (is_admitted_variable types x ≡ true) × (is_reference (type_at types x) ≡ false)) same (is.typed, is.admitted, is.value)

  pub there_known : (t : ExprType) (c : Category) → IsThere t c → is_known types t ≡ true
  there_known t c is = ap (is_known types) is.typed ∙ admits_known types (type_at types is.id) is.admitted

  pub there_no_value : (t : ExprType) (c : Category) → IsThere t c → is_place c ≡ false → ⊥
  there_no_value t c is made = false≢true (sym made ∙ ap is_place is.at)

  -- what is behind a pointer, an iterator or a unique_ptr, or is an element
  pub record IsBehind (t : ExprType) (c : Category) : Type 0 where
    pub id : TyId
    pub constant : Bool
    pub at : c ≡ category.Place id constant
    pub typed : t ≡ Of (type_at types id)
    pub worth : is_target types (type_at types id) ≡ true

  pub behind_there : (t : ExprType) (c : Category) → IsBehind t c → IsThere t c
  behind_there t c is = record {
    id = is.id;
    constant = is.constant;
    at = is.at;
    typed = is.typed;
    admitted = target_admits types (type_at types is.id) is.worth;
    value = target_no_reference types (type_at types is.id) is.worth;
  }

module _ (texts : ℕ) (program : ProgramForm) where
  -- ---- how each kind is read

  abbrev Reads : ExprType → Category → Form → Type 0
  Reads t c form = IsRead texts program t c form

  -- one that has a value or points
  pub plain_read : (t : ExprType) (c : Category) (form : Form) → is_plain_type t ≡ true → is_known program.types t ≡ true → c ≡ category.Value → is_read_form texts program form ≡ true → Reads t c form
  plain_read t c form q known made is = record {
    value = λ q some. is;
    owner = λ n. absurd (no_owner t q n);
    object = λ n p. absurd (no_owner t q n);
    walker = λ n. absurd (no_walker t q n);
    unique = λ n. absurd (no_unique t q n);
    fresh = λ n m. absurd (no_unique t q n);
    structure = λ n. absurd (no_struct t q n);
    known = known;
    place = made_place program.types t c made;
  }

  -- a number
  pub number_read : (u : Ty) (t : ExprType) (c : Category) (form : Form) → is_value u ≡ true → t ≡ Of u → c ≡ category.Value → is_read_form texts program form ≡ true → Reads t c form
  number_read u t c form v has made is =
      plain_read t c form
      (ap is_plain_type has ∙ by_values (λ u. is_plain_type (Of u) ≡ true) refl refl refl refl refl u v)
      (ap (is_known program.types) has ∙ by_values (λ u. is_known program.types (Of u) ≡ true) refl refl refl refl refl u v)
      made is

  -- nothing
  pub nothing_read : (t : ExprType) (c : Category) (form : Form) → t ≡ Of ty.Void → c ≡ category.Value → Reads t c form
  nothing_read t c form none made = record {
    value = λ q some. absurd (false≢true (sym some ∙ ap is_void_type none));
    owner = λ n. absurd (false≢true (sym (ap is_owner_type none) ∙ n));
    object = λ n p. absurd (false≢true (sym (ap is_owner_type none) ∙ n));
    walker = λ n. absurd (false≢true (sym (ap is_walker_type none) ∙ n));
    unique = λ n. absurd (false≢true (sym (ap is_unique_type none) ∙ n));
    fresh = λ n m. absurd (false≢true (sym (ap is_unique_type none) ∙ n));
    structure = λ n. absurd (false≢true (sym (ap is_struct_type none) ∙ n));
    known = ap (is_known program.types) none;
    place = made_place program.types t c made;
  }

  -- an owner that is made
  pub owner_read : (u : Ty) (t : ExprType) (c : Category) (form : Form) → owns_elements u ≡ true → is_known program.types (Of u) ≡ true → t ≡ Of u → c ≡ category.Value → is_read_owner texts program form ≡ true → Reads t c form
  owner_read u t c form o known has made is = record {
    value = λ q some. absurd (no_owner t q (ap is_owner_type has ∙ o));
    owner = λ n. is;
    object = λ n p. absurd (false≢true (sym (ap is_place made) ∙ p));
    walker = λ n. absurd (not_walker u o (sym (ap is_walker_type has) ∙ n));
    unique = λ n. absurd (not_unique u o (sym (ap is_unique_type has) ∙ n));
    fresh = λ n m. absurd (not_unique u o (sym (ap is_unique_type has) ∙ n));
    structure = λ n. absurd (not_struct u o (sym (ap is_struct_type has) ∙ n));
    known = ap (is_known program.types) has ∙ known;
    place = made_place program.types t c made;
  }
    where
      not_walker : (u : Ty) → owns_elements u ≡ true → is_walker u ≡ true → ⊥
      not_walker (ty.Iterator item constant) o n = false≢true o
      not_walker (ty.Span item constant) o n = false≢true o
      not_walker _ o n = false≢true n

      not_unique : (u : Ty) → owns_elements u ≡ true → is_unique u ≡ true → ⊥
      not_unique (ty.Unique target) o n = false≢true o
      not_unique _ o n = false≢true n

      not_struct : (u : Ty) → owns_elements u ≡ true → is_struct u ≡ true → ⊥
      not_struct (ty.Struct number) o n = false≢true o
      not_struct _ o n = false≢true n

  -- an iterator or a span that is made
  pub walker_read : (u : Ty) (t : ExprType) (c : Category) (form : Form) → is_walker u ≡ true → is_known program.types (Of u) ≡ true → t ≡ Of u → c ≡ category.Value → is_read_walker texts program form ≡ true → Reads t c form
  walker_read u t c form w known has made is = record {
    value = λ q some. absurd (no_walker t q (ap is_walker_type has ∙ w));
    owner = λ n. absurd (not_owner u w (sym (ap is_owner_type has) ∙ n));
    object = λ n p. absurd (not_owner u w (sym (ap is_owner_type has) ∙ n));
    walker = λ n. is;
    unique = λ n. absurd (not_unique u w (sym (ap is_unique_type has) ∙ n));
    fresh = λ n m. absurd (not_unique u w (sym (ap is_unique_type has) ∙ n));
    structure = λ n. absurd (not_struct u w (sym (ap is_struct_type has) ∙ n));
    known = ap (is_known program.types) has ∙ known;
    place = made_place program.types t c made;
  }
    where
      not_owner : (u : Ty) → is_walker u ≡ true → owns_elements u ≡ true → ⊥
      not_owner ty.Text w n = false≢true w
      not_owner (ty.Vector item) w n = false≢true w
      not_owner _ w n = false≢true n

      not_unique : (u : Ty) → is_walker u ≡ true → is_unique u ≡ true → ⊥
      not_unique (ty.Unique target) w n = false≢true w
      not_unique _ w n = false≢true n

      not_struct : (u : Ty) → is_walker u ≡ true → is_struct u ≡ true → ⊥
      not_struct (ty.Struct number) w n = false≢true w
      not_struct _ w n = false≢true n

  -- a unique_ptr that is made
  pub unique_read : (target : TyId) (t : ExprType) (c : Category) (form : Form) → is_known program.types (Of (ty.Unique target)) ≡ true → t ≡ Of (ty.Unique target) → c ≡ category.Value → is_read_unique texts program form ≡ true → is_read_fresh texts program form ≡ true
      → Reads t c form
  unique_read target t c form known has made is fresh = record {
    value = λ q some. absurd (false≢true (sym (ap is_plain_type has) ∙ q));
    owner = λ n. absurd (false≢true (sym (ap is_owner_type has) ∙ n));
    object = λ n p. absurd (false≢true (sym (ap is_owner_type has) ∙ n));
    walker = λ n. absurd (false≢true (sym (ap is_walker_type has) ∙ n));
    unique = λ n. is;
    fresh = λ n m. fresh;
    structure = λ n. absurd (false≢true (sym (ap is_struct_type has) ∙ n));
    known = ap (is_known program.types) has ∙ known;
    place = made_place program.types t c made;
  }

  -- a struct that is made
  pub struct_read : (number : ℕ) (t : ExprType) (c : Category) (form : Form) → t ≡ Of (ty.Struct number) → c ≡ category.Value → is_read_struct texts program form ≡ true → Reads t c form
  struct_read number t c form has made is = record {
    value = λ q some. absurd (false≢true (sym (ap is_plain_type has) ∙ q));
    owner = λ n. absurd (false≢true (sym (ap is_owner_type has) ∙ n));
    object = λ n p. absurd (false≢true (sym (ap is_owner_type has) ∙ n));
    walker = λ n. absurd (false≢true (sym (ap is_walker_type has) ∙ n));
    unique = λ n. absurd (false≢true (sym (ap is_unique_type has) ∙ n));
    fresh = λ n m. absurd (false≢true (sym (ap is_unique_type has) ∙ n));
    structure = λ n. is;
    known = ap (is_known program.types) has;
    place = made_place program.types t c made;
  }

  -- ---- what is a place of any type

  pub there_read : (t : ExprType) (c : Category) (form : Form) → IsThere program.types t c → is_read_form texts program form ≡ true → is_read_owner texts program form ≡ true → is_read_object texts program form ≡ true → is_read_walker texts program form ≡ true
      → is_read_unique texts program form ≡ true → is_read_struct texts program form ≡ true → Reads t c form
  there_read t c form is value owner object walker unique structure = record {
    value = λ q some. value;
    owner = λ n. owner;
    object = λ n p. object;
    walker = λ n. walker;
    unique = λ n. unique;
    fresh = λ n m. absurd (there_no_value program.types t c is m);
    structure = λ n. structure;
    known = there_known program.types t c is;
    place = there_place program.types t c is;
  }

  pub behind_read : (t : ExprType) (c : Category) (form : Form) → IsBehind program.types t c → is_read_form texts program form ≡ true → is_read_owner texts program form ≡ true → is_read_object texts program form ≡ true → is_read_struct texts program form ≡ true → Reads t c form
  behind_read t c form is value owner object structure = record {
    value = λ q some. value;
    owner = λ n. owner;
    object = λ n p. object;
    walker = λ n. absurd (target_no_walker program.types (type_at program.types is.id) is.worth (sym (ap is_walker_type is.typed) ∙ n));
    unique = λ n. absurd (target_no_unique program.types (type_at program.types is.id) is.worth (sym (ap is_unique_type is.typed) ∙ n));
    fresh = λ n m. absurd (target_no_unique program.types (type_at program.types is.id) is.worth (sym (ap is_unique_type is.typed) ∙ n));
    structure = λ n. structure;
    known = there_known program.types t c (behind_there program.types t c is);
    place = there_place program.types t c (behind_there program.types t c is);
  }

  -- ---- .. and where it stands

  -- as an operand
  pub whole_read : (at : Place) (t : ExprType) (c : Category) (form : Form) → Reads t c form → Reads t c (typed at t c form)
  whole_read at t c form is = record {
    value = λ q some. and_from (is_plain_type t) (is_read_form texts program form) q (is.value q some);
    owner = is.owner;
    object = λ n p. and_from (is_place c) (is_read_object texts program form) p (is.object n p);
    walker = λ n. and_from (is_walker_type t) (is_read_walker texts program form) n (is.walker n);
    unique = λ n. and_from (is_unique_type t) (is_read_unique texts program form) n (is.unique n);
    fresh = λ n m. and_from (is_unique_type t) (is_read_fresh texts program form) n (is.fresh n m);
    structure = λ n. and_from (is_struct_type t) (is_read_struct texts program form) n (is.structure n);
    known = is.known;
    place = is.place;
  }

  -- in parentheses
  pub paren_read : (t : ExprType) (c : Category) (inner : Form) (closing : Place) → Reads t c inner → Reads t c (paren inner closing)
  paren_read t c inner closing is = record {
    value = is.value;
    owner = is.owner;
    object = is.object;
    walker = is.walker;
    unique = is.unique;
    fresh = is.fresh;
    structure = is.structure;
    known = is.known;
    place = is.place;
  }
