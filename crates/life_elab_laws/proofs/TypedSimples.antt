-- Simple statements and what is given, where they are well typed: each expression in them is of a kind that is taken there.
use Rattle.std.proofs.Common.{◌≡◌, ℕ, Bool, true, false, ◌&&◌, ◌||◌, not, cond, List, refl, sym, ap, ◌∙◌, subst}
use Rattle.std.proofs.lemmas.Bool.{and_from, false≢true, or_left, or_right}
use Rattle.life_types.specs.TypeTests.{is_reference, is_unique, is_void}
use Rattle.life_types.specs.Types.{Types}
use Rattle.life_types.specs.declared.ty.Ty.{Ty}
use Rattle.life_types.specs.declared.ty.Ty.TheVariants as ty
use Rattle.life_types.specs.declared.ty.TyId.{TyId}
use Rattle.life_elab_laws.proofs.FormKinds.{are_read_arguments, are_read_elements, are_read_listed, is_read_any, is_read_expression, is_read_fresh, is_read_object, is_read_owner, is_read_owning, is_read_struct, is_read_walker}
use Rattle.life_elab_laws.proofs.ObjectTypes.{is_element, is_struct}
use Rattle.life_elab_laws.proofs.StatementKinds.{is_read_given, is_read_owned, is_read_target}
use Rattle.life_elab_laws.proofs.TypeKinds.{is_listed as is_listed_type, is_owner_type, is_plain_type, is_walker, lists_members, takes_list, takes_owner, takes_struct, takes_value, is_void_type}
use Rattle.life_typed.specs.BaseTypes.{type_at}
use Rattle.life_typed.specs.Conversions.{is_place as is_place_category}
use Rattle.life_typed.specs.Programs.{ProgramForm}
use Rattle.life_typed.specs.TypedForm.{Form, Typed, whole}
use Rattle.life_typed.specs.declared.typed_expr.Category.{Category}
use Rattle.life_typed.specs.declared.typed_expr.Category.TheVariants as category
use Rattle.life_typed.specs.declared.typed_expr.ExprType.{ExprType}
use Rattle.life_typed.specs.declared.typed_expr.ExprType.TheVariants.{NullPointer, Of, TextLiteral}
use Rattle.life_typed.specs.declared.typed_program.TypedLocal.{TypedLocal}
use Rattle.life_type_stmt.specs.Simples.{is_owner, is_place}
use Rattle.life_well_typed.specs.Expressions.{AreExpressions, IsExpression, are_given, typed_in}
use Rattle.life_well_typed.specs.Given.{is_given}
use Rattle.life_well_typed.specs.Members.{are_elements, are_members, is_listed, makes_object}
use Rattle.life_elab_laws.proofs.KnownTypes.{admits_some, known_refers, target_known, vector_element}
use Rattle.life_elab_laws.proofs.TypedFits.{IsTakenAs, as_owner, as_struct, as_unique, as_value, as_walker, given_taken}
use Rattle.life_elab_laws.proofs.TypedOperands.{plain_no_owner}
use Rattle.life_elab_laws.proofs.TypedReadings.{IsRead, is_known}

-- what is known of the expressions of a function
pub record HasReadings (p : ProgramForm) (locals : List TypedLocal) (texts : ℕ) : Type 0 where
  pub reads : (visible : List ℕ) (form : Form) → IsExpression p locals visible form → IsRead texts p (typed_in form).ty (typed_in form).category form
  pub arguments : (visible : List ℕ) (ids : List TyId) (form : Form) → are_given p.types ids form ≡ true → AreExpressions p locals visible form → are_read_arguments texts p form ≡ true
  pub members : (visible : List ℕ) (ids : List TyId) (form : Form) → are_members p.types ids form ≡ true → AreExpressions p locals visible form → are_read_arguments texts p form ≡ true
  pub elements : (visible : List ℕ) (id : TyId) (form : Form) → is_element p.types (type_at p.types id) ≡ true → are_elements p.types id form ≡ true → AreExpressions p locals visible form
      → are_read_elements texts p form ≡ true

module _ (p : ProgramForm) (locals : List TypedLocal) (texts : ℕ) (r : HasReadings p locals texts) (visible : List ℕ) where
  abbrev types : Types
  types = p.types

  abbrev IsWhole : Typed → Type 0
  IsWhole e = IsExpression p locals visible (whole e)

  abbrev pub Read : Typed → Type 0
  Read e = IsRead texts p e.ty e.category (whole e)

  pub read : (e : Typed) → IsWhole e → Read e
  read e h = r.reads visible (whole e) h

  -- ---- an expression with a value, or an owner

  pub any_value : (e : Typed) → Read e → is_plain_type e.ty ≡ true → is_void_type e.ty ≡ false → is_read_any texts p e ≡ true
  any_value e k plain some =
      subst (λ (b : Bool). cond b (is_read_owner texts p (whole e)) (is_read_expression texts p e) ≡ true) (sym (plain_no_owner e.ty plain)) (k.value plain some)

  pub any_owner : (e : Typed) → Read e → is_owner_type e.ty ≡ true → is_read_any texts p e ≡ true
  any_owner e k o = subst (λ (b : Bool). cond b (is_read_owner texts p (whole e)) (is_read_expression texts p e) ≡ true) (sym o) (k.owner o)

  pub owning : (e : Typed) → Read e → is_owner_type e.ty ≡ true → is_read_owning texts p e ≡ true
  owning e k o = and_from (is_owner_type e.ty) (is_read_owner texts p (whole e)) o (k.owner o)

  -- ---- what is given

  -- a place has the type of its number
  placed : (e : Typed) → Read e → (target : TyId) (held : Bool) → e.category ≡ category.Place target held → e.ty ≡ Of (type_at types target)
  placed e k target held at = (k.place target held at).0

  pub taken : (t : Ty) (e : Typed) → is_known types (Of t) ≡ true → is_given types t e ≡ true → Read e → IsTakenAs t e.ty e.category
  taken t e known given k = given_taken types t e (known_refers types t known) (placed e k) given

  pub given_read : (t : Ty) (e : Typed) → is_known types (Of t) ≡ true → is_given types t e ≡ true → Read e → is_read_given texts p t e ≡ true
  given_read t e known given k = go (taken t e known given k)
    where
      structs : Bool
      structs = takes_struct t && is_read_struct texts p (whole e)

      uniques : Bool
      uniques = (is_unique t && is_read_fresh texts p (whole e)) || structs

      walkers : Bool
      walkers = (is_walker t && is_read_walker texts p (whole e)) || uniques

      owned : is_read_owned texts p t e ≡ true → is_read_given texts p t e ≡ true
      owned h = or_right (takes_value t && is_read_expression texts p e) (is_read_owned texts p t e) h

      beside : walkers ≡ true → is_read_given texts p t e ≡ true
      beside h = owned (or_right (takes_owner t && is_read_owning texts p e) walkers h)

      go : IsTakenAs t e.ty e.category → is_read_given texts p t e ≡ true
      go (as_value takes plain some) =
          or_left (takes_value t && is_read_expression texts p e) (is_read_owned texts p t e) (and_from (takes_value t) (is_read_expression texts p e) takes (k.value plain some))
      go (as_owner takes o) = owned (or_left (takes_owner t && is_read_owning texts p e) walkers (and_from (takes_owner t) (is_read_owning texts p e) takes (owning e k o)))
      go (as_walker takes w) = beside (or_left (is_walker t && is_read_walker texts p (whole e)) uniques (and_from (is_walker t) (is_read_walker texts p (whole e)) takes (k.walker w)))
      go (as_unique takes u made) =
          beside (or_right (is_walker t && is_read_walker texts p (whole e)) uniques
          (or_left (is_unique t && is_read_fresh texts p (whole e)) structs (and_from (is_unique t) (is_read_fresh texts p (whole e)) takes (k.fresh u made))))
      go (as_struct takes s) =
          beside (or_right (is_walker t && is_read_walker texts p (whole e)) uniques
          (or_right (is_unique t && is_read_fresh texts p (whole e)) structs (and_from (takes_struct t) (is_read_struct texts p (whole e)) takes (k.structure s))))

  -- ---- lists

  -- a vector of its elements, and a struct of its members
  made_read : (t : Ty) (es : Form) → is_known types (Of t) ≡ true → makes_object types t es ≡ true → AreExpressions p locals visible es
      → (is_listed_type t && are_read_listed texts p (is_struct t) es) ≡ true
  made_read (ty.Vector item) es known h are = r.elements visible item es (vector_element types item known) h are
  made_read (ty.Struct number) es known h are = r.members visible _ es h are
  made_read _ es known h are = absurd (false≢true h)

  pub listed_read : (t : Ty) (es : Form) → is_known types (Of t) ≡ true → is_listed types t es ≡ true → AreExpressions p locals visible es
      → (takes_list types t && are_read_listed texts p (lists_members types t) es) ≡ true
  listed_read (ty.Reference target true) es known h are =
      made_read (type_at types target) es (target_known types (type_at types target) (known_refers types (ty.Reference target true) known target true refl)) h are
  listed_read (ty.Reference target false) es known h are = absurd (false≢true h)
  listed_read (ty.Vector item) es known h are = made_read (ty.Vector item) es known h are
  listed_read (ty.Struct number) es known h are = made_read (ty.Struct number) es known h are
  listed_read _ es known h are = absurd (false≢true h)

  -- ---- what is assigned to

  -- a place, or an owner that is made
  module _ (target : Typed) (k : Read target) (there : is_place target.ty target.category ≡ true) where
    pub target_owner : is_owner_type target.ty ≡ true → is_read_target texts p target ≡ true
    target_owner o =
        and_from (is_owner_type target.ty) (is_read_object texts p (whole target) || (not (is_place_category target.category) && is_read_owner texts p (whole target))) o
        (go (is_place_category target.category) refl)
      where
        go : (b : Bool) → is_place_category target.category ≡ b → (is_read_object texts p (whole target) || (not (is_place_category target.category) && is_read_owner texts p (whole target))) ≡ true
        go true at = or_left (is_read_object texts p (whole target)) (not (is_place_category target.category) && is_read_owner texts p (whole target)) (k.object o at)
        go false at =
            or_right (is_read_object texts p (whole target)) (not (is_place_category target.category) && is_read_owner texts p (whole target))
            (and_from (not (is_place_category target.category)) (is_read_owner texts p (whole target)) (ap not at) (k.owner o))

    -- it has a type, and is no reference
    pub target_type : (t : Ty) → target.ty ≡ Of t → (is_void t ≡ false) × (is_reference t ≡ false)
    target_type t is = go target.category refl (subst (λ (x : ExprType). is_place x target.category ≡ true) is there)
      where
        as_owner_type : (u : Ty) → is_owner u ≡ true → (is_void u ≡ false) × (is_reference u ≡ false)
        as_owner_type ty.Text o = (refl, refl)
        as_owner_type (ty.Vector item) o = (refl, refl)
        as_owner_type (ty.Unique owned) o = (refl, refl)
        as_owner_type _ o = absurd (false≢true o)

        go : (c : Category) → target.category ≡ c → is_place (Of t) c ≡ true → (is_void t ≡ false) × (is_reference t ≡ false)
        go category.Value at h = as_owner_type t h
        go (category.Place id constant) at h =
            let found = k.place id constant at in
            let same : type_at types id ≡ t = one_type (sym found.0 ∙ is) in
            (subst (λ (u : Ty). is_void u ≡ false) same (admits_some types (type_at types id) found.1), subst (λ (u : Ty). is_reference u ≡ false) same found.2)
          where
            one_type : {x y : Ty} → Of x ≡ Of y → x ≡ y
            one_type e = cc

    pub made_type : (t : Ty) × (target.ty ≡ Of t)
    made_type = go target.ty target.category refl refl there
      where
        go : (x : ExprType) (c : Category) → target.ty ≡ x → target.category ≡ c → is_place x c ≡ true → (t : Ty) × (target.ty ≡ Of t)
        go (Of t) c is at h = (t, is)
        go NullPointer category.Value is at h = absurd (false≢true h)
        go NullPointer (category.Place id constant) is at h = (type_at types id, (k.place id constant at).0)
        go TextLiteral category.Value is at h = absurd (false≢true h)
        go TextLiteral (category.Place id constant) is at h = (type_at types id, (k.place id constant at).0)
