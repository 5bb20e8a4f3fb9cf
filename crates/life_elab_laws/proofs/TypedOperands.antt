-- The kinds of types that operands have, and how such operands are read: what has a value or points, what is asked as an owner too, what decides, what points to something, and what has elements.
use Rattle.std.proofs.Common.{◌≡◌, ℕ, Bool, true, false, ◌||◌, refl, sym, ap, ◌∙◌, if◌then◌else◌}
use Rattle.std.proofs.lemmas.Bool.{false≢true, or_left, or_right}
use Rattle.life_types.specs.TypeTests.{is_value}
use Rattle.life_types.specs.declared.ty.Ty.{Ty}
use Rattle.life_types.specs.declared.ty.Ty.TheVariants as ty
use Rattle.life_typed.specs.Programs.{ProgramForm}
use Rattle.life_typed.specs.TypedForm.{Form}
use Rattle.life_typed.specs.declared.typed_expr.ExprType.{ExprType}
use Rattle.life_typed.specs.declared.typed_expr.ExprType.TheVariants.{NullPointer, Of, TextLiteral}
use Rattle.life_well_typed.specs.Members.{typed_in}
use Rattle.life_elab_laws.proofs.FormKinds.{is_read_either, is_read_form, is_read_fresh, is_read_owner, is_read_struct, is_read_unique, is_read_walker}
use Rattle.life_elab_laws.proofs.TypeKinds.{is_owner_type, is_plain_type, is_unique_type, is_walker_type, is_void_type}
use Rattle.life_elab_laws.proofs.ElementForms.{operand_typed}
use Rattle.life_elab_laws.proofs.TypedReadings.{IsRead}
use Rattle.life_elab_laws.proofs.Values.{by_values}

-- ---- kinds

-- it has a value, or points
pub record HasValue (t : ExprType) : Type 0 where
  pub plain : is_plain_type t ≡ true
  pub some : is_void_type t ≡ false

pub value_has : (u : Ty) → is_value u ≡ true → HasValue (Of u)
value_has = by_values (λ u. HasValue (Of u)) (record { plain = refl; some = refl }) (record { plain = refl; some = refl }) (record { plain = refl; some = refl }) (record { plain = refl; some = refl }) (record { plain = refl; some = refl })

-- .. or is an owner
pub data IsAsked (t : ExprType) : Type 0 where
  asks_value : HasValue t → IsAsked t
  asks_owner : is_owner_type t ≡ true → IsAsked t

-- .. or decides
pub data IsDeciding (t : ExprType) : Type 0 where
  decides_value : HasValue t → IsDeciding t
  decides_unique : is_unique_type t ≡ true → IsDeciding t

-- .. or points to something
pub data IsPointing (t : ExprType) : Type 0 where
  points_value : HasValue t → IsPointing t
  points_walker : is_walker_type t ≡ true → IsPointing t
  points_unique : is_unique_type t ≡ true → IsPointing t

-- .. or has elements
pub data IsRanged (t : ExprType) : Type 0 where
  ranges_value : HasValue t → IsRanged t
  ranges_owner : is_owner_type t ≡ true → IsRanged t
  ranges_walker : is_walker_type t ≡ true → IsRanged t

-- ---- how they are read

pub plain_no_owner : (t : ExprType) → is_plain_type t ≡ true → is_owner_type t ≡ false
plain_no_owner (Of ty.Text) q = absurd (false≢true q)
plain_no_owner (Of (ty.Vector item)) q = absurd (false≢true q)
plain_no_owner (Of _) q = refl
plain_no_owner NullPointer q = refl
plain_no_owner TextLiteral q = refl

pub owner_either : (e : Form) (owner value : Bool) → is_owner_type (typed_in e).ty ≡ true → owner ≡ true → is_read_either e owner value ≡ true
owner_either e owner value n is = ap (λ (b : Bool). if b then owner else value) (sym (ap is_owner_type (operand_typed e)) ∙ n) ∙ is

pub value_either : (e : Form) (owner value : Bool) → is_plain_type (typed_in e).ty ≡ true → value ≡ true → is_read_either e owner value ≡ true
value_either e owner value q is = ap (λ (b : Bool). if b then owner else value) (sym (ap is_owner_type (operand_typed e)) ∙ plain_no_owner (typed_in e).ty q) ∙ is

module _ (texts : ℕ) (program : ProgramForm) where
  -- an operand with its reading
  abbrev pub IsReadOperand : Form → Type 0
  IsReadOperand e = IsRead texts program (typed_in e).ty (typed_in e).category e

  abbrev pub is_either : Form → Bool
  is_either e = is_read_either e (is_read_owner texts program e) (is_read_form texts program e)

  pub value_read : (e : Form) → IsReadOperand e → HasValue (typed_in e).ty → is_read_form texts program e ≡ true
  value_read e is v = is.value v.plain v.some

  pub asked_read : (e : Form) → IsReadOperand e → IsAsked (typed_in e).ty → is_either e ≡ true
  asked_read e is (asks_value v) = value_either e (is_read_owner texts program e) (is_read_form texts program e) v.plain (value_read e is v)
  asked_read e is (asks_owner n) = owner_either e (is_read_owner texts program e) (is_read_form texts program e) n (is.owner n)

  pub deciding_read : (e : Form) → IsReadOperand e → IsDeciding (typed_in e).ty → (is_read_form texts program e || is_read_unique texts program e) ≡ true
  deciding_read e is (decides_value v) = or_left (is_read_form texts program e) (is_read_unique texts program e) (value_read e is v)
  deciding_read e is (decides_unique u) = or_right (is_read_form texts program e) (is_read_unique texts program e) (is.unique u)

  pub pointing_read : (e : Form) → IsReadOperand e → IsPointing (typed_in e).ty → (is_read_form texts program e || (is_read_walker texts program e || is_read_unique texts program e)) ≡ true
  pointing_read e is (points_value v) = or_left (is_read_form texts program e) (is_read_walker texts program e || is_read_unique texts program e) (value_read e is v)
  pointing_read e is (points_walker w) =
      or_right (is_read_form texts program e) (is_read_walker texts program e || is_read_unique texts program e) (or_left (is_read_walker texts program e) (is_read_unique texts program e) (is.walker w))
  pointing_read e is (points_unique u) =
      or_right (is_read_form texts program e) (is_read_walker texts program e || is_read_unique texts program e) (or_right (is_read_walker texts program e) (is_read_unique texts program e) (is.unique u))

  pub ranged_read : (e : Form) → IsReadOperand e → IsRanged (typed_in e).ty → (is_either e || is_read_walker texts program e) ≡ true
  ranged_read e is (ranges_value v) = or_left (is_either e) (is_read_walker texts program e) (asked_read e is (asks_value v))
  ranged_read e is (ranges_owner n) = or_left (is_either e) (is_read_walker texts program e) (asked_read e is (asks_owner n))
  ranged_read e is (ranges_walker w) = or_right (is_either e) (is_read_walker texts program e) (is.walker w)

  -- ---- what is given over

  pub value_given : (e : Form) → is_either e ≡ true → (is_either e || (is_read_walker texts program e || (is_read_fresh texts program e || is_read_struct texts program e))) ≡ true
  value_given e is = or_left (is_either e) (is_read_walker texts program e || (is_read_fresh texts program e || is_read_struct texts program e)) is

  pub walker_given : (e : Form) → is_read_walker texts program e ≡ true → (is_either e || (is_read_walker texts program e || (is_read_fresh texts program e || is_read_struct texts program e))) ≡ true
  walker_given e is =
      or_right (is_either e) (is_read_walker texts program e || (is_read_fresh texts program e || is_read_struct texts program e)) (or_left (is_read_walker texts program e) (is_read_fresh texts program e || is_read_struct texts program e) is)

  pub fresh_given : (e : Form) → is_read_fresh texts program e ≡ true → (is_either e || (is_read_walker texts program e || (is_read_fresh texts program e || is_read_struct texts program e))) ≡ true
  fresh_given e is =
      or_right (is_either e) (is_read_walker texts program e || (is_read_fresh texts program e || is_read_struct texts program e))
      (or_right (is_read_walker texts program e) (is_read_fresh texts program e || is_read_struct texts program e) (or_left (is_read_fresh texts program e) (is_read_struct texts program e) is))

  pub struct_given : (e : Form) → is_read_struct texts program e ≡ true → (is_either e || (is_read_walker texts program e || (is_read_fresh texts program e || is_read_struct texts program e))) ≡ true
  struct_given e is =
      or_right (is_either e) (is_read_walker texts program e || (is_read_fresh texts program e || is_read_struct texts program e))
      (or_right (is_read_walker texts program e) (is_read_fresh texts program e || is_read_struct texts program e) (or_right (is_read_fresh texts program e) (is_read_struct texts program e) is))
