-- How what is given is read: to a parameter or a member, to what holds elements, and to a member function.
use Rattle.std.proofs.Common.{◌≡◌, ℕ, true, false, ◌||◌, refl, sym, ◌∙◌, Option, Some, None}
use Rattle.std.proofs.lemmas.Bool.{false≢true, or_left, or_right}
use Rattle.life_types.specs.TypeTests.{is_unique, is_value}
use Rattle.life_types.specs.declared.ty.Ty.{Ty}
use Rattle.life_types.specs.declared.ty.Ty.TheVariants as ty
use Rattle.life_types.specs.declared.ty.TyId.{TyId}
use Rattle.life_typed.specs.Members.{parameter}
use Rattle.life_typed.specs.Programs.{ProgramForm}
use Rattle.life_typed.specs.TypedForm.{Form}
use Rattle.life_typed.specs.declared.members.MethodParameters.{MethodParameters}
use Rattle.life_type_expr.specs.Lists.{is_taken}
use Rattle.life_well_typed.specs.Given.{is_given}
use Rattle.life_well_typed.specs.Members.{typed_in}
use Rattle.life_elab_laws.proofs.FormKinds.{is_read_form, is_read_fresh, is_read_struct, is_read_walker}
use Rattle.life_elab_laws.proofs.ObjectTypes.{is_element, is_target}
use Rattle.life_elab_laws.proofs.TypeKinds.{is_walker, takes_owner, takes_struct}
use Rattle.life_elab_laws.proofs.Elements.{element_target}
use Rattle.life_elab_laws.proofs.KnownTypes.{element_admits, is_known_type, known_refers, admits_known, target_no_unique, target_no_walker, value_known}
use Rattle.life_elab_laws.proofs.TypedFits.{IsTakenAs, as_owner, as_struct, as_unique, as_value, as_walker, given_taken}
use Rattle.life_elab_laws.proofs.TypedMethods.{TakesValues}
use Rattle.life_elab_laws.proofs.TypedOperands.{IsReadOperand, asked_read, asks_owner, asks_value, fresh_given, is_either, struct_given, value_given, value_read, walker_given}
use Rattle.life_elab_laws.proofs.Values.{by_values}

module _ (texts : ℕ) (program : ProgramForm) (e : Form) (is : IsReadOperand texts program e) where
  abbrev IsTaken : Ty → Type 0
  IsTaken t = IsTakenAs t (typed_in e).ty (typed_in e).category

  taken : (t : Ty) → is_known_type program.types t ≡ true → is_given program.types t (typed_in e) ≡ true → IsTaken t
  taken t known given =
      given_taken program.types t (typed_in e)
      (known_refers program.types t known)
      (λ target held at. (is.place target held at).0)
      given

  -- to an object of any type
  pub given_read : (t : Ty) → is_known_type program.types t ≡ true → is_given program.types t (typed_in e) ≡ true
      → (is_either texts program e || (is_read_walker texts program e || (is_read_fresh texts program e || is_read_struct texts program e))) ≡ true
  given_read t known given = go (taken t known given)
    where
      go : IsTaken t → (is_either texts program e || (is_read_walker texts program e || (is_read_fresh texts program e || is_read_struct texts program e))) ≡ true
      go (as_value takes plain some) = value_given texts program e (asked_read texts program e is (asks_value (record { plain = plain; some = some })))
      go (as_owner takes n) = value_given texts program e (asked_read texts program e is (asks_owner n))
      go (as_walker takes w) = walker_given texts program e (is.walker w)
      go (as_unique takes u made) = fresh_given texts program e (is.fresh u made)
      go (as_struct takes s) = struct_given texts program e (is.structure s)

  -- to an element
  pub element_read : (t : Ty) → is_element program.types t ≡ true → is_given program.types t (typed_in e) ≡ true → (is_either texts program e || is_read_struct texts program e) ≡ true
  element_read t worth given = go (taken t (admits_known program.types t (element_admits program.types t worth)) given)
    where
      target : is_target program.types t ≡ true
      target = element_target program.types t worth

      go : IsTaken t → (is_either texts program e || is_read_struct texts program e) ≡ true
      go (as_value takes plain some) = or_left (is_either texts program e) (is_read_struct texts program e) (asked_read texts program e is (asks_value (record { plain = plain; some = some })))
      go (as_owner takes n) = or_left (is_either texts program e) (is_read_struct texts program e) (asked_read texts program e is (asks_owner n))
      go (as_walker takes w) = absurd (target_no_walker program.types t target takes)
      go (as_unique takes u made) = absurd (target_no_unique program.types t target takes)
      go (as_struct takes s) = or_right (is_either texts program e) (is_read_struct texts program e) (is.structure s)

  -- to a number
  number_read : (t : Ty) → is_value t ≡ true → is_given program.types t (typed_in e) ≡ true → is_read_form texts program e ≡ true
  number_read t v given = go (taken t (value_known program.types t v) given)
    where
      no_owner : takes_owner t ≡ false
      no_owner = by_values (λ u. takes_owner u ≡ false) refl refl refl refl refl t v

      no_walker : is_walker t ≡ false
      no_walker = by_values (λ u. is_walker u ≡ false) refl refl refl refl refl t v

      no_unique : is_unique t ≡ false
      no_unique = by_values (λ u. is_unique u ≡ false) refl refl refl refl refl t v

      no_struct : takes_struct t ≡ false
      no_struct = by_values (λ u. takes_struct u ≡ false) refl refl refl refl refl t v

      go : IsTaken t → is_read_form texts program e ≡ true
      go (as_value takes plain some) = value_read texts program e is (record { plain = plain; some = some })
      go (as_owner takes n) = absurd (false≢true (sym no_owner ∙ takes))
      go (as_walker takes w) = absurd (false≢true (sym no_walker ∙ takes))
      go (as_unique takes u made) = absurd (false≢true (sym no_unique ∙ takes))
      go (as_struct takes s) = absurd (false≢true (sym no_struct ∙ takes))

  -- to a parameter that takes a number
  pub parameter_read : (p : MethodParameters) (n : ℕ) → TakesValues p → is_taken program.types (parameter p n) (typed_in e) ≡ true → is_read_form texts program e ≡ true
  parameter_read p n takes given = go (parameter p n) refl given
    where
      go : (o : Option Ty) → parameter p n ≡ o → is_taken program.types o (typed_in e) ≡ true → is_read_form texts program e ≡ true
      go None at given = absurd (false≢true given)
      go (Some t) at given = number_read t (takes n t at) given

  -- .. or an iterator
  pub position_read : (item : TyId) → is_given program.types (ty.Iterator item true) (typed_in e) ≡ true → is_known_type program.types (ty.Iterator item true) ≡ true → is_read_walker texts program e ≡ true
  position_read item given known = go (taken (ty.Iterator item true) known given)
    where
      go : IsTaken (ty.Iterator item true) → is_read_walker texts program e ≡ true
      go (as_value takes plain some) = absurd (false≢true takes)
      go (as_owner takes n) = absurd (false≢true takes)
      go (as_walker takes w) = is.walker w
      go (as_unique takes u made) = absurd (false≢true takes)
      go (as_struct takes s) = absurd (false≢true takes)
