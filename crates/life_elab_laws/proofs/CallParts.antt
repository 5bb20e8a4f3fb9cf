-- Calls are well formed: where a result goes, and that nothing is given over.
use Rattle.std.proofs.Common.{◌≡◌, ℕ, Bool, true, false, ◌&&◌, ◌||◌, not, nat_eq, List, [], ◌∷◌, flat_map, slice_get, Option, Some, None, refl, ap, ◌∙◌, if◌then◌else◌}
use Rattle.std.proofs.lemmas.Bool.{and_from, and_parts, or_left, or_right}
use Rattle.std.specs.List.{list_all, list_any}
use Rattle.life_types.specs.Pointees.{ty_of}
use Rattle.life_types.specs.TypeTests.{is_pointer, is_value}
use Rattle.life_types.specs.Types.{Types}
use Rattle.life_types.specs.declared.ty.Ty.{Ty}
use Rattle.life_types.specs.declared.ty.Ty.TheVariants as ty
use Rattle.life_types.specs.declared.ty.TyId.{TyId}
use Rattle.life_typed.specs.Programs.{FunctionForm}
use Rattle.life_core.specs.Function.{Function}
use Rattle.life_core.specs.Operands.{Argument, Location, whole}
use Rattle.life_core.specs.Step.{Call}
use Rattle.life_core.specs.Touched.{target_uses}
use Rattle.life_proper.specs.GivenOver.{given_argument}
use Rattle.life_proper.specs.OperandTypes.{same}
use Rattle.life_proper.specs.OperandTypes as operands
use Rattle.life_proper.specs.Placed.{is_number, is_number_of, object_at, register_at, type_in}
use Rattle.life_proper.specs.Placed as placed
use Rattle.life_proper.specs.WellFormed.{are_arguments_for, goes_to, have_own_slots, is_call, types_taken}
use Rattle.life_well_typed.specs.Expressions.{parameter_types}
use Rattle.life_writer.specs.Calls.{called, called_alone}
use Rattle.life_elab_laws.proofs.Calls.{IsCallee}
use Rattle.life_elab_laws.proofs.Gifts.{AreFit, AreHanded}
use Rattle.life_elab_laws.proofs.OperandsThere.{number_any, value_same}
use Rattle.life_elab_laws.proofs.Shaping.{IsFineStep, gives_values, is_no_object}
use Rattle.life_elab_laws.proofs.Values.{by_values}

value_no_pointer : (t : Ty) → is_value t ≡ true → is_pointer t ≡ false
value_no_pointer = by_values (λ t. is_pointer t ≡ false) refl refl refl refl refl

module _ (types : Types) (texts : ℕ) (fs : List Function) (f : Function) where
  -- ---- where the result goes

  pub goes_value : (t : Ty) (r : ℕ) → is_value t ≡ true → is_number_of types f t r ≡ true → goes_to types texts fs f t (Some (whole r)) ≡ true
  goes_value t r v h =
      ap (λ (b : Bool). if b then operands.takes types (type_in types f (whole r)) t else (same t (type_in types f (whole r)) && (object_at types f r || is_number types f r))) (value_no_pointer t v)
      ∙ and_from (same t (placed.type_at types f r)) (object_at types f r || is_number types f r)
      (and_parts (is_value t) (same t (placed.type_at types f r)) (and_parts (register_at types f r) _ h).1).1
      (or_right (object_at types f r) (is_number types f r) (number_any types f t r h))

  -- .. or to an object
  pub goes_object : (t : Ty) (x : ℕ) → is_value t ≡ true → placed.type_at types f x ≡ t → object_at types f x ≡ true → goes_to types texts fs f t (Some (whole x)) ≡ true
  goes_object t x v typed there =
      ap (λ (b : Bool). if b then operands.takes types (type_in types f (whole x)) t else (same t (type_in types f (whole x)) && (object_at types f x || is_number types f x))) (value_no_pointer t v)
      ∙ and_from (same t (placed.type_at types f x)) (object_at types f x || is_number types f x) (ap (same t) typed ∙ value_same t v) (or_left (object_at types f x) (is_number types f x) there)

  pub call_formed : (g : ℕ) (xs : List Argument) (of : FunctionForm) (target : Option Location) → IsCallee types fs g of → AreFit types texts fs f (parameter_types (Some of)) xs
      → goes_to types texts fs f (ty_of types of.result) target ≡ true → is_call types texts fs f (slice_get fs g) target xs ≡ true
  call_formed g xs of target callee given goes =
      ap (λ (o : Option Function). is_call types texts fs f o target xs) callee.there
      ∙ and_from (are_arguments_for types texts fs f (types_taken callee.core) xs) (have_own_slots types texts fs f xs && goes_to types texts fs f (ty_of types callee.core.result) target)
      (ap (λ (ids : List TyId). are_arguments_for types texts fs f ids xs) callee.typed ∙ given.fit)
      (and_from (have_own_slots types texts fs f xs) (goes_to types texts fs f (ty_of types callee.core.result) target) given.own
      (ap (λ (id : TyId). goes_to types texts fs f (ty_of types id) target) callee.gives ∙ goes))

  called_formed : (g : ℕ) (xs : List Argument) (of : FunctionForm) (target : Option Location) → IsCallee types fs g of → AreHanded types texts fs f (parameter_types (Some of)) xs
      → goes_to types texts fs f (ty_of types of.result) target ≡ true → is_call types texts fs f (slice_get fs g) target xs ≡ true
  called_formed g xs of target callee given goes = call_formed g xs of target callee (record { fit = given.fit; own = given.own }) goes

  -- nothing is given over
  none_in : (zs : List ℕ) → list_any (λ (x : ℕ). list_any (nat_eq x) []) zs ≡ false
  none_in [] = refl
  none_in (z ∷ zs) = none_in zs

  keeps_values : (target : Option Location) (g : ℕ) (xs : List Argument) → flat_map given_argument xs ≡ [] → gives_values types f (Call target (record { 0 = g }) xs) ≡ true
  keeps_values target g xs none =
      ap (λ (ys : List ℕ). list_all (is_no_object types f) ys && not (list_any (λ (x : ℕ). list_any (nat_eq x) ys) (target_uses target))) none ∙ ap not (none_in (target_uses target))

  pub alone_fine : (g : ℕ) (xs : List Argument) (of : FunctionForm) → IsCallee types fs g of → AreHanded types texts fs f (parameter_types (Some of)) xs → ty_of types of.result ≡ ty.Void
      → IsFineStep types texts fs f (called_alone g xs)
  alone_fine g xs of callee h void = record {
    given = keeps_values None g xs h.given;
    formed = called_formed g xs of None callee h (ap (λ (u : Ty). goes_to types texts fs f u None) void);
  }

  -- a call that gives something
  pub called_at_fine : (g : ℕ) (xs : List Argument) (of : FunctionForm) (l : Location) → IsCallee types fs g of → AreHanded types texts fs f (parameter_types (Some of)) xs
      → goes_to types texts fs f (ty_of types of.result) (Some l) ≡ true → IsFineStep types texts fs f (called g xs l)
  called_at_fine g xs of l callee h goes = record {
    given = keeps_values (Some l) g xs h.given;
    formed = called_formed g xs of (Some l) callee h goes;
  }

  -- .. to a local
  pub called_fine : (g : ℕ) (xs : List Argument) (of : FunctionForm) (x : ℕ) → IsCallee types fs g of → AreHanded types texts fs f (parameter_types (Some of)) xs
      → goes_to types texts fs f (ty_of types of.result) (Some (whole x)) ≡ true → IsFineStep types texts fs f (called g xs (whole x))
  called_fine g xs of x callee h goes = called_at_fine g xs of (whole x) callee h goes
