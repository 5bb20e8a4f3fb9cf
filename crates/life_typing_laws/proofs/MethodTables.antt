-- What the tables of member functions say stays as the table of types grows, and the types that they name are there.
use Rattle.std.proofs.Common.{◌≡◌, ℕ, suc, ◌+◌, Bool, true, false, Option, None, Some, List, [], ◌∷◌, length, refl, sym, ap, subst, if◌then◌else◌, arith}
use Rattle.std.specs.Prelude.{nat_eq}
use Rattle.std.proofs.lemmas.Bool.{and_from}
use Rattle.life_types.specs.Trees.{IsOrdered}
use Rattle.life_types.specs.Types.{Types, HasParts}
use Rattle.life_types.specs.declared.ty.Ty.{Ty}
use Rattle.life_types.specs.declared.ty.Ty.TheVariants as ty
use Rattle.life_typed.specs.Conversions.{fits}
use Rattle.life_typed.specs.Members.{answer, element_place, element_type, has_method, method_answer, method_parameters, of_two, parameter, parameters_of, pointer_type, position_type, takes}
use Rattle.life_typed.specs.TypedForm.{Typed, forms}
use Rattle.life_typed.specs.declared.members.MethodParameters.{MethodParameters}
use Rattle.life_typed.specs.declared.members.MethodParameters.TheVariants as takes_these
use Rattle.life_typed.specs.declared.typed_expr.Category.{Category}
use Rattle.life_typed.specs.declared.typed_expr.Category.TheVariants as category
use Rattle.life_typed.specs.declared.typed_expr.ExprType.{ExprType}
use Rattle.life_typed.specs.declared.typed_expr.ExprType.TheVariants.{Of}
use Rattle.life_typed.specs.declared.typed_expr.Method.{Method}
use Rattle.life_typed.specs.declared.typed_expr.Method.TheVariants as methods
use Rattle.life_names.specs.declared.fault.IllKind.{IllKind}
use Rattle.life_type_expr.specs.Lists as lists
use Rattle.life_type_expr.specs.Lists.{is_taken, lower_kind, misfits, one_misfit, target_misfit}
use Rattle.life_well_typed.specs.Members.{are_taken}
use Rattle.life_typing_laws.specs.Sound.{Grows}
use Rattle.life_typing_laws.proofs.Fitting.{first_none, lower_none, misfit_none, given_later}
use Rattle.life_typing_laws.proofs.Growing.{parts_there, same_type_at}
use Rattle.life_typing_laws.proofs.Reading.{PlacesThere}
use Rattle.life_typing_laws.proofs.Typed.{PartsThere, PlaceThere}

-- ---- in a table that has grown

module _ (old new : Types) (grows : Grows old new) where
  same_element : (t : Ty) → HasParts old t → element_type new t ≡ element_type old t
  same_element (ty.Vector element) parts = same_type_at old new element grows parts
  same_element _ parts = refl

  same_place : (t : Ty) (constant : Bool) → HasParts old t → element_place new t constant ≡ element_place old t constant
  same_place (ty.Vector element) constant parts = ap (λ (u : Ty). (Of u, category.Place element constant)) (same_type_at old new element grows parts)
  same_place _ constant parts = refl

  same_parameters_of : (t : Ty) (m : Method) → HasParts old t → parameters_of new t m ≡ parameters_of old t m
  same_parameters_of t methods.PushBack parts = ap takes_these.One (same_element t parts)
  same_parameters_of t _ parts = refl

  pub same_parameters : (t : Ty) (m : Method) → HasParts old t → method_parameters new t m ≡ method_parameters old t m
  same_parameters t m parts = ap (λ (p : MethodParameters). if has_method t m then Some p else None) (same_parameters_of t m parts)

  same_answer : (t : Ty) (constant : Bool) (m : Method) → HasParts old t → answer new t constant m ≡ answer old t constant m
  same_answer t constant methods.Front parts = same_place t constant parts
  same_answer t constant methods.Back parts = same_place t constant parts
  same_answer t constant _ parts = refl

  pub same_method_answer : (t : Ty) (constant : Bool) (m : Method) → HasParts old t → method_answer new t constant m ≡ method_answer old t constant m
  same_method_answer t constant m parts = ap (λ (a : ExprType × Category). if has_method t m then Some a else None) (same_answer t constant m parts)

-- ---- the types are there

abbrev pub IsThere : Types → ExprType × Category → Type 0
IsThere types a = PartsThere types a.0 × PlaceThere types a.1

module _ (types : Types) (ordered : IsOrdered types) where
  element_there : (t : Ty) (constant : Bool) → HasParts types t → IsThere types (element_place types t constant)
  element_there (ty.Vector element) constant parts = (parts_there types element ordered parts, parts)
  element_there _ constant parts = (tt, tt)

  position_there : (t : Ty) (constant : Bool) → HasParts types t → HasParts types (position_type t constant)
  position_there (ty.Vector element) constant parts = parts
  position_there _ constant parts = tt

  pointer_there : (t : Ty) → HasParts types t → HasParts types (pointer_type t)
  pointer_there (ty.Unique target) parts = parts
  pointer_there _ parts = tt

  answer_there : (t : Ty) (constant : Bool) (m : Method) → HasParts types t → IsThere types (answer types t constant m)
  answer_there t constant methods.Front parts = element_there t constant parts
  answer_there t constant methods.Back parts = element_there t constant parts
  answer_there t constant methods.Begin parts = (position_there t constant parts, tt)
  answer_there t constant methods.End parts = (position_there t constant parts, tt)
  answer_there t constant methods.Erase parts = (position_there t false parts, tt)
  answer_there t constant methods.Get parts = (pointer_there t parts, tt)
  answer_there t constant methods.Subspan parts = (parts, tt)
  answer_there t constant methods.Substr parts = (parts, tt)
  answer_there t constant _ parts = (tt, tt)

  pub method_there : (t : Ty) (constant : Bool) (m : Method) (a : ExprType × Category) → HasParts types t → method_answer types t constant m ≡ Some a → IsThere types a
  method_there t constant m a parts e = go (has_method t m) e
    where
      go : (b : Bool) → (if b then Some (answer types t constant m) else None) ≡ Some a → IsThere types a
      go true e = let same : answer types t constant m ≡ a = cc in subst (IsThere types) same (answer_there t constant m parts)
      go false e = absurd (cc)

  element_parts : (t : Ty) → HasParts types t → HasParts types (element_type types t)
  element_parts (ty.Vector element) parts = parts_there types element ordered parts
  element_parts _ parts = tt

  two_there : (n : ℕ) (first second : Option Ty) (u : Ty) → ((t : Ty) → first ≡ Some t → HasParts types t) → ((t : Ty) → second ≡ Some t → HasParts types t) → of_two n first second ≡ Some u → HasParts types u
  two_there n first second u one other e = go (nat_eq n 0) (nat_eq n 1) e
    where
      go : (a b : Bool) → (if a then first else (if b then second else None)) ≡ Some u → HasParts types u
      go true b e = one u e
      go false true e = other u e
      go false false e = absurd (cc)

  some_there : (t u : Ty) → HasParts types t → ◌≡◌ {A = Option Ty} (Some t) (Some u) → HasParts types u
  some_there t u parts e = let same : t ≡ u = cc in subst (HasParts types) same parts

  none_there : (u : Ty) → ◌≡◌ {A = Option Ty} None (Some u) → HasParts types u
  none_there u e = absurd (cc)

  parameter_of : (t : Ty) (m : Method) (n : ℕ) (u : Ty) → HasParts types t → parameter (parameters_of types t m) n ≡ Some u → HasParts types u
  parameter_of t methods.PushBack n u parts e = two_there n (Some (element_type types t)) None u (λ w is. some_there (element_type types t) w (element_parts t parts) is) none_there e
  parameter_of t methods.Reserve n u parts e = two_there n (Some ty.Size) None u (λ w is. some_there ty.Size w tt is) none_there e
  parameter_of t methods.Erase n u parts e = two_there n (Some (position_type t true)) None u (λ w is. some_there (position_type t true) w (position_there t true parts) is) none_there e
  parameter_of t methods.Subspan n u parts e = two_there n (Some ty.Size) (Some ty.Size) u (λ w is. some_there ty.Size w tt is) (λ w is. some_there ty.Size w tt is) e
  parameter_of t methods.Substr n u parts e = two_there n (Some ty.Size) (Some ty.Size) u (λ w is. some_there ty.Size w tt is) (λ w is. some_there ty.Size w tt is) e
  parameter_of t _ n u parts e = absurd (cc)

  pub parameter_there : (t : Ty) (m : Method) (p : MethodParameters) (n : ℕ) (u : Ty) → HasParts types t → method_parameters types t m ≡ Some p → parameter p n ≡ Some u → HasParts types u
  parameter_there t m p n u parts has e = go (has_method t m) has
    where
      go : (b : Bool) → (if b then Some (parameters_of types t m) else None) ≡ Some p → HasParts types u
      go true is = let same : parameters_of types t m ≡ p = cc in parameter_of t m n u parts (subst (λ (q : MethodParameters). parameter q n ≡ Some u) (sym same) e)
      go false is = absurd (cc)

-- ---- arguments, over a table that has grown

module _ (general : IllKind) (p : MethodParameters) (old new : Types) (ordered : IsOrdered old) (grows : Grows old new) (parts : (n : ℕ) (t : Ty) → parameter p n ≡ Some t → HasParts old t) where
  one_taken : (n : ℕ) (x : Typed) → PlaceThere old x.category → one_misfit general (lists.method_parameters p) old n x ≡ None → is_taken new (parameter p n) x ≡ true
  one_taken n x place e = go (parameter p n) refl e
    where
      go : (o : Option Ty) → parameter p n ≡ o → target_misfit general o old x.ty x.category ≡ None → is_taken new o x ≡ true
      go None is e = absurd (cc)
      go (Some t) is e = given_later old new ordered grows t x (parts n t is) place (misfit_none general (fits old t x.ty x.category) e)

  -- from the parameter with number n on
  arguments_taken : (es : List Typed) (n : ℕ) (lowest : Option IllKind) → PlacesThere old es → takes p (n + length es) ≡ true → misfits general (lists.method_parameters p) old lowest n es ≡ None
      → are_taken new p n (forms es) ≡ true
  arguments_taken [] n lowest places count e = let none_more : n + 0 ≡ n = omega arith in subst (λ (k : ℕ). takes p k ≡ true) none_more count
  arguments_taken (x ∷ es) n lowest places count e =
      let later : n + suc (length es) ≡ suc n + length es = omega arith in
      and_from (is_taken new (parameter p n) x) (are_taken new p (suc n) (forms es))
      (one_taken n x places.0
      (lower_none lowest (one_misfit general (lists.method_parameters p) old n x) (first_none general (lists.method_parameters p) old (lower_kind lowest (one_misfit general (lists.method_parameters p) old n x)) (suc n) es e)).1)
      (arguments_taken es (suc n) (lower_kind lowest (one_misfit general (lists.method_parameters p) old n x)) places.1 (subst (λ (k : ℕ). takes p k ≡ true) later count) e)

  -- .. all of them
  pub all_taken : (es : List Typed) (lowest : Option IllKind) → PlacesThere old es → takes p (length es) ≡ true → misfits general (lists.method_parameters p) old lowest 0 es ≡ None → are_taken new p 0 (forms es) ≡ true
  all_taken es lowest places count e = let none_before : length es ≡ 0 + length es = omega arith in arguments_taken es 0 lowest places (subst (λ (k : ℕ). takes p k ≡ true) none_before count) e
