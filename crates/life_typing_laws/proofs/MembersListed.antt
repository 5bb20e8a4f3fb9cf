-- The members of a struct that a list initialises.
use Rattle.std.proofs.Common.{◌≡◌, ℕ, suc, ◌+◌, Bool, true, false, ◌&&◌, ◌||◌, Option, None, Some, List, [], ◌∷◌, length, slice_get, refl, sym, ap, subst, ◌∙◌, arith}
use Rattle.std.proofs.lemmas.Bool.{and_from, eqb-true}
use Rattle.std.specs.Prelude.{is_none, nat_eq, option_map}
use Rattle.life_types.specs.Trees.{AllBelow, IsOrdered, TypeTree, holds_unique, tree_at}
use Rattle.life_types.specs.Types.{Types, HasType, HasTypes}
use Rattle.life_types.specs.declared.ty.Ty.{Ty}
use Rattle.life_types.specs.declared.ty.TyId.{TyId}
use Rattle.life_typed.specs.BaseTypes.{type_at}
use Rattle.life_typed.specs.Conversions.{fits}
use Rattle.life_typed.specs.TypedForm.{Typed, forms}
use Rattle.life_names.specs.declared.environment.MemberType.{MemberType}
use Rattle.life_names.specs.declared.fault.IllKind.{IllKind}
use Rattle.life_names.specs.declared.fault.IllKind.TheVariants as kinds
use Rattle.life_type_expr.specs.Lists.{count_fault, is_taken, lower_kind, member_fault, members, misfits, one_misfit, or_kind, struct_fault, target_misfit}
use Rattle.life_typing.specs.Structs.{types_of}
use Rattle.life_well_typed.specs.Members.{are_each, are_members, can_be_listed}
use Rattle.life_typing_laws.proofs.Fitting.{first_none, lower_none, misfit_none, same_tree_at, given_later}
use Rattle.life_typing_laws.proofs.Growing.{parts_there, same_type_at}
use Rattle.life_typing_laws.proofs.Methods.{count_taken}
use Rattle.life_typing_laws.proofs.Reading.{PlacesThere}
use Rattle.life_typing_laws.proofs.Typed.{PlaceThere}
use Rattle.life_typing_laws.specs.Sound.{Grows}

-- types with smaller numbers than there are types are there
pub all_there : (types : Types) (ids : List TyId) → AllBelow (length types.types) ids → HasTypes types ids
all_there types [] below = tt
all_there types (id ∷ ids) below = (below.0, all_there types ids below.1)

or_none : (first second : Option IllKind) → or_kind first second ≡ None → (first ≡ None) × (second ≡ None)
or_none None second e = (refl, e)
or_none (Some kind) second e = absurd (cc)

-- so many, or none
all_or_none : (n m : ℕ) → (nat_eq (suc n) 0 || nat_eq (suc n) m) ≡ true → suc n ≡ m
all_or_none n m e = go (nat_eq (suc n) 0) refl e
  where
    go : (none : Bool) → nat_eq (suc n) 0 ≡ none → (none || nat_eq (suc n) m) ≡ true → suc n ≡ m
    go true is e = let never : suc n ≡ 0 = eqb-true (suc n) 0 is in absurd (omega (arith, never))
    go false is e = eqb-true (suc n) m e

module _ (ms : List MemberType) (old new : Types) (ordered : IsOrdered old) (grows : Grows old new) where
  -- a member that may be listed is one in a table that has grown
  pub still_listed : (id : TyId) → HasType old id → struct_fault (type_at old id) (holds_unique (tree_at old id)) ≡ None → can_be_listed new id ≡ true
  still_listed id there fine =
      ap (λ (t : Ty). is_none (struct_fault t (holds_unique (tree_at new id)))) (same_type_at old new id grows there)
      ∙ ap (λ (t : TypeTree). is_none (struct_fault (type_at old id) (holds_unique t))) (same_tree_at old new ordered grows id there)
      ∙ ap (λ (o : Option IllKind). is_none o) fine

  one_given : (n : ℕ) (m : MemberType) (x : Typed) → slice_get ms n ≡ Some m → HasType old m.ty → PlaceThere old x.category → one_misfit kinds.WrongType (members ms) old n x ≡ None
      → (can_be_listed new m.ty && is_taken new (Some (type_at new m.ty)) x) ≡ true
  one_given n m x here there place e =
      let both = or_none (member_fault old (Some m)) (target_misfit kinds.WrongType (Some (type_at old m.ty)) old x.ty x.category)
      (subst (λ (o : Option MemberType). or_kind (member_fault old o) (target_misfit kinds.WrongType (option_map (λ (z : MemberType). type_at old z.ty) o) old x.ty x.category) ≡ None) here e) in
      and_from (can_be_listed new m.ty) (is_taken new (Some (type_at new m.ty)) x) (still_listed m.ty there both.0)
      (subst (λ (t : Ty). is_taken new (Some t) x ≡ true) (sym (same_type_at old new m.ty grows there))
      (given_later old new ordered grows (type_at old m.ty) x (parts_there old m.ty ordered there) place (misfit_none kinds.WrongType (fits old (type_at old m.ty) x.ty x.category) both.1)))

  -- from the member with number n on
  each_listed : (rest : List MemberType) (es : List Typed) (n : ℕ) (lowest : Option IllKind) → HasTypes old (types_of rest) → ((k : ℕ) → slice_get ms (n + k) ≡ slice_get rest k) → length es ≡ length rest → PlacesThere old es
      → misfits kinds.WrongType (members ms) old lowest n es ≡ None → are_each new (types_of rest) (forms es) ≡ true
  each_listed [] [] n lowest there same count places e = refl
  each_listed [] (x ∷ es) n lowest there same count places e = absurd (omega (arith, count))
  each_listed (m ∷ rest) [] n lowest there same count places e = absurd (omega (arith, count))
  each_listed (m ∷ rest) (x ∷ es) n lowest there same count places e =
      let none_more : n + 0 ≡ n = omega arith in
      let here : slice_get ms n ≡ Some m = subst (λ (i : ℕ). slice_get ms i ≡ Some m) none_more (same 0) in
      let fine : one_misfit kinds.WrongType (members ms) old n x ≡ None =
      (lower_none lowest (one_misfit kinds.WrongType (members ms) old n x) (first_none kinds.WrongType (members ms) old (lower_kind lowest (one_misfit kinds.WrongType (members ms) old n x)) (suc n) es e)).1 in
      and_from (can_be_listed new m.ty && is_taken new (Some (type_at new m.ty)) x) (are_each new (types_of rest) (forms es)) (one_given n m x here there.0 places.0 fine)
      (each_listed rest es (suc n) (lower_kind lowest (one_misfit kinds.WrongType (members ms) old n x)) there.1
      (λ k. let later : n + suc k ≡ suc n + k = omega arith in subst (λ (i : ℕ). slice_get ms i ≡ slice_get rest k) later (same (suc k))) (omega (arith, count)) places.1 e)

  -- each of them, or none
  pub members_listed : (es : List Typed) → HasTypes old (types_of ms) → PlacesThere old es → misfits kinds.WrongType (members ms) old (lower_kind None (count_fault kinds.WrongType (members ms) (length es))) 0 es ≡ None
      → are_members new (types_of ms) (forms es) ≡ true
  members_listed [] there places fine = refl
  members_listed (x ∷ es) there places fine =
      let count = count_taken kinds.WrongType (members ms) (length (x ∷ es))
      (first_none kinds.WrongType (members ms) old (count_fault kinds.WrongType (members ms) (length (x ∷ es))) 0 (x ∷ es) fine) in
      each_listed ms (x ∷ es) 0 (count_fault kinds.WrongType (members ms) (length (x ∷ es))) there (λ k. let none_more : 0 + k ≡ k = omega arith in ap (slice_get ms) none_more)
      (all_or_none (length es) (length ms) count) places fine
