-- What fits a type, and breaks no rule, is what is given to it.
use Rattle.std.proofs.Common.{◌≡◌, ℕ, suc, ◌+◌, true, false, Option, None, Some, Ok, Err, List, [], ◌∷◌, length, slice_get, if◌then◌else◌, refl, sym, ap, subst, ◌∙◌, arith}
use Rattle.std.proofs.lemmas.Bool.{and_from}
use Rattle.std.specs.Prelude.{nat_eq}
use Rattle.life_types.proofs.TreeLemmas.{tree_stays}
use Rattle.life_types.specs.Trees.{IsOrdered, TypeTree, holds_unique, tree_at}
use Rattle.life_types.specs.Types.{Types, HasParts, HasType, HasTypes}
use Rattle.life_types.specs.declared.ty.Ty.{Ty}
use Rattle.life_types.specs.declared.ty.Ty.TheVariants as ty
use Rattle.life_types.specs.declared.ty.TyId.{TyId}
use Rattle.life_typing_laws.specs.Sound.{Grows}
use Rattle.life_typed.specs.BaseTypes.{type_at}
use Rattle.life_typed.specs.Conversions.{Fit, bound_const, converted, copied, fits, fitting, initialised, is_place_of, struct_from, unless}
use Rattle.life_typed.specs.TypedForm.{Typed, forms}
use Rattle.life_typed.specs.declared.misfit.Misfit.TheVariants.{General, Copy}
use Rattle.life_typed.specs.declared.typed_expr.Category.{Category}
use Rattle.life_typed.specs.declared.typed_expr.Category.TheVariants as category
use Rattle.life_typed.specs.declared.typed_expr.ExprType.{ExprType}
use Rattle.life_typed.specs.declared.typed_expr.ExprType.TheVariants.{Of, NullPointer, TextLiteral}
use Rattle.life_names.specs.declared.fault.IllKind.{IllKind}
use Rattle.life_type_expr.specs.Lists.{Targets, fits_at_all, lower_kind, misfit_of, misfits, one_misfit, parameters}
use Rattle.life_well_typed.specs.Expressions.{are_given}
use Rattle.life_well_typed.specs.Given.{is_given}
use Rattle.life_typing_laws.proofs.Each.{EachHolds}
use Rattle.life_typing_laws.proofs.Growing.{parts_there, same_type_at}
use Rattle.life_typing_laws.proofs.Typed.{PlaceThere}

-- ---- one expression

pub fit_at_all : (fit : Fit) → fit ≡ Ok tt → fits_at_all fit ≡ true
fit_at_all fit e = rw e refl

pub misfit_none : (general : IllKind) (fit : Fit) → misfit_of general fit ≡ None → fit ≡ Ok tt
misfit_none general (Ok u) e = refl
misfit_none general (Err m) e = absurd (cc)

-- ---- whatever is given

-- a type's tree stays, so what fits in a table fits in each that it grows to
module _ (few more : Types) (ordered : IsOrdered few) (grows : Grows few more) where
  pub same_tree_at : (id : TyId) → HasType few id → tree_at more id ≡ tree_at few id
  same_tree_at id there = tree_stays few more ordered (record { types = grows.types; structs = grows.structs }) id there

  same_copied : (c : Category) → PlaceThere few c → copied more c ≡ copied few c
  same_copied category.Value there = refl
  same_copied (category.Place id constant) there = ap (λ (t : TypeTree). unless (holds_unique t) Copy) (same_tree_at id there)

  same_struct : (number : ℕ) (s : Ty) (c : Category) → PlaceThere few c → struct_from more number s c ≡ struct_from few number s c
  same_struct number (ty.Struct found) c there = ap (λ (f : Fit). if nat_eq found number then f else Err General) (same_copied c there)
  same_struct number _ c there = refl

  same_converted : (t s : Ty) (c : Category) → PlaceThere few c → converted more t s c ≡ converted few t s c
  same_converted (ty.Struct number) s c there = same_struct number s c there
  same_converted _ s c there = refl

  same_from : (t : Ty) (e : ExprType) (c : Category) → PlaceThere few c → initialised more t e c ≡ initialised few t e c
  same_from t (Of s) c there = same_converted t s c there
  same_from t NullPointer c there = refl
  same_from t TextLiteral c there = refl

  same_bound : (target : TyId) (e : ExprType) (c : Category) → HasType few target → PlaceThere few c → bound_const more target e c ≡ bound_const few target e c
  same_bound target e c target_there there =
      ap (λ (f : Fit). if is_place_of c target then fitting else f)
      (same_from (type_at more target) e c there ∙ ap (λ (t : Ty). initialised few t e c) (same_type_at few more target grows target_there))

  pub same_fits : (t : Ty) (e : ExprType) (c : Category) → HasParts few t → PlaceThere few c → fits more t e c ≡ fits few t e c
  same_fits (ty.Reference target false) e c parts there = refl
  same_fits (ty.Reference target true) e c parts there = same_bound target e c parts there
  same_fits t e c parts there = same_from t e c there

  pub given_later : (t : Ty) (e : Typed) → HasParts few t → PlaceThere few e.category → fits few t e.ty e.category ≡ Ok tt → is_given more t e ≡ true
  given_later t e parts there fine = fit_at_all (fits more t e.ty e.category) (same_fits t e.ty e.category parts there ∙ fine)

-- ---- the lowest of several rules

pub lower_none : (first second : Option IllKind) → lower_kind first second ≡ None → (first ≡ None) × (second ≡ None)
lower_none None second e = (refl, e)
lower_none (Some kind) None e = absurd (cc)
lower_none (Some kind) (Some other) e = absurd (cc)

pub first_none : (general : IllKind) (targets : Targets) (types : Types) (lowest : Option IllKind) (n : ℕ) (es : List Typed) → misfits general targets types lowest n es ≡ None → lowest ≡ None
first_none general targets types lowest n [] e = e
first_none general targets types lowest n (x ∷ es) e =
    (lower_none lowest (one_misfit general targets types n x) (first_none general targets types (lower_kind lowest (one_misfit general targets types n x)) (suc n) es e)).0

-- ---- arguments, over a table that has grown

module _ (general : IllKind) (ids : List TyId) (old new : Types) (ordered : IsOrdered old) (grows : Grows old new) where
  one_given : (n : ℕ) (id : TyId) (x : Typed) → slice_get ids n ≡ Some id → HasType old id → PlaceThere old x.category → one_misfit general (parameters ids) old n x ≡ None → is_given new (type_at old id) x ≡ true
  one_given n id x here there place e =
      given_later old new ordered grows (type_at old id) x (parts_there old id ordered there) place (misfit_none general (fits old (type_at old id) x.ty x.category) (rw here at e))

  -- from the parameter with number n on
  pub arguments_given : (rest : List TyId) (es : List Typed) (n : ℕ) (lowest : Option IllKind) → HasTypes old rest → ((k : ℕ) → slice_get ids (n + k) ≡ slice_get rest k) → length es ≡ length rest
      → EachHolds (λ (e : Typed). PlaceThere old e.category) es → misfits general (parameters ids) old lowest n es ≡ None → are_given new rest (forms es) ≡ true
  arguments_given [] [] n lowest there same count places e = refl
  arguments_given [] (x ∷ es) n lowest there same count places e = absurd (omega arith)
  arguments_given (id ∷ rest) [] n lowest there same count places e = absurd (omega arith)
  arguments_given (id ∷ rest) (x ∷ es) n lowest there same count places e =
      let none_more : n + 0 ≡ n = omega arith in
      let here : slice_get ids n ≡ Some id = subst (λ (i : ℕ). slice_get ids i ≡ Some id) none_more (same 0) in
      let fine : one_misfit general (parameters ids) old n x ≡ None =
      (lower_none lowest (one_misfit general (parameters ids) old n x) (first_none general (parameters ids) old (lower_kind lowest (one_misfit general (parameters ids) old n x)) (suc n) es e)).1 in
      let first : is_given new (type_at new id) x ≡ true = subst (λ (t : Ty). is_given new t x ≡ true) (sym (same_type_at old new id grows there.0)) (one_given n id x here there.0 places.0 fine) in
      and_from (is_given new (type_at new id) x) (are_given new rest (forms es)) first
      (arguments_given rest es (suc n) (lower_kind lowest (one_misfit general (parameters ids) old n x)) there.1 (λ k. let later : n + suc k ≡ suc n + k = omega arith in subst (λ (i : ℕ). slice_get ids i ≡ slice_get rest k) later (same (suc k))) (omega arith) places.1 e)
