-- Structs that may be copied: no member holds a unique_ptr, which typing asks of each struct that is copied or assigned to.
use Rattle.std.proofs.Common.{◌≡◌, ℕ, Bool, true, false, ◌&&◌, ◌||◌, not, List, [], ◌∷◌, Err, is_none, refl, sym, ap, ◌∙◌, subst, if◌then◌else◌, nat_eq}
use Rattle.std.proofs.lemmas.Bool.{and_from, and_parts, false≢true}
use Rattle.life_types.specs.Trees.{IsOrdered, Member, TypeTree, Unique, holds_unique, is_plain, members_at, struct_of, tree_at}
use Rattle.life_types.specs.Types.{Types}
use Rattle.life_types.specs.declared.ty.Ty.{Ty}
use Rattle.life_types.specs.declared.ty.Ty.TheVariants as ty
use Rattle.life_types.specs.declared.ty.TyId.{TyId}
use Rattle.life_typed.specs.BaseTypes.{type_at}
use Rattle.life_typed.specs.Conversions.{fits, unless}
use Rattle.life_typed.specs.TypedForm.{Typed}
use Rattle.life_typed.specs.declared.misfit.Misfit.TheVariants.{Copy, General}
use Rattle.life_typed.specs.declared.typed_expr.Category.{Category}
use Rattle.life_typed.specs.declared.typed_expr.Category.TheVariants as category
use Rattle.life_typed.specs.declared.typed_expr.ExprType.{ExprType}
use Rattle.life_typed.specs.declared.typed_expr.ExprType.TheVariants.{Of}
use Rattle.life_type_expr.specs.Lists.{fits_at_all, struct_fault}
use Rattle.life_type_stmt.specs.Simples.{whole_fault}
use Rattle.life_well_typed.specs.Given.{is_given}
use Rattle.life_well_typed.specs.Members.{can_be_listed}
use Rattle.life_elab_laws.proofs.ObjectTypes.{are_plain, is_plain_struct, have_trees}
use Rattle.life_elab_laws.proofs.Fronts.{IsFront}
use Rattle.life_elab_laws.proofs.OrderedTypes.{KeepsOrder, trees_later}
use Rattle.life_elab_laws.proofs.PlainStructs.{as_type, void_struct}

-- none of these types holds a unique_ptr
abbrev pub are_copied : Types → List TyId → Bool
are_copied types ids = have_trees (λ (t : TypeTree). not (holds_unique t)) types ids

abbrev pub is_copied_struct : Types → ℕ → Bool
is_copied_struct types number = are_copied types (members_at types number)

-- those of one table stay in another one
abbrev pub CopiesStay : (few more : Types) → Type 0
CopiesStay few more = (number : ℕ) → is_copied_struct few number ≡ true → is_copied_struct more number ≡ true

-- ---- what is plain

plain_holds_none : (t : TypeTree) → is_plain t ≡ true → not (holds_unique t) ≡ true
plain_holds_none (Unique target) plain = absurd (false≢true plain)
plain_holds_none (Member first others) plain =
    let parts = and_parts (is_plain first) (is_plain others) plain in
    neither (holds_unique first) (holds_unique others) (plain_holds_none first parts.0) (plain_holds_none others parts.1)
  where
    neither : (a b : Bool) → not a ≡ true → not b ≡ true → not (a || b) ≡ true
    neither false b first second = second
    neither true b first second = absurd (false≢true first)
plain_holds_none _ plain = refl

module _ (types : Types) where
  pub plain_copied : (number : ℕ) → is_plain_struct types (ty.Struct number) ≡ true → is_copied_struct types number ≡ true
  plain_copied number pointless = each (members_at types number) pointless
    where
      each : (ids : List TyId) → are_plain types ids ≡ true → are_copied types ids ≡ true
      each [] plain = refl
      each (id ∷ ids) plain =
          let parts = and_parts (is_plain (tree_at types id)) (are_plain types ids) plain in
          and_from (not (holds_unique (tree_at types id))) (are_copied types ids) (plain_holds_none (tree_at types id) parts.0) (each ids parts.1)

  -- ---- by the tree of its type

  members_copied : (ids : List TyId) → not (holds_unique (struct_of (tree_at types) ids)) ≡ are_copied types ids
  members_copied [] = refl
  members_copied (id ∷ ids) = apart (holds_unique (tree_at types id)) (holds_unique (struct_of (tree_at types) ids)) ∙ ap (λ (b : Bool). not (holds_unique (tree_at types id)) && b) (members_copied ids)
    where
      apart : (a b : Bool) → not (a || b) ≡ (not a && not b)
      apart true b = refl
      apart false b = refl

  pub struct_copied : IsOrdered types → (id : TyId) (number : ℕ) → type_at types id ≡ ty.Struct number → not (holds_unique (tree_at types id)) ≡ is_copied_struct types number
  struct_copied ordered id number is = ap (λ (t : TypeTree). not (holds_unique t)) (as_type types ordered id (ty.Struct number) (void_struct types ordered number) is) ∙ members_copied (members_at types number)

  -- ---- what typing lets through

  module _ (ordered : IsOrdered types) (id : TyId) (number : ℕ) (is : type_at types id ≡ ty.Struct number) where
    faultless : is_none (struct_fault (type_at types id) (holds_unique (tree_at types id))) ≡ true → is_copied_struct types number ≡ true
    faultless h = sym (struct_copied ordered id number is) ∙ go (holds_unique (tree_at types id)) (ap (λ (t : Ty). is_none (struct_fault t (holds_unique (tree_at types id)))) (sym is) ∙ h)
      where
        go : (b : Bool) → is_none (struct_fault (ty.Struct number) b) ≡ true → not b ≡ true
        go false h = refl
        go true h = absurd (false≢true h)

    -- a member that is listed
    pub listed_copied : can_be_listed types id ≡ true → is_copied_struct types number ≡ true
    listed_copied h = faultless h

    -- what is assigned to as a whole
    pub assigned_copied : (c : Category) (constant : Bool) → c ≡ category.Place id constant → is_none (whole_fault types c) ≡ true → is_copied_struct types number ≡ true
    assigned_copied c constant at h = faultless (ap (λ (c : Category). is_none (whole_fault types c)) (sym at) ∙ h)

    -- what is given to another struct, from its place
    pub given_copied : (e : Typed) (target : ℕ) (constant : Bool) → e.ty ≡ Of (ty.Struct number) → e.category ≡ category.Place id constant → is_given types (ty.Struct target) e ≡ true → is_copied_struct types number ≡ true
    given_copied e target constant typed at given =
        sym (struct_copied ordered id number is)
        ∙ go (nat_eq number target) (holds_unique (tree_at types id))
        (subst (λ (c : Category). fits_at_all (fits types (ty.Struct target) (Of (ty.Struct number)) c) ≡ true) at (subst (λ (x : ExprType). fits_at_all (fits types (ty.Struct target) x e.category) ≡ true) typed given))
      where
        go : (same b : Bool) → fits_at_all (if same then unless b Copy else Err General) ≡ true → not b ≡ true
        go true false h = refl
        go true true h = absurd (false≢true h)
        go false b h = absurd (false≢true h)

-- ---- in a table with more types too

module _ (few more : Types) (front : IsFront few.types more.types) (order : KeepsOrder few more) where
  pub copied_later : IsOrdered few → CopiesStay few more
  copied_later ordered number copies = trees_later few more front order (λ (t : TypeTree). not (holds_unique t)) ordered number copies
