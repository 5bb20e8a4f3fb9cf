-- The types of a well-formed function's locals, locations and operands are those that the meaning takes: no local but a parameter is a slot.
use Rattle.std.proofs.Common.{◌≡◌, ℕ, zero, suc, ◌+◌, Bool, true, false, cond, not, List, [], ◌∷◌, Option, Some, None, refl, sym, ap, subst, ◌∙◌, arith}
use Rattle.std.proofs.lemmas.Bool.{and_parts, false≢true}
use Rattle.std.specs.Prelude.{nat_lt, slice_get}
use Rattle.life_types.specs.Pointees.{or_void, ty_of}
use Rattle.life_types.specs.Trees.{IsOrdered, TypeTree, is_plain, tree_at, tree_of}
use Rattle.life_types.specs.TypeTests.{is_void}
use Rattle.life_types.specs.Types.{Types, is_slot_target, is_slot_type}
use Rattle.life_types.specs.declared.ty.Ty.{Ty}
use Rattle.life_types.specs.declared.ty.Ty.TheVariants as ty
use Rattle.life_types.specs.declared.ty.TyId.{TyId}
use Rattle.life_types.proofs.TreeLemmas.{tree_made}
use Rattle.life_core.specs.declared.program.Local.{Local}
use Rattle.life_core.specs.Function.{Function}
use Rattle.life_pset.specs.Shapes.{member_of, member_type, members_type, referred, shape, shape_if, target_of, unslotted}
use Rattle.life_pset.specs.Shapes as shapes
use Rattle.life_proper.specs.WellFormedPrograms.{are_well_formed_locals, is_well_formed_local, may_stand}
use Rattle.life_store.specs.Parts.{held_type, held_type_if, local_type, members_if, target_in, target_type, type_within, variable_type}
use Rattle.life_store.proofs.CellLemmas.{none_some, some_same}

-- the meaning's types are those of the function's shape
abbrev pub IsShaped : Types → Function → Type 0
IsShaped types f = (x : ℕ) → shapes.local_type types f x ≡ local_type types f x

module _ (types : Types) where
  -- ---- slots

  referred_is : (id target : TyId) (o : Option Ty) → referred id target (or_void o) ≡ cond (is_slot_target o) target id
  referred_is id target None = refl
  referred_is id target (Some (ty.Iterator item constant)) = refl
  referred_is id target (Some (ty.Span item constant)) = refl
  referred_is id target (Some ty.View) = refl
  referred_is id target (Some (ty.Unique item)) = refl
  referred_is id target (Some _) = refl

  unslotted_is : (id : TyId) (o : Option Ty) → unslotted types id (or_void o) ≡ variable_type types id o
  unslotted_is id None = refl
  unslotted_is id (Some (ty.Reference target false)) = referred_is id target (slice_get types.types target.0)
  unslotted_is id (Some _) = refl

  -- what is no slot stands as it is
  pub no_slot : (id : TyId) (o : Option Ty) → is_slot_type types o ≡ false → variable_type types id o ≡ id
  no_slot id None e = refl
  no_slot id (Some (ty.Reference target false)) e = ap (λ b. cond b target id) e
  no_slot id (Some _) e = refl

  -- what a slot refers to isn't plain
  not_plain : (part : TyId → TypeTree) (o : Option Ty) → is_slot_target o ≡ true → is_plain (tree_of types part o) ≡ false
  not_plain part None e = absurd (false≢true e)
  not_plain part (Some (ty.Iterator item constant)) e = refl
  not_plain part (Some (ty.Span item constant)) e = refl
  not_plain part (Some ty.View) e = refl
  not_plain part (Some (ty.Unique item)) e = refl
  not_plain part (Some _) e = absurd (false≢true e)

  -- ---- members

  member_same : (o : Option Ty) (m : ℕ) → member_of types (or_void o) m ≡ slice_get (members_if types o) m
  member_same None m = refl
  member_same (Some (ty.Struct number)) m = refl
  member_same (Some _) m = refl

  none_within : (ms : List ℕ) → type_within types None ms ≡ None
  none_within [] = refl
  none_within (m ∷ ms) = refl

  pub within_same : (ms : List ℕ) (id : Option TyId) → members_type types id ms ≡ type_within types id ms
  within_same [] id = refl
  within_same (m ∷ ms) None = within_same ms None ∙ none_within ms
  within_same (m ∷ ms) (Some id) = within_same ms (member_type types (Some id) m) ∙ ap (λ (x : Option TyId). type_within types x ms) (member_same (slice_get types.types id.0) m)

  target_is : (o : Option Ty) → target_of (or_void o) ≡ target_in o
  target_is None = refl
  target_is (Some (ty.Raw target constant)) = refl
  target_is (Some (ty.Reference target constant)) = refl
  target_is (Some (ty.Iterator target constant)) = refl
  target_is (Some (ty.Span target constant)) = refl
  target_is (Some _) = refl

  pub target_same : (id : Option TyId) → shapes.target_type types id ≡ target_type types id
  target_same None = refl
  target_same (Some id) = target_is (slice_get types.types id.0)

  -- ---- a function's locals

  module _ (ordered : IsOrdered types) where
    -- no type that stands as it is is a slot's
    pub slot_falls : (o : Option Ty) → is_slot_type types o ≡ true → may_stand (tree_of types (tree_at types) o) ≡ true → ⊥
    slot_falls None e may = false≢true e
    slot_falls (Some (ty.Reference target false)) e may =
        false≢true (sym (not_plain (tree_at types) (slice_get types.types target.0) e) ∙ ap is_plain (sym (tree_made types ordered target)) ∙ (and_parts (is_plain (tree_at types target)) (may_stand (tree_at types target)) may).0)
    slot_falls (Some _) e may = false≢true e

    own_type : (id : TyId) (o : Option Ty) → may_stand (tree_of types (tree_at types) o) ≡ true → variable_type types id o ≡ id
    own_type id o may = go (is_slot_type types o) refl
      where
        go : (b : Bool) → is_slot_type types o ≡ b → variable_type types id o ≡ id
        go false e = no_slot id o e
        go true e = absurd (slot_falls o e may)

    shape_same : (b : Bool) (l : Local) → may_stand (tree_at types (shape_if types b l.ty)) ≡ true → shape_if types b l.ty ≡ held_type types l
    shape_same true l may = unslotted_is l.ty (slice_get types.types l.ty.0)
    shape_same false l may = sym (own_type l.ty (slice_get types.types l.ty.0) (ap may_stand (sym (tree_made types ordered l.ty)) ∙ may))

    formed_local : (names n k : ℕ) (ls : List Local) (x : ℕ) (l : Local) → are_well_formed_locals types names n k ls ≡ true → slice_get ls x ≡ Some l → is_well_formed_local types names n (k + x) l ≡ true
    formed_local names n k [] x l e there = absurd (none_some there)
    formed_local names n k (y ∷ ys) zero l e there =
        subst (λ j. is_well_formed_local types names n j l ≡ true) (omega arith)
        (subst (λ (z : Local). is_well_formed_local types names n k z ≡ true) (some_same there) (and_parts (is_well_formed_local types names n k y) (are_well_formed_locals types names n (k + 1) ys) e).0)
    formed_local names n k (y ∷ ys) (suc x) l e there =
        subst (λ j. is_well_formed_local types names n j l ≡ true) (omega arith)
        (formed_local names n (k + 1) ys x l (and_parts (is_well_formed_local types names n k y) (are_well_formed_locals types names n (k + 1) ys) e).1 there)

    pub local_formed : (names n : ℕ) (ls : List Local) (x : ℕ) (l : Local) → are_well_formed_locals types names n 0 ls ≡ true → slice_get ls x ≡ Some l → is_well_formed_local types names n x l ≡ true
    local_formed names n ls x l e there = subst (λ j. is_well_formed_local types names n j l ≡ true) (omega arith) (formed_local names n 0 ls x l e there)

    pub locals_shaped : (names : ℕ) (f : Function) → are_well_formed_locals types names f.parameters 0 f.locals ≡ true → IsShaped types f
    locals_shaped names f e x = go (slice_get f.locals x) refl
      where
        may : (l : Local) → is_well_formed_local types names f.parameters x l ≡ true → may_stand (tree_at types (shape types f.parameters x l)) ≡ true
        may l h = (and_parts (may_stand (tree_at types (shape types f.parameters x l))) _ (and_parts (not (is_void (ty_of types l.ty))) _ h).1).0

        go : (o : Option Local) → slice_get f.locals x ≡ o → shapes.shape_of types f.parameters x o ≡ held_type_if types o
        go None there = refl
        go (Some l) there = ap Some (shape_same (nat_lt x f.parameters) l (may l (local_formed names f.parameters f.locals x l e there)))
