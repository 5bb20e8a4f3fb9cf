-- A table stays ordered as the types of registers are added: each type comes behind its parts and stands once, and no struct comes in.
use Rattle.std.proofs.Common.{◌≡◌, ◌≤◌, ◌⊎◌, inl, inr, ℕ, zero, suc, Bool, true, false, List, [], ◌∷◌, ◌++◌, length, slice_get, Option, None, Some, if◌then◌else◌, refl, sym, ap, ◌∙◌, subst, arith, length-append, unwrap_or}
use Rattle.std.specs.List.{list_any}
use Rattle.std.proofs.lemmas.Option.{none-some, same_Some}
use Rattle.life_types.specs.Trees.{AllBelow, HasPartsBelow, IsOrdered, TypeTree, members_at, tree_at}
use Rattle.life_types.specs.Types.{Types, HasEachOnce, with_type}
use Rattle.life_types.specs.contracts.ty.TyPartialEq.TheImpl.{ghosts as compared}
use Rattle.life_types.specs.declared.ty.Ty.{Ty}
use Rattle.life_types.specs.declared.ty.Ty.TheVariants as ty
use Rattle.life_types.specs.declared.ty.TyId.{TyId}
use Rattle.life_well_typed.proofs.Once.{once_with}
use Rattle.std.proofs.lemmas.Bool.{and_from, and_parts}
use Rattle.life_types.proofs.TreeLemmas.{Grows, tree_stays}
use Rattle.life_elab_laws.proofs.ObjectTypes.{have_trees}
use Rattle.life_elab_laws.proofs.Fronts.{IsFront}

pub record KeepsOrder (few more : Types) : Type 0 where
  pub structs : more.structs ≡ few.structs
  pub ordered : IsOrdered few → IsOrdered more
  pub once : HasEachOnce few → HasEachOnce more

pub order_none : (table : Types) → KeepsOrder table table
order_none table = record { structs = refl; ordered = λ h. h; once = λ h. h }

pub order_then : (a b c : Types) → KeepsOrder a b → KeepsOrder b c → KeepsOrder a c
order_then a b c first second = record { structs = second.structs ∙ first.structs; ordered = λ h. second.ordered (first.ordered h); once = λ h. second.once (first.once h) }

-- structs have the members that they had
pub members_later : (few more : Types) → KeepsOrder few more → (number : ℕ) → members_at more number ≡ members_at few number
members_later few more order number = ap (λ (ss : List (List TyId)). unwrap_or (slice_get ss number) []) order.structs

-- the trees of their members are what they were
pub trees_later : (few more : Types) → IsFront few.types more.types → KeepsOrder few more → (test : TypeTree → Bool) → IsOrdered few → (number : ℕ) → have_trees test few (members_at few number) ≡ true → have_trees test more (members_at more number) ≡ true
trees_later few more front order test ordered number have =
    subst (λ (ids : List TyId). have_trees test more ids ≡ true) (sym (members_later few more order number)) (go (slice_get few.structs number) refl have)
  where
    grows : Grows few more
    grows = record { types = front; structs = λ n ids at. ap (λ (structs : List (List TyId)). slice_get structs n) order.structs ∙ at }

    each : (ids : List TyId) → AllBelow (length few.types) ids → have_trees test few ids ≡ true → have_trees test more ids ≡ true
    each [] below have = refl
    each (id ∷ ids) below have =
        let parts = and_parts (test (tree_at few id)) (have_trees test few ids) have in
        and_from (test (tree_at more id)) (have_trees test more ids) (ap test (tree_stays few more ordered grows id below.0) ∙ parts.0) (each ids below.1 parts.1)

    go : (o : Option (List TyId)) → slice_get few.structs number ≡ o → have_trees test few (unwrap_or o []) ≡ true → have_trees test more (unwrap_or o []) ≡ true
    go None at have = refl
    go (Some ids) at have = each ids (ordered.members number ids at) have

-- ---- one more type

pub all_below : (m n : ℕ) → m ≤ n → (ids : List TyId) → AllBelow m ids → AllBelow n ids
all_below m n le [] h = tt
all_below m n le (id ∷ ids) h = (omega (arith, le, h.0), all_below m n le ids h.1)

-- what parts are below says nothing of the types beside it
parts_beside : (table : Types) (types : List Ty) (n : ℕ) (t : Ty) → HasPartsBelow table n t → HasPartsBelow (record table { types = types }) n t
parts_beside table types n (ty.Struct number) h = record { members = h.members; there = h.there; below = h.below }
parts_beside table types n _ h = h

-- the type at the end, or one before it
pushed_at : (xs : List Ty) (t : Ty) (n : ℕ) (u : Ty) → slice_get (xs ++ t ∷ []) n ≡ Some u → (slice_get xs n ≡ Some u) ⊎ ((n ≡ length xs) × (u ≡ t))
pushed_at [] t zero u at = inr (refl, sym (same_Some t u at))
pushed_at [] t (suc n) u at = absurd (none-some u at)
pushed_at (x ∷ xs) t zero u at = inl at
pushed_at (x ∷ xs) t (suc n) u at = elim (pushed_at xs t n u at) [ inl before ↦ inl before | inr last ↦ inr (ap suc last.0, last.1) ]

-- the parts of a type that comes in are there before it
abbrev pub HasPartsIn : Types → Ty → Type 0
HasPartsIn table t = IsOrdered table → HasPartsBelow table (length table.types) t

module _ (table : Types) (t : Ty) (within : HasPartsIn table t) where
  pushed_ordered : IsOrdered table → IsOrdered (record table { types = table.types ++ t ∷ [] })
  pushed_ordered h = record {
    parts = λ n u at. elim (pushed_at table.types t n u at) [
      | inl before ↦ parts_beside table (table.types ++ t ∷ []) n u (h.parts n u before)
      | inr last ↦ parts_beside table (table.types ++ t ∷ []) n u (subst (λ (v : Ty). HasPartsBelow table n v) (sym last.1) (subst (λ (m : ℕ). HasPartsBelow table m t) (sym last.0) (within h)))
    ];
    members = λ n ids at. all_below (length table.types) (length (table.types ++ t ∷ [])) (omega (arith, length-append table.types (t ∷ []))) ids (h.members n ids at);
  }

  pub type_ordered : KeepsOrder table (record table { types = with_type table.types t })
  type_ordered = record { structs = refl; ordered = λ h. go (list_any (compared.eq t) table.types) h; once = once_with table t }
    where
      go : (b : Bool) → IsOrdered table → IsOrdered (record table { types = if b then table.types else table.types ++ t ∷ [] })
      go true h = h
      go false h = pushed_ordered h
