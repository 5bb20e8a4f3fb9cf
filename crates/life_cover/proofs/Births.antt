-- An object that comes to life is new, and what is owned by others stays untouched.
use Rattle.std.proofs.Common.{◌≡◌, ℕ, suc, ◌≤◌, [], ◌∷◌, Option, Some, refl, ap, subst, arith}
use Rattle.life_types.specs.Trees.{IsOrdered}
use Rattle.life_types.specs.Types.{Types}
use Rattle.life_types.specs.declared.ty.TyId.{TyId}
use Rattle.life_core.specs.declared.instr.Form.{Form}
use Rattle.life_store.specs.Births.{with_value_object}
use Rattle.life_store.specs.Cells.{at, at-set_same}
use Rattle.life_store.specs.Content.{Object, Content, newborn, with_birth}
use Rattle.life_store.specs.Effects.{Setting}
use Rattle.life_store.specs.Held.{resized_if}
use Rattle.life_store.specs.Owners.{fresh, object_with}
use Rattle.life_store.specs.Parts.{parts_at}
use Rattle.life_forest.specs.Forest.{Touches}
use Rattle.life_forest.specs.Kinds.{kinds_of, rank_of}
use Rattle.life_forest.specs.Typed.{IsStore}
use Rattle.life_forest.proofs.Coming.{Came, IfGot, came_touches, fresh_came}
use Rattle.life_forest.proofs.Copying.{sized_is}
use Rattle.life_forest.proofs.Counting.{one_same}
use Rattle.life_forest.proofs.Laying.{laid_at}
use Rattle.life_forest.proofs.Objects.{object_came}
use Rattle.life_forest.proofs.Stores.{if_such}
use Rattle.life_cover.proofs.Unkilled.{no_foot}

-- an object behind its birth is at or past all that were born, and none of these is touched
abbrev pub IsNew : Types → Content → ℕ × Content → Type 0
IsNew types c b = (c.births ≤ b.0) × Touches (kinds_of types) no_foot c b.1

module _ (types : Types) (ordered : IsOrdered types) (hand : ℕ → ℕ) (c : Content) (store : IsStore types hand c) (ty : TyId) where
  -- a value
  pub value_touches : Touches (kinds_of types) no_foot c (with_value_object ty c)
  value_touches =
      subst (Touches (kinds_of types) no_foot c) (ap (λ (o : Option Object). resized_if o c.births 1 0 (with_birth ty 1 1 c)) there)
      (came_touches (kinds_of types) no_foot (suc (rank_of types ty)) hand (c.births ∷ []) c _ (sized_is (kinds_of types) (suc (rank_of types ty)) hand ty 1 1 1 c (omega arith) store.forest).came)
    where
      there : at (with_birth ty 1 1 c).objects c.births ≡ Some (newborn ty 1 1 c.clock)
      there = at-set_same c.objects c.births c.births (newborn ty 1 1 c.clock) refl

  -- an owner or a struct
  pub owner_new : (s : Setting) (form : Form) → IfGot (object_with s ty (parts_at types ty) (fresh s form (parts_at types ty)) c) (IsNew types c)
  owner_new s form =
      if_such (object_with s ty (parts_at types ty) (fresh s form (parts_at types ty)) c) (λ b. Came (kinds_of types) (suc (rank_of types ty)) hand (b.0 ∷ []) c b.1) (IsNew types c)
      (object_came (kinds_of types) ty (parts_at types ty) (λ u. refl) s (suc (rank_of types ty)) (fresh s form (parts_at types ty)) (omega arith)
      (λ h d forest. fresh_came (kinds_of types) s form (parts_at types ty) (rank_of types ty) (laid_at types ordered ty) h d forest) hand c store.forest)
      (λ b came. (came.fresh b.0 (let e = one_same b.0 b.0 refl in omega (arith, e)), came_touches (kinds_of types) no_foot (suc (rank_of types ty)) hand (b.0 ∷ []) c b.1 came))
