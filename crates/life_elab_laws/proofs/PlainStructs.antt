-- Structs without pointers: they are what is plain, and so are their members.
use Rattle.std.proofs.Common.{◌≡◌, ℕ, zero, suc, Bool, true, List, [], ◌∷◌, slice_get, Option, Some, None, refl, sym, ap, ◌∙◌, subst, unwrap_or}
use Rattle.std.specs.Prelude.{◌&&◌}
use Rattle.std.proofs.lemmas.Bool.{and_parts, false≢true}
use Rattle.std.proofs.lemmas.Option.{none-some, same_Some}
use Rattle.life_types.proofs.TreeLemmas.{tree_made}
use Rattle.life_types.specs.Trees.{IsOrdered, is_plain, members_at, struct_of, tree_at, tree_of}
use Rattle.life_types.specs.TypeTests.{is_unique}
use Rattle.life_types.specs.Types.{Types}
use Rattle.life_types.specs.declared.ty.Ty.{Ty}
use Rattle.life_types.specs.declared.ty.Ty.TheVariants as ty
use Rattle.life_types.specs.declared.ty.TyId.{TyId}
use Rattle.life_elab_laws.proofs.ObjectTypes.{are_plain, is_plain_struct}
use Rattle.life_typed.specs.BaseTypes.{type_at}
use Rattle.life_elab_laws.proofs.Locations.{is_location}

module _ (types : Types) (ordered : IsOrdered types) where
  -- the tree of a type that isn't void
  pub as_type : (id : TyId) (t : Ty) → (t ≡ ty.Void → ⊥) → type_at types id ≡ t → tree_at types id ≡ tree_of types (tree_at types) (Some t)
  as_type id t some is = tree_made types ordered id ∙ go (slice_get types.types id.0) is
    where
      go : (o : Option Ty) → unwrap_or o ty.Void ≡ t → tree_of types (tree_at types) o ≡ tree_of types (tree_at types) (Some t)
      go None e = absurd (some (sym e))
      go (Some u) e = ap (λ (u : Ty). tree_of types (tree_at types) (Some u)) e

  pub void_struct : (number : ℕ) → ty.Struct number ≡ ty.Void → ⊥
  void_struct number e = cc

  members_plain : (ids : List TyId) → is_plain (struct_of (tree_at types) ids) ≡ are_plain types ids
  members_plain [] = refl
  members_plain (id ∷ ids) = ap (λ (b : Bool). is_plain (tree_at types id) && b) (members_plain ids)

  pub struct_plain : (id : TyId) (number : ℕ) → type_at types id ≡ ty.Struct number → is_plain (tree_at types id) ≡ is_plain_struct types (ty.Struct number)
  struct_plain id number is = ap is_plain (as_type id (ty.Struct number) (void_struct number) is) ∙ members_plain (members_at types number)

  -- ---- a member of one is no pointer, and has none

  member_plain : (ids : List TyId) (m : ℕ) (id : TyId) → are_plain types ids ≡ true → slice_get ids m ≡ Some id → is_plain (tree_at types id) ≡ true
  member_plain [] m id plain at = absurd (none-some id at)
  member_plain (x ∷ ids) zero id plain at = subst (λ (y : TyId). is_plain (tree_at types y) ≡ true) (same_Some x id at) (and_parts (is_plain (tree_at types x)) (are_plain types ids) plain).0
  member_plain (x ∷ ids) (suc m) id plain at = member_plain ids m id (and_parts (is_plain (tree_at types x)) (are_plain types ids) plain).1 at

  pub no_pointer_in : (number m : ℕ) (id : TyId) → slice_get (members_at types number) m ≡ Some id → is_plain_struct types (ty.Struct number) ≡ true → is_location (type_at types id) ≡ true → ⊥
  no_pointer_in number m id at pointless loc = go (slice_get types.types id.0) loc (ap is_plain (sym (tree_made types ordered id)) ∙ member_plain (members_at types number) m id pointless at)
    where
      go : (o : Option Ty) → is_location (unwrap_or o ty.Void) ≡ true → is_plain (tree_of types (tree_at types) o) ≡ true → ⊥
      go (Some (ty.Raw target constant)) loc plain = false≢true plain
      go (Some ty.View) loc plain = false≢true plain
      go (Some (ty.Iterator item constant)) loc plain = false≢true plain
      go (Some (ty.Span item constant)) loc plain = false≢true plain
      go _ loc plain = false≢true loc

  -- .. nor does it hold a unique_ptr
  pub no_unique_in : (number m : ℕ) (id : TyId) → slice_get (members_at types number) m ≡ Some id → is_plain_struct types (ty.Struct number) ≡ true → is_unique (type_at types id) ≡ true → ⊥
  no_unique_in number m id at pointless unique = go (slice_get types.types id.0) unique (ap is_plain (sym (tree_made types ordered id)) ∙ member_plain (members_at types number) m id pointless at)
    where
      go : (o : Option Ty) → is_unique (unwrap_or o ty.Void) ≡ true → is_plain (tree_of types (tree_at types) o) ≡ true → ⊥
      go (Some (ty.Unique target)) unique plain = false≢true plain
      go _ unique plain = false≢true unique

  pub plain_within : (number m : ℕ) (id : TyId) (which : ℕ) → slice_get (members_at types number) m ≡ Some id → type_at types id ≡ ty.Struct which → is_plain_struct types (ty.Struct number) ≡ true → is_plain_struct types (ty.Struct which) ≡ true
  plain_within number m id which at is pointless = sym (struct_plain id which is) ∙ member_plain (members_at types number) m id pointless at
