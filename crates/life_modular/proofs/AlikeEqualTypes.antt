-- Types that are equal are so under new numbers too, where what has two numbers keeps two.
use Rattle.std.proofs.Common.{◌≡◌, Bool, true, false, refl, ap, ap₂, rules}
use Rattle.std.proofs.lemmas.Bool.{both_ways}
use Rattle.life_types.specs.Types.{Types}
use Rattle.life_types.specs.contracts.ty.TyPartialEq.TheImpl.{ghosts as type}
use Rattle.life_types.specs.declared.ty.Ty.{Ty}
use Rattle.life_types.specs.declared.ty.Ty.TheVariants as ty
use Rattle.life_types.specs.declared.ty.TyId.{TyId}
use Rattle.life_modular.specs.Renumbering.{Renumbering, renumbered_type}
use Rattle.life_modular.specs.Vocabulary.{Vocabulary, HasPartsIn, HaveAlike}

-- the comparison says whether types are the same
same_types : (t u : Ty) → type.eq t u ≡ true → t ≡ u
same_types t u e = search rules

equal_types : (t u : Ty) → t ≡ u → type.eq t u ≡ true
equal_types t u e = search rules

module _ {v : Vocabulary} {new : Renumbering} {these those : Types} (alike : HaveAlike v new these those) where
  -- types that became the same were the same
  same_renumbered : (t u : Ty) → HasPartsIn v t → HasPartsIn v u → renumbered_type new t ≡ renumbered_type new u → t ≡ u
  same_renumbered ty.Void ty.Void one other same = refl
  same_renumbered ty.Bool ty.Bool one other same = refl
  same_renumbered ty.Char ty.Char one other same = refl
  same_renumbered ty.Int ty.Int one other same = refl
  same_renumbered ty.Long ty.Long one other same = refl
  same_renumbered ty.Size ty.Size one other same = refl
  same_renumbered ty.Text ty.Text one other same = refl
  same_renumbered ty.View ty.View one other same = refl
  same_renumbered (ty.Vector a) (ty.Vector b) one other same = ap ty.Vector (alike.apart a b one other (cc))
  same_renumbered (ty.Unique a) (ty.Unique b) one other same = ap ty.Unique (alike.apart a b one other (cc))
  same_renumbered (ty.Raw a c) (ty.Raw b d) one other same = ap₂ (λ (id : TyId) (constant : Bool). ty.Raw id constant) (alike.apart a b one other (cc)) (cc)
  same_renumbered (ty.Reference a c) (ty.Reference b d) one other same = ap₂ (λ (id : TyId) (constant : Bool). ty.Reference id constant) (alike.apart a b one other (cc)) (cc)
  same_renumbered (ty.Iterator a c) (ty.Iterator b d) one other same = ap₂ (λ (id : TyId) (constant : Bool). ty.Iterator id constant) (alike.apart a b one other (cc)) (cc)
  same_renumbered (ty.Span a c) (ty.Span b d) one other same = ap₂ (λ (id : TyId) (constant : Bool). ty.Span id constant) (alike.apart a b one other (cc)) (cc)
  same_renumbered (ty.Struct a) (ty.Struct b) one other same = ap ty.Struct (alike.structs_apart a b one other (cc))
  same_renumbered _ _ one other same = absurd (cc)

  -- types compare under new numbers as they did
  pub type_eq_same : (t u : Ty) → HasPartsIn v t → HasPartsIn v u → type.eq (renumbered_type new t) (renumbered_type new u) ≡ type.eq t u
  type_eq_same t u one other = go (type.eq (renumbered_type new t) (renumbered_type new u)) (type.eq t u) refl refl
    where
      go : (after before : Bool) → type.eq (renumbered_type new t) (renumbered_type new u) ≡ after → type.eq t u ≡ before → after ≡ before
      go true true is was = refl
      go true false is was =
          absurd (both_ways (type.eq t u) was (equal_types t u (same_renumbered t u one other (same_types (renumbered_type new t) (renumbered_type new u) is))))
      go false true is was =
          absurd (both_ways (type.eq (renumbered_type new t) (renumbered_type new u)) is (equal_types (renumbered_type new t) (renumbered_type new u) (ap (renumbered_type new) (same_types t u was))))
      go false false is was = refl
