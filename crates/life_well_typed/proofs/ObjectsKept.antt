-- Types stay made of objects as the table grows.
use Rattle.std.proofs.Common.{◌≡◌, ⊎_elim, ◌<◌, true, false, Option, None, Some, List, [], ◌∷◌, ◌++◌, length, slice_get, refl, sym, ap, subst, ◌∙◌, unwrap_or}
use Rattle.std.proofs.lemmas.Option.{slice_get_within}
use Rattle.life_types.specs.Trees.{IsOrdered, TypeTree, is_plain}
use Rattle.life_types.specs.TypeTests.{is_reference, is_void}
use Rattle.life_types.specs.Types.{HasParts, HasType, HasTypes, Types}
use Rattle.life_types.specs.declared.ty.Ty.{Ty}
use Rattle.life_types.specs.declared.ty.Ty.TheVariants as ty
use Rattle.life_types.specs.declared.ty.TyId.{TyId}
use Rattle.life_types.proofs.TreeLemmas.{Grows, IsThere, grows_more, grows_struct, in_more, tree_stays, within}
use Rattle.life_typed.specs.BaseTypes.{type_at}
use Rattle.life_well_typed.specs.Tables.{AreMemberTypes, HasObjects, HasTarget, IsObject, IsPlainObject}

-- what isn't void is there
pub object_there : (types : Types) (id : TyId) → IsObject types id → HasType types id
object_there types id object = go (slice_get types.types id.0) refl object
  where
    go : (o : Option Ty) → slice_get types.types id.0 ≡ o → is_void (unwrap_or o ty.Void) ≡ false → id.0 < length types.types
    go None at object = absurd (cc)
    go (Some t) at object = slice_get_within types.types id.0 t at

module _ (old new : Types) (ordered : IsOrdered old) (grows : Grows old new) where
  type_stays : (id : TyId) → IsObject old id → type_at new id ≡ type_at old id
  type_stays id object =
      let found : IsThere old.types id.0 = within old.types id.0 (object_there old id object) in
      ap (λ (o : Option Ty). unwrap_or o ty.Void) (grows.types id.0 found.item found.there) ∙ sym (ap (λ (o : Option Ty). unwrap_or o ty.Void) found.there)

  pub object_stays : (id : TyId) → IsObject old id → IsObject new id
  object_stays id object = ap is_void (type_stays id object) ∙ object

  pub target_stays : (id : TyId) → IsPlainObject old id → IsPlainObject new id
  target_stays id target = record {
    object = object_stays id target.object;
    plain = subst (λ (t : TypeTree). is_plain t ≡ true) (sym (tree_stays old new ordered grows id (object_there old id target.object))) target.plain;
  }

  pub has_target_stays : (t : Ty) → HasTarget old t → HasTarget new t
  has_target_stays (ty.Vector element) has = target_stays element has
  has_target_stays (ty.Unique target) has = target_stays target has
  has_target_stays (ty.Raw target constant) has = target_stays target has
  has_target_stays (ty.Reference target constant) has = target_stays target has
  has_target_stays (ty.Iterator target constant) has = target_stays target has
  has_target_stays (ty.Span target constant) has = target_stays target has
  has_target_stays _ has = tt

  pub members_stay : (ids : List TyId) → AreMemberTypes old ids → AreMemberTypes new ids
  members_stay [] are = tt
  members_stay (id ∷ ids) are = (record { object = object_stays id are.0.object; value = ap is_reference (type_stays id are.0.object) ∙ are.0.value }, members_stay ids are.1)

-- one more type
pub objects_more : (table : Types) (t : Ty) → IsOrdered table → HasParts table t → HasTarget table t → HasObjects table → HasObjects (record { types = table.types ++ t ∷ []; structs = table.structs })
objects_more table t ordered there target objects = record {
  targets = λ n u e. ⊎_elim (λ old. has_target_stays table more ordered grows u (objects.targets n u old)) (λ last. subst (HasTarget more) last.1 (has_target_stays table more ordered grows t target)) (in_more table.types t n u e);
  members = λ n ids e. members_stay table more ordered grows ids (objects.members n ids e);
}
  where
    more : Types
    more = record { types = table.types ++ t ∷ []; structs = table.structs }

    grows : Grows table more
    grows = grows_more table ordered t there

-- one more struct
pub objects_struct : (table : Types) (ids : List TyId) → IsOrdered table → HasTypes table ids → AreMemberTypes table ids → HasObjects table → HasObjects (record { types = table.types; structs = table.structs ++ ids ∷ [] })
objects_struct table ids ordered there members objects = record {
  targets = λ n u e. has_target_stays table more ordered grows u (objects.targets n u e);
  members = λ n xs e. ⊎_elim (λ old. members_stay table more ordered grows xs (objects.members n xs old)) (λ last. subst (AreMemberTypes more) last.1 (members_stay table more ordered grows ids members)) (in_more table.structs ids n xs e);
}
  where
    more : Types
    more = record { types = table.types; structs = table.structs ++ ids ∷ [] }

    grows : Grows table more
    grows = grows_struct table ordered ids there
