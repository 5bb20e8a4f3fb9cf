-- Structs, from one member on.
use Rattle.std.proofs.Common.{◌≡◌, true, List, [], ◌∷◌, refl}
use Rattle.life_types.specs.Trees.{TypeTree, struct_of}
use Rattle.life_types.specs.declared.ty.TyId.{TyId}
use Rattle.life_proper.specs.WellFormedPrograms.{is_member}

-- a struct may be a member
pub struct_is_member : (part : TyId → TypeTree) (ids : List TyId) → is_member (struct_of part ids) ≡ true
struct_is_member part [] = refl
struct_is_member part (id ∷ ids) = refl
