-- What a table keeps with each type, so that no question about one walks through its parts.
use Rattle.std.specs.Prelude.{◌≡◌, ℕ, ◌+◌, ◌^◌, ◌<◌, ◌&&◌, ◌||◌, min, true, false, List, Some, length, map, slice_get}
use Rattle.std.specs.Map.{keys_of}
use Rattle.std.specs.declared.alloc.Global.{Global}
use Rattle.std.specs.declared.vec.Vec.{Vec}
use Rattle.life_types.specs.declared.facts.Facts.{Facts}
use Rattle.life_types.specs.declared.ty.Ty.{Ty}
use Rattle.life_types.specs.declared.ty.TyId.{TyId}
use Rattle.life_types.specs.Types.{Types}
use Rattle.life_types.specs.Trees.{TypeTree, is_plain, holds_owner, holds_unique, words, tree_at, IsOrdered}

-- the words of a type, or 2^48 where it has more
abbrev pub capped_words : TypeTree → ℕ
capped_words t = min (words t) (2 ^ 48)

abbrev pub facts : TypeTree → Facts
facts t = record { plain = is_plain t; owner = holds_owner t; unique = holds_unique t; words = capped_words t }

abbrev pub no_members : Facts
no_members = record { plain = true; owner = false; unique = false; words = 0 }

-- the facts of two members, or of two structs, together
abbrev pub together : Facts → Facts → Facts
together a b = record { plain = a.plain && b.plain; owner = a.owner || b.owner; unique = a.unique || b.unique; words = min (a.words + b.words) (2 ^ 48) }

abbrev pub ids_of : Vec TyId Global → List TyId
ids_of ids = ids.items

abbrev pub table_in : List (Ty × Facts) → List (Vec TyId Global) → Types
table_in types structs = record { types = keys_of types; structs = map ids_of structs }

-- the facts of each type are those of its tree
pub record IsKept (types : List (Ty × Facts)) (structs : List (Vec TyId Global)) : Type 0 where
  pub few_types : length types < 2 ^ 32
  pub few_structs : length structs < 2 ^ 32
  pub ordered : IsOrdered (table_in types structs)
  pub facts : (id : TyId) (t : Ty) (f : Facts) → slice_get types id.0 ≡ Some (t, f) → f ≡ facts (tree_at (table_in types structs) id)
