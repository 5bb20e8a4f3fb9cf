-- Each type of a table stands once where it does so behind one more.
use Rattle.std.proofs.Common.{Bool, true, false, [], ◌∷◌, ◌++◌, if◌then◌else◌}
use Rattle.std.specs.List.{list_any}
use Rattle.life_types.specs.Types.{Types, HasEachOnce, with_type}
use Rattle.life_types.specs.contracts.ty.TyPartialEq.TheImpl.{ghosts as compared}
use Rattle.life_types.specs.declared.ty.Ty.{Ty}
use Rattle.life_types.proofs.TreeLemmas.{stays_in}

pub once_before : (table : Types) (t : Ty) → HasEachOnce (record table { types = with_type table.types t }) → HasEachOnce table
once_before table t = go (list_any (compared.eq t) table.types)
  where
    go : (b : Bool) → HasEachOnce (record table { types = if b then table.types else table.types ++ t ∷ [] }) → HasEachOnce table
    go true once = once
    go false once = λ m n u first second. once m n u (stays_in table.types (t ∷ []) m u first) (stays_in table.types (t ∷ []) n u second)
