-- What is kept of the paths into each type of a table, so that no type is walked through twice.
use Rattle.std.specs.Prelude.{◌≡◌, ℕ, ◌+◌, ◌<◌, Bool, nat_lt, max, min, List, [], ◌∷◌, slice_get, unwrap_or}
use Rattle.life_types.specs.Trees.{TypeTree, members_at, tree_at}
use Rattle.life_types.specs.Types.{Types}
use Rattle.life_types.specs.declared.ty.Ty.{Ty}
use Rattle.life_types.specs.declared.ty.Ty.TheVariants as ty
use Rattle.life_types.specs.declared.ty.TyId.{TyId}
use Rattle.life_elab.specs.Paths.{longest, longest_behind}
use Rattle.life_elab.specs.declared.paths.Paths.{Paths}

-- nine stands for all that is more than a path may have
abbrev pub capped : ℕ → ℕ
capped n = min n 9

abbrev pub kept : TypeTree → Paths
kept t = record { own = capped (longest t); behind = capped (longest_behind t) }

-- ---- what is made of what was kept of the parts

abbrev pub none : Paths
none = record { own = 0; behind = 0 }

abbrev pub kept_at : List Paths → TyId → Paths
kept_at all id = unwrap_or (slice_get all id.0) none

-- one step more
abbrev pub one_more : ℕ → ℕ
one_more n = capped (1 + n)

-- an owner of this, and a pointer to it
abbrev pub owning : Paths → Paths
owning p = record { own = one_more p.own; behind = 0 }

abbrev pub pointing : Paths → Paths
pointing p = record { own = 0; behind = p.own }

-- some members, and one more
abbrev pub with_member : (others member : Paths) → Paths
with_member others member = record { own = max others.own (one_more member.own); behind = max others.behind member.behind }

abbrev pub of_members_from : List Paths → Paths → List TyId → Paths
of_members_from all others [] = others
of_members_from all others (id ∷ ids) = of_members_from all (with_member others (kept_at all id)) ids

abbrev pub of_members : List Paths → List TyId → Paths
of_members all ids = of_members_from all none ids

abbrev pub of_type : Types → List Paths → Ty → Paths
of_type types all ty.Text = record { own = 1; behind = 0 }
of_type types all (ty.Vector element) = owning (kept_at all element)
of_type types all (ty.Unique target) = owning (kept_at all target)
of_type types all (ty.Raw target constant) = pointing (kept_at all target)
of_type types all (ty.Reference target constant) = pointing (kept_at all target)
of_type types all (ty.Iterator target constant) = pointing (kept_at all target)
of_type types all (ty.Span target constant) = pointing (kept_at all target)
of_type types all (ty.Struct number) = of_members all (members_at types number)
of_type types all _ = none

-- a path has eight steps at most
abbrev pub is_long : ℕ → Bool
is_long n = nat_lt 8 n

-- ---- a table

-- the types with smaller numbers than n have what is kept of them
abbrev pub AreKept : Types → ℕ → List Paths → Type 0
AreKept types n all = (id : TyId) → id.0 < n → kept_at all id ≡ kept (tree_at types id)

-- .. and so has each number
abbrev pub AreAllKept : Types → List Paths → Type 0
AreAllKept types all = (id : TyId) → kept_at all id ≡ kept (tree_at types id)
