-- What the words of each type are while they lie in a store.
use Rattle.std.specs.Prelude.{◌≡◌, ◌≤◌, ℕ, ◌+◌}
use Rattle.life_types.specs.Types.{Types}
use Rattle.life_types.specs.declared.ty.TyId.{TyId}
use Rattle.life_store.specs.Kinds.{Kind, Pointing, kind_in}
use Rattle.life_store.specs.Parts.{parts_at}

abbrev pub Kinds : Type 0
Kinds = TyId → ℕ → Kind

-- by a table of types. An owner's word is the row of what it owns, and 1, or 0.
abbrev pub kinds_of : Types → Kinds
kinds_of types id u = kind_in (parts_at types id) u

-- a pointer's five words lie one behind the other
abbrev pub AreWhole : (ℕ → Kind) → Type 0
AreWhole f = (u k : ℕ) → k ≤ 4 → f u ≡ Pointing 0 → f (u + k) ≡ Pointing k
