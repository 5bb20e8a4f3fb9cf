-- What each word of a value is, by the type: a value, an owner or a part of a pointer.
use Rattle.std.specs.Prelude.{ℕ, suc, Option, Some, None, slice_get}
use Rattle.life_types.specs.Types.{Types}
use Rattle.life_types.specs.declared.ty.Ty.{Ty}
use Rattle.life_types.specs.declared.ty.TyId.{TyId}
use Rattle.life_store.specs.Kinds.{Kind, row_behind, kind_in}
use Rattle.life_store.specs.Parts.{Parts, Single, Raw, Iterates, Views, Text, Vector, Unique, Member, NoMember, parts_at, width, width_at}

-- of each type: what its words are, how many it has, the type of what an owner's word owns, and how high it stands: above the types of
-- what its values own
pub record Kinds : Type 0 where
  pub word : TyId → ℕ → Kind
  pub width : TyId → ℕ
  pub owned : TyId → ℕ → Option TyId
  pub rank : TyId → ℕ

-- ---- by the parts of a type

-- the type of what an owner's word owns
abbrev pub owned_type : Parts → ℕ → Option TyId
owned_type Single u = None
owned_type Raw u = None
owned_type Iterates u = None
owned_type Views u = None
owned_type (Text ty) u = Some ty
owned_type (Vector ty element) u = Some ty
owned_type (Unique ty target) u = Some ty
owned_type (Member first others) u = row_behind (width first) (owned_type first) (owned_type others) u
owned_type NoMember u = None

-- ---- by a table of types

-- types stand in the order of their numbers, and characters, which the table doesn't have, below all
abbrev pub rank_if : ℕ → Option Ty → ℕ
rank_if n None = 0
rank_if n (Some t) = suc n

abbrev pub rank_of : Types → TyId → ℕ
rank_of types id = rank_if id.0 (slice_get types.types id.0)

abbrev pub kinds_of : Types → Kinds
kinds_of types = record {
  word = λ id u. kind_in (parts_at types id) u;
  width = width_at types;
  owned = λ id u. owned_type (parts_at types id) u;
  rank = rank_of types;
}
