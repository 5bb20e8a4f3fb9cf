-- The parts of a type: those of its own parts, whose types are lesser.
use Rattle.std.proofs.Common.{◌≡◌, ℕ, zero, suc, ◌≤◌, ◌<◌, List, [], ◌∷◌, length, Option, Some, None, refl, sym, ap, arith}
use Rattle.std.specs.Prelude.{slice_get}
use Rattle.life_types.specs.declared.ty.Ty.{Ty}
use Rattle.life_types.specs.declared.ty.Ty.TheVariants as ty
use Rattle.life_types.specs.declared.ty.TyId.{TyId}
use Rattle.life_types.specs.Trees.{members_at, AllBelow, HasMembersBelow, HasPartsBelow, IsOrdered}
use Rattle.life_types.specs.Types.{Types}
use Rattle.life_store.specs.Parts.{Parts, Single, Raw, Iterates, Views, Text, Vector, Unique, Member, NoMember, parts_at, parts_of, parts_within, struct_of, width}
use Rattle.life_forest.specs.Kinds.{kinds_of, owned_type, rank_if, rank_of}
use Rattle.life_store.specs.Kinds.{kind_in}
use Rattle.life_forest.specs.Values.{Laid, Named}

-- ---- one step

same_struct : (f g : TyId → Parts) (n : ℕ) (ids : List TyId) → AllBelow n ids → ((id : TyId) → id.0 < n → f id ≡ g id) → struct_of g ids ≡ struct_of f ids
same_struct f g n [] below same = refl
same_struct f g n (id ∷ ids) below same = rw (same id below.0, same_struct f g n ids below.1 same) refl

module _ (types : Types) (f g : TyId → Parts) (n : ℕ) (same : (id : TyId) → id.0 < n → f id ≡ g id) where
  same_members : (number : ℕ) → HasMembersBelow types n number → struct_of g (members_at types number) ≡ struct_of f (members_at types number)
  same_members number h = rw (h.there) (same_struct f g n h.members h.below same)

  same_parts : (t : Ty) → HasPartsBelow types n t → parts_of types g (Some t) ≡ parts_of types f (Some t)
  same_parts (ty.Vector element) below = rw (same element below) refl
  same_parts (ty.Unique target) below = rw (same target below) refl
  same_parts (ty.Struct number) below = same_members number below
  same_parts _ below = refl

-- ---- a number is deep enough

module _ (types : Types) (ordered : IsOrdered types) where
  enough : (m n : ℕ) (id : TyId) → id.0 < m → id.0 < n → parts_within m types id ≡ parts_within n types id
  enough zero n id deep deep' = absurd (omega arith)
  enough (suc m) zero id deep deep' = absurd (omega arith)
  enough (suc m) (suc n) id deep deep' = go (λ part below. enough m n part (omega arith) (omega arith)) (slice_get types.types id.0) refl
    where
      go : ((part : TyId) → part.0 < id.0 → parts_within m types part ≡ parts_within n types part) → (o : Option Ty) → slice_get types.types id.0 ≡ o
          → parts_of types (parts_within m types) o ≡ parts_of types (parts_within n types) o
      go same None e = refl
      go same (Some t) e = same_parts types (parts_within n types) (parts_within m types) id.0 (λ part below. sym (same part below)) t (ordered.parts id.0 t e)

  -- the parts of a type are made of the parts of its own parts
  pub parts_made : (id : TyId) → parts_at types id ≡ parts_of types (parts_at types) (slice_get types.types id.0)
  parts_made id = go (slice_get types.types id.0) refl
    where
      go : (o : Option Ty) → slice_get types.types id.0 ≡ o → parts_of types (parts_within id.0 types) o ≡ parts_of types (parts_at types) o
      go None e = refl
      go (Some t) e = same_parts types (parts_at types) (parts_within id.0 types) id.0 (λ part below. enough (suc part.0) id.0 part (omega arith) below) t (ordered.parts id.0 t e)

  -- ---- what is owned has a lesser type, with just these parts

  abbrev pub IsMade : ℕ → Parts → Type 0
  IsMade bound Single = Unit {0}
  IsMade bound Raw = Unit {0}
  IsMade bound Iterates = Unit {0}
  IsMade bound Views = Unit {0}
  IsMade bound (Text id) = (rank_of types id < bound) × (parts_at types id ≡ Single)
  IsMade bound (Vector id element) = (rank_of types id < bound) × (parts_at types id ≡ element) × IsMade (rank_of types id) element
  IsMade bound (Unique id target) = (rank_of types id < bound) × (parts_at types id ≡ target) × IsMade (rank_of types id) target
  IsMade bound (Member first others) = IsMade bound first × IsMade bound others
  IsMade bound NoMember = Unit {0}

  pub none_behind : {A : Type 0} (xs : List A) → slice_get xs (length xs) ≡ None
  none_behind [] = refl
  none_behind (x ∷ xs) = none_behind xs

  rank_le : (id : TyId) → rank_of types id ≤ suc id.0
  rank_le id = go (slice_get types.types id.0)
    where
      go : (o : Option Ty) → rank_if id.0 o ≤ suc id.0
      go None = omega arith
      go (Some t) = omega arith

  -- by the parts of each part
  module _ (bound n : ℕ) (id : TyId) (t : Ty) (e : slice_get types.types id.0 ≡ Some t) (deep : id.0 < suc n) (high : rank_of types id ≤ bound)
      (each : (b : ℕ) (part : TyId) → part.0 < id.0 → rank_of types part ≤ b → IsMade b (parts_within n types part)) where
    rank_is : rank_of types id ≡ suc id.0
    rank_is = ap (rank_if id.0) e

    struct_made : (ids : List TyId) → AllBelow id.0 ids → IsMade bound (struct_of (parts_within n types) ids)
    struct_made [] below = tt
    struct_made (x ∷ xs) below = (each bound x below.0 (let l = rank_le x in let r = rank_is in let b = below.0 in omega arith), struct_made xs below.1)

    type_made : (u : Ty) → HasPartsBelow types id.0 u → IsMade bound (parts_of types (parts_within n types) (Some u))
    type_made ty.Text below = (
      (let c = ap (rank_if (length types.types)) (none_behind types.types) in let r = rank_is in omega arith),
      ap (parts_of types (parts_within (length types.types) types)) (none_behind types.types),
    )
    type_made (ty.Vector element) below = (
      (let l = rank_le element in let r = rank_is in omega arith),
      enough (suc element.0) n element (omega arith) (omega arith),
      each (rank_of types element) element below (omega arith),
    )
    type_made (ty.Unique target) below = (
      (let l = rank_le target in let r = rank_is in omega arith),
      enough (suc target.0) n target (omega arith) (omega arith),
      each (rank_of types target) target below (omega arith),
    )
    type_made (ty.Struct number) below = rw (below.there) (struct_made below.members below.below)
    type_made _ below = tt

  made_within : (n bound : ℕ) (id : TyId) → id.0 < n → rank_of types id ≤ bound → IsMade bound (parts_within n types id)
  made_within zero bound id deep high = absurd (omega arith)
  made_within (suc n) bound id deep high = go (λ b part below le. made_within n b part (omega arith) le) (slice_get types.types id.0) refl
    where
      go : ((b : ℕ) (part : TyId) → part.0 < id.0 → rank_of types part ≤ b → IsMade b (parts_within n types part)) → (o : Option Ty) → slice_get types.types id.0 ≡ o → IsMade bound (parts_of types (parts_within n types) o)
      go each None e = tt
      go each (Some t) e = type_made bound n id t e deep high each t (ordered.parts id.0 t e)

  pub made_at : (id : TyId) → IsMade (rank_of types id) (parts_at types id)
  made_at id = made_within (suc id.0) (rank_of types id) id (omega arith) (omega arith)

  pub laid_from : (bound : ℕ) (p : Parts) → IsMade bound p → Laid (kinds_of types) bound p
  laid_from bound Single made = tt
  laid_from bound Raw made = tt
  laid_from bound Iterates made = tt
  laid_from bound Views made = tt
  laid_from bound (Text id) made = (made.0, λ u. ap (λ p. kind_in p u) made.1)
  laid_from bound (Vector id element) made = (made.0, (λ u. ap (λ p. kind_in p u) made.1), laid_from (rank_of types id) element made.2)
  laid_from bound (Unique id target) made = (made.0, (λ u. ap (λ p. kind_in p u) made.1), laid_from (rank_of types id) target made.2)
  laid_from bound (Member first others) made = (laid_from bound first made.0, laid_from bound others made.1)
  laid_from bound NoMember made = tt

  -- so of each type of the table
  pub laid_at : (id : TyId) → Laid (kinds_of types) (rank_of types id) (parts_at types id)
  laid_at id = laid_from (rank_of types id) (parts_at types id) (made_at id)

  pub named_from : (bound : ℕ) (p : Parts) → IsMade bound p → Named (kinds_of types) p
  named_from bound Single made = tt
  named_from bound Raw made = tt
  named_from bound Iterates made = tt
  named_from bound Views made = tt
  named_from bound (Text id) made = (ap width made.1, λ u. ap (λ p. owned_type p u) made.1)
  named_from bound (Vector id element) made = ((ap width made.1, λ u. ap (λ p. owned_type p u) made.1), named_from (rank_of types id) element made.2)
  named_from bound (Unique id target) made = ((ap width made.1, λ u. ap (λ p. owned_type p u) made.1), named_from (rank_of types id) target made.2)
  named_from bound (Member first others) made = (named_from bound first made.0, named_from bound others made.1)
  named_from bound NoMember made = tt

  pub named_at : (id : TyId) → Named (kinds_of types) (parts_at types id)
  named_at id = named_from (rank_of types id) (parts_at types id) (made_at id)
