-- A run begins with a store, and what may not be isn't one: worked out by hand.
use Rattle.std.proofs.Common.{◌≡◌, ℕ, ◌<◌, false, [], ◌∷◌, Some, None, refl, sym, ◌∙◌, arith}
use Rattle.life_types.specs.Types.{Types}
use Rattle.life_types.specs.declared.ty.Ty.TheVariants as variant
use Rattle.life_types.specs.declared.ty.TyId.{TyId}
use Rattle.life_store.specs.Cells.{at-none}
use Rattle.life_store.specs.Content.{Object, Content, empty_content}
use Rattle.life_store.specs.Parts.{parts_at}
use Rattle.life_store.proofs.CellLemmas.{none_some}
use Rattle.life_store.proofs.MapLemmas.{sum-none}
use Rattle.life_forest.specs.Kinds.{kinds_of, owned_type, rank_of}
use Rattle.life_store.specs.Kinds.{Plain, Owner, Pointing, kind_in}
use Rattle.life_forest.specs.Owned.{every, owns, owns_at}
use Rattle.life_forest.specs.Typed.{IsStore}
use Rattle.life_forest.proofs.Apart.{one_owner}

-- the content that a run begins with
pub empty_store : (types : Types) → IsStore types (λ k. 0) empty_content
empty_store types = record {
  forest = record {
    held = λ k. let s = sum-none (λ (o : Object). owns (kinds_of types) every o k) in omega arith;
    lower = λ n m o q there own below. absurd (none_some (sym (at-none n) ∙ there));
    slots = λ n o there. absurd (none_some (sym (at-none n) ∙ there));
    ends = λ n o there. absurd (none_some (sym (at-none n) ∙ there));
    births = λ n o there. absurd (none_some (sym (at-none n) ∙ there));
  };
  fit = λ n o there. absurd (none_some (sym (at-none n) ∙ there));
}

-- no two objects own one
two_owners : (types : Types) (hand : ℕ → ℕ) (c : Content) (k : ℕ) → IsStore types hand c → 0 < owns_at (kinds_of types) c every 1 k → 0 < owns_at (kinds_of types) c every 2 k → ⊥
two_owners types hand c k store a b = let e = one_owner (kinds_of types) hand c 1 2 k store.forest a b in omega (arith, e)

-- ---- the words of a struct: 0 int, 1 std::vector<int>, 2 int*, 3 std::string, 4 struct { std::vector<int> v; int* p; std::string s; }

abbrev id : ℕ → TyId
id n = record { 0 = n }

abbrev table : Types
table = record {
  types = variant.Int ∷ variant.Vector (id 0) ∷ variant.Raw (id 0) false ∷ variant.Text ∷ variant.Struct 0 ∷ [];
  structs = (id 1 ∷ id 2 ∷ id 3 ∷ []) ∷ [];
}

-- an owner, a pointer of five words, and an owner
words : (kind_in (parts_at table (id 4)) 0 ≡ Owner) × (kind_in (parts_at table (id 4)) 1 ≡ Pointing 0) × (kind_in (parts_at table (id 4)) 5 ≡ Pointing 4) × (kind_in (parts_at table (id 4)) 6 ≡ Owner) × (kind_in (parts_at table (id 4)) 7 ≡ Plain)
words = (refl, refl, refl, refl, refl)

-- the vector's buffer is of ints, and the string's of characters, whose number the table doesn't have
owned : (owned_type (parts_at table (id 4)) 0 ≡ Some (id 0)) × (owned_type (parts_at table (id 4)) 3 ≡ None) × (owned_type (parts_at table (id 4)) 6 ≡ Some (id 5))
owned = (refl, refl, refl)

-- .. which are of lesser types
ranks : (rank_of table (id 4) ≡ 5) × (rank_of table (id 0) ≡ 1) × (rank_of table (id 5) ≡ 0)
ranks = (refl, refl, refl)
