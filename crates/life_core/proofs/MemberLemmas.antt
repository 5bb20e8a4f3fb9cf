-- The name of a struct's member.
use Rattle.std.proofs.Common.{◌≡◌, ℕ, zero, suc, ◌<◌, length, map, List, [], ◌∷◌, Some, slice_get, slice_index_or, Vec, Global, refl, arith}
use Rattle.life_types.specs.declared.ty.NameId.{NameId}
use Rattle.life_core.specs.Function.{HasMember, member_name, member_names}

pub struct_there : (all : List (Vec NameId Global)) (n m : ℕ) → HasMember (map member_names all) n m → n < length all
struct_there [] n m h = absurd h
struct_there (x ∷ xs) zero m h = omega arith
struct_there (x ∷ xs) (suc n) m h = let there = struct_there xs n m h in omega arith

pub member_there : (all : List (Vec NameId Global)) (n m : ℕ) (d : Vec NameId Global) → HasMember (map member_names all) n m → m < length (slice_index_or all n d).items
member_there [] n m d h = absurd h
member_there (x ∷ xs) zero m d h = h
member_there (x ∷ xs) (suc n) m d h = member_there xs n m d h

named : (xs : List NameId) (m : ℕ) (e : NameId) → m < length xs → slice_get xs m ≡ Some (slice_index_or xs m e)
named [] m e h = absurd (omega arith)
named (x ∷ xs) zero e h = refl
named (x ∷ xs) (suc m) e h = let within : m < length xs = omega arith in named xs m e within

pub member_is : (all : List (Vec NameId Global)) (n m : ℕ) (d : Vec NameId Global) (e : NameId) → HasMember (map member_names all) n m
    → member_name (map member_names all) n m ≡ Some (slice_index_or (slice_index_or all n d).items m e)
member_is [] n m d e h = absurd h
member_is (x ∷ xs) zero m d e h = named x.items m e h
member_is (x ∷ xs) (suc n) m d e h = member_is xs n m d e h
