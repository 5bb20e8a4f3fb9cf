-- A program has one table of sets.
use Rattle.std.proofs.Common.{◌≡◌, ◌<◌, ◌↔◌, ℕ, ◌+◌, Bool, true, false, IsTrue, List, [], ◌∷◌, ◌++◌, map, slice_get, refl, sym, ◌∙◌}
use Rattle.life_types.specs.Types.{Types}
use Rattle.life_core.specs.Function.{Function, Program}
use Rattle.life_core.specs.Linked.{code_of, points_of, spot_of_linked}
use Rattle.life_contract.specs.Signatures.{Signature, signatures_of}
use Rattle.life_pset.specs.Table.{table_of}
use Rattle.life_psets.specs.Sets.{SetAt, sets_at, AreFunctionSets, AreSets, AreSetsFrom}
use Rattle.life_psets.proofs.InTurn.{turn_same}

-- two tests of one thing
same_test : {P : Type 0} (a b : Bool) → IsTrue a ↔ P → IsTrue b ↔ P → a ≡ b
same_test true b first second = sym (second.1 (first.0 refl))
same_test false true first second = first.1 (second.0 refl)
same_test false false first second = refl

abbrev made : Types → ℕ → Function → (ℕ → ℕ → ℕ → Bool) → ℕ → List SetAt
made types function f held k = sets_at function (table_of types f) k (slice_get (map spot_of_linked (code_of f)) k) (held k)

one_function : (sigs : List Signature) (types : Types) (function : ℕ) (f : Function) (xs ys : List SetAt) → AreFunctionSets sigs types function f xs → AreFunctionSets sigs types function f ys → xs ≡ ys
one_function sigs types function f xs ys first second = first.are ∙ turn_same (made types function f first.held) (made types function f second.held) (points_of f) same ∙ sym second.are
  where
    same : (k : ℕ) → k < points_of f → made types function f first.held k ≡ made types function f second.held k
    same k lt = λ i. sets_at function (table_of types f) k (slice_get (map spot_of_linked (code_of f)) k) (λ l e. same_test (first.held k l e) (second.held k l e) (first.derived k l e lt) (second.derived k l e lt) i)

one_from : (sigs : List Signature) (types : Types) (n : ℕ) (fs : List Function) (xs ys : List SetAt) → AreSetsFrom sigs types n fs xs → AreSetsFrom sigs types n fs ys → xs ≡ ys
one_from sigs types n [] xs ys first second = first ∙ sym second
one_from sigs types n (f ∷ fs) xs ys first second =
    first.1.1.1.1
    ∙ (λ i. one_function sigs types n f first.0 second.0 first.1.1.0 second.1.1.0 i ++ one_from sigs types (n + 1) fs first.1.0 second.1.0 first.1.1.1.0 second.1.1.1.0 i)
    ∙ sym second.1.1.1.1

pub one_table : (p : Program) (xs ys : List SetAt) → AreSets p xs → AreSets p ys → xs ≡ ys
one_table p xs ys first second = one_from (signatures_of p.functions) p.types 0 p.functions xs ys first second
