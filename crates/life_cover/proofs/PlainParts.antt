-- No word of a value without pointers is a pointer's, nor of one that follows it.
use Rattle.std.proofs.Common.{◌≡◌, ⊎_elim, ℕ, zero, suc, ◌+◌, ◌<◌, sym, subst, ◌∙◌, arith}
use Rattle.life_store.specs.Kinds.{Pointing, kind_in}
use Rattle.life_store.specs.Parts.{Parts, Single, Raw, Iterates, Views, Text, Vector, Unique, Member, NoMember, width}
use Rattle.life_forest.proofs.Begins.{behind, in_front, row_cases}
use Rattle.life_forest.proofs.PlainTypes.{HasNoPointer}
use Rattle.life_forest.proofs.WrittenPointers.{IsNoPointer}

pub plain_none : (p : Parts) → HasNoPointer p → (u j : ℕ) → kind_in p u ≡ Pointing j → ⊥
plain_none Single free u j e = cc
plain_none Raw free u j e = free 0 (omega arith)
plain_none Iterates free u j e = free 0 (omega arith)
plain_none Views free u j e = free 0 (omega arith)
plain_none (Text id) free zero j e = cc
plain_none (Text id) free (suc u) j e = cc
plain_none (Vector id element) free zero j e = cc
plain_none (Vector id element) free (suc u) j e = cc
plain_none (Unique id target) free zero j e = cc
plain_none (Unique id target) free (suc u) j e = cc
plain_none (Member first others) free u j e =
    ⊎_elim (λ h. plain_none first (λ v lt. front v lt) u j (sym h.1 ∙ e)) (λ h. plain_none others (λ v lt. back v lt) h.0 j (sym h.2 ∙ e)) (row_cases (width first) (kind_in first) (kind_in others) u)
  where
    front : (v : ℕ) → v < width first → IsNoPointer (kind_in first v)
    front v lt = subst IsNoPointer (in_front (width first) (kind_in first) (kind_in others) v lt) (free v (omega (arith, lt)))

    back : (v : ℕ) → v < width others → IsNoPointer (kind_in others v)
    back v lt = subst IsNoPointer (behind (width first) (kind_in first) (kind_in others) v (width first + v) (omega arith)) (free (width first + v) (omega (arith, lt)))
plain_none NoMember free u j e = cc
