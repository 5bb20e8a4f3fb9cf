-- The points of a tree stand together in the code of a function.
use Rattle.std.proofs.Common.{◌≡◌, ◌<◌, ℕ, suc, ◌+◌, List, [], ◌∷◌, ◌++◌, length, Some, ap, subst, ◌∙◌, arith, append_assoc, length-append}
use Rattle.std.proofs.Math.Seq.{get_or-append_seam}
use Rattle.std.proofs.lemmas.Option.{slice_get-get_or}
use Rattle.life_core.specs.Linked.{Linked, numbered}

-- these points stand in the code from this number on
abbrev pub HasAt : List Linked → ℕ → List Linked → Type 0
HasAt code b [] = Unit {0}
HasAt code b (p ∷ ps) = (numbered code b ≡ Some p) × HasAt code (b + 1) ps

pub has_front : (code : List Linked) (b : ℕ) (ps qs : List Linked) → HasAt code b (ps ++ qs) → HasAt code b ps
has_front code b [] qs h = tt
has_front code b (p ∷ ps) qs h = (h.0, has_front code (b + 1) ps qs h.1)

pub has_back : (code : List Linked) (b c : ℕ) (ps qs : List Linked) → b + length ps ≡ c → HasAt code b (ps ++ qs) → HasAt code c qs
has_back code b c [] qs e h = let same : b ≡ c = omega arith in subst (λ n. HasAt code n qs) same h
has_back code b c (p ∷ ps) qs e h = has_back code (b + 1) c ps qs (omega arith) h.1

has_behind : (is pre : List Linked) → HasAt (pre ++ is) (length pre + 1) is
has_behind [] pre = tt
has_behind (i ∷ is) pre =
    let within : length pre < length (pre ++ i ∷ is) = omega (arith, length-append pre (i ∷ is)) in
    let found = slice_get-get_or (pre ++ i ∷ is) (length pre) i within ∙ ap Some (get_or-append_seam pre i is i) in
    let k : suc (length pre) ≡ length pre + 1 = omega arith in
    let n : length (pre ++ i ∷ []) + 1 ≡ length pre + 1 + 1 = omega (arith, length-append pre (i ∷ [])) in
    let rest = has_behind is (pre ++ i ∷ []) in
    let rest' = subst (λ l. HasAt l (length (pre ++ i ∷ []) + 1) is) (append_assoc pre (i ∷ []) is) rest in
    (subst (λ m. numbered (pre ++ i ∷ is) m ≡ Some i) k found, subst (λ m. HasAt (pre ++ i ∷ is) m is) n rest')

-- the whole code stands from 1 on
pub has_all : (code : List Linked) → HasAt code 1 code
has_all code = has_behind code []
