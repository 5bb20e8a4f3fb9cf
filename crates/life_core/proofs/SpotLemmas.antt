-- What is at the points of a tree, as it is computed and as it is read off the linked points.
use Rattle.std.proofs.Common.{◌≡◌, ℕ, zero, suc, ◌+◌, ◌-◌, ◌≤◌, ◌<◌, List, [], ◌∷◌, ◌++◌, map, length, Option, Some, None, refl, sym, ap, ◌∙◌, arith, length-append, ⊎_elim}
use Rattle.std.proofs.lemmas.List.{length-map, map-append}
use Rattle.std.proofs.lemmas.Bool.Decides.{eqb_tells, leb_tells}
use Rattle.std.proofs.lemmas.Option.{slice_get-map}
use Rattle.std.specs.Prelude.{slice_get, cond}
use Rattle.life_core.specs.declared.exits.Exits.{Exits}
use Rattle.life_core.specs.Columns.{spot_in, of_two, only}
use Rattle.life_core.specs.Function.{Function}
use Rattle.life_core.specs.Linked.{Linked, linked, no_exits, code_of, spot_of_linked, spot_of}
use Rattle.life_core.specs.Tree.{Tree, Skip, Then, Acts, Asks, Both, Either, Negated, Choice, Turns, Breaks, Continues, Returns, Stops, Spot, size, spots}

two_mapped : (us vs : List Linked) (xs ys : List Spot) → map spot_of_linked us ≡ xs → map spot_of_linked vs ≡ ys → map spot_of_linked (us ++ vs) ≡ xs ++ ys
two_mapped us vs xs ys p q = map-append spot_of_linked us vs ∙ ap (λ zs. zs ++ map spot_of_linked vs) p ∙ ap (λ zs. xs ++ zs) q

-- the spots of the linked points are the spots of the tree, wherever it leads
pub linked_spots : (t : Tree) (at : ℕ) (x : Exits) → map spot_of_linked (linked t at x) ≡ spots t
linked_spots Skip at x = refl
linked_spots (Then a b) at x = two_mapped _ _ _ _ (linked_spots a at _) (linked_spots b _ x)
linked_spots (Acts place i) at x = refl
linked_spots (Asks place t) at x = refl
linked_spots (Both a b) at x = two_mapped _ _ _ _ (linked_spots a at _) (linked_spots b _ x)
linked_spots (Either a b) at x = two_mapped _ _ _ _ (linked_spots a at _) (linked_spots b _ x)
linked_spots (Negated a) at x = linked_spots a at _
linked_spots (Choice t a b) at x = two_mapped _ _ _ _ (linked_spots t at _) (two_mapped _ _ _ _ (linked_spots a _ _) (linked_spots b _ _))
linked_spots (Turns t body step) at x =
    two_mapped _ _ _ _ (linked_spots t at _) (two_mapped _ _ _ _ (linked_spots body _ _) (linked_spots step _ _))
linked_spots Breaks at x = refl
linked_spots Continues at x = refl
linked_spots (Returns place) at x = refl
linked_spots (Stops place) at x = refl

two_lengths : {A : Type 0} (xs ys : List A) (m n : ℕ) → length xs ≡ m → length ys ≡ n → length (xs ++ ys) ≡ m + n
two_lengths xs ys m n p q = omega (arith, length-append xs ys)

-- a tree has as many spots as its size says
pub spots_length : (t : Tree) → length (spots t) ≡ size t
spots_length Skip = refl
spots_length (Then a b) = two_lengths _ _ (size a) (size b) (spots_length a) (spots_length b)
spots_length (Acts place i) = refl
spots_length (Asks place t) = refl
spots_length (Both a b) = two_lengths _ _ (size a) (size b) (spots_length a) (spots_length b)
spots_length (Either a b) = two_lengths _ _ (size a) (size b) (spots_length a) (spots_length b)
spots_length (Negated a) = spots_length a
spots_length (Choice t a b) =
    two_lengths _ _ (size t) (size a + size b) (spots_length t) (two_lengths _ _ (size a) (size b) (spots_length a) (spots_length b))
spots_length (Turns t body step) =
    two_lengths _ _ (size t) (size body + size step) (spots_length t) (two_lengths _ _ (size body) (size step) (spots_length body) (spots_length step))
spots_length Breaks = refl
spots_length Continues = refl
spots_length (Returns place) = refl
spots_length (Stops place) = refl

-- .. and as many linked points
pub linked_length : (t : Tree) (at : ℕ) (x : Exits) → length (linked t at x) ≡ size t
linked_length t at x = sym (length-map (linked t at x) spot_of_linked) ∙ ap length (linked_spots t at x) ∙ spots_length t

in_front : (us vs : List Spot) (k : ℕ) → k < length us → slice_get (us ++ vs) k ≡ slice_get us k
in_front [] vs k lt = absurd (omega (arith, lt))
in_front (u ∷ us) vs zero lt = refl
in_front (u ∷ us) vs (suc k) lt = in_front us vs k (omega (arith, lt))

in_back : (us vs : List Spot) (k : ℕ) → length us ≤ k → slice_get (us ++ vs) k ≡ slice_get vs (k - length us)
in_back [] vs k le = let e : k ≡ k - 0 = omega arith in ap (slice_get vs) e
in_back (u ∷ us) vs zero le = absurd (omega (arith, le))
in_back (u ∷ us) vs (suc k) le =
    let e : k - length us ≡ suc k - length (u ∷ us) = omega arith in
    in_back us vs k (omega (arith, le)) ∙ ap (slice_get vs) e

-- the k-th of two parts is the k-th of their lists
two_at : (us vs : List Spot) (n k : ℕ) (first second : ℕ → Option Spot) → length us ≡ n → ((i : ℕ) → first i ≡ slice_get us i) → ((i : ℕ) → second i ≡ slice_get vs i) → of_two n first second k ≡ slice_get (us ++ vs) k
two_at us vs n k first second e p q =
    ⊎_elim
    (λ h.
    let lt : k < length us = omega (arith, h.1) in
    ap (λ t. cond t (first k) (second (k - n))) h.0 ∙ p k ∙ sym (in_front us vs k lt))
    (λ h.
    let le : length us ≤ k = omega (arith, h.1) in
    ap (λ t. cond t (first k) (second (k - n))) h.0
    ∙ q (k - n)
    ∙ ap (λ m. slice_get vs (k - m)) (sym e)
    ∙ sym (in_back us vs k le))
    (leb_tells (suc k) n)

-- .. and a point alone is the first of its list
only_at : (spot : Spot) (k : ℕ) → only spot k ≡ slice_get (spot ∷ []) k
only_at spot zero = refl
only_at spot (suc k) = ⊎_elim (λ h. absurd (not_zero h.1)) (λ h. ap (λ t. cond t (Some spot) None) h.0) (eqb_tells (suc k) 0)
  where
    not_zero : suc k ≡ 0 → ⊥
    not_zero e = omega arith

-- what is computed at the k-th point is the k-th spot
pub spot_in_is : (t : Tree) (k : ℕ) → spot_in t k ≡ slice_get (spots t) k
spot_in_is Skip k = refl
spot_in_is (Then a b) k = two_at (spots a) (spots b) (size a) k _ _ (spots_length a) (λ i. spot_in_is a i) (λ i. spot_in_is b i)
spot_in_is (Acts place i) k = only_at _ k
spot_in_is (Asks place t) k = only_at _ k
spot_in_is (Both a b) k = two_at (spots a) (spots b) (size a) k _ _ (spots_length a) (λ i. spot_in_is a i) (λ i. spot_in_is b i)
spot_in_is (Either a b) k = two_at (spots a) (spots b) (size a) k _ _ (spots_length a) (λ i. spot_in_is a i) (λ i. spot_in_is b i)
spot_in_is (Negated a) k = spot_in_is a k
spot_in_is (Choice t a b) k =
    two_at (spots t) (spots a ++ spots b) (size t) k _ _ (spots_length t) (λ i. spot_in_is t i)
    (λ i. two_at (spots a) (spots b) (size a) i _ _ (spots_length a) (λ j. spot_in_is a j) (λ j. spot_in_is b j))
spot_in_is (Turns t body step) k =
    two_at (spots t) (spots body ++ spots step) (size t) k _ _ (spots_length t) (λ i. spot_in_is t i)
    (λ i. two_at (spots body) (spots step) (size body) i _ _ (spots_length body) (λ j. spot_in_is body j) (λ j. spot_in_is step j))
spot_in_is Breaks k = refl
spot_in_is Continues k = refl
spot_in_is (Returns place) k = only_at _ k
spot_in_is (Stops place) k = only_at _ k

-- the spots of a function's points, in their order
pub code_spots : (f : Function) → map spot_of_linked (code_of f) ≡ spots f.body
code_spots f = linked_spots f.body 1 no_exits

-- what is computed at a point is what is at it
pub spot_at_is : (f : Function) (p : ℕ) → 1 ≤ p → spot_in f.body (p - 1) ≡ spot_of f (record { 0 = p })
spot_at_is f zero pos = absurd (omega (arith, pos))
spot_at_is f (suc k) pos =
    let e : suc k - 1 ≡ k = omega arith in
    ap (spot_in f.body) e
    ∙ spot_in_is f.body k
    ∙ sym (ap (λ (xs : List Spot). slice_get xs k) (code_spots f))
    ∙ slice_get-map spot_of_linked (code_of f) k
