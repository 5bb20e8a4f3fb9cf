-- What holds of each of a list, and of what is made of a layer.
use Rattle.std.proofs.Common.{List, [], ◌∷◌, map, ◌≡◌, subst, sym}
use Rattle.life_unique.proofs.Lists.{Both}

abbrev pub EachHolds : {A : Type 0} → (A → Type 0) → List A → Type 0
EachHolds Holds [] = Unit {0}
EachHolds Holds (x ∷ xs) = Holds x × EachHolds Holds xs

-- it holds of what is made of each, if it follows from what is known of each
pub each_of : {A B : Type 0} (Known : A → Type 0) (Holds : B → Type 0) (f : A → B) → ((x : A) → Known x → Holds (f x)) → (xs : List (Both Known)) → EachHolds Holds (map f (map (λ z. z.0) xs))
each_of Known Holds f holds [] = tt
each_of Known Holds f holds (x ∷ xs) = (holds x.0 x.1, each_of Known Holds f holds xs)

pub both_same : {A B : Type 0} (Holds : A → B → Type 0) {x x' : A} {y y' : B} → x ≡ x' → y ≡ y' → Holds x y → Holds x' y'
both_same Holds {x = x} {x' = x'} {y = y} {y' = y'} e d h = subst (λ z. Holds x' z) d (subst (λ z. Holds z y) e h)

-- it holds of what is made of a layer, by what rolling it up makes of it
pub made_alone : {O X A : Type 0} (Holds : A → Type 0) (roll : O → X) (of : X → A) (o o' : O) {x : A} → of (roll o) ≡ x → Holds x → o ≡ o' → Holds (of (roll o'))
made_alone Holds roll of o o' made holds e = subst (λ z. Holds (of (roll z))) e (subst Holds (sym made) holds)

-- .. of three
pub made_of_three : {O X A B C : Type 0} (Holds : A → B → C → Type 0) (roll : O → X) (of : X → A) (tree : X → B) (end : X → C) (o o' : O) {x : A} {y : B} {z : C}
    → of (roll o) ≡ x → tree (roll o) ≡ y → end (roll o) ≡ z → Holds x y z → o ≡ o' → Holds (of (roll o')) (tree (roll o')) (end (roll o'))
made_of_three Holds roll of tree end o o' {z = z} made seen ended holds e =
    subst (λ u. Holds (of (roll u)) (tree (roll u)) (end (roll u))) e (subst (λ c. Holds (of (roll o)) (tree (roll o)) c) (sym ended) (both_same (λ a b. Holds a b z) (sym made) (sym seen) holds))
