-- One attempt after another.
use Rattle.std.proofs.Common.{◌≡◌, refl}
use Rattle.life_store.specs.Effects.{Attempt, Got, GotTrap, GotFault, GotLost, then_get}
use Rattle.life_forest.proofs.Coming.{IfGot}

pub then_then : {A B C : Type 0} (x : Attempt A) (f : A → Attempt B) (g : B → Attempt C) → then_get (then_get x f) g ≡ then_get x (λ a. then_get (f a) g)
then_then (Got a) f g = refl
then_then (GotTrap kind) f g = refl
then_then (GotFault kind) f g = refl
then_then GotLost f g = refl

-- the same may be done with all that may come
pub then_alike : {A B : Type 0} (x : Attempt A) (P : A → Type 0) (f g : A → Attempt B) → IfGot x P → ((a : A) → P a → f a ≡ g a) → then_get x f ≡ then_get x g
then_alike (Got a) P f g h same = same a h
then_alike (GotTrap kind) P f g h same = refl
then_alike (GotFault kind) P f g h same = refl
then_alike GotLost P f g h same = refl

-- what comes needn't be touched
pub then_got : {A : Type 0} (x : Attempt A) → then_get x Got ≡ x
then_got (Got a) = refl
then_got (GotTrap kind) = refl
then_got (GotFault kind) = refl
then_got GotLost = refl
