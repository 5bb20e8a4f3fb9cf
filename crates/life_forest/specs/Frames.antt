-- What a frame has in the hand: the objects that its cells name.
use Rattle.std.specs.Prelude.{ℕ, ◌+◌, List, [], ◌∷◌}
use Rattle.life_types.specs.Types.{Types}
use Rattle.life_store.specs.Effects.{Effect, Next, Traps, Faults, Strays}
use Rattle.life_store.specs.State.{Cell, Empty, Named, Number, Points, State}
use Rattle.life_forest.specs.Owned.{times}
use Rattle.life_forest.specs.Typed.{IsStore}

abbrev pub named_in : List Cell → List ℕ
named_in [] = []
named_in (Empty ∷ vs) = named_in vs
named_in (Named n ∷ vs) = n ∷ named_in vs
named_in (Number z ∷ vs) = named_in vs
named_in (Points p ∷ vs) = named_in vs

-- .. beside what the waiting frames and words under way have
abbrev pub HasStore : Types → (ℕ → ℕ) → State → Type 0
HasStore types rest st = IsStore types (λ k. times (named_in st.cells) k + rest k) st.world.content

-- what holds of the next state, if there is one
abbrev pub OnNext : Effect → (State → Type 0) → Type 0
OnNext (Next st) P = P st
OnNext (Traps kind) P = Unit {0}
OnNext (Faults kind) P = Unit {0}
OnNext Strays P = Unit {0}
