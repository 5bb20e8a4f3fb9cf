-- What a frame did since its function began: what was touched lies beneath what the function was given or is an owner behind a mutating input, and what
-- is named was given or is new.
use Rattle.std.proofs.Common.{◌≡◌, ◌⊎◌, inr, ⊎_elim, ℕ, zero, suc, ◌≤◌, ◌<◌, List, [], ◌∷◌, Some, ap, arith, Option}
use Rattle.std.specs.Prelude.{slice_get}
use Rattle.life_types.specs.Types.{Types}
use Rattle.life_core.specs.Function.{Function}
use Rattle.life_pset.specs.declared.element.Root.{Root}
use Rattle.life_store.specs.Content.{Content}
use Rattle.life_store.specs.State.{Cell, Empty, Named, Number, Points, State}
use Rattle.life_store.proofs.MapLemmas.{one_or_apart}
use Rattle.life_forest.specs.Forest.{Touches, Within, whole}
use Rattle.life_forest.specs.Frames.{named_in}
use Rattle.life_forest.specs.Kinds.{kinds_of}
use Rattle.life_forest.specs.Owned.{times}
use Rattle.life_forest.specs.Typed.{IsStore}
use Rattle.life_forest.proofs.Below.{is_positive, positive_is}
use Rattle.life_forest.proofs.Counting.{one_there}
use Rattle.life_forest.proofs.Feet.{within_self}
use Rattle.life_forest.proofs.Frames.{first_named}
use Rattle.life_forest.proofs.Steps.{touches_then}
use Rattle.life_cover.specs.Inputs.{foot_with, frame_foot, mutated}
use Rattle.life_cover.specs.Regions.{Region}
use Rattle.life_cover.proofs.Behind.{IsBehind, any_local, any_location}

pub record IsOwn (types : Types) (f : Function) (inputs : Root → Option Region) (given : List ℕ) (before : Content) (st : State) : Type 0 where
  pub touch : Touches (kinds_of types) (foot_with types (mutated types f inputs) given) before st.world.content
  pub named : (x n : ℕ) → slice_get st.cells x ≡ Some (Named n) → (0 < times given n) ⊎ (before.births ≤ n)

-- what is named is named by a cell
pub named_at : (cells : List Cell) (n : ℕ) → 0 < times (named_in cells) n → (x : ℕ) × (slice_get cells x ≡ Some (Named n))
named_at [] n lt = absurd (omega (arith, lt))
named_at (v ∷ vs) n lt = one_or_apart (times (named_in (v ∷ [])) n) 0
    (λ z. let r = named_at vs n (let a = first_named v vs n in omega (arith, a, z, lt)) in (suc r.0, r.1))
    (λ nz. (zero, ap Some (is v (omega (arith, nz)))))
  where
    is : (u : Cell) → 0 < times (named_in (u ∷ [])) n → u ≡ Named n
    is Empty h = absurd (omega (arith, h))
    is (Named m) h = ap Named (one_there m n (omega (arith, h)))
    is (Number z) h = absurd (omega (arith, h))
    is (Points p) h = absurd (omega (arith, h))

module _ (types : Types) (f : Function) (inputs : Root → Option Region) (given : List ℕ) (hand : ℕ → ℕ) (before : Content) (store : IsStore types hand before) where
  -- all that is named was given, as far as it was there
  pub named_within : (st : State) → IsOwn types f inputs given before st → Within (kinds_of types) before (frame_foot types f inputs st.cells) (foot_with types (mutated types f inputs) given)
  named_within st own = record {
    whole = λ n lt e. let x = named_at st.cells n (positive_is (times (named_in st.cells) n) e) in ⊎_elim (λ old. whole n (is_positive (times given n) old)) (λ new. absurd (omega (arith, lt, new))) (own.named x.0 n x.1);
    part = λ m lt. inr (λ w e. e);
  }

  -- so an instruction more keeps to it
  pub own_behind : (st after : State) → IsOwn types f inputs given before st → IsBehind types f inputs any_local any_local any_location st after → IsOwn types f inputs given before after
  own_behind st after own behind = record {
    touch =
        touches_then (kinds_of types) hand before store.forest (foot_with types (mutated types f inputs) given) (frame_foot types f inputs st.cells) (foot_with types (mutated types f inputs) given) st.world.content after.world.content own.touch behind.touch
        (within_self (kinds_of types) before (foot_with types (mutated types f inputs) given)) (named_within st own);
    named = λ x n e. ⊎_elim
        (λ lt. let y = named_at st.cells n lt in own.named y.0 n y.1)
        (λ new. inr (let b = own.touch.births in omega (arith, b, new)))
        (behind.named x n e);
  }
