-- The inputs of a frame stand apart behind each instruction, as what it touches lies beneath what it may touch.
use Rattle.std.proofs.Common.{ℕ, ◌+◌, inr, Option, ⊎_elim, arith}
use Rattle.life_types.specs.Types.{Types}
use Rattle.life_core.specs.Function.{Function}
use Rattle.life_core.specs.Operands.{Location}
use Rattle.life_pset.specs.declared.element.Root.{Root}
use Rattle.life_store.specs.State.{State}
use Rattle.life_forest.specs.Forest.{whole}
use Rattle.life_forest.specs.Frames.{HasStore, named_in}
use Rattle.life_forest.specs.Owned.{times}
use Rattle.life_forest.proofs.Below.{is_positive, positive_is}
use Rattle.life_cover.specs.Inputs.{AreGiven, frame_foot}
use Rattle.life_cover.specs.Regions.{Region}
use Rattle.life_cover.proofs.Behind.{IsBehind}
use Rattle.life_cover.proofs.Inputs.{given_on}
use Rattle.life_cover.proofs.Owning.{named_at}

pub given_behind : (types : Types) (f : Function) (rest : ℕ → ℕ) (inputs : Root → Option Region) (bare over : ℕ → Type 0) (lost : Location → Type 0) (st after : State) → HasStore types rest st → AreGiven types f inputs (frame_foot types f inputs st.cells) st.world.content → IsBehind types f inputs bare over lost st after
    → AreGiven types f inputs (frame_foot types f inputs after.cells) after.world.content
given_behind types f rest inputs bare over lost st after store given behind =
    given_on types f inputs (λ m. times (named_in st.cells) m + rest m) st.world.content after.world.content store.forest (frame_foot types f inputs st.cells) given (frame_foot types f inputs after.cells) behind.touch
    (record {
      whole = λ n lt e. let x = named_at after.cells n (positive_is (times (named_in after.cells) n) e) in ⊎_elim (λ old. whole n (is_positive (times (named_in st.cells) n) old)) (λ new. absurd (omega (arith, lt, new))) (behind.named x.0 n x.1);
      part = λ m lt. inr (λ w e. e);
    })
