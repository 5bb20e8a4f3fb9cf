-- How an element goes.
use Rattle.std.specs.Prelude.{ℕ}
use Rattle.life_types.specs.Types.{Types}
use Rattle.life_core.specs.Function.{Function}
use Rattle.life_core.specs.Operands.{Location}
use Rattle.life_store.specs.Doing.{pointed, pointer_to, put_content}
use Rattle.life_store.specs.Edits.{erased}
use Rattle.life_store.specs.Effects.{Effect}
use Rattle.life_store.specs.Parts.{Parts}
use Rattle.life_store.specs.State.{State}

-- .. from a buffer, and a location is given the iterator to what stands there then
abbrev pub erased_into : Types → Function → Parts → (buffer index : ℕ) → Location → State → Effect
erased_into types f element b i into st = pointed types f into (pointer_to (erased element b i st.world.content) b i 0) (put_content (erased element b i st.world.content) st)
