-- Steps by their parts: what is made, and what is done with it.
use Rattle.std.proofs.Common.{◌≡◌, List, Result, Ok, Err, refl, subst, ◌∙◌}
use Rattle.life_types.specs.Types.{Types}
use Rattle.life_core.specs.Function.{Function}
use Rattle.life_core.specs.Operands.{Location}
use Rattle.life_store.specs.Content.{Content}
use Rattle.life_store.specs.Effects.{Effect, on_got}
use Rattle.life_store.specs.Places.{pointed}
use Rattle.life_store.specs.State.{State}
use Rattle.life_pointers.specs.Attempts.{tried}
use Rattle.life_pointers.specs.Places.{ended_by}
use Rattle.life_pointers.specs.Pointers.{pointer_seen}
use Rattle.life_pointers.specs.declared.pointer.Pointer.{Pointer}
use Rattle.life_pointers.specs.declared.stop.Stop.{Stop}
use Rattle.life_pointers.specs.declared.stop.Stop.TheVariants as stop
use Rattle.life_cells.specs.Steps.{Comes, Makes}
use Rattle.life_cells.specs.declared.cell.Cell.{Cell}

-- what stops a part stops the step, whatever the part was to give and what was to be done with it
pub stopped : {A B : Type 0} (f : A → B) (go : B → Effect) (e : Stop) → on_got (tried f (Err e)) go ≡ ended_by e
stopped f go (stop.Trap kind) = refl
stopped f go (stop.Fault kind) = refl
stopped f go stop.Lost = refl

pub stops_alike : {A B C D : Type 0} (f : A → B) (g : C → D) (go : B → Effect) (on : D → Effect) (e : Stop) → on_got (tried f (Err e)) go ≡ on_got (tried g (Err e)) on
stops_alike f g go on (stop.Trap kind) = refl
stops_alike f g go on (stop.Fault kind) = refl
stops_alike f g go on stop.Lost = refl

module _ (types : Types) (f : Function) (effect : Location → State → Effect) (l : Location) (c : Content) (cells other : List Cell) (same : other ≡ cells) where
  -- a location is given what was made
  pub made_points : {A : Type 0} (to : Pointer) (d : Content) (new : List Cell) (result : Result A Stop) → Makes types f effect c other (Ok to) → Comes (pointed types f l (pointer_seen to)) c cells d new result
      → Comes (effect l) c cells d new result
  made_points to d new result made step = λ output input. subst (λ (cs : List Cell). Makes types f effect c cs (Ok to)) same made l output input ∙ step output input
