-- What a part of an instruction comes to, as the meaning has it.
use Rattle.std.specs.Prelude.{Result, Ok, Err}
use Rattle.life_store.specs.Effects.{Attempt, Got, GotTrap, GotFault, GotLost}
use Rattle.life_pointers.specs.declared.stop.Stop.{Stop}
use Rattle.life_pointers.specs.declared.stop.Stop.TheVariants as stop

module _ {A B : Type 0} where
  -- by what an answer stands for
  abbrev pub tried : (A → B) → Result A Stop → Attempt B
  tried f (Ok a) = Got (f a)
  tried f (Err (stop.Trap kind)) = GotTrap kind
  tried f (Err (stop.Fault kind)) = GotFault kind
  tried f (Err stop.Lost) = GotLost

-- what stands for itself
abbrev pub itself : {A : Type 0} → A → A
itself a = a
