-- Pointers that are aimed at a place, by what is found there.
use Rattle.std.proofs.Common.{◌≡◌, ℕ, List, ap, sym, ◌∙◌}
use Rattle.life_types.specs.Types.{Types}
use Rattle.life_core.specs.Function.{Function}
use Rattle.life_core.specs.Operands.{Location, Operand}
use Rattle.life_core.specs.Operands as source
use Rattle.life_store.specs.Content.{Object}
use Rattle.life_store.specs.Doing.{aimed, on_character, pointer_to}
use Rattle.life_store.specs.Effects.{Effect, Setting, on_got}
use Rattle.life_store.specs.Iterators.{at_index}
use Rattle.life_store.specs.Places.{Fixed, Found, Here, locate, on_place, operand_word, pointed}
use Rattle.life_store.specs.State.{Characters, Pointer, State, Static, To}
use Rattle.life_pointers.specs.Attempts.{tried}
use Rattle.life_pointers.specs.Places.{TellsMiss}
use Rattle.life_pointers.specs.Pointers.{pointer_seen}
use Rattle.life_pointers.specs.declared.stop.Stop.{Stop}
use Rattle.std.specs.Prelude.{Err}
use Rattle.life_cells.proofs.StepLemmas.{stopped}

module _ (types : Types) (f : Function) (st : State) (s : Setting) (p : Location) (o : Operand) where
  abbrev put : Pointer → Effect
  put v = pointed types f p v st

  abbrev here : ℕ → ℕ → Object → Effect
  here n i object = put (pointer_to st.world.content n i (operand_word types f o st))

  abbrev fixed : List (List ℕ) → Characters → Effect
  fixed texts c = on_character texts c (λ z. put (at_index 0 c.index (Static c)))

  pub aimed_stops : (e : Stop) → TellsMiss (locate types f o st) e → aimed s types f p (source.Place o) st ≡ on_got (tried pointer_seen (Err e)) put
  aimed_stops e misses = misses here (fixed s.texts) ∙ sym (stopped pointer_seen put e)

  pub aimed_here : (n i w now : ℕ) (object : Object) → locate types f o st ≡ Here n i object → w ≡ operand_word types f o st → now ≡ st.world.content.clock
      → aimed s types f p (source.Place o) st ≡ put (To (record { object = n; index = i; word = w; count = 1; moment = now }))
  aimed_here n i w now object found word clock =
      ap (λ (x : Found). on_place x here (fixed s.texts)) found
      ∙ sym (λ j. put (To (record { object = n; index = i; word = word j; count = 1; moment = clock j })))

  pub aimed_fixed : (texts : List (List ℕ)) (c : Characters) → s.texts ≡ texts → locate types f o st ≡ Fixed c → aimed s types f p (source.Place o) st ≡ on_character texts c (λ z. put (at_index 0 c.index (Static c)))
  aimed_fixed texts c same found = ap (λ (x : Found). on_place x here (fixed s.texts)) found ∙ ap (λ (ts : List (List ℕ)). fixed ts c) same
