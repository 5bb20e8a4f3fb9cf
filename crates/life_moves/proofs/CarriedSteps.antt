-- The steps of the meaning that move and copy values go from content to content.
use Rattle.std.proofs.Common.{◌≡◌, ℕ, [], ◌∷◌, Some, refl}
use Rattle.std.specs.Prelude.{slice_index}
use Rattle.life_store.specs.Content.{Content}
use Rattle.life_store.specs.Doing.{copied_to, giving, moved_to, moves_from, replaced}
use Rattle.life_store.specs.Effects.{Setting, Attempt, Got, GotTrap, GotFault, GotLost, Effect, Next, on_got, put_content, then_get}
use Rattle.life_store.specs.Held.{owned_in, owner_word, slot_words}
use Rattle.life_store.specs.Owners.{copied, taken}
use Rattle.life_store.specs.Parts.{Parts, width}
use Rattle.life_store.specs.Places.{Spot as Place, spot_words}
use Rattle.life_store.specs.State.{Named, State}
use Rattle.life_moves.specs.CopiedTo.{copied_over}
use Rattle.life_moves.specs.MovedTo.{given_to}

-- the content is put into the state
abbrev pub next_content : State → Content → Effect
next_content st c = Next (put_content c st)

then_next : {A : Type 0} (x : Attempt A) (f : A → Content) (st : State) → on_got x (λ a. Next (put_content (f a) st)) ≡ on_got (then_get x (λ a. Got (f a))) (next_content st)
then_next (Got a) f st = refl
then_next (GotTrap kind) f st = refl
then_next (GotFault kind) f st = refl
then_next GotLost f st = refl

pub moves_given : (p : Parts) (place : Place) (n : ℕ) (st : State) → moves_from p place (Some (Named n)) st ≡ on_got (given_to p place n st.world.content) (next_content st)
moves_given p place n st =
    then_next (giving p (owned_in (slice_index (slot_words st.world.content n 0) 0))) (λ owned. moved_to p place n (taken p (owner_word owned ∷ []) st.world.content)) st

pub copies_over : (s : Setting) (p : Parts) (from to : Place) (st : State) → copied_to s p to (spot_words st.world.content from (width p)) st ≡ on_got (copied_over s p from to st.world.content) (next_content st)
copies_over s p from to st = then_next (copied s p (spot_words st.world.content from (width p)) st.world.content) (replaced p to) st
