-- What each instruction on numbers gives a register, and that a frame stands behind them.
use Rattle.std.proofs.Common.{◌≡◌, ℕ, List, [], ◌∷◌, Option, Some, Ok, Err, refl, sym, ap, subst, ◌∙◌}
use Rattle.std.specs.Prelude.{ℤ, pos, Bool}
use Rattle.life_types.specs.Trees.{IsOrdered}
use Rattle.life_types.specs.Types.{Types}
use Rattle.life_types.specs.declared.ty.TyId.{TyId}
use Rattle.life_core.specs.declared.operation.Operation.{Operation}
use Rattle.life_core.specs.declared.operation.Operation.TheVariants as operation
use Rattle.life_core.specs.Function.{Function}
use Rattle.life_core.specs.Operands.{Base, Location, Operand}
use Rattle.life_core.specs.Operands as source
use Rattle.life_core.specs.Step.{Port, Writes, WritesView, Takes}
use Rattle.life_store.specs.Content.{Object, Content, with_object, with_word}
use Rattle.life_store.specs.Doing.{as_long, compared, computed_into, evaluated, input_taken, loaded, loaded_from, number_text, port, same_into, saved, sized, told, with_output}
use Rattle.life_store.specs.Edits.{buffer_of, size_of}
use Rattle.life_store.specs.Effects.{Setting, Effect, Next, Strays, cell, converted, on_got, on_number, put_cell, type_of, word_of_number}
use Rattle.life_store.specs.Held.{wrote_if}
use Rattle.life_store.specs.Numbers.{Computed, combined, is_zero, negated, truth}
use Rattle.life_store.specs.Parts.{Parts, Single, location_parts, operand_type, parts_at, width}
use Rattle.life_store.specs.Places.{Found, Here, Fixed, Outside, Wrong, Astray, locate, location_cell, on_found, on_place, operand_word}
use Rattle.life_store.specs.State.{Characters, Number, State}
use Rattle.life_store.specs.Views.{seen_bytes, seen_count, used}
use Rattle.life_forest.specs.FrameTypes.{Stands}
use Rattle.life_forest.specs.Frames.{OnNext}
use Rattle.life_store.specs.Kinds.{Owner, kind_in}
use Rattle.life_forest.proofs.FittingBirths.{value_owner}
use Rattle.life_forest.proofs.FrameWords.{save_keeps}
use Rattle.life_forest.proofs.Following.{IsOwned, follows_content, follows_stands}
use Rattle.life_forest.proofs.Operands.{FoundWell, IsPlace, OperandAims, operand_well}
use Rattle.life_forest.proofs.StandingChanges.{on_got_each, on_number_next}
use Rattle.life_forest.proofs.StandingCopies.{on_character_next}
use Rattle.life_forest.proofs.StandingPointers.{number_stands}
use Rattle.life_forest.proofs.Staying.{Stays, stays_self, stays_wrote}

pub on_place_each : (found : Found) (go : ℕ → ℕ → Object → Effect) (fixed : Characters → Effect) (Q : State → Type 0) → ((n i : ℕ) (o : Object) → OnNext (go n i o) Q) → ((c : Characters) → OnNext (fixed c) Q) → OnNext (on_place found go fixed) Q
on_place_each (Here n i o) go fixed Q here text = here n i o
on_place_each (Fixed c) go fixed Q here text = text c
on_place_each Outside go fixed Q here text = tt
on_place_each (Wrong kind) go fixed Q here text = tt
on_place_each Astray go fixed Q here text = tt

-- whatever holds where this register is given a number
module _ (types : Types) (f : Function) (st : State) (Q : State → Type 0) (r : ℕ) (given : (z : ℤ) → Q (put_cell r (Number z) st)) where
  computed_gives : (computed : Computed) → OnNext (computed_into r computed st) Q
  computed_gives (Ok z) = given z
  computed_gives (Err kind) = tt

  pub evaluated_gives : (op : Operation) → OnNext (evaluated types f r op st) Q
  evaluated_gives (operation.Number z) = given z
  evaluated_gives (operation.Convert q) = on_number_next (cell st q) (λ z. Next (put_cell r (Number (converted (type_of types f r) z)) st)) Q (λ z. given _)
  evaluated_gives (operation.Negate q) = on_number_next (cell st q) (λ z. computed_into r (negated (type_of types f r) z) st) Q (λ z. computed_gives (negated (type_of types f r) z))
  evaluated_gives (operation.IsZero q) = on_number_next (cell st q) (λ z. computed_into r (truth (is_zero z)) st) Q (λ z. computed_gives (truth (is_zero z)))
  evaluated_gives (operation.Binary operator a b) =
      on_number_next (cell st a) (λ x. on_number (cell st b) (λ y. computed_into r (combined (type_of types f a) operator x y) st)) Q
      (λ x. on_number_next (cell st b) (λ y. computed_into r (combined (type_of types f a) operator x y) st) Q (λ y. computed_gives (combined (type_of types f a) operator x y)))

  pub loaded_gives : (s : Setting) (o : Operand) → OnNext (loaded s types f r o st) Q
  loaded_gives s o = over (locate types f o st)
    where
      over : (found : Found) → OnNext (loaded_from s types f r o st found) Q
      over (Here n i object) = given _
      over (Fixed t) = on_character_next s.texts t (λ z. Next (put_cell r (Number z) st)) Q (λ z. given z)
      over Outside = tt
      over (Wrong kind) = tt
      over Astray = tt

  -- ---- sizes and comparisons

  pub sizes_give : (b : Base) → OnNext (sized types f r b st) Q
  sizes_give (source.Owner o) =
      on_place_each (locate types f o st) (λ n i object. on_got (buffer_of st.world.content (record { object = n; index = i; word = operand_word types f o st })) (λ b. Next (put_cell r (Number (pos (size_of st.world.content b))) st))) (λ t. Strays) Q
      (λ n i object. on_got_each (buffer_of st.world.content (record { object = n; index = i; word = operand_word types f o st })) (λ b. Next (put_cell r (Number (pos (size_of st.world.content b))) st)) Q (λ b. given _))
      (λ t. tt)
  sizes_give (source.Pointer l) = on_got_each (used st.world.content (location_cell types f l st)) (λ v. Next (put_cell r (Number (pos (seen_count v))) st)) Q (λ v. given _)

  pub sames_give : (s : Setting) (a b : Location) (equal : Bool) → OnNext (same_into s types f r a b equal st) Q
  sames_give s a b equal = on_got_each (compared s types f (location_parts types f a) a b st) (λ same. Next (put_cell r (Number (told same equal)) st)) Q (λ same. given _)

-- .. and where something is written, or an input taken
module _ (types : Types) (f : Function) (st : State) (Q : State → Type 0) (outputs : (text : List ℕ) → Q (with_output text st)) where
  pub ports_give : (s : Setting) (p : Port) → ((r : ℕ) (z : ℤ) (zs : List ℤ) → p ≡ Takes r → Q (put_cell r (Number z) (record st { world = record (st.world) { input = zs } }))) → OnNext (port s types f p st) Q
  ports_give s (Writes r) takes = on_number_next (cell st r) (λ z. Next (with_output (number_text (type_of types f r) z) st)) Q (λ z. outputs (number_text (type_of types f r) z))
  ports_give s (WritesView l) takes =
      on_got_each (used st.world.content (location_cell types f l st)) (λ p. Next (with_output (seen_bytes s.texts st.world.content p) st)) Q (λ p. outputs (seen_bytes s.texts st.world.content p))
  ports_give s (Takes r) takes = go st.world.input
    where
      go : (input : List ℤ) → OnNext (input_taken r input st) Q
      go [] = tt
      go (z ∷ zs) = takes r (as_long z) zs refl

module _ (types : Types) (ordered : IsOrdered types) (f : Function) (rest : ℕ → ℕ) (st : State) (stands : Stands types f rest st) where
  abbrev c : Content
  c = st.world.content

  -- a number is written to a place of its type
  pub saved_stands : (part : TyId) → parts_at types part ≡ Single → (z : ℤ) (m i w : ℕ) (object : Object) → IsPlace types st.world.content part m i w object → Stands types f rest (saved z m i w object st)
  saved_stands part single z m i w object place =
      follows_stands types f rest st stands (saved z m i w object st) (save_keeps types ordered rest st stands.store z m i w part object place.there place.within place.slot plain (ap width single))
      (follows_content types f st (with_object m (with_word i w (word_of_number z) object) c)
      (subst (λ d. Stays (IsOwned types c) c d) (ap (λ (x : Option Object). wrote_if x m i w (word_of_number z ∷ []) c) place.there)
      (stays_wrote (IsOwned types c) c m i w (word_of_number z ∷ []) c (stays_self (IsOwned types c) c))))
    where
      plain : (u : ℕ) → kind_in (parts_at types part) u ≡ Owner → ⊥
      plain u k = value_owner (sym (ap (λ (p : Parts). kind_in p u) single) ∙ k)

  pub saves_stand : (o : Operand) (r : ℕ) (part : TyId) → operand_type types f o ≡ Some part → OperandAims types f st o → parts_at types part ≡ Single
      → OnNext (on_number (cell st r) (λ z. on_found (locate types f o st) (λ n i object. Next (saved z n i (operand_word types f o st) object st)))) (Stands types f rest)
  saves_stand o r part typed aims single =
      on_number_next (cell st r) (λ z. on_found (locate types f o st) (λ n i object. Next (saved z n i (operand_word types f o st) object st))) (Stands types f rest)
      (λ z. over z (locate types f o st) (operand_well types ordered f st stands.frame o part typed aims))
    where
      over : (z : ℤ) (found : Found) → FoundWell types st.world.content part (operand_word types f o st) found → OnNext (on_found found (λ n i object. Next (saved z n i (operand_word types f o st) object st))) (Stands types f rest)
      over z (Here n i object) place = saved_stands part single z n i (operand_word types f o st) object place
      over z (Fixed t) place = tt
      over z Outside place = tt
      over z (Wrong kind) place = tt
      over z Astray place = tt

  pub ports_stand : (s : Setting) (p : Port) → OnNext (port s types f p st) (Stands types f rest)
  ports_stand s p =
      ports_give types f st (Stands types f rest) (λ text. record { store = stands.store; frame = stands.frame }) s p
      (λ r z zs is. number_stands types ordered f rest (record st { world = record (st.world) { input = zs } }) (record { store = stands.store; frame = stands.frame }) r z)
