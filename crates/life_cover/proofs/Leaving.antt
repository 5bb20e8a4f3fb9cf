-- What gives a pointer a value does nothing else: whatever holds where it is given any pointer holds behind it.
use Rattle.std.proofs.Common.{ℕ, Option, Some, None}
use Rattle.life_types.specs.Types.{Types}
use Rattle.life_core.specs.declared.instr.Direction.{Direction}
use Rattle.life_core.specs.declared.operand.RangeEnd.{RangeEnd}
use Rattle.life_core.specs.declared.operand.Which.{Which}
use Rattle.life_core.specs.declared.operand.Which.TheVariants as which
use Rattle.life_core.specs.Function.{Function}
use Rattle.life_core.specs.Operands.{Base, Location, Operand, Source}
use Rattle.life_core.specs.Operands as named
use Rattle.life_store.specs.Doing.{advanced, aimed, count_in, cursor, cut, element, element_at, on_character, owner_element, pointer_to, type_if, whole_of, owned_pointer, target_at}
use Rattle.life_store.specs.Edits.{buffer_of, size_of, owned_at}
use Rattle.life_store.specs.Effects.{Setting, Effect, Strays, cell, on_got, on_number, on_pointer, type_of}
use Rattle.life_store.specs.Iterators.{at_index, chosen, count_of, directed, element_of, end_index, index_in, iterator, stepped}
use Rattle.life_store.specs.Owners.{empty_view}
use Rattle.life_store.specs.Parts.{location_type}
use Rattle.life_store.specs.Places.{Spot, locate, location_cell, on_spot, operand_word, pointed, owner_spot_if}
use Rattle.life_store.specs.State.{Pointer, Null, Static, State}
use Rattle.life_store.specs.Views.{is_span, part_count, part_of, seen_count, used, viewed}
use Rattle.life_forest.specs.Frames.{OnNext}
use Rattle.life_forest.proofs.GivenPointers.{on_pointer_next}
use Rattle.life_forest.proofs.StandingChanges.{on_got_each, on_number_next}
use Rattle.life_forest.proofs.StandingCopies.{on_character_next}
use Rattle.life_forest.proofs.StandingNumbers.{on_place_each}

module _ (types : Types) (f : Function) (st : State) (Q : State → Type 0) (p : Location) (given : (v : Pointer) → OnNext (pointed types f p v st) Q) where
  on_spot_each : (o : Operand) (go : Spot → Effect) → ((spot : Spot) → OnNext (go spot) Q) → OnNext (on_spot types f o st go) Q
  on_spot_each o go each =
      on_place_each (locate types f o st) (λ n i object. go (record { object = n; index = i; word = operand_word types f o st })) (λ c. Strays) Q (λ n i object. each (record { object = n; index = i; word = operand_word types f o st })) (λ c. tt)

  pub aims_leave : (s : Setting) (sr : Source) → OnNext (aimed s types f p sr st) Q
  aims_leave s named.Null = given Null
  aims_leave s (named.Text n) = given (viewed s.texts n)
  aims_leave s named.Empty = given empty_view
  aims_leave s (named.Place o) =
      on_place_each (locate types f o st) (λ n i object. pointed types f p (pointer_to st.world.content n i (operand_word types f o st)) st) (λ c. on_character s.texts c (λ z. pointed types f p (at_index 0 c.index (Static c)) st)) Q
      (λ n i object. given (pointer_to st.world.content n i (operand_word types f o st)))
      (λ c. on_character_next s.texts c (λ z. pointed types f p (at_index 0 c.index (Static c)) st) Q (λ z. given (at_index 0 c.index (Static c))))
  aims_leave s (named.Whole o) =
      on_spot_each o (λ spot. on_got (buffer_of st.world.content spot) (λ b. pointed types f p (whole_of st.world.content b) st))
      (λ spot. on_got_each (buffer_of st.world.content spot) (λ b. pointed types f p (whole_of st.world.content b) st) Q (λ b. given (whole_of st.world.content b)))
  aims_leave s (named.Get u) =
      on_got_each (owner_spot_if types f u (cell st u.local)) (λ spot. pointed types f p (owned_pointer st.world.content (owned_at st.world.content spot)) st) Q (λ spot. given (owned_pointer st.world.content (owned_at st.world.content spot)))

  pub repoints_leave : (q : Location) → OnNext (on_pointer (location_cell types f q st) (λ v. pointed types f p v st)) Q
  repoints_leave q = on_pointer_next (location_cell types f q st) (λ v. pointed types f p v st) Q (λ v e. given v)

  element_leaves : (w : Which) (size : ℕ) (base : Pointer) → OnNext (element_at types f p w size base st) Q
  element_leaves w size base = on_got_each (chosen st w size) (λ i. pointed types f p (element_of st.world.content.clock i base) st) Q (λ i. given (element_of st.world.content.clock i base))

  pub elements_leave : (b : Base) (w : Which) → OnNext (element types f p b w st) Q
  elements_leave (named.Owner o) w = on_spot_each o (λ spot. owner_element types f p spot w st) (λ spot. of spot w)
    where
      item : (spot : Spot) (v : Which) → OnNext (on_got (buffer_of st.world.content spot) (λ b. element_at types f p v (size_of st.world.content b) (pointer_to st.world.content b 0 0) st)) Q
      item spot v = on_got_each (buffer_of st.world.content spot) (λ b. element_at types f p v (size_of st.world.content b) (pointer_to st.world.content b 0 0) st) Q (λ b. element_leaves v (size_of st.world.content b) (pointer_to st.world.content b 0 0))

      target : (o : Option ℕ) → OnNext (target_at types f p o st) Q
      target None = tt
      target (Some b) = given (pointer_to st.world.content b 0 0)

      of : (spot : Spot) (v : Which) → OnNext (owner_element types f p spot v st) Q
      of spot (which.Index r) = item spot (which.Index r)
      of spot which.First = item spot which.First
      of spot which.Last = item spot which.Last
      of spot which.Target = target (owned_at st.world.content spot)
  elements_leave (named.Pointer l) w =
      on_got_each (used st.world.content (location_cell types f l st)) (λ v. element_at types f p w (seen_count v) v st) Q (λ v. element_leaves w (seen_count v) v)

  pub cursors_leave : (b : Base) (end : RangeEnd) → OnNext (cursor types f p b end st) Q
  cursors_leave (named.Owner o) end =
      on_spot_each o (λ spot. on_got (buffer_of st.world.content spot) (λ b. pointed types f p (pointer_to st.world.content b (end_index end (size_of st.world.content b)) 0) st))
      (λ spot. on_got_each (buffer_of st.world.content spot) (λ b. pointed types f p (pointer_to st.world.content b (end_index end (size_of st.world.content b)) 0) st) Q (λ b. given (pointer_to st.world.content b (end_index end (size_of st.world.content b)) 0)))
  cursors_leave (named.Pointer l) end =
      on_got_each (used st.world.content (location_cell types f l st)) (λ v. pointed types f p (element_of st.world.content.clock (end_index end (seen_count v)) v) st) Q (λ v. given (element_of st.world.content.clock (end_index end (seen_count v)) v))

  pub advances_leave : (s : Setting) (q : Location) (r : ℕ) (way : Direction) → OnNext (advanced s types f p q r way st) Q
  advances_leave s q r way =
      on_got_each (iterator st.world.content (location_cell types f q st))
      (λ v. on_number (cell st r) (λ z. on_got (stepped s.texts st.world.content v (directed way (count_of (type_of types f r) z))) (λ i. pointed types f p (at_index st.world.content.clock i v) st))) Q
      (λ v. on_number_next (cell st r) (λ z. on_got (stepped s.texts st.world.content v (directed way (count_of (type_of types f r) z))) (λ i. pointed types f p (at_index st.world.content.clock i v) st)) Q
      (λ z. on_got_each (stepped s.texts st.world.content v (directed way (count_of (type_of types f r) z))) (λ i. pointed types f p (at_index st.world.content.clock i v) st) Q (λ i. given (at_index st.world.content.clock i v))))

  pub cuts_leave : (q : Location) (r : ℕ) (count : Option ℕ) → OnNext (cut types f p q r count st) Q
  cuts_leave q r count =
      on_got_each (used st.world.content (location_cell types f q st))
      (λ v. on_got (index_in (cell st r)) (λ i. on_got (count_in st count) (λ n. on_got (part_count (is_span (type_if types (location_type types f q))) i n (seen_count v)) (λ k. pointed types f p (part_of st.world.content.clock i k v) st)))) Q
      (λ v. on_got_each (index_in (cell st r)) (λ i. on_got (count_in st count) (λ n. on_got (part_count (is_span (type_if types (location_type types f q))) i n (seen_count v)) (λ k. pointed types f p (part_of st.world.content.clock i k v) st))) Q
      (λ i. on_got_each (count_in st count) (λ n. on_got (part_count (is_span (type_if types (location_type types f q))) i n (seen_count v)) (λ k. pointed types f p (part_of st.world.content.clock i k v) st)) Q
      (λ n. on_got_each (part_count (is_span (type_if types (location_type types f q))) i n (seen_count v)) (λ k. pointed types f p (part_of st.world.content.clock i k v) st) Q
      (λ k. given (part_of st.world.content.clock i k v)))))
