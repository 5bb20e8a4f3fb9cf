-- What reads or writes a value, makes a pointer or looks at what one sees lets what lives stay within the limit.
use Rattle.std.proofs.Common.{ℕ, Bool, true, false, cond, List, Option, Some, None}
use Rattle.std.specs.Prelude.{ℤ, pos, nat_lt}
use Rattle.life_types.specs.Types.{Types}
use Rattle.life_core.specs.declared.operand.RangeEnd.{RangeEnd}
use Rattle.life_core.specs.declared.operand.Which.{Which}
use Rattle.life_core.specs.declared.operand.Which.TheVariants as which
use Rattle.life_core.specs.Function.{Function}
use Rattle.life_core.specs.Operands.{Base, Location, Source}
use Rattle.life_core.specs.Operands as source
use Rattle.life_core.specs.Step.{Step, Live, End, Eval, Load, Save, Copy, Move, Aim, Repoint, Element, Cursor, Advance, Cut, Size, Same, Changes, Make, Call, Ports}
use Rattle.life_store.specs.Doing.{Setting, Effect, Next, Traps, Spot, aimed, cell, compared, count_in, cursor, does, element_at, locate, on_character, on_got, on_number, on_pointer, operand_word, owner_element, pointed, pointer_to, put_cell, target_at, told, type_if}
use Rattle.life_store.specs.Edits.{buffer_of, size_of}
use Rattle.life_store.specs.Iterators.{at_index, index_in}
use Rattle.life_store.specs.Parts.{location_parts, location_type}
use Rattle.life_store.specs.Places.{location_cell}
use Rattle.life_store.specs.State.{Characters, Pointer, Static, Cell, Empty, Named, Number, Points, State}
use Rattle.life_store.specs.Views.{is_span, part_count, part_of, seen_count, text_size, used}
use Rattle.life_store.specs.declared.run.TrapKind.TheVariants as trap
use Rattle.life_changes.specs.Bounded.{IsBounded}
use Rattle.life_interp.specs.Accessed.{IsAccess}
use Rattle.life_interp.proofs.Bounding.{Bounds, found_bounds, got_bounds, located, place_bounds, pointed_bounds, saved_bounded}

module _ (limit : ℕ) where
  character_bounds : (texts : List (List ℕ)) (c : Characters) (go : ℤ → Effect) → ((z : ℤ) → Bounds limit (go z)) → Bounds limit (on_character texts c go)
  character_bounds texts c go h = inside (nat_lt c.index (text_size texts c)) _
    where
      inside : (b : Bool) (z : ℤ) → Bounds limit (cond b (go z) (Traps trap.Bounds))
      inside true z = h z
      inside false z = tt

  pub number_bounds : (x : Option Cell) (go : ℤ → Effect) → ((z : ℤ) → Bounds limit (go z)) → Bounds limit (on_number x go)
  number_bounds None go h = tt
  number_bounds (Some Empty) go h = tt
  number_bounds (Some (Named n)) go h = tt
  number_bounds (Some (Number z)) go h = h z
  number_bounds (Some (Points p)) go h = tt

  pointer_bounds : (x : Option Cell) (go : Pointer → Effect) → ((p : Pointer) → Bounds limit (go p)) → Bounds limit (on_pointer x go)
  pointer_bounds None go h = tt
  pointer_bounds (Some Empty) go h = tt
  pointer_bounds (Some (Named n)) go h = tt
  pointer_bounds (Some (Number z)) go h = tt
  pointer_bounds (Some (Points p)) go h = h p

  module _ (s : Setting) (types : Types) (f : Function) (st : State) (h : IsBounded limit st.world.content) where
    points_on : (l : Location) (p : Pointer) → Bounds limit (pointed types f l p st)
    points_on l p = pointed_bounds limit types f l p st h

    aimed_bounds : (p : Location) (x : Source) → Bounds limit (aimed s types f p x st)
    aimed_bounds p source.Null = points_on p _
    aimed_bounds p (source.Text n) = points_on p _
    aimed_bounds p source.Empty = points_on p _
    aimed_bounds p (source.Place o) =
        place_bounds limit st.world.content (locate types f o st) _ _ (located types f o st) (λ n i object there. points_on p _)
        (λ c. character_bounds s.texts c (λ z. pointed types f p (at_index 0 c.index (Static c)) st) (λ z. points_on p (at_index 0 c.index (Static c))))
    aimed_bounds p (source.Whole o) = found_bounds limit st.world.content (locate types f o st) _ (located types f o st) (λ n i object there. got_bounds limit _ _ (λ b. points_on p _))
    aimed_bounds p (source.Get l) = got_bounds limit _ _ (λ spot. points_on p _)

    element_at_bounds : (p : Location) (w : Which) (size : ℕ) (base : Pointer) → Bounds limit (element_at types f p w size base st)
    element_at_bounds p w size base = got_bounds limit _ _ (λ i. points_on p _)

    target_at_bounds : (p : Location) (o : Option ℕ) → Bounds limit (target_at types f p o st)
    target_at_bounds p None = tt
    target_at_bounds p (Some n) = points_on p _

    owner_element_bounds : (p : Location) (spot : Spot) (w : Which) → Bounds limit (owner_element types f p spot w st)
    owner_element_bounds p spot which.Target = target_at_bounds p _
    owner_element_bounds p spot (which.Index r) = got_bounds limit (buffer_of st.world.content spot) (λ b. element_at types f p (which.Index r) (size_of st.world.content b) (pointer_to st.world.content b 0 0) st) (λ b. element_at_bounds p (which.Index r) (size_of st.world.content b) (pointer_to st.world.content b 0 0))
    owner_element_bounds p spot which.First = got_bounds limit (buffer_of st.world.content spot) (λ b. element_at types f p which.First (size_of st.world.content b) (pointer_to st.world.content b 0 0) st) (λ b. element_at_bounds p which.First (size_of st.world.content b) (pointer_to st.world.content b 0 0))
    owner_element_bounds p spot which.Last = got_bounds limit (buffer_of st.world.content spot) (λ b. element_at types f p which.Last (size_of st.world.content b) (pointer_to st.world.content b 0 0) st) (λ b. element_at_bounds p which.Last (size_of st.world.content b) (pointer_to st.world.content b 0 0))

    pub cursor_bounds : (p : Location) (b : Base) (end : RangeEnd) → Bounds limit (cursor types f p b end st)
    cursor_bounds p (source.Owner o) end = found_bounds limit st.world.content (locate types f o st) _ (located types f o st) (λ n i object there. got_bounds limit _ _ (λ b. points_on p _))
    cursor_bounds p (source.Pointer l) end = got_bounds limit _ _ (λ v. points_on p _)

    pub access_bounds : (i : Step) → IsAccess i → Bounds limit (does s types f i st)
    access_bounds (Live x form) access = absurd access
    access_bounds (End xs) access = absurd access
    access_bounds (Eval r o) access = absurd access
    access_bounds (Ports p) access = absurd access
    access_bounds (Load r o) access =
        place_bounds limit st.world.content (locate types f o st) _ _ (located types f o st) (λ n i object there. h)
        (λ c. character_bounds s.texts c (λ z. Next (put_cell r (Number z) st)) (λ z. h))
    access_bounds (Save o r) access =
        number_bounds (cell st r) _ (λ z. found_bounds limit st.world.content (locate types f o st) _ (located types f o st) (λ n i object there. saved_bounded limit z n i (operand_word types f o st) object st there h))
    access_bounds (Copy to from) access = absurd access
    access_bounds (Move to y) access = absurd access
    access_bounds (Aim p x) access = aimed_bounds p x
    access_bounds (Repoint p q) access = pointer_bounds _ _ (λ v. points_on p v)
    access_bounds (Element p (source.Owner o) w) access = found_bounds limit st.world.content (locate types f o st) _ (located types f o st) (λ n i object there. owner_element_bounds p _ w)
    access_bounds (Element p (source.Pointer l) w) access = got_bounds limit _ _ (λ v. element_at_bounds p w _ v)
    access_bounds (Cursor p base end) access = absurd access
    access_bounds (Advance p q r direction) access = got_bounds limit _ _ (λ v. number_bounds (cell st r) _ (λ z. got_bounds limit _ _ (λ i. points_on p _)))
    access_bounds (Cut p q r count) access =
        got_bounds limit (used st.world.content (location_cell types f q st)) (λ v. on_got (index_in (cell st r)) (λ i. on_got (count_in st count) (λ n. on_got (part_count (is_span (type_if types (location_type types f q))) i n (seen_count v)) (λ k. pointed types f p (part_of st.world.content.clock i k v) st))))
        (λ v. got_bounds limit (index_in (cell st r)) (λ i. on_got (count_in st count) (λ n. on_got (part_count (is_span (type_if types (location_type types f q))) i n (seen_count v)) (λ k. pointed types f p (part_of st.world.content.clock i k v) st)))
        (λ i. got_bounds limit (count_in st count) (λ n. on_got (part_count (is_span (type_if types (location_type types f q))) i n (seen_count v)) (λ k. pointed types f p (part_of st.world.content.clock i k v) st))
        (λ n. got_bounds limit (part_count (is_span (type_if types (location_type types f q))) i n (seen_count v)) (λ k. pointed types f p (part_of st.world.content.clock i k v) st) (λ k. points_on p (part_of st.world.content.clock i k v)))))
    access_bounds (Size r (source.Owner o)) access =
        found_bounds limit st.world.content (locate types f o st) _ (located types f o st)
        (λ n i object there. got_bounds limit (buffer_of st.world.content (record { object = n; index = i; word = operand_word types f o st })) (λ b. Next (put_cell r (Number (pos (size_of st.world.content b))) st)) (λ b. h))
    access_bounds (Size r (source.Pointer l)) access = got_bounds limit (used st.world.content (location_cell types f l st)) (λ v. Next (put_cell r (Number (pos (seen_count v))) st)) (λ v. h)
    access_bounds (Same r a b equal) access = got_bounds limit (compared s types f (location_parts types f a) a b st) (λ same. Next (put_cell r (Number (told same equal)) st)) (λ same. h)
    access_bounds (Changes o c) access = absurd access
    access_bounds (Make u m) access = absurd access
    access_bounds (Call target g xs) access = tt
