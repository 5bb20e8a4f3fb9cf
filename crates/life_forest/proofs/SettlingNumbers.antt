-- Instructions on numbers settle.
use Rattle.std.proofs.Common.{◌≡◌, ℕ, Bool, true, false, ◌&&◌, not, cond, List, [], ◌∷◌, Option, Some, Ok, Err, refl, sym, ap, subst, ◌∙◌}
use Rattle.std.proofs.lemmas.Bool.{and_parts, false≢true}
use Rattle.std.specs.Prelude.{ℤ, nat_lt, slice_set}
use Rattle.life_types.specs.TypeTests.{is_pointer, is_raw, is_value, is_view}
use Rattle.life_types.specs.Types.{Types}
use Rattle.life_types.specs.declared.ty.Ty.{Ty}
use Rattle.life_types.specs.declared.ty.Ty.TheVariants as ty
use Rattle.life_core.specs.declared.operation.Operation.{Operation}
use Rattle.life_core.specs.declared.operation.Operation.TheVariants as operation
use Rattle.life_core.specs.Function.{Function}
use Rattle.life_core.specs.Operands.{Location, Operand}
use Rattle.life_core.specs.Ready.{AreBits, IsThere, Ready}
use Rattle.life_core.specs.Step.{Port, Writes, WritesView, Takes}
use Rattle.life_core.specs.Touched.{operation_uses, place_uses, port_uses}
use Rattle.life_core.proofs.ReadyLemmas.{port_behind}
use Rattle.life_pset.specs.Shapes.{operand_type, ty_if}
use Rattle.life_proper.specs.OperandTypes.{are_compared, is_promoted, same}
use Rattle.life_proper.specs.Placed.{is_const_place, is_number, is_number_of, is_place, register_at, type_at, type_in, type_of}
use Rattle.life_proper.specs.WellFormed.{answer_of, is_operation_of, is_port}
use Rattle.life_store.specs.Doing.{compared, computed_into, evaluated, input_taken, loaded, number_text, on_character, on_view, port, same_into, saved, told, with_output}
use Rattle.life_store.specs.Effects.{Setting, Effect, Next, Traps, Strays, Got, cell, converted, on_number, put_cell, then_get, type_of as ty_of_local}
use Rattle.life_store.specs.Iterators.{is_one_object, iterator, same_position, standing}
use Rattle.life_store.specs.Numbers.{Computed, combined, is_zero, negated, truth}
use Rattle.life_store.specs.Parts.{Parts, Single, Raw, Iterates, Views, Text, Vector, Unique, Member, NoMember, location_parts}
use Rattle.life_store.specs.Places.{locate, location_cell, operand_word, on_found}
use Rattle.life_store.specs.State.{Characters, Pointer, Cell, Number, Points, State, ready_of}
use Rattle.life_store.specs.Views.{are_same, seen_bytes, text_size, usable, used}
use Rattle.life_store.specs.declared.run.TrapKind.TheVariants as trap
use Rattle.life_forest.specs.Settled.{IsPoised, Settles}
use Rattle.life_forest.specs.Sorted.{PointerFits}
use Rattle.life_forest.proofs.ReadyCells.{location_pointer, number_any, number_cell, place_well}
use Rattle.life_forest.proofs.TypedSteps.{if_there, value_solid}
use Rattle.life_forest.proofs.Settling.{IsUsed, Well, number_settles, settle_got, settle_number, settle_place, standing_well, used_well, well_if, well_then}

pub text_settles : (types : Types) (f : Function) (bits : Ready) (texts : List (List ℕ)) (s : Characters) (go : ℤ → Effect) → ((z : ℤ) → Settles types f bits (go z)) → Settles types f bits (on_character texts s go)
text_settles types f bits texts s go each = go_if (nat_lt s.index (text_size texts s)) _
  where
    go_if : (b : Bool) (z : ℤ) → Settles types f bits (cond b (go z) (Traps trap.Bounds))
    go_if true z = each z
    go_if false z = tt

module _ (types : Types) (texts : ℕ) (fs : List Function) (f : Function) (st : State) (at_point : IsPoised types f st) where
  abbrev behind : ℕ → Ready
  behind r = slice_set (ready_of st) r true

  given : (r : ℕ) (z : ℤ) → is_number types f r ≡ true → Settles types f (behind r) (Next (put_cell r (Number z) st))
  given r z is = number_settles types f st r z at_point.sorted is

  computed_settles : (r : ℕ) (computed : Computed) → is_number types f r ≡ true → Settles types f (behind r) (computed_into r computed st)
  computed_settles r (Ok z) is = given r z is
  computed_settles r (Err kind) is = tt

  pub evaluated_settles : (r : ℕ) (o : Operation) → is_number types f r ≡ true → is_operation_of types texts fs f (type_at types f r) o ≡ true → AreBits true (ready_of st) (operation_uses o) → Settles types f (behind r) (evaluated types f r o st)
  evaluated_settles r (operation.Number z) is e uses = given r z is
  evaluated_settles r (operation.Convert q) is e uses =
      let z = number_cell types f st at_point q e uses.0 in
      settle_number types f (behind r) (cell st q) (λ z. Next (put_cell r (Number (converted (ty_of_local types f r) z)) st)) z.0 z.1 (given r _ is)
  evaluated_settles r (operation.Negate q) is e uses =
      let z = number_cell types f st at_point q (number_any types f (type_at types f r) q (and_parts (is_promoted (type_at types f r)) _ e).1) uses.0 in
      settle_number types f (behind r) (cell st q) (λ z. computed_into r (negated (ty_of_local types f r) z) st) z.0 z.1 (computed_settles r (negated (ty_of_local types f r) z.0) is)
  evaluated_settles r (operation.IsZero q) is e uses =
      let z = number_cell types f st at_point q (and_parts (same (type_at types f r) ty.Bool) (is_number types f q) e).1 uses.0 in
      settle_number types f (behind r) (cell st q) (λ z. computed_into r (truth (is_zero z)) st) z.0 z.1 (computed_settles r (truth (is_zero z.0)) is)
  evaluated_settles r (operation.Binary operator a b) is e uses =
      let of = type_at types f a in
      let outer = and_parts (is_promoted of) (is_number_of types f of a && (is_number_of types f of b && same (type_at types f r) (answer_of operator of))) e in
      let left = and_parts (is_number_of types f of a) (is_number_of types f of b && same (type_at types f r) (answer_of operator of)) outer.1 in
      let right = and_parts (is_number_of types f of b) (same (type_at types f r) (answer_of operator of)) left.1 in
      let x = number_cell types f st at_point a (number_any types f of a left.0) uses.0 in
      let y = number_cell types f st at_point b (number_any types f of b right.0) uses.1.0 in
      settle_number types f (behind r) (cell st a) (λ x. on_number (cell st b) (λ y. computed_into r (combined (ty_of_local types f a) operator x y) st)) x.0 x.1
      (settle_number types f (behind r) (cell st b) (λ y. computed_into r (combined (ty_of_local types f a) operator x.0 y) st) y.0 y.1 (computed_settles r (combined (ty_of_local types f a) operator x.0 y.0) is))

  -- ---- values in memory

  value_place : (o : Operand) (r : ℕ) → is_number_of types f (type_of types f o) r ≡ true → is_place types f o ≡ true
  value_place o r e =
      let value = (and_parts (is_value (type_of types f o)) _ (and_parts (register_at types f r) _ e).1).0 in
      (if_there (is_place types f o) (ty_if types (operand_type types f o)) (type_of types f o) refl (value_solid (type_of types f o) value)).0

  pub loaded_settles : (s : Setting) (r : ℕ) (o : Operand) → is_number_of types f (type_of types f o) r ≡ true → AreBits true (ready_of st) (place_uses o) → Settles types f (behind r) (loaded s types f r o st)
  loaded_settles s r o e uses =
      let is = number_any types f (type_of types f o) r e in
      settle_place types f (behind r) o (locate types f o st) (λ n i object. Next (put_cell r (Number _) st)) (λ c. on_character s.texts c (λ z. Next (put_cell r (Number z) st)))
      (place_well types f st at_point o (value_place o r e) uses) (λ n i object. given r _ is) (λ c const. text_settles types f (behind r) s.texts c (λ z. Next (put_cell r (Number z) st)) (λ z. given r z is))

  pub saves_settle : (o : Operand) (r : ℕ) → is_number_of types f (type_of types f o) r ≡ true → not (is_const_place types f o) ≡ true → AreBits true (ready_of st) (r ∷ place_uses o)
      → Settles types f (ready_of st) (on_number (cell st r) (λ z. on_found (locate types f o st) (λ n i object. Next (saved z n i (operand_word types f o st) object st))))
  saves_settle o r e free uses =
      let z = number_cell types f st at_point r (number_any types f (type_of types f o) r e) uses.0 in
      settle_number types f (ready_of st) (cell st r) (λ z. on_found (locate types f o st) (λ n i object. Next (saved z n i (operand_word types f o st) object st))) z.0 z.1
      (settle_place types f (ready_of st) o (locate types f o st) (λ n i object. Next (saved z.0 n i (operand_word types f o st) object st)) (λ c. Strays) (place_well types f st at_point o (value_place o r e) uses.1)
      (λ n i object. (refl, at_point.sorted)) (λ c const. false≢true (sym (ap not const) ∙ free)))

  -- ---- what goes out and comes in

  port_value : (s : Setting) (r : ℕ) → is_number types f r ≡ true → IsThere (ready_of st) r → Settles types f (ready_of st) (port s types f (Writes r) st)
  port_value s r is there =
      let z = number_cell types f st at_point r is there in
      settle_number types f (ready_of st) (cell st r) (λ z. Next (with_output (number_text (ty_of_local types f r) z) st)) z.0 z.1 (refl, at_point.sorted)

  pub ports_settle : (s : Setting) (p : Port) → is_port types texts fs f p ≡ true → AreBits true (ready_of st) (port_uses p) → Settles types f (port_behind p (ready_of st)) (port s types f p st)
  ports_settle s (Writes r) e uses = port_value s r e uses.0
  ports_settle s (WritesView l) e uses =
      let p = location_pointer types f st at_point l (view_pointer (type_in types f l) e) uses.0 in
      subst (λ (v : Option Cell). Settles types f (ready_of st) (on_view s st.world.content v (λ text. Next (with_output text st)))) (sym p.1)
      (settle_got types f (ready_of st) (usable st.world.content p.0) (λ v. Next (with_output (seen_bytes s.texts st.world.content v) st)) (IsUsed (type_in types f l))
      (used_well st.world.content (type_in types f l) (view_other (type_in types f l) e) p.0 (at_point.pointers l p.0 (view_pointer (type_in types f l) e) p.1)) (λ v h. (refl, at_point.sorted)))
    where
      view_pointer : (t : Ty) → is_view t ≡ true → is_pointer t ≡ true
      view_pointer ty.View h = refl
      view_pointer _ h = absurd (false≢true h)

      view_other : (t : Ty) → is_view t ≡ true → is_raw t ≡ false
      view_other ty.View h = refl
      view_other _ h = absurd (false≢true h)
  ports_settle s (Takes r) e uses = go st.world.input
    where
      go : (input : List ℤ) → Settles types f (behind r) (input_taken r input st)
      go [] = tt
      go (z ∷ zs) = number_settles types f (record st { world = record (st.world) { input = zs } }) r _ at_point.sorted (number_any types f ty.Long r e)

  -- ---- comparisons

  pub sames_settle : (s : Setting) (r : ℕ) (a b : Location) (equal : Bool) → is_number_of types f ty.Bool r ≡ true → are_compared types (type_in types f a) (type_in types f b) ≡ true → AreBits true (ready_of st) (a.local ∷ b.local ∷ [])
      → Settles types f (behind r) (same_into s types f r a b equal st)
  sames_settle s r a b equal number e uses =
      let k = kinds (type_in types f a) (type_in types f b) e in
      let p = location_pointer types f st at_point a k.0.0 uses.0 in
      let q = location_pointer types f st at_point b k.1.0 uses.1.0 in
      let p_fits = at_point.pointers a p.0 k.0.0 p.1 in
      let q_fits = at_point.pointers b q.0 k.1.0 q.1 in
      settle_got types f (behind r) (compared s types f (location_parts types f a) a b st) (λ same. Next (put_cell r (Number (told same equal)) st)) (λ same. Unit {0})
      (by_parts (location_parts types f a) p.0 q.0 p.1 q.1 k.0.1 k.1.1 p_fits q_fits)
      (λ same h. given r _ (number_any types f ty.Bool r number))
    where
      kinds : (t u : Ty) → are_compared types t u ≡ true → ((is_pointer t ≡ true) × (is_raw t ≡ false)) × ((is_pointer u ≡ true) × (is_raw u ≡ false))
      kinds (ty.Iterator t c) (ty.Iterator u d) h = ((refl, refl), (refl, refl))
      kinds ty.View ty.View h = ((refl, refl), (refl, refl))
      kinds _ _ h = absurd (false≢true h)

      positions : (v w : Pointer) → Well (same_position v w) (λ same. Unit {0})
      positions v w = well_if (is_one_object v w) _ _ (λ same. Unit {0}) tt tt

      iterators : (p q : Pointer) → location_cell types f a st ≡ Some (Points p) → location_cell types f b st ≡ Some (Points q) → is_raw (type_in types f a) ≡ false → is_raw (type_in types f b) ≡ false → PointerFits (type_in types f a) p → PointerFits (type_in types f b) q
          → Well (then_get (iterator st.world.content (location_cell types f a st)) (λ v. then_get (iterator st.world.content (location_cell types f b st)) (λ w. same_position v w))) (λ same. Unit {0})
      iterators p q at_a at_b raw_a raw_b fits_a fits_b =
          subst (λ (x : Option Cell). Well (then_get (iterator st.world.content x) (λ v. then_get (iterator st.world.content (location_cell types f b st)) (λ w. same_position v w))) (λ same. Unit {0})) (sym at_a)
          (subst (λ (y : Option Cell). Well (then_get (iterator st.world.content (Some (Points p))) (λ v. then_get (iterator st.world.content y) (λ w. same_position v w))) (λ same. Unit {0})) (sym at_b)
          (well_then (standing st.world.content p) (λ v. then_get (standing st.world.content q) (λ w. same_position v w)) (IsUsed (type_in types f a)) (λ same. Unit {0}) (standing_well st.world.content (type_in types f a) raw_a p fits_a)
          (λ v h. well_then (standing st.world.content q) (λ w. same_position v w) (IsUsed (type_in types f b)) (λ same. Unit {0}) (standing_well st.world.content (type_in types f b) raw_b q fits_b) (λ w k. positions v w))))

      by_parts : (x : Parts) (p q : Pointer) → location_cell types f a st ≡ Some (Points p) → location_cell types f b st ≡ Some (Points q) → is_raw (type_in types f a) ≡ false → is_raw (type_in types f b) ≡ false → PointerFits (type_in types f a) p → PointerFits (type_in types f b) q
          → Well (compared s types f x a b st) (λ same. Unit {0})
      by_parts Views p q at_a at_b raw_a raw_b fits_a fits_b =
          subst (λ (x : Option Cell). Well (then_get (used st.world.content x) (λ v. then_get (used st.world.content (location_cell types f b st)) (λ w. Got (are_same (seen_bytes s.texts st.world.content v) (seen_bytes s.texts st.world.content w))))) (λ same. Unit {0})) (sym at_a)
          (subst (λ (y : Option Cell). Well (then_get (used st.world.content (Some (Points p))) (λ v. then_get (used st.world.content y) (λ w. Got (are_same (seen_bytes s.texts st.world.content v) (seen_bytes s.texts st.world.content w))))) (λ same. Unit {0})) (sym at_b)
          (well_then (usable st.world.content p) (λ v. then_get (usable st.world.content q) (λ w. Got (are_same (seen_bytes s.texts st.world.content v) (seen_bytes s.texts st.world.content w)))) (IsUsed (type_in types f a)) (λ same. Unit {0}) (used_well st.world.content (type_in types f a) raw_a p fits_a)
          (λ v h. well_then (usable st.world.content q) (λ w. Got (are_same (seen_bytes s.texts st.world.content v) (seen_bytes s.texts st.world.content w))) (IsUsed (type_in types f b)) (λ same. Unit {0}) (used_well st.world.content (type_in types f b) raw_b q fits_b) (λ w k. tt))))
      by_parts Single p q at_a at_b raw_a raw_b fits_a fits_b = iterators p q at_a at_b raw_a raw_b fits_a fits_b
      by_parts Raw p q at_a at_b raw_a raw_b fits_a fits_b = iterators p q at_a at_b raw_a raw_b fits_a fits_b
      by_parts Iterates p q at_a at_b raw_a raw_b fits_a fits_b = iterators p q at_a at_b raw_a raw_b fits_a fits_b
      by_parts (Text id) p q at_a at_b raw_a raw_b fits_a fits_b = iterators p q at_a at_b raw_a raw_b fits_a fits_b
      by_parts (Vector id element) p q at_a at_b raw_a raw_b fits_a fits_b = iterators p q at_a at_b raw_a raw_b fits_a fits_b
      by_parts (Unique id target) p q at_a at_b raw_a raw_b fits_a fits_b = iterators p q at_a at_b raw_a raw_b fits_a fits_b
      by_parts (Member first others) p q at_a at_b raw_a raw_b fits_a fits_b = iterators p q at_a at_b raw_a raw_b fits_a fits_b
      by_parts NoMember p q at_a at_b raw_a raw_b fits_a fits_b = iterators p q at_a at_b raw_a raw_b fits_a fits_b
