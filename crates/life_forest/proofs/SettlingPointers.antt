-- Instructions that make pointers from pointers settle.
use Rattle.std.proofs.Common.{◌≡◌, ℕ, zero, suc, ◌+◌, Bool, true, false, if◌then◌else◌, ◌∷◌, ◌++◌, Option, Some, None, refl, sym, ap, subst, ◌∙◌}
use Rattle.std.proofs.lemmas.Bool.{and_parts, false≢true}
use Rattle.std.specs.Prelude.{ℤ, pos, negsuc, ◌+ℤ◌, nat_le, nat_lt}
use Rattle.life_types.specs.Pointees.{ty_of}
use Rattle.life_types.specs.TypeTests.{is_constant, is_iterator, is_pointer, is_raw, is_view}
use Rattle.life_types.specs.Types.{Types}
use Rattle.life_types.specs.declared.ty.Ty.{Ty}
use Rattle.life_types.specs.declared.ty.Ty.TheVariants as ty
use Rattle.life_core.specs.declared.instr.Direction.{Direction}
use Rattle.life_core.specs.declared.operand.RangeEnd.{RangeEnd}
use Rattle.life_core.specs.declared.operand.Which.{Which}
use Rattle.life_core.specs.declared.operand.Which.TheVariants as which
use Rattle.life_core.specs.Function.{Function}
use Rattle.life_core.specs.Operands.{Base, Location}
use Rattle.life_core.specs.Operands as source
use Rattle.life_core.specs.Ready.{AreBits, IsThere, Ready, set_bits}
use Rattle.life_core.specs.Touched.{count_uses, part_uses, which_uses, written}
use Rattle.life_core.proofs.ReadyLemmas.{bits_left, bits_right}
use Rattle.life_proper.specs.OperandTypes.{aims_at, are_alike, is_range, keeps_const, seen_element, takes, walks}
use Rattle.life_proper.specs.Placed.{is_number, is_number_of, is_number_of_if, type_in, type_of_element}
use Rattle.life_proper.specs.Placed as placed
use Rattle.life_proper.proofs.HeldSorts.{same_void}
use Rattle.life_store.specs.Doing.{advanced, count_in, cursor, cut, element, element_at, type_if}
use Rattle.life_store.specs.Effects.{Setting, Got, GotTrap, cell, on_got, on_number, on_pointer, type_of}
use Rattle.life_store.specs.Iterators.{at_index, below, below_if, chosen, count_of, directed, element_of, end_index, index_in, iterator, last_of, start_of, stepped, up_to}
use Rattle.life_store.specs.Parts.{location_type}
use Rattle.life_store.specs.Places.{location_cell, pointed}
use Rattle.life_store.specs.State.{Pointer, Null, Wild, To, Static, Cell, Number, State, ready_of}
use Rattle.life_store.specs.Views.{is_span, part_count, part_of, seen_count, used}
use Rattle.life_store.specs.declared.run.TrapKind.TheVariants as trap
use Rattle.life_forest.specs.Settled.{IsPoised, Settles}
use Rattle.life_forest.specs.Sorted.{PointerFits}
use Rattle.life_forest.proofs.ReadyCells.{location_pointer, number_any, number_cell}
use Rattle.life_forest.proofs.Settling.{IsUsed, Well, index_used, part_used, ready_pointed, settle_got, settle_number, settle_pointer, standing_well, static_kept, used_fits, used_well, well_if, well_then}

-- ---- positions

index_well : (o : Option Cell) (z : ℤ) → o ≡ Some (Number z) → Well (index_in o) (λ i. Unit {0})
index_well o z e = subst (λ (v : Option Cell). Well (index_in v) (λ i. Unit {0})) (sym e) tt

below_well : (i size : ℕ) → Well (below i size) (λ i. Unit {0})
below_well i size = well_if (nat_lt i size) (Got i) (GotTrap trap.Bounds) (λ i. Unit {0}) tt tt

last_well : (size : ℕ) → Well (last_of size) (λ i. Unit {0})
last_well zero = tt
last_well (suc n) = tt

up_well : (size : ℕ) (z : ℤ) → Well (up_to size z) (λ i. Unit {0})
up_well size (pos n) = well_if (nat_le n size) (Got n) (GotTrap trap.Bounds) (λ i. Unit {0}) tt tt
up_well size (negsuc n) = tt

stepped_well : (t : Ty) (s : Setting) (st : State) (v : Pointer) (z : ℤ) → IsUsed t v → Well (stepped s.texts st.world.content v z) (λ i. Unit {0})
stepped_well t s st Null z is = is
stepped_well t s st Wild z is = is
stepped_well t s st (To target) z is = up_well _ (pos target.index +ℤ z)
stepped_well t s st (Static c) z is = up_well _ (pos c.index +ℤ z)

part_well : (span : Bool) (i : ℕ) (n : Option ℕ) (count : ℕ) → Well (part_count span i n count) (λ k. Unit {0})
part_well span i None count = well_if (nat_le i count) _ _ (λ k. Unit {0}) tt tt
part_well true i (Some n) count = well_if (nat_le (i + n) count) _ _ (λ k. Unit {0}) tt tt
part_well false i (Some n) count = well_if (nat_le i count) _ _ (λ k. Unit {0}) tt tt

-- ---- kinds of pointers

-- what a raw pointer takes is one
pub alike_raw : (types : Types) (t u : Ty) → are_alike types t u ≡ true → is_raw u ≡ is_raw t
alike_raw types (ty.Raw t c) (ty.Raw u d) e = refl
alike_raw types (ty.Reference t c) (ty.Reference u d) e = refl
alike_raw types (ty.Iterator t c) (ty.Iterator u d) e = refl
alike_raw types (ty.Span t c) (ty.Span u d) e = refl
alike_raw types ty.View ty.View e = refl
alike_raw types _ _ e = absurd (false≢true e)

pub alike_points : (types : Types) (t u : Ty) → are_alike types t u ≡ true → (is_pointer t ≡ true) × (is_pointer u ≡ true)
alike_points types (ty.Raw t c) (ty.Raw u d) e = (refl, refl)
alike_points types (ty.Reference t c) (ty.Reference u d) e = (refl, refl)
alike_points types (ty.Iterator t c) (ty.Iterator u d) e = (refl, refl)
alike_points types (ty.Span t c) (ty.Span u d) e = (refl, refl)
alike_points types ty.View ty.View e = (refl, refl)
alike_points types _ _ e = absurd (false≢true e)

-- .. and what a view takes
pub alike_view : (types : Types) (t u : Ty) → are_alike types t u ≡ true → is_view t ≡ true → is_view u ≡ true
alike_view types ty.View ty.View e view = refl
alike_view types (ty.Raw t c) (ty.Raw u d) e view = absurd (false≢true view)
alike_view types (ty.Reference t c) (ty.Reference u d) e view = absurd (false≢true view)
alike_view types (ty.Iterator t c) (ty.Iterator u d) e view = absurd (false≢true view)
alike_view types (ty.Span t c) (ty.Span u d) e view = absurd (false≢true view)
alike_view types _ _ e view = absurd (false≢true e)

pub alike_fits : (types : Types) (t u : Ty) (p : Pointer) → are_alike types t u ≡ true → keeps_const (is_constant t) (is_constant u) ≡ true → PointerFits u p → PointerFits t p
alike_fits types t u Null alike keeps fits = sym (alike_raw types t u alike) ∙ fits
alike_fits types t u Wild alike keeps fits = tt
alike_fits types t u (To target) alike keeps fits = λ e. fits (alike_view types t u alike e)
alike_fits types t u (Static s) alike keeps fits = static_kept u t s.text keeps fits

pub iterator_other : (t : Ty) → is_iterator t ≡ true → is_raw t ≡ false
iterator_other (ty.Iterator target constant) e = refl
iterator_other _ e = absurd (false≢true e)

pub range_other : (t : Ty) → is_range t ≡ true → is_raw t ≡ false
range_other (ty.Span target constant) e = refl
range_other ty.View e = refl
range_other _ e = absurd (false≢true e)

pub aims_points : (types : Types) (t u : Ty) → aims_at types t u ≡ true → is_pointer t ≡ true
aims_points types (ty.Raw target constant) u e = refl
aims_points types (ty.Reference target constant) u e = refl
aims_points types _ u e = absurd (false≢true e)

pub aims_solid : (types : Types) (t : Ty) → aims_at types t ty.Void ≡ true → ⊥
aims_solid types (ty.Raw target constant) e = same_void (ty_of types target) e
aims_solid types (ty.Reference target constant) e = same_void (ty_of types target) e
aims_solid types _ e = false≢true e

-- .. and is no view
pub aims_unviewed : (types : Types) (t u : Ty) → aims_at types t u ≡ true → is_view t ≡ true → ⊥
aims_unviewed types (ty.Raw target constant) u e view = false≢true view
aims_unviewed types (ty.Reference target constant) u e view = false≢true view
aims_unviewed types _ u e view = false≢true e

pub walks_points : (types : Types) (t u : Ty) → walks types t u ≡ true → is_pointer t ≡ true
walks_points types (ty.Iterator target constant) u e = refl
walks_points types _ u e = absurd (false≢true e)

pub walks_solid : (types : Types) (t : Ty) → walks types t ty.Void ≡ true → ⊥
walks_solid types (ty.Iterator target constant) e = same_void (ty_of types target) e
walks_solid types _ e = false≢true e

pub walks_unviewed : (types : Types) (t u : Ty) → walks types t u ≡ true → is_view t ≡ true → ⊥
walks_unviewed types (ty.Iterator target constant) u e view = false≢true view
walks_unviewed types _ u e view = false≢true e

-- what has elements that are seen is a span or a view
pub seen_range : (types : Types) (t : Ty) → (seen_element types t ≡ ty.Void → ⊥) → (is_pointer t ≡ true) × (is_raw t ≡ false)
seen_range types ty.View some = (refl, refl)
seen_range types (ty.Span target constant) some = (refl, refl)
seen_range types _ some = absurd (some refl)

module _ (types : Types) (f : Function) (st : State) (at_point : IsPoised types f st) where
  abbrev behind : Location → Ready
  behind p = set_bits true (written p) (ready_of st)

  pub given : (p : Location) (v : Pointer) → is_pointer (type_in types f p) ≡ true → PointerFits (type_in types f p) v → AreBits true (ready_of st) (part_uses p) → Settles types f (behind p) (pointed types f p v st)
  given p v is fits uses = ready_pointed types f st at_point st.world.content p v is fits uses

  -- ---- the pointer that stands at a location is used

  pub used_at : (l : Location) (t : Ty) → type_in types f l ≡ t → is_pointer t ≡ true → is_raw t ≡ false → IsThere (ready_of st) l.local → Well (used st.world.content (location_cell types f l st)) (IsUsed t)
  used_at l t e is other there =
      let pointer : is_pointer (type_in types f l) ≡ true = ap is_pointer e ∙ is in
      let p = location_pointer types f st at_point l pointer there in
      subst (λ (v : Option Cell). Well (used st.world.content v) (IsUsed t)) (sym p.1)
      (used_well st.world.content t other p.0 (subst (λ (u : Ty). PointerFits u p.0) e (at_point.pointers l p.0 pointer p.1)))

  pub iterator_at : (l : Location) → is_pointer (type_in types f l) ≡ true → is_raw (type_in types f l) ≡ false → IsThere (ready_of st) l.local → Well (iterator st.world.content (location_cell types f l st)) (IsUsed (type_in types f l))
  iterator_at l is other there =
      let p = location_pointer types f st at_point l is there in
      subst (λ (v : Option Cell). Well (iterator st.world.content v) (IsUsed (type_in types f l))) (sym p.1)
      (standing_well st.world.content (type_in types f l) other p.0 (at_point.pointers l p.0 is p.1))

  -- ---- from another pointer

  pub repoints_settle : (p q : Location) → takes types (type_in types f p) (type_in types f q) ≡ true → AreBits true (ready_of st) (q.local ∷ part_uses p) → Settles types f (behind p) (on_pointer (location_cell types f q st) (λ v. pointed types f p v st))
  repoints_settle p q e uses =
      let both = and_parts (are_alike types (type_in types f p) (type_in types f q)) (keeps_const (is_constant (type_in types f p)) (is_constant (type_in types f q))) e in
      let points = alike_points types (type_in types f p) (type_in types f q) both.0 in
      let v = location_pointer types f st at_point q points.1 uses.0 in
      settle_pointer types f (behind p) (location_cell types f q st) (λ v. pointed types f p v st) v.0 v.1
      (given p v.0 points.0 (alike_fits types (type_in types f p) (type_in types f q) v.0 both.0 both.1 (at_point.pointers q v.0 points.1 v.1)) uses.1)

  pub advances_settle : (s : Setting) (p q : Location) (r : ℕ) (way : Direction) → is_iterator (type_in types f p) ≡ true → takes types (type_in types f p) (type_in types f q) ≡ true → is_number types f r ≡ true
      → AreBits true (ready_of st) (q.local ∷ r ∷ part_uses p) → Settles types f (behind p) (advanced s types f p q r way st)
  advances_settle s p q r way is e number uses =
      let both = and_parts (are_alike types (type_in types f p) (type_in types f q)) (keeps_const (is_constant (type_in types f p)) (is_constant (type_in types f q))) e in
      let points = alike_points types (type_in types f p) (type_in types f q) both.0 in
      let z = number_cell types f st at_point r number uses.1.0 in
      settle_got types f (behind p) (iterator st.world.content (location_cell types f q st))
      (λ v. on_number (cell st r) (λ z. on_got (stepped s.texts st.world.content v (directed way (count_of (type_of types f r) z))) (λ i. pointed types f p (at_index st.world.content.clock i v) st))) (IsUsed (type_in types f q))
      (iterator_at q points.1 (alike_raw types (type_in types f p) (type_in types f q) both.0 ∙ iterator_other (type_in types f p) is) uses.0)
      (λ v h. settle_number types f (behind p) (cell st r) (λ z. on_got (stepped s.texts st.world.content v (directed way (count_of (type_of types f r) z))) (λ i. pointed types f p (at_index st.world.content.clock i v) st)) z.0 z.1
      (settle_got types f (behind p) (stepped s.texts st.world.content v (directed way (count_of (type_of types f r) z.0))) (λ i. pointed types f p (at_index st.world.content.clock i v) st) (λ i. Unit {0})
      (stepped_well (type_in types f q) s st v (directed way (count_of (type_of types f r) z.0)) h)
      (λ i k. given p (at_index st.world.content.clock i v) points.0 (used_fits (type_in types f q) (type_in types f p) (at_index st.world.content.clock i v) both.1 (alike_view types (type_in types f p) (type_in types f q) both.0) (index_used (type_in types f q) st.world.content.clock i v h)) uses.1.1)))

  count_well : (count : Option ℕ) → is_number_of_if types f ty.Size count ≡ true → AreBits true (ready_of st) (count_uses count) → Well (count_in st count) (λ n. Unit {0})
  count_well None e uses = tt
  count_well (Some r) e uses =
      let z = number_cell types f st at_point r (number_any types f ty.Size r e) uses.0 in
      well_then (index_in (cell st r)) (λ n. Got (Some n)) (λ i. Unit {0}) (λ n. Unit {0}) (index_well (cell st r) z.0 z.1) (λ i h. tt)

  pub cuts_settle : (p q : Location) (r : ℕ) (count : Option ℕ) → is_range (type_in types f p) ≡ true → takes types (type_in types f p) (type_in types f q) ≡ true → is_number_of types f ty.Size r ≡ true → is_number_of_if types f ty.Size count ≡ true
      → AreBits true (ready_of st) (q.local ∷ r ∷ (count_uses count ++ part_uses p)) → Settles types f (behind p) (cut types f p q r count st)
  cuts_settle p q r count is e number counted uses =
      let both = and_parts (are_alike types (type_in types f p) (type_in types f q)) (keeps_const (is_constant (type_in types f p)) (is_constant (type_in types f q))) e in
      let points = alike_points types (type_in types f p) (type_in types f q) both.0 in
      let z = number_cell types f st at_point r (number_any types f ty.Size r number) uses.1.0 in
      let last = bits_right true (ready_of st) (count_uses count) (part_uses p) uses.1.1 in
      settle_got types f (behind p) (used st.world.content (location_cell types f q st))
      (λ v. on_got (index_in (cell st r)) (λ i. on_got (count_in st count) (λ n. on_got (part_count (is_span (type_if types (location_type types f q))) i n (seen_count v)) (λ k. pointed types f p (part_of st.world.content.clock i k v) st))))
      (IsUsed (type_in types f q)) (used_at q (type_in types f q) refl points.1 (alike_raw types (type_in types f p) (type_in types f q) both.0 ∙ range_other (type_in types f p) is) uses.0)
      (λ v h. settle_got types f (behind p) (index_in (cell st r)) (λ i. on_got (count_in st count) (λ n. on_got (part_count (is_span (type_if types (location_type types f q))) i n (seen_count v)) (λ k. pointed types f p (part_of st.world.content.clock i k v) st))) (λ i. Unit {0})
      (index_well (cell st r) z.0 z.1)
      (λ i j. settle_got types f (behind p) (count_in st count) (λ n. on_got (part_count (is_span (type_if types (location_type types f q))) i n (seen_count v)) (λ k. pointed types f p (part_of st.world.content.clock i k v) st)) (λ n. Unit {0})
      (count_well count counted (bits_left true (ready_of st) (count_uses count) (part_uses p) uses.1.1))
      (λ n m. settle_got types f (behind p) (part_count (is_span (type_if types (location_type types f q))) i n (seen_count v)) (λ k. pointed types f p (part_of st.world.content.clock i k v) st) (λ k. Unit {0})
      (part_well (is_span (type_if types (location_type types f q))) i n (seen_count v))
      (λ k x. given p (part_of st.world.content.clock i k v) points.0 (used_fits (type_in types f q) (type_in types f p) (part_of st.world.content.clock i k v) both.1 (alike_view types (type_in types f p) (type_in types f q) both.0) (part_used (type_in types f q) st.world.content.clock i k v h)) last))))

  -- ---- at an element, or one of two ends

  chosen_well : (w : Which) (size : ℕ) → (w ≡ which.Target → ⊥) → AreBits true (ready_of st) (which_uses w) → ((r : ℕ) → w ≡ which.Index r → is_number_of types f ty.Size r ≡ true) → Well (chosen st w size) (λ i. Unit {0})
  chosen_well (which.Index r) size some uses number =
      let z = number_cell types f st at_point r (number_any types f ty.Size r (number r refl)) uses.0 in
      subst (λ (v : Option Cell). Well (below_if (index_in v) size) (λ i. Unit {0})) (sym z.1) (below_well _ size)
  chosen_well which.First size some uses number = below_well 0 size
  chosen_well which.Last size some uses number = last_well size
  chosen_well which.Target size some uses number = absurd (some refl)

  -- .. of what is used, or of a new pointer to a buffer
  pub element_settles : (p : Location) (t : Ty) (w : Which) (size : ℕ) (base : Pointer) → is_pointer (type_in types f p) ≡ true → keeps_const (is_constant (type_in types f p)) (is_constant t) ≡ true → (is_view (type_in types f p) ≡ true → is_view t ≡ true) → IsUsed t base → (w ≡ which.Target → ⊥)
      → ((r : ℕ) → w ≡ which.Index r → is_number_of types f ty.Size r ≡ true) → AreBits true (ready_of st) (which_uses w ++ part_uses p) → Settles types f (behind p) (element_at types f p w size base st)
  element_settles p t w size base pointer keeps views is some number uses =
      settle_got types f (behind p) (chosen st w size) (λ i. pointed types f p (element_of st.world.content.clock i base) st) (λ i. Unit {0})
      (chosen_well w size some (bits_left true (ready_of st) (which_uses w) (part_uses p) uses) number)
      (λ i h. given p (element_of st.world.content.clock i base) pointer (used_fits t (type_in types f p) (element_of st.world.content.clock i base) keeps views (index_used t st.world.content.clock (start_of base + i) base is)) (bits_right true (ready_of st) (which_uses w) (part_uses p) uses))

  pub indexed : (p : Location) (b : Base) (w : Which) → aims_at types (type_in types f p) (type_of_element types f b w) ≡ true → (r : ℕ) → w ≡ which.Index r → is_number_of types f ty.Size r ≡ true
  indexed p b (which.Index q) e r is = subst (λ x. is_number_of types f ty.Size x ≡ true) (same_index q r is) (go (is_number_of types f ty.Size q) e)
    where
      same_index : (q r : ℕ) → which.Index q ≡ which.Index r → q ≡ r
      same_index q r k = cc

      go : (x : Bool) → aims_at types (type_in types f p) (if x then placed.element_of types f b else ty.Void) ≡ true → x ≡ true
      go true h = refl
      go false h = absurd (aims_solid types (type_in types f p) h)
  indexed p b which.First e r is = absurd (unlike is)
    where
      unlike : which.First ≡ which.Index r → ⊥
      unlike k = cc
  indexed p b which.Last e r is = absurd (unlike is)
    where
      unlike : which.Last ≡ which.Index r → ⊥
      unlike k = cc
  indexed p b which.Target e r is = absurd (unlike is)
    where
      unlike : which.Target ≡ which.Index r → ⊥
      unlike k = cc

  at_void : (p l : Location) → aims_at types (type_in types f p) (seen_element types (type_in types f l)) ≡ true → seen_element types (type_in types f l) ≡ ty.Void → ⊥
  at_void p l h void = aims_solid types (type_in types f p) (subst (λ (u : Ty). aims_at types (type_in types f p) u ≡ true) void h)

  -- what has elements that are pointed to is a span or a view
  no_element : (p l : Location) (w : Which) → aims_at types (type_in types f p) (type_of_element types f (source.Pointer l) w) ≡ true → seen_element types (type_in types f l) ≡ ty.Void → ⊥
  no_element p l (which.Index r) h void = go (is_number_of types f ty.Size r) h
    where
      go : (x : Bool) → aims_at types (type_in types f p) (if x then seen_element types (type_in types f l) else ty.Void) ≡ true → ⊥
      go true k = at_void p l k void
      go false k = aims_solid types (type_in types f p) k
  no_element p l which.First h void = at_void p l h void
  no_element p l which.Last h void = at_void p l h void
  no_element p l which.Target h void = aims_solid types (type_in types f p) h

  pub seen_element_range : (p l : Location) (w : Which) → aims_at types (type_in types f p) (type_of_element types f (source.Pointer l) w) ≡ true → (is_pointer (type_in types f l) ≡ true) × (is_raw (type_in types f l) ≡ false)
  seen_element_range p l w e = seen_range types (type_in types f l) (λ void. no_element p l w e void)

  pub seen_elements_settle : (p l : Location) (w : Which) → aims_at types (type_in types f p) (type_of_element types f (source.Pointer l) w) ≡ true → keeps_const (is_constant (type_in types f p)) (is_constant (type_in types f l)) ≡ true
      → AreBits true (ready_of st) (l.local ∷ (which_uses w ++ part_uses p)) → Settles types f (behind p) (element types f p (source.Pointer l) w st)
  seen_elements_settle p l w e keeps uses =
      let range = seen_element_range p l w e in
      settle_got types f (behind p) (used st.world.content (location_cell types f l st)) (λ v. element_at types f p w (seen_count v) v st) (IsUsed (type_in types f l)) (used_at l (type_in types f l) refl range.0 range.1 uses.0)
      (λ v h. element_settles p (type_in types f l) w (seen_count v) v (aims_points types (type_in types f p) (type_of_element types f (source.Pointer l) w) e) keeps (λ view. absurd (aims_unviewed types (type_in types f p) (type_of_element types f (source.Pointer l) w) e view)) h (λ target. no_target w e target) (indexed p (source.Pointer l) w e) uses.1)
    where
      no_target : (w : Which) → aims_at types (type_in types f p) (type_of_element types f (source.Pointer l) w) ≡ true → w ≡ which.Target → ⊥
      no_target w h target = aims_solid types (type_in types f p) (subst (λ (x : Which). aims_at types (type_in types f p) (type_of_element types f (source.Pointer l) x) ≡ true) target h)

  pub seen_cursors_settle : (p l : Location) (end : RangeEnd) → walks types (type_in types f p) (seen_element types (type_in types f l)) ≡ true → keeps_const (is_constant (type_in types f p)) (is_constant (type_in types f l)) ≡ true
      → AreBits true (ready_of st) (l.local ∷ part_uses p) → Settles types f (behind p) (cursor types f p (source.Pointer l) end st)
  seen_cursors_settle p l end e keeps uses =
      let range = seen_range types (type_in types f l) (λ void. walks_solid types (type_in types f p) (subst (λ (u : Ty). walks types (type_in types f p) u ≡ true) void e)) in
      settle_got types f (behind p) (used st.world.content (location_cell types f l st)) (λ v. pointed types f p (element_of st.world.content.clock (end_index end (seen_count v)) v) st) (IsUsed (type_in types f l)) (used_at l (type_in types f l) refl range.0 range.1 uses.0)
      (λ v h. given p (element_of st.world.content.clock (end_index end (seen_count v)) v) (walks_points types (type_in types f p) (seen_element types (type_in types f l)) e)
      (used_fits (type_in types f l) (type_in types f p) (element_of st.world.content.clock (end_index end (seen_count v)) v) keeps (λ view. absurd (walks_unviewed types (type_in types f p) (seen_element types (type_in types f l)) e view)) (index_used (type_in types f l) st.world.content.clock (start_of v + end_index end (seen_count v)) v h)) uses.1)
