-- Behind each instruction that makes a pointer the objects of the frame hold well: what it gives points well, and is as its location's type takes it.
use Rattle.std.proofs.Common.{◌≡◌, ℕ, true, false, List, ◌++◌, Option, Some, refl, sym, ap, subst, ◌∙◌}
use Rattle.std.proofs.lemmas.Bool.{and_parts}
use Rattle.std.specs.Prelude.{slice_get}
use Rattle.life_types.specs.Trees.{IsOrdered}
use Rattle.life_types.specs.TypeTests.{is_constant, is_iterator, is_pointer, is_raw, is_view}
use Rattle.life_types.specs.Types.{HasEachOnce, Types}
use Rattle.life_types.specs.declared.ty.Ty.{Ty}
use Rattle.life_types.specs.declared.ty.TyId.{TyId}
use Rattle.life_core.specs.declared.instr.Direction.{Direction}
use Rattle.life_core.specs.declared.operand.RangeEnd.{RangeEnd}
use Rattle.life_core.specs.declared.operand.Which.{Which}
use Rattle.life_core.specs.Function.{Function}
use Rattle.life_core.specs.Operands.{Location, Operand, Source}
use Rattle.life_core.specs.Operands as source
use Rattle.life_core.specs.Ready.{AreBits, IsThere}
use Rattle.life_core.specs.Touched.{part_uses, place_uses, source_uses}
use Rattle.life_core.proofs.ReadyLemmas.{bits_left}
use Rattle.life_proper.specs.OperandTypes.{aims_at, are_alike, is_range, keeps_const, owned_target, seen_element, spans, takes, walks}
use Rattle.life_proper.specs.Placed.{is_const_place, type_in, type_of, type_of_element}
use Rattle.life_proper.specs.WellFormed.{is_source_of}
use Rattle.life_store.specs.Doing.{advanced, aimed, cursor, cut, element}
use Rattle.life_store.specs.Effects.{Setting, Attempt, Got, GotTrap, GotFault, GotLost, on_pointer}
use Rattle.life_store.specs.Iterators.{at_index, iterator}
use Rattle.life_store.specs.Places.{location_cell, pointed}
use Rattle.life_store.specs.State.{Pointer, State, ready_of}
use Rattle.life_store.specs.Views.{part_of, used}
use Rattle.life_store.proofs.CellLemmas.{some_same}
use Rattle.life_forest.specs.FrameTypes.{PointsWell, Stands, seen_type}
use Rattle.life_forest.specs.Frames.{OnNext}
use Rattle.life_forest.specs.HeldPointers.{HoldWell}
use Rattle.life_forest.specs.Settled.{IsPoised}
use Rattle.life_forest.specs.Sorted.{PointerFits}
use Rattle.life_forest.proofs.Coming.{IfGot}
use Rattle.life_forest.proofs.GivenPointers.{advances_give, cuts_give, empties_give, gets_give, nulls_give, owned_cursors_give, owned_elements_give, places_give, repoints_give, seen_cursors_give, seen_elements_give, texts_give, wholes_give}
use Rattle.life_forest.proofs.Holding.{Holds}
use Rattle.life_forest.proofs.HoldingWrites.{pointed_holds}
use Rattle.life_forest.proofs.ReadyCells.{PlaceWell, place_well}
use Rattle.life_forest.proofs.SeenTypes.{pointer_solid, range_points, raw_points, view_is}
use Rattle.life_forest.proofs.Settling.{IsUsed, Well, index_used, part_used, used_fits}
use Rattle.life_forest.proofs.SettlingOwners.{aimed_there, const_fits, gets_raw, span_kinds}
use Rattle.life_forest.proofs.SettlingPointers.{aims_points, aims_unviewed, alike_fits, alike_points, alike_raw, alike_view, iterator_at, iterator_other, range_other, seen_element_range, seen_range, used_at, walks_points, walks_solid, walks_unviewed}
use Rattle.life_forest.proofs.Shaped.{IsShaped}
use Rattle.life_forest.proofs.StandingSteps.{IsHandedOn, IsTypedBase, IsTypedSource, TakesPointer}
use Rattle.life_forest.proofs.TypedSteps.{PointersAim, location_of}

got_from : {A : Type 0} (x : Attempt A) (P Q : A → Type 0) → Well x P → ((a : A) → P a → Q a) → IfGot x Q
got_from (Got a) P Q h each = each a h
got_from (GotTrap kind) P Q h each = tt
got_from (GotFault kind) P Q h each = tt
got_from GotLost P Q h each = tt

module _ (types : Types) (ordered : IsOrdered types) (once : HasEachOnce types) (texts : ℕ) (fs : List Function) (f : Function) (shaped : IsShaped types f) (rest : ℕ → ℕ) (s : Setting) (st : State) (stands : Stands types f rest st) (at_point : IsPoised types f st)
    (aims : PointersAim types f st) (held : HoldWell types f st) where
  -- a location is given what points well, and is one of its type
  pub given_holds : (p : Location) (part : TyId) → TakesPointer types f st p part → is_pointer (type_in types f p) ≡ true → (v : Pointer) → PointsWell types st.world.content (seen_type types (Some part)) v → PointerFits (type_in types f p) v → OnNext (pointed types f p v st) (Holds types f rest st)
  given_holds p part into points v well fits =
      let of = location_of types ordered once texts fs f shaped p (type_in types f p) refl (pointer_solid (type_in types f p) points) in
      let there : slice_get types.types part.0 ≡ Some (type_in types f p) = ap (λ (id : TyId). slice_get types.types id.0) (some_same (sym into.0 ∙ of.is)) ∙ of.there in
      pointed_holds types ordered f rest st stands held p part v into.0 into.1 well (λ t h. subst (λ (u : Ty). PointerFits u v) (some_same (sym there ∙ h)) fits)

  abbrev Fits : Location → Pointer → Type 0
  Fits p v = PointerFits (type_in types f p) v

  -- ---- from another pointer

  pub repoints_hold : (p q : Location) (part : TyId) → TakesPointer types f st p part → IsHandedOn types f st q part → takes types (type_in types f p) (type_in types f q) ≡ true → OnNext (on_pointer (location_cell types f q st) (λ v. pointed types f p v st)) (Holds types f rest st)
  repoints_hold p q part into from e =
      let both = and_parts (are_alike types (type_in types f p) (type_in types f q)) (keeps_const (is_constant (type_in types f p)) (is_constant (type_in types f q))) e in
      let points = alike_points types (type_in types f p) (type_in types f q) both.0 in
      repoints_give types ordered f rest st stands p part (Fits p) (Holds types f rest st) (given_holds p part into points.0) (λ t e view. e) q from.0 from.1
      (λ v h. alike_fits types (type_in types f p) (type_in types f q) v both.0 both.1 (at_point.pointers q v points.1 h))

  pub advances_hold : (p q : Location) (r : ℕ) (way : Direction) (part : TyId) → TakesPointer types f st p part → IsHandedOn types f st q part → is_iterator (type_in types f p) ≡ true → takes types (type_in types f p) (type_in types f q) ≡ true → IsThere (ready_of st) q.local
      → OnNext (advanced s types f p q r way st) (Holds types f rest st)
  advances_hold p q r way part into from is e there =
      let both = and_parts (are_alike types (type_in types f p) (type_in types f q)) (keeps_const (is_constant (type_in types f p)) (is_constant (type_in types f q))) e in
      let points = alike_points types (type_in types f p) (type_in types f q) both.0 in
      advances_give types ordered f rest st stands p part (Fits p) (Holds types f rest st) (given_holds p part into points.0) (λ t e view. e) s q r way from.0 from.1
      (got_from (iterator st.world.content (location_cell types f q st)) (IsUsed (type_in types f q)) (λ v. (i : ℕ) → Fits p (at_index st.world.content.clock i v))
      (iterator_at types f st at_point q points.1 (alike_raw types (type_in types f p) (type_in types f q) both.0 ∙ iterator_other (type_in types f p) is) there)
      (λ v h i. used_fits (type_in types f q) (type_in types f p) (at_index st.world.content.clock i v) both.1 (alike_view types (type_in types f p) (type_in types f q) both.0) (index_used (type_in types f q) st.world.content.clock i v h)))

  pub cuts_hold : (p q : Location) (r : ℕ) (count : Option ℕ) (part : TyId) → TakesPointer types f st p part → IsHandedOn types f st q part → is_range (type_in types f p) ≡ true → takes types (type_in types f p) (type_in types f q) ≡ true → IsThere (ready_of st) q.local
      → OnNext (cut types f p q r count st) (Holds types f rest st)
  cuts_hold p q r count part into from is e there =
      let both = and_parts (are_alike types (type_in types f p) (type_in types f q)) (keeps_const (is_constant (type_in types f p)) (is_constant (type_in types f q))) e in
      let points = alike_points types (type_in types f p) (type_in types f q) both.0 in
      cuts_give types ordered f rest st stands p part (Fits p) (Holds types f rest st) (given_holds p part into points.0) (λ t e view. e) q r count from.0 from.1
      (got_from (used st.world.content (location_cell types f q st)) (IsUsed (type_in types f q)) (λ v. (i k : ℕ) → Fits p (part_of st.world.content.clock i k v))
      (used_at types f st at_point q (type_in types f q) refl points.1 (alike_raw types (type_in types f p) (type_in types f q) both.0 ∙ range_other (type_in types f p) is) there)
      (λ v h i k. used_fits (type_in types f q) (type_in types f p) (part_of st.world.content.clock i k v) both.1 (alike_view types (type_in types f p) (type_in types f q) both.0) (part_used (type_in types f q) st.world.content.clock i k v h)))

  -- ---- at an element, or one of two ends

  -- of what is seen
  seen_fit : (p l : Location) → keeps_const (is_constant (type_in types f p)) (is_constant (type_in types f l)) ≡ true → (is_view (type_in types f p) ≡ true → is_view (type_in types f l) ≡ true) → is_pointer (type_in types f l) ≡ true → is_raw (type_in types f l) ≡ false → IsThere (ready_of st) l.local
      → IfGot (used st.world.content (location_cell types f l st)) (λ v. (i : ℕ) → PointerFits (type_in types f p) (at_index st.world.content.clock i v))
  seen_fit p l keeps views pointer other there =
      got_from (used st.world.content (location_cell types f l st)) (IsUsed (type_in types f l)) (λ v. (i : ℕ) → Fits p (at_index st.world.content.clock i v))
      (used_at types f st at_point l (type_in types f l) refl pointer other there)
      (λ v h i. used_fits (type_in types f l) (type_in types f p) (at_index st.world.content.clock i v) keeps views (index_used (type_in types f l) st.world.content.clock i v h))

  pub seen_elements_hold : (p l : Location) (w : Which) (part : TyId) → TakesPointer types f st p part → IsHandedOn types f st l part → aims_at types (type_in types f p) (type_of_element types f (source.Pointer l) w) ≡ true
      → keeps_const (is_constant (type_in types f p)) (is_constant (type_in types f l)) ≡ true → IsThere (ready_of st) l.local → OnNext (element types f p (source.Pointer l) w st) (Holds types f rest st)
  seen_elements_hold p l w part into from e keeps there =
      let range = seen_element_range types f st at_point p l w e in
      seen_elements_give types ordered f rest st stands p part (Fits p) (Holds types f rest st) (given_holds p part into (aims_points types (type_in types f p) (type_of_element types f (source.Pointer l) w) e)) (λ t e view. e) l w from.0 from.1 (seen_fit p l keeps (λ view. absurd (aims_unviewed types (type_in types f p) (type_of_element types f (source.Pointer l) w) e view)) range.0 range.1 there)

  pub seen_cursors_hold : (p l : Location) (end : RangeEnd) (part : TyId) → TakesPointer types f st p part → IsHandedOn types f st l part → walks types (type_in types f p) (seen_element types (type_in types f l)) ≡ true
      → keeps_const (is_constant (type_in types f p)) (is_constant (type_in types f l)) ≡ true → IsThere (ready_of st) l.local → OnNext (cursor types f p (source.Pointer l) end st) (Holds types f rest st)
  seen_cursors_hold p l end part into from e keeps there =
      let range = seen_range types (type_in types f l) (λ void. walks_solid types (type_in types f p) (subst (λ (u : Ty). walks types (type_in types f p) u ≡ true) void e)) in
      seen_cursors_give types ordered f rest st stands p part (Fits p) (Holds types f rest st) (given_holds p part into (walks_points types (type_in types f p) (seen_element types (type_in types f l)) e)) (λ t e view. e) l end from.0 from.1 (seen_fit p l keeps (λ view. absurd (walks_unviewed types (type_in types f p) (seen_element types (type_in types f l)) e view)) range.0 range.1 there)

  -- .. and of what an owner has
  pub owned_elements_hold : (p : Location) (o : Operand) (w : Which) (part : TyId) → TakesPointer types f st p part → IsTypedBase types f st part (source.Owner o) → is_pointer (type_in types f p) ≡ true → OnNext (element types f p (source.Owner o) w st) (Holds types f rest st)
  owned_elements_hold p o w part into t points =
      owned_elements_give types ordered f rest st stands p part (Fits p) (Holds types f rest st) (given_holds p part into points) (λ t e view. e) t.0 t.2.0 t.2.1 t.2.2 o w t.1.0 t.1.1

  pub owned_cursors_hold : (p : Location) (o : Operand) (end : RangeEnd) (part : TyId) → TakesPointer types f st p part → IsTypedBase types f st part (source.Owner o) → is_pointer (type_in types f p) ≡ true → OnNext (cursor types f p (source.Owner o) end st) (Holds types f rest st)
  owned_cursors_hold p o end part into t points =
      owned_cursors_give types ordered f rest st stands p part (Fits p) (Holds types f rest st) (given_holds p part into points) (λ t e view. e) t.0 t.2.0 t.2.1 t.2.2 o end t.1.0 t.1.1

  -- ---- a pointer is aimed

  pub aims_hold : (p : Location) (sr : Source) (part : TyId) → TakesPointer types f st p part → IsTypedSource types f st part sr → is_source_of types texts fs f (type_in types f p) sr ≡ true → AreBits true (ready_of st) (source_uses sr ++ part_uses p)
      → OnNext (aimed s types f p sr st) (Holds types f rest st)
  aims_hold p source.Null part into typed e uses = nulls_give types ordered f rest st stands p part (Fits p) (Holds types f rest st) (given_holds p part into (raw_points (type_in types f p) e)) (λ t e view. e) s e
  aims_hold p (source.Text n) part into typed e uses =
      let view = view_is (type_in types f p) (and_parts (is_view (type_in types f p)) _ e).0 in
      texts_give types ordered f rest st stands p part (Fits p) (Holds types f rest st) (given_holds p part into (ap is_pointer view)) (λ t e view. e) s n (ap is_constant view) typed
  aims_hold p source.Empty part into typed e uses = empties_give types ordered f rest st stands p part (Fits p) (Holds types f rest st) (given_holds p part into (range_points (type_in types f p) e)) (λ t e view. e) s tt
  aims_hold p (source.Place o) part into typed e uses =
      let both = and_parts (aims_at types (type_in types f p) (type_of types f o)) (keeps_const (is_constant (type_in types f p)) (is_const_place types f o)) e in
      places_give types ordered f rest st stands p part (Fits p) (Holds types f rest st) (given_holds p part into (aims_points types (type_in types f p) (type_of types f o) both.0)) (λ t e view. e) s o typed.0 typed.1.0 typed.1.1 typed.2 (λ t view. absurd (aims_unviewed types (type_in types f p) (type_of types f o) both.0 view))
      (λ t is. const_fits types ordered once texts fs f shaped st at_point aims p o both.1 t.text
      (subst (PlaceWell types f o) is (place_well types f st at_point o (aimed_there types ordered once texts fs f shaped st at_point aims p o both.0) (bits_left true (ready_of st) (place_uses o) (part_uses p) uses))))
  aims_hold p (source.Whole o) part into typed e uses =
      let kinds = span_kinds types (type_in types f p) (type_of types f o) (and_parts (spans types (type_in types f p) (type_of types f o)) (keeps_const (is_constant (type_in types f p)) (is_const_place types f o)) e).0 in
      wholes_give types ordered f rest st stands p part (Fits p) (Holds types f rest st) (given_holds p part into kinds.0) (λ t e view. e) typed.0 typed.2.0 typed.2.1 typed.2.2 s o typed.1.0 typed.1.1
  aims_hold p (source.Get l) part into typed e uses =
      let raw = gets_raw types (type_in types f p) (owned_target types (type_in types f l)) e in
      gets_give types ordered f rest st stands p part (Fits p) (Holds types f rest st) (given_holds p part into (raw_points (type_in types f p) raw)) (λ t e view. e) typed.0 typed.2.0 typed.2.1 typed.2.2 s l raw typed.1
