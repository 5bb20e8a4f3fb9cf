-- An instruction of a frame at which nothing is wrong makes no fault, and the facts behind it cover all pointers of
-- the frame: of values, pointers, vectors, strings, iterators, spans and views, by their types alone.
use Rattle.std.proofs.Common.{◌≡◌, ◌≢◌, ℕ, Bool, true, false, ◌&&◌, not, List, Some, refl, sym, ap, subst, ◌∙◌, [], Option, inl}
use Rattle.std.specs.Prelude.{pos}
use Rattle.std.proofs.lemmas.Bool.{and_parts, false≢true}
use Rattle.life_types.specs.Pointees.{ty_of}
use Rattle.life_types.specs.Trees.{holds_unique}
use Rattle.life_types.specs.TypeTests.{is_constant, is_iterator, is_pointer, is_value, is_view, is_void, is_unique}
use Rattle.life_types.specs.Types.{Types}
use Rattle.life_types.specs.declared.place.Place.{Place}
use Rattle.life_types.specs.declared.ty.Ty.{Ty}
use Rattle.life_types.specs.declared.ty.Ty.TheVariants as ty
use Rattle.life_types.specs.declared.ty.TyId.{TyId}
use Rattle.life_core.specs.declared.operand.RangeEnd.{RangeEnd}
use Rattle.life_core.specs.declared.operand.Which.{Which}
use Rattle.life_core.specs.declared.operand.Which.TheVariants as which
use Rattle.life_core.specs.Function.{Function}
use Rattle.life_core.specs.Operands.{Base, Location, Source, whole, Operand}
use Rattle.life_core.specs.Operands as named
use Rattle.life_core.specs.Proper.{AreReady}
use Rattle.life_core.specs.Ready.{IsThere}
use Rattle.life_core.specs.Step.{Advance, Aim, Call, Changes, Copy, Cursor, Cut, End, Eval, Live, Load, Make, Move, Port, Ports, Repoint, Same, Save, Size, Step, Takes, Writes, WritesView}
use Rattle.life_core.specs.Step as step
use Rattle.life_core.specs.Touched.{touched_by}
use Rattle.life_pset.specs.Shapes.{has_buffer, operand_type, tree_if}
use Rattle.life_pset.specs.declared.element.Fact.{Fact}
use Rattle.life_pset.specs.declared.element.Root.{Root}
use Rattle.life_contract.specs.Signatures.{Signature}
use Rattle.life_proper.specs.OperandTypes.{aims_at, are_alike, are_compared, is_range, keeps_const, owned_element, same, seen_element, spans, takes, walks, gets, owned_target}
use Rattle.life_proper.specs.Placed.{element_of, is_const_base, is_const_place, is_number, is_number_of, register_at, type_at, type_in, type_of, type_of_element}
use Rattle.life_proper.specs.WellFormed.{is_change_of, is_port, is_source_of, is_well_formed_step}
use Rattle.life_proper.proofs.HeldSorts.{same_is}
use Rattle.life_store.specs.Doing.{does}
use Rattle.life_store.specs.Edits.{buffer_of, size_of}
use Rattle.life_store.specs.Effects.{Effect, GotFault, Next, Setting, cell, got_or, on_got, put_cell}
use Rattle.life_store.specs.Parts.{characters_type}
use Rattle.life_store.specs.Places.{Spot, location_cell}
use Rattle.life_store.specs.State.{Number, Pointer, Points, State, ready_of, Named}
use Rattle.life_store.specs.declared.run.FaultKind.TheVariants as fault
use Rattle.life_forest.specs.FrameTypes.{seen_in}
use Rattle.life_forest.proofs.OneNumber.{also_solid, same_solid, one_type, type_there}
use Rattle.life_forest.proofs.ReadyCells.{location_pointer, number_any}
use Rattle.life_forest.proofs.SeenTypes.{aims_seen, pointer_solid, range_points, raw_points, same_if, walks_seen}
use Rattle.life_forest.proofs.TypedSteps.{IsSlotFree, value_solid}
use Rattle.life_cover.specs.Frames.{FrameCovered, look_in}
use Rattle.life_cover.specs.Inputs.{may_change, StandsAt}
use Rattle.life_cover.specs.Regions.{owned_in_type, Region}
use Rattle.life_cover.specs.Lacking.{MayLack}
use Rattle.life_cover.proofs.AimKinds.{advances_kind, cuts_kind, empty_kind, null_kind, owner_cursor_kind, owner_item_kind, place_kind, repoint_kind, seen_cursor_kind, seen_item_kind, text_kind, whole_aim_kind}
use Rattle.life_cover.proofs.ChangeSteps.{change_step}
use Rattle.life_cover.proofs.CopiedStructs.{copy_kind}
use Rattle.life_cover.proofs.EndKinds.{end_kind}
use Rattle.life_cover.proofs.KnownFrames.{IsKnownFrame, IsRight, reach_at, used_right, typed}
use Rattle.life_cover.proofs.LiveKinds.{live_kind}
use Rattle.life_cover.proofs.MakeKinds.{IsMade}
use Rattle.life_cover.proofs.MakeSteps.{IsMadeBy, make_right}
use Rattle.life_cover.proofs.MoveSteps.{by_move, unique_solid}
use Rattle.life_cover.proofs.PlacedMoveKinds.{GivenBare, placed_move_kind}
use Rattle.life_cover.proofs.Looks.{view_range, HasItem, aims_single, const_kept, element_item, element_ranged, seen_at, spans_range, walks_single, whole_item}
use Rattle.life_cover.proofs.NumberKinds.{IsPort, eval_kind, load_kind, port_kind, register_covered, same_kind, seen_size_kind}
use Rattle.life_cover.proofs.Opening.{opened}
use Rattle.life_cover.proofs.Pointers.{OnRight, right_weaker}
use Rattle.life_cover.proofs.Reaching.{by_reach, spot_is}
use Rattle.life_cover.proofs.SaveKinds.{save_kind}
use Rattle.life_cover.proofs.Lacking.{owner_whole}
use Rattle.life_cover.proofs.Behind.{no_local, no_location}
use Rattle.life_cover.proofs.MoveKinds.{MovedPlaces, move_kind}
use Rattle.life_cover.proofs.BufferMoveKinds.{MovedBare, buffer_move_kind}
use Rattle.life_rules.proofs.Giving.{at_head}
use Rattle.life_cover.specs.Covers.{IsSeenAs}
use Rattle.life_cover.proofs.PlainTargets.{through_other}
use Rattle.life_cover.proofs.TargetKinds.{get_kind, target_kind}
use Rattle.life_cover.proofs.UniqueLocations.{unique_at}

-- what a well-formed iterator is
iterator_single : (t : Ty) → is_iterator t ≡ true → is_range t ≡ false
iterator_single (ty.Iterator target constant) e = refl
iterator_single _ e = absurd (false≢true e)

pub alike_points : (types : Types) (t u : Ty) → are_alike types t u ≡ true → (is_pointer t ≡ true) × (is_pointer u ≡ true)
alike_points types (ty.Raw t c) (ty.Raw u d) e = (refl, refl)
alike_points types (ty.Reference t c) (ty.Reference u d) e = (refl, refl)
alike_points types (ty.Iterator t c) (ty.Iterator u d) e = (refl, refl)
alike_points types (ty.Span t c) (ty.Span u d) e = (refl, refl)
alike_points types ty.View ty.View e = (refl, refl)
alike_points types _ _ e = absurd (false≢true e)

compared_points : (types : Types) (t u : Ty) → are_compared types t u ≡ true → (is_pointer t ≡ true) × (is_pointer u ≡ true)
compared_points types (ty.Iterator t c) (ty.Iterator u d) e = (refl, refl)
compared_points types ty.View ty.View e = (refl, refl)
compared_points types _ _ e = absurd (false≢true e)

seen_range : (types : Types) (t : Ty) → is_void (seen_element types t) ≡ false → is_range t ≡ true
seen_range types ty.View e = refl
seen_range types (ty.Span target constant) e = refl
seen_range types _ e = absurd (false≢true (sym e))

spans_points : (types : Types) (t u : Ty) → spans types t u ≡ true → is_pointer t ≡ true
spans_points types (ty.Span target constant) u e = refl
spans_points types ty.View u e = refl
spans_points types _ u e = absurd (false≢true e)

pub not_false : (b : Bool) → not b ≡ true → b ≡ false
not_false true e = absurd (false≢true e)
not_false false e = refl

-- what is aimed at the target of a unique_ptr, is at an object
gets_aims : (types : Types) (t u : Ty) → gets types t u ≡ true → aims_at types t u ≡ true
gets_aims types (ty.Raw target constant) u e = e
gets_aims types _ u e = absurd (false≢true e)

-- only a unique_ptr has a target
target_unique : (types : Types) (t : Ty) → is_void (owned_target types t) ≡ false → is_unique t ≡ true
target_unique types (ty.Unique target) e = refl
target_unique types _ e = absurd (false≢true (sym e))

-- ---- the kinds of instructions that are spoken of here: all but calls

abbrev pub IsSpoken : Types → Function → Step → Type 0
IsSpoken types f (Call target g xs) = ⊥
IsSpoken types f _ = Unit {0}

-- an element of a range, and not the target of a unique_ptr
abbrev IsElement : Which → Type 0
IsElement which.Target = ⊥
IsElement _ = Unit {0}

module _ (types : Types) (f : Function) (rest : ℕ → ℕ) (inputs : Root → Option Region) (S : Fact → Type 0) (st : State) (k : IsKnownFrame types f rest inputs S st) (sigs : List Signature) (n : ℕ) (place : Place) (S' : Fact → Type 0) (texts : ℕ) (fs : List Function) (s : Setting) where
  abbrev Right : Step → Type 0
  Right i = IsRight sigs types n f place i S S'

  abbrev Covers : Step → Type 0
  Covers i = OnRight (does s types f i st) (FrameCovered types f inputs S')

  held_pointer : (q : Location) → is_pointer (type_in types f q) ≡ true → IsThere (ready_of st) q.local → (v : Pointer) × (location_cell types f q st ≡ Some (Points v))
  held_pointer q pointer there = location_pointer types f st k.poised q pointer there

  -- ---- what is aimed at

  item_for : (p : Location) (u : Ty) (target : TyId) → is_pointer (type_in types f p) ≡ true → seen_in types (Some (type_in types f p)) ≡ Some target → HasItem types k.ordered k.once u (Some target) → HasItem types k.ordered k.once u (look_in types f p).target
  item_for p u target pointer sees item = subst (HasItem types k.ordered k.once u) (sym (seen_at types k.ordered k.once f k.shaped p (type_in types f p) refl (pointer_solid (type_in types f p) pointer) ∙ sees)) item

  -- p sees what a unique_ptr owns
  sees_target : (p q : Location) (unique : is_unique (type_in types f q) ≡ true) → aims_at types (type_in types f p) (owned_target types (type_in types f q)) ≡ true → (n : ℕ) (names : cell st q.local ≡ Some (Named n))
      → IsSeenAs types (look_in types f p).target (unique_at types f rest inputs S st k q n names unique).target
  sees_target p q unique aims n names =
      let seen = aims_seen types k.ordered k.once (type_in types f p) (owned_target types (type_in types f q)) aims in
      let u = unique_at types f rest inputs S st k q n names unique in
      let one = ty_of types seen.target in
      let two = owned_target types (type_in types f q) in
      subst (λ (o : Option TyId). IsSeenAs types o u.target) (sym (seen_at types k.ordered k.once f k.shaped p (type_in types f p) refl (pointer_solid (type_in types f p) seen.pointer) ∙ seen.seen))
      (inl (one_type types k.once seen.target u.target one (type_there types seen.target one refl (same_solid one two seen.is)) (type_there types u.target one (sym (same_is one two seen.is ∙ ap (owned_target types) u.is)) (same_solid one two seen.is))))

  get_step : (p : Location) (u : Location) → Right (Aim p (named.Get u)) → gets types (type_in types f p) (owned_target types (type_in types f u)) ≡ true → Covers (Aim p (named.Get u))
  get_step p u right e =
      let aims = gets_aims types (type_in types f p) (owned_target types (type_in types f u)) e in
      let seen = aims_seen types k.ordered k.once (type_in types f p) (owned_target types (type_in types f u)) aims in
      let unique = target_unique types (type_in types f u) (also_solid (ty_of types seen.target) (owned_target types (type_in types f u)) seen.is) in
      get_kind types f rest inputs S st k sigs n place S' s p seen.pointer (aims_single types (type_in types f p) (owned_target types (type_in types f u)) aims) u unique (sees_target p u unique aims) right

  aim_step : (p : Location) (sr : Source) → Right (Aim p sr) → is_source_of types texts fs f (type_in types f p) sr ≡ true → Covers (Aim p sr)
  aim_step p named.Null right e = null_kind types f rest inputs S st k sigs n place S' p (raw_points (type_in types f p) e) s right
  aim_step p (named.Text number) right e =
      text_kind types f rest inputs S st k sigs n place S' p (range_points (type_in types f p) (view_range (type_in types f p) (and_parts (is_view (type_in types f p)) _ e).0)) s number right
  aim_step p named.Empty right e = empty_kind types f rest inputs S st k sigs n place S' p (range_points (type_in types f p) e) s right
  aim_step p (named.Place o) right e =
      let both = and_parts (aims_at types (type_in types f p) (type_of types f o)) (keeps_const (is_constant (type_in types f p)) (is_const_place types f o)) e in
      let aims = both.0 in
      let seen = aims_seen types k.ordered k.once (type_in types f p) (type_of types f o) aims in
      place_kind types f rest inputs S st k sigs n place S' p seen.pointer o s right (also_solid (ty_of types seen.target) (type_of types f o) seen.is) aims (const_kept (is_constant (type_in types f p)) (is_const_place types f o) both.1)
  aim_step p (named.Whole o) right e =
      let both = and_parts (spans types (type_in types f p) (type_of types f o)) (keeps_const (is_constant (type_in types f p)) (is_const_place types f o)) e in
      let all = both.0 in
      let pointer = spans_points types (type_in types f p) (type_of types f o) all in
      whole_aim_kind types f rest inputs S st k sigs n place S' p pointer o (type_of types f o) refl
      (subst (HasItem types k.ordered k.once (type_of types f o)) (sym (seen_at types k.ordered k.once f k.shaped p (type_in types f p) refl (pointer_solid (type_in types f p) pointer))) (whole_item types k.ordered k.once (type_in types f p) (type_of types f o) all))
      s right (spans_range types (type_in types f p) (type_of types f o) all) (const_kept (is_constant (type_in types f p)) (is_const_place types f o) both.1)
  aim_step p (named.Get u) right e = get_step p u right e

  pub source_points : (t : Ty) (sr : Source) → is_source_of types texts fs f t sr ≡ true → is_pointer t ≡ true
  source_points t named.Null e = raw_points t e
  source_points t (named.Text number) e = range_points t (view_range t (and_parts (is_view t) _ e).0)
  source_points t named.Empty e = range_points t e
  source_points t (named.Place o) e = (aims_seen types k.ordered k.once t (type_of types f o) (and_parts (aims_at types t (type_of types f o)) (keeps_const (is_constant t) (is_const_place types f o)) e).0).pointer
  source_points t (named.Whole o) e = spans_points types t (type_of types f o) (and_parts (spans types t (type_of types f o)) (keeps_const (is_constant t) (is_const_place types f o)) e).0
  source_points t (named.Get u) e = (aims_seen types k.ordered k.once t (owned_target types (type_in types f u)) (gets_aims types t (owned_target types (type_in types f u)) e)).pointer

  -- ---- elements and ends

  element_type : (b : Base) (w : Which) (t : Ty) → IsElement w → same t (type_of_element types f b w) ≡ true → same t (element_of types f b) ≡ true
  element_type b (which.Index r) t is e = same_if (is_number_of types f ty.Size r) t (element_of types f b) e
  element_type b which.First t is e = e
  element_type b which.Last t is e = e
  element_type b which.Target t is e = absurd is

  no_target : (w : Which) → IsElement w → w ≢ which.Target
  no_target (which.Index r) is e = unlike e
    where
      unlike : which.Index r ≡ which.Target → ⊥
      unlike h = cc
  no_target which.First is e = unlike e
    where
      unlike : which.First ≡ which.Target → ⊥
      unlike h = cc
  no_target which.Last is e = unlike e
    where
      unlike : which.Last ≡ which.Target → ⊥
      unlike h = cc
  no_target which.Target is e = is

  item_step : (p : Location) (b : Base) (w : Which) → IsElement w → Right (step.Element p b w) → aims_at types (type_in types f p) (type_of_element types f b w) ≡ true → keeps_const (is_constant (type_in types f p)) (is_const_base types f b) ≡ true
      → AreReady (ready_of st) (touched_by f (step.Element p b w)) → Covers (step.Element p b w)
  item_step p (named.Owner o) w is right aims const ready =
      let seen = aims_seen types k.ordered k.once (type_in types f p) (type_of_element types f (named.Owner o) w) aims in
      owner_item_kind types f rest inputs S st k sigs n place S' p seen.pointer o (type_of types f o) refl
      (item_for p (type_of types f o) seen.target seen.pointer seen.seen (element_item types k.ordered k.once (type_of types f o) seen.target (element_type (named.Owner o) w (ty_of types seen.target) is seen.is)))
      s w (no_target w is) right (aims_single types (type_in types f p) (type_of_element types f (named.Owner o) w) aims) (const_kept (is_constant (type_in types f p)) (is_const_place types f o) const)
  item_step p (named.Pointer l) w is right aims const ready =
      let seen = aims_seen types k.ordered k.once (type_in types f p) (type_of_element types f (named.Pointer l) w) aims in
      let is_element = element_type (named.Pointer l) w (ty_of types seen.target) is seen.is in
      let points = range_points (type_in types f l) (element_ranged types (type_in types f l) seen.target is_element) in
      seen_item_kind types f rest inputs S st k sigs n place S' p seen.pointer l points (held_pointer l points ready.uses.0) seen.target seen.seen is_element
      (const_kept (is_constant (type_in types f p)) (is_constant (type_in types f l)) const) (aims_single types (type_in types f p) (type_of_element types f (named.Pointer l) w) aims) s w right

  -- the target of a unique_ptr, which is a local or a member of one, as none is behind a pointer
  target_step : (p : Location) (o : Operand) → Right (step.Element p (named.Owner o) which.Target) → aims_at types (type_in types f p) (owned_target types (type_of types f o)) ≡ true → Covers (step.Element p (named.Owner o) which.Target)
  target_step p o right aims =
      let seen = aims_seen types k.ordered k.once (type_in types f p) (owned_target types (type_of types f o)) aims in
      by_operand seen.pointer (aims_single types (type_in types f p) (owned_target types (type_of types f o)) aims) o right aims (target_unique types (type_of types f o) (also_solid (ty_of types seen.target) (owned_target types (type_of types f o)) seen.is))
    where
      by_operand : is_pointer (type_in types f p) ≡ true → (look_in types f p).ranged ≡ false → (q : Operand) → Right (step.Element p (named.Owner q) which.Target) → aims_at types (type_in types f p) (owned_target types (type_of types f q)) ≡ true → is_unique (type_of types f q) ≡ true → Covers (step.Element p (named.Owner q) which.Target)
      by_operand pointer single (named.Through q ms) now at is = absurd (false≢true (sym (through_other types f rest inputs S st k q ms (unique_solid (type_of types f (named.Through q ms)) is)) ∙ is))
      by_operand pointer single (named.Name l) now at is =
          let same_type : type_in types f l ≡ type_of types f (named.Name l) = typed types f rest inputs S st k (named.Name l) (unique_solid (type_of types f (named.Name l)) is) in
          let unique = ap is_unique same_type ∙ is in
          target_kind types f rest inputs S st k sigs n place S' s p pointer single l unique (sees_target p l unique (subst (λ (t : Ty). aims_at types (type_in types f p) (owned_target types t) ≡ true) (sym same_type) at)) now

  element_step : (p : Location) (b : Base) (w : Which) → Right (step.Element p b w) → aims_at types (type_in types f p) (type_of_element types f b w) ≡ true → keeps_const (is_constant (type_in types f p)) (is_const_base types f b) ≡ true
      → AreReady (ready_of st) (touched_by f (step.Element p b w)) → Covers (step.Element p b w)
  element_step p (named.Owner o) which.Target right aims const ready = target_step p o right aims
  element_step p (named.Pointer l) which.Target right aims const ready =
      let seen = aims_seen types k.ordered k.once (type_in types f p) ty.Void aims in
      absurd (false≢true (sym (also_solid (ty_of types seen.target) ty.Void seen.is)))
  element_step p b (which.Index r) right aims const ready = item_step p b (which.Index r) tt right aims const ready
  element_step p b which.First right aims const ready = item_step p b which.First tt right aims const ready
  element_step p b which.Last right aims const ready = item_step p b which.Last tt right aims const ready

  cursor_step : (p : Location) (b : Base) (end : RangeEnd) → Right (Cursor p b end) → walks types (type_in types f p) (element_of types f b) ≡ true → keeps_const (is_constant (type_in types f p)) (is_const_base types f b) ≡ true
      → AreReady (ready_of st) (touched_by f (Cursor p b end)) → Covers (Cursor p b end)
  cursor_step p (named.Owner o) end right walk const ready =
      let seen = walks_seen types k.ordered k.once (type_in types f p) (element_of types f (named.Owner o)) walk in
      owner_cursor_kind types f rest inputs S st k sigs n place S' p seen.pointer o (type_of types f o) refl
      (item_for p (type_of types f o) seen.target seen.pointer seen.seen (element_item types k.ordered k.once (type_of types f o) seen.target seen.is)) s end right (walks_single types (type_in types f p) (element_of types f (named.Owner o)) walk) (const_kept (is_constant (type_in types f p)) (is_const_place types f o) const)
  cursor_step p (named.Pointer l) end right walk const ready =
      let seen = walks_seen types k.ordered k.once (type_in types f p) (element_of types f (named.Pointer l)) walk in
      let points = range_points (type_in types f l) (element_ranged types (type_in types f l) seen.target seen.is) in
      seen_cursor_kind types f rest inputs S st k sigs n place S' p seen.pointer l points (held_pointer l points ready.uses.0) seen.target seen.seen seen.is
      (const_kept (is_constant (type_in types f p)) (is_constant (type_in types f l)) const) (walks_single types (type_in types f p) (element_of types f (named.Pointer l)) walk) s end right

  -- ---- sizes

  size_step : (r : ℕ) (b : Base) → Right (Size r b) → is_number types f r ≡ true → is_void (element_of types f b) ≡ false → Covers (Size r b)
  size_step r (named.Owner o) right number some = by_type (type_of types f o) refl some
    where
      go : Spot → Effect
      go spot = on_got (buffer_of st.world.content spot) (λ b. Next (put_cell r (Number (pos (size_of st.world.content b))) st))

      with_item : (u : Ty) (item : TyId) → type_of types f o ≡ u → owned_in_type types (Some u) ≡ Some item → has_buffer u ≡ true → is_void u ≡ false → Covers (Size r (named.Owner o))
      with_item u item is owned buffer solid =
          by_reach types f st (StandsAt inputs) (may_change types f) S o (reach_at types f rest inputs S st k right.closed.of o (ap is_void is ∙ solid) (λ q used. used_right sigs types n f place (Size r (named.Owner o)) S right.clean q used)) go (FrameCovered types f inputs S')
          (λ h. let have = opened types f rest inputs S st k o h (owner_whole types f rest inputs S st k o h (ap is_void is ∙ solid) sigs n place (Size r (named.Owner o)) S' right (at_head o [])) u is item owned buffer in
          subst (λ z. OnRight z (FrameCovered types f inputs S')) (sym (spot_is types f st (StandsAt inputs) (may_change types f) S o h go))
          (subst (λ w. OnRight (on_got (got_or w (GotFault fault.Moved)) (λ b. Next (put_cell r (Number (pos (size_of st.world.content b))) st))) (FrameCovered types f inputs S')) (sym have.owned)
          (register_covered types f rest inputs S st k sigs n place S' (Size r (named.Owner o)) right (λ e. refl) (λ l. refl) r number (pos (size_of st.world.content have.buffer)))))

      by_type : (u : Ty) → type_of types f o ≡ u → is_void (owned_element types u) ≡ false → Covers (Size r (named.Owner o))
      by_type ty.Text is h = with_item ty.Text (characters_type types) is refl refl refl
      by_type (ty.Vector item) is h = with_item (ty.Vector item) item is refl refl refl
      by_type _ is h = absurd (false≢true (sym h))
  size_step r (named.Pointer l) right number some =
      let ranged = seen_range types (type_in types f l) some in
      seen_size_kind types f rest inputs S st k sigs n place S' s r l (range_points (type_in types f l) ranged) right number ranged

  -- ---- what goes out

  port_fits : (p : Port) → is_port types texts fs f p ≡ true → IsPort types f rest inputs S st k p
  port_fits (Writes r) e = tt
  port_fits (Takes r) e = number_any types f ty.Long r e
  port_fits (WritesView l) e = let ranged = view_range (type_in types f l) e in (range_points (type_in types f l) ranged, ranged)

  -- ---- each instruction

  pub step_covered : (i : Step) → IsSpoken types f i → IsRight sigs types n f place i S S' → is_well_formed_step types texts fs f i ≡ true → IsSlotFree types f i → AreReady (ready_of st) (touched_by f i) → OnRight (does s types f i st) (FrameCovered types f inputs S')
  step_covered (Live x form) spoken right e free ready = live_kind types f rest inputs S st k sigs n place S' s x form right e free
  step_covered (End xs) spoken right e free ready = end_kind types f rest inputs S st k sigs n place S' xs s right
  step_covered (Eval r o) spoken right e free ready = eval_kind types f rest inputs S st k sigs n place S' s r o right (and_parts (is_number types f r) _ e).0
  step_covered (Load r o) spoken right e free ready =
      let value = (and_parts (is_value (type_of types f o)) (same (type_of types f o) (type_at types f r)) (and_parts (register_at types f r) (is_value (type_of types f o) && same (type_of types f o) (type_at types f r)) e).1).0 in
      load_kind types f rest inputs S st k sigs n place S' s r o right (number_any types f (type_of types f o) r e) (value_solid (type_of types f o) value)
  step_covered (Save o r) spoken right e free ready =
      let number = (and_parts (is_number_of types f (type_of types f o) r) (not (is_const_place types f o)) e).0 in
      let value = (and_parts (is_value (type_of types f o)) (same (type_of types f o) (type_at types f r)) (and_parts (register_at types f r) (is_value (type_of types f o) && same (type_of types f o) (type_at types f r)) number).1).0 in
      save_kind types f rest inputs S st k sigs n place S' s o r right value
  step_covered (Copy to from) spoken right e free ready =
      let first = and_parts (same (type_of types f to) (type_of types f from)) _ e in
      let pointer = (and_parts (not (is_pointer (type_of types f to))) _ first.1).0 in
      copy_kind types f rest inputs S st k sigs n place S' s to from (not_false (is_const_place types f to) (and_parts (not (holds_unique (tree_if types (operand_type types f to)))) (not (is_const_place types f to)) (and_parts (not (is_pointer (type_of types f to))) _ first.1).1).1) right (same_solid (type_of types f to) (type_of types f from) first.0) (also_solid (type_of types f to) (type_of types f from) first.0) (same_is (type_of types f to) (type_of types f from) first.0)
      (not_false (is_pointer (type_of types f to)) pointer)
  step_covered (Move to y) spoken right e free ready =
      by_move types f rest inputs S st k sigs n place S' texts fs y (λ q. Covers (Move q y))
      (λ to now unique alike other. right_weaker (does s types f (Move (named.Name to) y) st) (IsMade types f inputs S' (MayLack types f inputs S st) no_local (MovedPlaces to y) st) (FrameCovered types f inputs S') (move_kind types f rest inputs S st k sigs n place S' s to y now unique alike other) (λ after h. h.0))
      (λ x now buffer alike other.
      right_weaker (does s types f (Move (named.Name (whole x)) y) st) (IsMade types f inputs S' (MovedBare types f rest inputs S st k x y) no_local no_location st) (FrameCovered types f inputs S') (buffer_move_kind types f rest inputs S st k sigs n place S' s x y now buffer alike other) (λ after h. h.0))
      (λ o beside now buffer alike const.
      right_weaker (does s types f (Move o y) st) (IsMade types f inputs S' (GivenBare types f rest inputs S st k y) no_local no_location st) (FrameCovered types f inputs S') (placed_move_kind types f rest inputs S st k sigs n place S' s o y beside now buffer alike const) (λ after h. h.0))
      to right e
  step_covered (Aim p sr) spoken right e free ready = aim_step p sr right e
  step_covered (Repoint p q) spoken right e free ready =
      let points = alike_points types (type_in types f p) (type_in types f q) (and_parts (are_alike types (type_in types f p) (type_in types f q)) _ e).0 in
      repoint_kind types f rest inputs S st k sigs n place S' p points.0 q points.1 (held_pointer q points.1 ready.uses.0) s right e
  step_covered (step.Element p b w) spoken right e free ready =
      let both = and_parts (aims_at types (type_in types f p) (type_of_element types f b w)) (keeps_const (is_constant (type_in types f p)) (is_const_base types f b)) e in
      element_step p b w right both.0 both.1 ready
  step_covered (Cursor p b end) spoken right e free ready =
      let both = and_parts (walks types (type_in types f p) (element_of types f b)) (keeps_const (is_constant (type_in types f p)) (is_const_base types f b)) e in
      cursor_step p b end right both.0 both.1 ready
  step_covered (Advance p q r way) spoken right e free ready =
      let outer = and_parts (is_iterator (type_in types f p)) _ e in
      let taken = (and_parts (takes types (type_in types f p) (type_in types f q)) (is_number types f r) outer.1).0 in
      let points = alike_points types (type_in types f p) (type_in types f q) (and_parts (are_alike types (type_in types f p) (type_in types f q)) _ taken).0 in
      advances_kind types f rest inputs S st k sigs n place S' p points.0 q points.1 (held_pointer q points.1 ready.uses.0) s r way right taken (iterator_single (type_in types f p) outer.0)
  step_covered (Cut p q r count) spoken right e free ready =
      let outer = and_parts (is_range (type_in types f p)) _ e in
      let taken = (and_parts (takes types (type_in types f p) (type_in types f q)) _ outer.1).0 in
      let points = alike_points types (type_in types f p) (type_in types f q) (and_parts (are_alike types (type_in types f p) (type_in types f q)) _ taken).0 in
      cuts_kind types f rest inputs S st k sigs n place S' p points.0 q points.1 (held_pointer q points.1 ready.uses.0) s r count right taken outer.0
  step_covered (Size r b) spoken right e free ready =
      let both = and_parts (is_number_of types f ty.Size r) (not (is_void (element_of types f b))) e in
      size_step r b right (number_any types f ty.Size r both.0) (not_false (is_void (element_of types f b)) both.1)
  step_covered (Same r a b equal) spoken right e free ready =
      let both = and_parts (is_number_of types f ty.Bool r) (are_compared types (type_in types f a) (type_in types f b)) e in
      let points = compared_points types (type_in types f a) (type_in types f b) both.1 in
      same_kind types f rest inputs S st k sigs n place S' s r a b equal points.0 points.1 right (number_any types f ty.Bool r both.0) both.1
  step_covered (Changes o c) spoken right e free ready =
      let both = and_parts (is_change_of types texts fs f (type_of types f o) c) (not (is_const_place types f o)) e in
      change_step types f rest inputs S st k sigs n place S' texts fs s o (not_false (is_const_place types f o) both.1) c (type_of types f o) refl right both.0
  step_covered (Make u m) spoken right e free ready =
      right_weaker (does s types f (Make u m) st) (IsMadeBy types f rest inputs S st k sigs n place S' texts fs s u m) (FrameCovered types f inputs S') (make_right types f rest inputs S st k sigs n place S' texts fs s u m right e) (λ after h. h.0)
  step_covered (Call target g xs) spoken right e free ready = absurd spoken
  step_covered (Ports p) spoken right e free ready = port_kind types f rest inputs S st k sigs n place S' s p right (port_fits p e)
