-- Instructions that look at owners, and make pointers to what they have, settle.
use Rattle.std.proofs.Common.{◌≡◌, ℕ, Bool, true, false, ◌||◌, not, if◌then◌else◌, List, [], ◌∷◌, ◌++◌, Option, Some, None, refl, sym, ap, subst, ◌∙◌}
use Rattle.std.proofs.lemmas.Bool.{and_parts, false≢true}
use Rattle.std.specs.Prelude.{pos, slice_index, slice_set}
use Rattle.life_types.specs.Pointees.{ty_of}
use Rattle.life_types.specs.Trees.{IsOrdered}
use Rattle.life_types.specs.TypeTests.{is_constant, is_pointer, is_raw, is_view, is_void}
use Rattle.life_types.specs.Types.{HasEachOnce, Types}
use Rattle.life_types.specs.declared.ty.Ty.{Ty}
use Rattle.life_types.specs.declared.ty.Ty.TheVariants as ty
use Rattle.life_types.specs.declared.ty.TyId.{TyId}
use Rattle.life_core.specs.declared.operand.RangeEnd.{RangeEnd}
use Rattle.life_core.specs.declared.operand.Which.{Which}
use Rattle.life_core.specs.declared.operand.Which.TheVariants as which
use Rattle.life_core.specs.Function.{Function}
use Rattle.life_core.specs.Operands.{Base, Location, Operand, Source}
use Rattle.life_core.specs.Operands as source
use Rattle.life_core.specs.Ready.{AreBits, IsThere, Ready, set_bits}
use Rattle.life_core.specs.Touched.{base_uses, part_uses, place_uses, source_uses, which_uses, written}
use Rattle.life_core.proofs.ReadyLemmas.{bits_left, bits_right}
use Rattle.life_pset.specs.Shapes.{ty_if}
use Rattle.life_pset.specs.Shapes as shapes
use Rattle.life_proper.specs.OperandTypes.{aims_at, gets, is_composed, is_owner, keeps_const, owned_element, owned_target, spans, walks}
use Rattle.life_proper.specs.Placed.{is_const_base, is_const_place, is_number_of, is_place, object_at, type_at, type_in, type_of, type_of_element}
use Rattle.life_proper.specs.Placed as placed
use Rattle.life_proper.specs.WellFormed.{is_source_of}
use Rattle.life_proper.proofs.HeldSorts.{same_void}
use Rattle.life_store.specs.Doing.{aimed, aimed_at, cursor, element, element_at, giving, moved_to, moves, moves_from, on_character, owned_pointer, owner_element, pointer_to, sized, target_at, whole_of}
use Rattle.life_store.specs.Edits.{buffer_of, owned_at, size_of}
use Rattle.life_store.specs.Effects.{Setting, Effect, Next, cell, on_got, put_cell, put_content}
use Rattle.life_store.specs.Held.{owned_in, owner_word, slot_words}
use Rattle.life_store.specs.Iterators.{at_index, end_index}
use Rattle.life_store.specs.Owners.{empty_view, taken}
use Rattle.life_store.specs.Parts.{Parts, Single, Raw, Iterates, Views, Text, Vector, Unique, Member, NoMember, local_parts, local_type, parts_at, parts_of, word_within}
use Rattle.life_store.specs.Places.{Found, Here, Fixed, Outside, Wrong, Astray, Spot, locate, location_cell, on_found, on_location, on_spot, operand_word, owner_spot_if, pointed}
use Rattle.life_store.specs.State.{Null, Static, Cell, Number, State, ready_of}
use Rattle.life_store.specs.Views.{seen_count, used, viewed}
use Rattle.life_store.specs.declared.run.FaultKind.TheVariants as fault
use Rattle.life_forest.specs.Settled.{IsPoised, Settles}
use Rattle.life_forest.specs.Sorted.{PointerFits, StaticFits}
use Rattle.life_forest.proofs.Operands.{FoundWell, operand_well}
use Rattle.life_forest.proofs.ReadyCells.{PlaceWell, location_is_object, number_any, object_cell, place_well}
use Rattle.life_forest.proofs.SeenTypes.{parts_typed, range_points, raw_points, view_is}
use Rattle.life_forest.proofs.Settling.{IsUsed, Well, number_settles, settle_got, settle_place, well_or}
use Rattle.life_forest.proofs.SettlingNumbers.{text_settles}
use Rattle.life_forest.proofs.SettlingPointers.{aims_points, aims_solid, aims_unviewed, element_settles, given, indexed, seen_range, used_at, walks_points, walks_solid}
use Rattle.life_forest.proofs.Shaped.{IsShaped}
use Rattle.life_forest.proofs.TypedSteps.{PointersAim, if_there, operand_with}

-- ---- kinds of types

owner_solid : (t : Ty) → is_owner t ≡ true → is_void t ≡ false
owner_solid ty.Void e = absurd (false≢true e)
owner_solid _ e = refl

owner_parts : (types : Types) (part : TyId → Parts) (t : Ty) → is_owner t ≡ true → parts_of types part (Some t) ≡ Single → ⊥
owner_parts types part ty.Text e single = cc
owner_parts types part (ty.Vector element) e single = cc
owner_parts types part (ty.Unique target) e single = cc
owner_parts types part _ e single = false≢true e

-- what has elements, or a target, is an owner
element_owner : (types : Types) (t : Ty) → (owned_element types t ≡ ty.Void → ⊥) → is_owner t ≡ true
element_owner types ty.Text some = refl
element_owner types (ty.Vector element) some = refl
element_owner types _ some = absurd (some refl)

target_owner : (types : Types) (t : Ty) → (owned_target types t ≡ ty.Void → ⊥) → is_owner t ≡ true
target_owner types (ty.Unique target) some = refl
target_owner types _ some = absurd (some refl)

pub target_composed : (types : Types) (t : Ty) → (owned_target types t ≡ ty.Void → ⊥) → is_composed t ≡ true
target_composed types (ty.Unique target) some = refl
target_composed types _ some = absurd (some refl)

pub span_kinds : (types : Types) (t u : Ty) → spans types t u ≡ true → (is_pointer t ≡ true) × (is_owner u ≡ true)
span_kinds types (ty.Span target constant) (ty.Vector element) e = (refl, refl)
span_kinds types ty.View ty.Text e = (refl, refl)
span_kinds types _ _ e = absurd (false≢true e)

pub gets_raw : (types : Types) (t u : Ty) → gets types t u ≡ true → is_raw t ≡ true
gets_raw types (ty.Raw target constant) u e = refl
gets_raw types _ u e = absurd (false≢true e)

pub gets_solid : (types : Types) (t : Ty) → gets types t ty.Void ≡ true → ⊥
gets_solid types (ty.Raw target constant) e = same_void (ty_of types target) e
gets_solid types _ e = false≢true e

-- characters of a text are single values
abbrev IsFixed : Found → Parts → Type 0
IsFixed (Here n i object) p = Unit {0}
IsFixed (Fixed s) p = p ≡ Single
IsFixed Outside p = Unit {0}
IsFixed (Wrong kind) p = Unit {0}
IsFixed Astray p = Unit {0}

keeps_self : (b : Bool) → keeps_const b b ≡ true
keeps_self true = refl
keeps_self false = refl

-- what a value gives that is taken
giving_well : (p : Parts) (owned : Option ℕ) → Well (giving p owned) (λ x. Unit {0})
giving_well (Unique id target) owned = tt
giving_well Single None = tt
giving_well Single (Some n) = tt
giving_well Raw None = tt
giving_well Raw (Some n) = tt
giving_well Iterates None = tt
giving_well Iterates (Some n) = tt
giving_well Views None = tt
giving_well Views (Some n) = tt
giving_well (Text id) None = tt
giving_well (Text id) (Some n) = tt
giving_well (Vector id element) None = tt
giving_well (Vector id element) (Some n) = tt
giving_well (Member first others) None = tt
giving_well (Member first others) (Some n) = tt
giving_well NoMember None = tt
giving_well NoMember (Some n) = tt

module _ (types : Types) (ordered : IsOrdered types) (once : HasEachOnce types) (texts : ℕ) (fs : List Function) (f : Function) (shaped : IsShaped types f) (st : State) (at_point : IsPoised types f st) (aims : PointersAim types f st) where
  abbrev behind : Location → Ready
  behind p = set_bits true (written p) (ready_of st)

  -- ---- owners

  pub place_there : (o : Operand) → is_void (type_of types f o) ≡ false → is_place types f o ≡ true
  place_there o some = (if_there (is_place types f o) (ty_if types (shapes.operand_type types f o)) (type_of types f o) refl some).0

  pub owner_settles : (bits : Ready) (o : Operand) (go : Spot → Effect) → is_owner (type_of types f o) ≡ true → AreBits true (ready_of st) (place_uses o)
      → ((n i : ℕ) → Settles types f bits (go (record { object = n; index = i; word = operand_word types f o st }))) → Settles types f bits (on_spot types f o st go)
  owner_settles bits o go owner uses each =
      let some = owner_solid (type_of types f o) owner in
      let at = operand_with types ordered once texts fs f shaped st aims at_point.sorted o (type_of types f o) refl some in
      over (parts_at types at.whole) (parts_typed types ordered at.whole (type_of types f o) at.there) (locate types f o st) (place_well types f st at_point o (place_there o some) uses)
      (fixed at.whole (locate types f o st) (operand_well types ordered f st at_point.frame o at.whole at.operand.0 at.operand.1))
    where
      fixed : (whole : TyId) (found : Found) → FoundWell types st.world.content whole (operand_word types f o st) found → IsFixed found (parts_at types whole)
      fixed whole (Here n i object) well = tt
      fixed whole (Fixed s) well = well
      fixed whole Outside well = tt
      fixed whole (Wrong kind) well = tt
      fixed whole Astray well = tt

      over : (p : Parts) → p ≡ parts_of types (parts_at types) (Some (type_of types f o)) → (found : Found) → PlaceWell types f o found → IsFixed found p
          → Settles types f bits (on_found found (λ n i object. go (record { object = n; index = i; word = operand_word types f o st })))
      over p is (Here n i object) well single = each n i
      over p is (Fixed s) well single = owner_parts types (parts_at types) (type_of types f o) owner (sym is ∙ single)
      over p is Outside well single = tt
      over p is (Wrong kind) well single = tt
      over p is Astray well single = well

  -- .. that are locals or members of one
  pub location_settles : (bits : Ready) (l : Location) (go : Spot → Effect) → is_composed (type_in types f l) ≡ true → IsThere (ready_of st) l.local → ((spot : Spot) → Settles types f bits (go spot)) → Settles types f bits (on_location types f l st go)
  location_settles bits l go composed there each =
      let n = object_cell types f st at_point l.local (location_is_object types f at_point.kinds l composed) there in
      subst (λ (v : Option Cell). Settles types f bits (on_got (owner_spot_if types f l v) go)) (sym n.1) (each (record { object = n.0; index = 0; word = word_within types (local_type types f l.local) l.members }))

  -- ---- a pointer is aimed

  -- what points to characters of a text takes them as const
  pub const_fits : (p : Location) (o : Operand) → keeps_const (is_constant (type_in types f p)) (is_const_place types f o) ≡ true → (n : Option ℕ) → is_const_place types f o ≡ true → StaticFits (type_in types f p) n
  const_fits p o keeps None const = tt
  const_fits p o keeps (Some n) const = go (is_constant (type_in types f p)) (is_const_place types f o) const keeps
    where
      go : (a b : Bool) → b ≡ true → (a || not b) ≡ true → a ≡ true
      go true b h k = refl
      go false b h k = absurd (false≢true (sym (ap not h) ∙ k))

  -- a place that is aimed at is there
  pub aimed_there : (p : Location) (o : Operand) → aims_at types (type_in types f p) (type_of types f o) ≡ true → is_place types f o ≡ true
  aimed_there p o e = place_there o (solid (is_void (type_of types f o)) refl)
    where
      void_is : (t : Ty) → is_void t ≡ true → t ≡ ty.Void
      void_is ty.Void h = refl
      void_is _ h = absurd (false≢true h)

      solid : (b : Bool) → is_void (type_of types f o) ≡ b → is_void (type_of types f o) ≡ false
      solid false h = h
      solid true h = absurd (aims_solid types (type_in types f p) (subst (λ (u : Ty). aims_at types (type_in types f p) u ≡ true) (void_is (type_of types f o) h) e))

  place_aims : (s : Setting) (p : Location) (o : Operand) → aims_at types (type_in types f p) (type_of types f o) ≡ true → keeps_const (is_constant (type_in types f p)) (is_const_place types f o) ≡ true
      → AreBits true (ready_of st) (place_uses o ++ part_uses p) → Settles types f (behind p) (aimed_at s types f p o st (locate types f o st))
  place_aims s p o e keeps uses =
      let pointer = aims_points types (type_in types f p) (type_of types f o) e in
      let last = bits_right true (ready_of st) (place_uses o) (part_uses p) uses in
      settle_place types f (behind p) o (locate types f o st) (λ n i object. pointed types f p (pointer_to st.world.content n i (operand_word types f o st)) st) (λ c. on_character s.texts c (λ z. pointed types f p (at_index 0 c.index (Static c)) st))
      (place_well types f st at_point o (aimed_there p o e) (bits_left true (ready_of st) (place_uses o) (part_uses p) uses))
      (λ n i object. given types f st at_point p (pointer_to st.world.content n i (operand_word types f o st)) pointer (λ view. absurd (aims_unviewed types (type_in types f p) (type_of types f o) e view)) last)
      (λ c const. text_settles types f (behind p) s.texts c (λ z. pointed types f p (at_index 0 c.index (Static c)) st) (λ z. given types f st at_point p (at_index 0 c.index (Static c)) pointer (const_fits p o keeps c.text const) last))

  pub aims_settle : (s : Setting) (p : Location) (sr : Source) → is_source_of types texts fs f (type_in types f p) sr ≡ true → AreBits true (ready_of st) (source_uses sr ++ part_uses p) → Settles types f (behind p) (aimed s types f p sr st)
  aims_settle s p source.Null e uses = given types f st at_point p Null (raw_points (type_in types f p) e) e uses
  aims_settle s p (source.Text n) e uses =
      let view = view_is (type_in types f p) (and_parts (is_view (type_in types f p)) _ e).0 in
      given types f st at_point p (viewed s.texts n) (ap is_pointer view) (ap is_constant view) uses
  aims_settle s p source.Empty e uses = given types f st at_point p empty_view (range_points (type_in types f p) e) tt uses
  aims_settle s p (source.Place o) e uses =
      let both = and_parts (aims_at types (type_in types f p) (type_of types f o)) (keeps_const (is_constant (type_in types f p)) (is_const_place types f o)) e in
      place_aims s p o both.0 both.1 uses
  aims_settle s p (source.Whole o) e uses =
      let kinds = span_kinds types (type_in types f p) (type_of types f o) (and_parts (spans types (type_in types f p) (type_of types f o)) (keeps_const (is_constant (type_in types f p)) (is_const_place types f o)) e).0 in
      owner_settles (behind p) o (λ spot. on_got (buffer_of st.world.content spot) (λ b. pointed types f p (whole_of st.world.content b) st)) kinds.1 (bits_left true (ready_of st) (place_uses o) (part_uses p) uses)
      (λ n i. settle_got types f (behind p) (buffer_of st.world.content (record { object = n; index = i; word = operand_word types f o st })) (λ b. pointed types f p (whole_of st.world.content b) st) (λ b. Unit {0})
      (well_or (owned_at st.world.content (record { object = n; index = i; word = operand_word types f o st })) fault.Moved)
      (λ b h. given types f st at_point p (whole_of st.world.content b) kinds.0 (λ view. refl) (bits_right true (ready_of st) (place_uses o) (part_uses p) uses)))
  aims_settle s p (source.Get l) e uses =
      let raw = gets_raw types (type_in types f p) (owned_target types (type_in types f l)) e in
      let composed = target_composed types (type_in types f l) (λ void. gets_solid types (type_in types f p) (subst (λ (u : Ty). gets types (type_in types f p) u ≡ true) void e)) in
      location_settles (behind p) l (λ spot. pointed types f p (owned_pointer st.world.content (owned_at st.world.content spot)) st) composed uses.0
      (λ spot. given types f st at_point p (owned_pointer st.world.content (owned_at st.world.content spot)) (raw_points (type_in types f p) raw) (fits raw (owned_at st.world.content spot)) uses.1)
    where
      fits : is_raw (type_in types f p) ≡ true → (x : Option ℕ) → PointerFits (type_in types f p) (owned_pointer st.world.content x)
      fits raw None = raw
      fits raw (Some n) = λ view. refl

  -- ---- at an element, a target, or an end

  element_at_owner : (p : Location) (o : Operand) (w : Which) → is_pointer (type_in types f p) ≡ true → is_owner (type_of types f o) ≡ true → ((r : ℕ) → w ≡ which.Index r → is_number_of types f ty.Size r ≡ true)
      → AreBits true (ready_of st) (place_uses o ++ (which_uses w ++ part_uses p)) → Settles types f (behind p) (element types f p (source.Owner o) w st)
  element_at_owner p o w pointer owner number uses =
      owner_settles (behind p) o (λ spot. owner_element types f p spot w st) owner (bits_left true (ready_of st) (place_uses o) (which_uses w ++ part_uses p) uses)
      (λ n i. at_spot (record { object = n; index = i; word = operand_word types f o st }) w number (bits_right true (ready_of st) (place_uses o) (which_uses w ++ part_uses p) uses))
    where
      by_index : (spot : Spot) (w : Which) → (w ≡ which.Target → ⊥) → ((r : ℕ) → w ≡ which.Index r → is_number_of types f ty.Size r ≡ true) → AreBits true (ready_of st) (which_uses w ++ part_uses p)
          → Settles types f (behind p) (on_got (buffer_of st.world.content spot) (λ b. element_at types f p w (size_of st.world.content b) (pointer_to st.world.content b 0 0) st))
      by_index spot w some number uses =
          settle_got types f (behind p) (buffer_of st.world.content spot) (λ b. element_at types f p w (size_of st.world.content b) (pointer_to st.world.content b 0 0) st) (λ b. Unit {0}) (well_or (owned_at st.world.content spot) fault.Moved)
          (λ b h. element_settles types f st at_point p (type_in types f p) w (size_of st.world.content b) (pointer_to st.world.content b 0 0) pointer (keeps_self (is_constant (type_in types f p))) (λ view. view) (λ view. refl) some number uses)

      at_target : (x : Option ℕ) → AreBits true (ready_of st) (part_uses p) → Settles types f (behind p) (target_at types f p x st)
      at_target None uses = tt
      at_target (Some n) uses = given types f st at_point p (pointer_to st.world.content n 0 0) pointer (λ view. refl) uses

      at_spot : (spot : Spot) (w : Which) → ((r : ℕ) → w ≡ which.Index r → is_number_of types f ty.Size r ≡ true) → AreBits true (ready_of st) (which_uses w ++ part_uses p) → Settles types f (behind p) (owner_element types f p spot w st)
      at_spot spot which.Target number uses = at_target (owned_at st.world.content spot) uses
      at_spot spot which.First number uses = by_index spot which.First unlike number uses
        where
          unlike : which.First ≡ which.Target → ⊥
          unlike k = cc
      at_spot spot which.Last number uses = by_index spot which.Last unlike number uses
        where
          unlike : which.Last ≡ which.Target → ⊥
          unlike k = cc
      at_spot spot (which.Index r) number uses = by_index spot (which.Index r) unlike number uses
        where
          unlike : which.Index r ≡ which.Target → ⊥
          unlike k = cc

  pub owned_elements_settle : (p : Location) (o : Operand) (w : Which) → aims_at types (type_in types f p) (type_of_element types f (source.Owner o) w) ≡ true → AreBits true (ready_of st) (place_uses o ++ (which_uses w ++ part_uses p))
      → Settles types f (behind p) (element types f p (source.Owner o) w st)
  owned_elements_settle p o w e uses =
      element_at_owner p o w (aims_points types (type_in types f p) (type_of_element types f (source.Owner o) w) e) (owner w e) (indexed types f st at_point p (source.Owner o) w e) uses
    where
      of_element : aims_at types (type_in types f p) (owned_element types (type_of types f o)) ≡ true → is_owner (type_of types f o) ≡ true
      of_element h = element_owner types (type_of types f o) (λ void. aims_solid types (type_in types f p) (subst (λ (u : Ty). aims_at types (type_in types f p) u ≡ true) void h))

      owner : (w : Which) → aims_at types (type_in types f p) (type_of_element types f (source.Owner o) w) ≡ true → is_owner (type_of types f o) ≡ true
      owner (which.Index r) h = go (is_number_of types f ty.Size r) h
        where
          go : (x : Bool) → aims_at types (type_in types f p) (if x then owned_element types (type_of types f o) else ty.Void) ≡ true → is_owner (type_of types f o) ≡ true
          go true k = of_element k
          go false k = absurd (aims_solid types (type_in types f p) k)
      owner which.First h = of_element h
      owner which.Last h = of_element h
      owner which.Target h = target_owner types (type_of types f o) (λ void. aims_solid types (type_in types f p) (subst (λ (u : Ty). aims_at types (type_in types f p) u ≡ true) void h))

  pub owned_cursors_settle : (p : Location) (o : Operand) (end : RangeEnd) → walks types (type_in types f p) (owned_element types (type_of types f o)) ≡ true → AreBits true (ready_of st) (place_uses o ++ part_uses p)
      → Settles types f (behind p) (cursor types f p (source.Owner o) end st)
  owned_cursors_settle p o end e uses =
      owner_settles (behind p) o (λ spot. on_got (buffer_of st.world.content spot) (λ b. pointed types f p (pointer_to st.world.content b (end_index end (size_of st.world.content b)) 0) st))
      (element_owner types (type_of types f o) (λ void. walks_solid types (type_in types f p) (subst (λ (u : Ty). walks types (type_in types f p) u ≡ true) void e))) (bits_left true (ready_of st) (place_uses o) (part_uses p) uses)
      (λ n i. settle_got types f (behind p) (buffer_of st.world.content (record { object = n; index = i; word = operand_word types f o st })) (λ b. pointed types f p (pointer_to st.world.content b (end_index end (size_of st.world.content b)) 0) st) (λ b. Unit {0})
      (well_or (owned_at st.world.content (record { object = n; index = i; word = operand_word types f o st })) fault.Moved)
      (λ b h. given types f st at_point p (pointer_to st.world.content b (end_index end (size_of st.world.content b)) 0) (walks_points types (type_in types f p) (owned_element types (type_of types f o)) e) (λ view. refl) (bits_right true (ready_of st) (place_uses o) (part_uses p) uses)))

  -- ---- sizes

  pub sizes_settle : (r : ℕ) (b : Base) → is_number_of types f ty.Size r ≡ true → not (is_void (placed.element_of types f b)) ≡ true → AreBits true (ready_of st) (base_uses b) → Settles types f (slice_set (ready_of st) r true) (sized types f r b st)
  sizes_settle r (source.Owner o) number e uses =
      owner_settles (slice_set (ready_of st) r true) o (λ spot. on_got (buffer_of st.world.content spot) (λ b. Next (put_cell r (Number (pos (size_of st.world.content b))) st)))
      (element_owner types (type_of types f o) (λ void. false≢true (sym (ap (λ (u : Ty). not (is_void u)) void) ∙ e))) uses
      (λ n i. settle_got types f (slice_set (ready_of st) r true) (buffer_of st.world.content (record { object = n; index = i; word = operand_word types f o st })) (λ b. Next (put_cell r (Number (pos (size_of st.world.content b))) st)) (λ b. Unit {0})
      (well_or (owned_at st.world.content (record { object = n; index = i; word = operand_word types f o st })) fault.Moved)
      (λ b h. number_settles types f st r _ at_point.sorted (number_any types f ty.Size r number)))
  sizes_settle r (source.Pointer l) number e uses =
      let range = seen_range types (type_in types f l) (λ void. false≢true (sym (ap (λ (u : Ty). not (is_void u)) void) ∙ e)) in
      settle_got types f (slice_set (ready_of st) r true) (used st.world.content (location_cell types f l st)) (λ v. Next (put_cell r (Number (pos (seen_count v))) st)) (IsUsed (type_in types f l)) (used_at types f st at_point l (type_in types f l) refl range.0 range.1 uses.0)
      (λ v h. number_settles types f st r _ at_point.sorted (number_any types f ty.Size r number))

  -- ---- moves

  pub moves_settle : (to : Operand) (y : ℕ) → is_owner (type_of types f to) ≡ true → object_at types f y ≡ true → AreBits true (ready_of st) (y ∷ place_uses to) → Settles types f (ready_of st) (moves types f to y st)
  moves_settle to y owner object uses =
      let m = object_cell types f st at_point y object uses.0 in
      owner_settles (ready_of st) to (λ spot. moves_from (local_parts types f y) spot (cell st y) st) owner uses.1
      (λ n i. subst (λ (v : Option Cell). Settles types f (ready_of st) (moves_from (local_parts types f y) (record { object = n; index = i; word = operand_word types f to st }) v st)) (sym m.1)
      (settle_got types f (ready_of st) (giving (local_parts types f y) (owned_in (slice_index (slot_words st.world.content m.0 0) 0)))
      (λ owned. Next (put_content (moved_to (local_parts types f y) (record { object = n; index = i; word = operand_word types f to st }) m.0 (taken (local_parts types f y) (owner_word owned ∷ []) st.world.content)) st)) (λ x. Unit {0})
      (giving_well (local_parts types f y) (owned_in (slice_index (slot_words st.world.content m.0 0) 0))) (λ x h. (refl, at_point.sorted))))
