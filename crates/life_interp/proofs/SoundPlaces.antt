-- At a point where the frames are sound, what an instruction names has the type that it takes.
use Rattle.std.proofs.Common.{◌≡◌, ℕ, ◌+◌, ◌^◌, ◌≤◌, Bool, true, false, List, length, Some, refl, sym, ap, subst, ◌∙◌, arith}
use Rattle.std.proofs.lemmas.Bool.{and_parts, false≢true}
use Rattle.std.specs.Prelude.{◌&&◌, not}
use Rattle.life_types.specs.TypeTests.{is_constant, is_iterator, is_pointer, is_value, is_view, is_void}
use Rattle.life_types.specs.Types.{Types}
use Rattle.life_types.specs.declared.ty.Ty.{Ty}
use Rattle.life_types.specs.declared.ty.Ty.TheVariants as ty
use Rattle.life_types.specs.declared.ty.TyId.{TyId}
use Rattle.life_core.specs.Function.{Function, Program}
use Rattle.life_core.specs.Linked.{Linked, code_of, numbered}
use Rattle.life_core.specs.Operands.{Base, Location, Operand, Source}
use Rattle.life_core.specs.Operands as source
use Rattle.life_core.specs.Step.{Step, Live, End, Eval, Load, Save, Copy, Move, Aim, Repoint, Element, Cursor, Advance, Cut, Size, Same, Changes, Make, Call, Ports, Writes, WritesView, Takes}
use Rattle.life_core.specs.Tree.{Action, Node}
use Rattle.life_proper.specs.OperandTypes.{aims_at, are_alike, are_compared, is_range, keeps_const, owned_element, same, seen_element, takes, walks}
use Rattle.life_proper.specs.Placed.{element_of, is_const_base, is_const_place, is_number_of, register_at, type_at, type_in, type_of, type_of_element}
use Rattle.life_proper.specs.WellFormed.{is_well_formed_node, is_well_formed_step}
use Rattle.life_proper.proofs.SortedNodes.{formed_parts}
use Rattle.life_store.specs.Parts.{parts_at, width_at}
use Rattle.life_store.specs.State.{State}
use Rattle.life_forest.specs.Frames.{named_in}
use Rattle.life_forest.specs.Owned.{times}
use Rattle.life_forest.specs.Settled.{IsPoised}
use Rattle.life_forest.proofs.HeldPoints.{poised}
use Rattle.life_forest.proofs.HeldPointers.{pointers_aim}
use Rattle.life_forest.proofs.OwnedAims.{OwnsType}
use Rattle.life_forest.proofs.SeenTypes.{text_owns, value_parts, vector_owns}
use Rattle.life_forest.proofs.SettlingPointers.{alike_points, seen_element_range, seen_range, walks_solid}
use Rattle.life_forest.proofs.Shaped.{IsShaped, locals_shaped}
use Rattle.life_forest.proofs.StandingSteps.{IsTypedBase, IsTypedSource, IsTypedStep}
use Rattle.life_forest.proofs.TypedPoints.{typed_point}
use Rattle.life_forest.proofs.TypedSteps.{PointersAim, operand_with, pointer_of, value_solid}
use Rattle.life_cells.specs.Typed.{HoldsPointer, IsBase, IsSource}
use Rattle.life_interp.specs.Accessed.{HasPlaces, IsNumberPlace}
use Rattle.life_interp.specs.Layouts.{AreReady}
use Rattle.life_interp.specs.Sound.{AreSound, IsAt, in_waiting}
use Rattle.life_interp.specs.Walk.{Waiting}
use Rattle.life_interp.specs.declared.layouts.Layouts.{Layouts}
use Rattle.life_interp.proofs.HeldPlaces.{IsOwning, number_placed, owner_held, owner_placed, placed, pointer_held}
use Rattle.life_interp.proofs.SoundPrograms.{goes_well, members}
use Rattle.life_interp.proofs.ViewPlaces.{compared_see, views_see}
use Rattle.life_interp.proofs.WideTypes.{are_wide}

-- ---- an instruction

module _ (p : Program) (ws : List Waiting) (f : Function) (q : ℕ) (st : State) (sound : AreSound p ws f (Some q) st) (l : Linked) (here : numbered (code_of f) q ≡ Some l) where
  -- each cell is of its local's sort, and each pointer that stands in a local or a member is of its type
  pub poised_here : IsPoised p.types f st
  poised_here =
      let w = goes_well p sound.proper sound.own f sound.there in
      poised p.types sound.proper.well_formed.table sound.proper.well_formed.once (members p sound.proper) (length p.names) (length p.texts) p.functions f w.formed w.points w.ready (in_waiting ws) st sound.sound

  pub typed_here : (i : Step) → l.spot.node ≡ Action i → IsTypedStep p.types f st i
  typed_here i is =
      let w = goes_well p sound.proper sound.own f sound.there in
      typed_point p.types sound.proper.well_formed.table sound.proper.well_formed.once (length p.names) (length p.texts) p.functions f w.formed w.points w.ready q st l i sound.reached here is
      (pointers_aim p.types sound.proper.well_formed.table f st sound.sound.held sound.sound.stands.frame) sound.sound.sorted

-- ---- the places that it names

pub owns_owning : (types : Types) (part id : TyId) → OwnsType (parts_at types part) id → IsOwning (parts_at types part)
owns_owning types part id owns = let one = owns.one in record { wide = omega (arith, one); owner = owns.owner }

pub not_false : (b : Bool) → not b ≡ true → b ≡ false
not_false true e = absurd (false≢true e)
not_false false e = refl

view_is : (t : Ty) → is_view t ≡ true → t ≡ ty.View
view_is ty.View e = refl
view_is _ e = absurd (false≢true e)

void_void : (t : Ty) → is_void t ≡ false → t ≡ ty.Void → ⊥
void_void t e is = false≢true (sym e ∙ ap is_void is)

compared_points : (types : Types) (t u : Ty) → are_compared types t u ≡ true → (is_pointer t ≡ true) × (is_pointer u ≡ true)
compared_points types (ty.Iterator t c) (ty.Iterator u d) e = (refl, refl)
compared_points types ty.View ty.View e = (refl, refl)
compared_points types _ _ e = absurd (false≢true e)

module _ (p : Program) (f : Function) (st : State) (i : Step) (at : IsAt p f i st) (narrow : (ty : TyId) → width_at p.types ty ≤ 2 ^ 32) where
  abbrev pub hand : ℕ → ℕ
  hand j = times (named_in st.cells) j + in_waiting at.behind j

  pub shaped : IsShaped p.types f
  shaped = let w = goes_well p at.sound.proper at.sound.own f at.sound.there in locals_shaped p.types at.sound.proper.well_formed.table (length p.names) f (formed_parts p.types (length p.names) (length p.texts) p.functions f w.formed).locals

  pub aims : PointersAim p.types f st
  aims = pointers_aim p.types at.sound.proper.well_formed.table f st at.sound.sound.held at.sound.sound.stands.frame

  pub formed_at : is_well_formed_step p.types (length p.texts) p.functions f i ≡ true
  formed_at =
      let w = goes_well p at.sound.proper at.sound.own f at.sound.there in
      subst (λ (n : Node). is_well_formed_node p.types (length p.texts) p.functions f n ≡ true) at.is (w.points at.point at.linked at.here)

  pub at_point : IsPoised p.types f st
  at_point = poised_here p at.behind f at.point st at.sound at.linked at.here

  pub typed : IsTypedStep p.types f st i
  typed = typed_here p at.behind f at.point st at.sound at.linked at.here i at.is

  pub wide : (id : TyId) → 1 ≤ width_at p.types id
  wide id = are_wide p.types at.sound.proper.well_formed.table (members p at.sound.proper) id

  -- a location of a pointer
  pub held_pointer : (l : Location) → is_pointer (type_in p.types f l) ≡ true → HoldsPointer p.types f l st
  held_pointer l is =
      let q = pointer_of p.types at.sound.proper.well_formed.table at.sound.proper.well_formed.once (length p.texts) p.functions f shaped st aims at.sound.sound.sorted l (type_in p.types f l) refl is in
      pointer_held p.types at.sound.proper.well_formed.table narrow f hand st at.sound.sound.stands.store at.sound.sound.stands.frame l q.part q.takes.0 q.takes.1

  -- a place of a value
  number_here : (o : Operand) (r : ℕ) → is_number_of p.types f (type_of p.types f o) r ≡ true → IsNumberPlace p.types f o st
  number_here o r e =
      let table = at.sound.proper.well_formed.table in
      let value = (and_parts (is_value (type_of p.types f o)) (same (type_of p.types f o) (type_at p.types f r)) (and_parts (register_at p.types f r) (is_value (type_of p.types f o) && same (type_of p.types f o) (type_at p.types f r)) e).1).0 in
      let of = operand_with p.types table at.sound.proper.well_formed.once (length p.texts) p.functions f shaped st aims at.sound.sound.sorted o (type_of p.types f o) refl (value_solid (type_of p.types f o) value) in
      number_placed p.types table narrow f hand st at.sound.sound.stands.store at.sound.sound.stands.frame o of.whole of.operand.0 of.operand.1 (value_parts p.types table of.whole (type_of p.types f o) of.there value)

  -- what a pointer is aimed at
  source_here : (part : TyId) (s : Source) → IsTypedSource p.types f st part s → IsSource p.types f s st
  source_here part source.Null t = tt
  source_here part (source.Text n) t = tt
  source_here part source.Empty t = tt
  source_here part (source.Place o) t = placed p.types at.sound.proper.well_formed.table narrow f hand st at.sound.sound.stands.store at.sound.sound.stands.frame o t.0 t.1.0 t.1.1 (wide t.0)
  source_here part (source.Whole o) t =
      owner_placed p.types at.sound.proper.well_formed.table narrow f hand st at.sound.sound.stands.store at.sound.sound.stands.frame o t.0 t.1.0 t.1.1 (owns_owning p.types t.0 t.2.0 t.2.1)
  source_here part (source.Get l) t =
      owner_held p.types at.sound.proper.well_formed.table narrow f hand st at.sound.sound.stands.store at.sound.sound.stands.frame l t.0 t.1 (owns_owning p.types t.0 t.2.0 t.2.1)

  -- what has elements
  base_here : (part : TyId) (b : Base) → IsTypedBase p.types f st part b → ((l : Location) → b ≡ source.Pointer l → is_pointer (type_in p.types f l) ≡ true) → IsBase p.types f b st
  base_here part (source.Owner o) t points =
      owner_placed p.types at.sound.proper.well_formed.table narrow f hand st at.sound.sound.stands.store at.sound.sound.stands.frame o t.0 t.1.0 t.1.1 (owns_owning p.types t.0 t.2.0 t.2.1)
  base_here part (source.Pointer l) t points = held_pointer l (points l refl)

  -- .. and is counted
  owner_counted : (o : Operand) (t : Ty) → type_of p.types f o ≡ t → is_void (owned_element p.types t) ≡ false → IsBase p.types f (source.Owner o) st
  owner_counted o ty.Text is some =
      let table = at.sound.proper.well_formed.table in
      let of = operand_with p.types table at.sound.proper.well_formed.once (length p.texts) p.functions f shaped st aims at.sound.sound.sorted o ty.Text is refl in
      owner_placed p.types table narrow f hand st at.sound.sound.stands.store at.sound.sound.stands.frame o of.whole of.operand.0 of.operand.1 (owns_owning p.types of.whole _ (text_owns p.types table of.whole of.there))
  owner_counted o (ty.Vector element) is some =
      let table = at.sound.proper.well_formed.table in
      let of = operand_with p.types table at.sound.proper.well_formed.once (length p.texts) p.functions f shaped st aims at.sound.sound.sorted o (ty.Vector element) is refl in
      owner_placed p.types table narrow f hand st at.sound.sound.stands.store at.sound.sound.stands.frame o of.whole of.operand.0 of.operand.1 (owns_owning p.types of.whole element (vector_owns p.types table of.whole element of.there))
  owner_counted o _ is some = absurd (false≢true (sym some))

  counted_here : (b : Base) → is_void (element_of p.types f b) ≡ false → IsBase p.types f b st
  counted_here (source.Owner o) some = owner_counted o (type_of p.types f o) refl some
  counted_here (source.Pointer l) some = held_pointer l (seen_range p.types (type_in p.types f l) (void_void (seen_element p.types (type_in p.types f l)) some)).0

-- ---- at each instruction

module _ (p : Program) (f : Function) (st : State) (layouts : Layouts) (ready : AreReady p.types layouts) where
  both_alike : (i : Step) (at : IsAt p f i st) (l m : Location) → takes p.types (type_in p.types f l) (type_in p.types f m) ≡ true → HoldsPointer p.types f l st × HoldsPointer p.types f m st
  both_alike i at l m e =
      let alike = (and_parts (are_alike p.types (type_in p.types f l) (type_in p.types f m)) (keeps_const (is_constant (type_in p.types f l)) (is_constant (type_in p.types f m))) e).0 in
      let both = alike_points p.types (type_in p.types f l) (type_in p.types f m) alike in
      (held_pointer p f st i at ready.narrow l both.0, held_pointer p f st i at ready.narrow m both.1)

  pub has_places : (i : Step) → IsAt p f i st → HasPlaces p.types f st i
  has_places (Load r o) at = number_here p f st (Load r o) at ready.narrow o r (formed_at p f st (Load r o) at ready.narrow)
  has_places (Save o r) at = number_here p f st (Save o r) at ready.narrow o r (and_parts (is_number_of p.types f (type_of p.types f o) r) (not (is_const_place p.types f o)) (formed_at p f st (Save o r) at ready.narrow)).0
  has_places (Aim l s) at =
      let t = typed p f st (Aim l s) at ready.narrow in (
        pointer_held p.types at.sound.proper.well_formed.table ready.narrow f (hand p f st (Aim l s) at ready.narrow) st at.sound.sound.stands.store at.sound.sound.stands.frame l t.0 t.1.0 t.1.1,
        source_here p f st (Aim l s) at ready.narrow t.0 s t.2,
      )
  has_places (Repoint l m) at = both_alike (Repoint l m) at l m (formed_at p f st (Repoint l m) at ready.narrow)
  has_places (Element l b which) at =
      let t = typed p f st (Element l b which) at ready.narrow in
      let e = formed_at p f st (Element l b which) at ready.narrow in (
        pointer_held p.types at.sound.proper.well_formed.table ready.narrow f (hand p f st (Element l b which) at ready.narrow) st at.sound.sound.stands.store at.sound.sound.stands.frame l t.0 t.1.0 t.1.1,
        base_here p f st (Element l b which) at ready.narrow t.0 b t.2
            (λ m is. (seen_element_range p.types f st (at_point p f st (Element l b which) at ready.narrow) l m which
            (subst (λ (x : Base). aims_at p.types (type_in p.types f l) (type_of_element p.types f x which) ≡ true) is (and_parts (aims_at p.types (type_in p.types f l) (type_of_element p.types f b which)) (keeps_const (is_constant (type_in p.types f l)) (is_const_base p.types f b)) e).0)).0),
      )
  has_places (Cursor l b end) at =
      let t = typed p f st (Cursor l b end) at ready.narrow in
      let e = formed_at p f st (Cursor l b end) at ready.narrow in (
        pointer_held p.types at.sound.proper.well_formed.table ready.narrow f (hand p f st (Cursor l b end) at ready.narrow) st at.sound.sound.stands.store at.sound.sound.stands.frame l t.0 t.1.0 t.1.1,
        base_here p f st (Cursor l b end) at ready.narrow t.0 b t.2
            (λ m is. let walked = subst (λ (x : Base). walks p.types (type_in p.types f l) (element_of p.types f x) ≡ true) is (and_parts (walks p.types (type_in p.types f l) (element_of p.types f b)) (keeps_const (is_constant (type_in p.types f l)) (is_const_base p.types f b)) e).0 in
            (seen_range p.types (type_in p.types f m) (λ void. walks_solid p.types (type_in p.types f l) (subst (λ (u : Ty). walks p.types (type_in p.types f l) u ≡ true) void walked))).0),
      )
  has_places (Advance l m r direction) at = both_alike (Advance l m r direction) at l m (and_parts (takes p.types (type_in p.types f l) (type_in p.types f m)) _ (and_parts (is_iterator (type_in p.types f l)) _ (formed_at p f st (Advance l m r direction) at ready.narrow)).1).0
  has_places (Cut l m r count) at = both_alike (Cut l m r count) at l m (and_parts (takes p.types (type_in p.types f l) (type_in p.types f m)) _ (and_parts (is_range (type_in p.types f l)) _ (formed_at p f st (Cut l m r count) at ready.narrow)).1).0
  has_places (Size r b) at = counted_here p f st (Size r b) at ready.narrow b (not_false (is_void (element_of p.types f b)) (and_parts (is_number_of p.types f ty.Size r) (not (is_void (element_of p.types f b))) (formed_at p f st (Size r b) at ready.narrow)).1)
  has_places (Same r l m equal) at =
      let table = at.sound.proper.well_formed.table in
      let are = (and_parts (is_number_of p.types f ty.Bool r) (are_compared p.types (type_in p.types f l) (type_in p.types f m)) (formed_at p f st (Same r l m equal) at ready.narrow)).1 in
      let both = compared_points p.types (type_in p.types f l) (type_in p.types f m) are in
      let see = compared_see p.types table at.sound.proper.well_formed.once (length p.texts) p.functions f (shaped p f st (Same r l m equal) at ready.narrow) st (aims p f st (Same r l m equal) at ready.narrow) at.sound.sound.sorted
      (at_point p f st (Same r l m equal) at ready.narrow).pointers l m (type_in p.types f l) (type_in p.types f m) refl refl are in
      (held_pointer p f st (Same r l m equal) at ready.narrow l both.0, held_pointer p f st (Same r l m equal) at ready.narrow m both.1, λ views. (see views).0, λ views. (see views).1)
  has_places (Live x form) at = tt
  has_places (End xs) at = tt
  has_places (Eval r operation) at = tt
  has_places (Copy to from) at = tt
  has_places (Move to y) at = tt
  has_places (Changes o change) at = tt
  has_places (Make u made) at = tt
  has_places (Call target g xs) at = tt
  has_places (Ports (Writes r)) at = tt
  has_places (Ports (WritesView l)) at =
      let view = view_is (type_in p.types f l) (formed_at p f st (Ports (WritesView l)) at ready.narrow) in (
        held_pointer p f st (Ports (WritesView l)) at ready.narrow l (ap is_pointer view),
        views_see p.types at.sound.proper.well_formed.table at.sound.proper.well_formed.once (length p.texts) p.functions f (shaped p f st (Ports (WritesView l)) at ready.narrow) st (aims p f st (Ports (WritesView l)) at ready.narrow) at.sound.sound.sorted
            (at_point p f st (Ports (WritesView l)) at ready.narrow).pointers l view,
      )
  has_places (Ports (Takes r)) at = tt
