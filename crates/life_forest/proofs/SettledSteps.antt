-- No instruction that is well formed and ready strays: behind it the locals are there that readiness says, each of its sort.
use Rattle.std.proofs.Common.{◌≡◌, ℕ, true, not, List, refl, subst}
use Rattle.std.proofs.lemmas.Bool.{and_parts}
use Rattle.life_types.specs.Trees.{IsOrdered, holds_unique}
use Rattle.life_types.specs.TypeTests.{is_constant, is_iterator, is_pointer, is_void}
use Rattle.life_types.specs.Types.{HasEachOnce, Types}
use Rattle.life_types.specs.declared.ty.Ty.TheVariants as ty
use Rattle.life_core.specs.Function.{Function}
use Rattle.life_core.specs.Operands as source
use Rattle.life_core.specs.Proper.{AreReady, bits_after}
use Rattle.life_core.specs.Ready.{Ready, set_bits}
use Rattle.life_core.specs.Step.{Port, Writes, WritesView, Takes, Step, Live, End, Eval, Load, Save, Copy, Move, Aim, Repoint, Element, Cursor, Advance, Cut, Size, Same, Changes, Make, Call, Ports}
use Rattle.life_core.specs.Touched.{port_writes, touched_by}
use Rattle.life_core.proofs.ReadyLemmas.{port_behind}
use Rattle.life_pset.specs.Shapes.{operand_type, tree_if}
use Rattle.life_proper.specs.OperandTypes.{aims_at, are_compared, is_owner, is_range, keeps_const, same, takes, walks}
use Rattle.life_proper.specs.Placed.{is_const_base, is_const_place, is_number, is_number_of, is_number_of_if, object_at, type_in, type_of, type_of_element}
use Rattle.life_proper.specs.Placed as placed
use Rattle.life_proper.specs.WellFormed.{is_change_of, is_well_formed_step}
use Rattle.life_store.specs.Doing.{does}
use Rattle.life_store.specs.Effects.{Setting}
use Rattle.life_store.specs.State.{State, ready_of}
use Rattle.life_forest.specs.FrameTypes.{Stands}
use Rattle.life_forest.specs.Settled.{IsPoised, Settles}
use Rattle.life_forest.proofs.CopiedTypes.{LocalsStand}
use Rattle.life_forest.proofs.SettlingCopies.{copies_settle}
use Rattle.life_forest.proofs.SettlingEdits.{changes_settle, makes_settle}
use Rattle.life_forest.proofs.SettlingLives.{HaveMembers, ends_settle, lives_settle}
use Rattle.life_forest.proofs.SettlingNumbers.{evaluated_settles, loaded_settles, ports_settle, sames_settle, saves_settle}
use Rattle.life_forest.proofs.SettlingOwners.{aims_settle, moves_settle, owned_cursors_settle, owned_elements_settle, sizes_settle}
use Rattle.life_forest.proofs.SettlingPointers.{advances_settle, cuts_settle, repoints_settle, seen_cursors_settle, seen_elements_settle}
use Rattle.life_forest.proofs.Shaped.{IsShaped}
use Rattle.life_forest.proofs.TypedSteps.{IsSlotFree, PointersAim}

-- a call is no instruction of one frame
abbrev pub IsOneFrame : Step → Type 0
IsOneFrame (Call target g xs) = ⊥
IsOneFrame _ = Unit {0}

module _ (types : Types) (ordered : IsOrdered types) (once : HasEachOnce types) (some : HaveMembers types) (texts : ℕ) (fs : List Function) (f : Function) (shaped : IsShaped types f) (stand : LocalsStand types ordered f) (rest : ℕ → ℕ) (s : Setting) (st : State)
    (stands : Stands types f rest st) (at_point : IsPoised types f st) (aims : PointersAim types f st) where
  port_bits : (p : Port) → port_behind p (ready_of st) ≡ set_bits true (port_writes p) (ready_of st)
  port_bits (Writes r) = refl
  port_bits (WritesView l) = refl
  port_bits (Takes r) = refl

  pub step_settles : (i : Step) → IsOneFrame i → is_well_formed_step types texts fs f i ≡ true → IsSlotFree types f i → AreReady (ready_of st) (touched_by f i) → Settles types f (bits_after (touched_by f i) (ready_of st)) (does s types f i st)
  step_settles (Live x form) one e free ready = lives_settle types ordered f at_point.kinds some shaped texts fs st at_point.sorted s x form e free ready.births.0
  step_settles (End xs) one e free ready = ends_settle types ordered f at_point.kinds texts fs rest xs st stands at_point.sorted e ready.leaves
  step_settles (Eval r o) one e free ready = let both = and_parts (is_number types f r) _ e in evaluated_settles types texts fs f st at_point r o both.0 both.1 ready.uses
  step_settles (Load r o) one e free ready = loaded_settles types texts fs f st at_point s r o e ready.uses
  step_settles (Save o r) one e free ready = let both = and_parts (is_number_of types f (type_of types f o) r) (not (is_const_place types f o)) e in saves_settle types texts fs f st at_point o r both.0 both.1 ready.uses
  step_settles (Copy to from) one e free ready =
      let first = and_parts (same (type_of types f to) (type_of types f from)) _ e in
      let last = and_parts (not (holds_unique (tree_if types (operand_type types f to)))) (not (is_const_place types f to)) (and_parts (not (is_pointer (type_of types f to))) _ first.1).1 in
      copies_settle types ordered once texts fs f shaped stand st at_point aims s to from first.0 last.0 last.1 ready.uses
  step_settles (Move to y) one e free ready =
      let outer = and_parts (is_owner (type_of types f to)) _ e in
      moves_settle types ordered once texts fs f shaped st at_point aims to y outer.0 (and_parts (object_at types f y) _ outer.1).0 ready.uses
  step_settles (Aim p sr) one e free ready = aims_settle types ordered once texts fs f shaped st at_point aims s p sr e ready.uses
  step_settles (Repoint p q) one e free ready = repoints_settle types f st at_point p q e ready.uses
  step_settles (Element p (source.Owner o) w) one e free ready =
      owned_elements_settle types ordered once texts fs f shaped st at_point aims p o w (and_parts (aims_at types (type_in types f p) (type_of_element types f (source.Owner o) w)) (keeps_const (is_constant (type_in types f p)) (is_const_base types f (source.Owner o))) e).0 ready.uses
  step_settles (Element p (source.Pointer l) w) one e free ready =
      let both = and_parts (aims_at types (type_in types f p) (type_of_element types f (source.Pointer l) w)) (keeps_const (is_constant (type_in types f p)) (is_const_base types f (source.Pointer l))) e in
      seen_elements_settle types f st at_point p l w both.0 both.1 ready.uses
  step_settles (Cursor p (source.Owner o) end) one e free ready =
      owned_cursors_settle types ordered once texts fs f shaped st at_point aims p o end (and_parts (walks types (type_in types f p) (placed.element_of types f (source.Owner o))) (keeps_const (is_constant (type_in types f p)) (is_const_base types f (source.Owner o))) e).0 ready.uses
  step_settles (Cursor p (source.Pointer l) end) one e free ready =
      let both = and_parts (walks types (type_in types f p) (placed.element_of types f (source.Pointer l))) (keeps_const (is_constant (type_in types f p)) (is_const_base types f (source.Pointer l))) e in
      seen_cursors_settle types f st at_point p l end both.0 both.1 ready.uses
  step_settles (Advance p q r way) one e free ready =
      let outer = and_parts (is_iterator (type_in types f p)) _ e in
      let inner = and_parts (takes types (type_in types f p) (type_in types f q)) (is_number types f r) outer.1 in
      advances_settle types f st at_point s p q r way outer.0 inner.0 inner.1 ready.uses
  step_settles (Cut p q r count) one e free ready =
      let outer = and_parts (is_range (type_in types f p)) _ e in
      let inner = and_parts (takes types (type_in types f p) (type_in types f q)) _ outer.1 in
      let last = and_parts (is_number_of types f ty.Size r) (is_number_of_if types f ty.Size count) inner.1 in
      cuts_settle types f st at_point p q r count outer.0 inner.0 last.0 last.1 ready.uses
  step_settles (Size r b) one e free ready =
      let both = and_parts (is_number_of types f ty.Size r) (not (is_void (placed.element_of types f b))) e in
      sizes_settle types ordered once texts fs f shaped st at_point aims r b both.0 both.1 ready.uses
  step_settles (Same r a b equal) one e free ready =
      let both = and_parts (is_number_of types f ty.Bool r) (are_compared types (type_in types f a) (type_in types f b)) e in
      sames_settle types texts fs f st at_point s r a b equal both.0 both.1 ready.uses
  step_settles (Changes o c) one e free ready =
      changes_settle types ordered once texts fs f shaped st at_point aims s o c (and_parts (is_change_of types texts fs f (type_of types f o) c) (not (is_const_place types f o)) e).0 ready.uses ready.leaves
  step_settles (Make u m) one e free ready = makes_settle types ordered once texts fs f shaped st at_point aims s u m e ready.uses ready.leaves
  step_settles (Call target g xs) one e free ready = absurd one
  step_settles (Ports p) one e free ready = subst (λ (bits : Ready). Settles types f bits (does s types f (Ports p) st)) (port_bits p) (ports_settle types texts fs f st at_point s p e ready.uses)
