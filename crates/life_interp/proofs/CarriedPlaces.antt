-- At a point where the frames are sound, what is copied has copies, and what gives what it has owns by its first word.
use Rattle.std.proofs.Common.{◌≡◌, ℕ, true, false, length, Option, Some, refl, sym, subst, ◌∙◌}
use Rattle.std.proofs.lemmas.Bool.{and_parts, false≢true}
use Rattle.std.proofs.lemmas.Option.{same_Some}
use Rattle.std.specs.Prelude.{not, slice_get}
use Rattle.life_types.specs.Trees.{IsOrdered, holds_unique}
use Rattle.life_types.specs.TypeTests.{is_pointer, is_void}
use Rattle.life_types.specs.Types.{Types}
use Rattle.life_types.specs.declared.ty.Ty.{Ty}
use Rattle.life_types.specs.declared.ty.Ty.TheVariants as ty
use Rattle.life_types.specs.declared.ty.TyId.{TyId}
use Rattle.life_core.specs.Function.{Function, Program}
use Rattle.life_core.specs.Operands.{Operand}
use Rattle.life_core.specs.Step.{Copy, Move}
use Rattle.life_pset.specs.Shapes.{tree_if}
use Rattle.life_pset.specs.Shapes as shapes
use Rattle.life_proper.specs.OperandTypes.{is_owner, same}
use Rattle.life_proper.specs.Placed.{type_of}
use Rattle.life_proper.specs.WellFormedPrograms.{may_stand}
use Rattle.life_store.specs.Parts.{local_parts, operand_parts, parts_at, parts_if}
use Rattle.life_store.specs.State.{State}
use Rattle.life_forest.proofs.CopiedTypes.{LocalsStand, copied_free, operand_stands}
use Rattle.life_forest.proofs.SeenTypes.{parts_typed}
use Rattle.life_forest.proofs.SettledPoints.{locals_stand}
use Rattle.life_forest.proofs.TypedSteps.{operand_same, operand_with}
use Rattle.life_values.specs.Copyable.{HasCopy}
use Rattle.life_moves.specs.MovedTo.{IsOwning}
use Rattle.life_cells.specs.Typed.{IsPlaced}
use Rattle.life_copies.proofs.Copyable.{has_copy}
use Rattle.life_interp.specs.Layouts.{AreReady}
use Rattle.life_interp.specs.Sound.{IsAt}
use Rattle.life_interp.specs.declared.layouts.Layouts.{Layouts}
use Rattle.life_interp.proofs.HeldPlaces.{placed}
use Rattle.life_interp.proofs.SoundPlaces.{aims, formed_at, hand, not_false, shaped, typed, wide}
use Rattle.life_interp.proofs.SoundPrograms.{goes_well, members}

owner_solid : (t : Ty) → is_owner t ≡ true → is_void t ≡ false
owner_solid ty.Text e = refl
owner_solid (ty.Vector element) e = refl
owner_solid (ty.Unique target) e = refl
owner_solid _ e = absurd (false≢true e)

owning_parts : (types : Types) (ordered : IsOrdered types) (id : TyId) (t : Ty) → slice_get types.types id.0 ≡ Some t → is_owner t ≡ true → IsOwning (parts_at types id)
owning_parts types ordered id ty.Text there e = subst IsOwning (sym (parts_typed types ordered id ty.Text there)) tt
owning_parts types ordered id (ty.Vector element) there e = subst IsOwning (sym (parts_typed types ordered id (ty.Vector element) there)) tt
owning_parts types ordered id (ty.Unique target) there e = subst IsOwning (sym (parts_typed types ordered id (ty.Unique target) there)) tt
owning_parts types ordered id _ there e = absurd (false≢true e)

module _ (p : Program) (f : Function) (st : State) (layouts : Layouts) (ready : AreReady p.types layouts) where
  -- ---- copies

  module _ (to from : Operand) (at : IsAt p f (Copy to from) st) where
    pub copied_placed : IsPlaced p.types f to st
    copied_placed =
        let t = typed p f st (Copy to from) at ready.narrow in
        placed p.types at.sound.proper.well_formed.table ready.narrow f (hand p f st (Copy to from) at ready.narrow) st at.sound.sound.stands.store at.sound.sound.stands.frame to t.0 t.2.0 t.2.1 (wide p f st (Copy to from) at ready.narrow t.0)

    pub source_placed : IsPlaced p.types f from st
    source_placed =
        let t = typed p f st (Copy to from) at ready.narrow in
        placed p.types at.sound.proper.well_formed.table ready.narrow f (hand p f st (Copy to from) at ready.narrow) st at.sound.sound.stands.store at.sound.sound.stands.frame from t.1 t.3.0 t.3.1 (wide p f st (Copy to from) at ready.narrow t.1)

    stand : LocalsStand p.types at.sound.proper.well_formed.table f
    stand =
        let w = goes_well p at.sound.proper at.sound.own f at.sound.there in
        locals_stand p.types at.sound.proper.well_formed.table at.sound.proper.well_formed.once (members p at.sound.proper) (length p.names) (length p.texts) p.functions f w.formed w.points w.ready

    -- it holds no unique_ptr
    pub copied_has : HasCopy (operand_parts p.types f to)
    copied_has =
        let types = p.types in
        let table = at.sound.proper.well_formed.table in
        let t = typed p f st (Copy to from) at ready.narrow in
        let part = t.0 in
        let e = (and_parts (same (type_of types f to) (type_of types f from)) _ (formed_at p f st (Copy to from) at ready.narrow)).1 in
        let free = (and_parts (not (holds_unique (tree_if types (shapes.operand_type types f to)))) _ (and_parts (not (is_pointer (type_of types f to))) _ e).1).0 in
        let is : shapes.operand_type types f to ≡ Some part = operand_same types table at.sound.proper.well_formed.once (length p.texts) p.functions f (shaped p f st (Copy to from) at ready.narrow) to ∙ t.2.0 in
        let may = subst (λ (id : Option TyId). may_stand (tree_if types id) ≡ true) is (operand_stands types table f stand to) in
        let none = not_false (holds_unique (tree_if types (Some part))) (subst (λ (id : Option TyId). not (holds_unique (tree_if types id)) ≡ true) is free) in
        subst (λ (id : Option TyId). HasCopy (parts_if types id)) (sym t.2.0) (has_copy (parts_at types part) (copied_free types table part may none))

  -- ---- moves

  module _ (to : Operand) (y : ℕ) (at : IsAt p f (Move to y) st) where
    pub moved_placed : IsPlaced p.types f to st
    moved_placed =
        let t = typed p f st (Move to y) at ready.narrow in
        placed p.types at.sound.proper.well_formed.table ready.narrow f (hand p f st (Move to y) at ready.narrow) st at.sound.sound.stands.store at.sound.sound.stands.frame to t.0 t.1.0 t.1.1 (wide p f st (Move to y) at ready.narrow t.0)

    pub giver_owns : IsOwning (local_parts p.types f y)
    giver_owns =
        let types = p.types in
        let table = at.sound.proper.well_formed.table in
        let t = typed p f st (Move to y) at ready.narrow in
        let owner = (and_parts (is_owner (type_of types f to)) _ (formed_at p f st (Move to y) at ready.narrow)).0 in
        let of = operand_with types table at.sound.proper.well_formed.once (length p.texts) p.functions f (shaped p f st (Move to y) at ready.narrow) st (aims p f st (Move to y) at ready.narrow) at.sound.sound.sorted to (type_of types f to) refl (owner_solid (type_of types f to) owner) in
        let one : of.whole ≡ t.0 = same_Some of.whole t.0 (sym of.operand.0 ∙ t.1.0) in
        subst (λ (id : Option TyId). IsOwning (parts_if types id)) (sym t.2) (subst (λ (id : TyId). IsOwning (parts_at types id)) one (owning_parts types table of.whole (type_of types f to) of.there owner))
