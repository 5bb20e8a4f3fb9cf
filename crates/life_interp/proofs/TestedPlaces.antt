-- At a point where the frames are sound, what a test asks is there, and of its type.
use Rattle.std.proofs.Common.{◌≡◌, ℕ, ◌+◌, ◌^◌, ◌≤◌, Bool, true, false, List, [], length, Option, Some, refl, sym, ap, subst, ◌∙◌}
use Rattle.std.proofs.lemmas.Bool.{false≢true}
use Rattle.std.specs.Prelude.{◌||◌}
use Rattle.life_types.specs.TypeTests.{is_pointer, is_raw}
use Rattle.life_types.specs.TypeTests as tests
use Rattle.life_types.specs.declared.ty.Ty.{Ty}
use Rattle.life_types.specs.declared.ty.Ty.TheVariants as ty
use Rattle.life_types.specs.declared.ty.TyId.{TyId}
use Rattle.life_core.specs.Function.{Function, Program}
use Rattle.life_core.specs.Operands.{Location}
use Rattle.life_core.specs.Step.{Test, NonZero, NotNull}
use Rattle.life_core.specs.Tree.{Node}
use Rattle.life_pset.specs.Shapes.{members_type, ty_if}
use Rattle.life_pset.specs.Shapes as shapes
use Rattle.life_proper.specs.Placed.{object_at, type_at, type_in}
use Rattle.life_proper.specs.WellFormed.{is_well_formed_node}
use Rattle.life_proper.proofs.SortedNodes.{formed_parts}
use Rattle.life_store.specs.Effects.{cell}
use Rattle.life_store.specs.Parts.{Parts, Single, Raw, Iterates, Views, Text, Vector, Unique, Member, NoMember, location_parts, parts_at, parts_if, width_at}
use Rattle.life_store.specs.State.{Named, State}
use Rattle.life_forest.specs.Frames.{named_in}
use Rattle.life_forest.specs.Owned.{times}
use Rattle.life_forest.specs.Settled.{IsPoised}
use Rattle.life_forest.specs.Sorted.{Aims, Names, sort_if}
use Rattle.life_forest.proofs.HeldPointers.{pointers_aim}
use Rattle.life_forest.proofs.ReadyCells.{pointer_no_object}
use Rattle.life_forest.proofs.SeenTypes.{parts_typed, raw_points, unique_owns}
use Rattle.life_forest.proofs.Shaped.{IsShaped, locals_shaped}
use Rattle.life_forest.proofs.StandingPointers.{IsPointer}
use Rattle.life_forest.proofs.TypedSteps.{PointersAim, location_of, pointer_of}
use Rattle.life_cells.specs.Asked.{IsTestable, is_unique}
use Rattle.life_cells.specs.Typed.{HoldsOwner}
use Rattle.life_interp.specs.Accessed.{HasTested}
use Rattle.life_interp.specs.Layouts.{AreReady}
use Rattle.life_interp.specs.Sound.{IsAsking, in_waiting}
use Rattle.life_interp.specs.declared.layouts.Layouts.{Layouts}
use Rattle.life_interp.proofs.HeldPlaces.{owner_held, pointer_held}
use Rattle.life_interp.proofs.SoundPlaces.{owns_owning, poised_here}
use Rattle.life_interp.proofs.SoundPrograms.{goes_well}

no_unique : (p : Parts) → IsPointer p → is_unique p ≡ false
no_unique Raw is = refl
no_unique Iterates is = refl
no_unique Views is = refl
no_unique Single is = absurd is
no_unique (Text id) is = absurd is
no_unique (Vector id element) is = absurd is
no_unique (Unique id target) is = absurd is
no_unique (Member first others) is = absurd is
no_unique NoMember is = absurd is

unique_target : (t : Ty) → tests.is_unique t ≡ true → (target : TyId) × (t ≡ ty.Unique target)
unique_target (ty.Unique target) e = (target, refl)
unique_target _ e = absurd (false≢true e)

module _ (p : Program) (f : Function) (st : State) (t : Test) (at : IsAsking p f t st) (narrow : (ty : TyId) → width_at p.types ty ≤ 2 ^ 32) where
  abbrev hand : ℕ → ℕ
  hand j = times (named_in st.cells) j + in_waiting at.behind j

  shaped : IsShaped p.types f
  shaped = let w = goes_well p at.sound.proper at.sound.own f at.sound.there in locals_shaped p.types at.sound.proper.well_formed.table (length p.names) f (formed_parts p.types (length p.names) (length p.texts) p.functions f w.formed).locals

  aims : PointersAim p.types f st
  aims = pointers_aim p.types at.sound.proper.well_formed.table f st at.sound.sound.held at.sound.sound.stands.frame

  formed : is_well_formed_node p.types (length p.texts) p.functions f at.linked.spot.node ≡ true
  formed = (goes_well p at.sound.proper at.sound.own f at.sound.there).points at.point at.linked at.here

  at_point : IsPoised p.types f st
  at_point = poised_here p at.behind f at.point st at.sound at.linked at.here

  -- no local of a pointer names an object
  unnamed : (l : Location) (n : ℕ) → l.members ≡ [] → is_pointer (type_in p.types f l) ≡ true → cell st l.local ≡ Some (Named n) → ⊥
  unnamed l n none pointer named =
      let own : is_pointer (type_at p.types f l.local) ≡ true = subst (λ (ms : List ℕ). is_pointer (ty_if p.types (members_type p.types (shapes.local_type p.types f l.local) ms)) ≡ true) none pointer in
      clash
      (ap (λ b. sort_if b true) (sym (pointer_no_object p.types f at_point.kinds l.local own))
      ∙ ap (sort_if (object_at p.types f l.local)) (sym own)
      ∙ at_point.sorted l.local (Named n) named)
    where
      clash : Aims ≡ Names → ⊥
      clash k = cc

  raw_testable : (l : Location) → is_raw (type_in p.types f l) ≡ true → IsTestable p.types f l st
  raw_testable l raw =
      let table = at.sound.proper.well_formed.table in
      let pointer = raw_points (type_in p.types f l) raw in
      let of = pointer_of p.types table at.sound.proper.well_formed.once (length p.texts) p.functions f shaped st aims at.sound.sound.sorted l (type_in p.types f l) refl pointer in
      let plain = ap (λ (id : Option TyId). is_unique (parts_if p.types id)) of.takes.0 ∙ no_unique (parts_at p.types of.part) of.takes.1 in
      record {
        own = λ none n named. absurd (unnamed l n none pointer named);
        owner = λ unique. absurd (false≢true (sym plain ∙ unique));
        pointer = λ other. pointer_held p.types table narrow f hand st at.sound.sound.stands.store at.sound.sound.stands.frame l of.part of.takes.0 of.takes.1;
      }

  unique_testable : (l : Location) (target : TyId) → type_in p.types f l ≡ ty.Unique target → IsTestable p.types f l st
  unique_testable l target is =
      let table = at.sound.proper.well_formed.table in
      let of = location_of p.types table at.sound.proper.well_formed.once (length p.texts) p.functions f shaped l (ty.Unique target) is refl in
      let owns : HoldsOwner p.types f l st = owner_held p.types table narrow f hand st at.sound.sound.stands.store at.sound.sound.stands.frame l of.number of.is (owns_owning p.types of.number target (unique_owns p.types table of.number target of.there)) in
      let unique : is_unique (location_parts p.types f l) ≡ true = ap (λ (id : Option TyId). is_unique (parts_if p.types id)) of.is ∙ ap is_unique (parts_typed p.types table of.number (ty.Unique target) of.there) in
      record {
        own = λ none. owns;
        owner = λ k. owns;
        pointer = λ plain. absurd (false≢true (sym plain ∙ unique));
      }

  either_testable : (l : Location) (raw : Bool) → is_raw (type_in p.types f l) ≡ raw → (raw || tests.is_unique (type_in p.types f l)) ≡ true → IsTestable p.types f l st
  either_testable l true is e = raw_testable l is
  either_testable l false is e = let u = unique_target (type_in p.types f l) e in unique_testable l u.0 u.1

-- what the test at the point asks
pub has_tested : (p : Program) (f : Function) (st : State) (layouts : Layouts) → AreReady p.types layouts → (t : Test) → IsAsking p f t st → HasTested p.types f st t
has_tested p f st layouts ready (NonZero r) at = tt
has_tested p f st layouts ready (NotNull l) at =
    either_testable p f st (NotNull l) at ready.narrow l (is_raw (type_in p.types f l)) refl
    (subst (λ (n : Node). is_well_formed_node p.types (length p.texts) p.functions f n ≡ true) at.is (formed p f st (NotNull l) at ready.narrow))
