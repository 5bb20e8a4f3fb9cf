-- At a point where the frames are sound, what an instruction changes is an owner, and what it takes for that is there.
use Rattle.std.proofs.Common.{◌≡◌, ⊎_elim, true, length, refl, sym, subst, arith}
use Rattle.std.proofs.lemmas.Bool.{and_parts, false≢true}
use Rattle.std.specs.Prelude.{not}
use Rattle.life_types.specs.TypeTests.{is_pointer, is_view}
use Rattle.life_types.specs.Types.{Types}
use Rattle.life_types.specs.declared.ty.Ty.{Ty}
use Rattle.life_types.specs.declared.ty.Ty.TheVariants as ty
use Rattle.life_types.specs.declared.ty.TyId.{TyId}
use Rattle.life_core.specs.Function.{Function, Program}
use Rattle.life_core.specs.Operands.{Characters, Location, Operand}
use Rattle.life_core.specs.Operands as given
use Rattle.life_core.specs.Step.{Change, PushBack, PopBack, Clear, Reserve, Erase, Set, Append, Changes, Make}
use Rattle.life_core.specs.declared.instr.Made.{Made}
use Rattle.life_proper.specs.OperandTypes.{walks}
use Rattle.life_proper.specs.Placed.{is_const_place, type_in, type_of}
use Rattle.life_proper.specs.WellFormed.{are_characters, is_change_of}
use Rattle.life_store.specs.Parts.{parts_at}
use Rattle.life_store.specs.State.{State}
use Rattle.life_forest.proofs.StandingSteps.{IsTypedChange}
use Rattle.life_cells.specs.Typed.{HoldsOwner, IsOwnerPlace, SeesCharacters}
use Rattle.life_changes.specs.Ready.{AreGiven, HasLocations}
use Rattle.life_interp.specs.Layouts.{AreReady}
use Rattle.life_interp.specs.Sound.{IsAt}
use Rattle.life_interp.specs.declared.layouts.Layouts.{Layouts}
use Rattle.life_interp.proofs.HeldPlaces.{owner_held, owner_placed, IsOwning}
use Rattle.life_interp.proofs.SoundPlaces.{aims, at_point, formed_at, hand, held_pointer, shaped, typed}
use Rattle.life_interp.proofs.ViewPlaces.{views_see}

-- ---- by types

-- a string and a vector own by their first word
container_owns : (types : Types) (f : Function) (st : State) (part : TyId) (change : Change) → IsTypedChange types f st part change → IsOwning (parts_at types part)
container_owns types f st part change typed =
    ⊎_elim (λ t. subst IsOwning (sym t.1) (record { wide = omega arith; owner = refl })) (λ t. subst IsOwning (sym t.1) (record { wide = omega arith; owner = refl })) typed

-- what walks over elements is a pointer
walks_points : (types : Types) (t u : Ty) → walks types t u ≡ true → is_pointer t ≡ true
walks_points types (ty.Iterator target constant) u e = refl
walks_points types _ u e = absurd (false≢true e)

-- what is tested is a view
view_is : (t : Ty) → is_view t ≡ true → t ≡ ty.View
view_is ty.View e = refl
view_is _ e = absurd (false≢true e)

view_points : (t : Ty) → is_view t ≡ true → is_pointer t ≡ true
view_points ty.View e = refl
view_points _ e = absurd (false≢true e)

-- ---- at each instruction

module _ (p : Program) (f : Function) (st : State) (layouts : Layouts) (ready : AreReady p.types layouts) where
  -- a unique_ptr is made to own something
  pub made_held : (u : Location) (how : Made) → IsAt p f (Make u how) st → HoldsOwner p.types f u st
  made_held u how at =
      let t = typed p f st (Make u how) at ready.narrow in
      owner_held p.types at.sound.proper.well_formed.table ready.narrow f (hand p f st (Make u how) at ready.narrow) st at.sound.sound.stands.store at.sound.sound.stands.frame u t.0 t.2
      (subst IsOwning (sym t.3) (record { wide = omega arith; owner = refl }))

  -- a vector or a string is changed
  module _ (o : Operand) (change : Change) (at : IsAt p f (Changes o change) st) where
    pub changed_placed : IsOwnerPlace p.types f o st
    changed_placed =
        let t = typed p f st (Changes o change) at ready.narrow in
        owner_placed p.types at.sound.proper.well_formed.table ready.narrow f (hand p f st (Changes o change) at ready.narrow) st at.sound.sound.stands.store at.sound.sound.stands.frame o t.0 t.1.0 t.1.1 (container_owns p.types f st t.0 change t.2)

    see : (l : Location) → type_in p.types f l ≡ ty.View → SeesCharacters p.types f l st
    see = views_see p.types at.sound.proper.well_formed.table at.sound.proper.well_formed.once (length p.texts) p.functions f (shaped p f st (Changes o change) at ready.narrow) st (aims p f st (Changes o change) at ready.narrow) at.sound.sound.sorted (at_point p f st (Changes o change) at ready.narrow).pointers

    given_here : (c : Characters) → are_characters p.types (length p.texts) p.functions f c ≡ true → AreGiven p.types f c st
    given_here (given.View l) e = (held_pointer p f st (Changes o change) at ready.narrow l (view_points (type_in p.types f l) e), see l (view_is (type_in p.types f l) e))
    given_here (given.Single r) e = tt

    located : (t : Ty) (c : Change) → is_change_of p.types (length p.texts) p.functions f t c ≡ true → HasLocations p.types f c st
    located t (PushBack x) e = tt
    located t PopBack e = tt
    located t Clear e = tt
    located t (Reserve r) e = tt
    located (ty.Vector element) (Erase from into) e =
        let both = and_parts (walks p.types (type_in p.types f from) _) (walks p.types (type_in p.types f into) _) e in
        (held_pointer p f st (Changes o change) at ready.narrow from (walks_points p.types (type_in p.types f from) _ both.0), held_pointer p f st (Changes o change) at ready.narrow into (walks_points p.types (type_in p.types f into) _ both.1))
    located _ (Erase from into) e = absurd (false≢true e)
    located ty.Text (Set c) e = given_here c e
    located _ (Set c) e = absurd (false≢true e)
    located ty.Text (Append c) e = given_here c e
    located _ (Append c) e = absurd (false≢true e)

    pub changed_locations : HasLocations p.types f change st
    changed_locations = located (type_of p.types f o) change (and_parts (is_change_of p.types (length p.texts) p.functions f (type_of p.types f o) change) (not (is_const_place p.types f o)) (formed_at p f st (Changes o change) at ready.narrow)).0
