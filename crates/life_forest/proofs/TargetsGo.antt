-- Behind a call its target is given the result: the frame goes on as the point says.
use Rattle.std.proofs.Common.{◌≡◌, inl, inr, ℕ, ◌+◌, Bool, true, false, ◌&&◌, ◌||◌, not, if◌then◌else◌, List, [], ◌∷◌, ◌++◌, Option, Some, None, refl, sym, ap, subst, ◌∙◌, arith}
use Rattle.std.proofs.lemmas.Bool.{and_parts, false≢true}
use Rattle.std.specs.Prelude.{ℤ, cond, slice_get, slice_set}
use Rattle.life_types.specs.Pointees.{or_void, ty_of}
use Rattle.life_types.specs.Trees.{IsOrdered}
use Rattle.life_types.specs.TypeTests.{is_constant, is_pointer, is_value, is_void}
use Rattle.life_types.specs.Types.{HasEachOnce, Types, class, class_at, is_slot_at, is_slot_target, is_slot_type}
use Rattle.life_types.specs.declared.ty.Class.{Class}
use Rattle.life_types.specs.declared.ty.Class.TheVariants as class_of
use Rattle.life_types.specs.declared.ty.Ty.{Ty}
use Rattle.life_types.specs.declared.ty.Ty.TheVariants as ty
use Rattle.life_types.specs.declared.ty.TyId.{TyId}
use Rattle.life_core.specs.declared.program.Local.{Local}
use Rattle.life_core.specs.declared.program.LocalKind.{LocalKind}
use Rattle.life_core.specs.declared.program.LocalKind.TheVariants as kind
use Rattle.life_core.specs.Function.{Function}
use Rattle.life_core.specs.Holdings.{ANumber, Holding, held_by, held_if, sort_of}
use Rattle.life_core.specs.Kinds.{has_kind, is_object, is_register}
use Rattle.life_core.specs.Operands.{Location}
use Rattle.life_core.specs.Ready.{AreBits, IsThere, Ready, set_bits}
use Rattle.life_core.specs.Touched.{by_members, if_object, target_births, target_writes, unless_object, written}
use Rattle.life_pset.specs.Shapes.{members_type, ty_if}
use Rattle.life_pset.specs.Shapes as shapes
use Rattle.life_proper.specs.OperandTypes.{are_alike, is_composed, keeps_const, same, takes}
use Rattle.life_proper.specs.Placed.{is_number, is_slot_local, object_at, register_at, slot_at, type_at, type_in}
use Rattle.life_proper.specs.WellFormed.{goes_to, is_whole}
use Rattle.life_proper.proofs.HeldSorts.{same_is}
use Rattle.life_store.specs.Calls.{given, given_if, given_to, number_given, result_given, target_given}
use Rattle.life_store.specs.Effects.{Setting, Effect, Next, Traps, Faults, Strays, cell, put_cell}
use Rattle.life_store.specs.Parts.{held_type_if, local_type, variable_type}
use Rattle.life_store.specs.Places.{member_pointed, pointed}
use Rattle.life_store.specs.declared.run.FaultKind.{FaultKind}
use Rattle.life_store.specs.State.{Pointer, Cell, Empty, Named, Number, Points, State, ready_of}
use Rattle.life_store.proofs.CellLemmas.{empty_cell_is, some_same}
use Rattle.life_forest.specs.FrameTypes.{PointsWell, Stands, seen_in, seen_type}
use Rattle.life_forest.specs.Frames.{OnNext, named_in}
use Rattle.life_forest.specs.Owned.{times}
use Rattle.life_forest.specs.Settled.{KindsFit, PointersFit, Settles}
use Rattle.life_forest.specs.Sorted.{PointerFits}
use Rattle.life_forest.proofs.EnteredFrames.{GivesOn, composed_points, less_sound, local_gives, value_class}
use Rattle.life_forest.proofs.GivenResults.{IsResult}
use Rattle.life_forest.proofs.HandedOver.{IsHandedTo}
use Rattle.life_forest.proofs.HeldPoints.{IsSound}
use Rattle.life_forest.proofs.HeldPointers.{pointers_aim}
use Rattle.life_forest.proofs.Holding.{Holds, held_cell, held_holds, held_self}
use Rattle.life_forest.proofs.HoldingWrites.{pointed_holds}
use Rattle.life_forest.proofs.Keeping.{keeps_self}
use Rattle.life_forest.proofs.OneNumber.{also_solid, number_of_type, type_there}
use Rattle.life_forest.proofs.ReadyCells.{member_is_object, object_cell, pointer_no_object, value_points}
use Rattle.life_forest.proofs.SeenTypes.{alike_seen, pointer_solid}
use Rattle.life_forest.proofs.Settling.{number_settles, pointed_settles}
use Rattle.life_forest.proofs.SettlingPointers.{alike_fits, alike_points}
use Rattle.life_forest.proofs.Shaped.{IsShaped, no_slot}
use Rattle.life_forest.proofs.SlotSorts.{taken_type}
use Rattle.life_forest.proofs.StandingPointers.{number_stands, pointed_stands}
use Rattle.life_forest.proofs.StandingSteps.{TakesPointer}
use Rattle.life_forest.proofs.TypedSteps.{local_of, pointer_of, value_solid}

-- a location without members is a whole local
whole_is : (l : Location) → is_whole l ≡ true → l.members ≡ []
whole_is l e = go l.members e
  where
    go : (ms : List ℕ) → is_whole (record { local = l.local; members = ms }) ≡ true → ms ≡ []
    go [] h = refl
    go (m ∷ ms) h = absurd (false≢true h)

-- what holds in the next state, joined
joined : (types : Types) (f : Function) (rest : ℕ → ℕ) (st : State) (bits : Ready) (e : Effect) → OnNext e (Stands types f rest) → OnNext e (Holds types f rest st) → Settles types f bits e → ((k : FaultKind) → e ≡ Faults k → ⊥) → GivesOn types f rest st.world.content bits e
joined types f rest st bits (Next st') stands holds settled none = record { sound = record { stands = stands; sorted = settled.1; held = holds.well }; bits = settled.0; waits = holds.waits }
joined types f rest st bits (Traps kind) stands holds settled none = tt
joined types f rest st bits (Faults kind) stands holds settled none = absurd (none kind refl)
joined types f rest st bits Strays stands holds settled none = settled

-- a given pointer isn't a fault
pointed_faults : (types : Types) (f : Function) (x : ℕ) (ms : List ℕ) (o : Option Cell) (p : Pointer) (st : State) (k : FaultKind) → member_pointed types f x ms o p st ≡ Faults k → ⊥
pointed_faults types f x [] o p st k e = cc
pointed_faults types f x (m ∷ ms) (Some (Named n)) p st k e = cc
pointed_faults types f x (m ∷ ms) None p st k e = cc
pointed_faults types f x (m ∷ ms) (Some Empty) p st k e = cc
pointed_faults types f x (m ∷ ms) (Some (Number z)) p st k e = cc
pointed_faults types f x (m ∷ ms) (Some (Points q)) p st k e = cc

-- what a slot refers to is no value
slot_no_value : (types : Types) (id : TyId) (o : Option Ty) → is_slot_type types o ≡ true → is_value (ty_of types (variable_type types id o)) ≡ true → ⊥
slot_no_value types id None e h = false≢true e
slot_no_value types id (Some (ty.Reference target false)) e h = no_target (slice_get types.types target.0) e (subst (λ (b : Bool). is_value (ty_of types (cond b target id)) ≡ true) e h)
  where
    no_target : (o : Option Ty) → is_slot_target o ≡ true → is_value (or_void o) ≡ true → ⊥
    no_target None k value = false≢true k
    no_target (Some (ty.Iterator item constant)) k value = false≢true value
    no_target (Some (ty.Span item constant)) k value = false≢true value
    no_target (Some ty.View) k value = false≢true value
    no_target (Some (ty.Unique item)) k value = false≢true value
    no_target (Some _) k value = false≢true k
slot_no_value types id (Some _) e h = false≢true e

composed_value : (t : Ty) → is_composed t ≡ true → is_value t ≡ true → ⊥
composed_value t c v = go (is_void t) (is_value t) (is_pointer t) c v
  where
    go : (a b d : Bool) → not (a || (b || d)) ≡ true → b ≡ true → ⊥
    go true b d e h = false≢true e
    go false true d e h = false≢true e
    go false false d e h = false≢true h

module _ (types : Types) (ordered : IsOrdered types) (once : HasEachOnce types) (texts : ℕ) (fs : List Function) (f : Function) (shaped : IsShaped types f) (kinds : KindsFit types f) (rest : ℕ → ℕ) (s : Setting) (st : State) where
  -- ---- a pointer goes to a pointer

  pub pointer_into : IsSound types f rest st → (l : Location) (p : Pointer) → ((m : ℕ) (ms : List ℕ) → l.members ≡ m ∷ ms → (n : ℕ) × (cell st l.local ≡ Some (Named n))) → is_pointer (type_in types f l) ≡ true → (part : TyId) → slice_get types.types part.0 ≡ Some (type_in types f l) → TakesPointer types f st l part
      → PointsWell types st.world.content (seen_type types (Some part)) p → PointerFits (type_in types f l) p → GivesOn types f rest st.world.content (set_bits true (written l) (ready_of st)) (pointed types f l p st)
  pointer_into sound l p object points part there into well fits =
      joined types f rest st (set_bits true (written l) (ready_of st)) (pointed types f l p st) (pointed_stands types ordered f rest st sound.stands l part p into.0 into.1 well)
      (pointed_holds types ordered f rest st sound.stands sound.held l part p into.0 into.1 well (λ t h. subst (λ (u : Ty). PointerFits u p) (some_same (sym there ∙ h)) fits))
      (pointed_settles types f kinds st l p sound.sorted points fits object)
      (λ k is. pointed_faults types f l.local l.members (cell st l.local) p st k is)

  module _ (sound : IsSound types f rest st) (fit : PointersFit types f st) (l : Location) (id : TyId) (e : takes types (type_in types f l) (ty_of types id) ≡ true) (p : Pointer) (suits : IsHandedTo types st.world.content id (Points p))
      (object : (m : ℕ) (ms : List ℕ) → l.members ≡ m ∷ ms → (n : ℕ) × (cell st l.local ≡ Some (Named n))) where
    pointer_gives : GivesOn types f rest st.world.content (set_bits true (written l) (ready_of st)) (pointed types f l p st)
    pointer_gives =
        let both = and_parts (are_alike types (type_in types f l) (ty_of types id)) (keeps_const (is_constant (type_in types f l)) (is_constant (ty_of types id))) e in
        let points = alike_points types (type_in types f l) (ty_of types id) both.0 in
        let seen = alike_seen types ordered once (type_in types f l) (ty_of types id) both.0 in
        let into = pointer_of types ordered once texts fs f shaped st (pointers_aim types ordered f st sound.held sound.stands.frame) sound.sorted l (type_in types f l) refl points.0 in
        let there = type_there types id (ty_of types id) refl (pointer_solid (ty_of types id) points.1) in
        pointer_into sound l p object points.0 into.part into.there into.takes
        (subst (λ (seen : Option TyId). PointsWell types st.world.content seen p) (ap (seen_in types) there ∙ seen.seen ∙ sym (ap (seen_in types) into.there)) suits.1)
        (alike_fits types (type_in types f l) (ty_of types id) p both.0 both.1 suits.2)

    -- .. as the result of a call
    member_points : (m : ℕ) (ms : List ℕ) → l.members ≡ m ∷ ms → GivesOn types f rest st.world.content (set_bits true (written l) (ready_of st)) (result_given s types f l l.members (Points p) st)
    member_points m ms k = subst (GivesOn types f rest st.world.content (set_bits true (written l) (ready_of st))) (sym (is l.members k)) pointer_gives
      where
        is : (ns : List ℕ) → ns ≡ m ∷ ms → result_given s types f l ns (Points p) st ≡ pointed types f l p st
        is [] j = absurd (unlike j)
          where
            unlike : [] ≡ m ∷ ms → ⊥
            unlike j = cc
        is (n ∷ ns) j = refl

    result_points : (lo : Local) → slice_get f.locals l.local ≡ Some lo → GivesOn types f rest st.world.content (set_bits true (written l) (ready_of st)) (result_given s types f l l.members (Points p) st)
    result_points lo there = subst (GivesOn types f rest st.world.content (set_bits true (written l) (ready_of st))) (sym (is l.members)) pointer_gives
      where
        is : (ms : List ℕ) → result_given s types f (record { local = l.local; members = ms }) ms (Points p) st ≡ member_pointed types f l.local ms (cell st l.local) p st
        is [] = ap (λ (o : Option Local). given_if s types f o (Points p) l.local st) there
        is (m ∷ ms) = refl

  -- ---- a value, an owner or a struct goes to a whole local

  object_kind : (k : LocalKind) → is_object k ≡ true → k ≡ kind.Object
  object_kind kind.Object h = refl
  object_kind kind.Register h = absurd (false≢true h)
  object_kind kind.Range h = absurd (false≢true h)

  register_kind : (k : LocalKind) → is_register k ≡ true → k ≡ kind.Register
  register_kind kind.Register h = refl
  register_kind kind.Object h = absurd (false≢true h)
  register_kind kind.Range h = absurd (false≢true h)

  module _ (x : ℕ) (id : TyId) (alike : same (ty_of types id) (type_at types f x) ≡ true) (lo : Local) (there : slice_get f.locals x ≡ Some lo) (v : Cell) (sound : IsSound types f (λ k. times (named_in (v ∷ [])) k + rest k) st) (suits : IsHandedTo types st.world.content id v) where
    -- an object that isn't there
    object_gives : object_at types f x ≡ true → slot_at types f x ≡ false → cell st x ≡ Some Empty → GivesOn types f rest st.world.content (slice_set (ready_of st) x true) (given s types f v x st)
    object_gives object slot empty =
        let of = local_of types ordered once texts fs f shaped x (type_at types f x) refl (also_solid (ty_of types id) (type_at types f x) alike) in
        let local : local_type types f x ≡ Some (taken_type types lo.ty) = ap (held_type_if types) there in
        local_gives types ordered f shaped kinds rest s x lo id
        (record {
          there = there;
          type = some_same (sym local ∙ of.is) ∙ sym (number_of_type types once id of.number (type_at types f x) alike of.there);
          free = λ other. ap (is_slot_local types f) (sym there) ∙ slot;
          value = λ value. object_kind lo.kind (ap (has_kind is_object) (sym there) ∙ object);
        })
        st empty v sound suits

    -- a register with a value
    number_into : is_number types f x ≡ true → GivesOn types f rest st.world.content (slice_set (ready_of st) x true) (given s types f v x st)
    number_into number =
        let both = and_parts (register_at types f x) (is_value (type_at types f x)) number in
        let t : ty_of types id ≡ type_at types f x = same_is (ty_of types id) (type_at types f x) alike in
        let value : is_value (ty_of types id) ≡ true = ap is_value t ∙ both.1 in
        subst (λ (o : Option Local). GivesOn types f rest st.world.content (slice_set (ready_of st) x true) (given_if s types f o v x st)) (sym there) (by_cell v value sound suits)
      where
        unlike : (z : ℤ) (n : ℕ) → Number z ≡ Named n → ⊥
        unlike z n k = cc

        sort : sort_of types f x ≡ ANumber
        sort =
            let both = and_parts (register_at types f x) (is_value (type_at types f x)) number in
            let kept : lo.kind ≡ kind.Register = register_kind lo.kind (ap (has_kind is_register) (sym there) ∙ both.0) in
            ap (held_by types) there
            ∙ ap (λ (k : LocalKind). held_if (class_at types lo.ty) k (slice_get types.types lo.ty.0)) kept
            ∙ ap (λ (c : Class). held_if c kind.Register (slice_get types.types lo.ty.0)) (class_is both.1)
          where
            class_is : is_value (type_at types f x) ≡ true → class_at types lo.ty ≡ class_of.Value
            class_is value = go (is_slot_at types lo.ty) refl
              where
                held : is_value (ty_of types (variable_type types lo.ty (slice_get types.types lo.ty.0))) ≡ true
                held = ap is_value (sym (ap (ty_if types) (shaped x ∙ ap (held_type_if types) there))) ∙ value

                go : (b : Bool) → is_slot_at types lo.ty ≡ b → class_at types lo.ty ≡ class_of.Value
                go true e = absurd (slot_no_value types lo.ty (slice_get types.types lo.ty.0) e held)
                go false e =
                    let own : is_value (ty_of types lo.ty) ≡ true = sym (ap (λ (i : TyId). is_value (ty_of types i)) (no_slot types lo.ty (slice_get types.types lo.ty.0) e)) ∙ held in
                    ap class (type_there types lo.ty (ty_of types lo.ty) refl (value_solid (ty_of types lo.ty) own)) ∙ value_class (ty_of types lo.ty) own

        by_cell : (v : Cell) → is_value (ty_of types id) ≡ true → IsSound types f (λ k. times (named_in (v ∷ [])) k + rest k) st → IsHandedTo types st.world.content id v → GivesOn types f rest st.world.content (slice_set (ready_of st) x true) (given_to s types (sort_of types f x) lo.ty v x st)
        by_cell Empty value sound suits = absurd suits
        by_cell (Named n) value sound suits = absurd (composed_value (ty_of types id) suits.2 value)
        by_cell (Points p) value sound suits = absurd (false≢true (sym (value_points (ty_of types id) value) ∙ suits.0))
        by_cell (Number z) value sound suits =
            let less = less_sound types f (λ k. 0 + rest k) rest st (λ k. omega arith) sound in
            subst (λ (h : Holding). GivesOn types f rest st.world.content (slice_set (ready_of st) x true) (number_given s h lo.ty z x st)) (sym sort)
            (joined types f rest st (slice_set (ready_of st) x true) (Next (put_cell x (Number z) st)) (number_stands types ordered f rest st less.stands x z)
            (held_holds types f rest st less.stands (put_cell x (Number z) st) (held_cell types f st st x (Number z) (unlike z) (held_self types f st)) less.held)
            (number_settles types f st x z less.sorted number) (λ k e. no_fault k e))
          where
            no_fault : (k : FaultKind) → Next (put_cell x (Number z) st) ≡ Faults k → ⊥
            no_fault k e = cc

  -- ---- the target

  -- a target that is an object isn't there, and one of a member's pointer is
  pub record IsTargetReady (target : Option Location) : Type 0 where
    pub births : AreBits false (ready_of st) (target_births f target)
    pub object : (l : Location) → target ≡ Some l → (m : ℕ) (ms : List ℕ) → l.members ≡ m ∷ ms → IsThere (ready_of st) l.local
    pub slots : (l : Location) → target ≡ Some l → l.members ≡ [] → object_at types f l.local ≡ true → slot_at types f l.local ≡ false

  -- it has a local
  has_local : (x : ℕ) (t : Ty) → ty_if types (shapes.local_type types f x) ≡ t → is_void t ≡ false → (lo : Local) × (slice_get f.locals x ≡ Some lo)
  has_local x t e solid = go (slice_get f.locals x) refl e
    where
      go : (o : Option Local) → slice_get f.locals x ≡ o → ty_if types (shapes.shape_of types f.parameters x o) ≡ t → (lo : Local) × (slice_get f.locals x ≡ Some lo)
      go None there h = absurd (false≢true (sym solid ∙ ap is_void (sym h)))
      go (Some lo) there h = (lo, there)

  whole_gives : (l : Location) (id : TyId) (v : Cell) → l.members ≡ [] → same (ty_of types id) (type_in types f l) ≡ true → (object_at types f l.local || is_number types f l.local) ≡ true → IsSound types f (λ k. times (named_in (v ∷ [])) k + rest k) st → IsHandedTo types st.world.content id v
      → IsTargetReady (Some l) → GivesOn types f rest st.world.content (set_bits true (target_births f (Some l) ++ target_writes f (Some l)) (ready_of st)) (result_given s types f l l.members v st)
  whole_gives l id v whole alike kept sound suits ready =
      by_object (object_at types f l.local) refl
    where
      alike_at : same (ty_of types id) (type_at types f l.local) ≡ true
      alike_at = subst (λ (ms : List ℕ). same (ty_of types id) (ty_if types (members_type types (shapes.local_type types f l.local) ms)) ≡ true) whole alike

      lo : (lo : Local) × (slice_get f.locals l.local ≡ Some lo)
      lo = has_local l.local (type_at types f l.local) refl (also_solid (ty_of types id) (type_at types f l.local) alike_at)

      -- by what it is, where its members are none
      as_whole : (bits : Ready) → set_bits true (by_members [] (if_object f l.local) [] ++ by_members [] (unless_object f l.local) []) (ready_of st) ≡ bits → GivesOn types f rest st.world.content bits (given s types f v l.local st)
          → GivesOn types f rest st.world.content (set_bits true (target_births f (Some l) ++ target_writes f (Some l)) (ready_of st)) (result_given s types f l l.members v st)
      as_whole bits is g =
          subst (λ (ms : List ℕ). GivesOn types f rest st.world.content (set_bits true (by_members ms (if_object f l.local) [] ++ by_members ms (unless_object f l.local) []) (ready_of st)) (result_given s types f l ms v st)) (sym whole)
          (subst (λ (b : Ready). GivesOn types f rest st.world.content b (given s types f v l.local st)) (sym is) g)

      by_object : (b : Bool) → object_at types f l.local ≡ b → GivesOn types f rest st.world.content (set_bits true (target_births f (Some l) ++ target_writes f (Some l)) (ready_of st)) (result_given s types f l l.members v st)
      by_object true e =
          let births : AreBits false (ready_of st) (if true then l.local ∷ [] else []) = subst (λ (b : Bool). AreBits false (ready_of st) (if b then l.local ∷ [] else [])) e (subst (λ (ms : List ℕ). AreBits false (ready_of st) (by_members ms (if_object f l.local) [])) whole ready.births) in
          as_whole (slice_set (ready_of st) l.local true) (ap (λ (b : Bool). set_bits true ((if b then l.local ∷ [] else []) ++ (if b then [] else l.local ∷ [])) (ready_of st)) e)
          (object_gives l.local id alike_at lo.0 lo.1 v sound suits e (ready.slots l refl whole e) (empty_cell_is st.cells l.local births.0))
      by_object false e =
          as_whole (slice_set (ready_of st) l.local true) (ap (λ (b : Bool). set_bits true ((if b then l.local ∷ [] else []) ++ (if b then [] else l.local ∷ [])) (ready_of st)) e)
          (number_into l.local id alike_at lo.0 lo.1 v sound suits (subst (λ (b : Bool). (b || is_number types f l.local) ≡ true) e kept))

  pub points_only : (id : TyId) (v : Cell) → is_pointer (ty_of types id) ≡ true → IsHandedTo types st.world.content id v → (p : Pointer) × (v ≡ Points p)
  points_only id Empty pointer suits = absurd suits
  points_only id (Points p) pointer suits = (p, refl)
  points_only id (Number z) pointer suits = absurd (false≢true (sym (value_points (ty_of types id) suits) ∙ pointer))
  points_only id (Named n) pointer suits = absurd (false≢true (sym (composed_points (ty_of types id) suits.2) ∙ pointer))

  some_gives : (l : Location) (id : TyId) (v : Cell) → PointersFit types f st → (b : Bool) → is_pointer (ty_of types id) ≡ b → (if b then takes types (type_in types f l) (ty_of types id) else (is_whole l && (same (ty_of types id) (type_in types f l) && (object_at types f l.local || is_number types f l.local)))) ≡ true
      → IsSound types f (λ k. times (named_in (v ∷ [])) k + rest k) st → IsHandedTo types st.world.content id v → IsTargetReady (Some l)
      → GivesOn types f rest st.world.content (set_bits true (target_births f (Some l) ++ target_writes f (Some l)) (ready_of st)) (result_given s types f l l.members v st)
  some_gives l id v fit false is e sound suits ready =
      let outer = and_parts (is_whole l) _ e in
      let inner = and_parts (same (ty_of types id) (type_in types f l)) _ outer.1 in
      whole_gives l id v (whole_is l outer.0) inner.0 inner.1 sound suits ready
  some_gives l id v fit true is e sound suits ready =
      let p = points_only id v is suits in
      let less = less_sound types f (λ k. times (named_in (v ∷ [])) k + rest k) rest st (λ k. omega arith) sound in
      subst (λ (u : Cell). GivesOn types f rest st.world.content (set_bits true (target_births f (Some l) ++ target_writes f (Some l)) (ready_of st)) (result_given s types f l l.members u st)) (sym p.1)
      (subst (λ (b : Ready). GivesOn types f rest st.world.content b (result_given s types f l l.members (Points p.0) st)) (written_is l.members refl)
      (by_members_of l.members refl less p.0 (subst (IsHandedTo types st.world.content id) p.1 suits)))
    where
      points : is_pointer (type_in types f l) ≡ true
      points = (alike_points types (type_in types f l) (ty_of types id) (and_parts (are_alike types (type_in types f l) (ty_of types id)) (keeps_const (is_constant (type_in types f l)) (is_constant (ty_of types id))) e).0).0

      written_is : (ms : List ℕ) → l.members ≡ ms → set_bits true (by_members ms (l.local ∷ []) []) (ready_of st) ≡ set_bits true (by_members ms (if_object f l.local) [] ++ by_members ms (unless_object f l.local) []) (ready_of st)
      written_is (m ∷ ms) k = refl
      written_is [] k =
          sym (ap (λ (b : Bool). set_bits true ((if b then l.local ∷ [] else []) ++ (if b then [] else l.local ∷ [])) (ready_of st))
          (pointer_no_object types f kinds l.local (subst (λ (ms : List ℕ). is_pointer (ty_if types (members_type types (shapes.local_type types f l.local) ms)) ≡ true) k points)))

      named : IsSound types f rest st → (m : ℕ) (ms : List ℕ) → l.members ≡ m ∷ ms → (n : ℕ) × (cell st l.local ≡ Some (Named n))
      named sound' m ms j =
          object_cell types f st (record { kinds = kinds; frame = sound'.stands.frame; sorted = sound'.sorted; pointers = fit }) l.local
          (member_is_object types f kinds l.local m ms (pointer_solid (ty_if types (members_type types (shapes.local_type types f l.local) (m ∷ ms))) (subst (λ (ns : List ℕ). is_pointer (ty_if types (members_type types (shapes.local_type types f l.local) ns)) ≡ true) j points)))
          (ready.object l refl m ms j)

      by_members_of : (ms : List ℕ) → l.members ≡ ms → IsSound types f rest st → (p : Pointer) → IsHandedTo types st.world.content id (Points p) → GivesOn types f rest st.world.content (set_bits true (by_members l.members (l.local ∷ []) []) (ready_of st)) (result_given s types f l l.members (Points p) st)
      by_members_of [] k sound' p suits' =
          let lo = has_local l.local (type_at types f l.local) refl (pointer_solid (type_at types f l.local) (subst (λ (ms : List ℕ). is_pointer (ty_if types (members_type types (shapes.local_type types f l.local) ms)) ≡ true) k points)) in
          result_points sound' fit l id e p suits' (λ m ms j. named sound' m ms j) lo.0 lo.1
      by_members_of (m ∷ ms) k sound' p suits' = member_points sound' fit l id e p suits' (λ n ns j. named sound' n ns j) m ms k

  -- ---- what comes of the values that are given back

  pub target_gives : (target : Option Location) (id : TyId) (vs more : List Cell) → PointersFit types f st → goes_to types texts fs f (ty_of types id) target ≡ true → IsSound types f (λ k. times (named_in vs) k + rest k) st → IsResult types st.world.content id vs → IsTargetReady target
      → GivesOn types f rest st.world.content (set_bits true (target_births f target ++ target_writes f target) (ready_of st)) (target_given s types f target (vs ++ more) st)
  target_gives None id vs more fit e sound result ready = record { sound = less_sound types f (λ k. times (named_in vs) k + rest k) rest st (λ k. omega arith) sound; bits = refl; waits = keeps_self types (λ k. rest k ≡ 0) st.world.content }
  target_gives (Some l) id vs more fit e sound (inl none) ready = absurd (no_void (ty_of types id) none.0 e)
    where
      no_void : (t : Ty) → is_void t ≡ true → goes_to types texts fs f t (Some l) ≡ true → ⊥
      no_void ty.Void v h = false≢true (and_parts false (object_at types f l.local || is_number types f l.local) (and_parts (is_whole l) _ h).1).0
      no_void _ v h = false≢true v
  target_gives (Some l) id vs more fit e sound (inr r) ready =
      subst (λ (ws : List Cell). GivesOn types f rest st.world.content (set_bits true (target_births f (Some l) ++ target_writes f (Some l)) (ready_of st)) (target_given s types f (Some l) (ws ++ more) st)) (sym r.1)
      (some_gives l id r.0 fit (is_pointer (ty_of types id)) refl e (subst (λ (ws : List Cell). IsSound types f (λ k. times (named_in ws) k + rest k) st) r.1 sound) r.2 ready)
