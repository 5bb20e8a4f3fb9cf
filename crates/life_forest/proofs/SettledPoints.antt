-- At each point of a proper function that is reached, whatever kinds its instructions have: an instruction doesn't stray, and a frame stands behind it
-- with the locals that readiness says, each of its sort.
use Rattle.std.proofs.Common.{◌≡◌, ℕ, true, not, List, Option, Some, None, refl, sym, ap, subst}
use Rattle.std.proofs.lemmas.Bool.{and_parts}
use Rattle.std.specs.Prelude.{slice_get}
use Rattle.life_types.specs.Pointees.{ty_of}
use Rattle.life_types.specs.Trees.{IsOrdered, tree_at}
use Rattle.life_types.specs.TypeTests.{is_void}
use Rattle.life_types.specs.Types.{HasEachOnce, Types}
use Rattle.life_types.specs.declared.ty.Ty.{Ty}
use Rattle.life_core.specs.declared.program.Local.{Local}
use Rattle.life_core.specs.Function.{Function}
use Rattle.life_core.specs.Linked.{Linked, code_of, numbered}
use Rattle.life_core.specs.Proper.{HasReadyWays, IsNodeReady, Reaches, bits_past}
use Rattle.life_core.specs.Ready.{Ready}
use Rattle.life_core.specs.Step.{Step}
use Rattle.life_core.specs.Tree.{Node, Action}
use Rattle.life_pset.specs.Shapes.{shape, shape_of, tree_if, ty_if}
use Rattle.life_proper.specs.WellFormed.{is_well_formed_node}
use Rattle.life_proper.specs.WellFormedPrograms.{fits_kind, is_well_formed_function, is_well_formed_local, may_stand}
use Rattle.life_proper.proofs.SortedNodes.{formed_parts}
use Rattle.life_store.specs.Doing.{does}
use Rattle.life_store.specs.Effects.{Setting, Effect, Next, Traps, Faults, Strays}
use Rattle.life_store.specs.State.{State, ready_of}
use Rattle.life_forest.specs.FrameTypes.{Stands}
use Rattle.life_forest.specs.Frames.{OnNext}
use Rattle.life_forest.specs.Settled.{KindsFit, PointersFit, Settles}
use Rattle.life_forest.specs.Sorted.{AreSorted}
use Rattle.life_forest.proofs.CopiedTypes.{LocalsStand}
use Rattle.life_forest.proofs.SettledSteps.{IsOneFrame, step_settles}
use Rattle.life_forest.proofs.SettlingLives.{HaveMembers}
use Rattle.life_forest.proofs.Shaped.{local_formed, locals_shaped}
use Rattle.life_forest.proofs.Slots.{ArePointsFormed}
use Rattle.life_forest.proofs.StandingSteps.{step_stands}
use Rattle.life_forest.proofs.TypedPoints.{slot_free, typed_point}
use Rattle.life_forest.proofs.TypedSteps.{PointersAim}

-- a frame stands in the next state, with these locals
abbrev pub Goes : Types → Function → (ℕ → ℕ) → Ready → Effect → Type 0
Goes types f rest bits (Next st) = Stands types f rest st × (ready_of st ≡ bits) × AreSorted types f st.cells
Goes types f rest bits (Traps kind) = Unit {0}
Goes types f rest bits (Faults kind) = Unit {0}
Goes types f rest bits Strays = ⊥

both_go : (types : Types) (f : Function) (rest : ℕ → ℕ) (bits : Ready) (e : Effect) → OnNext e (Stands types f rest) → Settles types f bits e → Goes types f rest bits e
both_go types f rest bits (Next st) stands settled = (stands, settled.0, settled.1)
both_go types f rest bits (Traps kind) stands settled = tt
both_go types f rest bits (Faults kind) stands settled = tt
both_go types f rest bits Strays stands settled = settled

module _ (types : Types) (ordered : IsOrdered types) (once : HasEachOnce types) (some : HaveMembers types) (names texts : ℕ) (fs : List Function) (f : Function) (formed : is_well_formed_function types names texts fs f ≡ true) (points : ArePointsFormed types texts fs f)
    (ready : HasReadyWays types f) where
  -- ---- locals

  pub formed_at : (x : ℕ) (l : Local) → slice_get f.locals x ≡ Some l → is_well_formed_local types names f.parameters x l ≡ true
  formed_at x l there = local_formed types ordered names f.parameters f.locals x l (formed_parts types names texts fs f formed).locals there

  pub kinds_fit : KindsFit types f
  kinds_fit x l there =
      let a = and_parts (not (is_void (ty_of types l.ty))) _ (formed_at x l there) in
      let b = and_parts (may_stand (tree_at types (shape types f.parameters x l))) _ a.1 in
      let k = (and_parts (fits_kind l.kind (ty_of types (shape types f.parameters x l))) _ b.1).0 in
      subst (λ (t : Ty). fits_kind l.kind t ≡ true) (sym (ap (λ (o : Option Local). ty_if types (shape_of types f.parameters x o)) there)) k

  pub locals_stand : LocalsStand types ordered f
  locals_stand x = go (slice_get f.locals x) refl
    where
      go : (o : Option Local) → slice_get f.locals x ≡ o → may_stand (tree_if types (shape_of types f.parameters x o)) ≡ true
      go None there = refl
      go (Some l) there =
          let a = and_parts (not (is_void (ty_of types l.ty))) _ (formed_at x l there) in
          (and_parts (may_stand (tree_at types (shape types f.parameters x l))) _ a.1).0

  -- ---- points

  pub point_goes : (rest : ℕ → ℕ) (s : Setting) (p : ℕ) (st : State) (l : Linked) (i : Step) → Reaches types f p (ready_of st) → numbered (code_of f) p ≡ Some l → l.spot.node ≡ Action i → IsOneFrame i → Stands types f rest st → AreSorted types f st.cells
      → PointersAim types f st → PointersFit types f st → Goes types f rest (bits_past types f (Action i) (ready_of st)) (does s types f i st)
  point_goes rest s p st l i way here is one stands sorted aims fits =
      let are = subst (IsNodeReady types f (ready_of st)) is (ready.ready p (ready_of st) l way here) in
      both_go types f rest (bits_past types f (Action i) (ready_of st)) (does s types f i st)
      (step_stands types ordered f rest s st stands i (typed_point types ordered once names texts fs f formed points ready p st l i way here is aims sorted))
      (step_settles types ordered once some texts fs f (locals_shaped types ordered names f (formed_parts types names texts fs f formed).locals) locals_stand rest s st stands
      (record { kinds = kinds_fit; frame = stands.frame; sorted = sorted; pointers = fits }) aims i one (subst (λ (n : Node). is_well_formed_node types texts fs f n ≡ true) is (points p l here))
      (slot_free types ordered once names texts fs f formed points ready p (ready_of st) way i are) are)
