-- At each point of a proper function that is reached with what is known of its frame: an instruction at which nothing
-- is wrong makes no fault and doesn't stray, and all of this is known behind it.
use Rattle.std.proofs.Common.{◌≡◌, ℕ, true, List, Some, subst, Option}
use Rattle.life_types.specs.Trees.{IsOrdered}
use Rattle.life_types.specs.Types.{HasEachOnce, Types}
use Rattle.life_types.specs.declared.place.Place.{Place}
use Rattle.life_core.specs.Function.{Function}
use Rattle.life_core.specs.Linked.{Linked, code_of, numbered}
use Rattle.life_core.specs.Proper.{HasReadyWays, IsNodeReady, Reaches, bits_past}
use Rattle.life_core.specs.Ready.{Ready}
use Rattle.life_core.specs.Step.{Advance, Aim, Call, Changes, Copy, Cursor, Cut, End, Eval, Live, Load, Make, Move, Ports, Repoint, Same, Save, Size, Step}
use Rattle.life_core.specs.Step as step
use Rattle.life_core.specs.Tree.{Node, Action}
use Rattle.life_pset.specs.Elements.{AreShort, elements_of}
use Rattle.life_pset.specs.declared.element.Fact.{Fact}
use Rattle.life_pset.specs.declared.element.Root.{Root}
use Rattle.life_contract.specs.Signatures.{Signature}
use Rattle.life_proper.specs.WellFormed.{is_well_formed_node}
use Rattle.life_proper.specs.WellFormedPrograms.{is_well_formed_function}
use Rattle.life_proper.proofs.SortedNodes.{formed_parts}
use Rattle.life_store.specs.Doing.{does}
use Rattle.life_store.specs.Effects.{Setting, Effect, Next, Traps, Faults, Strays}
use Rattle.life_store.specs.State.{State, ready_of}
use Rattle.life_forest.specs.Frames.{HasStore}
use Rattle.life_forest.proofs.HeldPointers.{pointers_aim}
use Rattle.life_forest.proofs.HeldPoints.{GoesOn, IsSound, held_goes, poised}
use Rattle.life_forest.proofs.SettledSteps.{IsOneFrame}
use Rattle.life_forest.proofs.SettlingLives.{HaveMembers}
use Rattle.life_forest.proofs.Shaped.{locals_shaped}
use Rattle.life_forest.proofs.Slots.{ArePointsFormed}
use Rattle.life_forest.proofs.SettledPoints.{locals_stand}
use Rattle.life_forest.proofs.TypedPoints.{slot_free}
use Rattle.life_forest.proofs.Holding.{KeepsWaiting}
use Rattle.life_cover.specs.Frames.{FrameCovered}
use Rattle.life_cover.specs.Inputs.{AreGiven, frame_foot}
use Rattle.life_cover.specs.Buffered.{AreBut}
use Rattle.life_cover.proofs.GivenOn.{given_behind}
use Rattle.life_cover.specs.Lacking.{MayLack}
use Rattle.life_cover.specs.Uniques.{UniquesTold}
use Rattle.life_cover.proofs.FrameSteps.{IsSpoken}
use Rattle.life_cover.proofs.Behind.{IsBehind, any_local, any_location}
use Rattle.life_cover.proofs.KnownFrames.{IsKnownFrame, IsRight}
use Rattle.life_cover.proofs.Pointers.{OnRight}
use Rattle.life_cover.proofs.WholeSteps.{step_right}
use Rattle.life_cover.specs.Regions.{Region}

-- there is no call among the instructions that are spoken of
pub one_frame : (types : Types) (f : Function) (i : Step) → IsSpoken types f i → IsOneFrame i
one_frame types f (Live x form) spoken = tt
one_frame types f (End xs) spoken = tt
one_frame types f (Eval r o) spoken = tt
one_frame types f (Load r o) spoken = tt
one_frame types f (Save o r) spoken = tt
one_frame types f (Copy to from) spoken = tt
one_frame types f (Move to y) spoken = tt
one_frame types f (Aim p sr) spoken = tt
one_frame types f (Repoint p q) spoken = tt
one_frame types f (step.Element p b w) spoken = tt
one_frame types f (Cursor p b end) spoken = tt
one_frame types f (Advance p q r way) spoken = tt
one_frame types f (Cut p q r count) spoken = tt
one_frame types f (Size r b) spoken = tt
one_frame types f (Same r a b equal) spoken = tt
one_frame types f (Changes o c) spoken = tt
one_frame types f (Make u m) spoken = tt
one_frame types f (Call target g xs) spoken = absurd spoken
one_frame types f (Ports p) spoken = tt

-- what holds of a frame at each point: it stands and holds well, the facts cover its pointers, and each vector and each string has its buffer
pub record IsSafe (types : Types) (f : Function) (rest : ℕ → ℕ) (inputs : Root → Option Region) (S : Fact → Type 0) (st : State) : Type 0 where
  pub sound : IsSound types f rest st
  pub given : AreGiven types f inputs (frame_foot types f inputs st.cells) st.world.content
  pub covered : FrameCovered types f inputs S st
  pub buffered : AreBut types (MayLack types f inputs S st) st.world.content
  pub told : UniquesTold types f S st

-- .. in the next state, with these locals; what the instruction touched lies beneath what the frame named, and what waits has its pointers
pub record IsSafeNext (types : Types) (f : Function) (rest : ℕ → ℕ) (inputs : Root → Option Region) (S : Fact → Type 0) (past : Ready) (before st : State) : Type 0 where
  pub safe : IsSafe types f rest inputs S st
  pub bits : ready_of st ≡ past
  pub behind : IsBehind types f inputs any_local any_local any_location before st
  pub waits : KeepsWaiting types rest before.world.content st.world.content

-- .. if there is one; there is neither a fault nor a stray step
abbrev pub GoesSafe : Types → Function → (ℕ → ℕ) → (Root → Option Region) → (Fact → Type 0) → Ready → State → Effect → Type 0
GoesSafe types f rest inputs S bits before (Next st) = IsSafeNext types f rest inputs S bits before st
GoesSafe types f rest inputs S bits before (Traps kind) = Unit {0}
GoesSafe types f rest inputs S bits before (Faults kind) = ⊥
GoesSafe types f rest inputs S bits before Strays = ⊥

pub goes_safe : (types : Types) (f : Function) (rest : ℕ → ℕ) (inputs : Root → Option Region) (S : Fact → Type 0) (before : State) (bits : Ready) → HasStore types rest before → AreGiven types f inputs (frame_foot types f inputs before.cells) before.world.content → (e : Effect) → GoesOn types f rest before.world.content bits e → OnRight e (λ st. FrameCovered types f inputs S st × (AreBut types (MayLack types f inputs S st) st.world.content × IsBehind types f inputs any_local any_local any_location before st × UniquesTold types f S st)) → GoesSafe types f rest inputs S bits before e
goes_safe types f rest inputs S before bits store given (Next st) goes right = record { safe = record { sound = goes.sound; given = given_behind types f rest inputs any_local any_local any_location before st store given right.1.1; covered = right.0; buffered = right.1.0; told = right.1.2 }; bits = goes.bits; behind = right.1.1; waits = goes.waits }
goes_safe types f rest inputs S before bits store given (Traps kind) goes right = tt
goes_safe types f rest inputs S before bits store given (Faults kind) goes right = right
goes_safe types f rest inputs S before bits store given Strays goes right = goes

module _ (types : Types) (ordered : IsOrdered types) (once : HasEachOnce types) (some : HaveMembers types) (names texts : ℕ) (fs : List Function) (f : Function) (formed : is_well_formed_function types names texts fs f ≡ true) (points : ArePointsFormed types texts fs f)
    (ready : HasReadyWays types f) (short : AreShort (elements_of types f)) where
  pub known : (rest : ℕ → ℕ) (inputs : Root → Option Region) (S : Fact → Type 0) (st : State) → IsSafe types f rest inputs S st → IsKnownFrame types f rest inputs S st
  known rest inputs S st safe = record {
    ordered = ordered;
    once = once;
    shaped = locals_shaped types ordered names f (formed_parts types names texts fs f formed).locals;
    stand = locals_stand types ordered once some names texts fs f formed points ready;
    short = short;
    stands = safe.sound.stands;
    poised = poised types ordered once some names texts fs f formed points ready rest st safe.sound;
    aims = pointers_aim types ordered f st safe.sound.held safe.sound.stands.frame;
    given = safe.given;
    covered = safe.covered;
    buffered = safe.buffered;
    told = safe.told;
  }

  pub point_safe : (rest : ℕ → ℕ) (inputs : Root → Option Region) (s : Setting) (sigs : List Signature) (n : ℕ) (place : Place) (S S' : Fact → Type 0) (p : ℕ) (st : State) (l : Linked) (i : Step) → Reaches types f p (ready_of st) → numbered (code_of f) p ≡ Some l → l.spot.node ≡ Action i → IsSpoken types f i
      → IsRight sigs types n f place i S S' → IsSafe types f rest inputs S st → GoesSafe types f rest inputs S' (bits_past types f (Action i) (ready_of st)) st (does s types f i st)
  point_safe rest inputs s sigs n place S S' p st l i way here is spoken right safe =
      let are = subst (IsNodeReady types f (ready_of st)) is (ready.ready p (ready_of st) l way here) in
      goes_safe types f rest inputs S' st (bits_past types f (Action i) (ready_of st)) safe.sound.stands.store safe.given (does s types f i st)
      (held_goes types ordered once some names texts fs f formed points ready rest s p st l i way here is (one_frame types f i spoken) safe.sound)
      (step_right types f rest inputs S st (known rest inputs S st safe) sigs n place S' texts fs s i spoken right (subst (λ (m : Node). is_well_formed_node types texts fs f m ≡ true) is (points p l here))
      (slot_free types ordered once names texts fs f formed points ready p (ready_of st) way i are) are)
