-- At each point of a proper function that is reached an instruction has operands of the types that it takes.
use Rattle.std.proofs.Common.{◌≡◌, ℕ, Bool, true, false, List, Some, refl, sym, subst, ◌∙◌}
use Rattle.std.proofs.lemmas.Bool.{false≢true}
use Rattle.life_types.specs.Trees.{IsOrdered}
use Rattle.life_types.specs.Types.{HasEachOnce, Types}
use Rattle.life_core.specs.Function.{Function}
use Rattle.life_core.specs.Linked.{Linked, code_of, numbered}
use Rattle.life_core.specs.Proper.{AreReady, HasReadyWays, IsNodeReady, Reaches}
use Rattle.life_core.specs.Ready.{Ready}
use Rattle.life_core.specs.Step.{Step, Live, End, Eval, Load, Save, Copy, Move, Aim, Repoint, Element, Cursor, Advance, Cut, Size, Same, Changes, Make, Call, Ports}
use Rattle.life_core.specs.Touched.{touched_by}
use Rattle.life_core.specs.Tree.{Node, Action}
use Rattle.life_proper.specs.Placed.{slot_at}
use Rattle.life_proper.specs.WellFormed.{is_well_formed_node}
use Rattle.life_proper.specs.WellFormedPrograms.{is_well_formed_function}
use Rattle.life_proper.proofs.SortedNodes.{formed_parts}
use Rattle.life_store.specs.State.{State, ready_of}
use Rattle.life_store.proofs.CellLemmas.{some_same}
use Rattle.life_forest.specs.Sorted.{AreSorted}
use Rattle.life_forest.proofs.Shaped.{locals_shaped}
use Rattle.life_forest.proofs.Slots.{ArePointsFormed, slots_stay}
use Rattle.life_forest.proofs.StandingSteps.{IsTypedStep}
use Rattle.life_forest.proofs.TypedSteps.{IsSlotFree, PointersAim, typed_step}

module _ (types : Types) (ordered : IsOrdered types) (once : HasEachOnce types) (names texts : ℕ) (fs : List Function) (f : Function) (formed : is_well_formed_function types names texts fs f ≡ true) (points : ArePointsFormed types texts fs f)
    (ready : HasReadyWays types f) where
  -- what is born isn't there, and a slot always is
  pub slot_free : (p : ℕ) (bits : Ready) → Reaches types f p bits → (i : Step) → AreReady bits (touched_by f i) → IsSlotFree types f i
  slot_free p bits way (Live x form) are = go (slot_at types f x) refl
    where
      go : (b : Bool) → slot_at types f x ≡ b → slot_at types f x ≡ false
      go false e = e
      go true e = absurd (false≢true (some_same (sym are.births.0 ∙ slots_stay types ordered texts fs f names formed points p bits way x e)))
  slot_free p bits way (End xs) are = tt
  slot_free p bits way (Eval r operation) are = tt
  slot_free p bits way (Load r o) are = tt
  slot_free p bits way (Save o r) are = tt
  slot_free p bits way (Copy to from) are = tt
  slot_free p bits way (Move to y) are = tt
  slot_free p bits way (Aim p' s) are = tt
  slot_free p bits way (Repoint p' q) are = tt
  slot_free p bits way (Element p' b w) are = tt
  slot_free p bits way (Cursor p' b end) are = tt
  slot_free p bits way (Advance p' q r direction) are = tt
  slot_free p bits way (Cut p' q r count) are = tt
  slot_free p bits way (Size r b) are = tt
  slot_free p bits way (Same r a b equal) are = tt
  slot_free p bits way (Changes o c) are = tt
  slot_free p bits way (Make u m) are = tt
  slot_free p bits way (Call target g xs) are = tt
  slot_free p bits way (Ports port) are = tt

  pub typed_point : (p : ℕ) (st : State) (l : Linked) (i : Step) → Reaches types f p (ready_of st) → numbered (code_of f) p ≡ Some l → l.spot.node ≡ Action i → PointersAim types f st → AreSorted types f st.cells → IsTypedStep types f st i
  typed_point p st l i way here is aims sorted =
      typed_step types ordered once texts fs f (locals_shaped types ordered names f (formed_parts types names texts fs f formed).locals) st aims sorted i
      (subst (λ (n : Node). is_well_formed_node types texts fs f n ≡ true) is (points p l here))
      (slot_free p (ready_of st) way i (subst (IsNodeReady types f (ready_of st)) is (ready.ready p (ready_of st) l way here)))
