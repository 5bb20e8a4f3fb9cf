-- A point that marks nothing has no targets.
use Rattle.std.proofs.Common.{◌≡◌, Bool, true, false, List, Option, Some, None, refl}
use Rattle.std.specs.Prelude.{◌&&◌}
use Rattle.life_types.specs.Trees.{holds_owner}
use Rattle.life_types.specs.Types.{Types}
use Rattle.life_types.specs.declared.place.Place.{Place}
use Rattle.life_core.specs.Function.{Function}
use Rattle.life_core.specs.Operands.{Operand, Name, Through}
use Rattle.life_core.specs.Step.{Step, Call, Changes, Copy, Move}
use Rattle.life_core.specs.Tree.{Node, Action, Question, Return, Spot, Stop}
use Rattle.life_pset.specs.Elements.{called, owner_changed}
use Rattle.life_pset.specs.Shapes.{operand_type, tree_if}
use Rattle.life_pset.specs.declared.element.AbsPlace.{AbsPlace}
use Rattle.life_pset.specs.declared.element.Element.TheVariants as element
use Rattle.life_contract.specs.Signatures.{Signature}
use Rattle.life_rules.specs.Staying.{goes_through, mark, mark_through, node_mark, node_targets, spot_targets, step_mark, targets}
use Rattle.life_plan.specs.Numbered.{passes}

some_none : {A : Type 0} (x : A) → Some x ≡ None → ⊥
some_none x h = cc

and_none : (a b : Bool) → b ≡ false → (a && b) ≡ false
and_none true b h = h
and_none false b h = refl

not_through : (place : Place) (o : Operand) (l : AbsPlace) → mark_through place o ≡ None → goes_through o l ≡ false
not_through place (Name n) l h = refl
not_through place (Through p members) l h = absurd (some_none (element.Invalid (owner_changed place)) h)

module _ (sigs : List Signature) (types : Types) (f : Function) where
  no_target : (place : Place) (i : Step) (l : AbsPlace) → step_mark place i ≡ None → targets sigs types f i l ≡ false
  no_target place (Copy to from) l h = and_none (holds_owner (tree_if types (operand_type types f to))) (goes_through to l) (not_through place to l h)
  no_target place (Move to y) l h = not_through place to l h
  no_target place (Changes o change) l h = not_through place o l h
  no_target place (Call target g xs) l h = absurd (some_none (element.Invalid (called place g.0)) h)
  no_target place i l h = refl

  node_untargeted : (place : Place) (n : Node) (l : AbsPlace) → node_mark place n ≡ None → node_targets sigs types f n l ≡ false
  node_untargeted place (Action i) l h = no_target place i l h
  node_untargeted place (Question t) l h = refl
  node_untargeted place Return l h = refl
  node_untargeted place Stop l h = refl

  untargeted : (spot : Option Spot) (l : AbsPlace) → mark spot ≡ None → spot_targets sigs types f spot l ≡ false
  untargeted None l h = refl
  untargeted (Some s) l h = node_untargeted s.place s.node l h

  pub none_targeted : (spot : Option Spot) → mark spot ≡ None → (l : Option AbsPlace) → passes (spot_targets sigs types f spot) l ≡ false
  none_targeted spot h None = refl
  none_targeted spot h (Some l) = untargeted spot l h
