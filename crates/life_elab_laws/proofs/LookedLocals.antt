-- Which locals are looked at: moved from, aimed at, or asked for an element; an instruction uses what it looks at.
use Rattle.std.proofs.Common.{inl, inr, ℕ, List, [], ◌∷◌, ◌++◌, flat_map}
use Rattle.life_core.specs.Function.{Function}
use Rattle.life_core.specs.Operands.{Argument, Value, GivenOver, PointerOf, Slot, Base, Operand, Name, Through, Source}
use Rattle.life_core.specs.Operands as source
use Rattle.life_core.specs.Step.{Step, Move, Aim, Element, Cursor, Changes, Call, Change, Erase}
use Rattle.life_core.specs.Touched.{argument_uses, base_uses, change_uses, part_uses, place_uses, source_uses, target_uses, touched_by, which_uses}
use Rattle.life_core.specs.Tree.{Action, Node, Spot, Tree, spots}
use Rattle.life_elab_laws.proofs.Among.{Among, among_left, among_right}

abbrev pub looked_place : Operand → List ℕ
looked_place (Name l) = l.local ∷ []
looked_place (Through p members) = []

abbrev pub looked_source : Source → List ℕ
looked_source (source.Place o) = looked_place o
looked_source (source.Whole o) = looked_place o
looked_source (source.Get l) = l.local ∷ []
looked_source _ = []

abbrev pub looked_base : Base → List ℕ
looked_base (source.Owner o) = looked_place o
looked_base (source.Pointer l) = []

abbrev pub looked_argument : Argument → List ℕ
looked_argument (Slot l) = l.local ∷ []
looked_argument _ = []

abbrev pub looked_change : Operand → Change → List ℕ
looked_change o (Erase at into) = looked_place o
looked_change o _ = []

abbrev pub looked_step : Step → List ℕ
looked_step (Move to y) = y ∷ []
looked_step (Aim p s) = looked_source s
looked_step (Element p b which) = looked_base b
looked_step (Cursor p b end) = looked_base b
looked_step (Changes o c) = looked_change o c
looked_step (Call target g xs) = flat_map looked_argument xs
looked_step _ = []

abbrev pub looked_node : Node → List ℕ
looked_node (Action i) = looked_step i
looked_node _ = []

abbrev pub looked_spot : Spot → List ℕ
looked_spot s = looked_node s.node

abbrev pub looked_of : Tree → List ℕ
looked_of t = flat_map looked_spot (spots t)

-- ---- what is looked at is used

module _ (f : Function) where
  pub place_used : (o : Operand) (x : ℕ) → Among x (looked_place o) → Among x (place_uses o)
  place_used (Name l) x m = m
  place_used (Through p members) x m = absurd m

  pub source_used : (s : Source) (x : ℕ) → Among x (looked_source s) → Among x (source_uses s)
  source_used (source.Place o) x m = place_used o x m
  source_used (source.Whole o) x m = place_used o x m
  source_used (source.Get l) x m = m
  source_used _ x m = absurd m

  pub base_used : (b : Base) (x : ℕ) → Among x (looked_base b) → Among x (base_uses b)
  base_used (source.Owner o) x m = place_used o x m
  base_used (source.Pointer l) x m = absurd m

  pub arguments_used : (xs : List Argument) (x : ℕ) → Among x (flat_map looked_argument xs) → Among x (flat_map (argument_uses f) xs)
  arguments_used [] x m = absurd m
  arguments_used (Slot l ∷ xs) x (inl e) = inl e
  arguments_used (Slot l ∷ xs) x (inr m) = inr (arguments_used xs x m)
  arguments_used (Value r ∷ xs) x m = inr (arguments_used xs x m)
  arguments_used (PointerOf l ∷ xs) x m = inr (arguments_used xs x m)
  arguments_used (GivenOver y ∷ xs) x m = among_right (argument_uses f (GivenOver y)) (flat_map (argument_uses f) xs) x (arguments_used xs x m)

  pub change_used : (o : Operand) (c : Change) (x : ℕ) → Among x (looked_change o c) → Among x (place_uses o)
  change_used o (Erase at into) x m = place_used o x m
  change_used o _ x m = absurd m

  pub step_used : (i : Step) (x : ℕ) → Among x (looked_step i) → Among x (touched_by f i).uses
  step_used (Move to y) x m = elim m [ inl e ↦ inl e | inr none ↦ absurd none ]
  step_used (Aim p s) x m = among_left (source_uses s) (part_uses p) x (source_used s x m)
  step_used (Element p b which) x m = among_left (base_uses b) (which_uses which ++ part_uses p) x (base_used b x m)
  step_used (Cursor p b end) x m = among_left (base_uses b) (part_uses p) x (base_used b x m)
  step_used (Changes o c) x m = among_left (place_uses o) (change_uses f c) x (change_used o c x m)
  step_used (Call target g xs) x m = among_left (flat_map (argument_uses f) xs) (target_uses target) x (arguments_used xs x m)
  step_used _ x m = absurd m
