-- Locals that are given over to an owner or a call: nothing else takes what they hold, and nothing points into them.
use Rattle.std.specs.Prelude.{ℕ, Bool, true, ◌&&◌, not, nat_eq, List, [], ◌∷◌, Option, flat_map}
use Rattle.std.specs.List.{list_all, list_any}
use Rattle.life_types.specs.Types.{Types}
use Rattle.life_core.specs.declared.instr.Made.{Made}
use Rattle.life_core.specs.declared.instr.Made.TheVariants as made
use Rattle.life_core.specs.Function.{Function, Program}
use Rattle.life_core.specs.Operands.{Argument, GivenOver, Slot, Base, Location, Operand, Name, Through, Source}
use Rattle.life_core.specs.Operands as source
use Rattle.life_core.specs.Step.{Step, Move, Aim, Element, Cursor, Changes, Make, Call, Change, PushBack, Erase}
use Rattle.life_core.specs.Touched.{target_uses}
use Rattle.life_core.specs.Tree.{Node, Action, Spot, spots}
use Rattle.life_proper.specs.Placed.{object_at}

-- ---- which they are

abbrev pub given_argument : Argument → List ℕ
given_argument (GivenOver x) = x ∷ []
given_argument _ = []

abbrev pub given_change : Change → List ℕ
given_change (PushBack x) = x ∷ []
given_change _ = []

abbrev pub given_made : Made → List ℕ
given_made (made.Of x) = x ∷ []
given_made _ = []

-- what an instruction consumes; a register among them holds a value
abbrev pub given_step : Step → List ℕ
given_step (Changes o c) = given_change c
given_step (Make u m) = given_made m
given_step (Call target g xs) = flat_map given_argument xs
given_step _ = []

abbrev pub given_node : Node → List ℕ
given_node (Action i) = given_step i
given_node _ = []

abbrev pub given_spot : Spot → List ℕ
given_spot s = given_node s.node

abbrev pub given_in : Function → List ℕ
given_in f = flat_map given_spot (spots f.body)

-- ---- what doesn't touch them

-- whether a call gives this local over
abbrev pub is_handed_in : List Argument → ℕ → Bool
is_handed_in xs x = list_any (nat_eq x) (flat_map given_argument xs)

-- a call that writes a member gives over no object that the member is of: it would be gone when the result comes
abbrev pub keeps_target : Option Location → List Argument → Bool
keeps_target target xs = not (list_any (is_handed_in xs) (target_uses target))

module _ (types : Types) (f : Function) where
  abbrev pub is_kept : ℕ → Bool
  is_kept x = not (object_at types f x && list_any (nat_eq x) (given_in f))

  abbrev pub is_kept_place : Operand → Bool
  is_kept_place (Name l) = is_kept l.local
  is_kept_place (Through p members) = true

  abbrev pub is_kept_source : Source → Bool
  is_kept_source (source.Place o) = is_kept_place o
  is_kept_source (source.Whole o) = is_kept_place o
  is_kept_source (source.Get l) = is_kept l.local
  is_kept_source _ = true

  abbrev pub is_kept_base : Base → Bool
  is_kept_base (source.Owner o) = is_kept_place o
  is_kept_base (source.Pointer l) = true

  abbrev pub is_kept_argument : Argument → Bool
  is_kept_argument (Slot l) = is_kept l.local
  is_kept_argument _ = true

  -- an iterator to an element comes of an erase
  abbrev pub is_kept_change : Operand → Change → Bool
  is_kept_change o (Erase at into) = is_kept_place o
  is_kept_change o _ = true

  abbrev pub keeps_given : Step → Bool
  keeps_given (Move to y) = is_kept y
  keeps_given (Aim p s) = is_kept_source s
  keeps_given (Element p b which) = is_kept_base b
  keeps_given (Cursor p b end) = is_kept_base b
  keeps_given (Changes o c) = is_kept_change o c
  keeps_given (Call target g xs) = list_all is_kept_argument xs && keeps_target target xs
  keeps_given _ = true

  abbrev pub node_keeps_given : Node → Bool
  node_keeps_given (Action i) = keeps_given i
  node_keeps_given _ = true

  abbrev pub spot_keeps_given : Spot → Bool
  spot_keeps_given s = node_keeps_given s.node

  abbrev pub all_keep_given : Bool
  all_keep_given = list_all spot_keeps_given (spots f.body)

-- .. in a whole program
abbrev pub keeps_all_given : Program → Bool
keeps_all_given p = list_all (all_keep_given p.types) p.functions
