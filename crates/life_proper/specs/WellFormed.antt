-- Instructions that are well formed: each number names something that is there, each operand has a type that the instruction takes, and const stays const. This
-- hangs on no way through the text, so it is asked at each point, also where no way comes to.
use Rattle.std.specs.Prelude.{ℕ, Bool, true, false, ◌&&◌, ◌||◌, not, if◌then◌else◌, nat_eq, nat_lt, List, [], ◌∷◌, map, Option, Some, None, slice_get, take}
use Rattle.std.specs.List.{list_all, list_any, starts_with}
use Rattle.life_types.specs.Pointees.{pointee, ty_of}
use Rattle.life_types.specs.Trees.{holds_unique}
use Rattle.life_types.specs.TypeTests.{is_constant, is_iterator, is_pointer, is_raw, is_reference, is_unique, is_view, is_void}
use Rattle.life_types.specs.Types.{Types, is_slot_at}
use Rattle.life_types.specs.declared.ty.Ty.{Ty}
use Rattle.life_types.specs.declared.ty.Ty.TheVariants as ty
use Rattle.life_types.specs.declared.ty.TyId.{TyId}
use Rattle.life_core.specs.declared.instr.Made.{Made}
use Rattle.life_core.specs.declared.instr.Made.TheVariants as made
use Rattle.life_core.specs.declared.operation.Operation.{Operation}
use Rattle.life_core.specs.declared.operation.Operation.TheVariants as operation
use Rattle.life_core.specs.declared.operation.Operator.{Operator}
use Rattle.life_core.specs.declared.operation.Operator.TheVariants as operator
use Rattle.life_core.specs.declared.program.Local.{Local}
use Rattle.life_core.specs.Function.{Function}
use Rattle.life_core.specs.Operands.{Argument, Value, GivenOver, PointerOf, Slot, Characters, View, Single, Location, Operand, Name, Through, Source}
use Rattle.life_core.specs.Operands as source
use Rattle.life_core.specs.Step.{Step, Live, End, Eval, Load, Save, Copy, Move, Aim, Repoint, Element, Cursor, Advance, Cut, Size, Same, Changes, Make, Call, Ports, Change, PushBack, PopBack, Clear, Reserve, Erase, Set, Append, Port, Writes, WritesView, Takes, Test, NonZero, NotNull}
use Rattle.life_core.specs.Tree.{Tree, Skip, Then, Acts, Asks, Both, Either, Negated, Choice, Turns, Breaks, Continues, Returns, Stops, Node, Action, Question, Spot}
use Rattle.life_pset.specs.Shapes.{operand_type, tree_if}
use Rattle.life_proper.specs.OperandTypes.{aims_at, are_compared, gets, is_composed, is_owner, is_promoted, is_range, keeps_const, owned_target, same, spans, takes, walks}
use Rattle.life_proper.specs.Placed.{element_of, is_const_base, is_const_place, is_consumed, is_given, is_number, is_number_of, is_number_of_if, object_at, register_at, result_at, slot_at, type_at, type_in, type_of, type_of_element}

-- an operator that compares answers a bool, and any other what it computes in
abbrev pub answer_of : Operator → Ty → Ty
answer_of operator.Add t = t
answer_of operator.Subtract t = t
answer_of operator.Multiply t = t
answer_of operator.Divide t = t
answer_of operator.Remainder t = t
answer_of _ t = ty.Bool

-- the types of a function's parameters
abbrev pub local_type : Local → TyId
local_type l = l.ty

abbrev pub types_taken : Function → List TyId
types_taken g = map local_type (take g.parameters g.locals)

abbrev pub is_whole : Location → Bool
is_whole l = starts_with nat_eq [] l.members

abbrev pub are_one : Location → Location → Bool
are_one a b = nat_eq a.local b.local && (starts_with nat_eq a.members b.members && starts_with nat_eq b.members a.members)

-- in a function of a program with these types, so many texts and these functions
module _ (types : Types) (texts : ℕ) (fs : List Function) (f : Function) where
  -- ---- parts of instructions

  -- what comes to life is an object or a pointer that isn't a reference
  abbrev pub can_live : ℕ → Bool
  can_live x = object_at types f x || (register_at types f x && (is_pointer (type_at types f x) && not (is_reference (type_at types f x))))

  -- what ends is an object or a pointer, and neither the result nor a slot
  abbrev pub can_end : ℕ → Bool
  can_end x = (object_at types f x || is_pointer (type_at types f x)) && (not (result_at types f x) && not (slot_at types f x))

  -- what a register of a type is given
  abbrev pub is_operation_of : Ty → Operation → Bool
  is_operation_of t (operation.Number n) = true
  is_operation_of t (operation.Convert r) = is_number types f r
  is_operation_of t (operation.Negate r) = is_promoted t && is_number_of types f t r
  is_operation_of t (operation.IsZero r) = same t ty.Bool && is_number types f r
  is_operation_of t (operation.Binary o a b) =
      is_promoted (type_at types f a) && (is_number_of types f (type_at types f a) a && (is_number_of types f (type_at types f a) b && same t (answer_of o (type_at types f a))))

  -- what a pointer of a type is aimed at
  abbrev pub is_source_of : Ty → Source → Bool
  is_source_of t source.Null = is_raw t
  is_source_of t (source.Text n) = is_view t && nat_lt n texts
  is_source_of t source.Empty = is_range t
  is_source_of t (source.Place o) = aims_at types t (type_of types f o) && keeps_const (is_constant t) (is_const_place types f o)
  is_source_of t (source.Whole o) = spans types t (type_of types f o) && keeps_const (is_constant t) (is_const_place types f o)
  is_source_of t (source.Get l) = gets types t (owned_target types (type_in types f l))

  abbrev pub are_characters : Characters → Bool
  are_characters (View l) = is_view (type_in types f l)
  are_characters (Single r) = is_number_of types f ty.Char r

  -- how an owner of a type is changed
  abbrev pub is_change_of : Ty → Change → Bool
  is_change_of ty.Text (PushBack r) = is_number_of types f ty.Char r
  is_change_of ty.Text Clear = true
  is_change_of ty.Text (Set c) = are_characters c
  is_change_of ty.Text (Append c) = are_characters c
  is_change_of (ty.Vector element) (PushBack x) = is_consumed types f (ty_of types element) x
  is_change_of (ty.Vector element) PopBack = true
  is_change_of (ty.Vector element) Clear = true
  is_change_of (ty.Vector element) (Reserve r) = is_number_of types f ty.Size r
  is_change_of (ty.Vector element) (Erase at into) = walks types (type_in types f at) (ty_of types element) && walks types (type_in types f into) (ty_of types element)
  is_change_of _ _ = false

  -- what a unique_ptr is made to own
  abbrev pub is_made_for : Ty → Made → Bool
  is_made_for t made.Null = is_unique t
  is_made_for t made.Zero = is_unique t
  is_made_for t (made.Of x) = is_consumed types f (owned_target types t) x

  abbrev pub is_port : Port → Bool
  is_port (Writes r) = is_number types f r
  is_port (WritesView l) = is_view (type_in types f l)
  is_port (Takes r) = is_number_of types f ty.Long r

  -- the place is this local
  abbrev pub is_itself : ℕ → Operand → Bool
  is_itself y (Name l) = is_whole l && nat_eq l.local y
  is_itself y (Through p members) = false

  -- ---- calls

  -- what a parameter of a type is handed
  abbrev pub is_argument_for : TyId → Argument → Bool
  is_argument_for id (Value r) = is_number_of types f (ty_of types id) r
  is_argument_for id (GivenOver x) = is_composed (ty_of types id) && is_given types f (ty_of types id) x
  is_argument_for id (PointerOf l) = not (is_slot_at types id) && takes types (ty_of types id) (type_in types f l)
  is_argument_for id (Slot l) = is_slot_at types id && same (pointee types (ty_of types id)) (type_in types f l)

  -- as many as there are parameters
  abbrev pub are_arguments_for : List TyId → List Argument → Bool
  are_arguments_for [] [] = true
  are_arguments_for (id ∷ ids) (x ∷ xs) = is_argument_for id x && are_arguments_for ids xs
  are_arguments_for _ _ = false

  -- no two slots are handed one local
  abbrev pub is_slot_of : Location → Argument → Bool
  is_slot_of l (Slot m) = are_one l m
  is_slot_of l _ = false

  abbrev pub have_own_slots : List Argument → Bool
  have_own_slots [] = true
  have_own_slots (Slot l ∷ xs) = not (list_any (is_slot_of l) xs) && have_own_slots xs
  have_own_slots (_ ∷ xs) = have_own_slots xs

  -- where a result goes: nowhere where it is void; a value to a register or an object, an owner or a struct to an object, and a pointer to a pointer
  abbrev pub goes_to : Ty → Option Location → Bool
  goes_to t None = is_void t
  goes_to t (Some l) =
      if is_pointer t then takes types (type_in types f l) t
      else (is_whole l && (same t (type_in types f l) && (object_at types f l.local || is_number types f l.local)))

  abbrev pub is_call : Option Function → Option Location → List Argument → Bool
  is_call None target xs = false
  is_call (Some g) target xs = are_arguments_for (types_taken g) xs && (have_own_slots xs && goes_to (ty_of types g.result) target)

  -- ---- instructions

  abbrev pub is_well_formed_step : Step → Bool
  is_well_formed_step (Live x form) = can_live x
  is_well_formed_step (End xs) = list_all can_end xs
  is_well_formed_step (Eval r o) = is_number types f r && is_operation_of (type_at types f r) o
  is_well_formed_step (Load r o) = is_number_of types f (type_of types f o) r
  is_well_formed_step (Save o r) = is_number_of types f (type_of types f o) r && not (is_const_place types f o)
  is_well_formed_step (Copy to from) =
      same (type_of types f to) (type_of types f from)
      && (not (is_pointer (type_of types f to)) && (not (holds_unique (tree_if types (operand_type types f to))) && not (is_const_place types f to)))
  is_well_formed_step (Move to y) =
      is_owner (type_of types f to)
      && (object_at types f y && (same (type_of types f to) (type_at types f y) && (not (result_at types f y) && (not (is_itself y to) && not (is_const_place types f to)))))
  is_well_formed_step (Aim p s) = is_source_of (type_in types f p) s
  is_well_formed_step (Repoint p q) = takes types (type_in types f p) (type_in types f q)
  is_well_formed_step (Element p b which) = aims_at types (type_in types f p) (type_of_element types f b which) && keeps_const (is_constant (type_in types f p)) (is_const_base types f b)
  is_well_formed_step (Cursor p b end) = walks types (type_in types f p) (element_of types f b) && keeps_const (is_constant (type_in types f p)) (is_const_base types f b)
  is_well_formed_step (Advance p q r direction) = is_iterator (type_in types f p) && (takes types (type_in types f p) (type_in types f q) && is_number types f r)
  is_well_formed_step (Cut p q r count) =
      is_range (type_in types f p) && (takes types (type_in types f p) (type_in types f q) && (is_number_of types f ty.Size r && is_number_of_if types f ty.Size count))
  is_well_formed_step (Size r b) = is_number_of types f ty.Size r && not (is_void (element_of types f b))
  is_well_formed_step (Same r a b equal) = is_number_of types f ty.Bool r && are_compared types (type_in types f a) (type_in types f b)
  is_well_formed_step (Changes o c) = is_change_of (type_of types f o) c && not (is_const_place types f o)
  is_well_formed_step (Make u made) = is_made_for (type_in types f u) made
  is_well_formed_step (Call target g xs) = is_call (slice_get fs g.0) target xs
  is_well_formed_step (Ports p) = is_port p

  -- a test of a value, or of what may be null
  abbrev pub is_well_formed_test : Test → Bool
  is_well_formed_test (NonZero r) = is_number types f r
  is_well_formed_test (NotNull l) = is_raw (type_in types f l) || is_unique (type_in types f l)

  -- ---- each point of a tree

  abbrev pub is_well_formed_node : Node → Bool
  is_well_formed_node (Action i) = is_well_formed_step i
  is_well_formed_node (Question t) = is_well_formed_test t
  is_well_formed_node _ = true

  abbrev pub is_well_formed_spot : Spot → Bool
  is_well_formed_spot s = is_well_formed_node s.node

  abbrev pub is_well_formed_tree : Tree → Bool
  is_well_formed_tree Skip = true
  is_well_formed_tree (Then a b) = is_well_formed_tree a && is_well_formed_tree b
  is_well_formed_tree (Acts place i) = is_well_formed_step i
  is_well_formed_tree (Asks place t) = is_well_formed_test t
  is_well_formed_tree (Both a b) = is_well_formed_tree a && is_well_formed_tree b
  is_well_formed_tree (Either a b) = is_well_formed_tree a && is_well_formed_tree b
  is_well_formed_tree (Negated a) = is_well_formed_tree a
  is_well_formed_tree (Choice t a b) = is_well_formed_tree t && (is_well_formed_tree a && is_well_formed_tree b)
  is_well_formed_tree (Turns t body step) = is_well_formed_tree t && (is_well_formed_tree body && is_well_formed_tree step)
  is_well_formed_tree Breaks = true
  is_well_formed_tree Continues = true
  is_well_formed_tree (Returns place) = true
  is_well_formed_tree (Stops place) = true
