-- Points in a form of their own: what is done at once there, by the numbers of whole locals, and where control goes.
use Rattle.std.specs.Prelude.{ℕ, Bool, true, false, List, [], ◌∷◌, Option, Some, None, map}
use Rattle.life_core.specs.Function.{Function}
use Rattle.life_core.specs.Linked.{Linked, code_of}
use Rattle.life_core.specs.Operands.{Base, Location, Name, Operand, Owner, Pointer, Through, behind, object_named, whole}
use Rattle.life_core.specs.Step.{Step, Element, End, Eval, Live, Load, NonZero, NotNull, Save, Test}
use Rattle.life_core.specs.Tree.{Node, Action, Question, Return, Stop}
use Rattle.life_core.specs.declared.instr.Form.TheVariants as form
use Rattle.life_core.specs.declared.operand.Which.{Which}
use Rattle.life_core.specs.declared.operand.Which.TheVariants as which
use Rattle.life_cells.specs.Typed.{is_nil}
use Rattle.life_interp.specs.Walk.{first_way, second_way}
use Rattle.life_interp.specs.declared.flat.Act.{Act}
use Rattle.life_interp.specs.declared.flat.Act.TheVariants as act
use Rattle.life_interp.specs.declared.flat.Flat.{Flat}

-- ---- whole locals

abbrev pub only_if : Bool → Option ℕ → Option ℕ
only_if true o = o
only_if false o = None

-- the local, if the location is one itself
abbrev pub whole_local : Location → Option ℕ
whole_local l = only_if (is_nil l.members) (Some l.local)

-- .. if the operand names one itself
abbrev pub named_local : Operand → Option ℕ
named_local (Name l) = whole_local l
named_local (Through p members) = None

-- .. if the operand is what one points to
abbrev pub pointed_local : Operand → Option ℕ
pointed_local (Name l) = None
pointed_local (Through p members) = only_if (is_nil members) (whole_local p)

-- .. if one has the elements itself
abbrev pub owning_local : Base → Option ℕ
owning_local (Owner o) = named_local o
owning_local (Pointer l) = None

-- ---- the form of what stands at a point

abbrev pub load_from : ℕ → (named pointed : Option ℕ) → Act
load_from r (Some x) p = act.Load r x
load_from r None (Some p) = act.LoadThrough r p
load_from r None None = act.Other

abbrev pub save_to : (named pointed : Option ℕ) → ℕ → Act
save_to (Some x) p r = act.Save x r
save_to None (Some p) r = act.SaveThrough p r
save_to None None r = act.Other

abbrev pub index_of : (pointer owner : Option ℕ) → ℕ → Act
index_of (Some p) (Some v) r = act.Index p v r
index_of (Some p) None r = act.Other
index_of None v r = act.Other

abbrev pub flat_element : Location → Base → Which → Act
flat_element l b (which.Index r) = index_of (whole_local l) (owning_local b) r
flat_element l b which.First = act.Other
flat_element l b which.Last = act.Other
flat_element l b which.Target = act.Other

-- the end of one local
abbrev pub end_of : List ℕ → Act
end_of [] = act.Other
end_of (x ∷ []) = act.End x
end_of (x ∷ y ∷ ys) = act.Other

abbrev pub flat_act : Step → Act
flat_act (Live x form.Plain) = act.Live x
flat_act (Live x form.Zero) = act.Other
flat_act (End xs) = end_of xs
flat_act (Eval r operation) = act.Eval r operation
flat_act (Load r o) = load_from r (named_local o) (pointed_local o)
flat_act (Save o r) = save_to (named_local o) (pointed_local o) r
flat_act (Element l b which) = flat_element l b which
flat_act _ = act.Other

-- a test goes to a point where it holds and to another where it doesn't
abbrev pub flat_test : Test → (failed : Option ℕ) → Act
flat_test (NonZero r) failed = act.Test r failed
flat_test (NotNull l) failed = act.Other

abbrev pub flat_node : Node → (failed : Option ℕ) → Act
flat_node (Action i) failed = flat_act i
flat_node (Question t) failed = flat_test t failed
flat_node Return failed = act.Other
flat_node Stop failed = act.Other

abbrev pub flat_of : Linked → Flat
flat_of l = record { act = flat_node l.spot.node (second_way l.leads); to = first_way l.leads }

-- nothing is done at once
abbrev pub no_point : Flat
no_point = record { act = act.Other; to = None }

-- those of a function behind one that is none, so that each has the index of its number
abbrev pub table_in : List Linked → List Flat
table_in ls = no_point ∷ map flat_of ls

abbrev pub table_of : Function → List Flat
table_of f = table_in (code_of f)

-- ---- what the form tells

-- the instruction that is done
abbrev pub step_in : Act → Option Step
step_in act.Other = None
step_in (act.Live x) = Some (Live x form.Plain)
step_in (act.End x) = Some (End (x ∷ []))
step_in (act.Eval r operation) = Some (Eval r operation)
step_in (act.Load r x) = Some (Load r (object_named x))
step_in (act.LoadThrough r p) = Some (Load r (behind p))
step_in (act.Save x r) = Some (Save (object_named x) r)
step_in (act.SaveThrough p r) = Some (Save (behind p) r)
step_in (act.Index p v r) = Some (Element (whole p) (Owner (object_named v)) (which.Index r))
step_in (act.Test r failed) = None
