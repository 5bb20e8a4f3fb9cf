-- Instructions that are well formed, and some that aren't, of each kind.
use Rattle.std.proofs.Common.{◌≡◌, ℕ, Bool, true, false, List, [], ◌∷◌, Option, Some, None, refl}
use Rattle.std.specs.Prelude.{pos}
use Rattle.life_types.specs.Trees.{tree_at}
use Rattle.life_types.specs.Types.{Types}
use Rattle.life_types.specs.declared.ty.NameId.{NameId}
use Rattle.life_types.specs.declared.ty.Ty.TheVariants as ty
use Rattle.life_types.specs.declared.ty.TyId.{TyId}
use Rattle.life_core.specs.declared.instr.Direction.TheVariants.{Forward}
use Rattle.life_core.specs.declared.instr.Form.TheVariants.{Plain, Zero}
use Rattle.life_core.specs.declared.instr.Made.TheVariants as made
use Rattle.life_core.specs.declared.operand.RangeEnd.TheVariants.{Begin}
use Rattle.life_core.specs.declared.operand.Which.TheVariants as which
use Rattle.life_core.specs.declared.operation.Operation.TheVariants as operation
use Rattle.life_core.specs.declared.operation.Operator.TheVariants as operator
use Rattle.life_core.specs.declared.program.Local.{Local}
use Rattle.life_core.specs.declared.program.LocalKind.{LocalKind}
use Rattle.life_core.specs.declared.program.LocalKind.TheVariants.{Object, Register}
use Rattle.life_core.specs.Function.{Function, Default}
use Rattle.life_core.specs.Operands.{Location, Operand, Name, Through, Value, GivenOver, PointerOf, Slot, View, Single, behind, object_named, whole}
use Rattle.life_core.specs.Operands as source
use Rattle.life_core.specs.Step.{Step, Live, End, Eval, Load, Save, Copy, Move, Aim, Repoint, Element, Cursor, Advance, Cut, Size, Same, Changes, Make, Call, Ports, PushBack, PopBack, Clear, Reserve, Erase, Set, Append, Writes, WritesView, Takes}
use Rattle.life_core.specs.Tree.{Skip}
use Rattle.life_proper.specs.WellFormedPrograms.{is_well_formed_function}
use Rattle.life_proper.specs.WellFormed.{is_well_formed_step}

abbrev id : ℕ → TyId
id n = record { 0 = n }

abbrev types : Types
types = record {
  types = ty.Void ∷ ty.Bool ∷ ty.Char ∷ ty.Int ∷ ty.Long ∷ ty.Size ∷ ty.Text ∷ ty.View ∷ ty.Vector (id 3) ∷ ty.Raw (id 3) false ∷ ty.Raw (id 3) true ∷ ty.Reference (id 3) false ∷ ty.Unique (id 3) ∷ ty.Iterator (id 3) false ∷ ty.Span (id 3) true ∷ ty.Reference (id 8) true ∷ ty.Reference (id 13) false ∷ ty.Span (id 3) false ∷ ty.Iterator (id 3) true ∷ ty.Struct 0 ∷ ty.Reference (id 21) false ∷ ty.Struct 1 ∷ [];
  structs = (id 3 ∷ id 6 ∷ id 9 ∷ id 12 ∷ []) ∷ (id 3 ∷ id 6 ∷ []) ∷ [];
}

abbrev local : Option NameId → ℕ → LocalKind → Local
local name n kind = record { name = name; ty = id n; kind = kind; place = record { line = 1; column = 1 }; nonnull = false; keeps = false }

abbrev function : ℕ → ℕ → List Local → Function
function parameters result locals = record { name = record { 0 = 0 }; place = record { line = 1; column = 1 }; parameters = parameters; result = id result; promise = Default; locals = locals; body = Skip }

abbrev f : Function
f = function 2 3 (local (Some (record { 0 = 0 })) 3 Object ∷ local (Some (record { 0 = 1 })) 16 Register ∷ local (None) 3 Register ∷ local (None) 3 Register ∷ local (None) 4 Register ∷ local (None) 5 Register ∷ local (None) 1 Register ∷ local (None) 2 Register ∷ local (Some (record { 0 = 2 })) 6 Object ∷ local (Some (record { 0 = 3 })) 7 Register ∷ local (Some (record { 0 = 4 })) 8 Object ∷ local (Some (record { 0 = 5 })) 9 Register ∷ local (Some (record { 0 = 6 })) 10 Register ∷ local (Some (record { 0 = 7 })) 11 Register ∷ local (Some (record { 0 = 8 })) 12 Object ∷ local (Some (record { 0 = 9 })) 13 Register ∷ local (Some (record { 0 = 10 })) 14 Register ∷ local (None) 6 Object ∷ local (Some (record { 0 = 11 })) 15 Register ∷ local (None) 3 Register ∷ local (Some (record { 0 = 12 })) 17 Register ∷ local (Some (record { 0 = 13 })) 3 Object ∷ local (Some (record { 0 = 14 })) 18 Register ∷ local (Some (record { 0 = 15 })) 19 Object ∷ local (Some (record { 0 = 16 })) 20 Register ∷ local (None) 8 Object ∷ local (None) 7 Register ∷ local (None) 5 Register ∷ local (None) 7 Register ∷ local (None) 19 Object ∷ [])

-- .. one that takes a string, a pointer and a reference to a const vector, and one that gives a pointer to const
abbrev fs : List Function
fs = f ∷ function 3 0 (local (Some (record { 0 = 0 })) 6 Object ∷ local (Some (record { 0 = 1 })) 9 Register ∷ local (Some (record { 0 = 2 })) 15 Register ∷ []) ∷ function 0 10 (local (None) 10 Register ∷ []) ∷ []

abbrev member : ℕ → ℕ → Operand
member x m = Name (record { local = x; members = m ∷ [] })

abbrev part : ℕ → ℕ → Location
part x m = record { local = x; members = m ∷ [] }

abbrev through : ℕ → ℕ → Operand
through p m = Through (whole p) (m ∷ [])

abbrev well_formed : Step → Bool
well_formed i = is_well_formed_step types 2 fs f i

the_function_is_well_formed : is_well_formed_function types 17 2 fs f ≡ true
unfolding tree_at
the_function_is_well_formed = refl

-- ---- well formed

good_0 : well_formed (Live 21 Plain) ≡ true
good_0 = refl

good_1 : well_formed (Live 8 Plain) ≡ true
good_1 = refl

good_2 : well_formed (Live 9 Plain) ≡ true
good_2 = refl

good_3 : well_formed (Live 11 Plain) ≡ true
good_3 = refl

good_4 : well_formed (Live 23 Zero) ≡ true
good_4 = refl

good_5 : well_formed (End (21 ∷ 13 ∷ 8 ∷ [])) ≡ true
good_5 = refl

good_6 : well_formed (Eval 3 (operation.Number (pos 7))) ≡ true
good_6 = refl

good_7 : well_formed (Eval 4 (operation.Convert 3)) ≡ true
good_7 = refl

good_8 : well_formed (Eval 3 (operation.Negate 19)) ≡ true
good_8 = refl

good_9 : well_formed (Eval 6 (operation.IsZero 5)) ≡ true
good_9 = refl

good_10 : well_formed (Eval 3 (operation.Binary operator.Add 3 19)) ≡ true
good_10 = refl

good_11 : well_formed (Eval 6 (operation.Binary operator.Less 3 19)) ≡ true
good_11 = refl

good_12 : well_formed (Load 3 (object_named 21)) ≡ true
good_12 = refl

good_13 : well_formed (Load 3 (behind 12)) ≡ true
good_13 = refl

good_14 : well_formed (Load 3 (member 23 0)) ≡ true
good_14 = refl

good_15 : well_formed (Save (object_named 21) 3) ≡ true
good_15 = refl

good_16 : well_formed (Save (behind 11) 3) ≡ true
good_16 = refl

good_17 : well_formed (Save (behind 13) 3) ≡ true
good_17 = refl

good_18 : well_formed (Save (through 24 0) 3) ≡ true
good_18 = refl

good_19 : well_formed (Copy (object_named 8) (member 23 1)) ≡ true
unfolding tree_at
good_19 = refl

good_20 : well_formed (Copy (object_named 10) (behind 18)) ≡ true
unfolding tree_at
good_20 = refl

good_21 : well_formed (Move (object_named 8) 17) ≡ true
good_21 = refl

good_22 : well_formed (Aim (whole 11) source.Null) ≡ true
good_22 = refl

good_23 : well_formed (Aim (whole 9) (source.Text 1)) ≡ true
good_23 = refl

good_24 : well_formed (Aim (whole 20) source.Empty) ≡ true
good_24 = refl

good_25 : well_formed (Aim (whole 12) (source.Place (object_named 21))) ≡ true
good_25 = refl

good_26 : well_formed (Aim (whole 12) (source.Place (behind 12))) ≡ true
good_26 = refl

good_27 : well_formed (Aim (whole 13) (source.Place (behind 11))) ≡ true
good_27 = refl

good_28 : well_formed (Aim (whole 16) (source.Whole (behind 18))) ≡ true
good_28 = refl

good_29 : well_formed (Aim (whole 9) (source.Whole (object_named 8))) ≡ true
good_29 = refl

good_30 : well_formed (Aim (whole 11) (source.Get (whole 14))) ≡ true
good_30 = refl

good_31 : well_formed (Aim (part 23 2) (source.Place (object_named 21))) ≡ true
good_31 = refl

good_32 : well_formed (Repoint (whole 12) (whole 11)) ≡ true
good_32 = refl

good_33 : well_formed (Repoint (whole 1) (whole 15)) ≡ true
good_33 = refl

good_34 : well_formed (Repoint (whole 9) (whole 26)) ≡ true
good_34 = refl

good_35 : well_formed (Repoint (part 23 2) (whole 11)) ≡ true
good_35 = refl

good_36 : well_formed (Element (whole 11) (source.Owner (object_named 10)) (which.Index 5)) ≡ true
good_36 = refl

good_37 : well_formed (Element (whole 12) (source.Owner (behind 18)) which.First) ≡ true
good_37 = refl

good_38 : well_formed (Element (whole 11) (source.Owner (object_named 14)) which.Target) ≡ true
good_38 = refl

good_39 : well_formed (Element (whole 12) (source.Pointer (whole 16)) (which.Index 5)) ≡ true
good_39 = refl

good_40 : well_formed (Cursor (whole 15) (source.Owner (object_named 10)) Begin) ≡ true
good_40 = refl

good_41 : well_formed (Cursor (whole 22) (source.Owner (behind 18)) Begin) ≡ true
good_41 = refl

good_42 : well_formed (Advance (whole 22) (whole 15) 3 Forward) ≡ true
good_42 = refl

good_43 : well_formed (Cut (whole 16) (whole 20) 5 (Some 27)) ≡ true
good_43 = refl

good_44 : well_formed (Cut (whole 9) (whole 26) 5 None) ≡ true
good_44 = refl

good_45 : well_formed (Size 5 (source.Owner (object_named 8))) ≡ true
good_45 = refl

good_46 : well_formed (Size 5 (source.Pointer (whole 9))) ≡ true
good_46 = refl

good_47 : well_formed (Same 6 (whole 15) (whole 22) true) ≡ true
good_47 = refl

good_48 : well_formed (Same 6 (whole 9) (whole 26) false) ≡ true
good_48 = refl

good_49 : well_formed (Changes (object_named 10) (PushBack 3)) ≡ true
good_49 = refl

good_50 : well_formed (Changes (object_named 8) (PushBack 7)) ≡ true
good_50 = refl

good_51 : well_formed (Changes (object_named 10) PopBack) ≡ true
good_51 = refl

good_52 : well_formed (Changes (object_named 8) Clear) ≡ true
good_52 = refl

good_53 : well_formed (Changes (object_named 10) (Reserve 5)) ≡ true
good_53 = refl

good_54 : well_formed (Changes (object_named 10) (Erase (whole 22) (whole 15))) ≡ true
good_54 = refl

good_55 : well_formed (Changes (object_named 8) (Set (View (whole 9)))) ≡ true
good_55 = refl

good_56 : well_formed (Changes (object_named 8) (Append (Single 7))) ≡ true
good_56 = refl

good_57 : well_formed (Make (whole 14) made.Null) ≡ true
good_57 = refl

good_58 : well_formed (Make (part 23 3) made.Zero) ≡ true
good_58 = refl

good_59 : well_formed (Make (whole 14) (made.Of 3)) ≡ true
good_59 = refl

good_60 : well_formed (Call (Some (whole 3)) (record { 0 = 0 }) (Value 19 ∷ Slot (whole 15) ∷ [])) ≡ true
good_60 = refl

good_61 : well_formed (Call (Some (whole 21)) (record { 0 = 0 }) (Value 19 ∷ Slot (whole 1) ∷ [])) ≡ true
good_61 = refl

good_62 : well_formed (Call None (record { 0 = 1 }) (GivenOver 17 ∷ PointerOf (whole 11) ∷ PointerOf (whole 18) ∷ [])) ≡ true
good_62 = refl

good_63 : well_formed (Call (Some (whole 12)) (record { 0 = 2 }) []) ≡ true
good_63 = refl

good_64 : well_formed (Ports (Writes 7)) ≡ true
good_64 = refl

good_65 : well_formed (Ports (WritesView (whole 9))) ≡ true
good_65 = refl

good_66 : well_formed (Ports (Takes 4)) ≡ true
good_66 = refl

-- ---- not well formed

-- a reference
bad_0 : well_formed (Live 13 Plain) ≡ false
bad_0 = refl

-- a register with a value
bad_1 : well_formed (Live 3 Plain) ≡ false
bad_1 = refl

-- no local
bad_2 : well_formed (Live 40 Plain) ≡ false
bad_2 = refl

-- the result
bad_3 : well_formed (End (2 ∷ [])) ≡ false
bad_3 = refl

-- a slot
bad_4 : well_formed (End (1 ∷ [])) ≡ false
bad_4 = refl

-- a register with a value
bad_5 : well_formed (End (3 ∷ [])) ≡ false
bad_5 = refl

-- an object
bad_6 : well_formed (Eval 21 (operation.Number (pos 7))) ≡ false
bad_6 = refl

-- a pointer
bad_7 : well_formed (Eval 11 (operation.Number (pos 0))) ≡ false
bad_7 = refl

-- an int as a long
bad_8 : well_formed (Eval 4 (operation.Negate 19)) ≡ false
bad_8 = refl

-- a char isn't promoted
bad_9 : well_formed (Eval 7 (operation.Negate 7)) ≡ false
bad_9 = refl

-- the answer is a bool
bad_10 : well_formed (Eval 3 (operation.IsZero 5)) ≡ false
bad_10 = refl

-- an int and a long
bad_11 : well_formed (Eval 3 (operation.Binary operator.Add 3 4)) ≡ false
bad_11 = refl

-- the answer is a bool
bad_12 : well_formed (Eval 3 (operation.Binary operator.Less 3 19)) ≡ false
bad_12 = refl

-- two chars
bad_13 : well_formed (Eval 7 (operation.Binary operator.Add 7 7)) ≡ false
bad_13 = refl

-- an int as a long
bad_14 : well_formed (Load 4 (object_named 21)) ≡ false
bad_14 = refl

-- a register is no place
bad_15 : well_formed (Load 3 (object_named 19)) ≡ false
bad_15 = refl

-- no pointer
bad_16 : well_formed (Load 3 (behind 21)) ≡ false
bad_16 = refl

-- no member
bad_17 : well_formed (Load 3 (member 23 4)) ≡ false
bad_17 = refl

-- through a pointer to const
bad_18 : well_formed (Save (behind 12) 3) ≡ false
bad_18 = refl

-- a long to an int
bad_19 : well_formed (Save (object_named 21) 4) ≡ false
bad_19 = refl

-- through a reference to const
bad_20 : well_formed (Copy (behind 18) (object_named 10)) ≡ false
unfolding tree_at
bad_20 = refl

-- it holds a unique_ptr
bad_21 : well_formed (Copy (object_named 23) (object_named 29)) ≡ false
unfolding tree_at
bad_21 = refl

-- two types
bad_22 : well_formed (Copy (object_named 8) (object_named 10)) ≡ false
bad_22 = refl

-- itself
bad_23 : well_formed (Move (object_named 8) 8) ≡ false
bad_23 = refl

-- through a reference to const
bad_24 : well_formed (Move (behind 18) 25) ≡ false
bad_24 = refl

-- no owner
bad_25 : well_formed (Move (object_named 21) 0) ≡ false
bad_25 = refl

-- a null reference
bad_26 : well_formed (Aim (whole 13) source.Null) ≡ false
bad_26 = refl

-- no text
bad_27 : well_formed (Aim (whole 9) (source.Text 2)) ≡ false
bad_27 = refl

-- a text is seen by a view
bad_28 : well_formed (Aim (whole 11) (source.Text 1)) ≡ false
bad_28 = refl

-- const is lost
bad_29 : well_formed (Aim (whole 11) (source.Place (behind 12))) ≡ false
bad_29 = refl

-- two types
bad_30 : well_formed (Aim (whole 11) (source.Place (object_named 8))) ≡ false
bad_30 = refl

-- const is lost
bad_31 : well_formed (Aim (whole 20) (source.Whole (behind 18))) ≡ false
bad_31 = refl

-- const is lost
bad_32 : well_formed (Repoint (whole 11) (whole 12)) ≡ false
bad_32 = refl

-- two kinds
bad_33 : well_formed (Repoint (whole 11) (whole 13)) ≡ false
bad_33 = refl

-- const is lost
bad_34 : well_formed (Repoint (whole 15) (whole 22)) ≡ false
bad_34 = refl

-- const is lost
bad_35 : well_formed (Element (whole 11) (source.Owner (behind 18)) which.First) ≡ false
bad_35 = refl

-- the index is a size
bad_36 : well_formed (Element (whole 11) (source.Owner (object_named 10)) (which.Index 4)) ≡ false
bad_36 = refl

-- an iterator is no base
bad_37 : well_formed (Element (whole 12) (source.Pointer (whole 15)) (which.Index 5)) ≡ false
bad_37 = refl

-- a unique_ptr has a target
bad_38 : well_formed (Element (whole 11) (source.Owner (object_named 14)) which.First) ≡ false
bad_38 = refl

-- const is lost
bad_39 : well_formed (Cursor (whole 15) (source.Owner (behind 18)) Begin) ≡ false
bad_39 = refl

-- an iterator is no base
bad_40 : well_formed (Cursor (whole 22) (source.Pointer (whole 15)) Begin) ≡ false
bad_40 = refl

-- const is lost
bad_41 : well_formed (Advance (whole 15) (whole 22) 3 Forward) ≡ false
bad_41 = refl

-- raw pointers don't move
bad_42 : well_formed (Advance (whole 11) (whole 11) 3 Forward) ≡ false
bad_42 = refl

-- const is lost
bad_43 : well_formed (Cut (whole 20) (whole 16) 5 None) ≡ false
bad_43 = refl

-- the index is a size
bad_44 : well_formed (Cut (whole 9) (whole 26) 4 None) ≡ false
bad_44 = refl

-- the answer is a size
bad_45 : well_formed (Size 4 (source.Owner (object_named 8))) ≡ false
bad_45 = refl

-- a unique_ptr has no length
bad_46 : well_formed (Size 5 (source.Owner (object_named 14))) ≡ false
bad_46 = refl

-- raw pointers
bad_47 : well_formed (Same 6 (whole 11) (whole 12) true) ≡ false
bad_47 = refl

-- the answer is a bool
bad_48 : well_formed (Same 3 (whole 15) (whole 22) true) ≡ false
bad_48 = refl

-- through a reference to const
bad_49 : well_formed (Changes (behind 18) Clear) ≡ false
bad_49 = refl

-- a string
bad_50 : well_formed (Changes (object_named 8) PopBack) ≡ false
bad_50 = refl

-- a long
bad_51 : well_formed (Changes (object_named 10) (PushBack 4)) ≡ false
bad_51 = refl

-- no owner
bad_52 : well_formed (Changes (object_named 21) Clear) ≡ false
bad_52 = refl

-- no unique_ptr
bad_53 : well_formed (Make (whole 11) made.Null) ≡ false
bad_53 = refl

-- a long
bad_54 : well_formed (Make (whole 14) (made.Of 4)) ≡ false
bad_54 = refl

-- no function
bad_55 : well_formed (Call (Some (whole 3)) (record { 0 = 9 }) []) ≡ false
bad_55 = refl

-- too few
bad_56 : well_formed (Call (Some (whole 3)) (record { 0 = 0 }) (Value 19 ∷ [])) ≡ false
bad_56 = refl

-- an int as a long
bad_57 : well_formed (Call (Some (whole 4)) (record { 0 = 0 }) (Value 19 ∷ Slot (whole 15) ∷ [])) ≡ false
bad_57 = refl

-- the result goes nowhere
bad_58 : well_formed (Call None (record { 0 = 0 }) (Value 19 ∷ Slot (whole 15) ∷ [])) ≡ false
bad_58 = refl

-- another type than the slot's
bad_59 : well_formed (Call (Some (whole 3)) (record { 0 = 0 }) (Value 19 ∷ Slot (whole 22) ∷ [])) ≡ false
bad_59 = refl

-- const is lost
bad_60 : well_formed (Call None (record { 0 = 1 }) (GivenOver 17 ∷ PointerOf (whole 12) ∷ PointerOf (whole 18) ∷ [])) ≡ false
bad_60 = refl

-- no string
bad_61 : well_formed (Call None (record { 0 = 1 }) (GivenOver 3 ∷ PointerOf (whole 11) ∷ PointerOf (whole 18) ∷ [])) ≡ false
bad_61 = refl

-- const is lost
bad_62 : well_formed (Call (Some (whole 11)) (record { 0 = 2 }) []) ≡ false
bad_62 = refl

-- a pointer
bad_63 : well_formed (Ports (Writes 11)) ≡ false
bad_63 = refl

-- no view
bad_64 : well_formed (Ports (WritesView (whole 16))) ≡ false
bad_64 = refl

-- the input is a long
bad_65 : well_formed (Ports (Takes 3)) ≡ false
bad_65 = refl

-- too many
bad_66 : well_formed (Call (Some (whole 3)) (record { 0 = 0 }) (Value 19 ∷ Slot (whole 15) ∷ Value 19 ∷ [])) ≡ false
bad_66 = refl

-- a pointer as an int
bad_67 : well_formed (Call (Some (whole 3)) (record { 0 = 0 }) (PointerOf (whole 11) ∷ Slot (whole 15) ∷ [])) ≡ false
bad_67 = refl

-- nothing comes of it
bad_68 : well_formed (Call (Some (whole 3)) (record { 0 = 1 }) (GivenOver 17 ∷ PointerOf (whole 11) ∷ PointerOf (whole 18) ∷ [])) ≡ false
bad_68 = refl
