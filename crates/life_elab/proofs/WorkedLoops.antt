-- Temporaries and loops over ranges, worked out by hand: what is translated, and where its locals stand.
use Rattle.std.proofs.Common.{◌≡◌, [], ◌∷◌, Some, None, refl}
use Rattle.std.specs.Prelude.{true, false, pos}
use Rattle.life_typed.specs.declared.typed_expr.BinaryOperator.TheVariants as binary
use Rattle.life_tree.specs.declared.operator.CompoundOperator.TheVariants as compound
use Rattle.life_core.specs.declared.instr.Direction.TheVariants as direction
use Rattle.life_typed.specs.TypedForm as form
use Rattle.life_core.specs.declared.instr.Form.TheVariants as life
use Rattle.life_core.specs.Operands as operands
use Rattle.life_core.specs.declared.operation.Operation.TheVariants as operation
use Rattle.life_core.specs.declared.operation.Operator.TheVariants as operator
use Rattle.life_core.specs.declared.operand.RangeEnd.TheVariants as range_end
use Rattle.life_core.specs.Step as step
use Rattle.life_typed.specs.TypedStatement as stmt
use Rattle.life_core.specs.Tree as tree
use Rattle.life_types.specs.declared.ty.Ty.TheVariants as ty
use Rattle.life_typed.specs.TypedForm.{◌⨟◌}
use Rattle.life_typed.specs.Programs.{FunctionForm, ProgramForm}
use Rattle.life_core.specs.Operands.{whole}
use Rattle.life_core.specs.Tree.{Tree, trees}
use Rattle.life_elab.specs.ProgramForms.{translated}
use Rattle.life_elab.proofs.WorkedTrees.{value, place, literal, closed, of, variable, several, name, function, declared, program, object, id, at, bodies, places}

-- ---- int g(bool a, int b) { return b; } std::string m() { return "a"; } int f(bool c) { return g(c && m() == "a", 2); }

abbrev comma_0 : FunctionForm
comma_0 = function 5 3 2 (declared 1 12 1 false ∷ declared 2 19 3 false ∷ []) (several (
    (stmt.returned (at 24) (Some (of (place 31 ty.Int 3 false (form.local 1)))) (at 32))
    ∷ [])) 34

abbrev comma_1 : FunctionForm
comma_1 = function 48 6 0 ([]) (several (
    (stmt.returned (at 54) (Some (of (literal 61 0))) (at 64))
    ∷ [])) 66

abbrev comma_2 : FunctionForm
comma_2 = function 72 3 1 (declared 5 79 1 false ∷ []) (several (
    (stmt.returned (at 84)
    (Some
    (of
    (value 91 ty.Int
    (form.call 0
    (
    (value 95 ty.Bool
    (form.binary binary.And
    (place 93 ty.Bool 1 false (form.local 0))
    (value 102 ty.Bool (form.binary binary.Equal (value 98 ty.Text (form.call 1 form.nothing (closed ([]) 100))) (literal 105 0))))) ⨟
    ((value 110 ty.Int (form.number 2)) ⨟ form.nothing)) (closed (at 108 ∷ []) 111))))) (at 112))
    ∷ [])) 114

abbrev comma : ProgramForm
comma = program 1 ([]) ([]) (comma_0 ∷ comma_1 ∷ comma_2 ∷ [])

abbrev comma_0_core : Tree
comma_0_core = trees (
    tree.Acts (at 31) (step.Load 2 (object 1))
    ∷ tree.Acts (at 24) (step.End (1 ∷ 0 ∷ []))
    ∷ tree.Returns (at 24)
    ∷ [])

abbrev comma_1_core : Tree
comma_1_core = trees (
    tree.Acts (at 61) (step.Aim (whole 1) (operands.Text 0))
    ∷ tree.Acts (at 54) (step.Live 0 life.Plain)
    ∷ tree.Acts (at 54) (step.Changes (object 0) (step.Set (operands.View (whole 1))))
    ∷ tree.Returns (at 54)
    ∷ [])

abbrev comma_2_core : Tree
comma_2_core = trees (
    tree.Choice
    (tree.Both
    (tree.Then (trees (tree.Acts (at 93) (step.Load 2 (object 0)) ∷ [])) (tree.Asks (at 93) (step.NonZero 2)))
    (tree.Then
    (trees (
    tree.Acts (at 98) (step.Call (Some (whole 3)) (record { 0 = 1 }) ([]))
    ∷ tree.Acts (at 105) (step.Aim (whole 4) (operands.Text 0))
    ∷ tree.Acts (at 98) (step.Aim (whole 5) (operands.Whole (object 3)))
    ∷ tree.Acts (at 102) (step.Same 6 (whole 5) (whole 4) true)
    ∷ tree.Acts (at 108) (step.End (3 ∷ []))
    ∷ [])) (tree.Asks (at 102) (step.NonZero 6))))
    (trees (tree.Acts (at 95) (step.Eval 7 (operation.Number (pos 1))) ∷ []))
    (trees (tree.Acts (at 95) (step.Eval 7 (operation.Number (pos 0))) ∷ []))
    ∷ tree.Acts (at 110) (step.Eval 8 (operation.Number (pos 2)))
    ∷ tree.Acts (at 91) (step.Call (Some (whole 1)) (record { 0 = 0 }) ((operands.Value 7) ∷ (operands.Value 8) ∷ []))
    ∷ tree.Acts (at 84) (step.End (0 ∷ []))
    ∷ tree.Returns (at 84)
    ∷ [])

comma_is : bodies (translated comma) ≡ comma_0_core ∷ comma_1_core ∷ comma_2_core ∷ []
comma_is = refl

comma_stands : places (translated comma) ≡ (at 12 ∷ at 19 ∷ at 5 ∷ []) ∷ (at 48 ∷ at 61 ∷ []) ∷ (at 79 ∷ at 72 ∷ at 93 ∷ at 98 ∷ at 105 ∷ at 98 ∷ at 102 ∷ at 95 ∷ at 110 ∷ []) ∷ []
comma_stands = refl

-- ---- std::string m() { return "a"; } void f() { while (m() == "b") { } assert(m() == "a"); for (; ; m()) { break; } }

abbrev loops_0 : FunctionForm
loops_0 = function 13 6 0 ([]) (several (
    (stmt.returned (at 19) (Some (of (literal 26 0))) (at 29))
    ∷ [])) 31

abbrev loops_1 : FunctionForm
loops_1 = function 38 0 0 ([]) (several (
    (stmt.while_loop (at 44)
    (of (value 55 ty.Bool (form.binary binary.Equal (value 51 ty.Text (form.call 0 form.nothing (closed ([]) 53))) (literal 58 1)))) (at 61) (stmt.block (several ([])) (at 65)))
    ∷ (stmt.assertion (at 67)
    (of (value 78 ty.Bool (form.binary binary.Equal (value 74 ty.Text (form.call 0 form.nothing (closed ([]) 76))) (literal 81 0)))) (at 84) (at 85))
    ∷ (stmt.for_loop (at 87) None (at 92) None (at 94)
    (Some (stmt.discarded (of (value 96 ty.Text (form.call 0 form.nothing (closed ([]) 98)))))) (at 99)
    (stmt.block (several ((stmt.loop_break (at 103) (at 108)) ∷ [])) (at 110)))
    ∷ [])) 112

abbrev loops : ProgramForm
loops = program 2 ([]) ([]) (loops_0 ∷ loops_1 ∷ [])

abbrev loops_0_core : Tree
loops_0_core = trees (
    tree.Acts (at 26) (step.Aim (whole 1) (operands.Text 0))
    ∷ tree.Acts (at 19) (step.Live 0 life.Plain)
    ∷ tree.Acts (at 19) (step.Changes (object 0) (step.Set (operands.View (whole 1))))
    ∷ tree.Returns (at 19)
    ∷ [])

abbrev loops_1_core : Tree
loops_1_core = trees (
    tree.Turns
    (tree.Then
    (trees (
    tree.Acts (at 51) (step.Call (Some (whole 0)) (record { 0 = 0 }) ([]))
    ∷ tree.Acts (at 58) (step.Aim (whole 1) (operands.Text 1))
    ∷ tree.Acts (at 51) (step.Aim (whole 2) (operands.Whole (object 0)))
    ∷ tree.Acts (at 55) (step.Same 3 (whole 2) (whole 1) true)
    ∷ tree.Acts (at 61) (step.End (0 ∷ []))
    ∷ [])) (tree.Asks (at 55) (step.NonZero 3))) (trees ([])) (trees ([]))
    ∷ tree.Choice
    (tree.Then
    (trees (
    tree.Acts (at 74) (step.Call (Some (whole 4)) (record { 0 = 0 }) ([]))
    ∷ tree.Acts (at 81) (step.Aim (whole 5) (operands.Text 0))
    ∷ tree.Acts (at 74) (step.Aim (whole 6) (operands.Whole (object 4)))
    ∷ tree.Acts (at 78) (step.Same 7 (whole 6) (whole 5) true)
    ∷ tree.Acts (at 84) (step.End (4 ∷ []))
    ∷ [])) (tree.Asks (at 78) (step.NonZero 7))) (trees ([])) (tree.Stops (at 67))
    ∷ tree.Turns
    (tree.Then (trees (tree.Acts (at 87) (step.Eval 8 (operation.Number (pos 1))) ∷ [])) (tree.Asks (at 87) (step.NonZero 8))) (trees (tree.Breaks ∷ []))
    (trees (tree.Acts (at 96) (step.Call (Some (whole 9)) (record { 0 = 0 }) ([])) ∷ tree.Acts (at 99) (step.End (9 ∷ [])) ∷ []))
    ∷ tree.Returns (at 112)
    ∷ [])

loops_is : bodies (translated loops) ≡ loops_0_core ∷ loops_1_core ∷ []
loops_is = refl

loops_stands : places (translated loops) ≡ (at 13 ∷ at 26 ∷ []) ∷ (at 51 ∷ at 58 ∷ at 51 ∷ at 55 ∷ at 74 ∷ at 81 ∷ at 74 ∷ at 78 ∷ at 87 ∷ at 96 ∷ []) ∷ []
loops_stands = refl

-- ---- int main() { std::vector<int> v = {1, 2}; int t = 0; for (int x : v) { t += x; } return t; }

abbrev over_vector_0 : FunctionForm
over_vector_0 = function 5 3 0 (declared 1 31 8 false ∷ declared 2 47 3 false ∷ declared 3 63 3 false ∷ []) (several (
    (stmt.declaration
    (variable 0 1 31
    (Some
    (stmt.several (
    record {
      opening = at 35;
      elements = (of (value 36 ty.Int (form.number 1)))
          ∷ (of (value 39 ty.Int (form.number 2)))
          ∷ [];
      delimiters = (closed (at 37 ∷ []) 40);
    })))) (at 41))
    ∷ (stmt.declaration (variable 1 2 47 (Some (stmt.one (of (value 51 ty.Int (form.number 0)))))) (at 52))
    ∷ (stmt.range_loop (at 54) 2 (name 3 63) (at 65)
    (of (place 67 (ty.Vector (id 3)) 8 false (form.local 0))) (at 68)
    (stmt.block
    (several (
    (stmt.sentence
    (stmt.compound (of (place 72 ty.Int 3 false (form.local 1))) compound.Add (at 74) (of (place 77 ty.Int 3 false (form.local 2)))) (at 78))
    ∷ [])) (at 80)))
    ∷ (stmt.returned (at 82) (Some (of (place 89 ty.Int 3 false (form.local 1)))) (at 90))
    ∷ [])) 92

abbrev over_vector : ProgramForm
over_vector = program 0 ((ty.Vector (id 3)) ∷ []) ([]) (over_vector_0 ∷ [])

abbrev over_vector_0_core : Tree
over_vector_0_core = trees (
    tree.Acts (at 31) (step.Live 1 life.Plain)
    ∷ tree.Acts (at 35) (step.Eval 2 (operation.Number (pos 2)))
    ∷ tree.Acts (at 35) (step.Changes (object 1) (step.Reserve 2))
    ∷ tree.Acts (at 36) (step.Eval 3 (operation.Number (pos 1)))
    ∷ tree.Acts (at 36) (step.Changes (object 1) (step.PushBack 3))
    ∷ tree.Acts (at 39) (step.Eval 4 (operation.Number (pos 2)))
    ∷ tree.Acts (at 39) (step.Changes (object 1) (step.PushBack 4))
    ∷ tree.Acts (at 51) (step.Eval 5 (operation.Number (pos 0)))
    ∷ tree.Acts (at 47) (step.Live 6 life.Plain)
    ∷ tree.Acts (at 47) (step.Save (object 6) 5)
    ∷ tree.Acts (at 65) (step.Aim (whole 7) (operands.Place (object 1)))
    ∷ tree.Acts (at 65) (step.Cursor (whole 8) (operands.Owner (operands.Through (whole 7) ([]))) range_end.Begin)
    ∷ tree.Acts (at 65) (step.Cursor (whole 9) (operands.Owner (operands.Through (whole 7) ([]))) range_end.End)
    ∷ tree.Turns
    (tree.Then (trees (tree.Acts (at 65) (step.Same 10 (whole 8) (whole 9) false) ∷ [])) (tree.Asks (at 65) (step.NonZero 10)))
    (trees (
    tree.Acts (at 65) (step.Load 11 (operands.Through (whole 8) ([])))
    ∷ tree.Acts (at 63) (step.Live 12 life.Plain)
    ∷ tree.Acts (at 63) (step.Save (object 12) 11)
    ∷ tree.Acts (at 77) (step.Load 13 (object 12))
    ∷ tree.Acts (at 72) (step.Load 14 (object 6))
    ∷ tree.Acts (at 74) (step.Eval 15 (operation.Binary operator.Add 14 13))
    ∷ tree.Acts (at 74) (step.Save (object 6) 15)
    ∷ tree.Acts (at 80) (step.End (12 ∷ []))
    ∷ []))
    (trees (
    tree.Acts (at 65) (step.Eval 16 (operation.Number (pos 1))) ∷ tree.Acts (at 65) (step.Advance (whole 8) (whole 8) 16 direction.Forward) ∷ []))
    ∷ tree.Acts (at 89) (step.Load 0 (object 6))
    ∷ tree.Acts (at 82) (step.End (6 ∷ 1 ∷ []))
    ∷ tree.Returns (at 82)
    ∷ [])

over_vector_is : bodies (translated over_vector) ≡ over_vector_0_core ∷ []
over_vector_is = refl

over_vector_stands : places (translated over_vector) ≡ (at 5 ∷ at 31 ∷ at 35 ∷ at 36 ∷ at 39 ∷ at 51 ∷ at 47 ∷ at 65 ∷ at 65 ∷ at 65 ∷ at 65 ∷ at 65 ∷ at 63 ∷ at 77 ∷ at 72 ∷ at 74 ∷ at 65 ∷ []) ∷ []
over_vector_stands = refl

-- ---- std::vector<int> m(std::vector<int> v) { return v; } int f(std::vector<int> w) { int t = 0; for (int x : m(w)) { if (x > 1) { break; } if (x < 0) { continue; } if (x == 1) { return t; } t += x; } return t; }

abbrev over_temporary_0 : FunctionForm
over_temporary_0 = function 18 8 1 (declared 1 37 8 false ∷ []) (several (
    (stmt.returned (at 42) (Some (of (place 49 (ty.Vector (id 3)) 8 false (form.local 0)))) (at 50))
    ∷ [])) 52

abbrev over_temporary_1 : FunctionForm
over_temporary_1 = function 58 3 1 (declared 3 77 8 false ∷ declared 4 86 3 false ∷ declared 5 102 3 false ∷ []) (several (
    (stmt.declaration (variable 1 4 86 (Some (stmt.one (of (value 90 ty.Int (form.number 0)))))) (at 91))
    ∷ (stmt.range_loop (at 93) 2 (name 5 102) (at 104)
    (of (value 106 (ty.Vector (id 3)) (form.call 0 ((place 108 (ty.Vector (id 3)) 8 false (form.local 0)) ⨟ form.nothing) (closed ([]) 109)))) (at 110)
    (stmt.block
    (several (
    (stmt.branching
    (several (
    (stmt.branch (at 114)
    (of
    (value 120 ty.Bool
    (form.binary binary.Greater (place 118 ty.Int 3 false (form.local 2)) (value 122 ty.Int (form.number 1))))) (at 123)
    (stmt.block (several ((stmt.loop_break (at 127) (at 132)) ∷ [])) (at 134)))
    ∷ [])) stmt.no_more)
    ∷ (stmt.branching
    (several (
    (stmt.branch (at 136)
    (of
    (value 142 ty.Bool (form.binary binary.Less (place 140 ty.Int 3 false (form.local 2)) (value 144 ty.Int (form.number 0))))) (at 145)
    (stmt.block (several ((stmt.loop_continue (at 149) (at 157)) ∷ [])) (at 159)))
    ∷ [])) stmt.no_more)
    ∷ (stmt.branching
    (several (
    (stmt.branch (at 161)
    (of
    (value 167 ty.Bool (form.binary binary.Equal (place 165 ty.Int 3 false (form.local 2)) (value 170 ty.Int (form.number 1))))) (at 171)
    (stmt.block (several ((stmt.returned (at 175) (Some (of (place 182 ty.Int 3 false (form.local 1)))) (at 183)) ∷ [])) (at 185)))
    ∷ [])) stmt.no_more)
    ∷ (stmt.sentence
    (stmt.compound (of (place 187 ty.Int 3 false (form.local 1))) compound.Add (at 189) (of (place 192 ty.Int 3 false (form.local 2)))) (at 193))
    ∷ [])) (at 195)))
    ∷ (stmt.returned (at 197) (Some (of (place 204 ty.Int 3 false (form.local 1)))) (at 205))
    ∷ [])) 207

abbrev over_temporary : ProgramForm
over_temporary = program 0 ((ty.Vector (id 3)) ∷ []) ([]) (over_temporary_0 ∷ over_temporary_1 ∷ [])

abbrev over_temporary_0_core : Tree
over_temporary_0_core = trees (
    tree.Acts (at 42) (step.Live 1 life.Plain)
    ∷ tree.Acts (at 42) (step.Move (object 1) 0)
    ∷ tree.Acts (at 42) (step.End (0 ∷ []))
    ∷ tree.Returns (at 42)
    ∷ [])

abbrev over_temporary_1_core : Tree
over_temporary_1_core = trees (
    tree.Acts (at 90) (step.Eval 2 (operation.Number (pos 0)))
    ∷ tree.Acts (at 86) (step.Live 3 life.Plain)
    ∷ tree.Acts (at 86) (step.Save (object 3) 2)
    ∷ tree.Acts (at 108) (step.Live 4 life.Plain)
    ∷ tree.Acts (at 108) (step.Copy (object 4) (object 0))
    ∷ tree.Acts (at 106) (step.Call (Some (whole 5)) (record { 0 = 0 }) ((operands.GivenOver 4) ∷ []))
    ∷ tree.Acts (at 104) (step.Aim (whole 6) (operands.Place (object 5)))
    ∷ tree.Acts (at 104) (step.Cursor (whole 7) (operands.Owner (operands.Through (whole 6) ([]))) range_end.Begin)
    ∷ tree.Acts (at 104) (step.Cursor (whole 8) (operands.Owner (operands.Through (whole 6) ([]))) range_end.End)
    ∷ tree.Turns
    (tree.Then (trees (tree.Acts (at 104) (step.Same 9 (whole 7) (whole 8) false) ∷ [])) (tree.Asks (at 104) (step.NonZero 9)))
    (trees (
    tree.Acts (at 104) (step.Load 10 (operands.Through (whole 7) ([])))
    ∷ tree.Acts (at 102) (step.Live 11 life.Plain)
    ∷ tree.Acts (at 102) (step.Save (object 11) 10)
    ∷ tree.Choice
    (tree.Then
    (trees (
    tree.Acts (at 118) (step.Load 12 (object 11))
    ∷ tree.Acts (at 122) (step.Eval 13 (operation.Number (pos 1)))
    ∷ tree.Acts (at 120) (step.Eval 14 (operation.Binary operator.Greater 12 13))
    ∷ [])) (tree.Asks (at 120) (step.NonZero 14)))
    (trees (tree.Acts (at 127) (step.End (11 ∷ [])) ∷ tree.Breaks ∷ [])) (trees ([]))
    ∷ tree.Choice
    (tree.Then
    (trees (
    tree.Acts (at 140) (step.Load 15 (object 11))
    ∷ tree.Acts (at 144) (step.Eval 16 (operation.Number (pos 0)))
    ∷ tree.Acts (at 142) (step.Eval 17 (operation.Binary operator.Less 15 16))
    ∷ [])) (tree.Asks (at 142) (step.NonZero 17)))
    (trees (tree.Acts (at 149) (step.End (11 ∷ [])) ∷ tree.Continues ∷ [])) (trees ([]))
    ∷ tree.Choice
    (tree.Then
    (trees (
    tree.Acts (at 165) (step.Load 18 (object 11))
    ∷ tree.Acts (at 170) (step.Eval 19 (operation.Number (pos 1)))
    ∷ tree.Acts (at 167) (step.Eval 20 (operation.Binary operator.Equal 18 19))
    ∷ [])) (tree.Asks (at 167) (step.NonZero 20)))
    (trees (tree.Acts (at 182) (step.Load 1 (object 3)) ∷ tree.Acts (at 175) (step.End (11 ∷ 5 ∷ 3 ∷ 0 ∷ [])) ∷ tree.Returns (at 175) ∷ [])) (trees ([]))
    ∷ tree.Acts (at 192) (step.Load 21 (object 11))
    ∷ tree.Acts (at 187) (step.Load 22 (object 3))
    ∷ tree.Acts (at 189) (step.Eval 23 (operation.Binary operator.Add 22 21))
    ∷ tree.Acts (at 189) (step.Save (object 3) 23)
    ∷ tree.Acts (at 195) (step.End (11 ∷ []))
    ∷ []))
    (trees (
    tree.Acts (at 104) (step.Eval 24 (operation.Number (pos 1)))
    ∷ tree.Acts (at 104) (step.Advance (whole 7) (whole 7) 24 direction.Forward)
    ∷ []))
    ∷ tree.Acts (at 195) (step.End (5 ∷ []))
    ∷ tree.Acts (at 204) (step.Load 1 (object 3))
    ∷ tree.Acts (at 197) (step.End (3 ∷ 0 ∷ []))
    ∷ tree.Returns (at 197)
    ∷ [])

over_temporary_is : bodies (translated over_temporary) ≡ over_temporary_0_core ∷ over_temporary_1_core ∷ []
over_temporary_is = refl

over_temporary_stands : places (translated over_temporary) ≡ (at 37 ∷ at 18 ∷ []) ∷ (at 77 ∷ at 58 ∷ at 90 ∷ at 86 ∷ at 108 ∷ at 106 ∷ at 104 ∷ at 104 ∷ at 104 ∷ at 104 ∷ at 104 ∷ at 102 ∷ at 118 ∷ at 122 ∷ at 120 ∷ at 140 ∷ at 144 ∷ at 142 ∷ at 165 ∷ at 170 ∷ at 167 ∷ at 192 ∷ at 187 ∷ at 189 ∷ at 104 ∷ []) ∷ []
over_temporary_stands = refl
