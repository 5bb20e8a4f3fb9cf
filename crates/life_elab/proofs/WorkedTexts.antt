-- Strings, views and literals, worked out by hand: what is translated, and where its locals stand.
use Rattle.std.proofs.Common.{◌≡◌, [], ◌∷◌, Some, None, refl}
use Rattle.std.specs.Prelude.{true, false, pos}
use Rattle.life_typed.specs.declared.typed_expr.BinaryOperator.TheVariants as binary
use Rattle.life_typed.specs.TypedForm as form
use Rattle.life_core.specs.declared.instr.Form.TheVariants as life
use Rattle.life_typed.specs.declared.typed_expr.Method.TheVariants as method
use Rattle.life_core.specs.Operands as operands
use Rattle.life_core.specs.declared.operation.Operation.TheVariants as operation
use Rattle.life_core.specs.Step as step
use Rattle.life_typed.specs.TypedStatement as stmt
use Rattle.life_core.specs.Tree as tree
use Rattle.life_types.specs.declared.ty.Ty.TheVariants as ty
use Rattle.life_core.specs.declared.operand.Which.TheVariants as which
use Rattle.life_typed.specs.TypedForm.{◌⨟◌}
use Rattle.life_typed.specs.Programs.{FunctionForm, ProgramForm}
use Rattle.life_core.specs.Operands.{whole}
use Rattle.life_core.specs.Tree.{Tree, trees}
use Rattle.life_elab.specs.ProgramForms.{translated}
use Rattle.life_elab.proofs.WorkedTrees.{value, place, literal, closed, of, variable, several, function, declared, program, object, at, bodies, places}

-- ---- void f() { std::string s = "ab"; }

abbrev from_literal_0 : FunctionForm
from_literal_0 = function 6 0 0 (declared 1 24 6 false ∷ []) (several (
    (stmt.declaration (variable 0 1 24 (Some (stmt.one (of (literal 28 0))))) (at 32))
    ∷ [])) 34

abbrev from_literal : ProgramForm
from_literal = program 1 ([]) ([]) (from_literal_0 ∷ [])

abbrev from_literal_0_core : Tree
from_literal_0_core = trees (
    tree.Acts (at 28) (step.Aim (whole 0) (operands.Text 0))
    ∷ tree.Acts (at 24) (step.Live 1 life.Plain)
    ∷ tree.Acts (at 24) (step.Changes (object 1) (step.Set (operands.View (whole 0))))
    ∷ tree.Acts (at 34) (step.End (1 ∷ []))
    ∷ tree.Returns (at 34)
    ∷ [])

from_literal_is : bodies (translated from_literal) ≡ from_literal_0_core ∷ []
from_literal_is = refl

from_literal_stands : places (translated from_literal) ≡ (at 28 ∷ at 24 ∷ []) ∷ []
from_literal_stands = refl

-- ---- int main() { std::string a = "x"; std::string s = a + a; std::string_view v = s; return v.size(); }

abbrev sum_0 : FunctionForm
sum_0 = function 5 3 0 (declared 1 26 6 false ∷ declared 2 47 6 false ∷ declared 3 75 7 false ∷ []) (several (
    (stmt.declaration (variable 0 1 26 (Some (stmt.one (of (literal 30 0))))) (at 33))
    ∷ (stmt.declaration
    (variable 1 2 47
    (Some
    (stmt.one
    (of (value 53 ty.Text (form.binary binary.Add (place 51 ty.Text 6 false (form.local 0)) (place 55 ty.Text 6 false (form.local 0)))))))) (at 56))
    ∷ (stmt.declaration (variable 2 3 75 (Some (stmt.one (of (place 79 ty.Text 6 false (form.local 1)))))) (at 80))
    ∷ (stmt.returned (at 82)
    (Some (of (value 91 ty.Size (form.method (place 89 ty.View 7 false (form.local 2)) method.Size form.nothing (closed ([]) 96))))) (at 97))
    ∷ [])) 99

abbrev sum : ProgramForm
sum = program 1 ([]) ([]) (sum_0 ∷ [])

abbrev sum_0_core : Tree
sum_0_core = trees (
    tree.Acts (at 30) (step.Aim (whole 1) (operands.Text 0))
    ∷ tree.Acts (at 26) (step.Live 2 life.Plain)
    ∷ tree.Acts (at 26) (step.Changes (object 2) (step.Set (operands.View (whole 1))))
    ∷ tree.Acts (at 47) (step.Live 3 life.Plain)
    ∷ tree.Acts (at 51) (step.Aim (whole 4) (operands.Whole (object 2)))
    ∷ tree.Acts (at 53) (step.Changes (object 3) (step.Set (operands.View (whole 4))))
    ∷ tree.Acts (at 55) (step.Aim (whole 5) (operands.Whole (object 2)))
    ∷ tree.Acts (at 53) (step.Changes (object 3) (step.Append (operands.View (whole 5))))
    ∷ tree.Acts (at 79) (step.Aim (whole 6) (operands.Whole (object 3)))
    ∷ tree.Acts (at 91) (step.Size 7 (operands.Pointer (whole 6)))
    ∷ tree.Acts (at 91) (step.Eval 0 (operation.Convert 7))
    ∷ tree.Acts (at 82) (step.End (6 ∷ 3 ∷ 2 ∷ []))
    ∷ tree.Returns (at 82)
    ∷ [])

sum_is : bodies (translated sum) ≡ sum_0_core ∷ []
sum_is = refl

sum_stands : places (translated sum) ≡ (at 5 ∷ at 30 ∷ at 26 ∷ at 47 ∷ at 51 ∷ at 55 ∷ at 75 ∷ at 91 ∷ []) ∷ []
sum_stands = refl

-- ---- void f(std::string s, std::string t) { s = "x"; s = t; s = 'a' + s; }

abbrev assigned_0 : FunctionForm
assigned_0 = function 6 0 2 (declared 1 20 6 false ∷ declared 2 35 6 false ∷ []) (several (
    (stmt.sentence (stmt.assign (of (place 40 ty.Text 6 false (form.local 0))) (at 42) (stmt.one (of (literal 44 0)))) (at 47))
    ∷ (stmt.sentence
    (stmt.assign (of (place 49 ty.Text 6 false (form.local 0))) (at 51) (stmt.one (of (place 53 ty.Text 6 false (form.local 1))))) (at 54))
    ∷ (stmt.sentence
    (stmt.assign
    (of (place 56 ty.Text 6 false (form.local 0))) (at 58)
    (stmt.one (of (value 64 ty.Text (form.binary binary.Add (value 60 ty.Char (form.character 97)) (place 66 ty.Text 6 false (form.local 0))))))) (at 67))
    ∷ [])) 69

abbrev assigned : ProgramForm
assigned = program 1 ([]) ([]) (assigned_0 ∷ [])

abbrev assigned_0_core : Tree
assigned_0_core = trees (
    tree.Acts (at 44) (step.Aim (whole 2) (operands.Text 0))
    ∷ tree.Acts (at 44) (step.Live 3 life.Plain)
    ∷ tree.Acts (at 44) (step.Changes (object 3) (step.Set (operands.View (whole 2))))
    ∷ tree.Acts (at 42) (step.Move (object 0) 3)
    ∷ tree.Acts (at 47) (step.End (3 ∷ []))
    ∷ tree.Acts (at 51) (step.Copy (object 0) (object 1))
    ∷ tree.Acts (at 60) (step.Eval 4 (operation.Number (pos 97)))
    ∷ tree.Acts (at 64) (step.Live 5 life.Plain)
    ∷ tree.Acts (at 64) (step.Changes (object 5) (step.Set (operands.Single 4)))
    ∷ tree.Acts (at 66) (step.Aim (whole 6) (operands.Whole (object 0)))
    ∷ tree.Acts (at 64) (step.Changes (object 5) (step.Append (operands.View (whole 6))))
    ∷ tree.Acts (at 58) (step.Move (object 0) 5)
    ∷ tree.Acts (at 67) (step.End (5 ∷ []))
    ∷ tree.Acts (at 69) (step.End (1 ∷ 0 ∷ []))
    ∷ tree.Returns (at 69)
    ∷ [])

assigned_is : bodies (translated assigned) ≡ assigned_0_core ∷ []
assigned_is = refl

assigned_stands : places (translated assigned) ≡ (at 20 ∷ at 35 ∷ at 44 ∷ at 44 ∷ at 60 ∷ at 64 ∷ at 66 ∷ []) ∷ []
assigned_stands = refl

-- ---- bool f(std::string s, std::string_view v) { bool b = "x" == v; b = s != v; return s == "x"; }

abbrev compared_0 : FunctionForm
compared_0 = function 6 1 2 (declared 1 20 6 false ∷ declared 2 40 7 false ∷ declared 3 50 1 false ∷ []) (several (
    (stmt.declaration
    (variable 2 3 50 (Some (stmt.one (of (value 58 ty.Bool (form.binary binary.Equal (literal 54 0) (place 61 ty.View 7 false (form.local 1)))))))) (at 62))
    ∷ (stmt.sentence
    (stmt.assign
    (of (place 64 ty.Bool 1 false (form.local 2))) (at 66)
    (stmt.one
    (of (value 70 ty.Bool (form.binary binary.NotEqual (place 68 ty.Text 6 false (form.local 0)) (place 73 ty.View 7 false (form.local 1))))))) (at 74))
    ∷ (stmt.returned (at 76) (Some (of (value 85 ty.Bool (form.binary binary.Equal (place 83 ty.Text 6 false (form.local 0)) (literal 88 0))))) (at 91))
    ∷ [])) 93

abbrev compared : ProgramForm
compared = program 1 ([]) ([]) (compared_0 ∷ [])

abbrev compared_0_core : Tree
compared_0_core = trees (
    tree.Acts (at 54) (step.Aim (whole 3) (operands.Text 0))
    ∷ tree.Acts (at 58) (step.Same 4 (whole 3) (whole 1) true)
    ∷ tree.Acts (at 50) (step.Live 5 life.Plain)
    ∷ tree.Acts (at 50) (step.Save (object 5) 4)
    ∷ tree.Acts (at 68) (step.Aim (whole 6) (operands.Whole (object 0)))
    ∷ tree.Acts (at 70) (step.Same 7 (whole 6) (whole 1) false)
    ∷ tree.Acts (at 66) (step.Save (object 5) 7)
    ∷ tree.Acts (at 88) (step.Aim (whole 8) (operands.Text 0))
    ∷ tree.Acts (at 83) (step.Aim (whole 9) (operands.Whole (object 0)))
    ∷ tree.Acts (at 85) (step.Same 2 (whole 9) (whole 8) true)
    ∷ tree.Acts (at 76) (step.End (5 ∷ 1 ∷ 0 ∷ []))
    ∷ tree.Returns (at 76)
    ∷ [])

compared_is : bodies (translated compared) ≡ compared_0_core ∷ []
compared_is = refl

compared_stands : places (translated compared) ≡ (at 20 ∷ at 40 ∷ at 6 ∷ at 54 ∷ at 58 ∷ at 50 ∷ at 68 ∷ at 70 ∷ at 88 ∷ at 83 ∷ []) ∷ []
compared_stands = refl

-- ---- std::string_view f(std::string_view v) { char c = v[1]; std::string_view w = v.substr(1).substr(0, 2); return v.substr(v.size()); }

abbrev view_0 : FunctionForm
view_0 = function 18 7 1 (declared 1 37 7 false ∷ declared 2 47 2 false ∷ declared 3 74 7 false ∷ []) (several (
    (stmt.declaration
    (variable 1 2 47
    (Some
    (stmt.one (of (place 52 ty.Char 2 true (form.index (place 51 ty.View 7 false (form.local 0)) (value 53 ty.Int (form.number 1)) (at 54))))))) (at 55))
    ∷ (stmt.declaration
    (variable 2 3 74
    (Some
    (stmt.one
    (of
    (value 90 ty.View
    (form.method
    (value 80 ty.View
    (form.method
    (place 78 ty.View 7 false (form.local 0)) method.Substr
    ((value 87 ty.Int (form.number 1)) ⨟ form.nothing) (closed ([]) 88))) method.Substr
    ((value 97 ty.Int (form.number 0)) ⨟ ((value 100 ty.Int (form.number 2)) ⨟ form.nothing)) (closed (at 98 ∷ []) 101))))))) (at 102))
    ∷ (stmt.returned (at 104)
    (Some
    (of
    (value 113 ty.View
    (form.method
    (place 111 ty.View 7 false (form.local 0)) method.Substr
    ((value 122 ty.Size (form.method (place 120 ty.View 7 false (form.local 0)) method.Size form.nothing (closed ([]) 127))) ⨟ form.nothing) (closed ([]) 128))))) (at 129))
    ∷ [])) 131

abbrev view : ProgramForm
view = program 0 ([]) ([]) (view_0 ∷ [])

abbrev view_0_core : Tree
view_0_core = trees (
    tree.Acts (at 53) (step.Eval 2 (operation.Number (pos 1)))
    ∷ tree.Acts (at 53) (step.Eval 3 (operation.Convert 2))
    ∷ tree.Acts (at 52) (step.Element (whole 4) (operands.Pointer (whole 0)) (which.Index 3))
    ∷ tree.Acts (at 52) (step.Load 5 (operands.Through (whole 4) ([])))
    ∷ tree.Acts (at 47) (step.Live 6 life.Plain)
    ∷ tree.Acts (at 47) (step.Save (object 6) 5)
    ∷ tree.Acts (at 87) (step.Eval 7 (operation.Number (pos 1)))
    ∷ tree.Acts (at 87) (step.Eval 8 (operation.Convert 7))
    ∷ tree.Acts (at 80) (step.Cut (whole 9) (whole 0) 8 None)
    ∷ tree.Acts (at 97) (step.Eval 10 (operation.Number (pos 0)))
    ∷ tree.Acts (at 97) (step.Eval 11 (operation.Convert 10))
    ∷ tree.Acts (at 100) (step.Eval 12 (operation.Number (pos 2)))
    ∷ tree.Acts (at 100) (step.Eval 13 (operation.Convert 12))
    ∷ tree.Acts (at 90) (step.Cut (whole 14) (whole 9) 11 (Some 13))
    ∷ tree.Acts (at 122) (step.Size 15 (operands.Pointer (whole 0)))
    ∷ tree.Acts (at 113) (step.Cut (whole 1) (whole 0) 15 None)
    ∷ tree.Acts (at 104) (step.End (14 ∷ 6 ∷ 0 ∷ []))
    ∷ tree.Returns (at 104)
    ∷ [])

view_is : bodies (translated view) ≡ view_0_core ∷ []
view_is = refl

view_stands : places (translated view) ≡ (at 37 ∷ at 18 ∷ at 53 ∷ at 53 ∷ at 52 ∷ at 52 ∷ at 47 ∷ at 87 ∷ at 87 ∷ at 80 ∷ at 97 ∷ at 97 ∷ at 100 ∷ at 100 ∷ at 74 ∷ at 122 ∷ []) ∷ []
view_stands = refl

-- ---- void f(std::string s, std::string_view v) { std::cout << s << v << "x" << 'c' << s.size() << std::endl; }

abbrev printed_0 : FunctionForm
printed_0 = function 6 0 2 (declared 1 20 6 false ∷ declared 2 40 7 false ∷ []) (several (
    (stmt.print (
    stmt.printed (of (place 58 ty.Text 6 false (form.local 0)))
    ∷ stmt.printed (of (place 63 ty.View 7 false (form.local 1)))
    ∷ stmt.printed (of (literal 68 0))
    ∷ stmt.printed (of (value 75 ty.Char (form.character 99)))
    ∷ stmt.printed (of (value 84 ty.Size (form.method (place 82 ty.Text 6 false (form.local 0)) method.Size form.nothing (closed ([]) 89))))
    ∷ stmt.line_end (at 99)
    ∷ []) (at 103))
    ∷ [])) 105

abbrev printed : ProgramForm
printed = program 1 ([]) ([]) (printed_0 ∷ [])

abbrev printed_0_core : Tree
printed_0_core = trees (
    tree.Acts (at 58) (step.Aim (whole 2) (operands.Whole (object 0)))
    ∷ tree.Acts (at 58) (step.Ports (step.WritesView (whole 2)))
    ∷ tree.Acts (at 63) (step.Ports (step.WritesView (whole 1)))
    ∷ tree.Acts (at 68) (step.Aim (whole 3) (operands.Text 0))
    ∷ tree.Acts (at 68) (step.Ports (step.WritesView (whole 3)))
    ∷ tree.Acts (at 75) (step.Eval 4 (operation.Number (pos 99)))
    ∷ tree.Acts (at 75) (step.Ports (step.Writes 4))
    ∷ tree.Acts (at 84) (step.Size 5 (operands.Owner (object 0)))
    ∷ tree.Acts (at 84) (step.Ports (step.Writes 5))
    ∷ tree.Acts (at 99) (step.Aim (whole 6) (operands.Text 1))
    ∷ tree.Acts (at 99) (step.Ports (step.WritesView (whole 6)))
    ∷ tree.Acts (at 105) (step.End (1 ∷ 0 ∷ []))
    ∷ tree.Returns (at 105)
    ∷ [])

printed_is : bodies (translated printed) ≡ printed_0_core ∷ []
printed_is = refl

printed_stands : places (translated printed) ≡ (at 20 ∷ at 40 ∷ at 58 ∷ at 68 ∷ at 75 ∷ at 84 ∷ at 99 ∷ []) ∷ []
printed_stands = refl
