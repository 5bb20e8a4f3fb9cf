-- Vectors, iterators and spans, worked out by hand: what is translated, and where its locals stand.
use Rattle.std.proofs.Common.{◌≡◌, [], ◌∷◌, Some, None, refl}
use Rattle.std.specs.Prelude.{true, false, pos}
use Rattle.life_typed.specs.declared.typed_expr.BinaryOperator.TheVariants as binary
use Rattle.life_core.specs.declared.instr.Direction.TheVariants as direction
use Rattle.life_typed.specs.TypedForm as form
use Rattle.life_core.specs.declared.instr.Form.TheVariants as life
use Rattle.life_typed.specs.declared.typed_expr.Method.TheVariants as method
use Rattle.life_core.specs.Operands as operands
use Rattle.life_core.specs.declared.operation.Operation.TheVariants as operation
use Rattle.life_core.specs.declared.operation.Operator.TheVariants as operator
use Rattle.life_core.specs.declared.operand.RangeEnd.TheVariants as range_end
use Rattle.life_core.specs.Step as step
use Rattle.life_tree.specs.declared.operator.StepOperator.TheVariants as stepping
use Rattle.life_typed.specs.TypedStatement as stmt
use Rattle.life_core.specs.Tree as tree
use Rattle.life_types.specs.declared.ty.Ty.TheVariants as ty
use Rattle.life_core.specs.declared.operand.Which.TheVariants as which
use Rattle.life_typed.specs.TypedForm.{◌⨟◌}
use Rattle.life_typed.specs.Programs.{FunctionForm, ProgramForm}
use Rattle.life_core.specs.Operands.{whole}
use Rattle.life_core.specs.Tree.{Tree, trees}
use Rattle.life_elab.specs.ProgramForms.{translated}
use Rattle.life_elab.proofs.WorkedTrees.{value, place, literal, closed, of, variable, several, function, declared, program, object, id, at, bodies, places}

-- ---- void f(int i) { std::vector<int> v = {1, i}; std::vector<long> w = {i}; std::vector<int> u{}; std::vector<int> x; }

abbrev lists_0 : FunctionForm
lists_0 = function 6 0 1 (declared 1 12 3 false ∷ declared 2 34 8 false ∷ declared 3 64 9 false ∷ declared 4 90 8 false ∷ declared 5 112 8 false ∷ []) (several (
    (stmt.declaration
    (variable 1 2 34
    (Some
    (stmt.several (
    record {
      opening = at 38;
      elements = (of (value 39 ty.Int (form.number 1)))
          ∷ (of (place 42 ty.Int 3 false (form.local 0)))
          ∷ [];
      delimiters = (closed (at 40 ∷ []) 43);
    })))) (at 44))
    ∷ (stmt.declaration
    (variable 2 3 64
    (Some
    (stmt.several (record { opening = at 68; elements = (of (place 69 ty.Int 3 false (form.local 0))) ∷ []; delimiters = (closed ([]) 70) })))) (at 71))
    ∷ (stmt.declaration (variable 3 4 90 (Some (stmt.several (record { opening = at 91; elements = []; delimiters = (closed ([]) 92) })))) (at 93))
    ∷ (stmt.declaration (variable 4 5 112 None) (at 113))
    ∷ [])) 115

abbrev lists : ProgramForm
lists = program 0 ((ty.Vector (id 3)) ∷ (ty.Vector (id 4)) ∷ []) ([]) (lists_0 ∷ [])

abbrev lists_0_core : Tree
lists_0_core = trees (
    tree.Acts (at 34) (step.Live 1 life.Plain)
    ∷ tree.Acts (at 38) (step.Eval 2 (operation.Number (pos 2)))
    ∷ tree.Acts (at 38) (step.Changes (object 1) (step.Reserve 2))
    ∷ tree.Acts (at 39) (step.Eval 3 (operation.Number (pos 1)))
    ∷ tree.Acts (at 39) (step.Changes (object 1) (step.PushBack 3))
    ∷ tree.Acts (at 42) (step.Load 4 (object 0))
    ∷ tree.Acts (at 42) (step.Changes (object 1) (step.PushBack 4))
    ∷ tree.Acts (at 64) (step.Live 5 life.Plain)
    ∷ tree.Acts (at 68) (step.Eval 6 (operation.Number (pos 1)))
    ∷ tree.Acts (at 68) (step.Changes (object 5) (step.Reserve 6))
    ∷ tree.Acts (at 69) (step.Load 7 (object 0))
    ∷ tree.Acts (at 69) (step.Eval 8 (operation.Convert 7))
    ∷ tree.Acts (at 69) (step.Changes (object 5) (step.PushBack 8))
    ∷ tree.Acts (at 90) (step.Live 9 life.Zero)
    ∷ tree.Acts (at 112) (step.Live 10 life.Plain)
    ∷ tree.Acts (at 115) (step.End (10 ∷ 9 ∷ 5 ∷ 1 ∷ 0 ∷ []))
    ∷ tree.Returns (at 115)
    ∷ [])

lists_is : bodies (translated lists) ≡ lists_0_core ∷ []
lists_is = refl

lists_stands : places (translated lists) ≡ (at 12 ∷ at 34 ∷ at 38 ∷ at 39 ∷ at 42 ∷ at 64 ∷ at 68 ∷ at 69 ∷ at 69 ∷ at 90 ∷ at 112 ∷ []) ∷ []
lists_stands = refl

-- ---- void f(std::vector<long> v, int i, std::vector<std::string> w, std::string s) { v.push_back(i); w.push_back(s); w.push_back(s + s); w.push_back("x"); }

abbrev added_0 : FunctionForm
added_0 = function 6 0 4 (declared 1 26 8 false ∷ declared 2 33 3 false ∷ declared 3 61 9 false ∷ declared 4 76 6 false ∷ []) (several (
    (stmt.sentence
    (stmt.discarded
    (of
    (value 83 ty.Void
    (form.method
    (place 81 (ty.Vector (id 4)) 8 false (form.local 0)) method.PushBack
    ((place 93 ty.Int 3 false (form.local 1)) ⨟ form.nothing) (closed ([]) 94))))) (at 95))
    ∷ (stmt.sentence
    (stmt.discarded
    (of
    (value 99 ty.Void
    (form.method
    (place 97 (ty.Vector (id 6)) 9 false (form.local 2)) method.PushBack
    ((place 109 ty.Text 6 false (form.local 3)) ⨟ form.nothing) (closed ([]) 110))))) (at 111))
    ∷ (stmt.sentence
    (stmt.discarded
    (of
    (value 115 ty.Void
    (form.method
    (place 113 (ty.Vector (id 6)) 9 false (form.local 2)) method.PushBack
    (
    (value 127 ty.Text (form.binary binary.Add (place 125 ty.Text 6 false (form.local 3)) (place 129 ty.Text 6 false (form.local 3)))) ⨟ form.nothing) (closed ([]) 130))))) (at 131))
    ∷ (stmt.sentence
    (stmt.discarded
    (of
    (value 135 ty.Void
    (form.method (place 133 (ty.Vector (id 6)) 9 false (form.local 2)) method.PushBack ((literal 145 0) ⨟ form.nothing) (closed ([]) 148))))) (at 149))
    ∷ [])) 151

abbrev added : ProgramForm
added = program 1 ((ty.Vector (id 4)) ∷ (ty.Vector (id 6)) ∷ []) ([]) (added_0 ∷ [])

abbrev added_0_core : Tree
added_0_core = trees (
    tree.Acts (at 93) (step.Load 4 (object 1))
    ∷ tree.Acts (at 93) (step.Eval 5 (operation.Convert 4))
    ∷ tree.Acts (at 83) (step.Changes (object 0) (step.PushBack 5))
    ∷ tree.Acts (at 109) (step.Live 6 life.Plain)
    ∷ tree.Acts (at 109) (step.Copy (object 6) (object 3))
    ∷ tree.Acts (at 99) (step.Changes (object 2) (step.PushBack 6))
    ∷ tree.Acts (at 127) (step.Live 7 life.Plain)
    ∷ tree.Acts (at 125) (step.Aim (whole 8) (operands.Whole (object 3)))
    ∷ tree.Acts (at 127) (step.Changes (object 7) (step.Set (operands.View (whole 8))))
    ∷ tree.Acts (at 129) (step.Aim (whole 9) (operands.Whole (object 3)))
    ∷ tree.Acts (at 127) (step.Changes (object 7) (step.Append (operands.View (whole 9))))
    ∷ tree.Acts (at 115) (step.Changes (object 2) (step.PushBack 7))
    ∷ tree.Acts (at 145) (step.Aim (whole 10) (operands.Text 0))
    ∷ tree.Acts (at 145) (step.Live 11 life.Plain)
    ∷ tree.Acts (at 145) (step.Changes (object 11) (step.Set (operands.View (whole 10))))
    ∷ tree.Acts (at 135) (step.Changes (object 2) (step.PushBack 11))
    ∷ tree.Acts (at 151) (step.End (3 ∷ 2 ∷ 1 ∷ 0 ∷ []))
    ∷ tree.Returns (at 151)
    ∷ [])

added_is : bodies (translated added) ≡ added_0_core ∷ []
added_is = refl

added_stands : places (translated added) ≡ (at 26 ∷ at 33 ∷ at 61 ∷ at 76 ∷ at 93 ∷ at 93 ∷ at 109 ∷ at 127 ∷ at 125 ∷ at 129 ∷ at 145 ∷ at 145 ∷ []) ∷ []
added_stands = refl

-- ---- void f(std::vector<int> v) { auto it = v.begin(); it = v.erase(it); v.erase(v.begin()); bool b = it == v.end(); b = it != it; }

abbrev iterators_0 : FunctionForm
iterators_0 = function 6 0 1 (declared 1 25 8 false ∷ declared 2 35 9 false ∷ declared 5 94 1 false ∷ []) (several (
    (stmt.declaration
    (variable 1 2 35
    (Some
    (stmt.one
    (of
    (value 42 (ty.Iterator (id 3) false)
    (form.method (place 40 (ty.Vector (id 3)) 8 false (form.local 0)) method.Begin form.nothing (closed ([]) 48))))))) (at 49))
    ∷ (stmt.sentence
    (stmt.assign
    (of (place 51 (ty.Iterator (id 3) false) 9 false (form.local 1))) (at 54)
    (stmt.one
    (of
    (value 58 (ty.Iterator (id 3) false)
    (form.method
    (place 56 (ty.Vector (id 3)) 8 false (form.local 0)) method.Erase
    ((place 64 (ty.Iterator (id 3) false) 9 false (form.local 1)) ⨟ form.nothing) (closed ([]) 66)))))) (at 67))
    ∷ (stmt.sentence
    (stmt.discarded
    (of
    (value 71 (ty.Iterator (id 3) false)
    (form.method
    (place 69 (ty.Vector (id 3)) 8 false (form.local 0)) method.Erase
    (
    (value 79 (ty.Iterator (id 3) false)
    (form.method (place 77 (ty.Vector (id 3)) 8 false (form.local 0)) method.Begin form.nothing (closed ([]) 85))) ⨟ form.nothing) (closed ([]) 86))))) (at 87))
    ∷ (stmt.declaration
    (variable 2 5 94
    (Some
    (stmt.one
    (of
    (value 101 ty.Bool
    (form.binary binary.Equal
    (place 98 (ty.Iterator (id 3) false) 9 false (form.local 1))
    (value 106 (ty.Iterator (id 3) false)
    (form.method (place 104 (ty.Vector (id 3)) 8 false (form.local 0)) method.End form.nothing (closed ([]) 110))))))))) (at 111))
    ∷ (stmt.sentence
    (stmt.assign
    (of (place 113 ty.Bool 1 false (form.local 2))) (at 115)
    (stmt.one
    (of
    (value 120 ty.Bool
    (form.binary binary.NotEqual
    (place 117 (ty.Iterator (id 3) false) 9 false (form.local 1))
    (place 123 (ty.Iterator (id 3) false) 9 false (form.local 1))))))) (at 125))
    ∷ [])) 127

abbrev iterators : ProgramForm
iterators = program 0 ((ty.Vector (id 3)) ∷ (ty.Iterator (id 3) false) ∷ []) ([]) (iterators_0 ∷ [])

abbrev iterators_0_core : Tree
iterators_0_core = trees (
    tree.Acts (at 42) (step.Cursor (whole 1) (operands.Owner (object 0)) range_end.Begin)
    ∷ tree.Acts (at 58) (step.Changes (object 0) (step.Erase (whole 1) (whole 1)))
    ∷ tree.Acts (at 79) (step.Cursor (whole 2) (operands.Owner (object 0)) range_end.Begin)
    ∷ tree.Acts (at 71) (step.Changes (object 0) (step.Erase (whole 2) (whole 3)))
    ∷ tree.Acts (at 106) (step.Cursor (whole 4) (operands.Owner (object 0)) range_end.End)
    ∷ tree.Acts (at 101) (step.Same 5 (whole 1) (whole 4) true)
    ∷ tree.Acts (at 94) (step.Live 6 life.Plain)
    ∷ tree.Acts (at 94) (step.Save (object 6) 5)
    ∷ tree.Acts (at 120) (step.Same 7 (whole 1) (whole 1) false)
    ∷ tree.Acts (at 115) (step.Save (object 6) 7)
    ∷ tree.Acts (at 127) (step.End (6 ∷ 1 ∷ 0 ∷ []))
    ∷ tree.Returns (at 127)
    ∷ [])

iterators_is : bodies (translated iterators) ≡ iterators_0_core ∷ []
iterators_is = refl

iterators_stands : places (translated iterators) ≡ (at 25 ∷ at 35 ∷ at 79 ∷ at 71 ∷ at 106 ∷ at 101 ∷ at 94 ∷ at 120 ∷ []) ∷ []
iterators_stands = refl

-- ---- int f(std::vector<int> v) { auto it = v.begin() + 1; it = it + (-1); ++it; it--; return *it; }

abbrev moved_0 : FunctionForm
moved_0 = function 5 3 1 (declared 1 24 8 false ∷ declared 2 34 9 false ∷ []) (several (
    (stmt.declaration
    (variable 1 2 34
    (Some
    (stmt.one
    (of
    (value 49 (ty.Iterator (id 3) false)
    (form.binary binary.Add
    (value 41 (ty.Iterator (id 3) false)
    (form.method (place 39 (ty.Vector (id 3)) 8 false (form.local 0)) method.Begin form.nothing (closed ([]) 47))) (value 51 ty.Int (form.number 1)))))))) (at 52))
    ∷ (stmt.sentence
    (stmt.assign
    (of (place 54 (ty.Iterator (id 3) false) 9 false (form.local 1))) (at 57)
    (stmt.one
    (of
    (value 62 (ty.Iterator (id 3) false)
    (form.binary binary.Add
    (place 59 (ty.Iterator (id 3) false) 9 false (form.local 1))
    (value 65 ty.Int (form.paren (value 65 ty.Int (form.negate (value 66 ty.Int (form.number 1)))) (at 67)))))))) (at 68))
    ∷ (stmt.sentence (stmt.step (of (place 72 (ty.Iterator (id 3) false) 9 false (form.local 1))) stepping.Increment (at 70)) (at 74))
    ∷ (stmt.sentence (stmt.step (of (place 76 (ty.Iterator (id 3) false) 9 false (form.local 1))) stepping.Decrement (at 78)) (at 80))
    ∷ (stmt.returned (at 82)
    (Some (of (place 89 ty.Int 3 false (form.dereference (place 90 (ty.Iterator (id 3) false) 9 false (form.local 1)))))) (at 92))
    ∷ [])) 94

abbrev moved : ProgramForm
moved = program 0 ((ty.Vector (id 3)) ∷ (ty.Iterator (id 3) false) ∷ []) ([]) (moved_0 ∷ [])

abbrev moved_0_core : Tree
moved_0_core = trees (
    tree.Acts (at 41) (step.Cursor (whole 2) (operands.Owner (object 0)) range_end.Begin)
    ∷ tree.Acts (at 51) (step.Eval 3 (operation.Number (pos 1)))
    ∷ tree.Acts (at 49) (step.Advance (whole 4) (whole 2) 3 direction.Forward)
    ∷ tree.Acts (at 66) (step.Eval 5 (operation.Number (pos 1)))
    ∷ tree.Acts (at 65) (step.Eval 6 (operation.Negate 5))
    ∷ tree.Acts (at 62) (step.Advance (whole 4) (whole 4) 6 direction.Forward)
    ∷ tree.Acts (at 70) (step.Eval 7 (operation.Number (pos 1)))
    ∷ tree.Acts (at 70) (step.Advance (whole 4) (whole 4) 7 direction.Forward)
    ∷ tree.Acts (at 78) (step.Eval 8 (operation.Number (pos 1)))
    ∷ tree.Acts (at 78) (step.Advance (whole 4) (whole 4) 8 direction.Backward)
    ∷ tree.Acts (at 89) (step.Load 1 (operands.Through (whole 4) ([])))
    ∷ tree.Acts (at 82) (step.End (4 ∷ 0 ∷ []))
    ∷ tree.Returns (at 82)
    ∷ [])

moved_is : bodies (translated moved) ≡ moved_0_core ∷ []
moved_is = refl

moved_stands : places (translated moved) ≡ (at 24 ∷ at 5 ∷ at 41 ∷ at 51 ∷ at 34 ∷ at 66 ∷ at 65 ∷ at 70 ∷ at 78 ∷ []) ∷ []
moved_stands = refl

-- ---- int f(std::vector<int> v) { gsl::span<int> s = v; gsl::span<const int> t; t = s; t = s.subspan(0, 1); t = v; return t[0]; }

abbrev spans_0 : FunctionForm
spans_0 = function 5 3 1 (declared 1 24 8 false ∷ declared 2 44 9 false ∷ declared 3 72 10 false ∷ []) (several (
    (stmt.declaration (variable 1 2 44 (Some (stmt.one (of (place 48 (ty.Vector (id 3)) 8 false (form.local 0)))))) (at 49))
    ∷ (stmt.declaration (variable 2 3 72 None) (at 73))
    ∷ (stmt.sentence
    (stmt.assign
    (of (place 75 (ty.Span (id 3) true) 10 false (form.local 2))) (at 77)
    (stmt.one (of (place 79 (ty.Span (id 3) false) 9 false (form.local 1))))) (at 80))
    ∷ (stmt.sentence
    (stmt.assign
    (of (place 82 (ty.Span (id 3) true) 10 false (form.local 2))) (at 84)
    (stmt.one
    (of
    (value 88 (ty.Span (id 3) false)
    (form.method
    (place 86 (ty.Span (id 3) false) 9 false (form.local 1)) method.Subspan
    ((value 96 ty.Int (form.number 0)) ⨟ ((value 99 ty.Int (form.number 1)) ⨟ form.nothing)) (closed (at 97 ∷ []) 100)))))) (at 101))
    ∷ (stmt.sentence
    (stmt.assign
    (of (place 103 (ty.Span (id 3) true) 10 false (form.local 2))) (at 105)
    (stmt.one (of (place 107 (ty.Vector (id 3)) 8 false (form.local 0))))) (at 108))
    ∷ (stmt.returned (at 110)
    (Some
    (of
    (place 118 ty.Int 3 true (form.index (place 117 (ty.Span (id 3) true) 10 false (form.local 2)) (value 119 ty.Int (form.number 0)) (at 120))))) (at 121))
    ∷ [])) 123

abbrev spans : ProgramForm
spans = program 0 ((ty.Vector (id 3)) ∷ (ty.Span (id 3) false) ∷ (ty.Span (id 3) true) ∷ []) ([]) (spans_0 ∷ [])

abbrev spans_0_core : Tree
spans_0_core = trees (
    tree.Acts (at 48) (step.Aim (whole 2) (operands.Whole (object 0)))
    ∷ tree.Acts (at 72) (step.Aim (whole 3) operands.Empty)
    ∷ tree.Acts (at 79) (step.Repoint (whole 3) (whole 2))
    ∷ tree.Acts (at 96) (step.Eval 4 (operation.Number (pos 0)))
    ∷ tree.Acts (at 96) (step.Eval 5 (operation.Convert 4))
    ∷ tree.Acts (at 99) (step.Eval 6 (operation.Number (pos 1)))
    ∷ tree.Acts (at 99) (step.Eval 7 (operation.Convert 6))
    ∷ tree.Acts (at 88) (step.Cut (whole 3) (whole 2) 5 (Some 7))
    ∷ tree.Acts (at 107) (step.Aim (whole 3) (operands.Whole (object 0)))
    ∷ tree.Acts (at 119) (step.Eval 8 (operation.Number (pos 0)))
    ∷ tree.Acts (at 119) (step.Eval 9 (operation.Convert 8))
    ∷ tree.Acts (at 118) (step.Element (whole 10) (operands.Pointer (whole 3)) (which.Index 9))
    ∷ tree.Acts (at 118) (step.Load 1 (operands.Through (whole 10) ([])))
    ∷ tree.Acts (at 110) (step.End (3 ∷ 2 ∷ 0 ∷ []))
    ∷ tree.Returns (at 110)
    ∷ [])

spans_is : bodies (translated spans) ≡ spans_0_core ∷ []
spans_is = refl

spans_stands : places (translated spans) ≡ (at 24 ∷ at 5 ∷ at 44 ∷ at 72 ∷ at 96 ∷ at 96 ∷ at 99 ∷ at 99 ∷ at 119 ∷ at 119 ∷ at 118 ∷ []) ∷ []
spans_stands = refl

-- ---- int f(std::vector<int>& v) { int& a = v[0]; const int& b = v.front(); return a + b; }

abbrev elements_0 : FunctionForm
elements_0 = function 5 3 1 (declared 1 25 9 false ∷ declared 2 35 10 false ∷ declared 3 56 11 false ∷ []) (several (
    (stmt.declaration
    (variable 1 2 35
    (Some
    (stmt.one
    (of (place 40 ty.Int 3 false (form.index (place 39 (ty.Vector (id 3)) 8 false (form.local 0)) (value 41 ty.Int (form.number 0)) (at 42))))))) (at 43))
    ∷ (stmt.declaration
    (variable 2 3 56
    (Some
    (stmt.one
    (of
    (place 62 ty.Int 3 false (form.method (place 60 (ty.Vector (id 3)) 8 false (form.local 0)) method.Front form.nothing (closed ([]) 68))))))) (at 69))
    ∷ (stmt.returned (at 71)
    (Some (of (value 80 ty.Int (form.binary binary.Add (place 78 ty.Int 3 false (form.local 1)) (place 82 ty.Int 3 true (form.local 2)))))) (at 83))
    ∷ [])) 85

abbrev elements : ProgramForm
elements = program 0 ((ty.Vector (id 3)) ∷ (ty.Reference (id 8) false) ∷ (ty.Reference (id 3) false) ∷ (ty.Reference (id 3) true) ∷ []) ([]) (elements_0 ∷ [])

abbrev elements_0_core : Tree
elements_0_core = trees (
    tree.Acts (at 41) (step.Eval 2 (operation.Number (pos 0)))
    ∷ tree.Acts (at 41) (step.Eval 3 (operation.Convert 2))
    ∷ tree.Acts (at 40) (step.Element (whole 4) (operands.Owner (operands.Through (whole 0) ([]))) (which.Index 3))
    ∷ tree.Acts (at 40) (step.Aim (whole 5) (operands.Place (operands.Through (whole 4) ([]))))
    ∷ tree.Acts (at 62) (step.Element (whole 6) (operands.Owner (operands.Through (whole 0) ([]))) which.First)
    ∷ tree.Acts (at 62) (step.Aim (whole 7) (operands.Place (operands.Through (whole 6) ([]))))
    ∷ tree.Acts (at 78) (step.Load 8 (operands.Through (whole 5) ([])))
    ∷ tree.Acts (at 82) (step.Load 9 (operands.Through (whole 7) ([])))
    ∷ tree.Acts (at 80) (step.Eval 1 (operation.Binary operator.Add 8 9))
    ∷ tree.Acts (at 71) (step.End (7 ∷ 5 ∷ 0 ∷ []))
    ∷ tree.Returns (at 71)
    ∷ [])

elements_is : bodies (translated elements) ≡ elements_0_core ∷ []
elements_is = refl

elements_stands : places (translated elements) ≡ (at 25 ∷ at 5 ∷ at 41 ∷ at 41 ∷ at 40 ∷ at 35 ∷ at 62 ∷ at 56 ∷ at 78 ∷ at 82 ∷ []) ∷ []
elements_stands = refl
