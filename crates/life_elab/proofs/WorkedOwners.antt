-- Structs, owners and what calls take, worked out by hand: what is translated, and where its locals stand.
use Rattle.std.proofs.Common.{◌≡◌, [], ◌∷◌, Some, None, refl}
use Rattle.std.specs.Prelude.{true, false, pos}
use Rattle.life_typed.specs.declared.typed_expr.BinaryOperator.TheVariants as binary
use Rattle.life_typed.specs.TypedForm as form
use Rattle.life_core.specs.declared.instr.Form.TheVariants as life
use Rattle.life_core.specs.declared.instr.Made.TheVariants as made
use Rattle.life_typed.specs.declared.typed_expr.Method.TheVariants as method
use Rattle.life_core.specs.Operands as operands
use Rattle.life_core.specs.declared.operation.Operation.TheVariants as operation
use Rattle.life_core.specs.Step as step
use Rattle.life_typed.specs.TypedStatement as stmt
use Rattle.life_core.specs.Tree as tree
use Rattle.life_types.specs.declared.ty.Ty.TheVariants as ty
use Rattle.life_core.specs.declared.operand.Which.TheVariants as which
use Rattle.life_typed.specs.TypedForm.{◌⨟◌}
use Rattle.life_typed.specs.Programs.{FunctionForm, ProgramForm}
use Rattle.life_core.specs.Operands.{whole}
use Rattle.life_core.specs.Tree.{Tree, trees}
use Rattle.life_elab.specs.ProgramForms.{translated}
use Rattle.life_elab.proofs.WorkedTrees.{value, place, literal, nothing_at, closed, of, variable, several, function, declared, program, part, object, id, at, bodies, places}

-- ---- struct S { int a; std::string b; std::string_view c; int* p; }; void f(int i) { S s; S t = {}; S u = {i, "x", "y", &i}; S w = S{}; }

abbrev structs_0 : FunctionForm
structs_0 = function 70 0 1 (declared 6 76 3 false ∷ declared 7 83 9 false ∷ declared 8 88 9 false ∷ declared 9 98 9 false ∷ declared 10 123 9 false ∷ []) (several (
    (stmt.declaration (variable 1 7 83 None) (at 84))
    ∷ (stmt.declaration (variable 2 8 88 (Some (stmt.several (record { opening = at 92; elements = []; delimiters = (closed ([]) 93) })))) (at 94))
    ∷ (stmt.declaration
    (variable 3 9 98
    (Some
    (stmt.several (
    record {
      opening = at 102;
      elements = (of (place 103 ty.Int 3 false (form.local 0)))
          ∷ (of (literal 106 0))
          ∷ (of (literal 111 1))
          ∷ (of (value 116 (ty.Raw (id 3) false) (form.address_of (place 117 ty.Int 3 false (form.local 0)))))
          ∷ [];
      delimiters = (closed (at 104 ∷ at 109 ∷ at 114 ∷ []) 118);
    })))) (at 119))
    ∷ (stmt.declaration (variable 4 10 123 (Some (stmt.one (of (value 128 (ty.Struct 0) (form.construct 0 form.nothing (closed ([]) 129))))))) (at 130))
    ∷ [])) 132

abbrev structs : ProgramForm
structs = program 2 ((ty.Raw (id 3) false) ∷ (ty.Struct 0) ∷ []) ((id 3 ∷ id 6 ∷ id 7 ∷ id 8 ∷ []) ∷ []) (structs_0 ∷ [])

abbrev structs_0_core : Tree
structs_0_core = trees (
    tree.Acts (at 83) (step.Live 1 life.Plain)
    ∷ tree.Acts (at 88) (step.Live 2 life.Zero)
    ∷ tree.Acts (at 98) (step.Live 3 life.Plain)
    ∷ tree.Acts (at 103) (step.Load 4 (object 0))
    ∷ tree.Acts (at 103) (step.Save (operands.Name (part 3 (0 ∷ []))) 4)
    ∷ tree.Acts (at 106) (step.Aim (whole 5) (operands.Text 0))
    ∷ tree.Acts (at 106) (step.Live 6 life.Plain)
    ∷ tree.Acts (at 106) (step.Changes (object 6) (step.Set (operands.View (whole 5))))
    ∷ tree.Acts (at 106) (step.Move (operands.Name (part 3 (1 ∷ []))) 6)
    ∷ tree.Acts (at 111) (step.Aim (part 3 (2 ∷ [])) (operands.Text 1))
    ∷ tree.Acts (at 116) (step.Aim (part 3 (3 ∷ [])) (operands.Place (object 0)))
    ∷ tree.Acts (at 119) (step.End (6 ∷ []))
    ∷ tree.Acts (at 123) (step.Live 7 life.Zero)
    ∷ tree.Acts (at 132) (step.End (7 ∷ 3 ∷ 2 ∷ 1 ∷ 0 ∷ []))
    ∷ tree.Returns (at 132)
    ∷ [])

structs_is : bodies (translated structs) ≡ structs_0_core ∷ []
structs_is = refl

structs_stands : places (translated structs) ≡ (at 76 ∷ at 83 ∷ at 88 ∷ at 98 ∷ at 103 ∷ at 106 ∷ at 106 ∷ at 123 ∷ []) ∷ []
structs_stands = refl

-- ---- void f() { std::unique_ptr<int> u; u = std::make_unique<int>(2); int* p = u.get(); u = nullptr; u.reset(); std::unique_ptr<int> w = nullptr; w = std::move(u); *w = 3; }

abbrev owners_0 : FunctionForm
owners_0 = function 6 0 0 (declared 1 33 8 false ∷ declared 2 71 9 false ∷ declared 5 129 8 false ∷ []) (several (
    (stmt.declaration (variable 0 1 33 None) (at 34))
    ∷ (stmt.sentence
    (stmt.assign
    (of (place 36 (ty.Unique (id 3)) 8 false (form.local 0))) (at 38)
    (stmt.one (of (value 45 (ty.Unique (id 3)) (form.make_unique (id 3) (value 62 ty.Int (form.number 2)) (at 63)))))) (at 64))
    ∷ (stmt.declaration
    (variable 1 2 71
    (Some
    (stmt.one
    (of
    (value 77 (ty.Raw (id 3) false)
    (form.method (place 75 (ty.Unique (id 3)) 8 false (form.local 0)) method.Get form.nothing (closed ([]) 81))))))) (at 82))
    ∷ (stmt.sentence (stmt.assign (of (place 84 (ty.Unique (id 3)) 8 false (form.local 0))) (at 86) (stmt.one (of (nothing_at 88)))) (at 95))
    ∷ (stmt.sentence
    (stmt.discarded
    (of (value 99 ty.Void (form.method (place 97 (ty.Unique (id 3)) 8 false (form.local 0)) method.Reset form.nothing (closed ([]) 105))))) (at 106))
    ∷ (stmt.declaration (variable 2 5 129 (Some (stmt.one (of (nothing_at 133))))) (at 140))
    ∷ (stmt.sentence
    (stmt.assign (of (place 142 (ty.Unique (id 3)) 8 false (form.local 2))) (at 144) (stmt.one (of (value 151 (ty.Unique (id 3)) (form.move 0))))) (at 158))
    ∷ (stmt.sentence
    (stmt.assign
    (of (place 160 ty.Int 3 false (form.dereference (place 161 (ty.Unique (id 3)) 8 false (form.local 2))))) (at 163)
    (stmt.one (of (value 165 ty.Int (form.number 3))))) (at 166))
    ∷ [])) 168

abbrev owners : ProgramForm
owners = program 0 ((ty.Unique (id 3)) ∷ (ty.Raw (id 3) false) ∷ []) ([]) (owners_0 ∷ [])

abbrev owners_0_core : Tree
owners_0_core = trees (
    tree.Acts (at 33) (step.Live 0 life.Plain)
    ∷ tree.Acts (at 62) (step.Eval 1 (operation.Number (pos 2)))
    ∷ tree.Acts (at 45) (step.Make (whole 0) (made.Of 1))
    ∷ tree.Acts (at 77) (step.Aim (whole 2) (operands.Get (whole 0)))
    ∷ tree.Acts (at 86) (step.Make (whole 0) made.Null)
    ∷ tree.Acts (at 99) (step.Make (whole 0) made.Null)
    ∷ tree.Acts (at 129) (step.Live 3 life.Plain)
    ∷ tree.Acts (at 129) (step.Make (whole 3) made.Null)
    ∷ tree.Acts (at 151) (step.Move (object 3) 0)
    ∷ tree.Acts (at 165) (step.Eval 4 (operation.Number (pos 3)))
    ∷ tree.Acts (at 160) (step.Element (whole 5) (operands.Owner (object 3)) which.Target)
    ∷ tree.Acts (at 163) (step.Save (operands.Through (whole 5) ([])) 4)
    ∷ tree.Acts (at 168) (step.End (3 ∷ 2 ∷ 0 ∷ []))
    ∷ tree.Returns (at 168)
    ∷ [])

owners_is : bodies (translated owners) ≡ owners_0_core ∷ []
owners_is = refl

owners_stands : places (translated owners) ≡ (at 33 ∷ at 62 ∷ at 71 ∷ at 129 ∷ at 165 ∷ at 160 ∷ []) ∷ []
owners_stands = refl

-- ---- std::unique_ptr<int> m() { return nullptr; } int f() { if (m()) { return 1; } bool b = m() == nullptr; return *m(); }

abbrev tested_0 : FunctionForm
tested_0 = function 22 8 0 ([]) (several (
    (stmt.returned (at 28) (Some (of (nothing_at 35))) (at 42))
    ∷ [])) 44

abbrev tested_1 : FunctionForm
tested_1 = function 50 3 0 (declared 2 84 1 false ∷ []) (several (
    (stmt.branching
    (several (
    (stmt.branch (at 56)
    (of (value 60 (ty.Unique (id 3)) (form.call 0 form.nothing (closed ([]) 62)))) (at 63)
    (stmt.block (several ((stmt.returned (at 67) (Some (of (value 74 ty.Int (form.number 1)))) (at 75)) ∷ [])) (at 77)))
    ∷ [])) stmt.no_more)
    ∷ (stmt.declaration
    (variable 0 2 84
    (Some
    (stmt.one
    (of
    (value 92 ty.Bool (form.binary binary.Equal (value 88 (ty.Unique (id 3)) (form.call 0 form.nothing (closed ([]) 90))) (nothing_at 95))))))) (at 102))
    ∷ (stmt.returned (at 104)
    (Some (of (place 111 ty.Int 3 false (form.dereference (value 112 (ty.Unique (id 3)) (form.call 0 form.nothing (closed ([]) 114))))))) (at 115))
    ∷ [])) 117

abbrev tested : ProgramForm
tested = program 0 ((ty.Unique (id 3)) ∷ []) ([]) (tested_0 ∷ tested_1 ∷ [])

abbrev tested_0_core : Tree
tested_0_core = trees (
    tree.Acts (at 28) (step.Live 0 life.Plain)
    ∷ tree.Acts (at 28) (step.Make (whole 0) made.Null)
    ∷ tree.Returns (at 28)
    ∷ [])

abbrev tested_1_core : Tree
tested_1_core = trees (
    tree.Choice
    (tree.Then
    (trees (
    tree.Acts (at 60) (step.Call (Some (whole 1)) (record { 0 = 0 }) ([]))
    ∷ tree.Acts (at 60) (step.Aim (whole 2) (operands.Get (whole 1)))
    ∷ tree.Acts (at 63) (step.End (1 ∷ []))
    ∷ []))
    (tree.Asks (at 60) (step.NotNull (whole 2))))
    (trees (tree.Acts (at 74) (step.Eval 0 (operation.Number (pos 1))) ∷ tree.Returns (at 67) ∷ [])) (trees ([]))
    ∷ tree.Choice
    (tree.Negated
    (tree.Then
    (trees (
    tree.Acts (at 88) (step.Call (Some (whole 3)) (record { 0 = 0 }) ([]))
    ∷ tree.Acts (at 88) (step.Aim (whole 4) (operands.Get (whole 3)))
    ∷ []))
    (tree.Asks (at 92) (step.NotNull (whole 4)))))
    (trees (tree.Acts (at 92) (step.Eval 5 (operation.Number (pos 1))) ∷ []))
    (trees (tree.Acts (at 92) (step.Eval 5 (operation.Number (pos 0))) ∷ []))
    ∷ tree.Acts (at 84) (step.Live 6 life.Plain)
    ∷ tree.Acts (at 84) (step.Save (object 6) 5)
    ∷ tree.Acts (at 102) (step.End (3 ∷ []))
    ∷ tree.Acts (at 112) (step.Call (Some (whole 7)) (record { 0 = 0 }) ([]))
    ∷ tree.Acts (at 111) (step.Element (whole 8) (operands.Owner (object 7)) which.Target)
    ∷ tree.Acts (at 111) (step.Load 0 (operands.Through (whole 8) ([])))
    ∷ tree.Acts (at 115) (step.End (7 ∷ []))
    ∷ tree.Acts (at 104) (step.End (6 ∷ []))
    ∷ tree.Returns (at 104)
    ∷ [])

tested_is : bodies (translated tested) ≡ tested_0_core ∷ tested_1_core ∷ []
tested_is = refl

tested_stands : places (translated tested) ≡ (at 22 ∷ []) ∷ (at 50 ∷ at 60 ∷ at 60 ∷ at 88 ∷ at 88 ∷ at 92 ∷ at 84 ∷ at 112 ∷ at 111 ∷ []) ∷ []
tested_stands = refl

-- ---- int g(int a, int* p, int& r, const std::string& s, std::string t, std::string_view v, gsl::span<const int> x) { return 0; } int f(int n, std::string s, std::vector<int> w) { return g(n, &n, n, "a", s, s, w); }

abbrev arguments_0 : FunctionForm
arguments_0 = function 5 3 7 (declared 1 11 3 false ∷ declared 2 19 8 false ∷ declared 3 27 9 false ∷ declared 4 49 10 false ∷ declared 5 64 6 false ∷ declared 6 84 7 false ∷ declared 7 108 11 false ∷ []) (several (
    (stmt.returned (at 113) (Some (of (value 120 ty.Int (form.number 0)))) (at 121))
    ∷ [])) 123

abbrev arguments_1 : FunctionForm
arguments_1 = function 129 3 3 (declared 9 135 3 false ∷ declared 4 150 6 false ∷ declared 10 170 12 false ∷ []) (several (
    (stmt.returned (at 175)
    (Some
    (of
    (value 182 ty.Int
    (form.call 0
    (
    (place 184 ty.Int 3 false (form.local 0)) ⨟
    (
    (value 187 (ty.Raw (id 3) false) (form.address_of (place 188 ty.Int 3 false (form.local 0)))) ⨟
    (
    (place 191 ty.Int 3 false (form.local 0)) ⨟
    ((literal 194 0) ⨟
    (
    (place 199 ty.Text 6 false (form.local 1)) ⨟
    ((place 202 ty.Text 6 false (form.local 1)) ⨟ ((place 205 (ty.Vector (id 3)) 12 false (form.local 2)) ⨟ form.nothing)))))))
    (closed (at 185 ∷ at 189 ∷ at 192 ∷ at 197 ∷ at 200 ∷ at 203 ∷ []) 206))))) (at 207))
    ∷ [])) 209

abbrev arguments : ProgramForm
arguments = program 1 ((ty.Raw (id 3) false) ∷ (ty.Reference (id 3) false) ∷ (ty.Reference (id 6) true) ∷ (ty.Span (id 3) true) ∷ (ty.Vector (id 3)) ∷ []) ([]) (arguments_0 ∷ arguments_1 ∷ [])

abbrev arguments_0_core : Tree
arguments_0_core = trees (
    tree.Acts (at 120) (step.Eval 7 (operation.Number (pos 0)))
    ∷ tree.Acts (at 113) (step.End (6 ∷ 5 ∷ 4 ∷ 3 ∷ 2 ∷ 1 ∷ 0 ∷ []))
    ∷ tree.Returns (at 113)
    ∷ [])

abbrev arguments_1_core : Tree
arguments_1_core = trees (
    tree.Acts (at 184) (step.Load 4 (object 0))
    ∷ tree.Acts (at 187) (step.Aim (whole 5) (operands.Place (object 0)))
    ∷ tree.Acts (at 191) (step.Aim (whole 6) (operands.Place (object 0)))
    ∷ tree.Acts (at 194) (step.Aim (whole 7) (operands.Text 0))
    ∷ tree.Acts (at 194) (step.Live 8 life.Plain)
    ∷ tree.Acts (at 194) (step.Changes (object 8) (step.Set (operands.View (whole 7))))
    ∷ tree.Acts (at 194) (step.Aim (whole 9) (operands.Place (object 8)))
    ∷ tree.Acts (at 199) (step.Live 10 life.Plain)
    ∷ tree.Acts (at 199) (step.Copy (object 10) (object 1))
    ∷ tree.Acts (at 202) (step.Aim (whole 11) (operands.Whole (object 1)))
    ∷ tree.Acts (at 205) (step.Aim (whole 12) (operands.Whole (object 2)))
    ∷ tree.Acts (at 182)
    (step.Call (Some (whole 3)) (record { 0 = 0 }) (
    (operands.Value 4)
    ∷ (operands.PointerOf (whole 5))
    ∷ (operands.PointerOf (whole 6))
    ∷ (operands.PointerOf (whole 9))
    ∷ (operands.GivenOver 10)
    ∷ (operands.PointerOf (whole 11))
    ∷ (operands.PointerOf (whole 12))
    ∷ []))
    ∷ tree.Acts (at 207) (step.End (8 ∷ []))
    ∷ tree.Acts (at 175) (step.End (2 ∷ 1 ∷ 0 ∷ []))
    ∷ tree.Returns (at 175)
    ∷ [])

arguments_is : bodies (translated arguments) ≡ arguments_0_core ∷ arguments_1_core ∷ []
arguments_is = refl

arguments_stands : places (translated arguments) ≡ (at 11 ∷ at 19 ∷ at 27 ∷ at 49 ∷ at 64 ∷ at 84 ∷ at 108 ∷ at 5 ∷ []) ∷ (at 135 ∷ at 150 ∷ at 170 ∷ at 129 ∷ at 184 ∷ at 187 ∷ at 191 ∷ at 194 ∷ at 194 ∷ at 194 ∷ at 199 ∷ at 202 ∷ at 205 ∷ []) ∷ []
arguments_stands = refl
