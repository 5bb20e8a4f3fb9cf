-- Programs worked out by hand.
use Rattle.std.proofs.Common.{◌≡◌, ℕ, false, List, [], ◌∷◌, Some, None, map, refl}
use Rattle.std.specs.Prelude.{◌++◌, pos}
use Rattle.life_types.specs.declared.place.Place.{Place}
use Rattle.life_types.specs.declared.ty.Ty.{Ty}
use Rattle.life_types.specs.declared.ty.Ty.TheVariants.{Bool, Int, Raw}
use Rattle.life_types.specs.declared.ty.TyId.{TyId}
use Rattle.life_typed.specs.BaseTypes.{base_types}
use Rattle.life_typed.specs.TypedForm.{Typed, Form, number, local, dereference, address_of, binary, not, whole}
use Rattle.life_typed.specs.TypedStatement.{StmtForm, one, block, declaration, returned, branching, branch, for_loop, loop_break, declared_first, step, chain, no_more}
use Rattle.life_tree.specs.declared.operator.StepOperator.TheVariants.{Increment}
use Rattle.life_typed.specs.declared.typed_expr.BinaryOperator.TheVariants as operator
use Rattle.life_typed.specs.declared.typed_expr.Category.{Category}
use Rattle.life_typed.specs.declared.typed_expr.Category.TheVariants as category
use Rattle.life_typed.specs.declared.typed_expr.ExprType.TheVariants.{Of}
use Rattle.life_typed.specs.declared.typed_program.TypedLocal.{TypedLocal}
use Rattle.life_core.specs.Function.{Function, Program}
use Rattle.life_core.specs.Operands.{Through, object_named, Place as Aimed}
use Rattle.life_core.specs.Operands as operands
use Rattle.life_core.specs.Step.{Live, End, Eval, Load, Save, Aim, NonZero}
use Rattle.life_core.specs.Tree.{Tree, Skip, Then, Acts, Asks, Either, Negated, Choice, Turns, Breaks, Returns, trees}
use Rattle.life_core.specs.declared.instr.Form.TheVariants.{Plain}
use Rattle.life_core.specs.declared.operation.Operation.TheVariants.{Binary, Number}
use Rattle.life_core.specs.declared.operation.Operator.TheVariants.{Add, Less}
use Rattle.life_core.specs.declared.program.Local.{Local}
use Rattle.life_elab.specs.Over.{over}
use Rattle.life_types.specs.Trees.{tree_at}
use Rattle.life_elab.specs.ProgramForms.{translated}
use Rattle.life_typed.specs.Programs.{FunctionForm, ProgramForm, default}

-- a place on the one line
abbrev at : ℕ → Place
at column = record { line = 1; column = column }

abbrev int : TyId
int = record { 0 = 3 }

abbrev pointer : TyId
pointer = record { 0 = 8 }

abbrev raw : Ty
raw = Raw int false

abbrev expression : ℕ → Ty → Category → Form → Typed
expression column t c form = record { place = at column; ty = Of t; category = c; form = form }

abbrev variable : ℕ → Ty → TyId → ℕ → Typed
variable column t id x = expression column t (category.Place id false) (local x)

abbrev local_of : ℕ → ℕ → TyId → TypedLocal
local_of column name id = record { name = record { 0 = name }; place = at column; ty = id; constant = false }

abbrev declared : ℕ → ℕ → Typed → StmtForm
declared column x e =
    declaration (record { local = x; name = record { id = record { 0 = x }; place = at column }; value = Some (one e) }) (at column)

-- ---- int main() { int x = 4; int* p = &x; return *p; }

abbrev text : StmtForm
text =
    chain (declared 18 0 (expression 22 Int category.Value (number 4)))
    (chain (declared 30 1 (expression 34 raw category.Value (address_of (whole (variable 35 Int int 0)))))
    (chain (returned (at 38) (Some (expression 45 Int (category.Place int false) (dereference (whole (variable 46 raw pointer 1))))) (at 47))
    no_more))

abbrev main : FunctionForm
main = record {
  name = record { 0 = 0 };
  place = at 5;
  first_place = at 5;
  result = int;
  parameters = [];
  promise = default;
  locals = local_of 18 1 int ∷ local_of 30 2 pointer ∷ [];
  body = block text (at 49);
}

abbrev program : ProgramForm
program = record {
  names = [];
  texts = [];
  types = record base_types { types = base_types.types ++ raw ∷ [] };
  structs = [];
  functions = main ∷ [];
}

abbrev bodies : Program → List Tree
bodies p = map (λ (f : Function). f.body) p.functions

-- where the locals of each function stand
abbrev places : Program → List (List Place)
places p = map (λ (f : Function). map (λ (l : Local). l.place) f.locals) p.functions

-- local 0 is the result, 1 the register of the 4, 2 is x and 3 is p
abbrev core : Tree
core =
    Then (Acts (at 22) (Eval 1 (Number (pos 4))))
    (Then (Acts (at 18) (Live 2 Plain))
    (Then (Acts (at 18) (Save (object_named 2) 1))
    (Then (Acts (at 34) (Aim (operands.whole 3) (Aimed (object_named 2))))
    (Then (Acts (at 45) (Load 0 (Through (operands.whole 3) [])))
    (Then (Acts (at 38) (End (3 ∷ 2 ∷ [])))
    (Then (Returns (at 38)) Skip))))))

worked : bodies (translated program) ≡ core ∷ []
worked = refl

-- the result stands where the function's name does, and the register where the 4 is written to it
located : places (translated program) ≡ (at 5 ∷ at 22 ∷ at 18 ∷ at 30 ∷ []) ∷ []
located = refl

within : over program (translated program) ≡ None
unfolding tree_at
within = refl

-- ---- void f(bool b) { for (int i = 0; i < 2; ++i) if (b || !i) break; }

abbrev bool : TyId
bool = record { 0 = 1 }

abbrev void : TyId
void = record { 0 = 0 }

abbrev b_at : ℕ → Typed
b_at column = variable column Bool bool 0

abbrev i_at : ℕ → Typed
i_at column = variable column Int int 1

abbrev looping : StmtForm
looping =
    for_loop (at 18)
    (Some (declared_first (record { local = 1; name = record { id = record { 0 = 2 }; place = at 27 }; value = Some (one (expression 31 Int category.Value (number 0))) })))
    (at 32)
    (Some (expression 36 Bool category.Value (binary operator.Less (whole (i_at 34)) (whole (expression 38 Int category.Value (number 2))))))
    (at 39)
    (Some (step (i_at 43) Increment (at 41)))
    (at 44)
    (branching
    (chain (branch (at 46)
    (expression 52 Bool category.Value (binary operator.Or (whole (b_at 50)) (whole (expression 55 Bool category.Value (not (whole (i_at 56)))))))
    (at 57) (loop_break (at 59) (at 64))) no_more)
    no_more)

abbrev f : FunctionForm
f = record {
  name = record { 0 = 0 };
  place = at 6;
  first_place = at 6;
  result = void;
  parameters = record { nonnull = false; keeps = false } ∷ [];
  promise = default;
  locals = local_of 13 1 bool ∷ local_of 27 2 int ∷ [];
  body = block (chain looping no_more) (at 66);
}

abbrev loop_program : ProgramForm
loop_program = record { names = []; texts = []; types = base_types; structs = []; functions = f ∷ [] }

-- local 0 is b, 1 the register of the 0, and 2 is i
abbrev loop_core : Tree
loop_core = trees (
    Acts (at 31) (Eval 1 (Number (pos 0)))
    ∷ Acts (at 27) (Live 2 Plain)
    ∷ Acts (at 27) (Save (object_named 2) 1)
    ∷ Turns
    (Then
    (trees (Acts (at 34) (Load 3 (object_named 2)) ∷ Acts (at 38) (Eval 4 (Number (pos 2))) ∷ Acts (at 36) (Eval 5 (Binary Less 3 4)) ∷ []))
    (Asks (at 36) (NonZero 5)))
    (trees (
    Choice
    (Either
    (Then (trees (Acts (at 50) (Load 6 (object_named 0)) ∷ [])) (Asks (at 50) (NonZero 6)))
    (Negated (Then (trees (Acts (at 56) (Load 7 (object_named 2)) ∷ [])) (Asks (at 56) (NonZero 7)))))
    (trees (Breaks ∷ []))
    Skip
    ∷ []))
    (trees (
    Acts (at 43) (Load 8 (object_named 2))
    ∷ Acts (at 41) (Eval 9 (Number (pos 1)))
    ∷ Acts (at 41) (Eval 10 (Binary Add 8 9))
    ∷ Acts (at 41) (Save (object_named 2) 10)
    ∷ []))
    ∷ Acts (at 64) (End (2 ∷ []))
    ∷ Acts (at 66) (End (0 ∷ []))
    ∷ Returns (at 66)
    ∷ [])

looped : bodies (translated loop_program) ≡ loop_core ∷ []
looped = refl

-- the variables stand where they are declared, and each register where its instruction does
loop_located : places (translated loop_program) ≡ (at 13 ∷ at 31 ∷ at 27 ∷ at 34 ∷ at 38 ∷ at 36 ∷ at 50 ∷ at 56 ∷ at 43 ∷ at 41 ∷ at 41 ∷ []) ∷ []
loop_located = refl
