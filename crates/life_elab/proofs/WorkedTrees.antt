-- Typed trees of texts on one line, as worked cases write them.
use Rattle.std.specs.Prelude.{ℕ, zero, suc, false, Bool, List, [], ◌∷◌, ◌++◌, Option, map}
use Rattle.life_types.specs.declared.place.Place.{Place}
use Rattle.life_types.specs.declared.ty.Ty.{Ty}
use Rattle.life_types.specs.declared.ty.TyId.{TyId}
use Rattle.life_tree.specs.declared.identifier.Identifier.{Identifier}
use Rattle.life_typed.specs.BaseTypes.{base_types}
use Rattle.life_typed.specs.Delimiters.{DelimitersForm}
use Rattle.life_typed.specs.Programs.{FunctionForm, ProgramForm, default}
use Rattle.life_typed.specs.TypedForm.{Form, Typed, null, text, typed}
use Rattle.life_typed.specs.TypedStatement.{DeclarationForm, InitialForm, StmtForm, block, stmt_forms}
use Rattle.life_typed.specs.declared.typed_expr.Category.TheVariants as category
use Rattle.life_typed.specs.declared.typed_expr.ExprType.TheVariants as expr_type
use Rattle.life_typed.specs.declared.typed_program.ParameterPromise.{ParameterPromise}
use Rattle.life_typed.specs.declared.typed_program.TypedLocal.{TypedLocal}
use Rattle.life_core.specs.Function.{Function, Program}
use Rattle.life_core.specs.Operands.{Location, Operand, object_named}
use Rattle.life_core.specs.Tree.{Tree}
use Rattle.life_core.specs.declared.program.Local.{Local}

-- ---- places and numbers

abbrev pub at : ℕ → Place
at column = record { line = 1; column = column }

abbrev pub id : ℕ → TyId
id n = record { 0 = n }

abbrev pub name : (number column : ℕ) → Identifier
name n column = record { id = record { 0 = n }; place = at column }

abbrev pub part : ℕ → List ℕ → Location
part x members = record { local = x; members = members }

abbrev pub object : ℕ → Operand
object x = object_named x

-- ---- expressions

abbrev pub value : (column : ℕ) → Ty → Form → Form
value column t form = typed (at column) (expr_type.Of t) category.Value form

abbrev pub place : (column : ℕ) → Ty → (id : ℕ) → (constant : Bool) → Form → Form
place column t n constant form = typed (at column) (expr_type.Of t) (category.Place (id n) constant) form

abbrev pub literal : (column number : ℕ) → Form
literal column n = typed (at column) expr_type.TextLiteral category.Value (text n)

abbrev pub nothing_at : (column : ℕ) → Form
nothing_at column = typed (at column) expr_type.NullPointer category.Value null

abbrev pub closed : (commas : List Place) → (closing : ℕ) → DelimitersForm
closed commas closing = record { commas = commas; closing = at closing }

-- the expression that a form is
abbrev pub of : Form → Typed
of (typed p t c form) = record { place = p; ty = t; category = c; form = form }
of form = record { place = at 0; ty = expr_type.NullPointer; category = category.Value; form = form }

-- ---- statements

abbrev pub variable : (local number column : ℕ) → Option InitialForm → DeclarationForm
variable x n column value = record { local = x; name = name n column; value = value }

abbrev pub several : List StmtForm → StmtForm
several statements = stmt_forms statements

-- ---- functions and programs

abbrev pub declared : (number column id : ℕ) → (constant : Bool) → TypedLocal
declared n column t constant = record { name = record { 0 = n }; place = at column; ty = id t; constant = constant }

abbrev promises : ℕ → List ParameterPromise
promises zero = []
promises (suc n) = record { nonnull = false; keeps = false } ∷ promises n

abbrev pub function : (column result parameters : ℕ) → List TypedLocal → (body : StmtForm) → (closing : ℕ) → FunctionForm
function column result parameters locals body closing = record {
  name = record { 0 = 0 };
  place = at column;
  first_place = at column;
  result = id result;
  parameters = promises parameters;
  promise = default;
  locals = locals;
  body = block body (at closing);
}

-- texts that nothing looks into
abbrev blanks : ℕ → List (List ℕ)
blanks zero = []
blanks (suc n) = [] ∷ blanks n

abbrev pub program : (texts : ℕ) → List Ty → List (List TyId) → List FunctionForm → ProgramForm
program texts types structs functions = record {
  names = [];
  texts = blanks texts;
  types = record { types = base_types.types ++ types; structs = structs };
  structs = [];
  functions = functions;
}

-- ---- what is looked at

abbrev pub bodies : Program → List Tree
bodies p = map (λ (f : Function). f.body) p.functions

-- where the locals of each function stand
abbrev pub places : Program → List (List Place)
places p = map (λ (f : Function). map (λ (l : Local). l.place) f.locals) p.functions
