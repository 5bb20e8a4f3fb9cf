-- The core of functions and programs of every form.
use Rattle.std.specs.Prelude.{List, [], ◌∷◌, ◌++◌, Some}
use Rattle.life_types.specs.Types.{Types, class}
use Rattle.life_types.specs.declared.ty.Class.{Class}
use Rattle.life_types.specs.declared.ty.Class.TheVariants as classes
use Rattle.life_types.specs.declared.ty.Ty.{Ty}
use Rattle.life_types.specs.declared.ty.Ty.TheVariants as ty
use Rattle.life_typed.specs.Ends.{ends}
use Rattle.life_typed.specs.Programs.{FunctionForm, ProgramForm}
use Rattle.life_typed.specs.TypedStatement.{StmtForm, block}
use Rattle.life_core.specs.Function.{Program}
use Rattle.life_core.specs.declared.program.LocalKind.{LocalKind}
use Rattle.life_core.specs.declared.program.LocalKind.TheVariants.{Object, Register}
use Rattle.life_writer.specs.Around.{Around, type_of}
use Rattle.life_writer.specs.Temporaries.{nameless_of}
use Rattle.life_writer.specs.Writing.{State, nothing_written}
use Rattle.life_elab.specs.Functions.{returned_at_end, with_parameters}
use Rattle.life_elab.specs.Programs.{Functions, around, program_from, with_function}
use Rattle.life_elab.specs.StatementForms.{statement}

-- ---- functions

-- a value or a pointer is given back in a register, and an owner or a struct as an object, which the caller's target takes over as it is
abbrev pub result_kind : Class → LocalKind
result_kind classes.Value = Register
result_kind classes.Pointer = Register
result_kind classes.Owner = Object
result_kind classes.Aggregate = Object

-- the result, where it isn't void
abbrev pub with_result : Around → Ty → State → State
with_result a ty.Void s = s
with_result a t s = record s { locals = s.locals ++ nameless_of (result_kind (class (Some t))) a.function.place a.function.result ∷ [] }

abbrev pub first_state : Around → Types → State
first_state a types =
    with_result a (type_of a a.function.result) (with_parameters a a.function.parameters a.function.locals (nothing_written types))

abbrev pub body : Around → StmtForm → State → State
body a (block items closing) s = returned_at_end (ends (block items closing)) closing (statement a items s)
body a _ s = s

-- all that is written of a function, where the table has these types before
abbrev pub written : Around → Types → State
written a types = body a a.function.body (first_state a types)

-- ---- programs

-- the functions in their order; the table of types grows from one to the next
abbrev pub functions : ProgramForm → List FunctionForm → Functions → Functions
functions p [] w = w
functions p (f ∷ fs) w = functions p fs (with_function f (written (around p f) w.types) w)

abbrev pub all_functions : ProgramForm → Functions
all_functions p = functions p p.functions (record { types = p.types; functions = [] })

abbrev pub translated : ProgramForm → Program
translated p = program_from p (all_functions p)
