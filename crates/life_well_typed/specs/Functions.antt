-- Functions and programs that are well typed.
use Rattle.std.specs.Prelude.{◌≡◌, ℕ, ◌≤◌, Bool, true, false, List, [], ◌∷◌, length, nat_lt, None}
use Rattle.std.specs.List.{list_all}
use Rattle.life_types.specs.TypeTests.{is_void}
use Rattle.life_typed.specs.BaseTypes.{type_at}
use Rattle.life_typed.specs.Ends.{ends}
use Rattle.life_typed.specs.Programs.{FunctionForm, ProgramForm, PromiseForm, default, listed, is_main}
use Rattle.life_typed.specs.TypedStatement.{StmtForm, block}
use Rattle.life_type_stmt.specs.Bodies.{return_fault}
use Rattle.life_well_typed.specs.Statements.{IsStatement}
use Rattle.life_well_typed.specs.Visible.{with_parameters}

-- a body is a block, outside of loops, in which the parameters are visible
abbrev pub IsBody : ProgramForm → FunctionForm → StmtForm → Type 0
IsBody p f (block items closing) = IsStatement p f.locals f.result items false (with_parameters (length f.parameters))
IsBody p f _ = ⊥

-- what a result may point to is told by so many parameters
abbrev pub lists_parameters : ℕ → PromiseForm → Bool
lists_parameters n default = true
lists_parameters n (listed parameters fixed null) = list_all (λ (x : ℕ). nat_lt x n) parameters

-- the first locals of a function are its parameters, which its attributes name, and control doesn't run past the end of one that gives something back
pub record IsWellTypedFunction (p : ProgramForm) (f : FunctionForm) : Type 0 where
  pub parameters : length f.parameters ≤ length f.locals
  pub promise : lists_parameters (length f.parameters) f.promise ≡ true
  pub body : IsBody p f f.body
  pub ending : return_fault (is_main p.names f.name) (is_void (type_at p.types f.result)) (ends f.body) ≡ None

abbrev pub AreWellTyped : ProgramForm → List FunctionForm → Type 0
AreWellTyped p [] = Unit {0}
AreWellTyped p (f ∷ fs) = IsWellTypedFunction p f × AreWellTyped p fs

-- each function of a program, over the program's table of types
abbrev pub IsWellTyped : ProgramForm → Type 0
IsWellTyped p = AreWellTyped p p.functions
