-- What holds where a construct stands as checking goes on, and what the finished program has of it.
use Rattle.std.specs.Prelude.{◌≡◌, ℕ, List, Some, Contains, length, slice_get}
use Rattle.life_types.specs.Trees.{IsOrdered}
use Rattle.life_types.specs.Types.{Types, HasEachOnce, HasType, HasTypes}
use Rattle.life_types.specs.declared.ty.Ty.TheVariants as ty
use Rattle.life_typed.specs.BaseTypes.{base_types}
use Rattle.life_typed.specs.Programs.{FunctionForm, ProgramForm}
use Rattle.life_typed.specs.declared.typed_program.TypedLocal.{TypedLocal}
use Rattle.life_names.specs.Environment.{Scope, SignatureView, StructureView}
use Rattle.life_names.specs.declared.environment.Entity.TheVariants as entity
use Rattle.life_typing.specs.Structs.{types_of}
use Rattle.life_well_typed.specs.Expressions.{parameter_types}
use Rattle.life_well_typed.specs.Tables.{HasObjects, IsObject}
use Rattle.life_well_typed.specs.Visible.{Visible}

-- ---- lists in which what stood at a number stays there

abbrev pub Keeps : {A : Type 0} → List A → List A → Type 0
Keeps {A = A} xs ys = (n : ℕ) (x : A) → slice_get xs n ≡ Some x → slice_get ys n ≡ Some x

-- ---- tables in which older numbers stay, and to which no type is added that is there or is made of what is no object

pub record Grows (old new : Types) : Type 0 where
  pub types : Keeps old.types new.types
  pub once : HasEachOnce old → HasEachOnce new
  pub objects : HasObjects old → HasObjects new
  pub structs : Keeps old.structs new.structs

-- the table has a struct under this number: its type, and its members
pub record HasStruct (types : Types) (number : ℕ) (s : StructureView) : Type 0 where
  pub type : slice_get types.types s.ty.0 ≡ Some (ty.Struct number)
  pub members : slice_get types.structs number ≡ Some (types_of s.members)

abbrev pub HasStructs : Types → List StructureView → Type 0
HasStructs types structs = (n : ℕ) (s : StructureView) → slice_get structs n ≡ Some s → HasStruct types n s

-- ---- what holds of a scope and a table as checking goes on, where so much is declared and visible

pub record IsSound (v : Visible) (scope : Scope) (types : Types) : Type 0 where
  pub ordered : IsOrdered types
  pub based : Grows base_types types
  pub structs_there : HasStructs types scope.structs
  pub structs_count : length types.structs ≡ length scope.structs
  pub locals_there : (n : ℕ) (l : TypedLocal) → slice_get scope.locals n ≡ Some l → IsObject types l.ty
  pub results_there : (n : ℕ) (s : SignatureView) → slice_get scope.functions n ≡ Some s → HasType types s.result
  pub parameters_there : (n : ℕ) (s : SignatureView) → slice_get scope.functions n ≡ Some s → HasTypes types s.parameters
  pub declared : length scope.locals ≡ v.declared
  pub visible : (k n : ℕ) → slice_get scope.visible k ≡ Some (entity.Local n) → Contains v.visible n

-- the program has this function, with these types
pub record HasFunction (p : ProgramForm) (n : ℕ) (s : SignatureView) : Type 0 where
  pub form : FunctionForm
  pub there : slice_get p.functions n ≡ Some form
  pub result : form.result ≡ s.result
  pub parameters : parameter_types (Some form) ≡ s.parameters

-- the program, and the function at hand with these parameters and variables, have in the end what there is here
pub record IsFinal (p : ProgramForm) (locals : List TypedLocal) (scope : Scope) (types : Types) : Type 0 where
  pub grown : Grows types p.types
  pub kept : Keeps scope.locals locals
  pub functions : (n : ℕ) (s : SignatureView) → slice_get scope.functions n ≡ Some s → HasFunction p n s
