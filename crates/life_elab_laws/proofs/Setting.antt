-- Where a function is written: in a program whose core functions take and give what they should.
use Rattle.std.proofs.Common.{◌≡◌, ℕ, true, false, List, None, Some, slice_get, ◌<◌}
use Rattle.life_types.specs.Pointees.{ty_of}
use Rattle.life_types.specs.Trees.{members_at}
use Rattle.life_types.specs.TypeTests.{is_void}
use Rattle.life_types.specs.Types.{Types, class_at}
use Rattle.life_types.specs.declared.ty.Class.TheVariants.{Value}
use Rattle.life_types.specs.declared.ty.Ty.{Ty}
use Rattle.life_types.specs.declared.ty.Ty.TheVariants as ty
use Rattle.life_types.specs.declared.ty.TyId.{TyId}
use Rattle.life_elab_laws.proofs.ObjectTypes.{are_admitted_variables, is_admitted_result}
use Rattle.life_typed.specs.BaseTypes.{type_at}
use Rattle.life_typed.specs.Ends.{ends}
use Rattle.life_typed.specs.Programs.{FunctionForm}
use Rattle.life_typed.specs.declared.basic.TheConstants.{CHAR}
use Rattle.life_core.specs.Function.{Function}
use Rattle.life_core.specs.declared.program.Local.{Local}
use Rattle.life_well_typed.specs.Expressions.{parameter_types}
use Rattle.life_writer.specs.Around.{Around, result_local}
use Rattle.life_elab_laws.proofs.Calls.{IsCallee}
use Rattle.life_elab_laws.proofs.CopiedStructs.{CopiesStay}
use Rattle.life_elab_laws.proofs.Fronts.{IsFront}
use Rattle.life_elab_laws.proofs.HandedTypes.{IsHandedType}
use Rattle.life_elab_laws.proofs.Shaped.{AreShaped, PlainStays}
use Rattle.life_elab_laws.proofs.StructTypes.{HasStructs}
use Rattle.life_elab_laws.proofs.OwnLocals.{first_own}

-- what a return gives back: nothing, or a value, which may be left unwritten; or something that is written, past whose text control doesn't run
pub data GivesBack (a : Around) (types : Types) (f : Function) : Type 0 where
  unasked : class_at types f.result ≡ Value → GivesBack a types f
  asked : f.parameters ≡ result_local a → is_void (type_at a.program.types a.function.result) ≡ false → ends a.function.body ≡ true → GivesBack a types f

pub record Setting (a : Around) (types : Types) (fs : List Function) (f : Function) : Type 0 where
  pub front : IsFront a.program.types.types types.types
  pub variables : are_admitted_variables a.program.types a.function.locals ≡ true
  -- structs hold what they may, and have the same members in both tables
  pub values : HasStructs a.program.types
  pub structs : HasStructs types
  pub members : (number : ℕ) → members_at types number ≡ members_at a.program.types number
  pub plain : PlainStays a.program.types types
  pub copies : CopiesStay a.program.types types
  -- the table has chars, where views have elements
  pub chars : type_at a.program.types CHAR ≡ ty.Char
  pub returned : (g : ℕ) (of : FunctionForm) → slice_get a.program.functions g ≡ Some of → is_admitted_result a.program.types of.result ≡ true
  pub result : is_admitted_result a.program.types a.function.result ≡ true
  pub taken : (g : ℕ) (of : FunctionForm) → slice_get a.program.functions g ≡ Some of → (n : ℕ) (id : TyId) → slice_get (parameter_types (Some of)) n ≡ Some id → IsHandedType a.program.types id
  pub callees : (g : ℕ) (of : FunctionForm) → slice_get a.program.functions g ≡ Some of → IsCallee types fs g of
  -- .. and the table has the types of what they give back
  pub results : (g : ℕ) (of : FunctionForm) → slice_get a.program.functions g ≡ Some of → (t : Ty) × (slice_get a.program.types.types of.result.0 ≡ Some t)
  -- what the function itself gives back; its locals without names are registers, and the others variables
  pub gives : GivesBack a types f
  pub shaped : AreShaped types f.locals
  -- .. its own locals lie beyond that of the result, which has no name
  pub own : is_void (ty_of types f.result) ≡ false → f.parameters < first_own a
  pub nameless : (l : Local) → slice_get f.locals f.parameters ≡ Some l → is_void (ty_of types f.result) ≡ false → l.name ≡ None
