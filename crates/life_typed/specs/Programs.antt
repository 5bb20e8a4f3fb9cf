-- Typed programs as plain data.
use Rattle.std.specs.Prelude.{ℕ, Bool, List, [], codes, map, slice_get, unwrap_or}
use Rattle.std.specs.Str.{bytes_eq}
use Rattle.std.specs.declared.alloc.Global.{Global}
use Rattle.std.specs.declared.vec.Vec.{Vec}
use Rattle.life_types.specs.Types.{Types}
use Rattle.life_types.specs.declared.place.Place.{Place}
use Rattle.life_types.specs.declared.ty.NameId.{NameId}
use Rattle.life_types.specs.declared.ty.TyId.{TyId}
use Rattle.life_typed.specs.TypedStatement.{StmtForm, block_view}
use Rattle.life_typed.specs.declared.typed_program.ParameterPromise.{ParameterPromise}
use Rattle.life_typed.specs.declared.typed_program.ResultPromise.{ResultPromise}
use Rattle.life_typed.specs.declared.typed_program.ResultPromise.TheVariants as result_promise
use Rattle.life_typed.specs.declared.typed_program.Typed.{Typed}
use Rattle.life_typed.specs.declared.typed_program.TypedFunction.{TypedFunction}
use Rattle.life_typed.specs.declared.typed_program.TypedLocal.{TypedLocal}
use Rattle.life_typed.specs.declared.typed_program.TypedStruct.{TypedStruct}

-- where names have these texts, whether it is `main`
abbrev pub is_main : List (List ℕ) → NameId → Bool
is_main names name = bytes_eq (unwrap_or (slice_get names name.0) []) (codes "main")

pub data PromiseForm : Type 0 where
  default : PromiseForm
  listed : (parameters : List ℕ) → (fixed null : Bool) → PromiseForm

pub record FunctionForm : Type 0 where
  pub name : NameId
  pub place : Place
  pub first_place : Place
  pub result : TyId
  pub parameters : List ParameterPromise
  pub promise : PromiseForm
  pub locals : List TypedLocal
  pub body : StmtForm

pub record StructForm : Type 0 where
  pub name : NameId
  pub place : Place
  pub members : List NameId

pub record ProgramForm : Type 0 where
  pub names : List (List ℕ)
  pub texts : List (List ℕ)
  pub types : Types
  pub structs : List StructForm
  pub functions : List FunctionForm

-- ---- the views of the program's values

abbrev pub promise_view : ResultPromise → PromiseForm
promise_view result_promise.Default = default
promise_view (result_promise.Listed parameters fixed null) = listed parameters.items fixed null

abbrev pub function_view : TypedFunction → FunctionForm
function_view f = record {
  name = f.name;
  place = f.place;
  first_place = f.first_place;
  result = f.result;
  parameters = f.parameters.items;
  promise = promise_view f.promise;
  locals = f.locals.items;
  body = block_view f.body;
}

abbrev pub struct_view : TypedStruct → StructForm
struct_view s = record { name = s.name; place = s.place; members = s.members.items }

abbrev pub text_view : Vec ℕ Global → List ℕ
text_view text = text.items

abbrev pub program_view : Typed → ProgramForm
program_view p = record {
  names = map text_view p.names.items;
  texts = map text_view p.texts.items;
  types = p.types;
  structs = map struct_view p.structs.items;
  functions = map function_view p.functions.items;
}
