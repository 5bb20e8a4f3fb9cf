-- Functions and programs as definitions see them: plain lists and trees.
use Rattle.std.specs.Prelude.{◌<◌, Bool, ℕ, zero, suc, List, [], ◌∷◌, Option, length, map, option_and_then, slice_get}
use Rattle.life_types.specs.Types.{Types}
use Rattle.life_types.specs.declared.place.Place.{Place}
use Rattle.life_types.specs.declared.ty.NameId.{NameId}
use Rattle.life_types.specs.declared.ty.TyId.{TyId}
use Rattle.life_core.specs.declared.program.CoreFn.{CoreFn}
use Rattle.life_core.specs.declared.program.CoreProgram.{CoreProgram}
use Rattle.life_core.specs.declared.program.Local.{Local}
use Rattle.life_core.specs.declared.program.Promise.{Promise as Promised}
use Rattle.life_core.specs.declared.program.Promise.TheVariants as promised
use Rattle.std.specs.declared.vec.Vec.{Vec}
use Rattle.std.specs.declared.alloc.Global.{Global}
use Rattle.life_core.specs.Tree.{Tree, tree_of}

pub data Promise : Type 0 where
  Default : Promise
  Listed : (inputs : List ℕ) → (fixed null : Bool) → Promise

abbrev pub promise_of : Promised → Promise
promise_of promised.Default = Default
promise_of (promised.Listed inputs fixed null) = Listed inputs.items fixed null

pub record Function : Type 0 where
  pub name : NameId
  pub place : Place
  pub parameters : ℕ
  pub result : TyId
  pub promise : Promise
  pub locals : List Local
  pub body : Tree

abbrev pub function_of : CoreFn → Function
function_of f = record {
  name = f.name;
  place = f.place;
  parameters = f.parameters;
  result = f.result;
  promise = promise_of f.promise;
  locals = f.locals.items;
  body = tree_of f.body;
}

pub record Program : Type 0 where
  pub names : List (List ℕ)
  pub members : List (List NameId)
  pub types : Types
  pub texts : List (List ℕ)
  pub functions : List Function

-- the bytes of a name or a text
abbrev pub name_bytes : Vec ℕ Global → List ℕ
name_bytes text = text.items

-- the names of a struct's members
abbrev pub member_names : Vec NameId Global → List NameId
member_names names = names.items

-- the name of a member, by the numbers of the struct and the member
abbrev pub member_name : List (List NameId) → ℕ → ℕ → Option NameId
member_name members number member = option_and_then (λ names. slice_get names member) (slice_get members number)

abbrev pub HasMember : List (List NameId) → ℕ → ℕ → Type 0
HasMember [] number member = ⊥
HasMember (names ∷ more) zero member = member < length names
HasMember (names ∷ more) (suc number) member = HasMember more number member

abbrev pub program_of : CoreProgram → Program
program_of p = record {
  names = map name_bytes p.names.texts.items;
  members = map member_names p.names.members.items;
  types = p.types;
  texts = map name_bytes p.texts.items;
  functions = map function_of p.functions.items;
}
