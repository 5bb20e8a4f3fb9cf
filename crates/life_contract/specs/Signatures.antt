-- What a function's head says: all that its callers know of it.
use Rattle.std.specs.Prelude.{List, map, take}
use Rattle.life_types.specs.declared.place.Place.{Place}
use Rattle.life_types.specs.declared.ty.NameId.{NameId}
use Rattle.life_types.specs.declared.ty.TyId.{TyId}
use Rattle.life_core.specs.Function.{Function, Promise}
use Rattle.life_core.specs.declared.program.Local.{Local}
use Rattle.life_contract.specs.declared.param.Param.{Param}

pub record Signature : Type 0 where
  pub name : NameId
  pub place : Place
  pub parameters : List Param
  pub result : TyId
  pub promise : Promise

abbrev pub parameter_of : Local → Param
parameter_of l = record { name = l.name; ty = l.ty; nonnull = l.nonnull; keeps = l.keeps }

-- its parameters are its first locals
abbrev pub signature_of : Function → Signature
signature_of f = record {
  name = f.name;
  place = f.place;
  parameters = map parameter_of (take f.parameters f.locals);
  result = f.result;
  promise = f.promise;
}

-- the signature of each function, in their order
abbrev pub signatures_of : List Function → List Signature
signatures_of fs = map signature_of fs
