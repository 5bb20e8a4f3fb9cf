-- The table of types of a typed program has known types alone.
use Rattle.life_typed.specs.Programs.{ProgramForm}
use Rattle.life_well_typed.proofs.TargetsHeld.{struct_member}
use Rattle.life_well_typed.specs.Results.{HasTable}
use Rattle.life_elab_laws.proofs.KnownTypes.{HasKnownTypes}
use Rattle.life_elab_laws.proofs.AdmittedTables.{element_admitted, known_admitted, variable_admitted}

pub known_types : (p : ProgramForm) → HasTable p → HasKnownTypes p.types
known_types p table = record {
  known = known_admitted p.types table.ordered table.objects;
  plain = λ id plain object. element_admitted p.types table.ordered table.objects id (record { object = object; plain = plain });
  members = λ number which id at.
      let is = struct_member p.types table.objects number which id at in (variable_admitted p.types table.ordered table.objects id is.object, is.value);
  chars = table.chars;
}
