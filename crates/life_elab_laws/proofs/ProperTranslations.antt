-- The core program of a well typed program that passes no limit is proper, and its verdict is one that is proved.
use Rattle.std.proofs.Common.{◌≡◌, ◌+◌, ℕ, Bool, true, false, None, [], ◌∷◌, arith, cond, length, length-append, lt-ltb, refl, subst, sym}
use Rattle.std.specs.Prelude.{nat_lt}
use Rattle.std.proofs.lemmas.Bool.Decides.{nat_tests}
use Rattle.life_typed.specs.Programs.{ProgramForm}
use Rattle.life_typed.specs.TypedForm.{text}
use Rattle.life_pset.specs.Limits.{IsProgramWithinLimits}
use Rattle.life_core_served.specs.ProperPrograms.{IsProperProgram, IsServedProgram}
use Rattle.life_proper.proofs.ProperFunctions.{ready_program}
use Rattle.life_well_typed.specs.Functions.{IsWellTyped}
use Rattle.life_well_typed.specs.Mains.{HasIntMain}
use Rattle.life_well_typed.specs.Names.{HasNames}
use Rattle.life_well_typed.specs.Results.{HasResults, HasTable}
use Rattle.life_writer.specs.Around.{text_in}
use Rattle.life_elab.specs.Bounds.{HaveShortPlaces}
use Rattle.life_elab.specs.Over as over
use Rattle.life_elab.specs.Over.{over_each, over_functions, over_structs, too_many}
use Rattle.life_elab.specs.ProgramForms.{translated}
use Rattle.life_elab.specs.Programs.{texts_of}
use Rattle.life_elab_laws.proofs.AdmittedTables.{structs_admitted}
use Rattle.life_elab_laws.proofs.FormKinds.{is_read_form}
use Rattle.life_elab_laws.proofs.StatementKinds.{are_read_functions}
use Rattle.life_elab_laws.proofs.PassedNone.{first_none}
use Rattle.life_elab_laws.proofs.Programs.{program_breaks, program_checked, program_short}
use Rattle.life_elab_laws.proofs.StructTypes.{IsAdmittedTable, structs_told}
use Rattle.life_elab_laws.proofs.TypedPrograms.{program_read}
use Rattle.life_elab_laws.proofs.WellFormedTranslations.{program_formed, program_keeps, program_serves}
use Rattle.life_elab_laws.proofs.WrittenResults.{program_writes_results}

-- the text that ends a line stands behind those of the file
text_there : (n texts : ℕ) → nat_lt (cond (nat_lt n texts) n texts) (texts + 1) ≡ true
text_there n texts = go (nat_lt n texts) refl
  where
    go : (b : Bool) → nat_lt n texts ≡ b → nat_lt (cond b n texts) (texts + 1) ≡ true
    go true is = grind (arith, nat_tests)
    go false is = lt-ltb texts (texts + 1) (omega arith)

module _ (p : ProgramForm) (typed : IsWellTyped p) (results : HasResults p) (table : HasTable p) (none : over.over p (translated p) ≡ None) where
  -- each text that is written is there
  literals : (n : ℕ) → is_read_form (length (texts_of p)) p (text n) ≡ true
  literals n = subst (λ (texts : ℕ). nat_lt (text_in p n) texts ≡ true) (sym (length-append p.texts ((10 ∷ []) ∷ []))) (text_there n (length p.texts))

  read : are_read_functions (length (texts_of p)) p p.functions ≡ true
  read = program_read p table (length (texts_of p)) literals typed

  told : IsAdmittedTable p.types
  told = record { chars = table.chars; structs = structs_told p.types table.ordered table.once (structs_admitted p table none) }

  short : HaveShortPlaces (translated p).types (translated p).functions
  short =
      let core = translated p in
      let each = over_each core.types p.structs core.functions in
      program_short p typed read results told (first_none (over_structs core.types 0 p.structs) (over_functions core.types core.functions) (first_none (too_many p) each none).1).1

  proper : HasNames p → HasIntMain p → IsProgramWithinLimits (translated p) → IsProperProgram (translated p)
  proper names mains limits = record {
    well_formed = program_formed p typed read results told mains names table.ordered table.once table.structs;
    ready = ready_program (translated p) (program_checked p typed read results told mains);
    results = program_writes_results p typed read results told mains;
    breaks = program_breaks p typed read results told mains;
    given = program_keeps p typed read results told mains;
    limits = limits;
  }

  served : HasIntMain p → IsServedProgram (translated p)
  served mains = record {
    serves = program_serves p typed read results told mains;
  }

pub translation_proper : (p : ProgramForm) → IsWellTyped p → HasResults p → HasTable p → HasNames p → HasIntMain p → over.over p (translated p) ≡ None → IsProgramWithinLimits (translated p) → IsProperProgram (translated p)
translation_proper p typed results table names mains none limits = proper p typed results table none names mains limits

pub translation_served : (p : ProgramForm) → IsWellTyped p → HasResults p → HasTable p → HasIntMain p → over.over p (translated p) ≡ None → IsServedProgram (translated p)
translation_served p typed results table mains none = served p typed results table none mains

pub translation_short : (p : ProgramForm) → IsWellTyped p → HasResults p → HasTable p → over.over p (translated p) ≡ None → HaveShortPlaces (translated p).types (translated p).functions
translation_short p typed results table none = short p typed results table none
