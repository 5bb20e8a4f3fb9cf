-- Each function of a well typed program is of the kinds that the laws read.
use Rattle.std.proofs.Common.{◌≡◌, ℕ, true, false, ◌&&◌, List, [], ◌∷◌, length, refl, take}
use Rattle.std.proofs.lemmas.Bool.{and_from}
use Rattle.life_elab_laws.proofs.FormKinds.{is_read_form}
use Rattle.life_elab_laws.proofs.ObjectTypes.{are_admitted_parameters, are_admitted_variables, is_admitted_result}
use Rattle.life_elab_laws.proofs.StatementKinds.{are_read_functions, is_read_function, is_read_statement}
use Rattle.life_typed.specs.Programs.{FunctionForm, ProgramForm}
use Rattle.life_typed.specs.TypedForm.{text}
use Rattle.life_typed.specs.TypedStatement.{StmtForm, block}
use Rattle.life_typed.specs.declared.typed_program.TypedLocal.{TypedLocal}
use Rattle.life_well_typed.specs.Functions.{AreWellTyped, IsBody, IsWellTyped}
use Rattle.life_well_typed.specs.Results.{HasTable, HaveVariables}
use Rattle.life_well_typed.specs.Visible.{with_parameters}
use Rattle.life_elab_laws.proofs.KnownTables.{known_types}
use Rattle.life_elab_laws.proofs.KnownTypes.{HasKnownTypes}
use Rattle.life_elab_laws.proofs.AdmittedTables.{parameters_admitted, result_admitted, variables_admitted}
use Rattle.life_elab_laws.proofs.TypedExpressions.{element_list, expression_read, given_arguments, member_arguments}
use Rattle.life_elab_laws.proofs.TypedSimples.{HasReadings}
use Rattle.life_elab_laws.proofs.TypedStatements.{statement_read}

module _ (p : ProgramForm) (table : HasTable p) (texts : ℕ) (literals : (n : ℕ) → is_read_form texts p (text n) ≡ true) where
  known : HasKnownTypes p.types
  known = known_types p table

  readings : (locals : List TypedLocal) → are_admitted_variables p.types locals ≡ true → HasReadings p locals texts
  readings locals variables = record {
    reads = λ visible form h. expression_read p locals visible texts literals known variables form h;
    arguments = λ visible ids form given are. given_arguments p locals visible texts literals known variables ids form given are;
    members = λ visible ids form given are. member_arguments p locals visible texts literals known variables ids form given are;
    elements = λ visible id form worth given are. element_list p locals visible texts literals known variables id form worth given are;
  }

  body_read : (f : FunctionForm) (body : StmtForm) → are_admitted_variables p.types f.locals ≡ true → IsBody p f body → is_read_statement texts p f.locals body ≡ true
  body_read f (block items closing) variables h =
      statement_read p f.locals f.result texts (readings f.locals variables) table.once known.known table.chars items false (with_parameters (length f.parameters)) h
  body_read f _ variables h = absurd h

  functions_read : (fs : List FunctionForm) → AreWellTyped p fs → HaveVariables p.types fs → are_read_functions texts p fs ≡ true
  functions_read [] typed have = refl
  functions_read (f ∷ fs) typed have =
      let variables = variables_admitted p.types table.ordered table.objects f.locals have.0 in
      and_from (is_read_function texts p f) (are_read_functions texts p fs)
      (and_from (is_admitted_result p.types f.result) (are_admitted_parameters p.types (take (length f.parameters) f.locals) && (are_admitted_variables p.types f.locals && is_read_statement texts p f.locals f.body))
      (result_admitted p.types table.ordered table.objects f.result)
      (and_from (are_admitted_parameters p.types (take (length f.parameters) f.locals)) (are_admitted_variables p.types f.locals && is_read_statement texts p f.locals f.body)
      (parameters_admitted p.types table.ordered table.objects f.locals (length f.parameters) have.0)
      (and_from (are_admitted_variables p.types f.locals) (is_read_statement texts p f.locals f.body) variables (body_read f f.body variables typed.0.body))))
      (functions_read fs typed.1 have.1)

  pub program_read : IsWellTyped p → are_read_functions texts p p.functions ≡ true
  program_read typed = functions_read p.functions typed table.variables
