-- The core program of a well typed program writes its results: on every way to a return of a function that gives something back the result was
-- written, but for the int of main.
use Rattle.std.proofs.Common.{◌≡◌, ℕ, Bool, true, false, length, slice_get, Some, None, refl, sym, ap, ◌∙◌}
use Rattle.std.proofs.lemmas.Bool.{false≢true}
use Rattle.life_elab_laws.proofs.StatementKinds.{are_read_functions}
use Rattle.life_types.specs.TypeTests.{is_void}
use Rattle.life_types.specs.declared.ty.NameId.{NameId}
use Rattle.life_types.specs.declared.ty.Ty.{Ty}
use Rattle.life_types.specs.declared.ty.Ty.TheVariants as ty
use Rattle.life_typed.specs.BaseTypes.{type_at}
use Rattle.life_typed.specs.Ends.{ends}
use Rattle.life_typed.specs.Programs.{FunctionForm, ProgramForm, is_main}
use Rattle.life_type_stmt.specs.Bodies.{return_fault}
use Rattle.life_core.specs.Function.{Function}
use Rattle.life_proper.specs.ResultsWritten.{HasResultWritten, HaveResultsWritten, WritesResults, is_written_by, writes_result}
use Rattle.life_proper.proofs.ResultsFound.{results_found}
use Rattle.life_well_typed.specs.Functions.{IsWellTyped}
use Rattle.life_well_typed.specs.Mains.{HasIntMain}
use Rattle.life_well_typed.specs.Results.{HasResults}
use Rattle.life_elab.specs.ProgramForms.{translated}
use Rattle.life_elab.specs.Programs.{around, texts_of}
use Rattle.life_elab_laws.proofs.GivingBack.{GivesResult}
use Rattle.life_elab_laws.proofs.StructTypes.{IsAdmittedTable}
use Rattle.life_elab_laws.proofs.Programs.{IsWritten, int_at, of_all, of_program, one_body, whole, written_result}
use Rattle.life_elab_laws.proofs.ResultTypes.{past_end}
use Rattle.life_elab_laws.proofs.NoVoid.{no_void}

-- ---- what must be written is given back, and control doesn't run past the end

needs : (main : Bool) (t : Ty) (over : Bool) → (main ≡ true → t ≡ ty.Int) → return_fault main (is_void t) over ≡ None → is_written_by main (Some t) ≡ true → (is_void t ≡ false) × (over ≡ true)
needs main t over int e w = let some = no_void (λ (u : Ty). is_written_by main (Some u)) refl t w in (some, past_end main (is_void t) over some unwritten e)
  where
    -- the int of main needn't be
    unwritten : main ≡ true → ⊥
    unwritten m = false≢true (sym (ap (λ (b : Bool). is_written_by b (Some t)) m ∙ ap (λ (u : Ty). is_written_by true (Some u)) (int m)) ∙ w)

-- ---- each function

module _ (p : ProgramForm) (typed : IsWellTyped p) (built : are_read_functions (length (texts_of p)) p p.functions ≡ true) (results : HasResults p) (told : IsAdmittedTable p.types) (mains : HasIntMain p) where
  module _ (n : ℕ) (f : FunctionForm) (at : slice_get p.functions n ≡ Some f) (core : Function) (w : IsWritten p (whole p typed built results told).types f core) where
    gives : writes_result p.names (whole p typed built results told).types core ≡ true → GivesResult (around p f)
    gives must =
        let of = of_program p typed built results told n f at in
        needs (is_main p.names f.name) (type_at p.types f.result) (ends f.body) (int_at p p.functions n f mains at) of.typed.ending
        (ap (λ (x : NameId). is_written_by (is_main p.names x) (Some (type_at p.types f.result))) (sym (ap (λ (c : Function). c.name) w.is))
        ∙ ap (is_written_by (is_main p.names core.name)) (sym (written_result p typed built results told n f at core w))
        ∙ must)

    one_result : HasResultWritten p.names (whole p typed built results told).types core
    one_result must = λ q bits l way here is.
        let g = gives must in
        let body = one_body p typed built results told n f at core w mains in
        results_found (whole p typed built results told).types core body.checked core.parameters (body.returns g) q bits l way here is

  pub program_writes_results : WritesResults (translated p)
  program_writes_results =
      let names = p.names in
      let types = (whole p typed built results told).types in
      of_all p typed built results told (HasResultWritten names types) (HaveResultsWritten names types) tt (λ core cores one others. (one, others)) one_result
