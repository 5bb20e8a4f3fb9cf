-- The core program of a well typed program is well formed, has no local that is a slot, and leaves alone what is given over.
use Rattle.std.proofs.Common.{◌≡◌, ◌⊎◌, inl, inr, ℕ, true, List, length, map, nat_le, slice_get, Some, refl, ap, ◌∙◌, subst}
use Rattle.std.specs.List.{list_all}
use Rattle.std.proofs.lemmas.Bool.{and_from}
use Rattle.life_types.specs.Trees.{IsOrdered}
use Rattle.life_types.specs.Types.{HasEachOnce, Types}
use Rattle.life_types.specs.declared.ty.TyId.{TyId}
use Rattle.life_elab_laws.proofs.ObjectTypes.{is_struct}
use Rattle.life_elab_laws.proofs.StatementKinds.{are_read_functions}
use Rattle.life_typed.specs.Programs.{FunctionForm, ProgramForm}
use Rattle.life_core.specs.Function.{Function}
use Rattle.life_core_served.specs.Served.{has_no_slots, is_no_slot, lacks_slots}
use Rattle.life_core.specs.declared.program.Local.{Local}
use Rattle.life_proper.specs.GivenOver.{all_keep_given, keeps_all_given}
use Rattle.life_proper.specs.WellFormed.{is_well_formed_tree}
use Rattle.life_proper.specs.WellFormedPrograms.{IsWellFormedProgram, are_well_formed_locals, have_names, is_name, is_result_of, is_well_formed_function, names_parameters}
use Rattle.life_well_typed.specs.Functions.{IsWellTyped}
use Rattle.life_well_typed.specs.Mains.{HasIntMain}
use Rattle.life_well_typed.specs.Names.{HasNames}
use Rattle.life_well_typed.specs.Results.{HasResults, HaveMembers}
use Rattle.life_elab.specs.ProgramForms.{translated, written}
use Rattle.life_elab.specs.Programs.{around, member_names, texts_of}
use Rattle.life_elab_laws.proofs.ExpressionKinds.{variable_built}
use Rattle.life_elab_laws.proofs.Fronts.{IsFront}
use Rattle.life_elab_laws.proofs.AdmittedTypes.{variable_found}
use Rattle.life_elab_laws.proofs.ServedLocals.{all_pass, local_served}
use Rattle.life_elab_laws.proofs.KeptGiven.{keeps_all}
use Rattle.life_elab_laws.proofs.ProgramNames.{members_named, own_names}
use Rattle.life_elab_laws.proofs.StructTypes.{IsAdmittedTable, plain_later}
use Rattle.life_elab_laws.proofs.Programs.{IsWritten, each_written, front, grows, of_program, one_body, one_head, passed_by_all, whole, whole_front, whole_order}
use Rattle.life_elab_laws.proofs.WrittenLocals.{IsIntermediate, IsOwn, fits_later, hidden_later, hidden_local, local_later, owner_local, register_local, value_fits, unique_local, struct_local}
use Rattle.life_elab_laws.proofs.FormedLocals.{variable_fits}
use Rattle.life_elab_laws.proofs.Shaped.{owner_later, unique_later, PlainStays}

module _ (p : ProgramForm) (typed : IsWellTyped p) (built : are_read_functions (length (texts_of p)) p p.functions ≡ true) (results : HasResults p) (told : IsAdmittedTable p.types) (mains : HasIntMain p) where
  abbrev functions : List Function
  functions = (whole p typed built results told).functions

  abbrev types : Types
  types = (whole p typed built results told).types

  abbrev names : ℕ
  names = length p.names

  abbrev texts : ℕ
  texts = length (texts_of p)

  -- ---- one function

  module _ (n : ℕ) (f : FunctionForm) (at : slice_get p.functions n ≡ Some f) (core : Function) (w : IsWritten p types f core) where
    served_local : (x : ℕ) (l : Local) → slice_get core.locals x ≡ Some l → is_no_slot types l ≡ true
    served_local x l there = go ((grows p typed built results told n f at w.before w.table).own x l (subst (λ (c : Function). slice_get c.locals x ≡ Some l) w.is there))
      where
        stays : PlainStays p.types types
        stays = plain_later p.types types (whole_front p typed built results told) (whole_order p typed built results told) told.structs

        front_is : IsFront p.types.types types.types
        front_is = front p typed built results told n f at core w

        go : IsIntermediate p.types (written (around p f) w.before).types l ⊎ IsOwn (around p f) l → is_no_slot types l ≡ true
        go (inl is) = elim is.fits [
          | inl register ↦ local_served types l is.ty (w.later l.ty.0 is.ty is.typed) (register_local types is.ty (fits_later p.types types front_is stays is.ty register.1))
          | inr other ↦ local_served types l is.ty (w.later l.ty.0 is.ty is.typed) (elim other [
            | inl temporary ↦ elim temporary.1 [
              | inl value ↦ register_local types is.ty (value_fits types is.ty value)
              | inr made ↦ elim made [
                | inl owner ↦ owner_local types is.ty (owner_later p.types types front_is stays is.ty owner)
                | inr others ↦ elim others [
                  | inl unique ↦ unique_local types is.ty (unique_later p.types types front_is stays is.ty unique)
                  | inr structure ↦ struct_local types is.ty (ap is_struct structure.is)
                ]
              ]
            ]
            | inr hidden ↦ hidden_local p.types types front_is stays is.ty (hidden_later p.types (written (around p f) w.before).types types w.later is.ty hidden.1)
          ])
        ]
        go (inr is) =
            let found = variable_found p.types is.variable.ty (variable_built p.types f.locals is.number is.variable (of_program p typed built results told n f at).built.variables is.there) in
            local_served types l found.0 (ap (λ (id : TyId). slice_get types.types id.0) is.of.typed ∙ front_is is.variable.ty.0 found.0 found.1)
            (local_later p.types types front_is stays found.0 (variable_fits p.types found.0 found.2))

    one_served : lacks_slots types core ≡ true
    one_served = all_pass (is_no_slot types) core.locals served_local

    body_formed : is_well_formed_tree types texts functions core core.body ≡ true
    body_formed = (one_body p typed built results told n f at core w mains).stated.formed

    one_formed : HasNames p → is_well_formed_function types names texts functions core ≡ true
    one_formed named =
        let head = one_head p typed built results told n f at core w named in
        and_from (is_name names core.name) _ head.name
        (and_from (nat_le core.parameters (length core.locals)) _ head.count
        (and_from (names_parameters core.parameters core.promise) _ head.promise
        (and_from (is_result_of types core.result (slice_get types.types core.result.0) (slice_get core.locals core.parameters)) _ head.result
        (and_from (are_well_formed_locals types names core.parameters 0 core.locals) (is_well_formed_tree types texts functions core core.body) head.locals body_formed))))

    one_keeps : all_keep_given types core ≡ true
    one_keeps =
        let body = one_body p typed built results told n f at core w mains in keeps_all types core body.apart body.stated.given

  -- ---- all of them

  pub program_keeps : keeps_all_given (translated p) ≡ true
  program_keeps = passed_by_all p typed built results told (all_keep_given types) (list_all (all_keep_given types)) refl (λ core cores. refl) one_keeps

  pub program_serves : has_no_slots (translated p) ≡ true
  program_serves = passed_by_all p typed built results told (lacks_slots types) (list_all (lacks_slots types)) refl (λ core cores. refl) one_served

  pub program_formed : HasNames p → IsOrdered p.types → HasEachOnce p.types → HaveMembers p.structs p.types.structs → IsWellFormedProgram (translated p)
  program_formed named ordered once structs =
      let order = whole_order p typed built results told in
      record {
        table = order.ordered ordered;
        once = order.once once;
        members = ap (λ (ss : List (List TyId)). have_names names ss (map member_names p.structs)) order.structs ∙ members_named names p.structs p.types.structs named.members structs;
        own_names = own_names p types p.functions functions (each_written p typed built results told) ∙ named.own;
        functions =
            passed_by_all p typed built results told (is_well_formed_function types names texts functions) (list_all (is_well_formed_function types names texts functions)) refl (λ core cores. refl)
            (λ n f at core w. one_formed n f at core w named);
      }
