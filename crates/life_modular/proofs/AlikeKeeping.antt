-- What changes an owner that a parameter keeps as it is looks only at the types that the function and the called one name.
use Rattle.std.proofs.Common.{◌≡◌, ◌∙◌, ap, ap₂, cond, map, option_map, refl, ℕ, Bool, List, [], Option, Some, None, if◌then◌else◌, slice_get}
use Rattle.std.proofs.lemmas.Option.{slice_get-map}
use Rattle.life_types.specs.Trees.{holds_owner}
use Rattle.life_types.specs.Types.{Types}
use Rattle.life_types.specs.declared.place.Place.{Place}
use Rattle.life_types.specs.declared.ty.TyId.{TyId}
use Rattle.life_core.specs.Function.{Function}
use Rattle.life_core.specs.Operands.{Argument, Operand, Name, Through}
use Rattle.life_core.specs.Step.{Step, Copy, Move, Changes, Call}
use Rattle.life_core.specs.declared.program.Local.{Local}
use Rattle.life_pset.specs.Elements.{Input, called, owner_changed}
use Rattle.life_pset.specs.Shapes.{operand_type, tree_if}
use Rattle.life_pset.specs.declared.element.Cause.{Cause}
use Rattle.life_pset.specs.declared.element.Element.{Element}
use Rattle.life_pset.specs.declared.element.Element.TheVariants as element
use Rattle.life_pset.specs.declared.element.Fact.{Fact}
use Rattle.life_pset.specs.declared.element.Root.{Root}
use Rattle.life_pset.specs.declared.element.Root.TheVariants as root
use Rattle.life_contract.specs.Located.{is_location}
use Rattle.life_contract.specs.Signatures.{Signature}
use Rattle.life_rules.specs.Callees.{callee_of}
use Rattle.life_rules.specs.Keeping.{is_kept, keeping_diags, kept_by_call, kept_input, kept_root, kept_target, kept_through}
use Rattle.life_rules.specs.Texts.{input_number, input_of, inputs_at}
use Rattle.life_rules.specs.declared.diag.Diag.{Diag}
use Rattle.life_modular.proofs.Renumbered.{local_renumbered}
use Rattle.life_modular.specs.Renumbering.{Renumbering, renumbered_function, renumbered_input, renumbered_local, renumbered_signature}
use Rattle.life_modular.specs.Vocabulary.{Vocabulary, CalleeNames, HaveAlike, Names}
use Rattle.life_modular.proofs.AlikeCalling.{callee_renumbered}
use Rattle.life_modular.proofs.AlikeInputs.{is_mutating_argument_same, local_inputs_same}
use Rattle.life_modular.proofs.AlikeTypes.{IsLocalNamed, local_named, operand_type_named, operand_type_same, tree_if_same}

module _ {v : Vocabulary} {new : Renumbering} {these those : Types} (alike : HaveAlike v new these those) (f : Function) (names : Names v f) where
  -- ---- the pointer that a root stands for

  inputs_at_same : (n x : ℕ) (o : Option Local) → IsLocalNamed v o
      → inputs_at those n x (option_map (renumbered_local new) o) ≡ map (renumbered_input new) (inputs_at these n x o)
  inputs_at_same n x None named = refl
  inputs_at_same n x (Some l) named = local_inputs_same alike n x l named

  pub input_of_same : (q : ℕ) (member : Option ℕ)
      → input_of those (renumbered_function new f) q member ≡ option_map (renumbered_input new) (input_of these f q member)
  input_of_same q member =
      ap
      (λ (inputs : List Input). slice_get inputs (input_number member))
      (ap (inputs_at those f.parameters q) (local_renumbered new f q) ∙ inputs_at_same f.parameters q (slice_get f.locals q) (local_named alike names q))
      ∙ slice_get-map (renumbered_input new) (inputs_at these f.parameters q (slice_get f.locals q)) (input_number member)

  module _ (function : ℕ) (place : Place) where
    -- ---- what changes it

    is_kept_renumbered : (o : Option Local) → is_kept (option_map (renumbered_local new) o) ≡ is_kept o
    is_kept_renumbered None = refl
    is_kept_renumbered (Some l) = refl

    kept_input_renumbered : (c : Cause) (o : Option Input) → kept_input function place c (option_map (renumbered_input new) o) ≡ kept_input function place c o
    kept_input_renumbered c None = refl
    kept_input_renumbered c (Some i) = refl

    kept_root_same : (c : Cause) (r : Root) → kept_root those function (renumbered_function new f) place c r ≡ kept_root these function f place c r
    kept_root_same c (root.Local x) = refl
    kept_root_same c (root.Input q member) =
        ap₂ (λ (kept : Bool) (wrong : List Diag). cond kept wrong [])
        (ap is_kept (local_renumbered new f q) ∙ is_kept_renumbered (slice_get f.locals q))
        (ap (kept_input function place c) (input_of_same q member) ∙ kept_input_renumbered c (input_of these f q member))

    kept_target_same : (c : Cause) (e : Element) → kept_target those function (renumbered_function new f) place c e ≡ kept_target these function f place c e
    kept_target_same c (element.At a) = kept_root_same c a.root
    kept_target_same c _ = refl

    kept_through_same : (fact : Fact) (o : Operand)
        → kept_through those function (renumbered_function new f) place fact o ≡ kept_through these function f place fact o
    kept_through_same fact (Name l) = refl
    kept_through_same fact (Through p members) = ap (λ (wrong : List Diag). cond (is_location p fact.location) wrong []) (kept_target_same (owner_changed place) fact.element)

    kept_by_call_same : (g : ℕ) (callee : Option Signature) → CalleeNames v callee → (xs : List Argument) (fact : Fact)
        → kept_by_call those function (renumbered_function new f) place g (option_map (renumbered_signature new) callee) xs fact
        ≡ kept_by_call these function f place g callee xs fact
    kept_by_call_same g None called xs fact = refl
    kept_by_call_same g (Some sig) heads xs fact =
        ap₂ (λ (mutating : Bool) (wrong : List Diag). cond mutating wrong [])
        (is_mutating_argument_same alike (heads sig refl) xs fact.location)
        (kept_target_same (called place g) fact.element)

    holds_owner_same : (o : Operand)
        → holds_owner (tree_if those (operand_type those (renumbered_function new f) o)) ≡ holds_owner (tree_if these (operand_type these f o))
    holds_owner_same o =
        ap (λ (id : Option TyId). holds_owner (tree_if those id)) (operand_type_same alike names o)
        ∙ ap holds_owner (tree_if_same alike (operand_type these f o) (operand_type_named alike names o))

    pub keeping_diags_same : (sigs : List Signature) (i : Step) → CalleeNames v (callee_of sigs i) → (fact : Fact)
        → keeping_diags (map (renumbered_signature new) sigs) those function (renumbered_function new f) place i fact
        ≡ keeping_diags sigs these function f place i fact
    keeping_diags_same sigs (Copy to from) heads fact =
        ap₂ (λ (owner : Bool) (wrong : List Diag). if owner then wrong else []) (holds_owner_same to) (kept_through_same fact to)
    keeping_diags_same sigs (Move to y) heads fact = kept_through_same fact to
    keeping_diags_same sigs (Changes o change) heads fact = kept_through_same fact o
    keeping_diags_same sigs (Call target g xs) heads fact =
        ap (λ (callee : Option Signature). kept_by_call those function (renumbered_function new f) place g.0 callee xs fact) (callee_renumbered new sigs g.0)
        ∙ kept_by_call_same g.0 (slice_get sigs g.0) heads xs fact
    keeping_diags_same sigs _ heads fact = refl
