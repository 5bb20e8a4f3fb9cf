-- What changes an owner that a parameter of a moved function keeps as it is, is what changed it before, moved.
use Rattle.std.proofs.Common.{◌≡◌, ◌∙◌, ap, cond, refl, ℕ, Bool, List, [], Option, Some, None, if◌then◌else◌, map, option_map, slice_get}
use Rattle.life_types.specs.Trees.{holds_owner}
use Rattle.life_types.specs.Types.{Types}
use Rattle.life_types.specs.declared.place.Place.{Place}
use Rattle.life_types.specs.declared.ty.TyId.{TyId}
use Rattle.life_core.specs.Function.{Function}
use Rattle.life_core.specs.Operands.{Argument, Operand, Name, Through}
use Rattle.life_core.specs.Step.{Step, Copy, Move, Changes, Call}
use Rattle.life_core.specs.declared.program.Local.{Local}
use Rattle.life_pset.specs.Elements.{Input, called, owner_changed}
use Rattle.life_pset.specs.Shapes.{operand_type, tree_if}
use Rattle.life_pset.specs.declared.element.Cause.{Cause}
use Rattle.life_pset.specs.declared.element.Element.{Element}
use Rattle.life_pset.specs.declared.element.Element.TheVariants as element
use Rattle.life_pset.specs.declared.element.Fact.{Fact}
use Rattle.life_pset.specs.declared.element.Root.{Root}
use Rattle.life_pset.specs.declared.element.Root.TheVariants as root
use Rattle.life_contract.specs.Arguments.{is_mutating_argument}
use Rattle.life_contract.specs.Located.{is_location}
use Rattle.life_contract.specs.Signatures.{Signature}
use Rattle.life_rules.specs.Callees.{callee_of}
use Rattle.life_rules.specs.Keeping.{is_kept, keeping_diags, kept_by_call, kept_input, kept_parameter, kept_root, kept_target, kept_through}
use Rattle.life_rules.specs.Texts.{input_number, input_of, inputs_at}
use Rattle.life_modular.specs.Renaming.{Renaming, moved_cause, moved_diag, moved_element, moved_fact, moved_function, moved_local, moved_signature, moved_step}
use Rattle.life_modular.proofs.MovedElements.{local_at_moved, operand_type_moved}
use Rattle.life_modular.proofs.MovedLists.{cond_moved}
use Rattle.life_modular.proofs.MovedMatching.{if_moved}
use Rattle.life_modular.proofs.MovedSignatures.{is_mutating_argument_moved}

module _ (r : Renaming) (types : Types) (f : Function) where
  -- ---- the pointer that a root stands for

  inputs_at_moved : (n x : ℕ) (o : Option Local) → inputs_at types n x (option_map (moved_local r) o) ≡ inputs_at types n x o
  inputs_at_moved n x None = refl
  inputs_at_moved n x (Some l) = refl

  input_of_moved : (q : ℕ) (member : Option ℕ) → input_of types (moved_function r f) q member ≡ input_of types f q member
  input_of_moved q member =
      ap (λ (inputs : List Input). slice_get inputs (input_number member))
      (ap (inputs_at types f.parameters q) (local_at_moved r f q) ∙ inputs_at_moved f.parameters q (slice_get f.locals q))

  is_kept_moved : (o : Option Local) → is_kept (option_map (moved_local r) o) ≡ is_kept o
  is_kept_moved None = refl
  is_kept_moved (Some l) = refl

  module _ (function : ℕ) (place : Place) where
    -- ---- what changes it

    kept_input_moved : (c : Cause) (i : Option Input) → kept_input (r.function function) (r.place place) (moved_cause r c) i ≡ map (moved_diag r) (kept_input function place c i)
    kept_input_moved c None = refl
    kept_input_moved c (Some i) = refl

    kept_parameter_moved : (c : Cause) (q : ℕ) (member : Option ℕ)
        → kept_parameter types (r.function function) (moved_function r f) (r.place place) (moved_cause r c) q member ≡ map (moved_diag r) (kept_parameter types function f place c q member)
    kept_parameter_moved c q member =
        ap
        (λ (kept : Bool). cond kept (kept_input (r.function function) (r.place place) (moved_cause r c) (input_of types (moved_function r f) q member)) [])
        (ap is_kept (local_at_moved r f q) ∙ is_kept_moved (slice_get f.locals q))
        ∙ cond_moved (moved_diag r) (is_kept (slice_get f.locals q)) _ []
        (ap (kept_input (r.function function) (r.place place) (moved_cause r c)) (input_of_moved q member) ∙ kept_input_moved c (input_of types f q member)) refl

    kept_root_moved : (c : Cause) (at : Root)
        → kept_root types (r.function function) (moved_function r f) (r.place place) (moved_cause r c) at ≡ map (moved_diag r) (kept_root types function f place c at)
    kept_root_moved c (root.Local x) = refl
    kept_root_moved c (root.Input q member) = kept_parameter_moved c q member

    kept_target_moved : (c : Cause) (e : Element)
        → kept_target types (r.function function) (moved_function r f) (r.place place) (moved_cause r c) (moved_element r e) ≡ map (moved_diag r) (kept_target types function f place c e)
    kept_target_moved c (element.At a) = kept_root_moved c a.root
    kept_target_moved c _ = refl

    kept_through_moved : (fact : Fact) (o : Operand)
        → kept_through types (r.function function) (moved_function r f) (r.place place) (moved_fact r fact) o ≡ map (moved_diag r) (kept_through types function f place fact o)
    kept_through_moved fact (Name l) = refl
    kept_through_moved fact (Through p members) = cond_moved (moved_diag r) (is_location p fact.location) _ [] (kept_target_moved (owner_changed place) fact.element) refl

    kept_by_call_moved : (g : ℕ) (callee : Option Signature) (xs : List Argument) (fact : Fact)
        → kept_by_call types (r.function function) (moved_function r f) (r.place place) (r.function g) (option_map (moved_signature r) callee) xs (moved_fact r fact)
        ≡ map (moved_diag r) (kept_by_call types function f place g callee xs fact)
    kept_by_call_moved g None xs fact = refl
    kept_by_call_moved g (Some sig) xs fact =
        ap
        (λ (mutating : Bool).
        cond mutating (kept_target types (r.function function) (moved_function r f) (r.place place) (moved_cause r (called place g)) (moved_element r fact.element)) [])
        (is_mutating_argument_moved r sig types xs fact.location)
        ∙ cond_moved (moved_diag r) (is_mutating_argument types sig xs fact.location) _ [] (kept_target_moved (called place g) fact.element) refl

    pub keeping_diags_moved : (these those : List Signature) (i : Step) → callee_of those (moved_step r i) ≡ option_map (moved_signature r) (callee_of these i) → (fact : Fact)
        → keeping_diags those types (r.function function) (moved_function r f) (r.place place) (moved_step r i) (moved_fact r fact)
        ≡ map (moved_diag r) (keeping_diags these types function f place i fact)
    keeping_diags_moved these those (Copy to from) heads fact =
        ap
        (λ (id : Option TyId). if holds_owner (tree_if types id) then kept_through types (r.function function) (moved_function r f) (r.place place) (moved_fact r fact) to else [])
        (operand_type_moved r f types to)
        ∙ if_moved (moved_diag r) (holds_owner (tree_if types (operand_type types f to))) _ [] (kept_through_moved fact to) refl
    keeping_diags_moved these those (Move to y) heads fact = kept_through_moved fact to
    keeping_diags_moved these those (Changes o change) heads fact = kept_through_moved fact o
    keeping_diags_moved these those (Call target g xs) heads fact =
        ap
        (λ (callee : Option Signature).
        kept_by_call types (r.function function) (moved_function r f) (r.place place) (r.function g.0) callee xs (moved_fact r fact))
        heads
        ∙ kept_by_call_moved g.0 (slice_get these g.0) xs fact
    keeping_diags_moved these those _ heads fact = refl
