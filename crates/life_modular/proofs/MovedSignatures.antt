-- A signature that is moved has the inputs of before, and promises and admits the same.
use Rattle.std.proofs.Common.{◌≡◌, ◌∙◌, ◌++◌, ◌&&◌, ◌||◌, ℕ, Bool, true, false, not, List, [], ◌∷◌, Option, Some, None, cond, length, map, option_map, take, refl, ap, ap₂}
use Rattle.std.specs.List.{flat_map, list_any}
use Rattle.std.proofs.lemmas.List.{length-map, take-map}
use Rattle.life_types.specs.Trees.{holds_owner}
use Rattle.life_types.specs.TypeTests.{is_constant, is_pointer}
use Rattle.life_types.specs.Types.{Types}
use Rattle.life_types.specs.declared.ty.Ty.{Ty}
use Rattle.life_core.specs.Function.{Function}
use Rattle.life_core.specs.Operands.{Argument}
use Rattle.life_core.specs.declared.program.Local.{Local}
use Rattle.life_core.specs.declared.program.LocalKind.TheVariants.{Object}
use Rattle.life_pset.specs.Elements.{Input, inputs_from, local_place, locations_in}
use Rattle.life_pset.specs.Shapes.{target_type, tree_if, ty_if}
use Rattle.life_pset.specs.declared.element.AbsPlace.{AbsPlace}
use Rattle.life_pset.specs.declared.element.Element.{Element}
use Rattle.life_pset.specs.declared.element.Element.TheVariants as element
use Rattle.life_contract.specs.Arguments.{is_argument_of, is_mutating_argument}
use Rattle.life_contract.specs.Breaking.{NotAdmitted, breaks_apart, breaks_at, overlapping}
use Rattle.life_contract.specs.Inputs.{admits_null, bears_keeps, bears_nonnull, input_parameter, inputs_of_signature, is_mutating, may_be_null, parameter_local, parameter_number}
use Rattle.life_contract.specs.Promises.{admits_static, element_if, fixed_elements, is_empty, lists_static, owner_elements, promised_behind, promised_places, promises_null, promises_static, result_locations}
use Rattle.life_contract.specs.Signatures.{Signature, parameter_of, signature_of}
use Rattle.life_contract.specs.declared.param.Param.{Param}
use Rattle.life_modular.proofs.AlikeLists.{any_same}
use Rattle.life_modular.proofs.MovedElements.{inputs_from_moved}
use Rattle.life_modular.proofs.MovedLists.{map_moved, slice_get_map}
use Rattle.life_modular.specs.Renaming.{Renaming, moved_break, moved_element, moved_function, moved_local, moved_parameter, moved_signature}

module _ (r : Renaming) where
  pub signature_moved : (f : Function) → signature_of (moved_function r f) ≡ moved_signature r (signature_of f)
  signature_moved f = ap (λ (ps : List Param). record { name = r.name f.name; place = r.place f.place; parameters = ps; result = f.result; promise = f.promise }) parameters_moved
    where
      parameters_moved : map parameter_of (take f.parameters (map (moved_local r) f.locals)) ≡ map (moved_parameter r) (map parameter_of (take f.parameters f.locals))
      parameters_moved =
          ap (map parameter_of) (take-map (moved_local r) f.parameters f.locals)
          ∙ map_moved (moved_local r) (moved_parameter r) parameter_of parameter_of (take f.parameters f.locals) (λ l. refl)

  bears_nonnull_kept : (o : Option Param) → bears_nonnull (option_map (moved_parameter r) o) ≡ bears_nonnull o
  bears_nonnull_kept None = refl
  bears_nonnull_kept (Some p) = refl

  bears_keeps_kept : (o : Option Param) → bears_keeps (option_map (moved_parameter r) o) ≡ bears_keeps o
  bears_keeps_kept None = refl
  bears_keeps_kept (Some p) = refl

  module _ (sig : Signature) where
    pub input_parameter_moved : (i : Input) → input_parameter (moved_signature r sig) i ≡ option_map (moved_parameter r) (input_parameter sig i)
    input_parameter_moved i = slice_get_map (moved_parameter r) sig.parameters (parameter_number i)

    pub bears_nonnull_moved : (i : Input) → bears_nonnull (input_parameter (moved_signature r sig) i) ≡ bears_nonnull (input_parameter sig i)
    bears_nonnull_moved i = ap bears_nonnull (input_parameter_moved i) ∙ bears_nonnull_kept (input_parameter sig i)

    pub bears_keeps_moved : (i : Input) → bears_keeps (input_parameter (moved_signature r sig) i) ≡ bears_keeps (input_parameter sig i)
    bears_keeps_moved i = ap bears_keeps (input_parameter_moved i) ∙ bears_keeps_kept (input_parameter sig i)

    module _ (types : Types) where
      pub inputs_of_signature_moved : inputs_of_signature types (moved_signature r sig) ≡ inputs_of_signature types sig
      inputs_of_signature_moved =
          ap₂ (λ (n : ℕ) (ls : List Local). inputs_from types n 0 ls) (length-map sig.parameters (moved_parameter r))
          (map_moved (moved_parameter r) (moved_local r) (parameter_local (r.place sig.place)) (parameter_local sig.place) sig.parameters (λ p. refl))
          ∙ inputs_from_moved r types (length sig.parameters) 0 (map (parameter_local sig.place) sig.parameters)

      pub admits_null_moved : (i : Input) → admits_null types (moved_signature r sig) i ≡ admits_null types sig i
      admits_null_moved i = ap (λ (b : Bool). may_be_null types b i) (bears_nonnull_moved i)

      pub is_mutating_moved : (i : Input) → is_mutating types (moved_signature r sig) i ≡ is_mutating types sig i
      is_mutating_moved i =
          ap (λ (b : Bool). not (is_constant (ty_if types i.ty)) && (holds_owner (tree_if types (target_type types i.ty)) && not b)) (bears_keeps_moved i)

      pub is_mutating_argument_moved : (xs : List Argument) (location : AbsPlace) → is_mutating_argument types (moved_signature r sig) xs location ≡ is_mutating_argument types sig xs location
      is_mutating_argument_moved xs location =
          any_same (λ i. is_mutating types (moved_signature r sig) i && is_argument_of xs i location) (λ i. is_mutating types sig i && is_argument_of xs i location) (inputs_of_signature types (moved_signature r sig))
          (λ i among. ap (λ (b : Bool). b && is_argument_of xs i location) (is_mutating_moved i))
          ∙ ap (list_any (λ i. is_mutating types sig i && is_argument_of xs i location)) inputs_of_signature_moved

      -- ---- what the result may be

      pub promised_places_moved : (t : Ty) → promised_places types (moved_signature r sig) t ≡ promised_places types sig t
      promised_places_moved t = ap (flat_map (promised_behind types sig t)) inputs_of_signature_moved

      pub promises_static_moved : (t : Ty) → promises_static types (moved_signature r sig) t ≡ promises_static types sig t
      promises_static_moved t = ap (λ (places : List AbsPlace). lists_static sig.promise (is_empty places)) (promised_places_moved t)

      pub admits_static_moved : (t : Ty) → admits_static types (moved_signature r sig) t ≡ admits_static types sig t
      admits_static_moved t = ap₂ (λ (b : Bool) (places : List AbsPlace). b || not (is_empty places)) (promises_static_moved t) (promised_places_moved t)

      pub fixed_elements_moved : (t : Ty) → fixed_elements types (moved_signature r sig) t ≡ fixed_elements types sig t
      fixed_elements_moved t =
          ap (λ (b : Bool). owner_elements t ++ cond (is_pointer t) (element_if (promises_null sig t) element.Null ++ element_if b element.Static) []) (promises_static_moved t)

      pub result_locations_moved : result_locations types (moved_signature r sig) ≡ result_locations types sig
      result_locations_moved = ap (λ (n : ℕ). locations_in types Object sig.result (local_place n)) (length-map sig.parameters (moved_parameter r))

      -- ---- what arguments break

      pub breaks_at_moved : (i : Input) (e : Element) → breaks_at types (moved_signature r sig) i (moved_element r e) ≡ map (moved_break r) (breaks_at types sig i e)
      breaks_at_moved i element.Null = ap (λ (b : Bool). cond b [] (NotAdmitted ∷ [])) (admits_null_moved i) ∙ unbroken (admits_null types sig i)
        where
          unbroken : (b : Bool) → cond b [] (NotAdmitted ∷ []) ≡ map (moved_break r) (cond b [] (NotAdmitted ∷ []))
          unbroken true = refl
          unbroken false = refl
      breaks_at_moved i _ = refl

      overlapping_moved : (a b : Element) → overlapping (moved_element r a) (moved_element r b) ≡ overlapping a b
      overlapping_moved (element.At a) (element.At b) = refl
      overlapping_moved _ _ = refl

      pub breaks_apart_moved : (i j : Input) (a b : Element) → breaks_apart types (moved_signature r sig) i j (moved_element r a) (moved_element r b) ≡ breaks_apart types sig i j a b
      breaks_apart_moved i j a b =
          ap₂ (λ (p q : Bool). (p || q) && overlapping (moved_element r a) (moved_element r b)) (is_mutating_moved i) (is_mutating_moved j)
          ∙ ap (λ (both : Bool). (is_mutating types sig i || is_mutating types sig j) && both) (overlapping_moved a b)
