-- What a call makes of facts looks only at the types that the head of what is called names.
use Rattle.std.proofs.Common.{◌≡◌, ◌∙◌, ℕ, Bool, cond, List, [], Option, Some, None, map, option_map, slice_get, refl, ap, ap₂}
use Rattle.std.proofs.lemmas.Option.{slice_get-map}
use Rattle.std.specs.List.{flat_map}
use Rattle.life_types.specs.Types.{Types}
use Rattle.life_types.specs.declared.place.Place.{Place}
use Rattle.life_types.specs.declared.ty.Ty.{Ty}
use Rattle.life_core.specs.Operands.{Argument, Location}
use Rattle.life_core.specs.Tree.{Spot}
use Rattle.life_pset.specs.Elements.{Input}
use Rattle.life_pset.specs.declared.element.AbsPlace.{AbsPlace}
use Rattle.life_pset.specs.declared.element.Element.{Element}
use Rattle.life_pset.specs.declared.element.Element.TheVariants as element
use Rattle.life_pset.specs.declared.element.Fact.{Fact}
use Rattle.life_contract.specs.Inputs.{inputs_of_signature}
use Rattle.life_contract.specs.Located.{located}
use Rattle.life_contract.specs.Promises.{fixed_elements, promised_behind, result_locations, result_type}
use Rattle.life_contract.specs.Signatures.{Signature}
use Rattle.life_rules.specs.Callees.{callee_at}
use Rattle.life_rules.specs.Calling.{called_none, called_one, called_two, fixed_facts, fixed_into, killed_at_call, killed_by_call, passed_element, passed_fact, passed_facts, passed_for, passed_into, result_at}
use Rattle.life_rules.specs.Matching.{fact_at}
use Rattle.life_modular.specs.Renumbering.{Renumbering, renumbered_input, renumbered_signature}
use Rattle.life_modular.specs.Vocabulary.{Vocabulary, CalleeNames, HaveAlike, HeadNames}
use Rattle.life_modular.proofs.AlikeInputs.{inputs_of_signature_named, inputs_of_signature_same, is_mutating_argument_same}
use Rattle.life_modular.proofs.AlikeLists.{flat_map_mapped, flat_map_same}
use Rattle.life_modular.proofs.AlikePromises.{fixed_elements_same, promised_behind_same, result_locations_same, result_type_named, result_type_same}
use Rattle.life_modular.proofs.AlikeTypes.{IsNamed}
use Rattle.life_modular.proofs.Renumbered.{is_argument_of_renumbered}

-- what is called at a point, if anything is, names types of the vocabulary alone
abbrev pub CallsNameAt : Vocabulary → List Signature → Option Spot → Type 0
CallsNameAt v sigs o = (s : Spot) → o ≡ Some s → CalleeNames v (callee_at sigs s.node)

-- the signature with a number, where types have other numbers
pub callee_renumbered : (new : Renumbering) (sigs : List Signature) (g : ℕ)
    → slice_get (map (renumbered_signature new) sigs) g ≡ option_map (renumbered_signature new) (slice_get sigs g)
callee_renumbered new sigs g = slice_get-map (renumbered_signature new) sigs g

module _ {v : Vocabulary} {new : Renumbering} {these those : Types} (alike : HaveAlike v new these those) where
  module _ {sig : Signature} (names : HeadNames v sig) where
    -- ---- what is promised that is no place

    pub fixed_facts_same : (target r : AbsPlace) → fixed_facts those (renumbered_signature new sig) target r ≡ fixed_facts these sig target r
    fixed_facts_same target r =
        ap (λ (t : Ty). map (fact_at (result_at target r)) (fixed_elements those (renumbered_signature new sig) t)) (result_type_same alike names r)
        ∙ ap (map (fact_at (result_at target r))) (fixed_elements_same alike names (result_type these sig r) (result_type_named alike names r))

    pub fixed_into_same : (target : Option Location) → fixed_into those (renumbered_signature new sig) target ≡ fixed_into these sig target
    fixed_into_same None = refl
    fixed_into_same (Some l) =
        ap (flat_map (fixed_facts those (renumbered_signature new sig) (located l))) (result_locations_same alike names)
        ∙ flat_map_same (fixed_facts those (renumbered_signature new sig) (located l)) (fixed_facts these sig (located l)) (result_locations these sig)
        (λ r has. fixed_facts_same (located l) r)

    -- ---- what is promised behind an input

    pub passed_facts_same : (i : Input) → IsNamed v i.ty → (target a r : AbsPlace)
        → passed_facts those (renumbered_signature new sig) (renumbered_input new i) target a r ≡ passed_facts these sig i target a r
    passed_facts_same i named target a r =
        ap (λ (t : Ty). map (passed_fact target a r) (promised_behind those (renumbered_signature new sig) t (renumbered_input new i))) (result_type_same alike names r)
        ∙ ap (map (passed_fact target a r)) (promised_behind_same alike sig (result_type these sig r) (result_type_named alike names r) i named)

    pub passed_element_same : (target : AbsPlace) (i : Input) → IsNamed v i.ty → (e : Element)
        → passed_element those (renumbered_signature new sig) target (renumbered_input new i) e ≡ passed_element these sig target i e
    passed_element_same target i named (element.At a) =
        ap (flat_map (passed_facts those (renumbered_signature new sig) (renumbered_input new i) target a)) (result_locations_same alike names)
        ∙ flat_map_same (passed_facts those (renumbered_signature new sig) (renumbered_input new i) target a) (passed_facts these sig i target a) (result_locations these sig)
        (λ r has. passed_facts_same i named target a r)
    passed_element_same target i named _ = refl

    pub passed_for_same : (xs : List Argument) (target : AbsPlace) (fact : Fact) (i : Input) → IsNamed v i.ty
        → passed_for those (renumbered_signature new sig) xs target fact (renumbered_input new i) ≡ passed_for these sig xs target fact i
    passed_for_same xs target fact i named =
        ap₂ (λ (given : Bool) (made : List Fact). cond given made [])
        (is_argument_of_renumbered new xs i fact.location)
        (passed_element_same target i named fact.element)

    pub passed_into_same : (xs : List Argument) (target : Option Location) (fact : Fact)
        → passed_into those (renumbered_signature new sig) xs target fact ≡ passed_into these sig xs target fact
    passed_into_same xs None fact = refl
    passed_into_same xs (Some l) fact =
        ap (flat_map (passed_for those (renumbered_signature new sig) xs (located l) fact)) (inputs_of_signature_same alike names)
        ∙ flat_map_mapped (renumbered_input new)
        (passed_for those (renumbered_signature new sig) xs (located l) fact)
        (passed_for these sig xs (located l) fact)
        (inputs_of_signature these sig)
        (λ i has. passed_for_same xs (located l) fact i (inputs_of_signature_named alike names i has))

    -- ---- what becomes invalid

    pub killed_at_call_same : (place : Place) (g : ℕ) (xs : List Argument) (target : Option Location) (a b : Fact)
        → killed_at_call those place g (renumbered_signature new sig) xs target a b ≡ killed_at_call these place g sig xs target a b
    killed_at_call_same place g xs target a b = ap (λ (may : Bool). cond may (killed_by_call place g target a.element b) []) (is_mutating_argument_same alike names xs a.location)

  -- ---- whatever is called

  pub called_none_same : (callee : Option Signature) → CalleeNames v callee → (target : Option Location)
      → called_none those (option_map (renumbered_signature new) callee) target ≡ called_none these callee target
  called_none_same None names target = refl
  called_none_same (Some sig) names target = fixed_into_same (names sig refl) target

  pub called_one_same : (callee : Option Signature) → CalleeNames v callee → (xs : List Argument) (target : Option Location) (fact : Fact)
      → called_one those (option_map (renumbered_signature new) callee) xs target fact ≡ called_one these callee xs target fact
  called_one_same None names xs target fact = refl
  called_one_same (Some sig) names xs target fact = passed_into_same (names sig refl) xs target fact

  pub called_two_same : (place : Place) (g : ℕ) (callee : Option Signature) → CalleeNames v callee
      → (xs : List Argument) (target : Option Location) (a b : Fact)
      → called_two those place g (option_map (renumbered_signature new) callee) xs target a b ≡ called_two these place g callee xs target a b
  called_two_same place g None names xs target a b = refl
  called_two_same place g (Some sig) names xs target a b = killed_at_call_same (names sig refl) place g xs target a b
