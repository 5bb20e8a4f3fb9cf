-- What a call makes of facts, where the function that is called has another number, and its signature other names and another place.
use Rattle.std.proofs.Common.{◌≡◌, ◌∙◌, ℕ, Bool, cond, not, ◌&&◌, List, [], Option, Some, None, map, option_map, refl, ap, sym}
use Rattle.std.specs.List.{flat_map}
use Rattle.life_types.specs.Types.{Types}
use Rattle.life_types.specs.declared.place.Place.{Place}
use Rattle.life_core.specs.Operands.{Argument, Location}
use Rattle.life_pset.specs.Elements.{Input, called}
use Rattle.life_pset.specs.declared.element.AbsPlace.{AbsPlace}
use Rattle.life_pset.specs.declared.element.Element.{Element}
use Rattle.life_pset.specs.declared.element.Element.TheVariants as element
use Rattle.life_pset.specs.declared.element.Fact.{Fact}
use Rattle.life_contract.specs.Arguments.{is_argument_of, is_mutating_argument}
use Rattle.life_contract.specs.Inputs.{inputs_of_signature}
use Rattle.life_contract.specs.Located.{located}
use Rattle.life_contract.specs.Promises.{fixed_elements, promised_behind, result_locations, result_type}
use Rattle.life_contract.specs.Signatures.{Signature}
use Rattle.life_rules.specs.Calling.{called_none, called_one, called_two, fixed_facts, fixed_into, is_in_target, killed_at_call, killed_by_call, passed_element, passed_fact, passed_facts, passed_for, passed_into, result_at}
use Rattle.life_rules.specs.Matching.{fact_at, given_if, points_under}
use Rattle.life_modular.specs.Renaming.{Renaming, moved_element, moved_fact, moved_signature}
use Rattle.life_modular.proofs.MovedLists.{cond_moved, flat_map_each, map_each}
use Rattle.life_modular.proofs.MovedMatching.{at_location_moved, fixed_elements_kept, given_if_moved, points_under_moved}
use Rattle.life_modular.proofs.MovedSignatures.{fixed_elements_moved, inputs_of_signature_moved, is_mutating_argument_moved, result_locations_moved}

module _ (r : Renaming) (types : Types) where
  module _ (sig : Signature) where
    -- ---- what is promised that is no place

    fixed_facts_moved : (target p : AbsPlace) → fixed_facts types (moved_signature r sig) target p ≡ map (moved_fact r) (fixed_facts types sig target p)
    fixed_facts_moved target p =
        ap (map (fact_at (result_at target p)))
        (fixed_elements_moved r sig types (result_type types sig p) ∙ sym (fixed_elements_kept r types sig (result_type types sig p)))
        ∙ at_location_moved r (result_at target p) (fixed_elements types sig (result_type types sig p))

    fixed_into_moved : (target : Option Location) → fixed_into types (moved_signature r sig) target ≡ map (moved_fact r) (fixed_into types sig target)
    fixed_into_moved None = refl
    fixed_into_moved (Some l) =
        ap (flat_map (fixed_facts types (moved_signature r sig) (located l))) (result_locations_moved r sig types)
        ∙ flat_map_each (moved_fact r) (fixed_facts types (moved_signature r sig) (located l)) (fixed_facts types sig (located l)) (result_locations types sig) (fixed_facts_moved (located l))

    -- ---- what is promised behind an input

    passed_facts_moved : (i : Input) (target a p : AbsPlace) → passed_facts types (moved_signature r sig) i target a p ≡ map (moved_fact r) (passed_facts types sig i target a p)
    passed_facts_moved i target a p =
        map_each (moved_fact r) (passed_fact target a p) (passed_fact target a p) (promised_behind types sig (result_type types sig p) i) (λ place. refl)

    passed_element_moved : (target : AbsPlace) (i : Input) (e : Element)
        → passed_element types (moved_signature r sig) target i (moved_element r e) ≡ map (moved_fact r) (passed_element types sig target i e)
    passed_element_moved target i (element.At a) =
        ap (flat_map (passed_facts types (moved_signature r sig) i target a)) (result_locations_moved r sig types)
        ∙ flat_map_each (moved_fact r) (passed_facts types (moved_signature r sig) i target a) (passed_facts types sig i target a) (result_locations types sig) (passed_facts_moved i target a)
    passed_element_moved target i _ = refl

    passed_for_moved : (xs : List Argument) (target : AbsPlace) (x : Fact) (i : Input)
        → passed_for types (moved_signature r sig) xs target (moved_fact r x) i ≡ map (moved_fact r) (passed_for types sig xs target x i)
    passed_for_moved xs target x i = cond_moved (moved_fact r) (is_argument_of xs i x.location) (passed_element types sig target i x.element) [] (passed_element_moved target i x.element) refl

    passed_into_moved : (xs : List Argument) (target : Option Location) (x : Fact)
        → passed_into types (moved_signature r sig) xs target (moved_fact r x) ≡ map (moved_fact r) (passed_into types sig xs target x)
    passed_into_moved xs None x = refl
    passed_into_moved xs (Some l) x =
        ap (flat_map (passed_for types (moved_signature r sig) xs (located l) (moved_fact r x))) (inputs_of_signature_moved r sig types)
        ∙ flat_map_each
        (moved_fact r) (passed_for types (moved_signature r sig) xs (located l) (moved_fact r x)) (passed_for types sig xs (located l) x)
        (inputs_of_signature types sig) (passed_for_moved xs (located l) x)

    -- ---- what becomes invalid

    killed_by_call_moved : (place : Place) (g : ℕ) (target : Option Location) (e : Element) (b : Fact)
        → killed_by_call (r.place place) (r.function g) target (moved_element r e) (moved_fact r b) ≡ map (moved_fact r) (killed_by_call place g target e b)
    killed_by_call_moved place g target (element.At a) b =
        let invalid : Fact = fact_at b.location (element.Invalid (called place g)) in
        ap (λ (under : Bool). given_if (under && not (is_in_target target b.location)) (moved_fact r invalid)) (points_under_moved r a b.element)
        ∙ given_if_moved r (points_under a b.element && not (is_in_target target b.location)) invalid
    killed_by_call_moved place g target _ b = refl

    killed_at_call_moved : (place : Place) (g : ℕ) (xs : List Argument) (target : Option Location) (a b : Fact)
        → killed_at_call types (r.place place) (r.function g) (moved_signature r sig) xs target (moved_fact r a) (moved_fact r b)
        ≡ map (moved_fact r) (killed_at_call types place g sig xs target a b)
    killed_at_call_moved place g xs target a b =
        ap
        (λ (may : Bool). cond may (killed_by_call (r.place place) (r.function g) target (moved_element r a.element) (moved_fact r b)) [])
        (is_mutating_argument_moved r sig types xs a.location)
        ∙ cond_moved (moved_fact r) (is_mutating_argument types sig xs a.location) (killed_by_call place g target a.element b) [] (killed_by_call_moved place g target a.element b) refl

  -- ---- whatever is called

  pub called_none_moved : (callee : Option Signature) (target : Option Location) → called_none types (option_map (moved_signature r) callee) target ≡ map (moved_fact r) (called_none types callee target)
  called_none_moved None target = refl
  called_none_moved (Some sig) target = fixed_into_moved sig target

  pub called_one_moved : (callee : Option Signature) (xs : List Argument) (target : Option Location) (x : Fact)
      → called_one types (option_map (moved_signature r) callee) xs target (moved_fact r x) ≡ map (moved_fact r) (called_one types callee xs target x)
  called_one_moved None xs target x = refl
  called_one_moved (Some sig) xs target x = passed_into_moved sig xs target x

  pub called_two_moved : (place : Place) (g : ℕ) (callee : Option Signature) (xs : List Argument) (target : Option Location) (a b : Fact)
      → called_two types (r.place place) (r.function g) (option_map (moved_signature r) callee) xs target (moved_fact r a) (moved_fact r b)
      ≡ map (moved_fact r) (called_two types place g callee xs target a b)
  called_two_moved place g None xs target a b = refl
  called_two_moved place g (Some sig) xs target a b = killed_at_call_moved sig place g xs target a b
