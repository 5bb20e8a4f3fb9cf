-- What a call makes of facts points where these point: no derived fact comes to point into a local by it.
use Rattle.std.proofs.Common.{◌≡◌, ℕ, Bool, true, false, List, [], ◌∷◌, ◌++◌, map, Option, Some, None, refl, ◌∙◌}
use Rattle.std.specs.Prelude.{cond, if◌then◌else◌, nat_eq, not, ◌&&◌}
use Rattle.life_types.specs.TypeTests.{is_pointer}
use Rattle.life_types.specs.Types.{Types}
use Rattle.life_types.specs.declared.place.Place.{Place}
use Rattle.life_types.specs.declared.ty.Ty.{Ty}
use Rattle.life_core.specs.Operands.{Argument, Location}
use Rattle.life_pset.specs.Elements.{Input, called}
use Rattle.life_pset.specs.Places.{member_place, owned_place, owned_step, path}
use Rattle.life_pset.specs.declared.element.AbsPlace.{AbsPlace}
use Rattle.life_pset.specs.declared.element.Element.{Element}
use Rattle.life_pset.specs.declared.element.Element.TheVariants as element
use Rattle.life_pset.specs.declared.element.Fact.{Fact}
use Rattle.life_contract.specs.Arguments.{is_argument_of, is_mutating_argument}
use Rattle.life_contract.specs.Inputs.{inputs_of_signature}
use Rattle.life_contract.specs.Located.{located}
use Rattle.life_contract.specs.Positions.{step_place, steps_place}
use Rattle.life_contract.specs.Promises.{element_if, fixed_elements, owner_elements, pointer_elements, promised_behind, promises_null, promises_static, result_locations, result_type}
use Rattle.life_contract.specs.Signatures.{Signature}
use Rattle.life_rules.specs.Calling.{called_none, called_one, called_two, fixed_facts, is_in_target, killed_by_call, passed_element, passed_fact, passed_facts, passed_for, result_at}
use Rattle.life_rules.specs.Matching.{fact_at, points_under}
use Rattle.life_rules.proofs.Giving.{at_head, in_tail}
use Rattle.life_cover.proofs.Elsewhere.{AreElsewhere, IsElsewhere, each_elsewhere, elements_elsewhere, if_elsewhere, mapped_elsewhere, member_same, more_elsewhere, none_elsewhere, one_elsewhere, place_elsewhere, stepped_same}

-- ---- roots

step_same : (a : AbsPlace) (s : ℕ) → (step_place a s).root ≡ a.root
step_same a s = go (nat_eq s owned_step)
  where
    go : (b : Bool) → (if b then owned_place a else member_place a s).root ≡ a.root
    go true = stepped_same a owned_step
    go false = member_same a s

pub steps_same : (a : AbsPlace) (ss : List ℕ) → (steps_place a ss).root ≡ a.root
steps_same a [] = refl
steps_same a (s ∷ ss) = steps_same (step_place a s) ss ∙ step_same a s

module _ (x : ℕ) (types : Types) where
  -- ---- what is promised that is no place

  both_mapped : (l : AbsPlace) (one two : List Element) → AreElsewhere x (map (fact_at l) one) → AreElsewhere x (map (fact_at l) two) → AreElsewhere x (map (fact_at l) (one ++ two))
  both_mapped l [] two h k = k
  both_mapped l (e ∷ one) two h k =
      more_elsewhere x (fact_at l e) (map (fact_at l) (one ++ two)) (h (fact_at l e) (at_head (fact_at l e) (map (fact_at l) one))) (both_mapped l one two (λ y has. h y (in_tail (fact_at l e) (map (fact_at l) one) y has)) k)

  one_if : (l : AbsPlace) (b : Bool) (e : Element) → IsElsewhere x e → AreElsewhere x (map (fact_at l) (element_if b e))
  one_if l true e h = one_elsewhere x l e h
  one_if l false e h = none_elsewhere x

  fixed_elsewhere : (sig : Signature) (l : AbsPlace) (t : Ty) → AreElsewhere x (map (fact_at l) (fixed_elements types sig t))
  fixed_elsewhere sig l t = both_mapped l (owner_elements t) (cond (is_pointer t) (pointer_elements types sig t) []) (elements_elsewhere x l t) (pointers (is_pointer t))
    where
      pointers : (b : Bool) → AreElsewhere x (map (fact_at l) (cond b (pointer_elements types sig t) []))
      pointers true = both_mapped l (element_if (promises_null sig t) element.Null) (element_if (promises_static types sig t) element.Static) (one_if l (promises_null sig t) element.Null tt) (one_if l (promises_static types sig t) element.Static tt)
      pointers false = none_elsewhere x

  pub called_none_elsewhere : (sig : Option Signature) (target : Option Location) → AreElsewhere x (called_none types sig target)
  called_none_elsewhere None target = none_elsewhere x
  called_none_elsewhere (Some sig) None = none_elsewhere x
  called_none_elsewhere (Some sig) (Some l) = each_elsewhere x (fixed_facts types sig (located l)) (result_locations types sig) (λ r has. fixed_elsewhere sig (result_at (located l) r) (result_type types sig r))

  -- ---- what is promised behind an input, from where the argument points

  passed_elsewhere : (sig : Signature) (target : AbsPlace) (i : Input) (e : Element) → IsElsewhere x e → AreElsewhere x (passed_element types sig target i e)
  passed_elsewhere sig target i (element.At a) away =
      each_elsewhere x (passed_facts types sig i target a) (result_locations types sig)
      (λ r has. mapped_elsewhere x (passed_fact target a r) (promised_behind types sig (result_type types sig r) i) (λ p. place_elsewhere x a (steps_place a (path p)) (steps_same a (path p)) away))
  passed_elsewhere sig target i _ away = none_elsewhere x

  pub called_one_elsewhere : (sig : Option Signature) (xs : List Argument) (target : Option Location) (a : Fact) → IsElsewhere x a.element → AreElsewhere x (called_one types sig xs target a)
  called_one_elsewhere None xs target a away = none_elsewhere x
  called_one_elsewhere (Some sig) xs None a away = none_elsewhere x
  called_one_elsewhere (Some sig) xs (Some l) a away =
      each_elsewhere x (passed_for types sig xs (located l) a) (inputs_of_signature types sig)
      (λ i has. if_elsewhere x (is_argument_of xs i a.location) (passed_element types sig (located l) i a.element) (passed_elsewhere sig (located l) i a.element away))

  -- ---- what may be invalid

  killed_elsewhere : (place : Place) (g : ℕ) (target : Option Location) (e : Element) (b : Fact) → AreElsewhere x (killed_by_call place g target e b)
  killed_elsewhere place g target (element.At a) b =
      if_elsewhere x (points_under a b.element && not (is_in_target target b.location)) (fact_at b.location (element.Invalid (called place g)) ∷ []) (one_elsewhere x b.location (element.Invalid (called place g)) tt)
  killed_elsewhere place g target _ b = none_elsewhere x

  pub called_two_elsewhere : (place : Place) (g : ℕ) (sig : Option Signature) (xs : List Argument) (target : Option Location) (a b : Fact) → AreElsewhere x (called_two types place g sig xs target a b)
  called_two_elsewhere place g None xs target a b = none_elsewhere x
  called_two_elsewhere place g (Some sig) xs target a b = if_elsewhere x (is_mutating_argument types sig xs a.location) (killed_by_call place g target a.element b) (killed_elsewhere place g target a.element b)
