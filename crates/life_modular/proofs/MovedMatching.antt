-- The facts that a rule speaks of, where their causes are told by other places and numbers.
use Rattle.std.proofs.Common.{◌≡◌, ◌∙◌, ℕ, Bool, true, false, cond, if◌then◌else◌, List, [], ◌∷◌, ◌++◌, Option, Some, None, map, option_map, refl, ap₂}
use Rattle.std.proofs.lemmas.List.{map-append}
use Rattle.life_types.specs.TypeTests.{is_pointer}
use Rattle.life_types.specs.Types.{Types}
use Rattle.life_types.specs.declared.ty.Ty.{Ty}
use Rattle.life_types.specs.declared.ty.Ty.TheVariants as ty
use Rattle.life_pset.specs.declared.element.AbsPlace.{AbsPlace}
use Rattle.life_pset.specs.declared.element.Element.{Element}
use Rattle.life_pset.specs.declared.element.Element.TheVariants as element
use Rattle.life_pset.specs.declared.element.Fact.{Fact}
use Rattle.life_contract.specs.Promises.{element_if, fixed_elements, owner_elements, pointer_elements, promises_null, promises_static}
use Rattle.life_contract.specs.Signatures.{Signature}
use Rattle.life_rules.specs.Matching.{fact_at, facts_at, facts_if, given_if, given_over, gotten, is_held, is_null, points_among, points_under, position_in, reached, unless}
use Rattle.life_modular.specs.Renaming.{Renaming, moved_element, moved_fact}
use Rattle.life_modular.proofs.MovedLists.{map_moved}

-- one list or the other, by parts that were moved
pub if_moved : {A B : Type 0} (m : A → B) (b : Bool) (xs ys : List A) {us vs : List B} → us ≡ map m xs → vs ≡ map m ys → (if b then us else vs) ≡ map m (if b then xs else ys)
if_moved m true xs ys one other = one
if_moved m false xs ys one other = other

module _ (r : Renaming) where
  -- ---- what is asked of an element

  pub points_under_moved : (a : AbsPlace) (e : Element) → points_under a (moved_element r e) ≡ points_under a e
  points_under_moved a element.Null = refl
  points_under_moved a _ = refl

  pub points_among_moved : (xs : List ℕ) (e : Element) → points_among xs (moved_element r e) ≡ points_among xs e
  points_among_moved xs element.Null = refl
  points_among_moved xs _ = refl

  pub is_null_moved : (e : Element) → is_null (moved_element r e) ≡ is_null e
  is_null_moved element.Null = refl
  is_null_moved _ = refl

  pub is_held_moved : (e : Element) → is_held (moved_element r e) ≡ is_held e
  is_held_moved element.Null = refl
  is_held_moved _ = refl

  -- ---- what is made of it

  pub reached_moved : (owned : Bool) (members : List ℕ) (e : Element) → reached owned members (moved_element r e) ≡ option_map (moved_element r) (reached owned members e)
  reached_moved owned members element.Null = refl
  reached_moved owned members _ = refl

  pub position_in_moved : (members : List ℕ) (e : Element) → position_in members (moved_element r e) ≡ option_map (moved_element r) (position_in members e)
  position_in_moved members element.Null = refl
  position_in_moved members _ = refl

  pub gotten_moved : (u : AbsPlace) (e : Element) → gotten u (moved_element r e) ≡ option_map (moved_element r) (gotten u e)
  gotten_moved u element.Null = refl
  gotten_moved u _ = refl

  pub given_over_moved : (e : Element) → given_over (moved_element r e) ≡ option_map (moved_element r) (given_over e)
  given_over_moved element.Null = refl
  given_over_moved _ = refl

  -- ---- facts

  pub facts_at_moved : (l : AbsPlace) (e : Option Element) → facts_at l (option_map (moved_element r) e) ≡ map (moved_fact r) (facts_at l e)
  facts_at_moved l None = refl
  facts_at_moved l (Some e) = refl

  pub given_if_moved : (here : Bool) (x : Fact) → given_if here (moved_fact r x) ≡ map (moved_fact r) (given_if here x)
  given_if_moved true x = refl
  given_if_moved false x = refl

  pub unless_moved : (gone : Bool) (x : Fact) → unless gone (moved_fact r x) ≡ map (moved_fact r) (unless gone x)
  unless_moved true x = refl
  unless_moved false x = refl

  pub facts_if_moved : (here : Bool) (l : AbsPlace) (e : Option Element) → facts_if here l (option_map (moved_element r) e) ≡ map (moved_fact r) (facts_if here l e)
  facts_if_moved true l e = facts_at_moved l e
  facts_if_moved false l e = refl

  -- the facts of a location are moved where its elements are
  pub at_location_moved : (l : AbsPlace) (es : List Element) → map (fact_at l) (map (moved_element r) es) ≡ map (moved_fact r) (map (fact_at l) es)
  at_location_moved l es = map_moved (moved_element r) (moved_fact r) (fact_at l) (fact_at l) es (λ e. refl)

  -- ---- elements without a cause

  pub owner_elements_kept : (t : Ty) → map (moved_element r) (owner_elements t) ≡ owner_elements t
  owner_elements_kept ty.Text = refl
  owner_elements_kept _ = refl

  when_kept : (here : Bool) (es : List Element) → map (moved_element r) es ≡ es → map (moved_element r) (cond here es []) ≡ cond here es []
  when_kept true es kept = kept
  when_kept false es kept = refl

  module _ (types : Types) (sig : Signature) (t : Ty) where
    pointer_elements_kept : map (moved_element r) (pointer_elements types sig t) ≡ pointer_elements types sig t
    pointer_elements_kept =
        map-append (moved_element r) (element_if (promises_null sig t) element.Null) (element_if (promises_static types sig t) element.Static)
        ∙ ap₂ (λ (xs ys : List Element). xs ++ ys)
        (when_kept (promises_null sig t) (element.Null ∷ []) refl)
        (when_kept (promises_static types sig t) (element.Static ∷ []) refl)

    pub fixed_elements_kept : map (moved_element r) (fixed_elements types sig t) ≡ fixed_elements types sig t
    fixed_elements_kept =
        map-append (moved_element r) (owner_elements t) (cond (is_pointer t) (pointer_elements types sig t) [])
        ∙ ap₂ (λ (xs ys : List Element). xs ++ ys) (owner_elements_kept t) (when_kept (is_pointer t) (pointer_elements types sig t) pointer_elements_kept)
