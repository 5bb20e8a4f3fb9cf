-- The facts and the numbers of a function's table, for callers.
use Rattle.std.proofs.Common.{◌≡◌, ℕ, ◌≤◌, ◌↔◌, Bool, true, false, refl, sym, ◌∙◌, rules, Some, length, arith}
use Rattle.std.specs.Cmp.{IsEquivalence}
use Rattle.std.specs.Prelude.{Contains}
use Rattle.life_types.specs.Types.{Types}
use Rattle.life_core.specs.Function.{Function}
use Rattle.life_pset.specs.contracts.element.AbsPlacePartialEq.TheImpl.{ghosts as place}
use Rattle.life_pset.specs.contracts.element.CausePartialEq.TheImpl.{ghosts as cause}
use Rattle.life_pset.specs.contracts.element.ElementPartialEq.TheImpl.{ghosts as element}
use Rattle.life_pset.specs.declared.element.AbsPlace.{AbsPlace}
use Rattle.life_pset.specs.declared.element.Cause.{Cause}
use Rattle.life_pset.specs.declared.element.Element.{Element}
use Rattle.life_pset.specs.declared.element.Element.TheVariants.{Null, Invalid, Moved, Own, Static, At}
use Rattle.life_pset.specs.declared.element.Fact.{Fact}
use Rattle.life_pset.specs.Elements.{locations_of, elements_of, IsWithinLimits}
use Rattle.life_pset.specs.Table.{table_of, IsOf, Names}
use Rattle.life_pset.specs.TableInvariant.{HasOneNumber, IsNumbered}
use Rattle.life_pset.proofs.Numbering.{numbered_contains, contains_numbered, one_number_each, in_insert_all, length_insert_all}

-- ---- equal places and equal elements are the same
pub exact_place : (x y : AbsPlace) → place.eq x y ≡ true → x ≡ y
exact_place x y h = search rules

pub exact_element : (x y : Element) → element.eq x y ≡ true → x ≡ y
exact_element x y h = search rules

pub place_laws : IsEquivalence place.eq
place_laws = search rules

cause_itself : (c : Cause) → cause.eq c c ≡ true
cause_itself c = search rules

element_itself : (x : Element) → element.eq x x ≡ true
element_itself Null = refl
element_itself (Invalid c) = cause_itself c
element_itself (Moved c) = cause_itself c
element_itself Own = refl
element_itself Static = refl
element_itself (At p) = place_laws.refl p

-- an equality that tells values apart is an equivalence
exact_laws : {X : Type 0} (eq : X → X → Bool) → ((x : X) → eq x x ≡ true) → ((x y : X) → eq x y ≡ true → x ≡ y) → IsEquivalence eq
exact_laws {X = X} eq itself exact = record {
  refl = itself;
  symm = λ x y. both (eq x y) (eq y x) (λ t. flipped x y t) (λ t. flipped y x t);
  congr = λ x y z t i. eq (exact x y t i) z;
}
  where
    flipped : (x y : X) → eq x y ≡ true → eq y x ≡ true
    flipped x y t = (λ i. eq (sym (exact x y t) i) x) ∙ itself x

    both : (a b : Bool) → (a ≡ true → b ≡ true) → (b ≡ true → a ≡ true) → a ≡ b
    both true b f g = sym (f refl)
    both false true f g = g refl
    both false false f g = refl

pub element_laws : IsEquivalence element.eq
element_laws = exact_laws element.eq element_itself exact_element

-- a fact is of the table just where its location and its element are the function's
pub is_of_iff : (types : Types) (f : Function) (x : Fact) → IsOf (table_of types f) x ↔ (Contains (locations_of types f) x.location × Contains (elements_of types f) x.element)
is_of_iff types f x =
    let t = table_of types f in
    let locations = in_insert_all place.eq exact_place (locations_of types f) x.location in
    let elements = in_insert_all element.eq exact_element (elements_of types f) x.element in (
      λ h. (
        locations.0 (numbered_contains t.locations h.0 x.location h.1.1.0),
        elements.0 (numbered_contains t.elements h.1.0 x.element h.1.1.1),
      ),
      λ h.
          let l = contains_numbered t.locations x.location (locations.1 h.0) in
          let e = contains_numbered t.elements x.element (elements.1 h.1) in
          (l.0, (e.0, (l.1, e.1))),
    )

-- each location and each element has one number
pub one_location : (types : Types) (f : Function) → HasOneNumber (table_of types f).locations
one_location types f = one_number_each place.eq place_laws (locations_of types f)

pub one_element : (types : Types) (f : Function) → HasOneNumber (table_of types f).elements
one_element types f = one_number_each element.eq element_laws (elements_of types f)

-- so a fact has one pair of numbers
pub one_name : (types : Types) (f : Function) (x : Fact) (l e m n : ℕ) → Names (table_of types f) l e x → Names (table_of types f) m n x → (l ≡ m) × (e ≡ n)
one_name types f x l e m n a b = (one_location types f l m x.location a.0 b.0, one_element types f e n x.element a.1 b.1)

-- .. and a pair of numbers stands for one fact
pub one_fact : (types : Types) (f : Function) (x y : Fact) (l e : ℕ) → Names (table_of types f) l e x → Names (table_of types f) l e y → x ≡ y
one_fact types f x y l e a b =
    let location : x.location ≡ y.location = inside x.location y.location (sym a.0 ∙ b.0) in
    let element : x.element ≡ y.element = inside x.element y.element (sym a.1 ∙ b.1) in
    λ i. record { location = location i; element = element i }
  where
    inside : {X : Type 0} (u v : X) → Some u ≡ Some v → u ≡ v
    inside u v is = cc

-- there are no more numbers than locations and elements
pub few_locations : (types : Types) (f : Function) → length (table_of types f).locations ≤ length (locations_of types f)
few_locations types f = length_insert_all place.eq (locations_of types f)

pub few_elements : (types : Types) (f : Function) → length (table_of types f).elements ≤ length (elements_of types f)
few_elements types f = length_insert_all element.eq (elements_of types f)

-- so a function within its limits has a table
pub numbered_table : (types : Types) (f : Function) → IsWithinLimits types f → IsNumbered (table_of types f).locations (table_of types f).elements
numbered_table types f limits = record {
  one_location = one_location types f;
  one_element = one_element types f;
  few_locations = omega (arith, few_locations types f, limits.locations);
  few_elements = omega (arith, few_elements types f, limits.elements);
}
