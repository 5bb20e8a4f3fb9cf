-- Where a struct is copied, its pointers take the facts of those that they are copied from.
use Rattle.std.proofs.Common.{◌≡◌, ℕ, ◌≤◌, true, ◌&&◌, List, [], ◌∷◌, ◌++◌, length, refl, sym, ap, subst, ◌∙◌}
use Rattle.std.specs.Prelude.{Contains, drop}
use Rattle.std.proofs.lemmas.List.Elements.{Contains-append_right}
use Rattle.life_types.specs.TypeTests.{is_pointer}
use Rattle.life_types.specs.Types.{Types}
use Rattle.life_types.specs.declared.place.Place.{Place}
use Rattle.life_core.specs.Function.{Function}
use Rattle.life_core.specs.Operands.{Location}
use Rattle.life_core.specs.Operands as named
use Rattle.life_core.specs.Step.{Copy}
use Rattle.life_pset.specs.Elements.{elements_of, local_place, locations_of}
use Rattle.life_pset.specs.Places.{is_within, member_place, members_place}
use Rattle.life_pset.specs.Shapes.{place_type, ty_if}
use Rattle.life_pset.specs.declared.element.AbsPlace.{AbsPlace}
use Rattle.life_pset.specs.declared.element.Element.{Element}
use Rattle.life_pset.specs.declared.element.Fact.{Fact}
use Rattle.life_pset.proofs.Numbers.{is_of_iff}
use Rattle.life_contract.specs.Located.{located}
use Rattle.life_contract.specs.Signatures.{Signature}
use Rattle.life_rules.specs.Carrying.{after_kill, copied_location, drops, killed_facts, kills}
use Rattle.life_rules.specs.Matching.{fact_at, given_if, unless}
use Rattle.life_rules.proofs.Giving.{at_head}
use Rattle.life_cover.specs.Kills.{Closed}
use Rattle.life_cover.proofs.ExactLocations.{exact_path}

-- members of members
pub members_along : (ms ks : List ℕ) (a : AbsPlace) → members_place a (ms ++ ks) ≡ members_place (members_place a ms) ks
members_along [] ks a = refl
members_along (m ∷ ms) ks a = members_along ms ks (member_place a m)

drop_along : (ms ks : List ℕ) → drop (length ms) (ms ++ ks) ≡ ks
drop_along [] ks = refl
drop_along (m ∷ ms) ks = drop_along ms ks

module _ (sigs : List Signature) (types : Types) (f : Function) (place : Place) (S S' : Fact → Type 0) (to from : Location) (closed : Closed sigs types f place (Copy (named.Name to) (named.Name from)) S S') where
  -- the location at a path in another
  abbrev pub inside : Location → List ℕ → Location
  inside l ks = record { local = l.local; members = l.members ++ ks }

  -- where neither is too long
  module _ (ks : List ℕ) (long : (located from).length ≡ length from.members) (short : (located (record { local = from.local; members = from.members ++ ks })).length ≤ 8) where
    goes_to : copied_location (located from) (located to) (located (inside from ks)) ≡ located (inside to ks)
    goes_to =
        ap (λ (ms : List ℕ). members_place (located to) (drop (located from).length ms)) (exact_path (from.members ++ ks) (local_place from.local) refl short)
        ∙ ap (λ n. members_place (located to) (drop n (from.members ++ ks))) long
        ∙ ap (members_place (located to)) (drop_along from.members ks)
        ∙ sym (members_along to.members ks (local_place to.local))

    -- what holds of the pointer that is copied holds of the copy, as the kill leaves it
    pub copied_fact : is_within (located from) (located (inside from ks)) ≡ true → is_pointer (ty_if types (place_type types f (located (inside from ks)))) ≡ true → (e : Element) → Contains (locations_of types f) (located (inside to ks))
        → Contains (elements_of types f) (after_kill (kills types f place (Copy (named.Name to) (named.Name from))).first e) → S (fact_at (located (inside from ks)) e) → S' (fact_at (located (inside to ks)) (after_kill (kills types f place (Copy (named.Name to) (named.Name from))).first e))
    copied_fact within pointer e listed known s =
        closed.one old new s ((is_of_iff types f new).1 (listed, known))
        (Contains-append_right (unless (drops types f place (Copy (named.Name to) (named.Name from)) old) old) (killed_facts (kills types f place (Copy (named.Name to) (named.Name from))) (Copy (named.Name to) (named.Name from)) old ++ made) new
        (Contains-append_right (killed_facts (kills types f place (Copy (named.Name to) (named.Name from))) (Copy (named.Name to) (named.Name from)) old) made new
        (subst (λ (a : AbsPlace). Contains made (fact_at a after)) goes_to
        (subst (λ b. Contains (given_if (b && is_pointer (ty_if types (place_type types f (located (inside from ks))))) copy) copy) (sym within) (subst (λ b. Contains (given_if b copy) copy) (sym pointer) (at_head copy []))))))
      where
        after : Element
        after = after_kill (kills types f place (Copy (named.Name to) (named.Name from))).first e

        old : Fact
        old = fact_at (located (inside from ks)) e

        copy : Fact
        copy = fact_at (copied_location (located from) (located to) (located (inside from ks))) after

        new : Fact
        new = fact_at (located (inside to ks)) after

        made : List Fact
        made = given_if (is_within (located from) (located (inside from ks)) && is_pointer (ty_if types (place_type types f (located (inside from ks))))) copy
