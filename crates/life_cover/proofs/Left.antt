-- What the rules leave of the facts where an owner is changed: by its name, and through a pointer.
use Rattle.std.proofs.Common.{◌≡◌, Bool, true, false, List, [], ◌∷◌, ◌++◌, map, refl, sym, ap, subst, ◌∙◌, ℕ}
use Rattle.std.specs.Prelude.{◌&&◌, ◌||◌, not, Contains, cond}
use Rattle.std.specs.List.{flat_map}
use Rattle.std.proofs.lemmas.List.Elements.{Contains-append_left, Contains-append_right}
use Rattle.life_types.specs.Types.{Types}
use Rattle.life_types.specs.declared.place.Place.{Place}
use Rattle.life_core.specs.Function.{Function}
use Rattle.life_core.specs.Operands.{Location}
use Rattle.life_core.specs.Operands as named
use Rattle.life_core.specs.Step.{Step}
use Rattle.life_pset.specs.Elements.{caused_elements, input_places, inputs_of, objects_from, owner_changed, step_elements, elements_of}
use Rattle.life_pset.specs.Places.{members_place, under}
use Rattle.life_pset.specs.Table.{IsOf, table_of}
use Rattle.life_pset.specs.declared.element.AbsPlace.{AbsPlace}
use Rattle.life_pset.specs.declared.element.Element.{Element}
use Rattle.life_pset.specs.declared.element.Element.TheVariants as element
use Rattle.life_pset.specs.declared.element.Fact.{Fact}
use Rattle.life_pset.specs.declared.element.Root.{Root}
use Rattle.life_pset.proofs.Numbers.{is_of_iff, place_laws}
use Rattle.life_contract.specs.Located.{located}
use Rattle.life_contract.specs.Signatures.{Signature}
use Rattle.life_rules.specs.Carrying.{drops, from_two, is_gone, is_killed, kills, killed_facts, killed_through, makes, one_kill, writes}
use Rattle.life_rules.specs.Matching.{fact_at, given_if, points_under, unless}
use Rattle.life_rules.specs.declared.kill.Kill.{Kill}
use Rattle.life_rules.proofs.Giving.{at_head, in_tail}
use Rattle.std.specs.Prelude.{Some}
use Rattle.life_cover.specs.Kills.{Closed, LeftBy, is_hit}
use Rattle.life_cover.specs.Regions.{Region}

-- the element with a cause is one of the function's
pub caused_known : (types : Types) (f : Function) (e : Element) → Contains (caused_elements f) e → Contains (elements_of types f) e
caused_known types f e caused =
    let objects = map element.At (objects_from types f.parameters 0 f.locals) in
    let inputs = map element.At (flat_map (input_places types) (inputs_of types f)) in
    let more = objects ++ (inputs ++ caused_elements f) in
    in_tail element.Null (element.Own ∷ element.Static ∷ more) e (in_tail element.Own (element.Static ∷ more) e (in_tail element.Static more e
    (Contains-append_right objects (inputs ++ caused_elements f) e (Contains-append_right inputs (caused_elements f) e caused))))

pub caused_of : (types : Types) (f : Function) (l : AbsPlace) (e e' : Element) → IsOf (table_of types f) (fact_at l e) → Contains (caused_elements f) e' → IsOf (table_of types f) (fact_at l e')
caused_of types f l e e' of caused = (is_of_iff types f (fact_at l e')).1 (((is_of_iff types f (fact_at l e)).0 of).0, caused_known types f e' caused)

pub hit_under : (a : AbsPlace) (e : Element) → is_hit (under a) e ≡ points_under a e
hit_under a element.Null = refl
hit_under a (element.Invalid c) = refl
hit_under a (element.Moved c) = refl
hit_under a element.Own = refl
hit_under a element.Static = refl
hit_under a (element.At b) = refl

given : (b : Bool) (x : Fact) → b ≡ true → Contains (given_if b x) x
given b x e = subst (λ t. Contains (given_if t x) x) (sym e) (at_head x [])

both_true : (a b : Bool) → a ≡ true → b ≡ false → (a && not b) ≡ true
both_true true b e f = ap not f
both_true false b e f = e

both_false : (a b : Bool) → a ≡ false → b ≡ false → (a || b) ≡ false
both_false true b e f = e
both_false false b e f = f

module _ (sigs : List Signature) (types : Types) (f : Function) (place : Place) (i : Step) (S S' : Fact → Type 0) (closed : Closed sigs types f place i S S') (Stands : Root → Region → Type 0) where
  pub kept_by : (l : AbsPlace) (e : Element) → S (fact_at l e) → drops types f place i (fact_at l e) ≡ false → S' (fact_at l e)
  kept_by l e s free =
      closed.one (fact_at l e) (fact_at l e) s (closed.of (fact_at l e) s)
      (Contains-append_left (unless (drops types f place i (fact_at l e)) (fact_at l e)) (killed_facts (kills types f place i) i (fact_at l e) ++ makes sigs types f place i (fact_at l e)) (fact_at l e)
      (subst (λ t. Contains (unless t (fact_at l e)) (fact_at l e)) (sym free) (at_head (fact_at l e) [])))

  -- what is changed by its name
  pub left_by_name : (k : Kill) → kills types f place i ≡ one_kill (Some k) → ((e : Element) → is_gone types f place i e ≡ is_killed (kills types f place i) e) → Contains (step_elements f place i) (element.Invalid k.cause)
      → LeftBy Stands (under k.owner) (writes i) S S'
  left_by_name k is gone caused = record {
    kept = λ l e s free not_hit. kept_by l e s (both_false (is_gone types f place i e) (writes i l) (gone e ∙ ap (λ ks. is_killed ks e) is ∙ both_false (points_under k.owner e) false (sym (hit_under k.owner e) ∙ not_hit) refl) free);
    hit = λ l a r s stands free under_k. (
      k.cause,
      closed.one (fact_at l (element.At a)) (fact_at l (element.Invalid k.cause)) s
          (caused_of types f l (element.At a) (element.Invalid k.cause) (closed.of (fact_at l (element.At a)) s) (closed.causes (element.Invalid k.cause) caused))
          (Contains-append_right (unless (drops types f place i (fact_at l (element.At a))) (fact_at l (element.At a))) (killed_facts (kills types f place i) i (fact_at l (element.At a)) ++ makes sigs types f place i (fact_at l (element.At a))) (fact_at l (element.Invalid k.cause))
          (Contains-append_left (killed_facts (kills types f place i) i (fact_at l (element.At a))) (makes sigs types f place i (fact_at l (element.At a))) (fact_at l (element.Invalid k.cause))
          (subst (λ ks. Contains (killed_facts ks i (fact_at l (element.At a))) (fact_at l (element.Invalid k.cause))) (sym is)
          (Contains-append_left (given_if (under k.owner a && not (writes i l)) (fact_at l (element.Invalid k.cause))) [] (fact_at l (element.Invalid k.cause))
          (given (under k.owner a && not (writes i l)) (fact_at l (element.Invalid k.cause)) (both_true (under k.owner a) (writes i l) under_k free)))))),
    );
  }

  -- .. and through a pointer that may point to a place
  pub left_through : (p : Location) (members : List ℕ) (a : AbsPlace) → S (fact_at (located p) (element.At a)) → ((x y : Fact) → from_two sigs types f place i x y ≡ killed_through place i (named.Through p members) x y)
      → ((e : Element) → is_gone types f place i e ≡ false) → Contains (step_elements f place i) (element.Invalid (owner_changed place)) → LeftBy Stands (under (members_place a members)) (writes i) S S'
  left_through p members a target two gone caused = record {
    kept = λ l e s free not_hit. kept_by l e s (both_false (is_gone types f place i e) (writes i l) (gone e) free);
    hit = λ l b r s stands free under_a. (
      owner_changed place,
      closed.two (fact_at (located p) (element.At a)) (fact_at l (element.At b)) (fact_at l (element.Invalid (owner_changed place))) target s
          (caused_of types f l (element.At b) (element.Invalid (owner_changed place)) (closed.of (fact_at l (element.At b)) s) (closed.causes (element.Invalid (owner_changed place)) caused))
          (subst (λ xs. Contains xs (fact_at l (element.Invalid (owner_changed place)))) (sym (two (fact_at (located p) (element.At a)) (fact_at l (element.At b))))
          (subst (λ t. Contains (cond t (given_if (under (members_place a members) b && not (writes i l)) (fact_at l (element.Invalid (owner_changed place)))) []) (fact_at l (element.Invalid (owner_changed place)))) (sym (place_laws.refl (located p)))
          (given (under (members_place a members) b && not (writes i l)) (fact_at l (element.Invalid (owner_changed place))) (both_true (under (members_place a members) b) (writes i l) under_a free)))),
    );
  }
