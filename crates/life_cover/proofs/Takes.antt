-- What an instruction makes of a pointer's facts, where it makes a pointer of another one, or of a place; and that nothing is killed then.
use Rattle.std.proofs.Common.{◌≡◌, ℕ, Bool, true, false, List, [], ◌++◌, Some, sym, subst}
use Rattle.std.specs.Prelude.{◌||◌, Contains}
use Rattle.std.proofs.lemmas.List.Elements.{Contains-append_left, Contains-append_right}
use Rattle.life_types.specs.Types.{Types}
use Rattle.life_types.specs.declared.place.Place.{Place}
use Rattle.life_core.specs.Function.{Function}
use Rattle.life_core.specs.Operands.{Location}
use Rattle.life_core.specs.Operands as named
use Rattle.life_core.specs.Step.{Step}
use Rattle.life_pset.specs.Elements.{elements_of, locations_of}
use Rattle.life_pset.specs.Table.{IsOf, table_of}
use Rattle.life_pset.specs.declared.element.Element.{Element}
use Rattle.life_pset.specs.declared.element.Fact.{Fact}
use Rattle.life_pset.specs.declared.element.Root.{Root}
use Rattle.life_pset.proofs.Numbers.{is_of_iff, place_laws}
use Rattle.life_contract.specs.Located.{located}
use Rattle.life_contract.specs.Signatures.{Signature}
use Rattle.life_rules.specs.Carrying.{drops, from_none, is_gone, killed_facts, kills, makes, reached_from, taken, writes}
use Rattle.life_rules.specs.Matching.{fact_at, facts_at, facts_if, given_if, reached, unless}
use Rattle.life_rules.proofs.Giving.{at_head}
use Rattle.life_cover.specs.Kills.{Closed, LeftBy}
use Rattle.life_cover.specs.Regions.{Region}

module _ (sigs : List Signature) (types : Types) (f : Function) (place : Place) (i : Step) (S S' : Fact → Type 0) (closed : Closed sigs types f place i S S') where
  pub made_of : (a x : Fact) → S a → IsOf (table_of types f) x → Contains (makes sigs types f place i a) x → S' x
  made_of a x s of has =
      closed.one a x s of
      (Contains-append_right (unless (drops types f place i a) a) (killed_facts (kills types f place i) i a ++ makes sigs types f place i a) x
      (Contains-append_right (killed_facts (kills types f place i) i a) (makes sigs types f place i a) x has))

  -- the facts of one pointer become those of another
  pub taken_fact : (p q : Location) → ((x : Fact) → makes sigs types f place i x ≡ taken p q x) → Contains (locations_of types f) (located p) → (e : Element) → S (fact_at (located q) e) → S' (fact_at (located p) e)
  taken_fact p q is listed e s =
      made_of (fact_at (located q) e) (fact_at (located p) e) s
      ((is_of_iff types f (fact_at (located p) e)).1 (listed, ((is_of_iff types f (fact_at (located q) e)).0 (closed.of (fact_at (located q) e) s)).1))
      (subst (λ xs. Contains xs (fact_at (located p) e)) (sym (is (fact_at (located q) e)))
      (subst (λ b. Contains (given_if b (fact_at (located p) e)) (fact_at (located p) e)) (sym (place_laws.refl (located q))) (at_head (fact_at (located p) e) [])))

  -- .. or what is reached through it
  pub reached_fact : (p q : Location) (owned : Bool) (members : List ℕ) → ((x : Fact) → makes sigs types f place i x ≡ reached_from p owned (named.Through q members) x) → Contains (locations_of types f) (located p) → (e e' : Element) → reached owned members e ≡ Some e'
      → Contains (elements_of types f) e' → S (fact_at (located q) e) → S' (fact_at (located p) e')
  reached_fact p q owned members is listed e e' gives known s =
      made_of (fact_at (located q) e) (fact_at (located p) e') s
      ((is_of_iff types f (fact_at (located p) e')).1 (listed, known))
      (subst (λ xs. Contains xs (fact_at (located p) e')) (sym (is (fact_at (located q) e)))
      (subst (λ b. Contains (facts_if b (located p) (reached owned members e)) (fact_at (located p) e')) (sym (place_laws.refl (located q)))
      (subst (λ x. Contains (facts_at (located p) x) (fact_at (located p) e')) (sym gives) (at_head (fact_at (located p) e') []))))

  -- .. or what is named
  pub named_fact : (p : Location) (e : Element) → Contains (from_none sigs types f place i) (fact_at (located p) e) → Contains (locations_of types f) (located p) → Contains (elements_of types f) e → S' (fact_at (located p) e)
  named_fact p e has listed known = closed.none (fact_at (located p) e) ((is_of_iff types f (fact_at (located p) e)).1 (listed, known)) has

  -- what kills nothing leaves all that it doesn't write
  pub left_all : (Stands : Root → Region → Type 0) → ((e : Element) → is_gone types f place i e ≡ false) → LeftBy Stands (λ a. false) (writes i) S S'
  left_all Stands gone = record {
    kept = λ l e s free not_hit. closed.one (fact_at l e) (fact_at l e) s (closed.of (fact_at l e) s)
        (Contains-append_left (unless (drops types f place i (fact_at l e)) (fact_at l e)) (killed_facts (kills types f place i) i (fact_at l e) ++ makes sigs types f place i (fact_at l e)) (fact_at l e)
        (subst (λ t. Contains (unless t (fact_at l e)) (fact_at l e)) (sym (both_false (is_gone types f place i e) (writes i l) (gone e) free)) (at_head (fact_at l e) [])));
    hit = λ l a r s stands free never. absurd (clash never);
  }
    where
      both_false : (a b : Bool) → a ≡ false → b ≡ false → (a || b) ≡ false
      both_false true b e f = e
      both_false false b e f = f

      clash : false ≡ true → ⊥
      clash e = cc
