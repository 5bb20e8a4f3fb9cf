-- A test leaves the state as it is, and the facts that its branch passes on say what each unique_ptr has: of the one that was tested each fact stays that
-- may be so.
use Rattle.std.proofs.Common.{◌≡◌, ℕ, zero, suc, Bool, true, false, ◌&&◌, List, [], ◌∷◌, Option, Some, None, refl, sym, ap, subst, ◌∙◌}
use Rattle.std.specs.Prelude.{ℤ, cond, pos, negsuc, slice_get}
use Rattle.life_types.specs.TypeTests.{is_unique}
use Rattle.life_types.specs.Types.{Types}
use Rattle.life_core.specs.Function.{Function}
use Rattle.life_core.specs.Operands.{Location}
use Rattle.life_core.specs.Step.{Test, NonZero, NotNull}
use Rattle.life_pset.specs.declared.element.Element.{Element}
use Rattle.life_pset.specs.declared.element.Element.TheVariants as element
use Rattle.life_pset.specs.declared.element.Fact.{Fact}
use Rattle.life_pset.specs.declared.element.Root.{Root}
use Rattle.life_pset.proofs.Numbers.{exact_place}
use Rattle.life_contract.specs.Located.{is_location, located}
use Rattle.life_proper.specs.Placed.{type_in}
use Rattle.life_rules.specs.Matching.{fact_at, is_held, is_null}
use Rattle.life_store.specs.Doing.{owned_pointer}
use Rattle.life_store.specs.Effects.{cell}
use Rattle.life_store.specs.Meaning.{Verdict, Holds, Fails, Cut, by_number, by_pointer, member_tested, number_test, pointer_test, test_at, tested, whole_tested}
use Rattle.life_store.specs.Parts.{Parts, Unique, local_type, location_parts, parts_at, parts_if, word_within}
use Rattle.life_store.specs.State.{Pointer, Null, Wild, To, Static, Cell, Empty, Named, Number, Points, State}
use Rattle.life_store.proofs.CellLemmas.{some_same}
use Rattle.life_cover.specs.Covers.{CoversOwner}
use Rattle.life_cover.specs.Regions.{Region}
use Rattle.life_cover.specs.Uniques.{UniquesTold, had_at, word_in}
use Rattle.life_cover.proofs.Edges.{Passes}
use Rattle.life_cover.proofs.ExactLocations.{exact_location}
use Rattle.life_cover.proofs.KnownFrames.{IsKnownFrame}
use Rattle.life_cover.proofs.UniqueLocations.{IsUniqueAt, unique_at}

-- what the facts of the branch say
abbrev pub IsToldBy : Types → Function → (held failed : Fact → Type 0) → Verdict → Type 0
IsToldBy types f H F (Holds n st) = UniquesTold types f H st
IsToldBy types f H F (Fails n st) = UniquesTold types f F st
IsToldBy types f H F (Cut stop w) = Unit {0}

-- what covers nothing, and what covers something
held_left : (e : Element) → CoversOwner true e None → is_held e ≡ false
held_left element.Null h = refl
held_left (element.Moved k) h = refl
held_left (element.Invalid k) h = absurd h
held_left element.Own h = absurd h
held_left element.Static h = absurd h
held_left (element.At place) h = absurd h

null_left : (e : Element) (b : ℕ) → CoversOwner true e (Some b) → is_null e ≡ false
null_left element.Own b h = refl
null_left element.Null b h = absurd h
null_left (element.Moved k) b h = absurd h
null_left (element.Invalid k) b h = absurd h
null_left element.Static b h = absurd h
null_left (element.At place) b h = absurd h

points_one : {a b : Pointer} → Points a ≡ Points b → a ≡ b
points_one h = cc

module _ (types : Types) (f : Function) (rest : ℕ → ℕ) (inputs : Root → Option Region) (S : Fact → Type 0) (st : State) (k : IsKnownFrame types f rest inputs S st) where
  -- where each fact stays that covers what one has
  told_on : (S' : Fact → Type 0) → ((l : Location) (n : ℕ) (e : Element) → slice_get st.cells l.local ≡ Some (Named n) → is_unique (type_in types f l) ≡ true → CoversOwner true e (had_at st.world.content n (word_in types f l)) → S (fact_at (located l) e) → S' (fact_at (located l) e))
      → UniquesTold types f S' st
  told_on S' on l n named unique = let t = k.told l n named unique in record { known = t.known; holds = on l n t.known named unique t.covers t.holds; covers = t.covers }

  module _ (H F : Fact → Type 0) where
    number_told : (r : ℕ) → Passes (NonZero r) true S H → Passes (NonZero r) false S F → (n : ℕ) (v : Option Cell) → IsToldBy types f H F (number_test v n st)
    number_told r held failed n None = tt
    number_told r held failed n (Some Empty) = tt
    number_told r held failed n (Some (Named m)) = tt
    number_told r held failed n (Some (Points p)) = tt
    number_told r held failed n (Some (Number z)) = go z
      where
        go : (i : ℤ) → IsToldBy types f H F (by_number i n st)
        go (pos zero) = told_on F (λ l m e named unique covers s. failed (fact_at (located l) e) s refl)
        go (pos (suc j)) = told_on H (λ l m e named unique covers s. held (fact_at (located l) e) s refl)
        go (negsuc j) = told_on H (λ l m e named unique covers s. held (fact_at (located l) e) s refl)

    module _ (p : Location) (held : Passes (NotNull p) true S H) (failed : Passes (NotNull p) false S F) where
      -- the one that is tested, if it is one, keeps what covers what it has
      passed_on : (branch : Bool) (S' : Fact → Type 0)
          → ((n : ℕ) (e : Element) → slice_get st.cells p.local ≡ Some (Named n) → is_unique (type_in types f p) ≡ true → CoversOwner true e (had_at st.world.content n (word_in types f p)) → cond branch (is_null e) (is_held e) ≡ false)
          → Passes (NotNull p) branch S S' → UniquesTold types f S' st
      passed_on branch S' left passes = told_on S' (λ l n e named unique covers s. passes (fact_at (located l) e) s (stays l n e named unique covers))
        where
          stays : (l : Location) (n : ℕ) (e : Element) → slice_get st.cells l.local ≡ Some (Named n) → is_unique (type_in types f l) ≡ true → CoversOwner true e (had_at st.world.content n (word_in types f l)) → (is_location p (located l) && cond branch (is_null e) (is_held e)) ≡ false
          stays l n e named unique covers = go (is_location p (located l)) refl
            where
              go : (b : Bool) → is_location p (located l) ≡ b → (b && cond branch (is_null e) (is_held e)) ≡ false
              go false same = refl
              go true same =
                  let here : l ≡ p = sym (exact_location l p (unique_at types f rest inputs S st k l n named unique).short (exact_place (located l) (located p) same)) in
                  left n e (subst (λ (q : Location). slice_get st.cells q.local ≡ Some (Named n)) here named) (subst (λ (q : Location). is_unique (type_in types f q) ≡ true) here unique)
                  (subst (λ (q : Location). CoversOwner true e (had_at st.world.content n (word_in types f q))) here covers)

      -- what is tested of a unique_ptr is what it owns
      tested_is : (n : ℕ) → slice_get st.cells p.local ≡ Some (Named n) → is_unique (type_in types f p) ≡ true
          → tested types f p p.members (cell st p.local) st.world.content ≡ Some (Points (owned_pointer st.world.content (had_at st.world.content n (word_in types f p))))
      tested_is n named unique = go p.members refl
        where
          u : IsUniqueAt types f rest inputs S st k p n
          u = unique_at types f rest inputs S st k p n named unique

          parts : location_parts types f p ≡ Unique u.target (parts_at types u.target)
          parts = ap (parts_if types) u.typed ∙ u.parts

          go : (ms : List ℕ) → p.members ≡ ms → tested types f p ms (cell st p.local) st.world.content ≡ Some (Points (owned_pointer st.world.content (had_at st.world.content n (word_within types (local_type types f p.local) ms))))
          go [] none = ap (λ (v : Option Cell). whole_tested v st.world.content) named
          go (m ∷ ms) some =
              ap (λ (q : Parts). member_tested types f p q (cell st p.local) st.world.content) parts ∙ ap (λ (v : Option Cell). member_tested types f p (Unique u.target (parts_at types u.target)) v st.world.content) named
              ∙ ap (λ (js : List ℕ). Some (Points (owned_pointer st.world.content (had_at st.world.content n (word_within types (local_type types f p.local) js))))) some

      -- it is null where it owns nothing
      owns_nothing : (o : Option ℕ) → owned_pointer st.world.content o ≡ Null → o ≡ None
      owns_nothing None e = refl
      owns_nothing (Some b) e = absurd (unlike e)
        where
          unlike : owned_pointer st.world.content (Some b) ≡ Null → ⊥
          unlike h = cc

      owns_some : (e : Element) (o : Option ℕ) → (owned_pointer st.world.content o ≡ Null → ⊥) → CoversOwner true e o → is_null e ≡ false
      owns_some e None other covers = absurd (other refl)
      owns_some e (Some b) other covers = null_left e b covers

      module _ (n : ℕ) (w : Pointer) (is : tested types f p p.members (cell st p.local) st.world.content ≡ Some (Points w)) where
        owned_is : (j : ℕ) → slice_get st.cells p.local ≡ Some (Named j) → is_unique (type_in types f p) ≡ true → owned_pointer st.world.content (had_at st.world.content j (word_in types f p)) ≡ w
        owned_is j named unique = points_one (some_same (sym (tested_is j named unique) ∙ is))

        null_told : w ≡ Null → UniquesTold types f F st
        null_told null =
            passed_on false F (λ j e named unique covers. held_left e (subst (CoversOwner true e) (owns_nothing (had_at st.world.content j (word_in types f p)) (owned_is j named unique ∙ null)) covers)) failed

        some_told : (w ≡ Null → ⊥) → UniquesTold types f H st
        some_told other = passed_on true H (λ j e named unique covers. owns_some e (had_at st.world.content j (word_in types f p)) (λ null. other (sym (owned_is j named unique) ∙ null)) covers) held

      pointer_told : (n : ℕ) (w : Pointer) → tested types f p p.members (cell st p.local) st.world.content ≡ Some (Points w) → IsToldBy types f H F (by_pointer w n st)
      pointer_told n Null is = null_told n Null is refl
      pointer_told n Wild is = some_told n Wild is unlike
        where
          unlike : Wild ≡ Null → ⊥
          unlike h = cc
      pointer_told n (To t) is = some_told n (To t) is unlike
        where
          unlike : To t ≡ Null → ⊥
          unlike h = cc
      pointer_told n (Static s) is = some_told n (Static s) is unlike
        where
          unlike : Static s ≡ Null → ⊥
          unlike h = cc

      cell_told : (n : ℕ) (v : Option Cell) → tested types f p p.members (cell st p.local) st.world.content ≡ v → IsToldBy types f H F (pointer_test v n st)
      cell_told n None is = tt
      cell_told n (Some Empty) is = tt
      cell_told n (Some (Number z)) is = tt
      cell_told n (Some (Named m)) is = tt
      cell_told n (Some (Points w)) is = pointer_told n w is

    pub test_told : (t : Test) (n : ℕ) → Passes t true S H → Passes t false S F → IsToldBy types f H F (test_at types f t n st)
    test_told (NonZero r) n held failed = number_told r held failed n (cell st r)
    test_told (NotNull p) n held failed = cell_told p held failed n (tested types f p p.members (cell st p.local) st.world.content) refl
