-- A test leaves the state as it is, and the facts that its branch passes on cover all pointers: of the one that was tested each fact stays that
-- may cover its value.
use Rattle.std.proofs.Common.{◌≡◌, ◌≢◌, ℕ, zero, suc, Bool, true, false, ◌&&◌, List, [], ◌∷◌, Option, Some, None, refl, sym, ap, subst, ◌∙◌}
use Rattle.std.specs.Prelude.{ℤ, cond, pos, negsuc}
use Rattle.life_types.specs.TypeTests.{is_pointer}
use Rattle.life_types.specs.Types.{Types}
use Rattle.life_types.specs.declared.ty.TyId.{TyId}
use Rattle.life_core.specs.Function.{Function}
use Rattle.life_core.specs.Operands.{Location}
use Rattle.life_core.specs.Step.{Test, NonZero, NotNull}
use Rattle.life_pset.specs.declared.element.Element.{Element}
use Rattle.life_pset.specs.declared.element.Element.TheVariants as element
use Rattle.life_pset.specs.declared.element.Fact.{Fact}
use Rattle.life_pset.specs.declared.element.Root.{Root}
use Rattle.life_pset.proofs.Numbers.{exact_place}
use Rattle.life_contract.specs.Located.{is_location, located}
use Rattle.life_proper.specs.Placed.{type_in}
use Rattle.life_rules.specs.Matching.{fact_at, is_held, is_null}
use Rattle.life_store.specs.Effects.{cell}
use Rattle.life_store.specs.Meaning.{Verdict, Holds, Fails, Cut, by_number, by_pointer, member_tested, number_test, pointer_test, test_at, tested, whole_tested}
use Rattle.life_store.specs.Parts.{Parts, Raw, Iterates, Views, Single, Text, Vector, Unique, Member, NoMember, location_type, parts_if}
use Rattle.life_store.specs.Places.{location_cell, member_cell}
use Rattle.life_store.specs.State.{Pointer, Null, Wild, To, Static, Cell, Empty, Named, Number, Points, State}
use Rattle.life_store.proofs.CellLemmas.{some_same}
use Rattle.life_forest.proofs.StandingPointers.{IsPointer}
use Rattle.life_cover.specs.Covers.{Covers, IsCovered}
use Rattle.life_cover.specs.Frames.{FrameCovered, RootStands, look_in}
use Rattle.life_cover.specs.Inputs.{StandsAt, may_change}
use Rattle.life_cover.specs.Regions.{Region}
use Rattle.life_cover.proofs.Edges.{Passes}
use Rattle.life_cover.proofs.ExactLocations.{exact_location}
use Rattle.life_cover.proofs.KnownFrames.{IsKnownFrame}
use Rattle.life_cover.proofs.MemberWords.{is_pointing}
use Rattle.life_cover.proofs.PointedPlaces.{pointer_short}

-- the pointers of the state are covered by the facts of the branch
abbrev pub IsCoveredBy : Types → Function → (inputs : Root → Option Region) → (held failed : Fact → Type 0) → Verdict → Type 0
IsCoveredBy types f inputs H F (Holds n st) = FrameCovered types f inputs H st
IsCoveredBy types f inputs H F (Fails n st) = FrameCovered types f inputs F st
IsCoveredBy types f inputs H F (Cut stop w) = Unit {0}

module _ (types : Types) (f : Function) (rest : ℕ → ℕ) (inputs : Root → Option Region) (S : Fact → Type 0) (st : State) (k : IsKnownFrame types f rest inputs S st) where
  abbrev May : Location → Element → Pointer → Type 0
  May l e v = Covers types st.world.content (RootStands types f (StandsAt inputs) st.cells) (may_change types f) (look_in types f l) e v

  -- where each fact stays that covers a pointer's value
  covered_on : (S' : Fact → Type 0) → ((l : Location) (v : Pointer) (e : Element) → is_pointer (type_in types f l) ≡ true → location_cell types f l st ≡ Some (Points v) → May l e v → S (fact_at (located l) e) → S' (fact_at (located l) e)) → FrameCovered types f inputs S' st
  covered_on S' on l v pointer e = go v e (k.covered l v pointer e)
    where
      go : (u : Pointer) → location_cell types f l st ≡ Some (Points u) → IsCovered types st.world.content (RootStands types f (StandsAt inputs) st.cells) (may_change types f) S (located l) (look_in types f l) u
          → IsCovered types st.world.content (RootStands types f (StandsAt inputs) st.cells) (may_change types f) S' (located l) (look_in types f l) u
      go (Static s) e h = tt
      go Null e h = record { known = h.known; holds = on l Null h.known pointer e h.covers h.holds; covers = h.covers }
      go Wild e h = record { known = h.known; holds = on l Wild h.known pointer e h.covers h.holds; covers = h.covers }
      go (To t) e h = record { known = h.known; holds = on l (To t) h.known pointer e h.covers h.holds; covers = h.covers }

  -- what covers null, and what doesn't
  held_left : (l : Location) (e : Element) → May l e Null → is_held e ≡ false
  held_left l element.Null h = refl
  held_left l (element.Invalid c) h = refl
  held_left l (element.Moved c) h = absurd h
  held_left l element.Own h = absurd h
  held_left l element.Static h = absurd h
  held_left l (element.At place) h = absurd h

  null_left : (l : Location) (v : Pointer) (e : Element) → v ≢ Null → May l e v → is_null e ≡ false
  null_left l Null element.Null ne h = absurd (ne refl)
  null_left l Wild element.Null ne h = absurd h
  null_left l (To t) element.Null ne h = absurd h
  null_left l (Static s) element.Null ne h = absurd h
  null_left l v (element.Invalid c) ne h = refl
  null_left l v (element.Moved c) ne h = absurd h
  null_left l v element.Own ne h = absurd h
  null_left l v element.Static ne h = absurd h
  null_left l v (element.At place) ne h = refl

  -- a test of a pointer for null: what it doesn't pass on covers no value that may be there
  passed_on : (p : Location) (branch : Bool) (S' : Fact → Type 0) → ((v : Pointer) (e : Element) → is_pointer (type_in types f p) ≡ true → location_cell types f p st ≡ Some (Points v) → May p e v → cond branch (is_null e) (is_held e) ≡ false) → Passes (NotNull p) branch S S' → FrameCovered types f inputs S' st
  passed_on p branch S' left passes = covered_on S' (λ l v e pointer there may s. passes (fact_at (located l) e) s (stays l v e pointer there may))
    where
      stays : (l : Location) (v : Pointer) (e : Element) → is_pointer (type_in types f l) ≡ true → location_cell types f l st ≡ Some (Points v) → May l e v → (is_location p (located l) && cond branch (is_null e) (is_held e)) ≡ false
      stays l v e pointer there may = go (is_location p (located l)) refl
        where
          one : is_location p (located l) ≡ true → p ≡ l
          one same = exact_location l p (pointer_short types f rest inputs S st k l pointer v there) (exact_place (located l) (located p) same)

          go : (b : Bool) → is_location p (located l) ≡ b → (b && cond branch (is_null e) (is_held e)) ≡ false
          go false same = refl
          go true same =
              let here = sym (one same) in
              left v e (subst (λ (q : Location). is_pointer (type_in types f q) ≡ true) here pointer) (subst (λ (q : Location). location_cell types f q st ≡ Some (Points v)) here there) (subst (λ (q : Location). May q e v) here may)

  module _ (H F : Fact → Type 0) where
    number_covered : (r : ℕ) → Passes (NonZero r) true S H → Passes (NonZero r) false S F → (n : ℕ) (v : Option Cell) → IsCoveredBy types f inputs H F (number_test v n st)
    number_covered r held failed n None = tt
    number_covered r held failed n (Some Empty) = tt
    number_covered r held failed n (Some (Named m)) = tt
    number_covered r held failed n (Some (Points p)) = tt
    number_covered r held failed n (Some (Number z)) = go z
      where
        go : (i : ℤ) → IsCoveredBy types f inputs H F (by_number i n st)
        go (pos zero) = covered_on F (λ l v e pointer there may s. failed (fact_at (located l) e) s refl)
        go (pos (suc j)) = covered_on H (λ l v e pointer there may s. held (fact_at (located l) e) s refl)
        go (negsuc j) = covered_on H (λ l v e pointer there may s. held (fact_at (located l) e) s refl)

    module _ (p : Location) (held : Passes (NotNull p) true S H) (failed : Passes (NotNull p) false S F) where
      -- what is tested, where it is a pointer, is its value
      abbrev IsTested : Pointer → Type 0
      IsTested w = (v : Pointer) → is_pointer (type_in types f p) ≡ true → location_cell types f p st ≡ Some (Points v) → v ≡ w

      tested_covered : (n : ℕ) (w : Pointer) → IsTested w → IsCoveredBy types f inputs H F (by_pointer w n st)
      tested_covered n Null is = passed_on p false F (λ v e pointer there may. held_left p e (subst (May p e) (is v pointer there) may)) failed
      tested_covered n Wild is = passed_on p true H (λ v e pointer there may. null_left p Wild e unlike (subst (May p e) (is v pointer there) may)) held
        where
          unlike : Wild ≡ Null → ⊥
          unlike h = cc
      tested_covered n (To t) is = passed_on p true H (λ v e pointer there may. null_left p (To t) e unlike (subst (May p e) (is v pointer there) may)) held
        where
          unlike : To t ≡ Null → ⊥
          unlike h = cc
      tested_covered n (Static s) is = passed_on p true H (λ v e pointer there may. null_left p (Static s) e unlike (subst (May p e) (is v pointer there) may)) held
        where
          unlike : Static s ≡ Null → ⊥
          unlike h = cc

      points_one : {a b : Pointer} → Points a ≡ Points b → a ≡ b
      points_one h = cc

      whole_is : (v : Pointer) (x : Option Cell) → x ≡ Some (Points v) → whole_tested x st.world.content ≡ Some (Points v)
      whole_is v x e = ap (λ (y : Option Cell). whole_tested y st.world.content) e

      -- a member that is a pointer is tested as it is held
      member_is : (q : Parts) → IsPointer q → (x : Option Cell) → member_tested types f p q x st.world.content ≡ member_cell types f p.local p.members x st.world.content
      member_is Raw is x = refl
      member_is Iterates is x = refl
      member_is Views is x = refl
      member_is Single is x = absurd is
      member_is (Text id) is x = absurd is
      member_is (Vector id element) is x = absurd is
      member_is (Unique id target) is x = absurd is
      member_is (Member first others) is x = absurd is
      member_is NoMember is x = absurd is

      is_tested : (w : Pointer) → tested types f p p.members (cell st p.local) st.world.content ≡ Some (Points w) → IsTested w
      is_tested w is v pointer there = points_one (some_same (sym (go p.members refl) ∙ is))
        where
          at_parts : IsPointer (parts_if types (location_type types f p))
          at_parts = let h = is_pointing types k.ordered k.once f k.shaped p pointer in subst (λ (id : Option TyId). IsPointer (parts_if types id)) (sym h.typed) h.points

          go : (ms : List ℕ) → p.members ≡ ms → tested types f p ms (cell st p.local) st.world.content ≡ Some (Points v)
          go [] none = whole_is v (cell st p.local) (ap (λ (ms : List ℕ). member_cell types f p.local ms (cell st p.local) st.world.content) (sym none) ∙ there)
          go (m ∷ ms) some = member_is (parts_if types (location_type types f p)) at_parts (cell st p.local) ∙ there

      null_covered : (n : ℕ) (v : Option Cell) → tested types f p p.members (cell st p.local) st.world.content ≡ v → IsCoveredBy types f inputs H F (pointer_test v n st)
      null_covered n None e = tt
      null_covered n (Some Empty) e = tt
      null_covered n (Some (Number z)) e = tt
      null_covered n (Some (Named m)) e = tt
      null_covered n (Some (Points w)) e = tested_covered n w (is_tested w e)

    pub test_covered : (t : Test) (n : ℕ) → Passes t true S H → Passes t false S F → IsCoveredBy types f inputs H F (test_at types f t n st)
    test_covered (NonZero r) n held failed = number_covered r held failed n (cell st r)
    test_covered (NotNull p) n held failed = null_covered p held failed n (tested types f p p.members (cell st p.local) st.world.content) refl
