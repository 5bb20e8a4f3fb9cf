-- A pointer that a callee gives back as its promise says, by itself or as a member, is covered by the facts that a call makes for its target.
use Rattle.std.proofs.Common.{◌≡◌, ℕ, ◌≤◌, ◌<◌, true, false, List, [], length, Option, Some, None, refl, sym, ap, subst, ◌∙◌}
use Rattle.std.specs.Prelude.{Contains, cond, slice_get, ◌||◌}
use Rattle.std.proofs.lemmas.Bool.{false≢true}
use Rattle.std.proofs.lemmas.List.Elements.{Contains-append_left, Contains-append_right}
use Rattle.life_types.specs.Pointees.{ty_of}
use Rattle.life_types.specs.TypeTests.{is_constant, is_pointer, is_unique}
use Rattle.life_types.specs.Types.{Types}
use Rattle.life_types.specs.declared.place.Place.{Place}
use Rattle.life_types.specs.declared.ty.Ty.{Ty}
use Rattle.life_types.specs.declared.ty.TyId.{TyId}
use Rattle.life_core.specs.declared.program.FnId.{FnId}
use Rattle.life_core.specs.declared.program.LocalKind.TheVariants.{Object}
use Rattle.life_core.specs.Function.{Function}
use Rattle.life_core.specs.Operands.{Argument, Location}
use Rattle.life_core.specs.Step.{Call}
use Rattle.life_pset.specs.Elements.{Input, elements_of, inputs_of, local_place, locations_of}
use Rattle.life_pset.specs.Places.{members_place, path}
use Rattle.life_pset.specs.Shapes.{members_type, ty_if}
use Rattle.life_pset.specs.declared.element.AbsPlace.{AbsPlace}
use Rattle.life_pset.specs.declared.element.Element.TheVariants as element
use Rattle.life_pset.specs.declared.element.Fact.{Fact}
use Rattle.life_pset.specs.declared.element.Root.{Root}
use Rattle.life_pset.specs.declared.element.Root.TheVariants as root
use Rattle.life_pset.proofs.Numbers.{is_of_iff}
use Rattle.life_contract.specs.Arguments.{is_argument_of}
use Rattle.life_proper.specs.Placed.{object_at, type_in}
use Rattle.life_contract.specs.Inputs.{inputs_of_signature}
use Rattle.life_contract.specs.Positions.{steps_place}
use Rattle.life_contract.specs.Promises.{element_if, fixed_elements, owner_elements, pointer_elements, promised_behind, promised_places, promises_null, promises_static, result_locations, result_type}
use Rattle.life_contract.specs.Signatures.{Signature, signature_of}
use Rattle.life_rules.specs.Calling.{called_none, called_one, fixed_facts, passed_element, passed_fact, passed_facts, passed_for, result_at}
use Rattle.life_rules.specs.Matching.{fact_at}
use Rattle.life_rules.proofs.Giving.{at_head, flat_map_from, flat_map_into}
use Rattle.life_store.specs.Effects.{cell}
use Rattle.life_store.specs.State.{Cell, Named, Null, Pointer, State, Static, Target, To, Wild}
use Rattle.life_store.proofs.CellLemmas.{none_some}
use Rattle.life_forest.specs.Forest.{Touches}
use Rattle.life_forest.specs.Frames.{named_in}
use Rattle.life_forest.specs.Kinds.{kinds_of}
use Rattle.life_forest.specs.Owned.{times}
use Rattle.life_forest.proofs.Shaped.{IsShaped, within_same}
use Rattle.life_cover.specs.Covers.{Holds, IsCovered}
use Rattle.life_cover.specs.Frames.{RootStands, look_in, look_of}
use Rattle.life_cover.specs.Inputs.{StandsAt, entry_inputs, foot_with, may_change, mutated}
use Rattle.life_cover.specs.Kills.{IsUnnamed}
use Rattle.life_cover.specs.Passed.{IsPromised, IsPromisedTo, result_part}
use Rattle.life_cover.specs.Regions.{IsAt, Region}
use Rattle.life_cover.proofs.Arguments.{AreAimedBy, IsAimedBy}
use Rattle.life_cover.proofs.Beside.{at_on}
use Rattle.life_cover.proofs.CallCovers.{roots_stay}
use Rattle.life_cover.proofs.CalledElsewhere.{steps_same}
use Rattle.life_cover.proofs.GivenInputs.{IsEntered, callee_given, is_entered, stood}
use Rattle.life_cover.proofs.KnownFrames.{IsKnownFrame, IsRight, hand_of, rooted_of, store_of}
use Rattle.life_cover.proofs.Listing.{map_into, null_known}
use Rattle.life_cover.proofs.LocationsListed.{pointer_listed, told_in}
use Rattle.life_cover.proofs.Looks.{TakesAll}
use Rattle.life_cover.proofs.Making.{fact_path}
use Rattle.life_cover.proofs.InputRoots.{one_root}
use Rattle.life_cover.proofs.PointerInputs.{from_signature, root_free}
use Rattle.life_cover.proofs.PromisedPlaces.{IsReachedAt, reached_known, steps_reached}
use Rattle.life_cover.proofs.ResultTypes.{promised_root}
use Rattle.life_cover.proofs.Takes.{made_of, named_fact}
use Rattle.life_contract.specs.Located.{located}

module _ (types : Types) (f : Function) (rest : ℕ → ℕ) (inputs : Root → Option Region) (S : Fact → Type 0) (st : State) (k : IsKnownFrame types f rest inputs S st) (sigs : List Signature) (number : ℕ) (place : Place) (S' : Fact → Type 0) (target : Option Location) (g : FnId) (xs : List Argument)
    (right : IsRight sigs types number f place (Call target g xs) S S') (values : List Cell) (gf : Function) (at_g : slice_get sigs g.0 ≡ Some (signature_of gf)) (shaped : IsShaped types gf) (aims : AreAimedBy types f inputs S st xs gf values)
    (over : (n : ℕ) → 0 < times (named_in values) n → (x : ℕ) × (cell st x ≡ Some (Named n)) × IsUnnamed S x) (few : length (locations_of types gf) ≤ 256) (to : Location) (into : target ≡ Some to) (ms : List ℕ) (path_is : path (members_place (local_place (length (signature_of gf).parameters)) ms) ≡ ms) (l : Location) (at_l : members_place (located to) ms ≡ located l)
    (pointer : is_pointer (type_in types f l) ≡ true) (result : is_pointer (ty_if types (result_part types gf ms)) ≡ true) (look : TakesAll types (look_in types f l) (look_of types (result_part types gf ms))) where
  abbrev sig : Signature
  sig = signature_of gf

  -- it is a location of the result
  abbrev r : AbsPlace
  r = members_place (local_place (length (signature_of gf).parameters)) ms

  abbrev id : Option TyId
  id = result_part types gf ms

  abbrev given_type : Ty
  given_type = result_type types (signature_of gf) r

  typed : result_type types (signature_of gf) (members_place (local_place (length (signature_of gf).parameters)) ms) ≡ ty_if types (result_part types gf ms)
  typed = ap (λ (ks : List ℕ). ty_if types (members_type types (Some gf.result) ks)) path_is

  at_r : result_at (located to) (members_place (local_place (length (signature_of gf).parameters)) ms) ≡ located l
  at_r = ap (members_place (located to)) path_is ∙ at_l

  part : Contains (result_locations types (signature_of gf)) (members_place (local_place (length (signature_of gf).parameters)) ms)
  part = of (members_type types (Some gf.result) ms) refl result
    where
      of : (o : Option TyId) → members_type types (Some gf.result) ms ≡ o → is_pointer (ty_if types o) ≡ true → Contains (result_locations types (signature_of gf)) (members_place (local_place (length (signature_of gf).parameters)) ms)
      of None e h = absurd (false≢true h)
      of (Some x) e h =
          told_in types k.ordered Object gf.result x (local_place (length (signature_of gf).parameters)) ms (sym (within_same types ms (Some gf.result)) ∙ e)
          (ap (λ b. b || is_unique (ty_of types x)) h)

  listed : Contains (locations_of types f) (located l)
  listed = pointer_listed types k.ordered k.once f k.shaped l pointer

  -- ---- null

  pub null_fact : promises_null (signature_of gf) (ty_if types (result_part types gf ms)) ≡ true → S' (fact_at (located l) element.Null)
  null_fact null =
      named_fact sigs types f place (Call target g xs) S S' right.closed l element.Null
      (subst (λ (a : AbsPlace). Contains (called_none types (slice_get sigs g.0) target) (fact_at a element.Null)) at_r
      (subst (λ (o : Option Signature). Contains (called_none types o target) y) (sym at_g)
      (subst (λ (u : Option Location). Contains (called_none types (Some sig) u) y) (sym into)
      (flat_map_into (fixed_facts types sig (located to)) (result_locations types sig) r y part
      (map_into (fact_at (result_at (located to) r)) (fixed_elements types sig given_type) element.Null
      (Contains-append_right (owner_elements given_type) (cond (is_pointer given_type) (pointer_elements types sig given_type) []) element.Null
      (subst (λ b. Contains (cond b (pointer_elements types sig given_type) []) element.Null) (sym (ap is_pointer typed ∙ result))
      (Contains-append_left (element_if (promises_null sig given_type) element.Null) (element_if (promises_static types sig given_type) element.Static) element.Null
      (subst (λ b. Contains (element_if b element.Null) element.Null) (sym (ap (promises_null sig) typed ∙ null)) (at_head element.Null []))))))))))
      listed (null_known types k.ordered f)
    where
      y : Fact
      y = fact_at (result_at (located to) r) element.Null

  -- ---- a place behind an input

  module _ (i : Input) (among : Contains (inputs_of types gf) i) (from : Location) (argument : is_argument_of xs i (located from) ≡ true) (at : AbsPlace) (fact : S (fact_at (located from) (element.At at))) (a : AbsPlace) (rooted : a.root ≡ i.root)
      (promised : Contains (promised_places types (signature_of gf) (ty_if types (result_part types gf ms))) a) (known : Contains (elements_of types f) (element.At (steps_place at (path a)))) where
    passed_fact_at : S' (fact_at (located l) (element.At (steps_place at (path a))))
    passed_fact_at =
        subst (λ (z : AbsPlace). S' (fact_at z (element.At (steps_place at (path a))))) at_r
        (made_of sigs types f place (Call target g xs) S S' right.closed (fact_at (located from) (element.At at)) y fact ((is_of_iff types f y).1 (subst (λ (z : AbsPlace). Contains (locations_of types f) z) (sym at_r) listed, known))
        (subst (λ (o : Option Signature). Contains (called_one types o xs target (fact_at (located from) (element.At at))) y) (sym at_g)
        (subst (λ (u : Option Location). Contains (called_one types (Some sig) xs u (fact_at (located from) (element.At at))) y) (sym into)
        (flat_map_into (passed_for types sig xs (located to) (fact_at (located from) (element.At at))) (inputs_of_signature types sig) j.0 y j.1.0
        (subst (λ b. Contains (cond b (passed_element types sig (located to) j.0 (element.At at)) []) y) (sym is)
        (flat_map_into (passed_facts types sig j.0 (located to) at) (result_locations types sig) r y part
        (map_into (passed_fact (located to) at r) (promised_behind types sig given_type j.0) a j.1.1)))))))
      where
        y : Fact
        y = fact_at (result_at (located to) r) (element.At (steps_place at (path a)))

        j : (j : Input) × (Contains (inputs_of_signature types (signature_of gf)) j × Contains (promised_behind types (signature_of gf) (result_type types (signature_of gf) (members_place (local_place (length (signature_of gf).parameters)) ms)) j) a)
        j =
            flat_map_from (promised_behind types (signature_of gf) (result_type types (signature_of gf) (members_place (local_place (length (signature_of gf).parameters)) ms))) (inputs_of_signature types (signature_of gf)) a
            (subst (λ (u : Ty). Contains (promised_places types (signature_of gf) u) a) (sym typed) promised)

        -- no other input has this root
        same : j.0 ≡ i
        same = one_root types gf k.ordered few j.0 i (from_signature types k.ordered gf j.0 j.1.0) among (sym (promised_root types (signature_of gf) (result_type types (signature_of gf) (members_place (local_place (length (signature_of gf).parameters)) ms)) j.0 a j.1.1) ∙ rooted)

        is : is_argument_of xs j.0 (located from) ≡ true
        is = ap (λ (u : Input). is_argument_of xs u (located from)) same ∙ argument

  -- ---- behind the call

  module _ (after : State) (touch : Touches (kinds_of types) (foot_with types (mutated types gf (entry_inputs types gf st.world.content values)) (named_in values)) st.world.content after.world.content)
      (stay : (y m : ℕ) → cell st y ≡ Some (Named m) → times (named_in values) m ≡ 0 → cell after y ≡ Some (Named m)) (objects : (y m : ℕ) → cell after y ≡ Some (Named m) → object_at types f y ≡ true) where
    module _ (t : Target) (h : IsPromisedTo types gf (entry_inputs types gf st.world.content values) after.world.content (result_part types gf ms) t) where
      -- its root is an input of the callee
      input_root : (ro : Root) → RootStands types gf (StandsAt (entry_inputs types gf st.world.content values)) [] ro h.points.lies.start → StandsAt (entry_inputs types gf st.world.content values) ro h.points.lies.start
      input_root (root.Local y) stands = absurd (none_some stands.0)
      input_root (root.Input q member) stands = stands

      stands_g : StandsAt (entry_inputs types gf st.world.content values) h.place.root h.points.lies.start
      stands_g = input_root h.place.root h.points.lies.stands

      abbrev e : IsEntered types gf st.world.content values h.place.root h.points.lies.start
      e = is_entered types gf st.world.content values h.place.root h.points.lies.start stands_g

      abbrev aim : IsAimedBy types f inputs S st xs gf (is_entered types gf st.world.content values h.place.root h.points.lies.start stands_g).input (is_entered types gf st.world.content values h.place.root h.points.lies.start stands_g).target
      aim = aims e.input e.target e.among e.handed

      -- the argument's place lies where it did
      still : IsAt types after.world.content (RootStands types f (StandsAt inputs) after.cells) aim.place h.points.lies.start
      still =
          at_on types k.ordered (hand_of rest st) st.world.content after.world.content (store_of types f rest inputs S st k) (foot_with types (mutated types gf (entry_inputs types gf st.world.content values)) (named_in values)) touch (RootStands types f (StandsAt inputs) st.cells) (RootStands types f (StandsAt inputs) after.cells)
          aim.place h.points.lies.start ((rooted_of types f rest inputs S st k).fits aim.place.root)
          (λ z. roots_stay types f rest inputs S st k sigs number place S' target g xs right values gf at_g shaped aims over after stay aim.place z (located aim.from, aim.fact))
          (stood types f rest inputs S st k sigs number place S' target g xs right values gf at_g shaped aims over h.place.root h.points.lies.start stands_g)
          ((callee_given types f rest inputs S st k sigs number place S' target g xs right values gf at_g shaped aims over).free h.place.root h.points.lies.start stands_g)

      reached : IsReachedAt types k.ordered f k.shaped k.short after.world.content after.cells objects inputs k.given.each (steps_place aim.place (path h.place)) h.points.region
      reached =
          steps_reached types k.ordered f k.shaped k.short after.world.content after.cells objects inputs k.given.each (path h.place) aim.place h.points.lies.start h.points.region
          (record { path = fact_path types k.ordered f k.shaped k.short after.world.content after.cells objects inputs k.given.each (located aim.from) aim.place (right.closed.of (fact_at (located aim.from) (element.At aim.place)) aim.fact); lies = still })
          h.points.lies.lies

      -- what may be changed through it may be changed through the argument
      writable : (look_in types f l).constant ≡ false → may_change types f (steps_place aim.place (path h.place)).root ≡ true
      writable constant = ap (may_change types f) (steps_same aim.place (path h.place)) ∙ aim.points.change (aim.look.constant (own (h.points.change (look.constant constant))))
        where
          own : may_change types gf h.place.root ≡ true → is_constant (ty_if types e.input.ty) ≡ false
          own may = root_free types gf e.input h.place.root e.found may

      to_covered : IsCovered types after.world.content (RootStands types f (StandsAt inputs) after.cells) (may_change types f) S' (located l) (look_in types f l) (To t)
      to_covered = record {
        known = element.At (steps_place aim.place (path h.place));
        holds = passed_fact_at e.input e.among aim.from aim.argument aim.place aim.fact h.place (sym e.named) h.promised (reached_known types k.ordered f k.shaped k.short after.world.content after.cells objects inputs k.given.each (steps_place aim.place (path h.place)) h.points.region reached);
        covers = record {
          region = h.points.region;
          lies = reached.lies;
          object = h.points.object;
          word = h.points.word;
          type = look.target h.points.region.ty h.points.type;
          change = writable;
          holds = subst (λ ranged. Holds after.world.content ranged t) look.ranged h.points.holds;
        };
      }

    pub result_covered : (p : Pointer) → IsPromised types gf (entry_inputs types gf st.world.content values) after.world.content (result_part types gf ms) p → IsCovered types after.world.content (RootStands types f (StandsAt inputs) after.cells) (may_change types f) S' (located l) (look_in types f l) p
    result_covered (Static s) h = tt
    result_covered Wild h = absurd h
    result_covered Null h = record { known = element.Null; holds = null_fact h; covers = tt }
    result_covered (To t) h = to_covered t h
