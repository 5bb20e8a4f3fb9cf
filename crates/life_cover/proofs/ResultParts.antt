-- The pointers in a struct that a callee gives back are covered where its local stands.
use Rattle.std.proofs.Common.{◌≡◌, ◌≢◌, ℕ, ◌≤◌, ◌<◌, true, List, [], ◌∷◌, length, Option, Some, None, refl, sym, ap, subst, ◌∙◌, arith}
use Rattle.std.specs.Prelude.{slice_get}
use Rattle.std.proofs.lemmas.Bool.{false≢true}
use Rattle.life_types.specs.Pointees.{ty_of}
use Rattle.life_types.specs.TypeTests.{is_pointer, is_value}
use Rattle.life_types.specs.Types.{Types}
use Rattle.life_types.specs.declared.place.Place.{Place}
use Rattle.life_types.specs.declared.ty.Ty.{Ty}
use Rattle.life_types.specs.declared.ty.Ty.TheVariants as ty
use Rattle.life_types.specs.declared.ty.TyId.{TyId}
use Rattle.life_core.specs.declared.program.FnId.{FnId}
use Rattle.life_core.specs.Function.{Function}
use Rattle.life_core.specs.Operands.{Argument, Location}
use Rattle.life_core.specs.Step.{Call}
use Rattle.life_pset.specs.Elements.{local_place, locations_of}
use Rattle.life_pset.specs.Places.{members_place, path}
use Rattle.life_pset.specs.Shapes as shapes
use Rattle.life_pset.specs.Shapes.{members_type, ty_if}
use Rattle.life_pset.specs.declared.element.Fact.{Fact}
use Rattle.life_pset.specs.declared.element.Root.{Root}
use Rattle.life_contract.specs.Located.{located}
use Rattle.life_contract.specs.Signatures.{Signature, signature_of}
use Rattle.life_proper.specs.OperandTypes.{is_composed}
use Rattle.life_proper.specs.Placed.{object_at, type_in}
use Rattle.life_proper.specs.WellFormedPrograms.{is_result_of}
use Rattle.life_store.specs.Content.{Content}
use Rattle.life_store.specs.Effects.{cell}
use Rattle.life_store.specs.Parts.{local_type}
use Rattle.life_store.specs.Places.{location_cell, member_cell}
use Rattle.life_store.specs.State.{Cell, Empty, Named, Number, Pointer, Points, State}
use Rattle.life_store.proofs.CellLemmas.{none_some}
use Rattle.life_store.proofs.MapLemmas.{one_or_apart}
use Rattle.life_forest.specs.Forest.{Touches}
use Rattle.life_forest.specs.Frames.{named_in}
use Rattle.life_forest.specs.Kinds.{kinds_of}
use Rattle.life_forest.specs.Owned.{times}
use Rattle.life_forest.proofs.EnteredFrames.{composed_points}
use Rattle.life_forest.proofs.HandedOver.{IsHandedTo}
use Rattle.life_forest.proofs.ReadyCells.{composed_is_object}
use Rattle.life_forest.proofs.Shaped.{IsShaped}
use Rattle.life_cover.specs.Covers.{IsCovered, Look}
use Rattle.life_cover.specs.Frames.{RootStands, look_in, look_of}
use Rattle.life_cover.specs.Inputs.{StandsAt, entry_inputs, foot_with, may_change, mutated}
use Rattle.life_cover.specs.Kills.{IsUnnamed}
use Rattle.life_cover.specs.Passed.{ArePromised, IsPromised, result_part}
use Rattle.life_cover.specs.Regions.{Region}
use Rattle.life_cover.proofs.Arguments.{AreAimedBy}
use Rattle.life_cover.proofs.ExactLocations.{exact_path}
use Rattle.life_cover.proofs.HeldCells.{member_same}
use Rattle.life_cover.proofs.KnownFrames.{IsKnownFrame, IsRight}
use Rattle.life_cover.proofs.Looks.{TakesAll, look_same, takes_itself}
use Rattle.life_cover.proofs.PromisedResults.{result_covered}
use Rattle.life_cover.proofs.MemberWords.{IsPointing, is_pointing}
use Rattle.life_cover.proofs.ResultTypes.{part_composed, part_solid, result_typed}
use Rattle.life_cover.proofs.ShortLocations.{length_alike, location_short}

module _ (types : Types) (f : Function) (rest : ℕ → ℕ) (inputs : Root → Option Region) (S : Fact → Type 0) (st : State) (k : IsKnownFrame types f rest inputs S st) (sigs : List Signature) (number : ℕ) (place : Place) (S' : Fact → Type 0) (target : Option Location) (g : FnId) (xs : List Argument)
    (right : IsRight sigs types number f place (Call target g xs) S S') (values : List Cell) (gf : Function) (at_g : slice_get sigs g.0 ≡ Some (signature_of gf)) (shaped : IsShaped types gf) (aims : AreAimedBy types f inputs S st xs gf values)
    (over : (n : ℕ) → 0 < times (named_in values) n → (x : ℕ) × (cell st x ≡ Some (Named n)) × IsUnnamed S x) (few : length (locations_of types gf) ≤ 256) (formed : is_result_of types gf.result (slice_get types.types gf.result.0) (slice_get gf.locals gf.parameters) ≡ true) (c : Content) (vs : List Cell) (promised : ArePromised types gf (entry_inputs types gf st.world.content values) c vs)
    (after : State) (touch : Touches (kinds_of types) (foot_with types (mutated types gf (entry_inputs types gf st.world.content values)) (named_in values)) st.world.content after.world.content)
    (stay : (y m : ℕ) → cell st y ≡ Some (Named m) → times (named_in values) m ≡ 0 → cell after y ≡ Some (Named m)) (l : Location) (into : target ≡ Some l) (none : l.members ≡ []) (typed : shapes.local_type types f l.local ≡ Some gf.result) (v : Cell) (first : slice_get vs 0 ≡ Some v)
    (suits : IsHandedTo types c gf.result v) (object : (m : ℕ) → v ≡ Named m → (after.world.content ≡ c) × ((n : ℕ) → slice_get after.cells l.local ≡ Some (Named n) → n ≡ m)) (others : (y m : ℕ) → l.local ≢ y → cell after y ≡ Some (Named m) → object_at types f y ≡ true) where
  module _ (q : Location) (p : Pointer) (same : l.local ≡ q.local) (m : ℕ) (ms : List ℕ) (some : q.members ≡ m ∷ ms) (pointer : is_pointer (type_in types f q) ≡ true) where
    -- it is that part of the result
    type_is : shapes.location_type types f q ≡ result_part types gf (m ∷ ms)
    type_is = ap (λ x. members_type types (shapes.local_type types f x) q.members) (sym same) ∙ ap (λ (id : Option TyId). members_type types id q.members) typed ∙ ap (members_type types (Some gf.result)) some

    part_points : is_pointer (ty_if types (result_part types gf (m ∷ ms))) ≡ true
    part_points = ap (λ (id : Option TyId). is_pointer (ty_if types id)) (sym type_is) ∙ pointer

    composed : is_composed (ty_of types gf.result) ≡ true
    composed = part_composed types gf.result m ms part_points

    target_object : object_at types f l.local ≡ true
    target_object = composed_is_object types f k.poised.kinds l.local (ap (λ (id : Option TyId). is_composed (ty_if types id)) typed ∙ composed)

    objects : (y n : ℕ) → cell after y ≡ Some (Named n) → object_at types f y ≡ true
    objects y n e = one_or_apart l.local y (λ here. subst (λ z. object_at types f z ≡ true) here target_object) (λ ne. others y n ne e)

    -- its words are those of the target
    own_type : local_type types gf gf.parameters ≡ local_type types f q.local
    own_type = sym (shaped gf.parameters) ∙ result_typed types gf formed (part_solid types gf.result (m ∷ ms) part_points) ∙ sym typed ∙ ap (shapes.local_type types f) same ∙ k.shaped q.local

    short : (located q).length ≤ 8
    short =
        let is : IsPointing types k.ordered k.once f k.shaped q = is_pointing types k.ordered k.once f k.shaped q pointer in
        location_short types k.ordered f k.shaped k.short q is.part (ap (object_at types f) (sym same) ∙ target_object) is.typed

    path_is : path (members_place (local_place (length (signature_of gf).parameters)) (m ∷ ms)) ≡ m ∷ ms
    path_is =
        let alike = length_alike (m ∷ ms) (local_place (length (signature_of gf).parameters)) (local_place q.local) refl in
        let is = ap (λ (ks : List ℕ). (members_place (local_place q.local) ks).length) some in
        exact_path (m ∷ ms) (local_place (length (signature_of gf).parameters)) refl (omega (arith, alike, is, short))

    at_q : members_place (located l) (m ∷ ms) ≡ located q
    at_q =
        ap (λ (ks : List ℕ). members_place (members_place (local_place l.local) ks) (m ∷ ms)) none
        ∙ ap (λ x. members_place (local_place x) (m ∷ ms)) same
        ∙ ap (members_place (local_place q.local)) (sym some)

    seen : TakesAll types (look_in types f q) (look_of types (result_part types gf (m ∷ ms)))
    seen = subst (λ (look : Look). TakesAll types look (look_of types (result_part types gf (m ∷ ms)))) (sym (look_same types f k.shaped q ∙ ap (look_of types) type_is)) (takes_itself types (look_of types (result_part types gf (m ∷ ms))))

    -- what it holds is promised
    held_promised : (n : ℕ) → member_cell types f q.local (m ∷ ms) (Some (Named n)) after.world.content ≡ Some (Points p) → (u : Cell) → v ≡ u → IsHandedTo types c gf.result u → slice_get after.cells l.local ≡ Some (Named n) → IsPromised types gf (entry_inputs types gf st.world.content values) after.world.content (result_part types gf (m ∷ ms)) p
    held_promised n held Empty is h there = absurd h
    held_promised n held (Number z) is h there = absurd (composed_value (ty_of types gf.result) composed h)
      where
        composed_value : (t : Ty) → is_composed t ≡ true → is_value t ≡ true → ⊥
        composed_value ty.Text a b = false≢true b
        composed_value (ty.Vector element) a b = false≢true b
        composed_value (ty.Unique target) a b = false≢true b
        composed_value (ty.Struct number) a b = false≢true b
        composed_value _ a b = false≢true a
    held_promised n held (Points u) is h there = absurd (false≢true (sym (composed_points (ty_of types gf.result) composed) ∙ h.0))
    held_promised n held (Named j) is h there =
        subst (λ (d : Content). IsPromised types gf (entry_inputs types gf st.world.content values) d (result_part types gf (m ∷ ms)) p) (sym (object j is).0)
        (promised (m ∷ ms) p part_points
        (ap (λ (o : Option Cell). member_cell types gf gf.parameters (m ∷ ms) o c) (first ∙ ap Some is ∙ ap (λ i. Some (Named i)) (sym ((object j is).1 n there)))
        ∙ member_same types gf f gf.parameters q.local own_type (m ∷ ms) (Some (Named n)) c
        ∙ ap (λ (d : Content). member_cell types f q.local (m ∷ ms) (Some (Named n)) d) (sym (object j is).0)
        ∙ held))

    pub part_covered : location_cell types f q after ≡ Some (Points p) → IsCovered types after.world.content (RootStands types f (StandsAt inputs) after.cells) (may_change types f) S' (located q) (look_in types f q) p
    part_covered e = go (cell after q.local) refl (ap (λ (ks : List ℕ). member_cell types f q.local ks (cell after q.local) after.world.content) (sym some) ∙ e)
      where
        go : (x : Option Cell) → cell after q.local ≡ x → member_cell types f q.local (m ∷ ms) x after.world.content ≡ Some (Points p) → IsCovered types after.world.content (RootStands types f (StandsAt inputs) after.cells) (may_change types f) S' (located q) (look_in types f q) p
        go (Some (Named n)) there held =
            result_covered types f rest inputs S st k sigs number place S' target g xs right values gf at_g shaped aims over few l into (m ∷ ms) path_is q at_q pointer part_points seen after touch stay objects p
            (held_promised n held v refl suits (ap (cell after) same ∙ there))
        go None there held = absurd (none_some held)
        go (Some Empty) there held = absurd (none_some held)
        go (Some (Number z)) there held = absurd (none_some held)
        go (Some (Points u)) there held = absurd (none_some held)
