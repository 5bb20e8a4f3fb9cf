-- What may be without its buffer where a function is left isn't given back: nobody comes to it then.
use Rattle.std.proofs.Common.{◌≡◌, inl, inr, ℕ, ◌<◌, true, false, List, Some, subst, sym, ap, ◌∙◌, arith, Option}
use Rattle.std.specs.Prelude.{slice_get}
use Rattle.life_types.specs.Pointees.{or_void}
use Rattle.life_types.specs.TypeTests.{is_void}
use Rattle.life_types.specs.Types.{Types}
use Rattle.life_core.specs.Function.{Function}
use Rattle.life_core.specs.Holdings.{result_sort}
use Rattle.life_pset.specs.Shapes.{has_buffer}
use Rattle.life_pset.specs.declared.element.Root.{Root}
use Rattle.life_contract.specs.Signatures.{Signature}
use Rattle.life_proper.specs.Placed.{result_at, type_at}
use Rattle.life_proper.specs.WellFormedPrograms.{is_well_formed_function}
use Rattle.life_proper.proofs.SortedNodes.{formed_parts}
use Rattle.life_store.specs.Calls.{given_back, results, slots_back}
use Rattle.life_store.specs.Effects.{cell}
use Rattle.life_store.specs.State.{Named, State}
use Rattle.life_store.proofs.MapLemmas.{one_or_apart}
use Rattle.life_forest.specs.Frames.{named_in}
use Rattle.life_forest.specs.Kinds.{kinds_of}
use Rattle.life_forest.specs.Owned.{times}
use Rattle.life_forest.proofs.Following.{in_hand}
use Rattle.life_forest.proofs.GivenSlots.{named_append}
use Rattle.life_forest.proofs.HeldPoints.{IsSound}
use Rattle.life_forest.proofs.Shaped.{IsShaped}
use Rattle.life_forest.proofs.Slots.{ArePointsFormed}
use Rattle.life_forest.proofs.Steps.{alive_le}
use Rattle.life_cover.specs.Inputs.{AreGiven, frame_foot}
use Rattle.life_cover.specs.Lacking.{IsLoose, IsMovedFrom, MayLack}
use Rattle.life_cover.specs.Regions.{Region}
use Rattle.life_cover.proofs.Edges.{FactsAt}
use Rattle.life_cover.proofs.GivenBack.{IsNamingSlot, is_result, result_solid, slot_no_buffer, slots_name}
use Rattle.life_cover.proofs.Inputs.{local_low}
use Rattle.life_cover.proofs.Locals.{named_unowned, two_named}
use Rattle.life_cover.proofs.NamedResults.{back_named, results_named}
use Rattle.life_cover.proofs.Unmoved.{derived_unmoved, never_result}

module _ (types : Types) (names texts : ℕ) (fs : List Function) (f : Function) (formed : is_well_formed_function types names texts fs f ≡ true) (points : ArePointsFormed types texts fs f) (shaped : IsShaped types f)
    (rest : ℕ → ℕ) (inputs : Root → Option Region) (sigs : List Signature) (p : ℕ) (st : State) (sound : IsSound types f rest st) (given : AreGiven types f inputs (frame_foot types f inputs st.cells) st.world.content) (j : ℕ) where
  -- ---- a local that may have been moved from

  module _ (moved : IsMovedFrom types f (FactsAt sigs types f p) st.cells j) where
    same_local : (x : ℕ) → slice_get st.cells x ≡ Some (Named j) → x ≡ moved.local
    same_local x named = one_or_apart x moved.local (λ same. same)
        (λ ne.
        let two = two_named st.cells x moved.local j ne named moved.names in
        let held = sound.stands.store.forest.held j in
        let alive = alive_le (kinds_of types) st.world.content j in
        absurd (omega (arith, two, held, alive)))

    no_slot_back : (y : ℕ) × IsNamingSlot types f st j y → ⊥
    no_slot_back s = slot_no_buffer types f st j shaped s.0 s.1 (subst (λ z. has_buffer (type_at types f z) ≡ true) (sym (same_local s.0 s.1.names)) moved.owner)

    no_result : (cell st f.parameters ≡ Some (Named j)) × (is_void (or_void (slice_get types.types f.result.0)) ≡ false) → ⊥
    no_result r =
        derived_unmoved types sigs texts fs f points moved.local
        (never_result types texts fs f points moved.local (subst (λ z. result_at types f z ≡ true) (same_local f.parameters r.0) (is_result types f r.1))) p moved.cause moved.holds

    not_back : 0 < times (named_in (results types f st)) j → ⊥
    not_back lt = one_or_apart (times (named_in (given_back (slice_get types.types f.result.0) (result_sort types f) (cell st f.parameters))) j) 0
        (λ z.
        let both = named_append (given_back (slice_get types.types f.result.0) (result_sort types f) (cell st f.parameters)) (slots_back types f 0 f.parameters st) j in
        no_slot_back (slots_name types f st j 0 f.parameters (omega (arith, lt, z, both))))
        (λ nz.
        let some : 0 < times (named_in (given_back (slice_get types.types f.result.0) (result_sort types f) (cell st f.parameters))) j = omega (arith, nz) in
        no_result (
          back_named types f st j (slice_get types.types f.result.0) (result_sort types f) (cell st f.parameters) some,
          result_solid types f st j f.result (slice_get f.locals f.parameters) (slice_get types.types f.result.0) (formed_parts types names texts fs f formed).result (result_sort types f) (cell st f.parameters) some,
        ))

  pub left_loose : MayLack types f inputs (FactsAt sigs types f p) st j → IsLoose types inputs (named_in (results types f st)) st.world.content j
  left_loose (inr loose) = record {
    born = loose.born;
    spared = loose.spared;
    unnamed = one_or_apart (times (named_in (results types f st)) j) 0 (λ z. z) (λ nz. let y = results_named types f st j (omega (arith, nz)) in let e = in_hand st.cells y.0 j y.1 in let none = loose.unnamed in absurd (omega (arith, e, none)));
    unowned = loose.unowned;
  }
  left_loose (inl moved) =
      let v = sound.stands.frame.objects moved.local j moved.names in record {
        born = sound.stands.store.forest.births j v.object v.there;
        spared = λ r a stands same. given.free r a stands (local_low types f rest inputs st sound.stands.store sound.stands.frame moved.local a.object (moved.names ∙ ap (λ i. Some (Named i)) (sym same)));
        unnamed = one_or_apart (times (named_in (results types f st)) j) 0 (λ z. z) (λ nz. absurd (not_back moved (omega (arith, nz))));
        unowned = λ m own. named_unowned types f rest st sound.stands.store sound.stands.frame moved.local j m moved.names own;
      }
