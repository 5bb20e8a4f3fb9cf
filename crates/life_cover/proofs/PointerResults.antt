-- A pointer that a callee gives back is written to a member of a local.
use Rattle.std.proofs.Common.{◌≡◌, ◌≢◌, ⊎_elim, ℕ, ◌+◌, ◌≤◌, ◌<◌, Bool, true, false, List, [], ◌∷◌, length, Option, Some, None, refl, sym, ap, subst, ◌∙◌, arith, inl, inr}
use Rattle.std.specs.Prelude.{Contains, slice_get}
use Rattle.std.specs.List.{flat_map}
use Rattle.life_types.specs.Pointees.{ty_of}
use Rattle.life_types.specs.TypeTests.{is_pointer}
use Rattle.life_types.specs.Types.{Types}
use Rattle.life_types.specs.declared.place.Place.{Place}
use Rattle.life_core.specs.declared.program.FnId.{FnId}
use Rattle.life_core.specs.Function.{Function}
use Rattle.life_core.specs.Operands.{Argument, Location}
use Rattle.life_core.specs.Step.{Call}
use Rattle.life_pset.specs.Elements.{locations_of}
use Rattle.life_pset.specs.Places.{is_within}
use Rattle.life_pset.specs.declared.element.Fact.{Fact}
use Rattle.life_pset.specs.declared.element.Root.{Root}
use Rattle.life_contract.specs.Located.{located}
use Rattle.life_contract.specs.Signatures.{Signature, signature_of}
use Rattle.life_proper.specs.GivenOver.{given_argument}
use Rattle.life_proper.specs.Placed.{object_at, type_in}
use Rattle.life_rules.specs.Calling.{is_in_target}
use Rattle.life_store.specs.Calls.{lent, result_given}
use Rattle.life_store.specs.Content.{Content}
use Rattle.life_store.specs.Effects.{Setting, cell, put_content}
use Rattle.life_store.specs.Held.{pointer_in, pointer_words, words_at, wrote}
use Rattle.life_store.specs.Parts.{local_type, word_within}
use Rattle.life_store.specs.Places.{location_cell, member_pointed, pointed}
use Rattle.life_store.specs.State.{Cell, Empty, Named, Number, Pointer, Points, State, World, is_there}
use Rattle.life_forest.specs.Forest.{Touches}
use Rattle.life_forest.specs.Frames.{OnNext, named_in}
use Rattle.life_forest.specs.FrameTypes.{Stands}
use Rattle.life_forest.specs.Kinds.{kinds_of}
use Rattle.life_forest.specs.Owned.{every, times}
use Rattle.life_forest.proofs.HandedOver.{HandEach}
use Rattle.life_forest.proofs.Shaped.{IsShaped}
use Rattle.life_cover.specs.Buffered.{AreBut}
use Rattle.life_cover.specs.Covers.{IsCovered}
use Rattle.life_cover.specs.Frames.{FrameCovered, RootStands, look_in, look_of}
use Rattle.life_cover.specs.Inputs.{StandsAt, entry_inputs, foot_with, may_change, mutated}
use Rattle.life_cover.specs.Kills.{IsUnnamed}
use Rattle.life_cover.specs.Lacking.{IsLoose, IsSpared}
use Rattle.life_cover.specs.Passed.{IsPromised}
use Rattle.life_cover.specs.Regions.{IsTrue, Region}
use Rattle.life_cover.proofs.Arguments.{AreAimedBy, AreSlotless}
use Rattle.life_cover.proofs.Behind.{IsBehind}
use Rattle.life_cover.proofs.CallCovers.{pointer_covered}
use Rattle.life_cover.proofs.CallKinds.{IsCalled, given_object, left_behind, stay}
use Rattle.life_cover.proofs.CalledPointers.{called_before}
use Rattle.life_cover.proofs.CopiedPointers.{member_held}
use Rattle.life_cover.proofs.GivenOn.{given_behind}
use Rattle.life_cover.proofs.Inputs.{frame_rooted}
use Rattle.life_cover.proofs.KnownFrames.{IsKnownFrame, IsRight, object_named}
use Rattle.life_cover.proofs.Looks.{TakesAll}
use Rattle.life_cover.proofs.PointedBehind.{member_buffered, member_had, member_touch, member_unowned, member_written}
use Rattle.life_cover.proofs.PointedPlaces.{pointed_over, pointer_short}
use Rattle.life_cover.proofs.Pointers.{OnRight}
use Rattle.life_cover.proofs.PromisedResults.{result_covered}
use Rattle.life_cover.proofs.WithinLocations.{pointer_itself}

module _ (types : Types) (f : Function) (rest : ℕ → ℕ) (inputs : Root → Option Region) (S : Fact → Type 0) (st : State) (k : IsKnownFrame types f rest inputs S st) (sigs : List Signature) (number : ℕ) (place : Place) (S' : Fact → Type 0) (target : Option Location) (g : FnId) (xs : List Argument)
    (right : IsRight sigs types number f place (Call target g xs) S S') (values : List Cell) (gf : Function) (at_g : slice_get sigs g.0 ≡ Some (signature_of gf)) (shaped : IsShaped types gf) (aims : AreAimedBy types f inputs S st xs gf values)
    (plain : AreSlotless xs) (each : HandEach types f st xs values) (few : length (locations_of types gf) ≤ 256) (less : (y : ℕ) (v : Cell) → is_there v ≡ true → cell (lent types f xs st) y ≡ Some v → cell st y ≡ Some v) (hand : (j : ℕ) → times (named_in (lent types f xs st).cells) j + times (named_in values) j ≡ times (named_in st.cells) j)
    (w : World) (touch : Touches (kinds_of types) (foot_with types (mutated types gf (entry_inputs types gf st.world.content values)) (named_in values)) st.world.content w.content) (bare : ℕ → Type 0) (buffered : AreBut types bare w.content) (vs : List Cell)
    (later : ℕ → ℕ) (stands : Stands types f later (record { world = w; cells = (lent types f xs st).cells })) (l : Location) (into : target ≡ Some l) (p : Pointer) (pointer : is_pointer (type_in types f l) ≡ true) (result : is_pointer (ty_of types gf.result) ≡ true)
    (look : TakesAll types (look_in types f l) (look_of types (Some gf.result))) (promised : IsPromised types gf (entry_inputs types gf st.world.content values) w.content (Some gf.result) p) where
  abbrev Over : ℕ → Type 0
  Over y = Contains (flat_map given_argument xs) y

  abbrev Taken : Location → Type 0
  Taken y = (q : Location) × (target ≡ Some q) × (q.members ≡ []) × (q.local ≡ y.local)

  abbrev Loose : ℕ → Type 0
  Loose n = IsLoose types (entry_inputs types gf st.world.content values) (named_in vs) w.content n × (times (named_in (lent types f xs st).cells) n ≡ 0) × IsSpared inputs n

  abbrev back : State
  back = record { world = w; cells = (lent types f xs st).cells }

  over : (m : ℕ) → 0 < times (named_in values) m → (x : ℕ) × (cell st x ≡ Some (Named m)) × IsUnnamed S x
  over = given_object types f rest inputs S st k sigs number place S' target g xs right values plain each

  objects : (y m : ℕ) → cell (record { world = w; cells = (lent types f xs st).cells }) y ≡ Some (Named m) → object_at types f y ≡ true
  objects y m e = object_named types f rest inputs S st k y m (less y (Named m) refl e)

  stays : (y m : ℕ) → cell st y ≡ Some (Named m) → times (named_in values) m ≡ 0 → cell (record { world = w; cells = (lent types f xs st).cells }) y ≡ Some (Named m)
  stays = stay types f rest inputs S st k sigs number place S' target g xs right values gf at_g shaped aims plain each few less hand w touch bare buffered vs

  was : IsBehind types f inputs bare Over Taken st (record { world = w; cells = (lent types f xs st).cells })
  was = left_behind types f rest inputs S st k sigs number place S' target g xs right values gf at_g shaped aims plain each few less hand w touch bare buffered vs

  fits : (r : Root) (a : Region) → RootStands types f (StandsAt inputs) (lent types f xs st).cells r a → IsTrue types w.content a
  fits =
      (frame_rooted types f later inputs back stands.store stands.frame
      (given_behind types f rest inputs bare Over Taken st back k.stands.store k.given was) k.ordered).fits

  module _ (n : ℕ) (named : cell (lent types f xs st) l.local ≡ Some (Named n)) (m : ℕ) (ms : List ℕ) (members : l.members ≡ m ∷ ms) where
    no_whole : l.members ≡ [] → ⊥
    no_whole none = unlike (sym members ∙ none)
      where
        unlike : m ∷ ms ≡ [] → ⊥
        unlike h = cc

    short : (located l).length ≤ 8
    short = pointer_short types f rest inputs S st k l pointer (pointer_in (words_at st.world.content n 0 (word_within types (local_type types f l.local) l.members) 5)) (member_held types f l st n (less l.local (Named n) refl named) no_whole)

    -- all others stay covered
    others : (q : Location) (u : Pointer) → is_pointer (type_in types f q) ≡ true → l ≢ q → location_cell types f q (record { world = w; cells = (lent types f xs st).cells }) ≡ Some (Points u)
        → IsCovered types w.content (RootStands types f (StandsAt inputs) (lent types f xs st).cells) (may_change types f) S' (located q) (look_in types f q) u
    others q u pointer_q ne held = pointer_covered types f rest inputs S st k sigs number place S' target g xs right values gf at_g shaped aims over back touch stays q u pointer_q before outside
      where
        before : location_cell types f q st ≡ Some (Points u)
        before = called_before types f rest inputs S st k gf xs values aims less hand w.content touch q u pointer_q held

        outside : is_in_target target (located q) ≡ false
        outside = ap (λ (t : Option Location). is_in_target t (located q)) into ∙ go (is_within (located l) (located q)) refl
          where
            go : (b : Bool) → is_within (located l) (located q) ≡ b → is_within (located l) (located q) ≡ false
            go true e = absurd (ne (pointer_itself types f rest inputs S st k l q pointer pointer_q short (pointer_short types f rest inputs S st k q pointer_q u before) e))
            go false e = e

    abbrev behind : Content
    behind = wrote n 0 (word_within types (local_type types f l.local) l.members) (pointer_words p) w.content

    written_behind : IsBehind types f inputs bare Over Taken st
        (put_content (wrote n 0 (word_within types (local_type types f l.local) l.members) (pointer_words p) w.content) back)
    written_behind = record {
      buffered = member_buffered types f rest inputs S st k bare w.content buffered was.touch (λ j. times (named_in (lent types f xs st).cells) j + later j) stands.store (lent types f xs st).cells (λ x j e. less x (Named j) refl e) (λ x j e. stands.frame.objects x j e) l pointer p n named;
      touch = member_touch types f rest inputs S st k bare w.content buffered was.touch (λ j. times (named_in (lent types f xs st).cells) j + later j) stands.store (lent types f xs st).cells (λ x j e. less x (Named j) refl e) (λ x j e. stands.frame.objects x j e) l pointer p n named;
      named = was.named;
      kept = was.kept;
      had = λ x j e unique. ⊎_elim
          (λ lost. inl lost)
          (λ same. inr (same.0, member_had types f rest inputs S st k bare w.content buffered was.touch (λ i. times (named_in (lent types f xs st).cells) i + later i) stands.store (lent types f xs st).cells (λ y i h. less y (Named i) refl h) (λ y i h. stands.frame.objects y i h) l pointer p n named x j e unique ∙ same.1))
          (was.had x j e unique);
    }

    still_loose : (j : ℕ) → Loose j
        → IsLoose types inputs (named_in (lent types f xs st).cells) (wrote n 0 (word_within types (local_type types f l.local) l.members) (pointer_words p) w.content) j
    still_loose j loose = let written = member_written types f rest inputs S st k bare w.content buffered was.touch (λ i. times (named_in (lent types f xs st).cells) i + later i) stands.store (lent types f xs st).cells (λ x i e. less x (Named i) refl e) (λ x i e. stands.frame.objects x i e) l pointer p n named in record {
      born = let b = written.births in let o = loose.0.born in omega (arith, b, o);
      unnamed = loose.1;
      spared = loose.2;
      unowned = λ i own. ⊎_elim
          (λ low. member_unowned types f rest inputs S st k bare w.content buffered was.touch (λ y. times (named_in (lent types f xs st).cells) y + later y) stands.store (lent types f xs st).cells (λ x y e. less x (Named y) refl e) (λ x y e. stands.frame.objects x y e) l pointer p n named j low)
          (λ old. loose.0.unowned i old) (written.back every i j loose.0.born own);
    }

    -- the facts cover it, as the callee promises
    covered : OnRight (pointed types f l p back) (FrameCovered types f inputs S')
    covered =
        pointed_over types k.ordered k.once f k.shaped k.short later back stands.store (λ x j e. stands.frame.objects x j e) objects inputs k.given.each (may_change types f) fits S' l pointer p
        (result_covered types f rest inputs S st k sigs number place S' target g xs right values gf at_g shaped aims over few l into [] refl l refl pointer result look back touch stays objects p promised) others (λ j none e. no_whole none)

    called : IsCalled types f inputs S' bare Over Taken Loose st (put_content (wrote n 0 (word_within types (local_type types f l.local) (m ∷ ms)) (pointer_words p) w.content) back)
    called = (
      subst (λ (ks : List ℕ). OnRight (member_pointed types f l.local ks (Some (Named n)) p back) (FrameCovered types f inputs S')) members
          (subst (λ (x : Option Cell). OnRight (member_pointed types f l.local l.members x p back) (FrameCovered types f inputs S')) named covered),
      (
        subst (λ (ks : List ℕ). IsBehind types f inputs bare Over Taken st (put_content (wrote n 0 (word_within types (local_type types f l.local) ks) (pointer_words p) w.content) back)) members written_behind,
        λ j loose. subst (λ (ks : List ℕ). IsLoose types inputs (named_in (lent types f xs st).cells) (wrote n 0 (word_within types (local_type types f l.local) ks) (pointer_words p) w.content) j) members (still_loose j loose),
      ),
    )

  -- a member is given it
  pub member_given : (m : ℕ) (ms : List ℕ) → l.members ≡ m ∷ ms → (s : Setting) → OnNext (result_given s types f l l.members (Points p) (record { world = w; cells = (lent types f xs st).cells })) (IsCalled types f inputs S' bare Over Taken Loose st)
  member_given m ms members s =
      subst (λ (ks : List ℕ). OnNext (result_given s types f l ks (Points p) back) (IsCalled types f inputs S' bare Over Taken Loose st)) (sym members)
      (subst (λ (ks : List ℕ). OnNext (member_pointed types f l.local ks (cell (lent types f xs st) l.local) p back) (IsCalled types f inputs S' bare Over Taken Loose st)) (sym members) (go (cell (lent types f xs st) l.local) refl))
    where
      go : (x : Option Cell) → cell (lent types f xs st) l.local ≡ x → OnNext (member_pointed types f l.local (m ∷ ms) x p back) (IsCalled types f inputs S' bare Over Taken Loose st)
      go (Some (Named n)) e = called n e m ms members
      go None e = tt
      go (Some Empty) e = tt
      go (Some (Number z)) e = tt
      go (Some (Points q)) e = tt
