-- A pointer is aimed into a vector or a string, named or behind a pointer, that has a buffer: at an element, at the begin or the end, or at
-- all of it. There is no fault, and the facts behind it cover all pointers of the frame.
use Rattle.std.proofs.Common.{◌≡◌, ◌≢◌, ℕ, ◌+◌, ◌≤◌, Bool, true, false, List, [], ◌∷◌, length, Option, Some, refl, sym, ap, subst, arith}
use Rattle.std.specs.Prelude.{Contains, slice_get}
use Rattle.life_types.specs.Trees.{IsOrdered}
use Rattle.life_types.specs.Types.{Types}
use Rattle.life_types.specs.declared.place.Place.{Place}
use Rattle.life_types.specs.declared.ty.TyId.{TyId}
use Rattle.life_core.specs.declared.operand.RangeEnd.{RangeEnd}
use Rattle.life_core.specs.declared.operand.Which.{Which}
use Rattle.life_core.specs.declared.operand.Which.TheVariants as which
use Rattle.life_core.specs.Function.{Function}
use Rattle.life_core.specs.Operands.{Location, Operand}
use Rattle.life_core.specs.Operands as named
use Rattle.life_core.specs.Step.{Aim, Cursor, Step}
use Rattle.life_core.specs.Step as step
use Rattle.life_pset.specs.Elements.{elements_of, locations_of}
use Rattle.life_pset.specs.Places.{owned_place}
use Rattle.life_pset.specs.declared.element.AbsPlace.{AbsPlace}
use Rattle.life_pset.specs.declared.element.Element.{Element}
use Rattle.life_pset.specs.declared.element.Element.TheVariants as element
use Rattle.life_pset.specs.declared.element.Fact.{Fact}
use Rattle.life_pset.specs.declared.element.Root.{Root}
use Rattle.life_contract.specs.Located.{is_location, located}
use Rattle.life_contract.specs.Signatures.{Signature}
use Rattle.life_rules.specs.Carrying.{from_none, is_gone, makes, named_in, reached_from, writes}
use Rattle.life_rules.specs.Matching.{fact_at, facts_at, part_of}
use Rattle.life_rules.proofs.Giving.{at_head}
use Rattle.life_store.specs.Cells.{at}
use Rattle.life_store.specs.Content.{Object}
use Rattle.life_store.specs.Doing.{does, element_at, owner_element, pointer_to, whole_of}
use Rattle.life_store.specs.Edits.{buffer_of, owned_at, size_of}
use Rattle.life_store.specs.Effects.{Effect, Setting, got_or, on_got, GotFault}
use Rattle.life_store.specs.Held.{slots_if}
use Rattle.life_store.specs.Iterators.{chosen, element_of, end_index}
use Rattle.life_store.specs.Parts.{operand_type}
use Rattle.life_store.specs.Places.{Spot, pointed}
use Rattle.life_store.specs.State.{Target, Pointer, State, To}
use Rattle.life_store.specs.declared.run.FaultKind.TheVariants as fault
use Rattle.life_forest.specs.Kinds.{kinds_of}
use Rattle.life_forest.specs.Typed.{IsStore}
use Rattle.life_cover.specs.Covers.{IsCovered, IsSeenAs, PointsTo}
use Rattle.life_cover.specs.Frames.{LocationsCovered, RootStands, look_in}
use Rattle.life_cover.specs.Kills.{Closed}
use Rattle.life_cover.specs.Regions.{Region, owned_in_type}
use Rattle.life_cover.specs.Roots.{AreRooted}
use Rattle.life_cover.proofs.Fresh.{at_position, at_range}
use Rattle.life_cover.proofs.OwnerElements.{element_pointed, whole_pointed}
use Rattle.life_cover.proofs.Pointers.{OnRight, right_then}
use Rattle.life_cover.proofs.Reaching.{IsReached, spot_is}
use Rattle.life_cover.proofs.Stepping.{HasRoom}
use Rattle.life_cover.proofs.Takes.{named_fact, reached_fact}
use Rattle.life_cover.proofs.Walks.{chosen_right, end_fits}

-- the fact that an instruction gives to a pointer which it aims into what an operand has
pub given_fact : (types : Types) (f : Function) (st : State) (Input : Root → Region → Type 0) (may_change : Root → Bool) (sigs : List Signature) (place : Place) (i : Step) (S S' : Fact → Type 0) (owned : Bool) (p : Location) (o : Operand)
    (r : IsReached types f st Input may_change S o) → Closed sigs types f place i S S' → from_none sigs types f place i ≡ facts_at (located p) (named_in owned o) → ((x : Fact) → makes sigs types f place i x ≡ reached_from p owned o x)
    → Contains (locations_of types f) (located p) → Contains (elements_of types f) (element.At (part_of owned r.place)) → S' (fact_at (located p) (element.At (part_of owned r.place)))
given_fact types f st Input may_change sigs place i S S' owned p (named.Name l) r closed none makes_of listed known =
    named_fact sigs types f place i S S' closed p (element.At (part_of owned r.place))
    (subst (λ (xs : List Fact). Contains xs (fact_at (located p) (element.At (part_of owned r.place)))) (sym none)
    (subst (λ (a : AbsPlace). Contains (fact_at (located p) (element.At (part_of owned a)) ∷ []) (fact_at (located p) (element.At (part_of owned r.place)))) r.by (at_head (fact_at (located p) (element.At (part_of owned r.place))) [])))
    listed known
given_fact types f st Input may_change sigs place i S S' owned p (named.Through q members) r closed none makes_of listed known =
    reached_fact sigs types f place i S S' closed p q owned members makes_of listed (element.At r.by.0) (element.At (part_of owned r.place)) (ap (λ (a : AbsPlace). Some (element.At (part_of owned a))) (sym r.by.2)) known r.by.1

module _ (types : Types) (ordered : IsOrdered types) (f : Function) (hand : ℕ → ℕ) (st : State) (store : IsStore types hand st.world.content) (Input : Root → Region → Type 0) (may_change owning : Root → Bool)
    (rooted : AreRooted types st.world.content (RootStands types f Input st.cells) owning) (sigs : List Signature) (place : Place) (S S' : Fact → Type 0)
    (o : Operand) (r : IsReached types f st Input may_change S o) (typed : operand_type types f o ≡ Some r.region.ty) (b : ℕ)
    (owned : owned_at st.world.content (record { object = r.region.object; index = r.index; word = r.region.word }) ≡ Some b) (s : Setting) where
  module _ (p : Location) (item : TyId) (ob : Object) (lives : at st.world.content.objects b ≡ Some ob) (type : owned_in_type types (slice_get types.types r.region.ty.0) ≡ Some item) (target : IsSeenAs types (look_in types f p).target item)
      (change : (look_in types f p).constant ≡ false → may_change r.place.root ≡ true) (room : HasRoom 1 r.place)
      (give : (i : Step) → Closed sigs types f place i S S' → ((e : Element) → is_gone types f place i e ≡ false) → ((a : AbsPlace) → writes i a ≡ is_location p a) → (u : Pointer)
      → IsCovered types st.world.content (RootStands types f Input st.cells) may_change S' (located p) (look_in types f p) u → OnRight (pointed types f p u st) (LocationsCovered types f Input may_change S')) where
    -- p is given the place of what the owner has, and nothing is killed
    pub record IsGiving (i : Step) : Type 0 where
      pub closed : Closed sigs types f place i S S'
      pub fact : S' (fact_at (located p) (element.At (owned_place r.place)))
      pub gone : (e : Element) → is_gone types f place i e ≡ false
      pub writes_p : (a : AbsPlace) → writes i a ≡ is_location p a

    given_covered : (i : Step) → IsGiving i → (t : Target) → PointsTo types st.world.content (RootStands types f Input st.cells) may_change (look_in types f p) (owned_place r.place) t
        → OnRight (pointed types f p (To t) st) (LocationsCovered types f Input may_change S')
    given_covered i giving t points = give i giving.closed giving.gone giving.writes_p (To t) (record { known = element.At (owned_place r.place); holds = giving.fact; covers = points })

    size_is : size_of st.world.content b ≡ length ob.slots
    size_is = ap (λ (z : Option Object). length (slots_if z)) lives

    position : (k : ℕ) → k ≤ length ob.slots → (look_in types f p).ranged ≡ false → PointsTo types st.world.content (RootStands types f Input st.cells) may_change (look_in types f p) (owned_place r.place) (at_position st.world.content b k 0)
    position k le is =
        element_pointed types st.world.content (RootStands types f Input st.cells) may_change r.place r.region r.index b r.holder item room r.lies type r.there owned (look_in types f p) target
        change (kinds_of types) hand store.forest ob lives is k le

    -- what is done with the buffer
    with_buffer : (go : ℕ → Effect) → OnRight (go b) (LocationsCovered types f Input may_change S') → OnRight (on_got (buffer_of st.world.content (record { object = r.region.object; index = r.index; word = r.region.word })) go) (LocationsCovered types f Input may_change S')
    with_buffer go h = subst (λ w. OnRight (on_got (got_or w (GotFault fault.Moved)) go) (LocationsCovered types f Input may_change S')) (sym owned) h

    pub begin_kind : (end : RangeEnd) → (look_in types f p).ranged ≡ false → Closed sigs types f place (Cursor p (named.Owner o) end) S S' → S' (fact_at (located p) (element.At (owned_place r.place)))
        → OnRight (does s types f (Cursor p (named.Owner o) end) st) (LocationsCovered types f Input may_change S')
    begin_kind end is closed fact =
        subst (λ e. OnRight e (LocationsCovered types f Input may_change S')) (sym (spot_is types f st Input may_change S o r go))
        (with_buffer aimed
        (given_covered (Cursor p (named.Owner o) end) (record { closed = closed; fact = fact; gone = λ e. refl; writes_p = λ a. refl })
        (at_position st.world.content b (end_index end (size_of st.world.content b)) 0)
        (position (end_index end (size_of st.world.content b)) (let fits = end_fits end (size_of st.world.content b) in let e = size_is in omega (arith, fits, e)) is)))
      where
        aimed : ℕ → Effect
        aimed m = pointed types f p (pointer_to st.world.content m (end_index end (size_of st.world.content m)) 0) st

        go : Spot → Effect
        go sp = on_got (buffer_of st.world.content sp) aimed

    pub whole_kind : (look_in types f p).ranged ≡ true → Closed sigs types f place (Aim p (named.Whole o)) S S' → S' (fact_at (located p) (element.At (owned_place r.place))) → OnRight (does s types f (Aim p (named.Whole o)) st) (LocationsCovered types f Input may_change S')
    whole_kind is closed fact =
        subst (λ e. OnRight e (LocationsCovered types f Input may_change S')) (sym (spot_is types f st Input may_change S o r go))
        (with_buffer aimed
        (given_covered (Aim p (named.Whole o)) (record { closed = closed; fact = fact; gone = λ e. refl; writes_p = λ a. refl })
        (at_range st.world.content b 0 0 (size_of st.world.content b))
        (subst (λ k. PointsTo types st.world.content (RootStands types f Input st.cells) may_change (look_in types f p) (owned_place r.place) (at_range st.world.content b 0 0 k)) (sym size_is)
        (whole_pointed types st.world.content (RootStands types f Input st.cells) may_change r.place r.region r.index b r.holder item room r.lies type r.there owned (look_in types f p) target
        change (kinds_of types) hand store.forest ob lives is))))
      where
        aimed : ℕ → Effect
        aimed m = pointed types f p (whole_of st.world.content m) st

        go : Spot → Effect
        go sp = on_got (buffer_of st.world.content sp) aimed

    pub element_kind : (w : Which) → w ≢ which.Target → (look_in types f p).ranged ≡ false → Closed sigs types f place (step.Element p (named.Owner o) w) S S' → S' (fact_at (located p) (element.At (owned_place r.place)))
        → OnRight (does s types f (step.Element p (named.Owner o) w) st) (LocationsCovered types f Input may_change S')
    element_kind w item_of is closed fact =
        subst (λ e. OnRight e (LocationsCovered types f Input may_change S')) (sym (spot_is types f st Input may_change S o r go))
        (by_which w item_of closed)
      where
        go : Spot → Effect
        go sp = owner_element types f p sp w st

        aimed : (u : Which) → Closed sigs types f place (step.Element p (named.Owner o) u) S S'
            → OnRight (on_got (buffer_of st.world.content (record { object = r.region.object; index = r.index; word = r.region.word })) (λ m. element_at types f p u (size_of st.world.content m) (pointer_to st.world.content m 0 0) st)) (LocationsCovered types f Input may_change S')
        aimed u shut =
            with_buffer (λ m. element_at types f p u (size_of st.world.content m) (pointer_to st.world.content m 0 0) st)
            (right_then (chosen st u (size_of st.world.content b)) (λ k. pointed types f p (element_of st.world.content.clock k (pointer_to st.world.content b 0 0)) st) (λ k. k ≤ size_of st.world.content b) (LocationsCovered types f Input may_change S')
            (chosen_right st u (size_of st.world.content b))
            (λ k fits. given_covered (step.Element p (named.Owner o) u) (record { closed = shut; fact = fact; gone = λ e. refl; writes_p = λ a. refl })
            (at_position st.world.content b (0 + k) 0) (position (0 + k) (let e = size_is in omega (arith, fits, e)) is)))

        by_which : (u : Which) → u ≢ which.Target → Closed sigs types f place (step.Element p (named.Owner o) u) S S'
            → OnRight (owner_element types f p (record { object = r.region.object; index = r.index; word = r.region.word }) u st) (LocationsCovered types f Input may_change S')
        by_which (which.Index r) ne shut = aimed (which.Index r) shut
        by_which which.First ne shut = aimed which.First shut
        by_which which.Last ne shut = aimed which.Last shut
        by_which which.Target ne shut = absurd (ne refl)
