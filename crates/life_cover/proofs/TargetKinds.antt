-- A pointer is aimed at what a unique_ptr has that is a local or a member of one, where the facts tell what it has: by
-- its target, where it may be neither null nor moved from, or by its get. There is no fault, and the facts behind it
-- cover all pointers of the frame.
use Rattle.std.proofs.Common.{◌≡◌, ℕ, true, false, List, [], ◌++◌, Option, Some, None, refl, sym, ap, subst, arith}
use Rattle.std.specs.Prelude.{Contains, cond, slice_get}
use Rattle.std.specs.List.{flat_map}
use Rattle.std.proofs.lemmas.List.Elements.{Contains-append_left, Contains-append_right}
use Rattle.life_types.specs.TypeTests.{is_pointer, is_unique}
use Rattle.life_types.specs.Types.{Types}
use Rattle.life_types.specs.declared.place.Place.{Place}
use Rattle.life_core.specs.declared.operand.Which.TheVariants as which
use Rattle.life_core.specs.Function.{Function}
use Rattle.life_core.specs.Operands.{Location}
use Rattle.life_core.specs.Operands as named
use Rattle.life_core.specs.Step.{Aim, Step}
use Rattle.life_core.specs.Step as step
use Rattle.life_pset.specs.Elements.{elements_of, local_place, locations_of}
use Rattle.life_pset.specs.Places.{owned_place}
use Rattle.life_pset.specs.declared.element.AbsPlace.{AbsPlace}
use Rattle.life_pset.specs.declared.element.Element.{Element}
use Rattle.life_pset.specs.declared.element.Element.TheVariants as element
use Rattle.life_pset.specs.declared.element.Fact.{Fact}
use Rattle.life_pset.proofs.Numbers.{is_of_iff, place_laws}
use Rattle.life_pset.specs.declared.element.Root.{Root}
use Rattle.life_contract.specs.Located.{is_location, located}
use Rattle.life_contract.specs.Signatures.{Signature}
use Rattle.life_proper.specs.Placed.{type_in}
use Rattle.life_rules.specs.Arguing.{argument_diags}
use Rattle.life_rules.specs.Carrying.{is_gone, writes}
use Rattle.life_rules.specs.Diagnosing.{misopened, misopened_as, misread_as, misused_as, moved_as, opens, owners, reads, use_diags, uses}
use Rattle.life_rules.specs.Keeping.{keeping_diags}
use Rattle.life_rules.specs.Matching.{fact_at, facts_at, facts_if, gotten}
use Rattle.life_rules.specs.declared.diag.Diag.{Diag}
use Rattle.life_rules.specs.declared.diag.DiagKind.TheVariants.{NullUse}
use Rattle.life_rules.specs.declared.diag.Why.{Why}
use Rattle.life_rules.specs.declared.diag.Why.TheVariants as why
use Rattle.life_rules.proofs.Giving.{at_head, flat_map_into}
use Rattle.life_store.specs.Doing.{does, owned_pointer, owner_element, pointer_to, target_at}
use Rattle.life_store.specs.Edits.{owned_at}
use Rattle.life_store.specs.Effects.{Setting, cell}
use Rattle.life_store.specs.Parts.{Unique, parts_at}
use Rattle.life_store.specs.Places.{pointed}
use Rattle.life_store.specs.State.{Named, Null, State}
use Rattle.life_forest.specs.Kinds.{kinds_of}
use Rattle.life_forest.specs.Values.{listed}
use Rattle.life_cover.specs.Covers.{CoversOwner, IsSeenAs, PointsTo}
use Rattle.life_cover.specs.Frames.{FrameCovered, RootStands, look_in}
use Rattle.life_cover.specs.Inputs.{may_change, StandsAt}
use Rattle.life_cover.specs.Regions.{Region, owned_in_type}
use Rattle.life_cover.specs.Uniques.{had_at, word_in}
use Rattle.life_cover.proofs.AimKinds.{given}
use Rattle.life_cover.proofs.Buffers.{buffer_lives}
use Rattle.life_cover.proofs.Fresh.{at_position}
use Rattle.life_cover.proofs.KnownFrames.{IsKnownFrame, IsRight, hand_of, object_named, store_of}
use Rattle.life_cover.proofs.Listing.{null_known}
use Rattle.life_cover.proofs.LocationsListed.{pointer_listed}
use Rattle.life_cover.proofs.Making.{CanOpen, can_open}
use Rattle.life_cover.proofs.OwnerElements.{element_pointed}
use Rattle.life_cover.proofs.Pointers.{OnRight}
use Rattle.life_cover.proofs.Takes.{made_of, named_fact}
use Rattle.life_cover.proofs.UniqueFacts.{has_something}
use Rattle.life_cover.proofs.Unkept.{members_root}
use Rattle.life_cover.proofs.UniqueLocations.{IsUniqueAt, on_location_at, on_spot_at, unique_at}

module _ (types : Types) (f : Function) (rest : ℕ → ℕ) (inputs : Root → Option Region) (S : Fact → Type 0) (st : State) (k : IsKnownFrame types f rest inputs S st) (sigs : List Signature) (number : ℕ) (place : Place) (S' : Fact → Type 0) (s : Setting) (p : Location) (pointer : is_pointer (type_in types f p) ≡ true)
    (single : (look_in types f p).ranged ≡ false) (q : Location) (unique : is_unique (type_in types f q) ≡ true) where
  -- p sees what the unique_ptr has
  abbrev pub Sees : Type 0
  Sees = (n : ℕ) (names : cell st q.local ≡ Some (Named n)) → IsSeenAs types (look_in types f p).target (unique_at types f rest inputs S st k q n names unique).target

  listed_p : Contains (locations_of types f) (located p)
  listed_p = pointer_listed types k.ordered k.once f k.shaped p pointer

  module _ (n : ℕ) (names : cell st q.local ≡ Some (Named n)) (seen : IsSeenAs types (look_in types f p).target (unique_at types f rest inputs S st k q n names unique).target) where
    abbrev u : IsUniqueAt types f rest inputs S st k q n
    u = unique_at types f rest inputs S st k q n names unique

    abbrev region : Region
    region = record { object = n; word = word_in types f q; ty = (unique_at types f rest inputs S st k q n names unique).number }

    owns : owned_in_type types (slice_get types.types u.number.0) ≡ Some u.target
    owns = ap (owned_in_type types) u.there

    can : CanOpen types k.ordered f k.shaped k.short st.world.content st.cells (object_named types f rest inputs S st k) inputs k.given.each (located q)
    can = can_open types k.ordered f k.shaped k.short st.world.content st.cells (object_named types f rest inputs S st k) inputs k.given.each (located q) region u.target u.path u.lies owns

    points : (b : ℕ) → had_at st.world.content n (word_in types f q) ≡ Some b → PointsTo types st.world.content (RootStands types f (StandsAt inputs) st.cells) (may_change types f) (look_in types f p) (owned_place (located q)) (at_position st.world.content b 0 0)
    points b owned =
        let l = buffer_lives types k.ordered (hand_of rest st) st.world.content (store_of types f rest inputs S st k) n 0 (word_in types f q) u.number u.variable.object u.variable.there u.within u.slot (Unique u.target (parts_at types u.target)) u.parts b (ap listed owned) in
        element_pointed types st.world.content (RootStands types f (StandsAt inputs) st.cells) (may_change types f) (located q) region 0 b u.variable.object u.target can.room u.lies owns u.variable.there owned (look_in types f p) seen (λ e. ap (may_change types f) (members_root q.members (local_place q.local))) (kinds_of types) (hand_of rest st)
        (store_of types f rest inputs S st k).forest l.0 l.1 single 0 (omega arith)

    -- a pointer to it is covered by its place
    into : (i : Step) → IsRight sigs types number f place i S S' → ((e : Element) → is_gone types f place i e ≡ false) → ((a : AbsPlace) → writes i a ≡ is_location p a) → S' (fact_at (located p) (element.At (owned_place (located q)))) → (b : ℕ) → had_at st.world.content n (word_in types f q) ≡ Some b
        → OnRight (pointed types f p (pointer_to st.world.content b 0 0) st) (FrameCovered types f inputs S')
    into i right gone others fact b owned =
        given types f rest inputs S st k sigs number place S' p pointer i right gone others (pointer_to st.world.content b 0 0) (record { known = element.At (owned_place (located q)); holds = fact; covers = points b owned })

    -- ---- its target

    module _ (right : IsRight sigs types number f place (step.Element p (named.Owner (named.Name q)) which.Target) S S') where
      abbrev i : Step
      i = step.Element p (named.Owner (named.Name q)) which.Target

      wrong : (e : Element) (d : Diag) → Contains (misopened number place (located q) e) d → S (fact_at (located q) e) → ⊥
      wrong e d misses holds =
          right.clean z holds d
          (Contains-append_left (use_diags types number f place i z) (argument_diags sigs types number place i z ++ keeping_diags sigs types number f place i z) d
          (Contains-append_right (flat_map (misused_as number place z) (uses i)) (flat_map (misread_as number place z) (reads i) ++ (flat_map (misopened_as number place z) (opens i) ++ flat_map (moved_as types number f place z) (owners i))) d
          (Contains-append_right (flat_map (misread_as number place z) (reads i)) (flat_map (misopened_as number place z) (opens i) ++ flat_map (moved_as types number f place z) (owners i)) d
          (Contains-append_left (flat_map (misopened_as number place z) (opens i)) (flat_map (moved_as types number f place z) (owners i)) d
          (flat_map_into (misopened_as number place z) (opens i) q d (at_head q [])
          (subst (λ b. Contains (cond b (misopened number place (located q) e) []) d) (sym (place_laws.refl (located q))) misses))))))
        where
          z : Fact
          z = fact_at (located q) e

      abbrev diag : Why → Diag
      diag w = record { function = number; place = place; kind = NullUse; name = located q; called = None; why = w }

      has : (b : ℕ) × (had_at st.world.content n (word_in types f q) ≡ Some b)
      has =
          has_something S (located q) (had_at st.world.content n (word_in types f q)) (k.told q n names unique) (wrong element.Null (diag why.Null) (at_head (diag why.Null) []))
          (λ cause. wrong (element.Moved cause) (diag (why.Cause cause)) (at_head (diag (why.Cause cause)) []))

      target_aimed : OnRight (target_at types f p (owned_at st.world.content (record { object = n; index = 0; word = word_in types f q })) st) (FrameCovered types f inputs S')
      target_aimed =
          subst (λ (o : Option ℕ). OnRight (target_at types f p o st) (FrameCovered types f inputs S')) (sym has.1)
          (into i right (λ e. refl) (λ a. refl)
          (named_fact sigs types f place i S S' right.closed p (element.At (owned_place (located q))) (at_head (fact_at (located p) (element.At (owned_place (located q)))) []) listed_p can.known) has.0 has.1)

    -- ---- its get

    module _ (right : IsRight sigs types number f place (Aim p (named.Get q)) S S') where
      got_fact : (e g : Element) → gotten (located q) e ≡ Some g → Contains (elements_of types f) g → S (fact_at (located q) e) → S' (fact_at (located p) g)
      got_fact e g gives known holds =
          made_of sigs types f place (Aim p (named.Get q)) S S' right.closed (fact_at (located q) e) (fact_at (located p) g) holds ((is_of_iff types f (fact_at (located p) g)).1 (listed_p, known))
          (subst (λ b. Contains (facts_if b (located p) (gotten (located q) e)) (fact_at (located p) g)) (sym (place_laws.refl (located q)))
          (subst (λ (o : Option Element). Contains (facts_at (located p) o) (fact_at (located p) g)) (sym gives) (at_head (fact_at (located p) g) [])))

      null_got : S' (fact_at (located p) element.Null) → OnRight (pointed types f p Null st) (FrameCovered types f inputs S')
      null_got fact =
          given types f rest inputs S st k sigs number place S' p pointer (Aim p (named.Get q)) right (λ e. refl) (λ a. refl) Null (record { known = element.Null; holds = fact; covers = tt })

      by_fact : (e : Element) (o : Option ℕ) → had_at st.world.content n (word_in types f q) ≡ o → S (fact_at (located q) e) → CoversOwner true e o → OnRight (pointed types f p (owned_pointer st.world.content o) st) (FrameCovered types f inputs S')
      by_fact element.Own (Some b) is holds covers = into (Aim p (named.Get q)) right (λ e. refl) (λ a. refl) (got_fact element.Own (element.At (owned_place (located q))) refl can.known holds) b is
      by_fact element.Own None is holds covers = absurd covers
      by_fact element.Null None is holds covers = null_got (got_fact element.Null element.Null refl (null_known types k.ordered f) holds)
      by_fact element.Null (Some b) is holds covers = absurd covers
      by_fact (element.Moved cause) None is holds covers = null_got (got_fact (element.Moved cause) element.Null refl (null_known types k.ordered f) holds)
      by_fact (element.Moved cause) (Some b) is holds covers = absurd covers
      by_fact (element.Invalid cause) None is holds covers = absurd covers
      by_fact (element.Invalid cause) (Some b) is holds covers = absurd covers
      by_fact element.Static None is holds covers = absurd covers
      by_fact element.Static (Some b) is holds covers = absurd covers
      by_fact (element.At a) None is holds covers = absurd covers
      by_fact (element.At a) (Some b) is holds covers = absurd covers

      got_aimed : OnRight (pointed types f p (owned_pointer st.world.content (owned_at st.world.content (record { object = n; index = 0; word = word_in types f q }))) st) (FrameCovered types f inputs S')
      got_aimed = let t = k.told q n names unique in by_fact t.known (had_at st.world.content n (word_in types f q)) refl t.holds t.covers

  -- ---- the kinds

  pub target_kind : Sees → IsRight sigs types number f place (step.Element p (named.Owner (named.Name q)) which.Target) S S' → OnRight (does s types f (step.Element p (named.Owner (named.Name q)) which.Target) st) (FrameCovered types f inputs S')
  target_kind sees right = on_spot_at types f rest inputs S st k q (λ spot. owner_element types f p spot which.Target st) (FrameCovered types f inputs S') (λ n names. target_aimed n names (sees n names) right)

  pub get_kind : Sees → IsRight sigs types number f place (Aim p (named.Get q)) S S' → OnRight (does s types f (Aim p (named.Get q)) st) (FrameCovered types f inputs S')
  get_kind sees right = on_location_at types f rest inputs S st k q (λ spot. pointed types f p (owned_pointer st.world.content (owned_at st.world.content spot)) st) (FrameCovered types f inputs S') (λ n names. got_aimed n names (sees n names) right)
