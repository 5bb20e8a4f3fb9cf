-- What may be without its buffer in a frame is neither owned nor an owner that an instruction uses at which nothing is wrong.
use Rattle.std.proofs.Common.{◌≡◌, ◌≢◌, inl, inr, ⊎_elim, ℕ, ◌<◌, Bool, true, false, List, [], ◌∷◌, ◌++◌, Option, Some, None, refl, sym, ap, subst, ◌∙◌, arith}
use Rattle.std.specs.Prelude.{Contains, cond, slice_get, ◌&&◌}
use Rattle.std.specs.List.{flat_map}
use Rattle.std.proofs.lemmas.Bool.{false≢true}
use Rattle.std.proofs.lemmas.List.Elements.{Contains-append_left, Contains-append_right}
use Rattle.life_types.specs.Pointees.{or_void}
use Rattle.life_types.specs.TypeTests.{is_void}
use Rattle.life_types.specs.Types.{Types}
use Rattle.life_types.specs.declared.place.Place.{Place}
use Rattle.life_types.specs.declared.ty.Ty.{Ty}
use Rattle.life_types.specs.declared.ty.Ty.TheVariants as ty
use Rattle.life_types.specs.declared.ty.TyId.{TyId}
use Rattle.life_core.specs.declared.program.Local.{Local}
use Rattle.life_core.specs.declared.program.LocalKind.{LocalKind}
use Rattle.life_core.specs.declared.program.LocalKind.TheVariants.{Object, Register, Range}
use Rattle.life_core.specs.Function.{Function}
use Rattle.life_core.specs.Kinds.{has_kind, is_object}
use Rattle.life_core.specs.Operands.{Location, Operand}
use Rattle.life_core.specs.Operands as named
use Rattle.life_core.specs.Step.{Step}
use Rattle.life_pset.specs.Elements.{local_place}
use Rattle.life_pset.specs.Places.{members_place, path, root_place}
use Rattle.life_pset.specs.Shapes.{has_buffer, is_variable, is_variable_of, is_variable_place, shape_of, ty_if}
use Rattle.life_pset.specs.contracts.element.AbsPlacePartialEq.TheImpl.{ghosts as compared}
use Rattle.life_pset.specs.declared.element.AbsPlace.{AbsPlace}
use Rattle.life_pset.specs.declared.element.Element.TheVariants as element
use Rattle.life_pset.specs.declared.element.Fact.{Fact}
use Rattle.life_pset.specs.declared.element.Root.{Root}
use Rattle.life_pset.specs.declared.element.Root.TheVariants as root
use Rattle.life_pset.specs.declared.element.Cause.{Cause}
use Rattle.life_pset.proofs.Numbers.{place_laws}
use Rattle.life_contract.specs.Located.{located}
use Rattle.life_contract.specs.Signatures.{Signature}
use Rattle.life_proper.specs.Placed.{type_at, type_of}
use Rattle.life_rules.specs.Arguing.{argument_diags, argument_diags_of_two}
use Rattle.life_rules.specs.Diagnosing.{misopened_as, misread_as, misused_as, moved_as, moved_target, moved_through, moved_use, opens, owners, reads, use_diags, uses}
use Rattle.life_rules.specs.Keeping.{keeping_diags}
use Rattle.life_rules.specs.Matching.{fact_at}
use Rattle.life_rules.specs.declared.diag.Diag.{Diag}
use Rattle.life_rules.specs.declared.diag.DiagKind.TheVariants.{MovedUse}
use Rattle.life_rules.specs.declared.diag.Why.TheVariants as why
use Rattle.life_rules.proofs.Giving.{at_head, flat_map_into}
use Rattle.life_store.proofs.CellLemmas.{none_some}
use Rattle.life_store.proofs.MapLemmas.{one_or_apart}
use Rattle.life_store.specs.Parts.{members_if}
use Rattle.life_store.specs.State.{Named, State}
use Rattle.life_forest.specs.Forest.{Beneath}
use Rattle.life_forest.specs.Frames.{named_in}
use Rattle.life_forest.specs.Kinds.{kinds_of}
use Rattle.life_forest.specs.Owned.{every, owns_at}
use Rattle.life_forest.proofs.Following.{in_hand}
use Rattle.life_forest.proofs.Steps.{alive_le}
use Rattle.life_cover.specs.Frames.{RootStands}
use Rattle.life_cover.specs.Inputs.{StandsAt, may_change}
use Rattle.life_cover.specs.Lacking.{IsLoose, IsMovedFrom, IsUnmoved, MayLack}
use Rattle.life_cover.specs.Regions.{Goes, IsAt, IsTrue, Lies, Region, ToMember, foot_of}
use Rattle.life_cover.proofs.Inputs as known
use Rattle.life_cover.proofs.Inside.{goes_true, lies_inside, owned_counted}
use Rattle.life_cover.proofs.KnownFrames.{IsKnownFrame, IsRight, hand_of, object_named, rooted_of, store_of}
use Rattle.life_cover.proofs.Listing.{steps_from}
use Rattle.life_cover.proofs.Locals.{two_named, beneath_owned, named_unowned}
use Rattle.life_cover.proofs.Making.{IsItsPath}
use Rattle.life_cover.proofs.Reaching.{IsReached}

-- a local that is a vector or a string
variable_of : (types : Types) (n y : ℕ) (o : Option Local) → has_kind is_object o ≡ true → has_buffer (ty_if types (shape_of types n y o)) ≡ true → is_variable_of types n y o ≡ true
variable_of types n y None object buffer = absurd (false≢true object)
variable_of types n y (Some l) object buffer = by_kind l.kind object
  where
    by_kind : (kind : LocalKind) → is_object kind ≡ true → is_variable kind (ty_if types (shape_of types n y (Some l))) ≡ true
    by_kind Object e = buffer
    by_kind Register e = absurd (false≢true e)
    by_kind Range e = absurd (false≢true e)

module _ (types : Types) (f : Function) (rest : ℕ → ℕ) (inputs : Root → Option Region) (S : Fact → Type 0) (st : State) (k : IsKnownFrame types f rest inputs S st) where
  -- it isn't owned
  unowned : (n m : ℕ) → 0 < owns_at (kinds_of types) st.world.content every m n → MayLack types f inputs S st n → ⊥
  unowned n m own (inl moved) = named_unowned types f rest st k.stands.store k.stands.frame moved.local n m moved.names own
  unowned n m own (inr loose) = loose.unowned m own

  -- so it is beneath nothing
  pub low_whole : (a : Region) (n : ℕ) → Beneath (kinds_of types) st.world.content (foot_of types a) n → MayLack types f inputs S st n → ⊥
  low_whole a n low lacks = let own = beneath_owned types st.world.content a n low in unowned n own.0 own.1 lacks

  -- nor is a local of which no fact says so
  pub local_whole : (x n : ℕ) → slice_get st.cells x ≡ Some (Named n) → (has_buffer (type_at types f x) ≡ true → IsUnmoved S x) → MayLack types f inputs S st n → ⊥
  local_whole x n named fresh (inl m) = one_or_apart m.local x
      (λ same. fresh (subst (λ y. has_buffer (type_at types f y) ≡ true) same m.owner) m.cause (subst (λ y. S (fact_at (local_place y) (element.Moved m.cause))) same m.holds))
      (λ ne.
      let two = two_named st.cells m.local x n ne m.names named in
      let held = (store_of types f rest inputs S st k).forest.held n in
      let alive = alive_le (kinds_of types) st.world.content n in
      omega (arith, two, held, alive))
  local_whole x n named fresh (inr loose) =
      let hand = in_hand st.cells x n named in
      let none = loose.unnamed in
      omega (arith, hand, none)

  -- nor what an input stands for
  pub input_whole : (ro : Root) (a : Region) → StandsAt inputs ro a → MayLack types f inputs S st a.object → ⊥
  input_whole ro a stands (inl m) = k.given.free ro a stands (known.local_low types f rest inputs st k.stands.store k.stands.frame m.local a.object m.names)
  input_whole ro a stands (inr loose) = loose.spared ro a stands refl

  pub variable_here : (y n : ℕ) → slice_get st.cells y ≡ Some (Named n) → has_buffer (type_at types f y) ≡ true → is_variable_place types f (local_place y) ≡ true
  variable_here y n names owner = variable_of types f.parameters y (slice_get f.locals y) (object_named types f rest inputs S st k y n names) owner

  -- no fact says that an owner was moved from which an instruction uses by its name
  module _ (sigs : List Signature) (number : ℕ) (place : Place) (i : Step) (S' : Fact → Type 0) (right : IsRight sigs types number f place i S S') where
    pub named_wrong : (y n : ℕ) → slice_get st.cells y ≡ Some (Named n) → has_buffer (type_at types f y) ≡ true → (cause : Cause) → S (fact_at (local_place y) (element.Moved cause)) → (l : Location) → located l ≡ local_place y → Contains (owners i) (named.Name l) → ⊥
    named_wrong y n names owner cause holds l is among =
        right.clean moved holds diag
        (Contains-append_left (use_diags types number f place i moved) (argument_diags sigs types number place i moved ++ keeping_diags sigs types number f place i moved) diag
        (Contains-append_right (flat_map (misused_as number place moved) (uses i)) (flat_map (misread_as number place moved) (reads i) ++ (flat_map (misopened_as number place moved) (opens i) ++ flat_map (moved_as types number f place moved) (owners i))) diag
        (Contains-append_right (flat_map (misread_as number place moved) (reads i)) (flat_map (misopened_as number place moved) (opens i) ++ flat_map (moved_as types number f place moved) (owners i)) diag
        (Contains-append_right (flat_map (misopened_as number place moved) (opens i)) (flat_map (moved_as types number f place moved) (owners i)) diag
        (flat_map_into (moved_as types number f place moved) (owners i) (named.Name l) diag among
        (subst (λ b. Contains (cond b (moved_use number place (local_place y) (element.Moved cause)) []) diag)
        (sym (both_true (compared.eq (local_place y) (located l)) (is_variable_place types f (local_place y)) (subst (λ (a : AbsPlace). compared.eq (local_place y) a ≡ true) (sym is) (place_laws.refl (local_place y))) (variable_here y n names owner)))
        (at_head diag [])))))))
      where
        moved : Fact
        moved = fact_at (local_place y) (element.Moved cause)

        diag : Diag
        diag = record { function = number; place = place; kind = MovedUse; name = local_place y; called = None; why = why.Cause cause }

        both_true : (a b : Bool) → a ≡ true → b ≡ true → (a && b) ≡ true
        both_true true b e h = h
        both_true false b e h = e

  -- ---- what lies at a place

  module _ (p : AbsPlace) (a : Region) (at_p : IsAt types st.world.content (RootStands types f (StandsAt inputs) st.cells) p a) where
    -- what lies behind an owner is owned, so it lies in the object of its root
    one_object : MayLack types f inputs S st a.object → at_p.start.object ≡ a.object
    one_object lacks = go (path p) at_p.start ((rooted_of types f rest inputs S st k).fits p.root at_p.start at_p.stands) at_p.lies
      where
        go : (ss : List ℕ) (b : Region) → IsTrue types st.world.content b → Lies types st.world.content ss b a → b.object ≡ a.object
        go [] b is lies = ap (λ (r : Region). r.object) lies
        go (s ∷ ss) b is lies = by_step lies.1 (go ss lies.0 next lies.2)
          where
            next : IsTrue types st.world.content lies.0
            next = goes_true types k.ordered (hand_of rest st) st.world.content (store_of types f rest inputs S st k) s b lies.0 is lies.1

            by_step : Goes types st.world.content s b lies.0 → lies.0.object ≡ a.object → b.object ≡ a.object
            by_step (inl member) inner = sym member.object ∙ inner
            by_step (inr owned) inner =
                let own = owned_counted types k.ordered (hand_of rest st) st.world.content (store_of types f rest inputs S st k) s b lies.0 is owned every refl in
                absurd (⊎_elim
                (λ among. unowned a.object b.object (subst (λ n. 0 < owns_at (kinds_of types) st.world.content every b.object n) (sym among.object) own) lacks)
                (λ low. low_whole lies.0 a.object low lacks)
                (lies_inside types k.ordered (hand_of rest st) st.world.content (store_of types f rest inputs S st k) ss lies.0 a next lies.2))

    -- it is a local
    root_named : (ro : Root) → RootStands types f (StandsAt inputs) st.cells ro at_p.start → MayLack types f inputs S st at_p.start.object → (x : ℕ) × (ro ≡ root.Local x) × (slice_get st.cells x ≡ Some (Named at_p.start.object))
    root_named (root.Local x) stands lacks = (x, refl, stands.0)
    root_named (root.Input q member) stands lacks = absurd (input_whole (root.Input q member) at_p.start stands lacks)

    named_there : MayLack types f inputs S st a.object → (x : ℕ) × (p.root ≡ root.Local x) × (slice_get st.cells x ≡ Some (Named a.object))
    named_there lacks =
        let same = one_object lacks in
        let x = root_named p.root at_p.stands (subst (MayLack types f inputs S st) (sym same) lacks) in
        (x.0, x.1, x.2 ∙ ap (λ n. Some (Named n)) same)

    -- which names what is loose nowhere
    pub place_held : IsLoose types inputs (named_in st.cells) st.world.content a.object → ⊥
    place_held loose =
        let x = named_there (inr loose) in
        let hand = in_hand st.cells x.0 a.object x.2 in
        let none = loose.unnamed in
        omega (arith, hand, none)

    -- so the place is that of the local that was moved from
    pub place_moved : IsItsPath p → (m : IsMovedFrom types f S st.cells a.object) → p ≡ local_place m.local
    place_moved its m =
        let x = named_there (inl m) in
        let here : x.0 ≡ m.local = one_or_apart x.0 m.local (λ same. same) (λ ne. absurd (twice x.0 ne x.2)) in
        its.made
        ∙ ap (λ (ss : List ℕ). steps_from (root_place p.root) ss) (path_none (x.1 ∙ ap root.Local here) (path p) at_p.lies)
        ∙ ap root_place x.1
        ∙ ap local_place here
      where
        twice : (x : ℕ) → x ≢ m.local → slice_get st.cells x ≡ Some (Named a.object) → ⊥
        twice x ne named =
            let two = two_named st.cells x m.local a.object ne named m.names in
            let held = (store_of types f rest inputs S st k).forest.held a.object in
            let alive = alive_le (kinds_of types) st.world.content a.object in
            omega (arith, two, held, alive)

        -- a vector or a string has no members
        no_step : p.root ≡ root.Local m.local → (s : ℕ) (b : Region) → ToMember types s at_p.start b → ⊥
        no_step at_root s b member = memberless_owner (slice_get types.types at_p.start.ty.0) buffer member.type
          where
            stands : RootStands types f (StandsAt inputs) st.cells (root.Local m.local) at_p.start
            stands = subst (λ (ro : Root). RootStands types f (StandsAt inputs) st.cells ro at_p.start) at_root at_p.stands

            buffer : has_buffer (or_void (slice_get types.types at_p.start.ty.0)) ≡ true
            buffer = sym (ap (λ (id : Option TyId). has_buffer (ty_if types id)) (k.shaped m.local ∙ stands.2)) ∙ m.owner

            memberless_owner : (o : Option Ty) → has_buffer (or_void o) ≡ true → slice_get (members_if types o) s ≡ Some b.ty → ⊥
            memberless_owner (Some ty.Text) e h = none_some h
            memberless_owner (Some (ty.Vector element)) e h = none_some h
            memberless_owner None e h = false≢true e
            memberless_owner (Some _) e h = false≢true e

        path_none : p.root ≡ root.Local m.local → (ss : List ℕ) → Lies types st.world.content ss at_p.start a → ss ≡ []
        path_none at_root [] lies = refl
        path_none at_root (s ∷ ss) lies = absurd (by_step lies.1)
          where
            by_step : Goes types st.world.content s at_p.start lies.0 → ⊥
            by_step (inl member) = no_step at_root s lies.0 member
            by_step (inr owned) =
                let is = (rooted_of types f rest inputs S st k).fits p.root at_p.start at_p.stands in
                let own = owned_counted types k.ordered (hand_of rest st) st.world.content (store_of types f rest inputs S st k) s at_p.start lies.0 is owned every refl in
                ⊎_elim
                (λ among. unowned a.object at_p.start.object (subst (λ n. 0 < owns_at (kinds_of types) st.world.content every at_p.start.object n) (sym among.object) own) (inl m))
                (λ low. low_whole lies.0 a.object low (inl m))
                (lies_inside types k.ordered (hand_of rest st) st.world.content (store_of types f rest inputs S st k) ss lies.0 a
                (goes_true types k.ordered (hand_of rest st) st.world.content (store_of types f rest inputs S st k) s at_p.start lies.0 is lies.1) lies.2)

  -- ---- an operand that is reached

  module _ (o : Operand) (r : IsReached types f st (StandsAt inputs) (may_change types f) S o) (solid : is_void (type_of types f o) ≡ false) (sigs : List Signature) (number : ℕ) (place : Place) (i : Step) (S' : Fact → Type 0) (right : IsRight sigs types number f place i S S') (uses_it : Contains (owners i) o) where
    module _ (m : IsMovedFrom types f S st.cells r.region.object) where
      -- the place of the local
      placed : r.place ≡ local_place m.local
      placed = place_moved r.place r.region r.lies r.path m

      variable : is_variable_place types f (local_place m.local) ≡ true
      variable = variable_here m.local r.region.object m.names m.owner

      abbrev moved : Fact
      moved = fact_at (local_place m.local) (element.Moved m.cause)

      both : (a b : Bool) → a ≡ true → b ≡ true → (a && b) ≡ true
      both true b e h = h
      both false b e h = e

      -- .. or behind a pointer
      through_wrong : (p : Location) (members : List ℕ) (a : AbsPlace) → S (fact_at (located p) (element.At a)) → members_place a members ≡ local_place m.local → Contains (owners i) (named.Through p members) → ⊥
      through_wrong p members a points is among =
          right.clean_of_two (fact_at (located p) (element.At a)) moved points m.holds diag
          (Contains-append_left (flat_map (moved_through types number f place (fact_at (located p) (element.At a)) moved) (owners i)) (argument_diags_of_two sigs types number f place i (fact_at (located p) (element.At a)) moved) diag
          (flat_map_into (moved_through types number f place (fact_at (located p) (element.At a)) moved) (owners i) (named.Through p members) diag among
          (subst (λ b. Contains (cond b (moved_target types number f place p members (element.At a) moved) []) diag) (sym (place_laws.refl (located p)))
          (subst (λ b. Contains (cond b (moved_use number place (located p) (element.Moved m.cause)) []) diag)
          (sym (both (compared.eq (local_place m.local) (members_place a members)) (is_variable_place types f (local_place m.local)) (subst (λ (b : AbsPlace). compared.eq (local_place m.local) b ≡ true) (sym is) (place_laws.refl (local_place m.local))) variable))
          (at_head diag [])))))
        where
          diag : Diag
          diag = record { function = number; place = place; kind = MovedUse; name = located p; called = None; why = why.Cause m.cause }

    pub owner_whole : MayLack types f inputs S st r.region.object → ⊥
    owner_whole (inl m) = go o r refl (placed m) uses_it
      where
        go : (p : Operand) (h : IsReached types f st (StandsAt inputs) (may_change types f) S p) → r.place ≡ h.place → r.place ≡ local_place m.local → Contains (owners i) p → ⊥
        go (named.Name l) h same is among = named_wrong sigs number place i S' right m.local r.region.object m.names m.owner m.cause m.holds l (sym (same ∙ h.by) ∙ is) among
        go (named.Through p members) h same is among = through_wrong m p members h.by.0 h.by.1 (sym (same ∙ h.by.2) ∙ is) among
    owner_whole (inr loose) = place_held r.place r.region r.lies loose
