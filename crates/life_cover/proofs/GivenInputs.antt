-- The inputs of a callee stand apart where nothing is diagnosed at the call: from what is given over, and from each other, if one of them is mutating.
use Rattle.std.proofs.Common.{◌≡◌, ◌≢◌, ◌⊎◌, ⊎_elim, inl, inr, ℕ, ◌<◌, Bool, true, false, ◌||◌, List, [], ◌∷◌, Option, Some, None, refl, sym, ap, subst, ◌∙◌}
use Rattle.std.specs.Prelude.{Contains, cond, not, option_map, slice_get, ◌&&◌}
use Rattle.std.proofs.lemmas.Bool.{and_parts, false≢true}
use Rattle.life_types.specs.Pointees.{or_void}
use Rattle.life_types.specs.Trees.{IsOrdered, holds_owner, tree_at}
use Rattle.life_types.specs.TypeTests.{is_constant}
use Rattle.life_types.specs.Types.{Types}
use Rattle.life_types.specs.declared.place.Place.{Place}
use Rattle.life_types.specs.declared.ty.Ty.{Ty}
use Rattle.life_types.specs.declared.ty.Ty.TheVariants as ty
use Rattle.life_types.specs.declared.ty.TyId.{TyId}
use Rattle.life_core.specs.declared.program.FnId.{FnId}
use Rattle.life_core.specs.Function.{Function}
use Rattle.life_core.specs.Operands.{Argument, Location}
use Rattle.life_core.specs.Step.{Call}
use Rattle.life_pset.specs.Elements.{Input, inputs_of}
use Rattle.life_pset.specs.Places.{begins, overlap, path}
use Rattle.life_pset.specs.Shapes.{target_of, target_type, tree_if, ty_if}
use Rattle.life_pset.specs.contracts.element.RootPartialEq.TheImpl.{ghosts as compared}
use Rattle.life_pset.specs.declared.element.AbsPlace.{AbsPlace}
use Rattle.life_pset.specs.declared.element.Fact.{Fact}
use Rattle.life_pset.specs.declared.element.Root.{Root}
use Rattle.life_pset.specs.declared.element.Root.TheVariants as root
use Rattle.life_contract.specs.Inputs.{inputs_of_signature, is_mutating}
use Rattle.life_contract.specs.Signatures.{Signature, signature_of}
use Rattle.life_rules.specs.declared.diag.Diag.{Diag}
use Rattle.life_store.specs.Cells.{at}
use Rattle.life_store.specs.Content.{Content, Object}
use Rattle.life_store.specs.Effects.{cell}
use Rattle.life_store.specs.Parts.{characters_type}
use Rattle.life_store.specs.State.{Cell, Empty, Named, Null, Number, Points, State, Static, Target, To, Wild}
use Rattle.life_store.proofs.CellLemmas.{none_some, some_same}
use Rattle.life_forest.specs.Forest.{Beneath, all_of}
use Rattle.life_forest.specs.FrameTypes.{seen_in, seen_type}
use Rattle.life_forest.specs.Frames.{named_in}
use Rattle.life_forest.specs.Kinds.{kinds_of}
use Rattle.life_forest.specs.Owned.{times}
use Rattle.life_forest.proofs.Shaped.{IsShaped}
use Rattle.life_cover.specs.Covers.{IsSeenAs}
use Rattle.life_cover.specs.Frames.{RootStands, look_in}
use Rattle.life_cover.specs.Inputs.{AreGiven, IsInput, StandsAt, entered_at, entry_inputs, foot_with, input_at, input_cell, may_change, mutated, owning, pointed, type_seen}
use Rattle.life_cover.specs.Kills.{IsUnnamed, Names}
use Rattle.life_cover.specs.Regions.{IsAt, Region, foot_of, HasPart, IsPart}
use Rattle.life_cover.specs.Roots.{IsApart}
use Rattle.life_cover.proofs.ApartPlaces.{places_apart}
use Rattle.life_cover.proofs.Arguments.{AreAimedBy, IsAimedBy}
use Rattle.life_cover.proofs.CalledRight.{argument_unkept, not_overlapping}
use Rattle.life_cover.proofs.CopyKinds.{seen_holds}
use Rattle.life_cover.proofs.FootParts.{IsBelow, below_region, below_whole, is_below}
use Rattle.life_cover.proofs.UniquesStay.{not_true}
use Rattle.life_cover.proofs.Guarding.{exact_root, root_laws}
use Rattle.life_cover.proofs.InputPlaces.{holds_up, mutating_input}
use Rattle.life_cover.proofs.Inside.{not_itself}
use Rattle.life_cover.proofs.KnownFrames.{IsKnownFrame, IsRight, hand_of, store_of}
use Rattle.life_cover.proofs.Mutated.{mutated_from}
use Rattle.life_cover.proofs.InputRoots.{found_among}
use Rattle.life_cover.proofs.PointerInputs.{in_order, in_signature, root_owning}
use Rattle.life_cover.proofs.PushKinds.{elsewhere}
use Rattle.life_contract.specs.Located.{located}

-- ---- what stands at the entry

-- a pointer that was handed over for an input
pub record IsEntered (types : Types) (g : Function) (c : Content) (vs : List Cell) (r : Root) (a : Region) : Type 0 where
  pub input : Input
  pub found : input_at types g r ≡ Some input
  pub among : Contains (inputs_of types g) input
  pub named : input.root ≡ r
  pub target : Target
  pub object : Object
  pub handed : input_cell types g c vs input ≡ Some (Points (To target))
  pub there : at c.objects target.object ≡ Some object
  pub is : record { object = target.object; word = target.word; ty = type_seen types (seen_type types input.ty) object.ty } ≡ a

pub is_entered : (types : Types) (g : Function) (c : Content) (vs : List Cell) (r : Root) (a : Region) → StandsAt (entry_inputs types g c vs) r a → IsEntered types g c vs r a
is_entered types g c vs r a e = by_input (input_at types g r) refl e
  where
    by_object : (i : Input) → input_at types g r ≡ Some i → i.root ≡ r → (t : Target) → input_cell types g c vs i ≡ Some (Points (To t)) → (o : Option Object) → at c.objects t.object ≡ o
        → option_map (λ (u : Object). record { object = t.object; word = t.word; ty = type_seen types (seen_type types i.ty) u.ty }) o ≡ Some a → IsEntered types g c vs r a
    by_object i found named t here None is h = absurd (none_some h)
    by_object i found named t here (Some o) is h = record { input = i; found = found; among = found_among types g r i found; named = named; target = t; object = o; handed = here; there = is; is = some_same h }

    by_cell : (i : Input) → input_at types g r ≡ Some i → i.root ≡ r → (v : Option Cell) → input_cell types g c vs i ≡ v → pointed types (seen_type types i.ty) c v ≡ Some a → IsEntered types g c vs r a
    by_cell i found named (Some (Points (To t))) here h = by_object i found named t here (at c.objects t.object) refl h
    by_cell i found named (Some (Points Null)) here h = absurd (none_some h)
    by_cell i found named (Some (Points Wild)) here h = absurd (none_some h)
    by_cell i found named (Some (Points (Static s))) here h = absurd (none_some h)
    by_cell i found named (Some Empty) here h = absurd (none_some h)
    by_cell i found named (Some (Named n)) here h = absurd (none_some h)
    by_cell i found named (Some (Number z)) here h = absurd (none_some h)
    by_cell i found named None here h = absurd (none_some h)

    by_root : (i : Input) → input_at types g r ≡ Some i → (b : Bool) → compared.eq i.root r ≡ b → cond b (pointed types (seen_type types i.ty) c (input_cell types g c vs i)) None ≡ Some a → IsEntered types g c vs r a
    by_root i found true same h = by_cell i found (exact_root i.root r same) (input_cell types g c vs i) refl h
    by_root i found false same h = absurd (none_some h)

    by_input : (o : Option Input) → input_at types g r ≡ o → entered_at types g c vs r o ≡ Some a → IsEntered types g c vs r a
    by_input None found h = absurd (none_some h)
    by_input (Some i) found h = by_root i found (compared.eq i.root r) refl h

or_right : (a b : Bool) → b ≡ true → (a || b) ≡ true
or_right true b e = refl
or_right false b e = e

or_turned : (a b : Bool) → (a || b) ≡ (b || a)
or_turned true true = refl
or_turned true false = refl
or_turned false true = refl
or_turned false false = refl

overlap_turned : (a b : AbsPlace) → overlap a b ≡ true → overlap b a ≡ true
overlap_turned a b e =
    let h = and_parts (compared.eq a.root b.root) (begins (path a) (path b) || begins (path b) (path a)) e in
    ap (λ t. t && (begins (path b) (path a) || begins (path a) (path b))) (subst (λ (q : Root). compared.eq b.root q ≡ true) (sym (exact_root a.root b.root h.0)) (root_laws.refl b.root))
    ∙ or_turned (begins (path b) (path a)) (begins (path a) (path b)) ∙ h.1

one_or_other : (r s : Root) → (r ≡ s) ⊎ (r ≢ s)
one_or_other r s = go (compared.eq r s) refl
  where
    go : (b : Bool) → compared.eq r s ≡ b → (r ≡ s) ⊎ (r ≢ s)
    go true e = inl (exact_root r s e)
    go false e = inr (λ same. false≢true (sym e ∙ subst (λ (z : Root). compared.eq r z ≡ true) same (root_laws.refl r)))

-- ---- what is seen through an input

seen_input : (types : Types) (o : Option Ty) (id : TyId) → IsSeenAs types (seen_in types o) id → (target_of (or_void o) ≡ Some id) ⊎ (id ≡ characters_type types)
seen_input types (Some ty.View) id (inl e) = inr (sym e)
seen_input types (Some ty.View) id (inr e) = inr e.1
seen_input types (Some (ty.Raw target constant)) id (inl e) = inl (ap Some e)
seen_input types (Some (ty.Raw target constant)) id (inr e) = inr e.1
seen_input types (Some (ty.Reference target constant)) id (inl e) = inl (ap Some e)
seen_input types (Some (ty.Reference target constant)) id (inr e) = inr e.1
seen_input types (Some (ty.Iterator target constant)) id (inl e) = inl (ap Some e)
seen_input types (Some (ty.Iterator target constant)) id (inr e) = inr e.1
seen_input types (Some (ty.Span target constant)) id (inl e) = inl (ap Some e)
seen_input types (Some (ty.Span target constant)) id (inr e) = inr e.1
seen_input types _ id e = absurd e

seen_through : (types : Types) (id : Option TyId) (a : TyId) → IsSeenAs types (seen_type types id) a → (target_type types id ≡ Some a) ⊎ (a ≡ characters_type types)
seen_through types None a seen = absurd seen
seen_through types (Some id) a seen = seen_input types (slice_get types.types id.0) a seen

-- what is seen through one behind which there is an owner holds it
seen_owner : (types : Types) (ordered : IsOrdered types) (o : Option Ty) (id : TyId) → IsSeenAs types (seen_in types o) id → holds_owner (tree_if types (target_of (or_void o))) ≡ true → holds_owner (tree_at types id) ≡ true
seen_owner types ordered (Some ty.View) id seen h = absurd (false≢true h)
seen_owner types ordered (Some (ty.Raw target constant)) id seen h = seen_holds types ordered (Some target) id seen h
seen_owner types ordered (Some (ty.Reference target constant)) id seen h = seen_holds types ordered (Some target) id seen h
seen_owner types ordered (Some (ty.Iterator target constant)) id seen h = seen_holds types ordered (Some target) id seen h
seen_owner types ordered (Some (ty.Span target constant)) id seen h = seen_holds types ordered (Some target) id seen h
seen_owner types ordered _ id seen h = absurd seen

owner_through : (types : Types) (ordered : IsOrdered types) (id : Option TyId) (a : TyId) → IsSeenAs types (seen_type types id) a → holds_owner (tree_if types (target_type types id)) ≡ true → holds_owner (tree_at types a) ≡ true
owner_through types ordered None a seen h = absurd seen
owner_through types ordered (Some id) a seen h = seen_owner types ordered (slice_get types.types id.0) a seen h

-- ---- of a frame of which all is known

module _ (types : Types) (f : Function) (rest : ℕ → ℕ) (inputs : Root → Option Region) (S : Fact → Type 0) (st : State) (k : IsKnownFrame types f rest inputs S st) (sigs : List Signature) (number : ℕ) (place : Place) (S' : Fact → Type 0) (target : Option Location) (g : FnId) (xs : List Argument)
    (right : IsRight sigs types number f place (Call target g xs) S S') (values : List Cell) (gf : Function) (at_g : slice_get sigs g.0 ≡ Some (signature_of gf)) (shaped : IsShaped types gf) (aims : AreAimedBy types f inputs S st xs gf values)
    (over : (n : ℕ) → 0 < times (named_in values) n → (x : ℕ) × (cell st x ≡ Some (Named n)) × IsUnnamed S x) where
  abbrev pub Stood : AbsPlace → Region → Type 0
  Stood a r = IsAt types st.world.content (RootStands types f (StandsAt inputs) st.cells) a r

  module _ (r : Root) (a : Region) (stands : StandsAt (entry_inputs types gf st.world.content values) r a) where
    abbrev e : IsEntered types gf st.world.content values r a
    e = is_entered types gf st.world.content values r a stands

    abbrev aim : IsAimedBy types f inputs S st xs gf (is_entered types gf st.world.content values r a stands).input (is_entered types gf st.world.content values r a stands).target
    aim = aims (is_entered types gf st.world.content values r a stands).input (is_entered types gf st.world.content values r a stands).target (is_entered types gf st.world.content values r a stands).among (is_entered types gf st.world.content values r a stands).handed

    abbrev pub input : Input
    input = (is_entered types gf st.world.content values r a stands).input

    input_in : Contains (inputs_of_signature types (signature_of gf)) (is_entered types gf st.world.content values r a stands).input
    input_in = in_signature types k.ordered gf e.input e.among

    -- it is where the argument points
    region_is : aim.points.region ≡ a
    region_is = sym (aim.object e.object e.there) ∙ e.is

    pub stood : Stood (aims (is_entered types gf st.world.content values r a stands).input (is_entered types gf st.world.content values r a stands).target (is_entered types gf st.world.content values r a stands).among (is_entered types gf st.world.content values r a stands).handed).place a
    stood = subst (Stood aim.place) region_is aim.points.lies

    pub object_lives : at st.world.content.objects a.object ≡ Some (is_entered types gf st.world.content values r a stands).object
    object_lives = ap (λ (b : Region). at st.world.content.objects b.object) (sym e.is) ∙ e.there

    object_type : type_seen types (seen_type types e.input.ty) e.object.ty ≡ a.ty
    object_type = ap (λ (b : Region). b.ty) e.is

    passed_object : aim.passed.object ≡ e.object
    passed_object = some_same (sym aim.passed.there ∙ e.there)

    seen_as : IsSeenAs types (seen_type types e.input.ty) a.ty
    seen_as = subst (IsSeenAs types (seen_type types e.input.ty)) (ap (λ (o : Object). type_seen types (seen_type types e.input.ty) o.ty) passed_object ∙ object_type) aim.passed.type

    -- a part of that object
    pub entered_part : IsPart types st.world.content a
    entered_part q there =
        subst (HasPart types q.ty a.word) object_type
        (subst (λ w. HasPart types q.ty w (type_seen types (seen_type types e.input.ty) e.object.ty)) (ap (λ (z : Region). z.word) e.is)
        (subst (λ (o : Object). HasPart types q.ty e.target.word (type_seen types (seen_type types e.input.ty) o.ty)) passed_object
        (subst (λ (o : Object). HasPart types o.ty e.target.word (type_seen types (seen_type types e.input.ty) aim.passed.object.ty)) (passed_object ∙ some_same (sym object_lives ∙ there)) aim.passed.part)))

    -- an input of the callee
    pub entered_input : IsInput types gf r a
    entered_input = record {
      input = e.input;
      is = e.found;
      among = e.among;
      named = e.named;
      type = seen_through types e.input.ty a.ty seen_as;
    }

    -- a mutating one
    module _ (own : owning types gf r ≡ true) where
      pub mutating : is_mutating types (signature_of gf) (is_entered types gf st.world.content values r a stands).input ≡ true
      mutating = root_owning types gf e.input r e.found own

      writable : (look_in types f aim.from).constant ≡ false
      writable = aim.look.constant (first (is_constant (ty_if types e.input.ty)) (and_parts (not (is_constant (ty_if types e.input.ty))) _ mutating).0)
        where
          first : (constant : Bool) → not constant ≡ true → constant ≡ false
          first true h = absurd (false≢true h)
          first false h = refl

      holds : holds_owner (tree_at types a.ty) ≡ true
      holds =
          owner_through types k.ordered e.input.ty a.ty seen_as
          (and_parts (holds_owner (tree_if types (target_type types e.input.ty))) _ (and_parts (not (is_constant (ty_if types e.input.ty))) _ mutating).1).0

      pub caller_owns : owning types f aim.place.root ≡ true
      caller_owns = go aim.place.root refl stood.stands
        where
          go : (ro : Root) → aim.place.root ≡ ro → RootStands types f (StandsAt inputs) st.cells ro stood.start → owning types f aim.place.root ≡ true
          go (root.Local x) is stands = ap (owning types f) is
          go (root.Input q member) is at_input =
              let i = k.given.each (root.Input q member) stood.start at_input in
              ap (owning types f) is
              ∙ mutating_input types k.ordered f q member stood.start i (sym (ap (may_change types f) is) ∙ aim.points.change writable) (holds_up types k.ordered st.world.content (path aim.place) stood.start a stood.lies holds)
              (argument_unkept sigs types number f place S target g xs (signature_of gf) at_g right.clean e.input input_in (located aim.from) aim.argument mutating aim.place aim.fact q member i.input is i.is)

  -- ---- two of them

  module _ (r s : Root) (a b : Region) (own : owning types gf r ≡ true) (ne : r ≢ s) (at_r : StandsAt (entry_inputs types gf st.world.content values) r a) (at_s : StandsAt (entry_inputs types gf st.world.content values) s b) where
    abbrev e1 : IsEntered types gf st.world.content values r a
    e1 = is_entered types gf st.world.content values r a at_r

    abbrev e2 : IsEntered types gf st.world.content values s b
    e2 = is_entered types gf st.world.content values s b at_s

    abbrev one : IsAimedBy types f inputs S st xs gf (is_entered types gf st.world.content values r a at_r).input (is_entered types gf st.world.content values r a at_r).target
    one = aims (is_entered types gf st.world.content values r a at_r).input (is_entered types gf st.world.content values r a at_r).target (is_entered types gf st.world.content values r a at_r).among (is_entered types gf st.world.content values r a at_r).handed

    abbrev two : IsAimedBy types f inputs S st xs gf (is_entered types gf st.world.content values s b at_s).input (is_entered types gf st.world.content values s b at_s).target
    two = aims (is_entered types gf st.world.content values s b at_s).input (is_entered types gf st.world.content values s b at_s).target (is_entered types gf st.world.content values s b at_s).among (is_entered types gf st.world.content values s b at_s).handed

    apart : e1.input ≢ e2.input
    apart same = ne (sym e1.named ∙ ap (λ (i : Input). i.root) same ∙ e2.named)

    -- neither of their arguments' places is a part of the other
    parts : overlap one.place two.place ≡ false
    parts = not_true (overlap one.place two.place) (λ overlaps. ⊎_elim
        (λ first. not_overlapping sigs types number f place S target g xs (signature_of gf) at_g right.clean_of_two e1.input e2.input (located one.from) (located two.from) one.place two.place first one.argument two.argument one.fact two.fact
        (ap (λ t. t || is_mutating types (signature_of gf) e2.input) (mutating r a at_r own)) overlaps)
        (λ second. not_overlapping sigs types number f place S target g xs (signature_of gf) at_g right.clean_of_two e2.input e1.input (located two.from) (located one.from) two.place one.place second two.argument one.argument two.fact one.fact
        (or_right (is_mutating types (signature_of gf) e2.input) (is_mutating types (signature_of gf) e1.input) (mutating r a at_r own)) (overlap_turned one.place two.place overlaps))
        (in_order {A = Input} {B = Diag} (inputs_of_signature types (signature_of gf)) e1.input e2.input apart (input_in r a at_r) (input_in s b at_s)))

    pub inputs_apart : IsApart types st.world.content a b
    inputs_apart = places_apart types f rest inputs S st k one.place two.place a b (stood r a at_r) (stood s b at_s) (caller_owns r a at_r own) parts

  -- ---- all of them

  -- no fact points into what is given over
  pub not_given_over : (p : AbsPlace) (r : Region) → Names S p → Stood p r → (n : ℕ) → 0 < times (named_in values) n → Beneath (kinds_of types) st.world.content (all_of (n ∷ [])) r.object → ⊥
  not_given_over p r names at_p n lt low = let h = over n lt in elsewhere types f rest inputs S st k h.0 n h.1 h.2 p r names at_p low

  input_free : (r : Root) (a : Region) → StandsAt (entry_inputs types gf st.world.content values) r a → IsBelow types st.world.content (mutated types gf (entry_inputs types gf st.world.content values)) (named_in values) a.object → ⊥
  input_free r a at_r (below_whole n lt low) = not_given_over (aim r a at_r).place a (located (aim r a at_r).from, (aim r a at_r).fact) (stood r a at_r) n lt low
  input_free r a at_r (below_region b among low) = by_root (one_or_other r m.0)
    where
      m : (s : Root) × (StandsAt (entry_inputs types gf st.world.content values) s b) × (owning types gf s ≡ true)
      m = mutated_from types gf (entry_inputs types gf st.world.content values) b among

      by_root : (r ≡ m.0) ⊎ (r ≢ m.0) → ⊥
      by_root (inl same) =
          let is : a ≡ b = some_same (sym at_r ∙ ap (entry_inputs types gf st.world.content values) same ∙ m.1) in
          not_itself types k.ordered (hand_of rest st) st.world.content (store_of types f rest inputs S st k) a (subst (λ (z : Region). Beneath (kinds_of types) st.world.content (foot_of types z) a.object) (sym is) low)
      by_root (inr ne) = (inputs_apart m.0 r b a m.2 (λ same. ne (sym same)) m.1 at_r).over low

  pub callee_given : AreGiven types gf (entry_inputs types gf st.world.content values) (foot_with types (mutated types gf (entry_inputs types gf st.world.content values)) (named_in values)) st.world.content
  callee_given = record {
    each = entered_input;
    part = entered_part;
    born = λ r a at_r. (store_of types f rest inputs S st k).forest.births a.object (is_entered types gf st.world.content values r a at_r).object (object_lives r a at_r);
    free = λ r a at_r low. input_free r a at_r (is_below types st.world.content (mutated types gf (entry_inputs types gf st.world.content values)) (named_in values) a.object low);
    beside = λ r s a b own ne at_r at_s. (inputs_apart r s a b own ne at_r at_s).beside;
    over = λ r s a b own ne at_r at_s. (inputs_apart r s a b own ne at_r at_s).under;
  }
