-- At a function's entry its facts cover the pointers that its parameters were given, by themselves or as members.
use Rattle.std.proofs.Common.{◌≡◌, ℕ, ◌≤◌, ◌<◌, true, List, [], ◌∷◌, Option, Some, None, refl, sym, ap, subst, ◌∙◌}
use Rattle.std.specs.Prelude.{Contains, cond, length, option_map, slice_get, ◌||◌}
use Rattle.std.proofs.lemmas.Bool.{false≢true}
use Rattle.life_types.specs.Pointees.{ty_of}
use Rattle.life_types.specs.Trees.{IsOrdered}
use Rattle.life_types.specs.TypeTests.{is_pointer, is_unique}
use Rattle.life_types.specs.Types.{HasEachOnce, Types}
use Rattle.life_types.specs.declared.ty.TyId.{TyId}
use Rattle.life_core.specs.declared.program.Local.{Local}
use Rattle.life_core.specs.Function.{Function}
use Rattle.life_core.specs.Operands.{Location}
use Rattle.life_pset.specs.Elements.{Input, elements_of, local_place, locations_of}
use Rattle.life_pset.specs.Places.{path, root_place}
use Rattle.life_pset.specs.Shapes as shapes
use Rattle.life_pset.specs.Shapes.{members_type, shape, shape_of, ty_if}
use Rattle.life_pset.specs.declared.element.AbsPlace.{AbsPlace}
use Rattle.life_pset.specs.declared.element.Element.{Element}
use Rattle.life_pset.specs.declared.element.Element.TheVariants as element
use Rattle.life_pset.specs.declared.element.Root.{Root}
use Rattle.life_pset.specs.declared.element.Root.TheVariants as root
use Rattle.life_pset.proofs.Numbers.{is_of_iff}
use Rattle.life_contract.specs.Inputs.{parameter_number}
use Rattle.life_contract.specs.Located.{located}
use Rattle.life_contract.specs.Signatures.{Signature}
use Rattle.life_proper.specs.Placed.{type_in}
use Rattle.life_rules.specs.Deriving.{entry, entry_facts}
use Rattle.life_rules.specs.Matching.{fact_at}
use Rattle.life_store.specs.Content.{Content, Object}
use Rattle.life_store.specs.Parts.{type_within}
use Rattle.life_store.specs.Places.{member_cell}
use Rattle.life_store.specs.State.{Cell, Null, Pointer, Points, Static, Target, To, Wild}
use Rattle.life_store.proofs.CellLemmas.{none_some}
use Rattle.life_forest.specs.Forest.{Touches}
use Rattle.life_forest.specs.FrameTypes.{seen_type}
use Rattle.life_forest.specs.Frames.{named_in}
use Rattle.life_forest.specs.Kinds.{kinds_of}
use Rattle.life_forest.specs.Typed.{IsStore}
use Rattle.life_forest.proofs.EntryFrames.{types_held}
use Rattle.life_forest.proofs.HandedOver.{AreHandedTo}
use Rattle.life_forest.proofs.Shaped.{IsShaped}
use Rattle.life_cover.specs.Covers.{IsCovered, Look}
use Rattle.life_cover.specs.Frames.{RootStands, look_in, look_of}
use Rattle.life_cover.specs.Inputs as given
use Rattle.life_cover.specs.Inputs.{AreGiven, StandsAt, entered_at, entry_inputs, foot_with, input_cell, may_change, mutated, pointed, type_seen}
use Rattle.life_cover.specs.Passed.{ArePassed, IsPassed, IsPassedTo, takes_null}
use Rattle.life_cover.specs.Regions.{Region}
use Rattle.life_cover.proofs.Beside.{holds_on}
use Rattle.life_cover.proofs.Edges.{FactsAt}
use Rattle.life_cover.proofs.EnteredMembers.{handed_at}
use Rattle.life_cover.proofs.ExactLocations.{exact_path}
use Rattle.life_cover.proofs.Guarding.{root_laws}
use Rattle.life_cover.proofs.InputRoots.{IsPointerOf, found_input, input_location, input_typed, own_input, pointer_input}
use Rattle.life_cover.proofs.Listing.{null_known}
use Rattle.life_cover.proofs.LocationsListed.{is_told, local_told, pointer_listed}
use Rattle.life_cover.proofs.Looks.{location_is, look_same}
use Rattle.life_cover.proofs.MemberWords.{IsPointing, is_pointing}
use Rattle.life_cover.proofs.PointerInputs.{input_element, null_at_entry, points_at_entry, root_changes}

-- what has a type is a local
pub record IsLocal (f : Function) (x : ℕ) : Type 0 where
  pub local : Local
  pub there : slice_get f.locals x ≡ Some local

pub pointer_local : (types : Types) (f : Function) (l : Location) → is_pointer (type_in types f l) ≡ true → IsLocal f l.local
pointer_local types f l pointer = go (slice_get f.locals l.local) refl pointer
  where
    none : (ms : List ℕ) → members_type types None ms ≡ None
    none [] = refl
    none (m ∷ ms) = none ms

    go : (o : Option Local) → slice_get f.locals l.local ≡ o → is_pointer (ty_if types (members_type types (shape_of types f.parameters l.local o) l.members)) ≡ true → IsLocal f l.local
    go (Some local) e h = record { local = local; there = e }
    go None e h = absurd (false≢true (ap (λ (id : Option TyId). is_pointer (ty_if types id)) (sym (none l.members)) ∙ h))

module _ (types : Types) (ordered : IsOrdered types) (once : HasEachOnce types) (f : Function) (shaped : IsShaped types f) (few : length (locations_of types f) ≤ 256) (sigs : List Signature) (hand : ℕ → ℕ) (c : Content) (vs : List Cell) (store : IsStore types hand c)
    (apart : AreGiven types f (entry_inputs types f c vs) (foot_with types (mutated types f (entry_inputs types f c vs)) (named_in vs)) c) (suits : AreHandedTo types c (types_held types f) vs) (passed : ArePassed types f c vs) (d : Content)
    (touch : Touches (kinds_of types) (foot_with types (mutated types f (entry_inputs types f c vs)) (named_in vs)) c d) (cells : List Cell) where
  module _ (l : Location) (pointer : is_pointer (type_in types f l) ≡ true) (short : (located l).length ≤ 8) (p : Pointer) (here : member_cell types f l.local l.members (slice_get vs l.local) c ≡ Some (Points p)) where
    -- it is a parameter, or in one
    parameter : l.local < f.parameters
    parameter = go l.members (slice_get vs l.local) refl here
      where
        there : (v : Cell) → slice_get vs l.local ≡ Some v → l.local < f.parameters
        there v e = (handed_at types c f.parameters f.locals vs l.local v suits e).lt

        go : (ms : List ℕ) (o : Option Cell) → slice_get vs l.local ≡ o → member_cell types f l.local ms o c ≡ Some (Points p) → l.local < f.parameters
        go ms (Some v) e h = there v e
        go [] None e h = absurd (none_some h)
        go (m ∷ ms) None e h = absurd (none_some h)

    abbrev lo : IsLocal f l.local
    lo = pointer_local types f l pointer

    path_is : path (located l) ≡ l.members
    path_is = exact_path l.members (local_place l.local) refl short

    -- so it is an input
    input_is : IsPointerOf types f l.local (located l)
    input_is =
        pointer_input types f l.local lo.local (located l) lo.there parameter
        (local_told types ordered f.parameters l.local lo.local l.members is.part (subst (λ (id : Option TyId). type_within types id l.members ≡ Some is.part) (sym (shaped l.local) ∙ ap (shape_of types f.parameters l.local) lo.there) is.typed) told)
        (ap (λ (ms : List ℕ). is_pointer (ty_if types (members_type types (Some (shape types f.parameters l.local lo.local)) ms))) path_is
        ∙ ap (λ (o : Option Local). is_pointer (ty_if types (members_type types (shape_of types f.parameters l.local o) l.members))) (sym lo.there) ∙ pointer)
      where
        is : IsPointing types ordered once f shaped l
        is = is_pointing types ordered once f shaped l pointer

        told : is_told (ty_of types is.part) ≡ true
        told = ap (λ b. b || is_unique (ty_of types is.part)) (ap (λ (id : Option TyId). is_pointer (ty_if types id)) (sym (location_is types f shaped l ∙ is.typed)) ∙ pointer)

    abbrev i : Input
    i = input_is.input

    at_l : input_location types f input_is.input ≡ l
    at_l = ap (λ x. record { local = x; members = path i.pointer }) input_is.parameter ∙ ap (λ (ms : List ℕ). record { local = l.local; members = ms }) (ap path input_is.pointer ∙ path_is)

    type_is : input_is.input.ty ≡ shapes.location_type types f l
    type_is = input_typed types f i input_is.among ∙ ap (shapes.location_type types f) at_l

    look_is : look_of types input_is.input.ty ≡ look_in types f l
    look_is = ap (look_of types) type_is ∙ sym (look_same types f shaped l)

    cell_is : input_cell types f c vs input_is.input ≡ Some (Points p)
    cell_is = ap (λ (q : Location). member_cell types f q.local q.members (slice_get vs q.local) c) at_l ∙ here

    found : given.input_at types f input_is.input.root ≡ Some input_is.input
    found = found_input types f ordered few i input_is.among

    fact_given : (e : Element) → Contains (entry_facts types f) (fact_at input_is.input.pointer e) → Contains (elements_of types f) e → FactsAt sigs types f 1 (fact_at (located l) e)
    fact_given e has known = entry ((is_of_iff types f (fact_at (located l) e)).1 (pointer_listed types ordered once f shaped l pointer, known)) (subst (λ (z : AbsPlace). Contains (entry_facts types f) (fact_at z e)) input_is.pointer has)

    -- it may be null
    null_covered : takes_null types (slice_get f.locals (parameter_number input_is.input)) input_is.input ≡ true → FactsAt sigs types f 1 (fact_at (located l) element.Null)
    null_covered null = fact_given element.Null (null_at_entry types f i input_is.among (ap (λ (o : Option Local). takes_null types o i) (sym (own_input types f i input_is.among).there) ∙ null)) (null_known types ordered f)

    aimed_fact : FactsAt sigs types f 1 (fact_at (located l) (element.At (root_place input_is.input.root)))
    aimed_fact = fact_given (element.At (root_place i.root)) (points_at_entry types f i input_is.among) (input_element types f i input_is.among)

    -- ---- what points to an object

    module _ (t : Target) (same : p ≡ To t) (to : IsPassedTo types c (look_of types input_is.input.ty) t) where
      abbrev region : Region
      region = record { object = t.object; word = t.word; ty = type_seen types (seen_type types input_is.input.ty) to.object.ty }

      stands : StandsAt (entry_inputs types f c vs) input_is.input.root (record { object = t.object; word = t.word; ty = type_seen types (seen_type types input_is.input.ty) to.object.ty })
      stands =
          ap (entered_at types f c vs i.root) found
          ∙ ap (λ b. cond b (pointed types (seen_type types i.ty) c (input_cell types f c vs i)) None) (root_laws.refl i.root)
          ∙ ap (pointed types (seen_type types i.ty) c) (cell_is ∙ ap (λ (u : Pointer). Some (Points u)) same)
          ∙ ap (option_map (λ (o : Object). record { object = t.object; word = t.word; ty = type_seen types (seen_type types i.ty) o.ty })) to.there

      to_covered : IsCovered types d (RootStands types f (StandsAt (entry_inputs types f c vs)) cells) (may_change types f) (FactsAt sigs types f 1) (located l) (look_of types input_is.input.ty) (To t)
      to_covered = record {
        known = element.At (root_place i.root);
        holds = aimed_fact;
        covers = record {
          region = region;
          lies = record { start = region; stands = root_stands i.root stands; lies = refl };
          object = refl;
          word = refl;
          type = to.type;
          change = λ constant. root_changes types f i i.root found constant;
          holds = holds_on types ordered hand c d store (foot_with types (mutated types f (entry_inputs types f c vs)) (named_in vs)) touch (look_of types i.ty).ranged t (apart.free i.root region stands) to.holds;
        };
      }
        where
          -- no local is an input
          root_stands : (r : Root) → StandsAt (entry_inputs types f c vs) r region → RootStands types f (StandsAt (entry_inputs types f c vs)) cells r region
          root_stands (root.Local x) h = absurd (none_some h)
          root_stands (root.Input q member) h = h

    pub entered_covered : IsCovered types d (RootStands types f (StandsAt (entry_inputs types f c vs)) cells) (may_change types f) (FactsAt sigs types f 1) (located l) (look_in types f l) p
    entered_covered = subst (λ (look : Look). IsCovered types d (RootStands types f (StandsAt (entry_inputs types f c vs)) cells) (may_change types f) (FactsAt sigs types f 1) (located l) look p) look_is (by_pointer p refl (passed i p input_is.among cell_is))
      where
        by_pointer : (u : Pointer) → p ≡ u → IsPassed types f c i u → IsCovered types d (RootStands types f (StandsAt (entry_inputs types f c vs)) cells) (may_change types f) (FactsAt sigs types f 1) (located l) (look_of types i.ty) u
        by_pointer (Static s) same is = tt
        by_pointer Wild same is = absurd is
        by_pointer Null same is = record { known = element.Null; holds = null_covered is; covers = tt }
        by_pointer (To t) same is = to_covered t same is
