-- A local comes to life: there is no fault, and the facts behind it cover all pointers of the frame.
use Rattle.std.proofs.Common.{◌≡◌, ◌≢◌, ⊎_elim, ℕ, ◌+◌, ◌*◌, Bool, true, false, List, [], ◌∷◌, Option, Some, None, refl, sym, ap, subst, ◌∙◌, ◌||◌, arith}
use Rattle.std.specs.Prelude.{Contains, cond, nat_eq, nat_lt, slice_get, slice_set, not, ◌&&◌}
use Rattle.std.proofs.lemmas.Bool.{ne_eqb, and_parts, false≢true}
use Rattle.life_types.specs.Pointees.{or_void}
use Rattle.life_types.specs.TypeTests.{is_pointer, is_reference, is_unique}
use Rattle.life_types.specs.Trees.{members_at}
use Rattle.life_types.specs.Types.{Types, class}
use Rattle.life_types.specs.declared.ty.Class.TheVariants.{Value}
use Rattle.life_types.specs.declared.place.Place.{Place}
use Rattle.life_types.specs.declared.ty.Ty.{Ty}
use Rattle.life_types.specs.declared.ty.Ty.TheVariants as variant
use Rattle.life_types.specs.declared.ty.TyId.{TyId}
use Rattle.life_core.specs.declared.instr.Form.{Form}
use Rattle.life_core.specs.declared.instr.Form.TheVariants as forms
use Rattle.life_core.specs.declared.program.Local.{Local}
use Rattle.life_core.specs.declared.program.LocalKind.{LocalKind}
use Rattle.life_core.specs.declared.program.LocalKind.TheVariants as local
use Rattle.life_core.specs.Function.{Function}
use Rattle.life_core.specs.Holdings.{Holding, held_by, held_if}
use Rattle.life_core.specs.Step.{Live}
use Rattle.life_pset.specs.Elements.{elements_of, local_place, uninitialised, local_locations}
use Rattle.life_pset.specs.Shapes.{shape, shape_of, ty_if, members_type}
use Rattle.life_pset.specs.Shapes as shapes
use Rattle.life_pset.specs.declared.element.Element.{Element}
use Rattle.life_pset.specs.declared.element.Element.TheVariants as element
use Rattle.life_pset.specs.declared.element.Fact.{Fact}
use Rattle.life_pset.specs.declared.element.Root.{Root}
use Rattle.life_pset.specs.declared.element.Root.TheVariants as root
use Rattle.life_pset.proofs.Numbers.{is_of_iff}
use Rattle.life_contract.specs.Signatures.{Signature}
use Rattle.life_proper.specs.Placed.{is_slot_local, slot_at, object_at, register_at, type_at, type_in}
use Rattle.life_rules.specs.Carrying.{born, born_facts, born_raw, locations_at, locations_of_local, own_type}
use Rattle.life_rules.specs.Matching.{fact_at, facts_at}
use Rattle.life_rules.proofs.Giving.{at_head, flat_map_into}
use Rattle.life_store.specs.Births.{born_object, born_owner, live_as, live_local, live_of, live_over, with_value_object}
use Rattle.life_store.specs.Content.{Content, live_words_of}
use Rattle.life_store.specs.Doing.{does}
use Rattle.life_store.specs.Effects.{Attempt, Got, Effect, Next, Setting, Traps, cell, put_cell, put_content}
use Rattle.life_store.specs.Owners.{Words, birth, born_pointer, fresh, object_with, owning, sized_birth}
use Rattle.life_store.specs.Parts.{Parts, Single, Raw, Iterates, Views, Text, Vector, Unique, Member, NoMember, characters_type, held_type_if, parts_at, parts_of, struct_of, width, local_type, location_type, type_within, word_within}
use Rattle.life_store.specs.State.{Pointer, Wild, Cell, Empty, Named, Number, Points, State}
use Rattle.life_store.specs.declared.run.TrapKind.TheVariants as trap
use Rattle.life_store.proofs.CellLemmas.{cell_cases, some_same, none_some}
use Rattle.life_store.proofs.MapLemmas.{one_or_apart}
use Rattle.life_forest.specs.Forest.{Touches}
use Rattle.life_forest.specs.Kinds.{kinds_of}
use Rattle.life_forest.proofs.Laying.{parts_made}
use Rattle.life_forest.proofs.Shaped.{no_slot}
use Rattle.life_cover.specs.Covers.{IsCovered}
use Rattle.life_cover.specs.Frames.{FrameCovered, RootStands, look_at, look_in}
use Rattle.life_cover.specs.Inputs.{may_change, StandsAt}
use Rattle.life_cover.specs.Regions.{Region}
use Rattle.life_cover.proofs.Births.{IsNew, owner_new, value_touches}
use Rattle.life_cover.proofs.KnownFrames.{IsKnownFrame, IsRight, hand_of, rooted_of, store_of, object_named}
use Rattle.life_cover.proofs.Listing.{caused_known, null_known}
use Rattle.life_cover.proofs.OwnerKinds.{birth_faultless, faultless_then, right_got}
use Rattle.life_cover.proofs.Pointers.{OnRight, right_then}
use Rattle.life_cover.proofs.Putting.{set_other, set_same}
use Rattle.life_cover.proofs.Unkilled.{no_foot, unkilled_cover}
use Rattle.life_cover.proofs.Using.{Faultless}
use Rattle.life_core.specs.Operands.{Location, whole}
use Rattle.life_pset.specs.Places.{members_place, path}
use Rattle.life_contract.specs.Located.{is_root, is_rooted, located}
use Rattle.life_proper.specs.WellFormed.{can_live}
use Rattle.life_store.specs.Held.{pointer_in, words_at}
use Rattle.life_store.specs.Places.{location_cell, member_cell}
use Rattle.life_forest.proofs.Begins.{pointer_begins}
use Rattle.life_forest.proofs.FittingBirths.{got_both}
use Rattle.life_forest.proofs.OneNumber.{IsOfType}
use Rattle.life_forest.proofs.SeenTypes.{pointer_solid}
use Rattle.life_forest.proofs.Steps.{touches_self}
use Rattle.life_forest.proofs.TypedSteps.{location_of}
use Rattle.life_cover.proofs.ExactLocations.{exact_path, room_length}
use Rattle.life_cover.proofs.FreshMembers.{AreBorn, born_for, members_born}
use Rattle.life_cover.proofs.LocationsListed.{is_told, local_told, pointer_listed, pointer_memberless}
use Rattle.life_cover.proofs.MemberReach.{not_single, ready}
use Rattle.life_cover.proofs.MemberWords.{IsPointing, held_before, is_pointing, spares_at}
use Rattle.life_cover.proofs.PointedPlaces.{local_given}
use Rattle.life_cover.proofs.SparedPointers.{spares_nothing}
use Rattle.life_cover.proofs.Unkept.{members_root}

-- ---- no birth is a fault

sized_faultless : (s : Setting) (ty : TyId) (w size : ℕ) (c : Content) → Faultless (sized_birth s ty w size c)
sized_faultless s ty w size c = faultless_then (birth s ty w size c) _ (birth_faultless s ty w size c) (λ b. tt)

pub fresh_faultless : (s : Setting) (form : Form) (p : Parts) (c : Content) → Faultless (fresh s form p c)
fresh_faultless s form Single c = tt
fresh_faultless s form Raw c = tt
fresh_faultless s form Iterates c = tt
fresh_faultless s form Views c = tt
fresh_faultless s form (Text ty) c = faultless_then (birth s ty 1 0 c) (λ b. Got (owning b)) (birth_faultless s ty 1 0 c) (λ b. tt)
fresh_faultless s form (Vector ty item) c = faultless_then (birth s ty (width item) 0 c) (λ b. Got (owning b)) (birth_faultless s ty (width item) 0 c) (λ b. tt)
fresh_faultless s form (Unique ty target) c = tt
fresh_faultless s form (Member first others) c =
    faultless_then (fresh s form first c) _ (fresh_faultless s form first c) (λ a. faultless_then (fresh s form others a.1) _ (fresh_faultless s form others a.1) (λ b. tt))
fresh_faultless s form NoMember c = tt

pub object_faultless : (s : Setting) (ty : TyId) (p : Parts) (value : Content → Attempt Words) (c : Content) → ((d : Content) → Faultless (value d)) → Faultless (object_with s ty p value c)
object_faultless s ty p value c each = faultless_then (sized_birth s ty (width p) 1 c) _ (sized_faultless s ty (width p) 1 c) (λ b. faultless_then (value b.1) _ (each b.1) (λ v. tt))

right_if : (b : Bool) (x y : Effect) (Q : State → Type 0) → OnRight x Q → OnRight y Q → OnRight (cond b x y) Q
right_if true x y Q h k = h
right_if false x y Q h k = k

module _ (types : Types) (f : Function) (rest : ℕ → ℕ) (inputs : Root → Option Region) (S : Fact → Type 0) (st : State) (k : IsKnownFrame types f rest inputs S st) (sigs : List Signature) (n : ℕ) (place : Place) (S' : Fact → Type 0) (s : Setting) (x : ℕ) (form : Form)
    (right : IsRight sigs types n f place (Live x form) S S') (gone : cell st x ≡ Some Empty) (can : can_live types 0 [] f x ≡ true) where
  not_named : (m : ℕ) → cell st x ≡ Some (Named m) → ⊥
  not_named m e = unlike (some_same (sym gone ∙ e))
    where
      unlike : Empty ≡ Named m → ⊥
      unlike h = cc

  others : (y : ℕ) → x ≢ y → nat_eq x y ≡ false
  others y ne = ne_eqb x y ne

  -- ---- an object

  -- the pointers in it are covered
  abbrev AreCovered : ℕ → Content → Type 0
  AreCovered m d =
      (p : Location) → x ≡ p.local → (j : ℕ) (js : List ℕ) → p.members ≡ j ∷ js → is_pointer (type_in types f p) ≡ true
      → IsCovered types d (RootStands types f (StandsAt inputs) (slice_set st.cells x (Named m))) (may_change types f) S' (located p) (look_in types f p) (pointer_in (words_at d m 0 (word_within types (local_type types f p.local) p.members) 5))

  -- where only new objects came
  module _ (m : ℕ) (d : Content) (touch : Touches (kinds_of types) no_foot st.world.content d) (covered : AreCovered m d) (p : Location) (v : Pointer) (pointer : is_pointer (type_in types f p) ≡ true) where
    abbrev Covered : Pointer → Type 0
    Covered w = IsCovered types d (RootStands types f (StandsAt inputs) (slice_set st.cells x (Named m))) (may_change types f) S' (located p) (look_in types f p) w

    unlike : Named m ≡ Points v → ⊥
    unlike h = cc

    one : (n : ℕ) → Named m ≡ Named n → m ≡ n
    one n h = cc

    points_one : {u w : Pointer} → Points u ≡ Points w → u ≡ w
    points_one h = cc

    stay : (ro : Root) (r : Region) → RootStands types f (StandsAt inputs) st.cells ro r → RootStands types f (StandsAt inputs) (slice_set st.cells x (Named m)) ro r
    stay (root.Local z) r h = one_or_apart x z (λ e. absurd (not_named r.object (ap (slice_get st.cells) e ∙ h.0))) (λ ne. (set_other st.cells x z (Named m) ne ∙ h.0, h.1, h.2))
    stay (root.Input q member) r h = h

    -- another local's pointer
    other : x ≢ p.local → location_cell types f p (put_content d st) ≡ Some (Points v) → Covered v
    other ne held =
        unkilled_cover types k.ordered (hand_of rest st) st.world.content d (store_of types f rest inputs S st k) touch (RootStands types f (StandsAt inputs) st.cells) (RootStands types f (StandsAt inputs) (slice_set st.cells x (Named m))) (may_change types f)
        (rooted_of types f rest inputs S st k).fits sigs f place (Live x form) S S' right.closed (λ u. refl) (λ a r names free stands. stay a.root r stands) (located p) (look_in types f p) v
        (ap (is_root x) (members_root p.members (local_place p.local)) ∙ others p.local ne)
        (k.covered p v pointer
        (held_before types k.ordered k.once f k.shaped st (λ y n named. k.stands.frame.objects y n named) p pointer (hand_of rest st) (store_of types f rest inputs S st k) no_foot
        (spares_at types k.ordered k.once f k.shaped st (λ y n named. k.stands.frame.objects y n named) p pointer no_foot (spares_nothing types f rest inputs S st k)) d touch v held))

    go : (ms : List ℕ) → p.members ≡ ms → (o : Option Cell) → slice_get (slice_set st.cells x (Named m)) p.local ≡ o → member_cell types f p.local ms o d ≡ Some (Points v) → Covered v
    go [] is o there held =
        ⊎_elim (λ h. absurd (unlike h.1)) (λ h. other h.0 (ap (λ (ms : List ℕ). member_cell types f p.local ms (slice_get st.cells p.local) d) is ∙ h.1)) (cell_cases st.cells x p.local (Named m) (Points v) (there ∙ held))
    go (j ∷ js) is (Some (Named n)) there held =
        ⊎_elim
        (λ h. subst Covered
        (ap (λ (ms : List ℕ). pointer_in (words_at d m 0 (word_within types (local_type types f p.local) ms) 5)) is
        ∙ ap (λ z. pointer_in (words_at d z 0 (word_within types (local_type types f p.local) (j ∷ js)) 5)) (one n h.1) ∙ points_one (some_same held))
        (covered p h.0 j js is pointer))
        (λ h. other h.0 (ap (λ (ms : List ℕ). member_cell types f p.local ms (slice_get st.cells p.local) d) is ∙ ap (λ (y : Option Cell). member_cell types f p.local (j ∷ js) y d) h.1 ∙ held))
        (cell_cases st.cells x p.local (Named m) (Named n) there)
    go (j ∷ js) is None there held = absurd (none_some held)
    go (j ∷ js) is (Some Empty) there held = absurd (none_some held)
    go (j ∷ js) is (Some (Number z)) there held = absurd (none_some held)
    go (j ∷ js) is (Some (Points q)) there held = absurd (none_some held)

    at_location : location_cell types f p (put_cell x (Named m) (put_content d st)) ≡ Some (Points v) → Covered v
    at_location e = go p.members refl (slice_get (slice_set st.cells x (Named m)) p.local) refl e

  object_covered : (m : ℕ) (d : Content) → Touches (kinds_of types) no_foot st.world.content d → AreCovered m d → FrameCovered types f inputs S' (put_cell x (Named m) (put_content d st))
  object_covered m d touch covered p v pointer e = at_location m d touch covered p v pointer e

  -- ---- a pointer

  pointer_born : (v : Pointer) → is_pointer (type_at types f x) ≡ true → IsCovered types st.world.content (RootStands types f (StandsAt inputs) st.cells) (may_change types f) S' (local_place x) (look_at types f x) v → FrameCovered types f inputs S' (put_cell x (Points v) st)
  pointer_born v pointer covers =
      local_given types k.ordered k.once f k.shaped k.short rest st k.stands.store (λ y n named. k.stands.frame.objects y n named) (λ y n named. object_named types f rest inputs S st k y n named) inputs k.given.each (may_change types f) (rooted_of types f rest inputs S st k).fits S' (whole x) pointer v covers
      (λ p w is ne held.
      unkilled_cover types k.ordered (hand_of rest st) st.world.content st.world.content (store_of types f rest inputs S st k) (touches_self (kinds_of types) no_foot st.world.content) (RootStands types f (StandsAt inputs) st.cells) (RootStands types f (StandsAt inputs) st.cells) (may_change types f)
      (rooted_of types f rest inputs S st k).fits sigs f place (Live x form) S S' right.closed (λ u. refl) (λ a r names free stands. stands) (located p) (look_in types f p) w (elsewhere p w held) (k.covered p w is held))
      not_named refl
    where
      -- what holds a pointer isn't the local, which is empty
      elsewhere : (p : Location) (w : Pointer) → location_cell types f p st ≡ Some (Points w) → is_rooted x (located p) ≡ false
      elsewhere p w held = ap (is_root x) (members_root p.members (local_place p.local)) ∙ others p.local (λ same. go p.members (ap (slice_get st.cells) (sym same) ∙ gone) held)
        where
          go : (ms : List ℕ) → slice_get st.cells p.local ≡ Some Empty → member_cell types f p.local ms (slice_get st.cells p.local) st.world.content ≡ Some (Points w) → ⊥
          go [] e h = points_none (some_same (sym e ∙ h))
            where
              points_none : Empty ≡ Points w → ⊥
              points_none u = cc
          go (j ∷ js) e h = none_some (ap (λ (o : Option Cell). member_cell types f p.local (j ∷ js) o st.world.content) (sym e) ∙ h)

  module _ (l : Local) (there : slice_get f.locals x ≡ Some l) (own : shape types f.parameters x l ≡ l.ty) where
    typed : local_type types f x ≡ Some l.ty
    typed = sym (k.shaped x) ∙ ap (shape_of types f.parameters x) there ∙ ap Some own

    -- the fact with which a pointer is born that is the local, or a member of it
    born_fact : (p : Location) → x ≡ p.local → is_pointer (type_in types f p) ≡ true → path (located p) ≡ p.members → (e : Element) → born place x form (type_in types f p) ≡ Some e → Contains (elements_of types f) e → S' (fact_at (located p) e)
    born_fact p here pointer exact e gives known =
        right.closed.none (fact_at (located p) e) ((is_of_iff types f (fact_at (located p) e)).1 (pointer_listed types k.ordered k.once f k.shaped p pointer, known))
        (flat_map_into (born_facts types f place x form) (locations_of_local types f x) (located p) (fact_at (located p) e)
        (subst (λ (o : Option Local). Contains (locations_at types f.parameters x o) (located p)) (sym there) (listed (subst (λ y. Contains (local_locations types f.parameters x l) (members_place (local_place y) p.members)) here)))
        (subst (λ (o : Option Element). Contains (facts_at (located p) o) (fact_at (located p) e)) (sym (ap (born place x form) type_is ∙ gives)) (at_head (fact_at (located p) e) [])))
      where
        is : IsPointing types k.ordered k.once f k.shaped p
        is = is_pointing types k.ordered k.once f k.shaped p pointer

        within : type_within types (Some l.ty) p.members ≡ Some is.part
        within = ap (λ (o : Option TyId). type_within types o p.members) (sym typed ∙ ap (local_type types f) here) ∙ is.typed

        of : IsOfType types (location_type types f p) (type_in types f p)
        of = location_of types k.ordered k.once 0 [] f k.shaped p (type_in types f p) refl (pointer_solid (type_in types f p) pointer)

        listed : (Contains (local_locations types f.parameters x l) (members_place (local_place x) p.members) → Contains (local_locations types f.parameters x l) (located p)) → Contains (local_locations types f.parameters x l) (located p)
        listed at_p =
            at_p
            (local_told types k.ordered f.parameters x l p.members is.part (subst (λ (id : TyId). type_within types (Some id) p.members ≡ Some is.part) (sym own) within)
            (ap (λ (id : Option TyId). is_told (ty_if types id)) (sym is.typed ∙ of.is) ∙ ap (λ (o : Option Ty). is_told (or_void o)) of.there ∙ ap (λ b. b || is_unique (type_in types f p)) pointer))

        type_is : ty_if types (members_type types (own_type (slice_get f.locals x)) (path (located p))) ≡ type_in types f p
        type_is =
            ap (λ (o : Option Local). ty_if types (members_type types (own_type o) (path (located p)))) there
            ∙ ap (λ (ms : List ℕ). ty_if types (members_type types (Some l.ty) ms)) exact
            ∙ ap (λ (o : Option TyId). ty_if types (members_type types o p.members)) (sym typed ∙ sym (k.shaped x) ∙ ap (shapes.local_type types f) here)

    uninit : Contains (elements_of types f) (element.Invalid (uninitialised place x))
    uninit = caused_known types k.ordered f (element.Invalid (uninitialised place x)) (right.closed.causes (element.Invalid (uninitialised place x)) (at_head (element.Invalid (uninitialised place x)) []))

    -- what it is born with is covered, in whatever state
    module _ (c : Content) (Stands : Root → Region → Type 0) (p : Location) (here : x ≡ p.local) (pointer : is_pointer (type_in types f p) ≡ true) (exact : path (located p) ≡ p.members) where
      abbrev BornCovered : Pointer → Type 0
      BornCovered v = IsCovered types c Stands (may_change types f) S' (located p) (look_in types f p) v

      wild : born place x form (type_in types f p) ≡ Some (element.Invalid (uninitialised place x)) → BornCovered Wild
      wild gives = record { known = element.Invalid (uninitialised place x); holds = born_fact p here pointer exact (element.Invalid (uninitialised place x)) gives uninit; covers = tt }

      raw : (fm : Form) → form ≡ fm → born place x form (type_in types f p) ≡ Some (born_raw place x form) → BornCovered (born_pointer fm)
      raw forms.Plain e gives = wild (gives ∙ ap (λ g. Some (born_raw place x g)) e)
      raw forms.Zero e gives = record { known = element.Null; holds = born_fact p here pointer exact element.Null (gives ∙ ap (λ g. Some (born_raw place x g)) e) (null_known types k.ordered f); covers = tt }

      born_covered : (t : Ty) → type_in types f p ≡ t → is_pointer t ≡ true → BornCovered (born_for form t)
      born_covered variant.View e is = tt
      born_covered (variant.Span target constant) e is = tt
      born_covered (variant.Iterator target constant) e is = wild (ap (born place x form) e)
      born_covered (variant.Raw target constant) e is = raw form refl (ap (born place x form) e)
      born_covered (variant.Reference target constant) e is = raw form refl (ap (born place x form) e)
      born_covered _ e is = absurd (false≢true is)

    -- a local that is a pointer
    local_born : (t : Ty) → slice_get types.types l.ty.0 ≡ Some t → is_pointer t ≡ true → FrameCovered types f inputs S' (put_cell x (Points (born_for form t)) st)
    local_born t there_t pointer =
        pointer_born (born_for form t) (ap is_pointer is ∙ pointer) (born_covered st.world.content (RootStands types f (StandsAt inputs) st.cells) (whole x) refl (ap is_pointer is ∙ pointer) refl t is pointer)
      where
        is : type_at types f x ≡ t
        is = ap (ty_if types) (k.shaped x ∙ typed) ∙ ap or_void there_t

    -- a member of one that comes to life
    module _ (m : ℕ) (d : Content) (p : Location) (here : x ≡ p.local) (j : ℕ) (js : List ℕ) (members : p.members ≡ j ∷ js) (pointer : is_pointer (type_in types f p) ≡ true) where
      pointing : IsPointing types k.ordered k.once f k.shaped p
      pointing = is_pointing types k.ordered k.once f k.shaped p pointer

      of_location : IsOfType types (location_type types f p) (type_in types f p)
      of_location = location_of types k.ordered k.once 0 [] f k.shaped p (type_in types f p) refl (pointer_solid (type_in types f p) pointer)

      typed_at : local_type types f p.local ≡ Some l.ty
      typed_at = ap (local_type types f) (sym here) ∙ typed

      within : type_within types (Some l.ty) p.members ≡ Some pointing.part
      within = ap (λ (o : Option TyId). type_within types o p.members) (sym typed_at) ∙ pointing.typed

      -- it is no pointer itself, so an object
      object : object_at types f x ≡ true
      object = go (object_at types f x) can
        where
          memberless : is_pointer (type_at types f x) ≡ false
          memberless = ap (λ (o : Option TyId). is_pointer (ty_if types o)) (k.shaped x ∙ typed) ∙ pointer_memberless types k.ordered l.ty j js pointing.part (subst (λ (ms : List ℕ). type_within types (Some l.ty) ms ≡ Some pointing.part) members within)

          go : (b : Bool) → (b || (register_at types f x && (is_pointer (type_at types f x) && not (is_reference (type_at types f x))))) ≡ true → b ≡ true
          go true h = refl
          go false h = absurd (false≢true (sym memberless ∙ (and_parts (is_pointer (type_at types f x)) _ (and_parts (register_at types f x) _ h).1).0))

      objects : (y n : ℕ) → slice_get (slice_set st.cells x (Named m)) y ≡ Some (Named n) → object_at types f y ≡ true
      objects y n e = ⊎_elim (λ h. subst (λ z. object_at types f z ≡ true) h.0 object) (λ h. object_named types f rest inputs S st k y n h.1) (cell_cases st.cells x y (Named m) (Named n) e)

      stands : RootStands types f (StandsAt inputs) (slice_set st.cells x (Named m)) (root.Local p.local) (record { object = m; word = 0; ty = l.ty })
      stands = (ap (slice_get (slice_set st.cells x (Named m))) (sym here) ∙ set_same st.cells x (Named m) Empty gone, refl, typed_at)

      exact : path (located p) ≡ p.members
      exact =
          let is = ready types k.ordered f k.shaped k.short (put_cell x (Named m) (put_content d st)) objects inputs k.given.each p.members (local_place p.local) (record { object = m; word = 0; ty = l.ty }) pointing.part
          (record { eight = refl; made = refl }) (record { start = record { object = m; word = 0; ty = l.ty }; stands = stands; lies = refl }) within in
          let room = is.room.fits in
          let long = room_length p.members (local_place p.local) is.room is.small in
          exact_path p.members (local_place p.local) refl (omega (arith, room, long))

      member_born : AreBorn types form l.ty d m → IsCovered types d (RootStands types f (StandsAt inputs) (slice_set st.cells x (Named m))) (may_change types f) S' (located p) (look_in types f p) (pointer_in (words_at d m 0 (word_within types (local_type types f p.local) p.members) 5))
      member_born born_well =
          subst (λ (v : Pointer). IsCovered types d (RootStands types f (StandsAt inputs) (slice_set st.cells x (Named m))) (may_change types f) S' (located p) (look_in types f p) v)
          (sym (ap (λ (o : Option TyId). pointer_in (words_at d m 0 (word_within types o p.members) 5)) typed_at
          ∙ born_well (word_within types (Some l.ty) p.members) pointing.part (type_in types f p) (pointer_begins types k.ordered l.ty pointing.part p.members within pointing.points)
          (subst (λ (id : TyId). slice_get types.types id.0 ≡ Some (type_in types f p)) (some_same (sym of_location.is ∙ pointing.typed)) of_location.there)))
          (born_covered d (RootStands types f (StandsAt inputs) (slice_set st.cells x (Named m))) p here pointer exact (type_in types f p) refl pointer)

    value_born : parts_at types l.ty ≡ Single → OnRight (born_object s l.ty x st) (FrameCovered types f inputs S')
    value_born single =
        right_if (nat_lt s.given.cells (live_words_of st.world.content + (2 + 1 * 1))) (Traps trap.Cells) _ (FrameCovered types f inputs S') tt
        (object_covered st.world.content.births (with_value_object l.ty st.world.content) (value_touches types k.ordered (hand_of rest st) st.world.content (store_of types f rest inputs S st k) l.ty)
        (λ p here j js members pointer. absurd (not_single types (Some l.ty) j js (pointing st.world.content.births (with_value_object l.ty st.world.content) p here j js members pointer).part
        (subst (λ (ms : List ℕ). type_within types (Some l.ty) ms ≡ Some (pointing st.world.content.births (with_value_object l.ty st.world.content) p here j js members pointer).part) members (within st.world.content.births (with_value_object l.ty st.world.content) p here j js members pointer)) single)))

    owner_born : OnRight (born_owner s l.ty (parts_at types l.ty) form x st) (FrameCovered types f inputs S')
    owner_born =
        right_then (object_with s l.ty (parts_at types l.ty) (fresh s form (parts_at types l.ty)) st.world.content) (λ b. Next (put_cell x (Named b.0) (put_content b.1 st))) (λ b. IsNew types st.world.content b × AreBorn types form l.ty b.1 b.0) (FrameCovered types f inputs S')
        (right_got (object_with s l.ty (parts_at types l.ty) (fresh s form (parts_at types l.ty)) st.world.content) (λ b. IsNew types st.world.content b × AreBorn types form l.ty b.1 b.0)
        (got_both (object_with s l.ty (parts_at types l.ty) (fresh s form (parts_at types l.ty)) st.world.content) (IsNew types st.world.content) (λ b. AreBorn types form l.ty b.1 b.0)
        (owner_new types k.ordered (hand_of rest st) st.world.content (store_of types f rest inputs S st k) l.ty s form) (members_born types k.ordered (hand_of rest st) st.world.content (store_of types f rest inputs S st k) s l.ty form))
        (object_faultless s l.ty (parts_at types l.ty) (fresh s form (parts_at types l.ty)) st.world.content (fresh_faultless s form (parts_at types l.ty))))
        (λ b new. object_covered b.0 b.1 new.0.1 (λ p here j js members pointer. member_born b.0 b.1 p here j js members pointer new.1))

    -- ---- by its type

    as_parts : (o : Option Ty) → slice_get types.types l.ty.0 ≡ o → (Q : Parts → Type 0) → Q (parts_of types (parts_at types) o) → Q (parts_at types l.ty)
    as_parts o e Q h = subst Q (sym (parts_made types k.ordered l.ty ∙ ap (parts_of types (parts_at types)) e)) h

    -- what owns, or a struct
    owner_parts : (o : Option Ty) → slice_get types.types l.ty.0 ≡ o → (p : Parts) → parts_of types (parts_at types) o ≡ p → OnRight (born_owner s l.ty p form x st) (FrameCovered types f inputs S')
    owner_parts o e p is = subst (λ (q : Parts). OnRight (born_owner s l.ty q form x st) (FrameCovered types f inputs S')) (parts_made types k.ordered l.ty ∙ ap (parts_of types (parts_at types)) e ∙ is) owner_born

    value_kind : (kind : LocalKind) → parts_at types l.ty ≡ Single → (o : Option Ty) → OnRight (live_as s types (held_if Value kind o) l.ty form x st) (FrameCovered types f inputs S')
    value_kind local.Object single o = value_born single
    value_kind local.Register single o = tt
    value_kind local.Range single o = subst (λ (p : Parts). OnRight (live_of s l.ty p form x st) (FrameCovered types f inputs S')) (sym single) tt

    live_typed : (kind : LocalKind) (o : Option Ty) → slice_get types.types l.ty.0 ≡ o → OnRight (live_as s types (held_if (class o) kind o) l.ty form x st) (FrameCovered types f inputs S')
    live_typed kind (Some variant.View) e = local_born variant.View e refl
    live_typed kind (Some (variant.Raw target constant)) e = local_born (variant.Raw target constant) e refl
    live_typed kind (Some (variant.Reference target constant)) e = local_born (variant.Reference target constant) e refl
    live_typed kind (Some (variant.Iterator target constant)) e =
        as_parts (Some (variant.Iterator target constant)) e (λ p. OnRight (live_of s l.ty p form x st) (FrameCovered types f inputs S')) (local_born (variant.Iterator target constant) e refl)
    live_typed kind (Some (variant.Span target constant)) e = as_parts (Some (variant.Span target constant)) e (λ p. OnRight (live_of s l.ty p form x st) (FrameCovered types f inputs S')) (local_born (variant.Span target constant) e refl)
    live_typed kind (Some variant.Text) e =
        as_parts (Some variant.Text) e (λ p. OnRight (live_of s l.ty p form x st) (FrameCovered types f inputs S')) (owner_parts (Some variant.Text) e (Text (characters_type types)) refl)
    live_typed kind (Some (variant.Vector item)) e =
        as_parts (Some (variant.Vector item)) e (λ p. OnRight (live_of s l.ty p form x st) (FrameCovered types f inputs S')) (owner_parts (Some (variant.Vector item)) e (Vector item (parts_at types item)) refl)
    live_typed kind (Some (variant.Unique target)) e =
        as_parts (Some (variant.Unique target)) e (λ p. OnRight (live_of s l.ty p form x st) (FrameCovered types f inputs S')) (owner_parts (Some (variant.Unique target)) e (Unique target (parts_at types target)) refl)
    live_typed kind (Some (variant.Struct number)) e =
        as_parts (Some (variant.Struct number)) e (λ p. OnRight (live_of s l.ty p form x st) (FrameCovered types f inputs S')) (members (members_at types number) refl)
      where
        members : (ids : List TyId) → members_at types number ≡ ids → OnRight (live_of s l.ty (struct_of (parts_at types) ids) form x st) (FrameCovered types f inputs S')
        members [] is = tt
        members (id ∷ ids) is = owner_parts (Some (variant.Struct number)) e (struct_of (parts_at types) (id ∷ ids)) (ap (struct_of (parts_at types)) is)
    live_typed kind None e = value_kind kind (as_parts None e (λ p. p ≡ Single) refl) None
    live_typed kind (Some variant.Void) e = value_kind kind (as_parts (Some variant.Void) e (λ p. p ≡ Single) refl) (Some variant.Void)
    live_typed kind (Some variant.Bool) e = value_kind kind (as_parts (Some variant.Bool) e (λ p. p ≡ Single) refl) (Some variant.Bool)
    live_typed kind (Some variant.Char) e = value_kind kind (as_parts (Some variant.Char) e (λ p. p ≡ Single) refl) (Some variant.Char)
    live_typed kind (Some variant.Int) e = value_kind kind (as_parts (Some variant.Int) e (λ p. p ≡ Single) refl) (Some variant.Int)
    live_typed kind (Some variant.Long) e = value_kind kind (as_parts (Some variant.Long) e (λ p. p ≡ Single) refl) (Some variant.Long)
    live_typed kind (Some variant.Size) e = value_kind kind (as_parts (Some variant.Size) e (λ p. p ≡ Single) refl) (Some variant.Size)

-- no slot comes to life
module _ (types : Types) (f : Function) (rest : ℕ → ℕ) (inputs : Root → Option Region) (S : Fact → Type 0) (st : State) (k : IsKnownFrame types f rest inputs S st) (sigs : List Signature) (n : ℕ) (place : Place) (S' : Fact → Type 0) where
  pub live_kind : (s : Setting) (x : ℕ) (form : Form) → IsRight sigs types n f place (Live x form) S S' → can_live types 0 [] f x ≡ true → slot_at types f x ≡ false → OnRight (does s types f (Live x form) st) (FrameCovered types f inputs S')
  live_kind s x form right can free = by_local (slice_get f.locals x) refl
    where
      by_cell : (l : Local) → slice_get f.locals x ≡ Some l → (v : Option Cell) → cell st x ≡ v → OnRight (live_over s types v (held_if (class (slice_get types.types l.ty.0)) l.kind (slice_get types.types l.ty.0)) l.ty form x st) (FrameCovered types f inputs S')
      by_cell l there None e = tt
      by_cell l there (Some (Named m)) e = tt
      by_cell l there (Some (Number z)) e = tt
      by_cell l there (Some (Points p)) e = tt
      by_cell l there (Some Empty) e = live_typed types f rest inputs S st k sigs n place S' s x form right e can l there (own l there) l.kind (slice_get types.types l.ty.0) refl
        where
          own : (u : Local) → slice_get f.locals x ≡ Some u → shape types f.parameters x u ≡ u.ty
          own u h = some_same (ap (shape_of types f.parameters x) (sym h) ∙ k.shaped x ∙ ap (held_type_if types) h ∙ ap Some (no_slot types u.ty (slice_get types.types u.ty.0) (ap (is_slot_local types f) (sym h) ∙ free)))

      by_local : (o : Option Local) → slice_get f.locals x ≡ o → OnRight (live_local s types f (slice_get f.locals x) form x st) (FrameCovered types f inputs S')
      by_local None e = subst (λ (o : Option Local). OnRight (live_local s types f o form x st) (FrameCovered types f inputs S')) (sym e) tt
      by_local (Some l) e =
          subst (λ (o : Option Local). OnRight (live_local s types f o form x st) (FrameCovered types f inputs S')) (sym e)
          (subst (λ (h : Holding). OnRight (live_over s types (cell st x) h l.ty form x st) (FrameCovered types f inputs S')) (sym (ap (held_by types) e)) (by_cell l e (cell st x) refl))
