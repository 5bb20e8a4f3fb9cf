-- What a call hands over for an input of its callee, where nothing is diagnosed: it may be given it, and what it points to lies at a place of the
-- caller's facts.
use Rattle.std.proofs.Common.{◌≡◌, ℕ, ℤ, zero, suc, Bool, true, false, List, [], ◌∷◌, map, take, Option, Some, None, refl, sym, ap, subst, ◌∙◌}
use Rattle.std.specs.Prelude.{Contains, not, slice_get}
use Rattle.std.proofs.lemmas.Bool.{and_parts, false≢true}
use Rattle.life_types.specs.Pointees.{ty_of}
use Rattle.life_types.specs.TypeTests.{is_pointer}
use Rattle.life_types.specs.Types.{Types, is_slot_at}
use Rattle.life_types.specs.declared.place.Place.{Place}
use Rattle.life_types.specs.declared.ty.Ty.{Ty}
use Rattle.life_types.specs.declared.ty.TyId.{TyId}
use Rattle.life_core.specs.declared.program.FnId.{FnId}
use Rattle.life_core.specs.declared.program.Local.{Local}
use Rattle.life_core.specs.Function.{Function}
use Rattle.life_core.specs.Operands.{Argument, GivenOver, Location, PointerOf, Slot, Value, whole}
use Rattle.life_core.specs.Step.{Call}
use Rattle.life_pset.specs.Elements.{Input, inputs_of}
use Rattle.life_pset.specs.Places.{path}
use Rattle.life_pset.specs.Shapes as shapes
use Rattle.life_pset.specs.Shapes.{members_type, ty_if}
use Rattle.life_pset.specs.declared.element.AbsPlace.{AbsPlace}
use Rattle.life_pset.specs.declared.element.Element.{Element}
use Rattle.life_pset.specs.declared.element.Element.TheVariants as element
use Rattle.life_pset.specs.declared.element.Fact.{Fact}
use Rattle.life_pset.specs.declared.element.Root.{Root}
use Rattle.life_pset.proofs.Numbers.{place_laws}
use Rattle.life_contract.specs.Arguments.{is_argument_of, is_given}
use Rattle.life_contract.specs.Located.{located}
use Rattle.life_contract.specs.Inputs.{bears_nonnull, inputs_of_signature, may_be_null, parameter_number}
use Rattle.life_contract.specs.Signatures.{Signature, signature_of}
use Rattle.life_contract.specs.declared.param.Param.{Param}
use Rattle.life_proper.specs.OperandTypes.{are_alike, takes}
use Rattle.life_proper.specs.Placed.{type_at, type_in}
use Rattle.life_proper.specs.WellFormed.{are_arguments_for, is_argument_for, types_taken}
use Rattle.life_proper.specs.WellFormed as formed
use Rattle.life_rules.specs.Matching.{fact_at}
use Rattle.life_store.specs.Calls.{handed, number_handed, object_handed, pointer_handed}
use Rattle.life_store.specs.Cells.{at}
use Rattle.life_store.specs.Content.{Object}
use Rattle.life_store.specs.Effects.{cell}
use Rattle.life_store.specs.Parts.{held_type_if, local_type}
use Rattle.life_store.specs.Places.{location_cell, member_cell}
use Rattle.life_store.specs.State.{Cell, Empty, Named, Null, Number, Pointer, Points, State, Static, Target, To, Wild}
use Rattle.life_store.proofs.CellLemmas.{none_some, some_same}
use Rattle.life_forest.specs.FrameTypes.{seen_type}
use Rattle.life_forest.proofs.EntryFrames.{types_held}
use Rattle.life_forest.proofs.HandedOver.{AreHandedTo, HandEach}
use Rattle.life_forest.proofs.SettlingPointers.{alike_points}
use Rattle.life_forest.proofs.Shaped.{IsShaped, no_slot}
use Rattle.life_cover.specs.Covers.{Covers, Holds, IsCovered, IsSeenAs, Look, PointsTo}
use Rattle.life_cover.specs.Frames.{RootStands, look_in, look_of}
use Rattle.life_cover.specs.Inputs.{StandsAt, input_cell, may_change, type_seen}
use Rattle.life_cover.specs.Passed.{ArePassed, IsPassedTo, takes_null}
use Rattle.life_cover.specs.Regions.{HasPart, IsPart, Region}
use Rattle.life_cover.proofs.CalledRight.{not_invalid, null_admitted}
use Rattle.life_cover.proofs.Fresh.{holds_lives}
use Rattle.life_cover.proofs.EnteredMembers.{IsHandedAt, handed_at}
use Rattle.life_cover.proofs.Guarding.{same_region}
use Rattle.life_cover.proofs.HeldCells.{member_same}
use Rattle.life_cover.proofs.InputRoots.{IsOwnInput, input_typed, own_input}
use Rattle.life_cover.proofs.KnownFrames.{IsKnownFrame, IsRight}
use Rattle.life_cover.proofs.Looks.{TakesAll, look_same, takes_across, takes_itself}
use Rattle.life_cover.proofs.ObjectParts.{seen_exact}
use Rattle.life_cover.proofs.Opening.{place_part}
use Rattle.life_cover.proofs.PointerInputs.{in_signature, signature_parameter}
use Rattle.life_cover.proofs.Using.{IsTo, NotInvalid, not_wild, to_place}

-- no slot is handed over
abbrev pub IsSlotless : Argument → Type 0
IsSlotless (Slot l) = ⊥
IsSlotless _ = Unit {0}

abbrev pub AreSlotless : List Argument → Type 0
AreSlotless [] = Unit {0}
AreSlotless (x ∷ xs) = IsSlotless x × AreSlotless xs

module _ (types : Types) (texts : ℕ) (fs : List Function) (f : Function) (st : State) where
  -- an argument hands this over for a parameter
  pub record IsHandedFor (n : ℕ) (ls : List Local) (xs : List Argument) (q : ℕ) (v : Cell) : Type 0 where
    pub local : Local
    pub there : slice_get ls q ≡ Some local
    pub argument : Argument
    pub at_q : slice_get xs q ≡ Some argument
    pub slotless : IsSlotless argument
    pub is : handed types f st argument ≡ Some v
    pub fits : is_argument_for types texts fs f local.ty argument ≡ true

  pub handed_for : (n : ℕ) (ls : List Local) (xs : List Argument) (vs : List Cell) (q : ℕ) (v : Cell) → AreSlotless xs → HandEach types f st xs vs → are_arguments_for types texts fs f (map formed.local_type (take n ls)) xs ≡ true → slice_get vs q ≡ Some v → IsHandedFor n ls xs q v
  handed_for n ls [] [] q v slotless each args here = absurd (none_some here)
  handed_for n ls [] (u ∷ vs) q v slotless each args here = absurd each
  handed_for n ls (x ∷ xs) [] q v slotless each args here = absurd each
  handed_for zero ls (x ∷ xs) (u ∷ vs) q v slotless each args here = absurd (false≢true args)
  handed_for (suc n) [] (x ∷ xs) (u ∷ vs) q v slotless each args here = absurd (false≢true args)
  handed_for (suc n) (l ∷ ls) (x ∷ xs) (u ∷ vs) zero v slotless each args here = record { local = l; there = refl; argument = x; at_q = refl; slotless = slotless.0; is = each.0 ∙ here; fits = (and_parts (is_argument_for types texts fs f l.ty x) _ args).0 }
  handed_for (suc n) (l ∷ ls) (x ∷ xs) (u ∷ vs) (suc q) v slotless each args here =
      let h = handed_for n ls xs vs q v slotless.1 each.1 (and_parts (is_argument_for types texts fs f l.ty x) _ args).1 here in
      record { local = h.local; there = h.there; argument = h.argument; at_q = h.at_q; slotless = h.slotless; is = h.is; fits = h.fits }

  -- ---- what each kind of argument hands over

  number_given : (o : Option Cell) (v : Cell) → number_handed o ≡ Some v → (z : ℤ) × (v ≡ Number z)
  number_given None v e = absurd (none_some e)
  number_given (Some Empty) v e = absurd (none_some e)
  number_given (Some (Named m)) v e = absurd (none_some e)
  number_given (Some (Number z)) v e = (z, sym (some_same e))
  number_given (Some (Points u)) v e = absurd (none_some e)

  object_given : (o : Option Cell) (v : Cell) → object_handed o ≡ Some v → (n : ℕ) × (v ≡ Named n) × (o ≡ Some (Named n))
  object_given None v e = absurd (none_some e)
  object_given (Some Empty) v e = absurd (none_some e)
  object_given (Some (Named m)) v e = (m, sym (some_same e), refl)
  object_given (Some (Number z)) v e = absurd (none_some e)
  object_given (Some (Points u)) v e = absurd (none_some e)

  pointer_given : (o : Option Cell) (v : Cell) → pointer_handed o ≡ Some v → (u : Pointer) × (v ≡ Points u) × (o ≡ Some (Points u))
  pointer_given None v e = absurd (none_some e)
  pointer_given (Some Empty) v e = absurd (none_some e)
  pointer_given (Some (Named m)) v e = absurd (none_some e)
  pointer_given (Some (Number z)) v e = absurd (none_some e)
  pointer_given (Some (Points u)) v e = (u, sym (some_same e), refl)

-- ---- where an argument points

-- the pointer of an input points into what lies at a place of the facts of the argument
pub record IsAimedBy (types : Types) (f : Function) (inputs : Root → Option Region) (S : Fact → Type 0) (st : State) (xs : List Argument) (gf : Function) (i : Input) (t : Target) : Type 0 where
  pub from : Location
  pub look : TakesAll types (look_of types i.ty) (look_in types f from)
  pub argument : is_argument_of xs i (located from) ≡ true
  pub place : AbsPlace
  pub fact : S (fact_at (located from) (element.At place))
  pub points : PointsTo types st.world.content (RootStands types f (StandsAt inputs) st.cells) (may_change types f) (look_in types f from) place t
  pub object : (o : Object) → at st.world.content.objects t.object ≡ Some o → record { object = t.object; word = t.word; ty = type_seen types (seen_type types i.ty) o.ty } ≡ points.region
  pub passed : IsPassedTo types st.world.content (look_of types i.ty) t

-- .. of each
abbrev pub AreAimedBy : Types → Function → (inputs : Root → Option Region) → (S : Fact → Type 0) → State → List Argument → Function → List Cell → Type 0
AreAimedBy types f inputs S st xs gf values = (i : Input) (t : Target) → Contains (inputs_of types gf) i → input_cell types gf st.world.content values i ≡ Some (Points (To t)) → IsAimedBy types f inputs S st xs gf i t

-- ---- of a frame of which all is known

module _ (types : Types) (f : Function) (rest : ℕ → ℕ) (inputs : Root → Option Region) (S : Fact → Type 0) (st : State) (k : IsKnownFrame types f rest inputs S st) (sigs : List Signature) (number : ℕ) (place : Place) (S' : Fact → Type 0) (target : Option Location) (g : FnId) (xs : List Argument)
    (right : IsRight sigs types number f place (Call target g xs) S S') (values : List Cell) (slotless : AreSlotless xs) (each : HandEach types f st xs values) (texts : ℕ) (fs : List Function) (gf : Function) (at_g : slice_get sigs g.0 ≡ Some (signature_of gf))
    (args : are_arguments_for types texts fs f (types_taken gf) xs ≡ true) (shaped : IsShaped types gf) (suits : AreHandedTo types st.world.content (types_held types gf) values) where
  module _ (i : Input) (among : Contains (inputs_of types gf) i) (p : Pointer) (here : input_cell types gf st.world.content values i ≡ Some (Points p)) where
    abbrev q : ℕ
    q = parameter_number i

    abbrev own : IsOwnInput types gf i
    own = own_input types gf i among

    -- what stands for the pointer in the caller
    record IsAnArgument : Type 0 where
      pub from : Location
      pub argument : is_argument_of xs i (located from) ≡ true
      pub points : is_pointer (type_in types f from) ≡ true
      pub pointer : location_cell types f from st ≡ Some (Points p)
      pub look : TakesAll types (look_of types i.ty) (look_in types f from)

    -- ---- a pointer by itself

    of_pointer : (l : Location) → slice_get xs q ≡ Some (PointerOf l) → (local : Local) → slice_get gf.locals (parameter_number i) ≡ Some local → is_argument_for types texts fs f local.ty (PointerOf l) ≡ true → path i.pointer ≡ [] → location_cell types f l st ≡ Some (Points p) → IsAnArgument
    of_pointer l at_q local there fits none held = record {
      from = l;
      argument = ap (λ (o : Option Argument). is_given o i (located l)) at_q ∙ place_laws.refl (located l);
      points = (alike_points types (ty_of types local.ty) (type_in types f l) (and_parts (are_alike types (ty_of types local.ty) (type_in types f l)) _ both.1).0).1;
      pointer = held;
      look = subst (λ (look : Look). TakesAll types look (look_in types f l)) look_is (takes_across types k.ordered k.once f k.shaped gf shaped (whole q) l (subst (λ (t : Ty). takes types t (type_in types f l) ≡ true) (sym own_type) both.1));
    }
      where
        -- the parameter is no slot
        both : (is_slot_at types local.ty ≡ false) × (takes types (ty_of types local.ty) (type_in types f l) ≡ true)
        both = let a = and_parts (not (is_slot_at types local.ty)) (takes types (ty_of types local.ty) (type_in types f l)) fits in (not_true (is_slot_at types local.ty) a.0, a.1)
          where
            not_true : (b : Bool) → not b ≡ true → b ≡ false
            not_true true e = absurd (false≢true e)
            not_true false e = refl

        own_type : type_at types gf (parameter_number i) ≡ ty_of types local.ty
        own_type = ap (ty_if types) (shaped (parameter_number i) ∙ ap (held_type_if types) there) ∙ ap (ty_of types) (no_slot types local.ty (slice_get types.types local.ty.0) both.0)

        look_is : look_in types gf (whole (parameter_number i)) ≡ look_of types i.ty
        look_is = look_same types gf shaped (whole (parameter_number i)) ∙ ap (look_of types) (ap (λ (ms : List ℕ). members_type types (shapes.local_type types gf (parameter_number i)) ms) (sym none) ∙ sym (input_typed types gf i among))

    -- ---- a member of what is given over

    of_object : (x n : ℕ) → slice_get xs q ≡ Some (GivenOver x) → cell st x ≡ Some (Named n) → slice_get values q ≡ Some (Named n) → IsAnArgument
    of_object x n at_q named at_v = record {
      from = from;
      argument = ap (λ (o : Option Argument). is_given o i (located from)) at_q ∙ place_laws.refl (located from);
      points = ap (λ (id : Option TyId). is_pointer (ty_if types id)) type_is ∙ own.points;
      pointer =
          member_same types f gf x (parameter_number i) same (path i.pointer) (cell st x) st.world.content
          ∙ ap (λ (o : Option Cell). member_cell types gf (parameter_number i) (path i.pointer) o st.world.content) (named ∙ sym at_v) ∙ here;
      look = subst (λ (look : Look). TakesAll types (look_of types i.ty) look) (sym (look_same types f k.shaped from ∙ ap (look_of types) type_is)) (takes_itself types (look_of types i.ty));
    }
      where
        from : Location
        from = record { local = x; members = path i.pointer }

        h : IsHandedAt types st.world.content gf.parameters gf.locals (parameter_number i) (Named n)
        h = handed_at types st.world.content gf.parameters gf.locals values (parameter_number i) (Named n) suits at_v

        -- it is of the parameter's type
        same : local_type types f x ≡ local_type types gf (parameter_number i)
        same =
            let v = k.stands.frame.objects x n named in
            let w = h.suits.0 in
            v.type ∙ ap (λ (o : Object). Some o.ty) (some_same (sym v.there ∙ w.there)) ∙ sym w.type ∙ sym (ap (held_type_if types) h.there)

        type_is : shapes.location_type types f (record { local = x; members = path i.pointer }) ≡ i.ty
        type_is = ap (λ (id : Option TyId). members_type types id (path i.pointer)) (k.shaped x ∙ same ∙ sym (shaped (parameter_number i))) ∙ sym (input_typed types gf i among)

    an_argument : IsAnArgument
    an_argument = by_cell (slice_get values q) refl here
      where
        no_pointer : (z : ℤ) (ms : List ℕ) → member_cell types gf (parameter_number i) ms (Some (Number z)) st.world.content ≡ Some (Points p) → ⊥
        no_pointer z [] e = unlike (some_same e)
          where
            unlike : Number z ≡ Points p → ⊥
            unlike h = cc
        no_pointer z (m ∷ ms) e = none_some e

        nowhere : (ms : List ℕ) → member_cell types gf (parameter_number i) ms None st.world.content ≡ Some (Points p) → ⊥
        nowhere [] e = none_some e
        nowhere (m ∷ ms) e = none_some e

        memberless : (u : Pointer) (ms : List ℕ) → member_cell types gf (parameter_number i) ms (Some (Points u)) st.world.content ≡ Some (Points p) → (ms ≡ []) × (Some (Points u) ≡ Some (Points p))
        memberless u [] e = (refl, e)
        memberless u (m ∷ ms) e = absurd (none_some e)

        by_argument : (v : Cell) → slice_get values (parameter_number i) ≡ Some v → member_cell types gf (parameter_number i) (path i.pointer) (Some v) st.world.content ≡ Some (Points p) → (local : Local) → slice_get gf.locals (parameter_number i) ≡ Some local
            → (y : Argument) → slice_get xs (parameter_number i) ≡ Some y → IsSlotless y → handed types f st y ≡ Some v → is_argument_for types texts fs f local.ty y ≡ true → IsAnArgument
        by_argument v at_v held local there (Value r) at_q free is fits =
            let z = number_given types texts fs f st (cell st r) v is in
            absurd (no_pointer z.0 (path i.pointer) (subst (λ (u : Cell). member_cell types gf (parameter_number i) (path i.pointer) (Some u) st.world.content ≡ Some (Points p)) z.1 held))
        by_argument v at_v held local there (GivenOver x) at_q free is fits =
            let o = object_given types texts fs f st (cell st x) v is in
            of_object x o.0 at_q o.2 (at_v ∙ ap Some o.1)
        by_argument v at_v held local there (PointerOf l) at_q free is fits =
            let u = pointer_given types texts fs f st (location_cell types f l st) v is in
            let whole_is = memberless u.0 (path i.pointer) (subst (λ (w : Cell). member_cell types gf (parameter_number i) (path i.pointer) (Some w) st.world.content ≡ Some (Points p)) u.1 held) in
            of_pointer l at_q local there fits whole_is.0 (u.2 ∙ whole_is.1)
        by_argument v at_v held local there (Slot l) at_q free is fits = absurd free

        by_cell : (o : Option Cell) → slice_get values (parameter_number i) ≡ o → member_cell types gf (parameter_number i) (path i.pointer) o st.world.content ≡ Some (Points p) → IsAnArgument
        by_cell None at_v held = absurd (nowhere (path i.pointer) held)
        by_cell (Some v) at_v held =
            let h = handed_for types texts fs f st gf.parameters gf.locals xs values (parameter_number i) v slotless each args at_v in
            by_argument v at_v held h.local h.there h.argument h.at_q h.slotless h.is h.fits

    abbrev a : IsAnArgument
    a = an_argument

    input_in : Contains (inputs_of_signature types (signature_of gf)) i
    input_in = in_signature types k.ordered gf i among

    valid : NotInvalid S (located an_argument.from)
    valid cause = not_invalid sigs types number f place S target g xs (signature_of gf) at_g right.clean i input_in (located a.from) a.argument cause

    nulls : S (fact_at (located an_argument.from) element.Null) → takes_null types (slice_get gf.locals (parameter_number i)) i ≡ true
    nulls s =
        ap (λ (o : Option Local). takes_null types o i) own.there
        ∙ ap (λ (o : Option Param). may_be_null types (bears_nonnull o) i) (sym (signature_parameter gf (parameter_number i) own.local own.there own.lt))
        ∙ null_admitted sigs types number f place S target g xs (signature_of gf) at_g right.clean i input_in (located a.from) a.argument s

    covered : IsCovered types st.world.content (RootStands types f (StandsAt inputs) st.cells) (may_change types f) S (located an_argument.from) (look_in types f an_argument.from) p
    covered = k.covered a.from p a.points a.pointer

  -- where it points to
  module _ (i : Input) (among : Contains (inputs_of types gf) i) (t : Target) (here : input_cell types gf st.world.content values i ≡ Some (Points (To t))) where
    abbrev b : IsAnArgument i among (To t) here
    b = an_argument i among (To t) here

    aimed : IsTo types st.world.content (RootStands types f (StandsAt inputs) st.cells) (may_change types f) S (located (an_argument i among (To t) here).from) (look_in types f (an_argument i among (To t) here).from) (valid i among (To t) here) t
    aimed = to_place types st.world.content (RootStands types f (StandsAt inputs) st.cells) (may_change types f) S (located b.from) (look_in types f b.from) (valid i among (To t) here) t (covered i among (To t) here)

    abbrev region : Region
    region = aimed.points.region

    aimed_part : IsPart types st.world.content region
    aimed_part = place_part types f rest inputs S st k aimed.place region aimed.points.lies

    aimed_seen : IsSeenAs types (seen_type types i.ty) region.ty
    aimed_seen = b.look.target region.ty aimed.points.type

    aimed_holds : Holds st.world.content (look_of types i.ty).ranged t
    aimed_holds = subst (λ ranged. Holds st.world.content ranged t) b.look.ranged aimed.points.holds

    -- a part of the object
    part_there : (o : Object) → at st.world.content.objects t.object ≡ Some o → HasPart types o.ty region.word region.ty
    part_there o there = aimed_part o (ap (at st.world.content.objects) (sym aimed.points.object) ∙ there)

    seen_there : (o : Object) → at st.world.content.objects t.object ≡ Some o → type_seen types (seen_type types i.ty) o.ty ≡ region.ty
    seen_there o there = seen_exact types k.ordered (seen_type types i.ty) o.ty region.word region.ty (part_there o there) aimed_seen

    object_there : (o : Object) → at st.world.content.objects t.object ≡ Some o → record { object = t.object; word = t.word; ty = type_seen types (seen_type types i.ty) o.ty } ≡ aimed.points.region
    object_there o there = same_region (record { object = t.object; word = t.word; ty = type_seen types (seen_type types i.ty) o.ty }) region aimed.points.object aimed.points.word (seen_there o there)

    passed_to : IsPassedTo types st.world.content (look_of types i.ty) t
    passed_to =
        let o = holds_lives st.world.content (look_of types i.ty).ranged t aimed_holds in record {
          object = o.0;
          there = o.1;
          part = subst (HasPart types o.0.ty t.word) (sym (seen_there o.0 o.1)) (subst (λ w. HasPart types o.0.ty w region.ty) (sym aimed.points.word) (part_there o.0 o.1));
          type = subst (IsSeenAs types (seen_type types i.ty)) (sym (seen_there o.0 o.1)) aimed_seen;
          holds = aimed_holds;
        }

  pub aimed_by : AreAimedBy types f inputs S st xs gf values
  aimed_by i t among here = record {
    from = (an_argument i among (To t) here).from;
    look = (an_argument i among (To t) here).look;
    argument = (an_argument i among (To t) here).argument;
    place = (aimed i among t here).place;
    fact = (aimed i among t here).fact;
    points = (aimed i among t here).points;
    object = object_there i among t here;
    passed = passed_to i among t here;
  }

  -- so each parameter may be given it
  pub passed : ArePassed types gf st.world.content values
  passed i (Static s) among here = tt
  passed i (To t) among here = passed_to i among t here
  passed i Wild among here = not_wild types st.world.content (RootStands types f (StandsAt inputs) st.cells) (may_change types f) S (located (an_argument i among Wild here).from) (look_in types f (an_argument i among Wild here).from) (valid i among Wild here) (covered i among Wild here)
  passed i Null among here = go (covered i among Null here).known (covered i among Null here).holds (covered i among Null here).covers
    where
      go : (e : Element) → S (fact_at (located (an_argument i among Null here).from) e) → Covers types st.world.content (RootStands types f (StandsAt inputs) st.cells) (may_change types f) (look_in types f (an_argument i among Null here).from) e Null → takes_null types (slice_get gf.locals (parameter_number i)) i ≡ true
      go element.Null s covers = nulls i among Null here s
      go (element.Invalid cause) s covers = absurd (valid i among Null here cause s)
      go (element.Moved cause) s covers = absurd covers
      go element.Own s covers = absurd covers
      go element.Static s covers = absurd covers
      go (element.At place) s covers = absurd covers
