-- A well-formed instruction has operands of the types that it takes.
use Rattle.std.proofs.Common.{◌≡◌, inl, inr, ℕ, Bool, true, false, ◌&&◌, not, if◌then◌else◌, List, Option, Some, None, refl, sym, ap, subst, ◌∙◌}
use Rattle.std.proofs.lemmas.Bool.{and_parts, false≢true}
use Rattle.std.specs.Prelude.{ℤ, slice_get}
use Rattle.life_types.specs.Pointees.{ty_of}
use Rattle.life_types.specs.Trees.{IsOrdered}
use Rattle.life_types.specs.TypeTests.{is_constant, is_iterator, is_pointer, is_unique, is_value, is_view, is_void}
use Rattle.life_types.specs.Types.{HasEachOnce, Types, class, class_at}
use Rattle.life_types.specs.declared.ty.Class.{Class}
use Rattle.life_types.specs.declared.ty.Class.TheVariants.{Value, Pointer, Owner, Aggregate}
use Rattle.life_types.specs.declared.ty.Ty.{Ty}
use Rattle.life_types.specs.declared.ty.Ty.TheVariants as ty
use Rattle.life_types.specs.declared.ty.TyId.{TyId}
use Rattle.life_core.specs.declared.instr.Made.{Made}
use Rattle.life_core.specs.declared.instr.Made.TheVariants as made
use Rattle.life_core.specs.declared.operand.Which.{Which}
use Rattle.life_core.specs.declared.operand.Which.TheVariants as which
use Rattle.life_core.specs.declared.program.Local.{Local}
use Rattle.life_core.specs.declared.program.LocalKind.{LocalKind}
use Rattle.life_core.specs.Function.{Function}
use Rattle.life_core.specs.Holdings.{AnObject, Blank, held_by, held_if, pointer_held, sort_of}
use Rattle.life_core.specs.Operands.{Base, Location, Operand, Name, Through, Source}
use Rattle.life_core.specs.Operands as source
use Rattle.life_core.specs.Step.{Change, PushBack, Erase, Step, Live, End, Eval, Load, Save, Copy, Move, Aim, Repoint, Element, Cursor, Advance, Cut, Size, Same, Changes, Make, Call, Ports}
use Rattle.life_pset.specs.Shapes.{ty_if}
use Rattle.life_pset.specs.Shapes as shapes
use Rattle.life_proper.specs.OperandTypes.{aims_at, are_alike, is_owner, is_range, keeps_const, owned_element, owned_target, same, spans, takes, walks}
use Rattle.life_proper.specs.Placed.{is_consumed, is_const_base, is_const_place, is_given, is_number_of, is_place, is_slot_local, object_at, register_at, result_at, slot_at, type_at, type_in, type_of, type_of_element}
use Rattle.life_proper.specs.Placed as placed
use Rattle.life_proper.specs.WellFormed.{is_change_of, is_made_for, is_source_of, is_well_formed_step}
use Rattle.life_proper.proofs.HeldSorts.{same_is, same_void}
use Rattle.life_store.specs.Effects.{cell}
use Rattle.life_store.specs.Parts.{Parts, Unique, characters_type, held_type_if, local_type, location_type, operand_type, parts_at, parts_if, parts_of, target_type, type_within, width, width_at}
use Rattle.life_store.specs.State.{Named, Number, State}
use Rattle.life_forest.specs.FrameTypes.{seen_in, seen_type}
use Rattle.life_forest.specs.Sorted.{AreSorted, Counts, Names, sort_if}
use Rattle.life_forest.proofs.Laying.{parts_made}
use Rattle.life_forest.proofs.OneNumber.{IsOfType, also_solid, number_of_type, one_number, one_type, same_solid, type_there, typed_at}
use Rattle.life_forest.proofs.Operands.{AimsFrom, OperandAims}
use Rattle.life_forest.proofs.Retargets.{Retargets}
use Rattle.life_forest.proofs.SeenTypes.{OwnsFor, aims_seen, alike_seen, character_parts, element_owned, element_seen, gets_seen, one_retargets, parts_typed, pointee_points, pointer_parts, pointer_solid, range_points, raw_points, same_if, target_owned, value_parts, view_is, walks_seen, whole_owned}
use Rattle.life_forest.proofs.Shaped.{IsShaped, no_slot, target_same, within_same}
use Rattle.life_forest.proofs.Slots.{register_only}
use Rattle.life_forest.proofs.StandingPointers.{IsPointer}
use Rattle.life_forest.proofs.StandingSteps.{IsGivenTo, IsHandedOn, IsOperandOf, IsOwnerFor, IsTypedBase, IsTypedChange, IsTypedMade, IsTypedSource, IsTypedStep, IsTextChange, IsVectorChange, TakesPointer}

-- what a pointer aims at that stands in a local, or in a member of one
abbrev pub PointersAim : Types → Function → State → Type 0
PointersAim types f st = (l : Location) (part : TyId) → location_type types f l ≡ Some part → IsPointer (parts_at types part) → AimsFrom types f st l

-- no slot is born
abbrev pub IsSlotFree : Types → Function → Step → Type 0
IsSlotFree types f (Live x form) = slot_at types f x ≡ false
IsSlotFree types f _ = Unit {0}

pub if_there : (b : Bool) (u t : Ty) → (if b then u else ty.Void) ≡ t → is_void t ≡ false → (b ≡ true) × (u ≡ t)
if_there true u t e some = (refl, e)
if_there false u t e some = absurd (false≢true (sym some ∙ ap is_void (sym e)))

owner_solid : (t : Ty) → is_owner t ≡ true → is_void t ≡ false
owner_solid ty.Void e = absurd (false≢true e)
owner_solid _ e = refl

pub value_solid : (t : Ty) → is_value t ≡ true → is_void t ≡ false
value_solid ty.Void e = absurd (false≢true e)
value_solid _ e = refl

-- an object of a value type has one word
value_class : (c : Class) (k : LocalKind) (o : Option Ty) → held_if c k o ≡ AnObject → c ≡ Value
value_class Value k o e = refl
value_class Pointer k o e = absurd (no_pointer o e)
  where
    no_pointer : (o : Option Ty) → pointer_held o ≡ AnObject → ⊥
    no_pointer (Some (ty.Raw target constant)) h = cc
    no_pointer (Some (ty.Reference target constant)) h = cc
    no_pointer (Some ty.View) h = cc
    no_pointer None h = cc
    no_pointer (Some _) h = cc
value_class Owner k o e = absurd (blank e)
  where
    blank : Blank ≡ AnObject → ⊥
    blank h = cc
value_class Aggregate k o e = absurd (blank e)
  where
    blank : Blank ≡ AnObject → ⊥
    blank h = cc

value_wide : (types : Types) (part : TyId → Parts) (o : Option Ty) → class o ≡ Value → width (parts_of types part o) ≡ 1
value_wide types part None e = refl
value_wide types part (Some ty.Void) e = refl
value_wide types part (Some ty.Bool) e = refl
value_wide types part (Some ty.Char) e = refl
value_wide types part (Some ty.Int) e = refl
value_wide types part (Some ty.Long) e = refl
value_wide types part (Some ty.Size) e = refl
value_wide types part (Some ty.Text) e = refl
value_wide types part (Some (ty.Vector element)) e = refl
value_wide types part (Some (ty.Unique target)) e = refl
value_wide types part (Some ty.View) e = absurd (pointer e)
  where
    pointer : Pointer ≡ Value → ⊥
    pointer h = cc
value_wide types part (Some (ty.Raw target constant)) e = absurd (pointer e)
  where
    pointer : Pointer ≡ Value → ⊥
    pointer h = cc
value_wide types part (Some (ty.Reference target constant)) e = absurd (pointer e)
  where
    pointer : Pointer ≡ Value → ⊥
    pointer h = cc
value_wide types part (Some (ty.Iterator target constant)) e = absurd (pointer e)
  where
    pointer : Pointer ≡ Value → ⊥
    pointer h = cc
value_wide types part (Some (ty.Span target constant)) e = absurd (pointer e)
  where
    pointer : Pointer ≡ Value → ⊥
    pointer h = cc
value_wide types part (Some (ty.Struct number)) e = absurd (struct e)
  where
    struct : Aggregate ≡ Value → ⊥
    struct h = cc

module _ (types : Types) (ordered : IsOrdered types) (once : HasEachOnce types) (texts : ℕ) (fs : List Function) (f : Function) (shaped : IsShaped types f) where
  -- ---- locals, locations and operands have the types by which they were tested

  location_same : (l : Location) → shapes.location_type types f l ≡ location_type types f l
  location_same l = within_same types l.members (shapes.local_type types f l.local) ∙ ap (λ (id : Option TyId). type_within types id l.members) (shaped l.local)

  pub operand_same : (o : Operand) → shapes.operand_type types f o ≡ operand_type types f o
  operand_same (Name l) = location_same l
  operand_same (Through p members) =
      within_same types members (shapes.target_type types (shapes.location_type types f p))
      ∙ ap (λ (id : Option TyId). type_within types id members) (target_same types (shapes.location_type types f p) ∙ ap (target_type types) (location_same p))

  pub local_of : (x : ℕ) (t : Ty) → type_at types f x ≡ t → is_void t ≡ false → IsOfType types (local_type types f x) t
  local_of x t e some = typed_at types (local_type types f x) t (ap (ty_if types) (sym (shaped x)) ∙ e) some

  pub location_of : (l : Location) (t : Ty) → type_in types f l ≡ t → is_void t ≡ false → IsOfType types (location_type types f l) t
  location_of l t e some = typed_at types (location_type types f l) t (ap (ty_if types) (sym (location_same l)) ∙ e) some

  pub operand_of : (o : Operand) (t : Ty) → type_of types f o ≡ t → is_void t ≡ false → IsOfType types (operand_type types f o) t
  operand_of o t e some =
      typed_at types (operand_type types f o) t (ap (ty_if types) (sym (operand_same o)) ∙ (if_there (is_place types f o) (ty_if types (shapes.operand_type types f o)) t e some).1) some

  module _ (st : State) (aims : PointersAim types f st) (sorted : AreSorted types f st.cells) where
    -- ---- pointers

    pub record IsPointerOf (l : Location) (t : Ty) : Type 0 where
      pub part : TyId
      pub there : slice_get types.types part.0 ≡ Some t
      pub takes : TakesPointer types f st l part

    pub pointer_of : (l : Location) (t : Ty) → type_in types f l ≡ t → is_pointer t ≡ true → IsPointerOf l t
    pointer_of l t e pointer =
        let of = location_of l t e (pointer_solid t pointer) in
        record { part = of.number; there = of.there; takes = (of.is, pointer_parts types ordered of.number t of.there pointer) }

    from_pointer : (l : Location) → is_pointer (type_in types f l) ≡ true → AimsFrom types f st l
    from_pointer l pointer = let p = pointer_of l (type_in types f l) refl pointer in aims l p.part p.takes.0 p.takes.1

    operand_aims : (o : Operand) → is_place types f o ≡ true → OperandAims types f st o
    operand_aims (Name l) e = tt
    operand_aims (Through p members) e = from_pointer p (pointee_points types (type_in types f p) e)

    -- ---- operands

    pub record IsOperandWith (o : Operand) (t : Ty) : Type 0 where
      pub whole : TyId
      pub there : slice_get types.types whole.0 ≡ Some t
      pub operand : IsOperandOf types f st o whole

    pub operand_with : (o : Operand) (t : Ty) → type_of types f o ≡ t → is_void t ≡ false → IsOperandWith o t
    operand_with o t e some =
        let of = operand_of o t e some in
        record {
          whole = of.number;
          there = of.there;
          operand = (of.is, operand_aims o (if_there (is_place types f o) (ty_if types (shapes.operand_type types f o)) t e some).0);
        }

    handed_on : (p q : Location) (part : TyId) → slice_get types.types part.0 ≡ Some (type_in types f p) → takes types (type_in types f p) (type_in types f q) ≡ true → IsHandedOn types f st q part
    handed_on p q part there e =
        let alike = alike_seen types ordered once (type_in types f p) (type_in types f q) (and_parts (are_alike types (type_in types f p) (type_in types f q)) (keeps_const (is_constant (type_in types f p)) (is_constant (type_in types f q))) e).0 in
        let from = pointer_of q (type_in types f q) refl alike.from in (
          from_pointer q alike.from,
          one_retargets types ordered (seen_type types (location_type types f q)) (seen_type types (Some part))
              (ap (seen_type types) from.takes.0 ∙ ap (seen_in types) from.there ∙ alike.seen ∙ ap (seen_in types) (sym there)),
        )

    takes_from : (p q : Location) → takes types (type_in types f p) (type_in types f q) ≡ true → (part : TyId) × TakesPointer types f st p part × IsHandedOn types f st q part
    takes_from p q e =
        let alike = alike_seen types ordered once (type_in types f p) (type_in types f q) (and_parts (are_alike types (type_in types f p) (type_in types f q)) (keeps_const (is_constant (type_in types f p)) (is_constant (type_in types f q))) e).0 in
        let to = pointer_of p (type_in types f p) refl alike.to in
        (to.part, to.takes, handed_on p q to.part to.there e)

    -- ---- what a pointer is aimed at

    module _ (part : TyId) (t : Ty) (there : slice_get types.types part.0 ≡ Some t) where
      -- what an owner has
      owner_for : (whole : TyId) → OwnsFor types ordered once whole (seen_in types (Some t)) → IsOwnerFor types f st part whole
      owner_for whole owns = subst (OwnsFor types ordered once whole) (ap (seen_in types) (sym there)) owns

      source_typed : (s : Source) → is_source_of types texts fs f t s ≡ true → IsTypedSource types f st part s
      source_typed source.Null e = tt
      source_typed (source.Text n) e =
          ap (λ (o : Option Ty). parts_if types (seen_in types o)) (there ∙ ap Some (view_is t (and_parts (is_view t) _ e).0)) ∙ character_parts types ordered
      source_typed source.Empty e = tt
      source_typed (source.Place o) e =
          let seen = aims_seen types ordered once t (type_of types f o) (and_parts (aims_at types t (type_of types f o)) (keeps_const (is_constant t) (is_const_place types f o)) e).0 in
          let at = operand_with o (type_of types f o) refl (also_solid (ty_of types seen.target) (type_of types f o) seen.is) in (
            at.whole,
            at.operand,
            one_retargets types ordered (Some at.whole) (seen_type types (Some part))
                (ap Some (sym (number_of_type types once seen.target at.whole (type_of types f o) seen.is at.there)) ∙ sym seen.seen ∙ ap (seen_in types) (sym there)),
          )
      source_typed (source.Whole o) e = go (type_of types f o) refl (and_parts (spans types t (type_of types f o)) (keeps_const (is_constant t) (is_const_place types f o)) e).0
        where
          with_type : (u : Ty) → type_of types f o ≡ u → is_void u ≡ false → spans types t u ≡ true → IsTypedSource types f st part (source.Whole o)
          with_type u is some h = let at = operand_with o u is some in (at.whole, at.operand, owner_for at.whole (whole_owned types ordered once at.whole t u at.there h))

          no_void : (v : Ty) → spans types v ty.Void ≡ true → ⊥
          no_void (ty.Span target constant) h = false≢true h
          no_void ty.View h = false≢true h
          no_void _ h = false≢true h

          go : (u : Ty) → type_of types f o ≡ u → spans types t u ≡ true → IsTypedSource types f st part (source.Whole o)
          go ty.Void is h = absurd (no_void t h)
          go u is h = with_type _ is refl h
      source_typed (source.Get l) e =
          let seen = gets_seen types ordered once t (owned_target types (type_in types f l)) e in
          go (type_in types f l) refl seen.target seen.seen seen.is
        where
          go : (u : Ty) → type_in types f l ≡ u → (target : TyId) → seen_in types (Some t) ≡ Some target → same (ty_of types target) (owned_target types u) ≡ true → IsTypedSource types f st part (source.Get l)
          go (ty.Unique of) is target seen h =
              let at = location_of l (ty.Unique of) is refl in
              (at.number, at.is, owner_for at.number (subst (OwnsFor types ordered once at.number) (sym seen) (target_owned types ordered once at.number (ty.Unique of) target at.there h)))
          go _ is target seen h = absurd (same_void (ty_of types target) h)

      -- an element, or a target
      module _ (target : TyId) (seen : seen_in types (Some t) ≡ Some target) where
        owner_base : (o : Operand) (u : Ty) → type_of types f o ≡ u → is_void u ≡ false → ((whole : TyId) → slice_get types.types whole.0 ≡ Some u → OwnsFor types ordered once whole (Some target)) → IsTypedBase types f st part (source.Owner o)
        owner_base o u is some owns =
            let at = operand_with o u is some in
            (at.whole, at.operand, owner_for at.whole (subst (OwnsFor types ordered once at.whole) (sym seen) (owns at.whole at.there)))

        element_base : (b : Base) → same (ty_of types target) (placed.element_of types f b) ≡ true → IsTypedBase types f st part b
        element_base (source.Owner o) e = go (type_of types f o) refl e
          where
            go : (u : Ty) → type_of types f o ≡ u → same (ty_of types target) (owned_element types u) ≡ true → IsTypedBase types f st part (source.Owner o)
            go ty.Text is h = owner_base o ty.Text is refl (λ whole here. element_owned types ordered once whole ty.Text target here h)
            go (ty.Vector of) is h = owner_base o (ty.Vector of) is refl (λ whole here. element_owned types ordered once whole (ty.Vector of) target here h)
            go _ is h = absurd (same_void (ty_of types target) h)
        element_base (source.Pointer l) e =
            let h = element_seen types ordered once (type_in types f l) target e in
            let from = pointer_of l (type_in types f l) refl h.0 in (
              from_pointer l h.0,
              subst (λ (id : Option TyId). Retargets types id (seen_type types (Some part))) (sym (ap (seen_type types) from.takes.0 ∙ ap (seen_in types) from.there))
                  (subst (Retargets types (seen_in types (Some (type_in types f l)))) (sym (ap (seen_in types) there ∙ seen)) h.1),
            )

        target_base : (b : Base) → same (ty_of types target) (placed.target_of types f b) ≡ true → IsTypedBase types f st part b
        target_base (source.Owner o) e = go (type_of types f o) refl e
          where
            go : (u : Ty) → type_of types f o ≡ u → same (ty_of types target) (owned_target types u) ≡ true → IsTypedBase types f st part (source.Owner o)
            go (ty.Unique of) is h = owner_base o (ty.Unique of) is refl (λ whole here. target_owned types ordered once whole (ty.Unique of) target here h)
            go _ is h = absurd (same_void (ty_of types target) h)
        target_base (source.Pointer l) e = absurd (same_void (ty_of types target) e)

        base_typed : (b : Base) (w : Which) → same (ty_of types target) (type_of_element types f b w) ≡ true → IsTypedBase types f st part b
        base_typed b (which.Index r) e = element_base b (same_if (is_number_of types f ty.Size r) (ty_of types target) (placed.element_of types f b) e)
        base_typed b which.First e = element_base b e
        base_typed b which.Last e = element_base b e
        base_typed b which.Target e = target_base b e

    -- ---- what is given over

    object_counts : (x : ℕ) (z : ℤ) → object_at types f x ≡ true → cell st x ≡ Some (Number z) → ⊥
    object_counts x z object e = unlike (sym (sorted x (Number z) e) ∙ ap (λ b. sort_if b (is_pointer (type_at types f x))) object)
      where
        unlike : Counts ≡ Names → ⊥
        unlike k = cc

    given_to : (id : TyId) (x : ℕ) → is_consumed types f (ty_of types id) x ≡ true → IsGivenTo types f st id x
    given_to id x e = go (is_value (ty_of types id)) refl e
      where
        typed : same (ty_of types id) (type_at types f x) ≡ true → local_type types f x ≡ Some id
        typed h =
            let of = local_of x (type_at types f x) refl (also_solid (ty_of types id) (type_at types f x) h) in
            of.is ∙ ap Some (sym (number_of_type types once id of.number (type_at types f x) h of.there))

        go : (b : Bool) → is_value (ty_of types id) ≡ b → (if b then is_number_of types f (ty_of types id) x else is_given types f (ty_of types id) x) ≡ true → IsGivenTo types f st id x
        go true value h =
            let is = (and_parts (is_value (ty_of types id)) (same (ty_of types id) (type_at types f x)) (and_parts (register_at types f x) (is_value (ty_of types id) && same (ty_of types id) (type_at types f x)) h).1).1 in (
              (λ z there. value_parts types ordered id (ty_of types id) (type_there types id (ty_of types id) refl (value_solid (ty_of types id) value)) value),
              (λ m there. typed is),
            )
        go false value h =
            let outer = and_parts (object_at types f x) _ h in
            let inner = and_parts (not (result_at types f x)) _ outer.1 in
            let last = and_parts (not (slot_at types f x)) (same (ty_of types id) (type_at types f x)) inner.1 in
            ((λ z there. absurd (object_counts x z outer.0 there)), (λ m there. typed last.1))

    -- ---- changes

    number_names : (t : Ty) (x m : ℕ) → is_number_of types f t x ≡ true → cell st x ≡ Some (Named m) → ⊥
    number_names t x m number e =
        let register = (and_parts (register_at types f x) (is_value t && same t (type_at types f x)) number).0 in
        unlike (is_pointer (type_at types f x)) (sym (ap (λ b. sort_if b (is_pointer (type_at types f x))) (register_only (slice_get f.locals x) register)) ∙ sorted x (Named m) e)
      where
        unlike : (b : Bool) → sort_if false b ≡ Names → ⊥
        unlike true k = cc
        unlike false k = cc

    text_change : (c : Change) → is_change_of types texts fs f ty.Text c ≡ true → IsTextChange types f st c
    text_change (PushBack r) e = λ m there. number_names ty.Char r m e there
    text_change _ e = tt

    vector_change : (element : TyId) (c : Change) → is_change_of types texts fs f (ty.Vector element) c ≡ true → IsVectorChange types f st element c
    vector_change element (PushBack x) e = given_to element x e
    vector_change element (Erase at into) e =
        let seen = walks_seen types ordered once (type_in types f into) (ty_of types element) (and_parts (walks types (type_in types f at) (ty_of types element)) (walks types (type_in types f into) (ty_of types element)) e).1 in
        let p = pointer_of into (type_in types f into) refl seen.pointer in (
          p.part,
          p.takes,
          one_retargets types ordered (Some element) (seen_type types (Some p.part)) (ap Some (sym (one_number types once seen.target element seen.is)) ∙ sym seen.seen ∙ ap (seen_in types) (sym p.there)),
        )
    vector_change element _ e = tt

    change_typed : (o : Operand) (c : Change) → is_change_of types texts fs f (type_of types f o) c ≡ true → (part : TyId) × IsOperandOf types f st o part × IsTypedChange types f st part c
    change_typed o c e = go (type_of types f o) refl e
      where
        go : (t : Ty) → type_of types f o ≡ t → is_change_of types texts fs f t c ≡ true → (part : TyId) × IsOperandOf types f st o part × IsTypedChange types f st part c
        go ty.Text is h =
            let at = operand_with o ty.Text is refl in
            (at.whole, at.operand, inl (characters_type types, parts_typed types ordered at.whole ty.Text at.there, text_change c h))
        go (ty.Vector element) is h =
            let at = operand_with o (ty.Vector element) is refl in
            (at.whole, at.operand, inr (element, parts_typed types ordered at.whole (ty.Vector element) at.there, vector_change element c h))
        go _ is h = absurd (false≢true h)

    -- ---- what a unique_ptr is made to own

    target_void : (t : Ty) → is_unique t ≡ false → owned_target types t ≡ ty.Void
    target_void (ty.Unique of) e = absurd (false≢true (sym e))
    target_void _ e = refl

    made_unique : (t : Ty) (m : Made) → is_unique t ≡ false → is_made_for types texts fs f t m ≡ true → ⊥
    made_unique t made.Null other e = false≢true (sym other ∙ e)
    made_unique t made.Zero other e = false≢true (sym other ∙ e)
    made_unique t (made.Of x) other e =
        let outer = and_parts (object_at types f x) _ (subst (λ (u : Ty). is_consumed types f u x ≡ true) (target_void t other) e) in
        let inner = and_parts (not (result_at types f x)) _ outer.1 in
        false≢true (and_parts (not (slot_at types f x)) false inner.1).1

    made_typed : (u : Location) (m : Made) → is_made_for types texts fs f (type_in types f u) m ≡ true
        → (part : TyId) × (id : TyId) × (location_type types f u ≡ Some part) × (parts_at types part ≡ Unique id (parts_at types id)) × IsTypedMade types f st id m
    made_typed u m e = go (type_in types f u) refl e
      where
        made_for : (id : TyId) (m : Made) → is_made_for types texts fs f (ty.Unique id) m ≡ true → IsTypedMade types f st id m
        made_for id made.Null h = tt
        made_for id made.Zero h = tt
        made_for id (made.Of x) h = given_to id x h

        go : (t : Ty) → type_in types f u ≡ t → is_made_for types texts fs f t m ≡ true → (part : TyId) × (id : TyId) × (location_type types f u ≡ Some part) × (parts_at types part ≡ Unique id (parts_at types id)) × IsTypedMade types f st id m
        go (ty.Unique of) is h = let at = location_of u (ty.Unique of) is refl in (at.number, of, at.is, parts_typed types ordered at.number (ty.Unique of) at.there, made_for of m h)
        go t is h = absurd (made_unique t m refl h)

    -- ---- a local comes to life

    live_typed : (x : ℕ) → slot_at types f x ≡ false → (l : Local) → slice_get f.locals x ≡ Some l → (local_type types f x ≡ Some l.ty) × (sort_of types f x ≡ AnObject → width_at types l.ty ≡ 1)
    live_typed x free l e = (
      ap (held_type_if types) e ∙ ap Some (no_slot types l.ty (slice_get types.types l.ty.0) (ap (is_slot_local types f) (sym e) ∙ free)),
      λ value. ap width (parts_made types ordered l.ty) ∙ value_wide types (parts_at types) (slice_get types.types l.ty.0) (value_class (class_at types l.ty) l.kind (slice_get types.types l.ty.0) (sym (ap (held_by types) e) ∙ value)),
    )

    -- ---- pointers

    source_points : (t : Ty) (s : Source) → is_source_of types texts fs f t s ≡ true → is_pointer t ≡ true
    source_points t source.Null e = raw_points t e
    source_points t (source.Text n) e = ap is_pointer (view_is t (and_parts (is_view t) _ e).0)
    source_points t source.Empty e = range_points t e
    source_points t (source.Place o) e = (aims_seen types ordered once t (type_of types f o) (and_parts (aims_at types t (type_of types f o)) (keeps_const (is_constant t) (is_const_place types f o)) e).0).pointer
    source_points t (source.Whole o) e = go t (type_of types f o) (and_parts (spans types t (type_of types f o)) (keeps_const (is_constant t) (is_const_place types f o)) e).0
      where
        go : (u v : Ty) → spans types u v ≡ true → is_pointer u ≡ true
        go (ty.Span target constant) v h = refl
        go ty.View v h = refl
        go _ v h = absurd (false≢true h)
    source_points t (source.Get l) e = (gets_seen types ordered once t (owned_target types (type_in types f l)) e).pointer

    -- ---- each instruction

    pub typed_step : (i : Step) → is_well_formed_step types texts fs f i ≡ true → IsSlotFree types f i → IsTypedStep types f st i
    typed_step (Live x form) e free = live_typed x free
    typed_step (Save o r) e free =
        let number = (and_parts (is_number_of types f (type_of types f o) r) (not (is_const_place types f o)) e).0 in
        let value = (and_parts (is_value (type_of types f o)) _ (and_parts (register_at types f r) _ number).1).0 in
        let at = operand_with o (type_of types f o) refl (value_solid (type_of types f o) value) in
        (at.whole, at.operand, value_parts types ordered at.whole (type_of types f o) at.there value)
    typed_step (Copy to from) e free =
        let alike = (and_parts (same (type_of types f to) (type_of types f from)) _ e).0 in
        let into = operand_with to (type_of types f to) refl (same_solid (type_of types f to) (type_of types f from) alike) in
        let out = operand_with from (type_of types f from) refl (also_solid (type_of types f to) (type_of types f from) alike) in (
          into.whole,
          out.whole,
          into.operand,
          out.operand,
          parts_typed types ordered out.whole (type_of types f from) out.there
              ∙ ap (λ (t : Ty). parts_of types (parts_at types) (Some t)) (sym (same_is (type_of types f to) (type_of types f from) alike))
              ∙ sym (parts_typed types ordered into.whole (type_of types f to) into.there),
        )
    typed_step (Move to y) e free =
        let outer = and_parts (is_owner (type_of types f to)) _ e in
        let alike = (and_parts (same (type_of types f to) (type_at types f y)) _ (and_parts (object_at types f y) _ outer.1).1).0 in
        let into = operand_with to (type_of types f to) refl (same_solid (type_of types f to) (type_at types f y) alike) in
        let from = local_of y (type_at types f y) refl (also_solid (type_of types f to) (type_at types f y) alike) in (
          into.whole,
          into.operand,
          from.is ∙ ap Some (one_type types once from.number into.whole (type_at types f y) from.there (into.there ∙ ap Some (same_is (type_of types f to) (type_at types f y) alike))),
          ap width (parts_typed types ordered into.whole (type_of types f to) into.there) ∙ owner_wide (type_of types f to) outer.0,
        )
      where
        owner_wide : (t : Ty) → is_owner t ≡ true → width (parts_of types (parts_at types) (Some t)) ≡ 1
        owner_wide ty.Text h = refl
        owner_wide (ty.Vector element) h = refl
        owner_wide (ty.Unique target) h = refl
        owner_wide _ h = absurd (false≢true h)
    typed_step (Aim p s) e free = let at = pointer_of p (type_in types f p) refl (source_points (type_in types f p) s e) in (at.part, at.takes, source_typed at.part (type_in types f p) at.there s e)
    typed_step (Repoint p q) e free = takes_from p q e
    typed_step (Element p b w) e free =
        let seen = aims_seen types ordered once (type_in types f p) (type_of_element types f b w) (and_parts (aims_at types (type_in types f p) (type_of_element types f b w)) (keeps_const (is_constant (type_in types f p)) (is_const_base types f b)) e).0 in
        let at = pointer_of p (type_in types f p) refl seen.pointer in
        (at.part, at.takes, base_typed at.part (type_in types f p) at.there seen.target seen.seen b w seen.is)
    typed_step (Cursor p b end) e free =
        let seen = walks_seen types ordered once (type_in types f p) (placed.element_of types f b) (and_parts (walks types (type_in types f p) (placed.element_of types f b)) (keeps_const (is_constant (type_in types f p)) (is_const_base types f b)) e).0 in
        let at = pointer_of p (type_in types f p) refl seen.pointer in
        (at.part, at.takes, element_base at.part (type_in types f p) at.there seen.target seen.seen b seen.is)
    typed_step (Advance p q r way) e free = takes_from p q (and_parts (takes types (type_in types f p) (type_in types f q)) _ (and_parts (is_iterator (type_in types f p)) _ e).1).0
    typed_step (Cut p q r count) e free = takes_from p q (and_parts (takes types (type_in types f p) (type_in types f q)) _ (and_parts (is_range (type_in types f p)) _ e).1).0
    typed_step (Changes o c) e free = change_typed o c (and_parts (is_change_of types texts fs f (type_of types f o) c) (not (is_const_place types f o)) e).0
    typed_step (Make u m) e free = made_typed u m e
    typed_step (End xs) e free = tt
    typed_step (Eval r operation) e free = tt
    typed_step (Load r o) e free = tt
    typed_step (Size r base) e free = tt
    typed_step (Same r a b equal) e free = tt
    typed_step (Call target g xs) e free = tt
    typed_step (Ports p) e free = tt
