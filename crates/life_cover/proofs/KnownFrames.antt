-- What is known of a frame before an instruction, and of the instruction; and what its operands are.
use Rattle.std.proofs.Common.{◌≡◌, ℕ, ◌+◌, Bool, true, false, List, [], ◌∷◌, ◌++◌, Option, Some, None, refl, sym, ap, subst, ◌∙◌}
use Rattle.std.specs.Prelude.{ℤ, Contains, cond, not, slice_get}
use Rattle.std.specs.List.{flat_map}
use Rattle.std.proofs.lemmas.Bool.{and_parts, false≢true}
use Rattle.std.proofs.lemmas.List.Elements.{Contains-append_left}
use Rattle.life_types.specs.Pointees.{pointee}
use Rattle.life_types.specs.Trees.{IsOrdered}
use Rattle.life_types.specs.TypeTests.{is_pointer, is_unique, is_value, is_void}
use Rattle.life_types.specs.Types.{HasEachOnce, Types}
use Rattle.life_types.specs.declared.place.Place.{Place}
use Rattle.life_types.specs.declared.ty.Ty.{Ty}
use Rattle.life_types.specs.declared.ty.Ty.TheVariants as ty
use Rattle.life_types.specs.declared.ty.TyId.{TyId}
use Rattle.life_core.specs.Function.{Function}
use Rattle.life_core.specs.Operands.{Location, Operand}
use Rattle.life_core.specs.Operands as named
use Rattle.life_core.specs.Step.{Step}
use Rattle.life_pset.specs.Elements.{AreShort, elements_of}
use Rattle.life_pset.specs.Shapes.{has_buffer, member_of, members_type, operand_type, ty_if}
use Rattle.life_pset.specs.Table.{IsOf, table_of}
use Rattle.life_pset.specs.declared.element.Element.{Element}
use Rattle.life_pset.specs.declared.element.Element.TheVariants as element
use Rattle.life_pset.specs.declared.element.Fact.{Fact}
use Rattle.life_pset.proofs.Numbers.{place_laws}
use Rattle.life_pset.specs.declared.element.Root.{Root}
use Rattle.life_contract.specs.Located.{located}
use Rattle.life_contract.specs.Signatures.{Signature}
use Rattle.life_proper.specs.GivenOver.{given_step}
use Rattle.life_proper.specs.OperandTypes.{is_range}
use Rattle.life_proper.specs.Placed.{is_number, is_place, object_at, register_at, type_at, type_in, type_of}
use Rattle.life_rules.specs.Arguing.{argument_diags}
use Rattle.life_rules.specs.Diagnosing.{misopened_as, misread_as, misused, misused_as, moved_as, opens, owners, reads, use_diags, used_in, uses}
use Rattle.life_rules.specs.Keeping.{keeping_diags}
use Rattle.life_rules.specs.Matching.{fact_at}
use Rattle.life_rules.specs.declared.diag.Diag.{Diag}
use Rattle.life_rules.specs.declared.diag.DiagKind.{DiagKind}
use Rattle.life_rules.specs.declared.diag.DiagKind.TheVariants.{DanglingUse, NullUse}
use Rattle.life_rules.specs.declared.diag.Why.{Why}
use Rattle.life_rules.specs.declared.diag.Why.TheVariants as why
use Rattle.life_rules.proofs.Giving.{at_head, flat_map_into}
use Rattle.life_store.specs.Effects.{cell}
use Rattle.life_store.specs.Parts.{location_type, operand_type as meant_type}
use Rattle.life_store.specs.Places.{location_cell}
use Rattle.life_store.specs.State.{Named, Number, State}
use Rattle.life_forest.proofs.CopiedTypes.{LocalsStand}
use Rattle.life_forest.specs.FrameTypes.{Stands}
use Rattle.life_forest.specs.Frames.{named_in}
use Rattle.life_forest.specs.Owned.{times}
use Rattle.life_forest.specs.Settled.{IsPoised}
use Rattle.life_forest.specs.Sorted.{Aims, Counts, Names, sort_if}
use Rattle.life_forest.specs.Typed.{IsStore}
use Rattle.life_forest.proofs.ReadyCells.{pointer_no_object}
use Rattle.life_forest.proofs.SeenTypes.{pointee_points}
use Rattle.life_forest.proofs.Shaped.{IsShaped}
use Rattle.life_forest.proofs.Slots.{register_only}
use Rattle.life_forest.proofs.TypedSteps.{PointersAim, if_there, operand_same}
use Rattle.life_cover.specs.Buffered.{AreBut}
use Rattle.life_cover.specs.Frames.{FrameCovered, RootStands}
use Rattle.life_cover.specs.Inputs.{AreGiven, StandsAt, frame_foot, may_change, owning}
use Rattle.life_cover.specs.Kills.{Closed, IsUnnamed}
use Rattle.life_cover.specs.Uniques.{UniquesTold}
use Rattle.life_cover.specs.Lacking.{IsUnmoved, MayLack}
use Rattle.life_cover.specs.Regions.{Region}
use Rattle.life_cover.specs.Roots.{AreRooted}
use Rattle.life_cover.proofs.Inputs.{frame_rooted}
use Rattle.life_cover.proofs.Making.{fact_path}
use Rattle.life_cover.proofs.MemberReach.{named_further, through_further}
use Rattle.life_cover.proofs.MemberWords.{is_pointing}
use Rattle.life_cover.proofs.PointerKinds.{IsClean, IsCleanOfTwo}
use Rattle.life_cover.proofs.Reaching.{Reach, named_reach, through_reach, unranged_target}
use Rattle.life_cover.proofs.Using.{NotInvalid}

-- the types of its locals may stand, the frame stands, each cell is of its local's sort, its inputs stand apart, the facts
-- cover its pointers, and each vector and each string has its buffer, but for locals that facts say were moved from, and
-- what other frames name
pub record IsKnownFrame (types : Types) (f : Function) (rest : ℕ → ℕ) (inputs : Root → Option Region) (S : Fact → Type 0) (st : State) : Type 0 where
  pub ordered : IsOrdered types
  pub once : HasEachOnce types
  pub shaped : IsShaped types f
  pub stand : LocalsStand types ordered f
  pub short : AreShort (elements_of types f)
  pub stands : Stands types f rest st
  pub poised : IsPoised types f st
  pub aims : PointersAim types f st
  pub given : AreGiven types f inputs (frame_foot types f inputs st.cells) st.world.content
  pub covered : FrameCovered types f inputs S st
  pub buffered : AreBut types (MayLack types f inputs S st) st.world.content
  pub told : UniquesTold types f S st

-- nothing is wrong at the instruction, no fact points into an object that it gives over, or says that it was moved from, and the facts behind it are
-- what the rules give
pub record IsRight (sigs : List Signature) (types : Types) (n : ℕ) (f : Function) (place : Place) (i : Step) (S S' : Fact → Type 0) : Type 0 where
  pub clean : IsClean sigs types n f place i S
  pub clean_of_two : IsCleanOfTwo sigs types n f place i S
  pub given : (x : ℕ) → object_at types f x ≡ true → Contains (given_step i) x → IsUnnamed S x
  pub unmoved : (x : ℕ) → has_buffer (type_at types f x) ≡ true → Contains (given_step i) x → IsUnmoved S x
  pub closed : Closed sigs types f place i S S'

-- ---- nothing is wrong with what it uses

-- a pointer through which it goes may be neither invalid nor null
pub record IsUsable (S : Fact → Type 0) (p : Location) : Type 0 where
  pub valid : NotInvalid S (located p)
  pub some : S (fact_at (located p) element.Null) → ⊥

pub used_right : (sigs : List Signature) (types : Types) (n : ℕ) (f : Function) (place : Place) (i : Step) (S : Fact → Type 0) → IsClean sigs types n f place i S → (p : Location) → Contains (uses i) p → IsUsable S p
used_right sigs types n f place i S clean p used = record { valid = λ cause s. wrong (element.Invalid cause) (diag DanglingUse (why.Cause cause)) (at_head (diag DanglingUse (why.Cause cause)) []) s; some = λ s. wrong element.Null (diag NullUse why.Null) (at_head (diag NullUse why.Null) []) s }
  where
    diag : DiagKind → Why → Diag
    diag kind w = record { function = n; place = place; kind = kind; name = located p; called = None; why = w }

    wrong : (e : Element) (d : Diag) → Contains (misused n place (located p) e) d → S (fact_at (located p) e) → ⊥
    wrong e d told s =
        clean x s d
        (Contains-append_left (use_diags types n f place i x) (argument_diags sigs types n place i x ++ keeping_diags sigs types n f place i x) d
        (Contains-append_left (flat_map (misused_as n place x) (uses i)) (flat_map (misread_as n place x) (reads i) ++ (flat_map (misopened_as n place x) (opens i) ++ flat_map (moved_as types n f place x) (owners i))) d
        (flat_map_into (misused_as n place x) (uses i) p d used
        (subst (λ b. Contains (cond b (misused n place (located p) e) []) d) (sym (place_laws.refl (located p))) told))))
      where
        x : Fact
        x = fact_at (located p) e

-- ---- what is no struct has no members

module _ (types : Types) (is_sort : Ty → Bool) (unstructured : (number : ℕ) → is_sort (ty.Struct number) ≡ false) where
  void_members : (ms : List ℕ) → members_type types None ms ≡ None
  void_members [] = refl
  void_members (m ∷ ms) = void_members ms

  sort_memberless : (id : Option TyId) (ms : List ℕ) → is_sort (ty_if types id) ≡ true → is_void (ty_if types (members_type types id ms)) ≡ false → ms ≡ []
  sort_memberless id [] sort solid = refl
  sort_memberless id (m ∷ ms) sort solid = absurd (false≢true (sym solid ∙ ap (λ (i : Option TyId). is_void (ty_if types i)) (ap (λ (i : Option TyId). members_type types i ms) (none (ty_if types id) sort) ∙ void_members ms)))
    where
      none : (t : Ty) → is_sort t ≡ true → member_of types t m ≡ None
      none (ty.Struct number) e = absurd (false≢true (sym (unstructured number) ∙ e))
      none _ e = refl

pub memberless : (types : Types) (id : Option TyId) (ms : List ℕ) → is_unique (ty_if types id) ≡ true → is_void (ty_if types (members_type types id ms)) ≡ false → ms ≡ []
memberless types = sort_memberless types is_unique (λ number. refl)

pub buffer_memberless : (types : Types) (id : Option TyId) (ms : List ℕ) → has_buffer (ty_if types id) ≡ true → is_void (ty_if types (members_type types id ms)) ≡ false → ms ≡ []
buffer_memberless types = sort_memberless types has_buffer (λ number. refl)

-- what names an object is a local that is one
names_sort : (object pointer : Bool) → sort_if object pointer ≡ Names → object ≡ true
names_sort true pointer e = refl
names_sort false true e = absurd (unlike e)
  where
    unlike : Aims ≡ Names → ⊥
    unlike h = cc
names_sort false false e = absurd (unlike e)
  where
    unlike : Counts ≡ Names → ⊥
    unlike h = cc

pub names_object : (types : Types) (f : Function) (st : State) → IsPoised types f st → (x m : ℕ) → slice_get st.cells x ≡ Some (Named m) → object_at types f x ≡ true
names_object types f st poised x m e = names_sort (object_at types f x) (is_pointer (type_at types f x)) (poised.sorted x (Named m) e)

-- what is in the hand: what the cells name, and the rest
abbrev pub hand_of : (rest : ℕ → ℕ) → State → ℕ → ℕ
hand_of rest st m = times (named_in st.cells) m + rest m

module _ (types : Types) (f : Function) (rest : ℕ → ℕ) (inputs : Root → Option Region) (S : Fact → Type 0) (st : State) (k : IsKnownFrame types f rest inputs S st) where
  pub store_of : IsStore types (hand_of rest st) st.world.content
  store_of = k.stands.store

  pub rooted_of : AreRooted types st.world.content (RootStands types f (StandsAt inputs) st.cells) (owning types f)
  rooted_of = frame_rooted types f rest inputs st k.stands.store k.stands.frame k.given k.ordered

  -- ---- what names an object

  pub object_named : (x m : ℕ) → slice_get st.cells x ≡ Some (Named m) → object_at types f x ≡ true
  object_named = names_object types f st k.poised

  pub object_uncounted : (x : ℕ) (z : ℤ) → object_at types f x ≡ true → slice_get st.cells x ≡ Some (Number z) → ⊥
  object_uncounted x z object e = unlike (sym (k.poised.sorted x (Number z) e) ∙ ap (λ b. sort_if b (is_pointer (type_at types f x))) object)
    where
      unlike : Counts ≡ Names → ⊥
      unlike h = cc

  pub pointer_free : (p : ℕ) → is_pointer (type_at types f p) ≡ true → (m : ℕ) → cell st p ≡ Some (Named m) → ⊥
  pointer_free p is m e = false≢true (sym (pointer_no_object types f k.poised.kinds p is) ∙ object_named p m e)

  pub number_free : (r : ℕ) → is_number types f r ≡ true → (m : ℕ) → cell st r ≡ Some (Named m) → ⊥
  number_free r is m e = false≢true (sym (register_only (slice_get f.locals r) (and_parts (register_at types f r) (is_value (type_at types f r)) is).0) ∙ object_named r m e)

  -- ---- what an operand is

  module _ (o : Operand) (solid : is_void (type_of types f o) ≡ false) where
    pub placed : is_place types f o ≡ true
    placed = (if_there (is_place types f o) (ty_if types (operand_type types f o)) (type_of types f o) refl solid).0

    pub typed : ty_if types (operand_type types f o) ≡ type_of types f o
    typed = (if_there (is_place types f o) (ty_if types (operand_type types f o)) (type_of types f o) refl solid).1

  pub solid_type : (o : Operand) (solid : is_void (type_of types f o) ≡ false) → is_void (ty_if types (operand_type types f o)) ≡ false
  solid_type o solid = ap is_void (typed o solid) ∙ solid

  -- a pointer through which one goes sees no range
  single_pointee : (t : Ty) → is_void (pointee types t) ≡ false → is_range t ≡ false
  single_pointee (ty.Span target constant) e = absurd (false≢true (sym e))
  single_pointee ty.View e = absurd (false≢true (sym e))
  single_pointee _ e = refl

  -- the meaning has the type as well
  meant : (o : Operand) → is_void (type_of types f o) ≡ false → is_void (ty_if types (meant_type types f o)) ≡ false
  meant o solid = ap (λ (id : Option TyId). is_void (ty_if types id)) (sym (operand_same types k.ordered k.once 0 [] f k.shaped o)) ∙ solid_type o solid

  not_false : (b : Bool) → not b ≡ true → b ≡ false
  not_false true e = absurd (false≢true e)
  not_false false e = refl

  abbrev Comes : Operand → Type 0
  Comes o = Reach types f st (StandsAt inputs) (may_change types f) S o

  pub reach_at : ((x : Fact) → S x → IsOf (table_of types f) x) → (o : Operand) → is_void (type_of types f o) ≡ false → ((p : Location) → Contains (used_in o) p → IsUsable S p) → Comes o
  reach_at of (named.Name l) solid usable =
      named_further types k.ordered f k.shaped k.short st (λ x n e. object_named x n e) inputs k.given.each S l (meant (named.Name l) solid)
      (named_reach types f st (StandsAt inputs) (may_change types f) S k.stands.frame l.local refl (cell st l.local) refl)
  reach_at of (named.Through p ms) solid usable =
      through_further types k.ordered f k.shaped k.short st (λ x n e. object_named x n e) inputs k.given.each S p ms (meant (named.Through p ms) solid)
      (through_reach types f st (StandsAt inputs) (may_change types f) S k.stands.frame k.covered p pointer (usable p (at_head p [])).valid (usable p (at_head p [])).some single
      (unranged_target types (location_type types f p) (subst (λ (id : Option TyId). is_range (ty_if types id) ≡ false) (operand_same types k.ordered k.once 0 [] f k.shaped (named.Name p)) single))
      (λ v held. let is = is_pointing types k.ordered k.once f k.shaped p pointer in k.aims p is.part is.typed is.points v held)
      (λ a s. fact_path types k.ordered f k.shaped k.short st.world.content st.cells (λ y n named. object_named y n named) inputs k.given.each (located p) a (of (fact_at (located p) (element.At a)) s)) (location_cell types f p st) refl)
    where
      pointer : is_pointer (type_in types f p) ≡ true
      pointer = pointee_points types (type_in types f p) (placed (named.Through p ms) solid)

      single : is_range (type_in types f p) ≡ false
      single = single_pointee (type_in types f p) (not_false (is_void (pointee types (type_in types f p))) (placed (named.Through p ms) solid))
