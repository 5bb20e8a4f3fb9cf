-- What a function gives back where it is left: nothing or what its result's type takes, and what stands in each slot.
use Rattle.std.proofs.Common.{◌≡◌, ◌⊎◌, inl, inr, ⊎_elim, ℕ, ◌+◌, ◌≤◌, ◌<◌, Bool, true, false, ◌&&◌, ◌||◌, cond, List, [], ◌∷◌, ◌++◌, Option, Some, None, refl, sym, ap, subst, ◌∙◌, arith}
use Rattle.std.proofs.lemmas.Bool.{and_parts, false≢true}
use Rattle.std.proofs.lemmas.Bool.Decides.{nat_tests}
use Rattle.std.specs.Prelude.{ℤ, pos, is_none, nat_eq, nat_lt, drop, slice_get, take}
use Rattle.life_types.specs.Pointees.{or_void, ty_of}
use Rattle.life_types.specs.Trees.{IsOrdered}
use Rattle.life_types.specs.TypeTests.{is_pointer, is_value, is_void}
use Rattle.life_types.specs.Types.{Types, class, class_at}
use Rattle.life_types.specs.declared.ty.Ty.{Ty}
use Rattle.life_types.specs.declared.ty.Ty.TheVariants as ty
use Rattle.life_types.specs.declared.ty.TyId.{TyId}
use Rattle.life_core.specs.declared.program.Local.{Local}
use Rattle.life_core.specs.declared.program.LocalKind.{LocalKind}
use Rattle.life_core.specs.declared.program.LocalKind.TheVariants as kind
use Rattle.life_core.specs.Function.{Function}
use Rattle.life_core.specs.Holdings.{held_by, held_if, result_if, result_sort, sort_of}
use Rattle.life_core.specs.Kinds.{is_register}
use Rattle.life_core.specs.Ready.{AreBits}
use Rattle.life_core.specs.Touched.{result_uses}
use Rattle.life_pset.specs.Shapes.{shape_if, shape_of, ty_if}
use Rattle.life_proper.specs.OperandTypes.{is_composed}
use Rattle.life_proper.specs.Placed.{type_at}
use Rattle.life_proper.specs.WellFormed.{types_taken}
use Rattle.life_proper.specs.WellFormedPrograms.{is_result_local, is_result_of}
use Rattle.life_store.specs.Calls.{given_back, number_or_zero, results, slots_back}
use Rattle.life_store.specs.Content.{Content}
use Rattle.life_store.specs.Effects.{cell}
use Rattle.life_store.specs.Parts.{local_type}
use Rattle.life_store.specs.State.{Cell, Empty, Named, Number, Pointer, Points, State, ready_of}
use Rattle.life_store.proofs.MapLemmas.{one_or_apart}
use Rattle.life_forest.specs.FrameTypes.{IsVariable, PointsWell, seen_type}
use Rattle.life_forest.specs.Frames.{named_in}
use Rattle.life_forest.specs.Owned.{times}
use Rattle.life_forest.specs.Settled.{IsPoised}
use Rattle.life_forest.specs.Sorted.{PointerFits}
use Rattle.life_forest.specs.Typed.{IsStore}
use Rattle.life_forest.proofs.Counting.{one_apart}
use Rattle.life_forest.proofs.Following.{in_hand}
use Rattle.life_forest.proofs.Frames.{first_named, less_in_hand}
use Rattle.life_forest.proofs.GivenSlots.{dropped_first, named_parts, slot_types}
use Rattle.life_forest.proofs.HandedOver.{AreHandedTo, IsHandedTo}
use Rattle.life_forest.proofs.HeldPoints.{IsSound}
use Rattle.life_forest.proofs.ReadyCells.{composed_is_object, object_cell, pointer_cell}
use Rattle.life_forest.proofs.Shaped.{IsShaped}

-- nothing where the result is void, and else one value
abbrev pub IsResult : Types → Content → TyId → List Cell → Type 0
IsResult types c id values = ((is_void (ty_of types id) ≡ true) × (values ≡ [])) ⊎ ((v : Cell) × (values ≡ v ∷ []) × IsHandedTo types c id v)

-- what is given back: the result, and what stands in each slot
pub record IsBack (types : Types) (c : Content) (result : TyId) (slots : List TyId) (values : List Cell) : Type 0 where
  pub first : List Cell
  pub others : List Cell
  pub are : values ≡ first ++ others
  pub given : IsResult types c result first
  pub suit : AreHandedTo types c slots others

-- ---- what comes of each sort

kept_number : (o : Option Cell) → (z : ℤ) × (number_or_zero o ≡ Number z)
kept_number (Some (Number z)) = (z, refl)
kept_number None = (pos 0, refl)
kept_number (Some Empty) = (pos 0, refl)
kept_number (Some (Named n)) = (pos 0, refl)
kept_number (Some (Points p)) = (pos 0, refl)

pointer_back_is : (t : Ty) (k : LocalKind) (p : Pointer) → is_pointer t ≡ true → given_back (Some t) (result_if (Some t) (held_if (class (Some t)) k (Some t))) (Some (Points p)) ≡ Points p ∷ []
pointer_back_is (ty.Raw target constant) k p e = refl
pointer_back_is (ty.Reference target constant) k p e = refl
pointer_back_is ty.View k p e = refl
pointer_back_is (ty.Iterator target constant) k p e = refl
pointer_back_is (ty.Span target constant) k p e = refl
pointer_back_is _ k p e = absurd (false≢true e)

object_back_is : (t : Ty) (k : LocalKind) (n : ℕ) → is_composed t ≡ true → given_back (Some t) (result_if (Some t) (held_if (class (Some t)) k (Some t))) (Some (Named n)) ≡ Named n ∷ []
object_back_is ty.Text k n e = refl
object_back_is (ty.Vector element) k n e = refl
object_back_is (ty.Unique target) k n e = refl
object_back_is (ty.Struct number) k n e = refl
object_back_is _ k n e = absurd (false≢true e)

number_back_is : (t : Ty) (k : LocalKind) (o : Option Cell) → is_value t ≡ true → (is_register k || is_composed t) ≡ true → given_back (Some t) (result_if (Some t) (held_if (class (Some t)) k (Some t))) o ≡ number_or_zero o ∷ []
number_back_is ty.Bool kind.Register o e h = refl
number_back_is ty.Char kind.Register o e h = refl
number_back_is ty.Int kind.Register o e h = refl
number_back_is ty.Long kind.Register o e h = refl
number_back_is ty.Size kind.Register o e h = refl
number_back_is ty.Bool _ o e h = absurd (false≢true h)
number_back_is ty.Char _ o e h = absurd (false≢true h)
number_back_is ty.Int _ o e h = absurd (false≢true h)
number_back_is ty.Long _ o e h = absurd (false≢true h)
number_back_is ty.Size _ o e h = absurd (false≢true h)
number_back_is _ k o e h = absurd (false≢true e)

-- a type is void, a value, a pointer, or an owner or a struct
kinds_of_type : (t : Ty) → (is_void t ≡ true) ⊎ ((is_value t ≡ true) ⊎ ((is_pointer t ≡ true) ⊎ (is_composed t ≡ true)))
kinds_of_type ty.Void = inl refl
kinds_of_type ty.Bool = inr (inl refl)
kinds_of_type ty.Char = inr (inl refl)
kinds_of_type ty.Int = inr (inl refl)
kinds_of_type ty.Long = inr (inl refl)
kinds_of_type ty.Size = inr (inl refl)
kinds_of_type ty.Text = inr (inr (inr refl))
kinds_of_type (ty.Vector element) = inr (inr (inr refl))
kinds_of_type (ty.Unique target) = inr (inr (inr refl))
kinds_of_type (ty.Struct number) = inr (inr (inr refl))
kinds_of_type ty.View = inr (inr (inl refl))
kinds_of_type (ty.Raw target constant) = inr (inr (inl refl))
kinds_of_type (ty.Reference target constant) = inr (inr (inl refl))
kinds_of_type (ty.Iterator target constant) = inr (inr (inl refl))
kinds_of_type (ty.Span target constant) = inr (inr (inl refl))

pointer_uses : (t : Ty) (x : ℕ) → is_pointer t ≡ true → result_uses (class (Some t)) x ≡ x ∷ []
pointer_uses (ty.Raw target constant) x e = refl
pointer_uses (ty.Reference target constant) x e = refl
pointer_uses ty.View x e = refl
pointer_uses (ty.Iterator target constant) x e = refl
pointer_uses (ty.Span target constant) x e = refl
pointer_uses _ x e = absurd (false≢true e)

-- what a pointer or an object is has to be there where the function is left; a value that isn't is 0
object_uses : (t : Ty) (x : ℕ) → is_composed t ≡ true → result_uses (class (Some t)) x ≡ x ∷ []
object_uses ty.Text x e = refl
object_uses (ty.Vector element) x e = refl
object_uses (ty.Unique target) x e = refl
object_uses (ty.Struct number) x e = refl
object_uses _ x e = absurd (false≢true e)

-- ---- the values are in the hand

named_once : (cells : List Cell) (x n k : ℕ) → slice_get cells x ≡ Some (Named n) → times (n ∷ []) k ≤ times (named_in cells) k
named_once cells x n k e = one_or_apart n k
    (λ same. let i = subst (λ j. 0 < times (named_in cells) j) same (in_hand cells x n e) in let a = one_most n k in omega (arith, i, a))
    (λ apart. let z = one_apart n k apart in omega (arith, z))
  where
    one_most : (n k : ℕ) → times (n ∷ []) k ≤ 1
    one_most n k = go (nat_eq n k)
      where
        go : (b : Bool) → cond b 1 0 + 0 ≤ 1
        go true = omega arith
        go false = omega arith

module _ (types : Types) (ordered : IsOrdered types) (f : Function) (shaped : IsShaped types f) (rest : ℕ → ℕ) (st : State) (sound : IsSound types f rest st) (at_point : IsPoised types f st)
    (others : List Cell) (slots : slots_back types f 0 f.parameters st ≡ others) (suits : AreHandedTo types st.world.content (slot_types types (types_taken f)) others) (under : (k : ℕ) → times (named_in others) k ≤ times (named_in (take f.parameters st.cells)) k)
    (formed_result : is_result_of types f.result (slice_get types.types f.result.0) (slice_get f.locals f.parameters) ≡ true) (ready : AreBits true (ready_of st) (result_uses (class_at types f.result) f.parameters)) where
  pub record IsGiven : Type 0 where
    pub back : IsBack types st.world.content f.result (slot_types types (types_taken f)) (results types f st)
    pub store : IsStore types (λ k. times (named_in (results types f st)) k + rest k) st.world.content

  -- one value, which is in the hand
  one_given : (v : Cell) → results types f st ≡ v ∷ others → IsHandedTo types st.world.content f.result v → ((k : ℕ) → times (named_in (v ∷ [])) k ≤ times (named_in (drop f.parameters st.cells)) k) → IsGiven
  one_given v is well le = record {
    back = record { first = v ∷ []; others = others; are = is; given = inr (v, refl, well); suit = suits };
    store = less_in_hand types (λ k. times (named_in st.cells) k + rest k) (λ k. times (named_in (results types f st)) k + rest k) st.world.content
        (λ k. let a = ap (λ (vs : List Cell). times (named_in vs) k) is in let b = first_named v others k in let n = under k in let l = le k in let t = named_parts f.parameters st.cells k in omega (arith, a, b, n, l, t)) sound.stands.store;
  }

  module _ (t : Ty) (there : slice_get types.types f.result.0 ≡ Some t) (l : Local) (local : slice_get f.locals f.parameters ≡ Some l) (same : l.ty ≡ f.result) where
    typed : local_type types f f.parameters ≡ Some f.result
    typed =
        sym (shaped f.parameters)
        ∙ ap (shape_of types f.parameters f.parameters) local
        ∙ ap (λ (b : Bool). Some (shape_if types b l.ty)) (itself f.parameters)
        ∙ ap Some same
      where
        itself : (n : ℕ) → nat_lt n n ≡ false
        itself n = grind (arith, nat_tests)

    own : type_at types f f.parameters ≡ t
    own = ap (ty_if types) (shaped f.parameters ∙ typed) ∙ ap or_void there

    -- the result, by its type
    are : (vs : List Cell) → given_back (Some t) (result_if (Some t) (held_if (class (Some t)) l.kind (Some t))) (cell st f.parameters) ≡ vs → results types f st ≡ vs ++ others
    are vs e =
        ap (λ (ws : List Cell). given_back (slice_get types.types f.result.0) (result_sort types f) (cell st f.parameters) ++ ws) slots
        ∙ ap (λ (ws : List Cell). ws ++ others)
        (ap (λ (o : Option Ty). given_back o (result_if o (held_by types (slice_get f.locals f.parameters))) (cell st f.parameters)) there
        ∙ ap (λ (o : Option Local). given_back (Some t) (result_if (Some t) (held_by types o)) (cell st f.parameters)) local
        ∙ ap (λ (o : Option Ty). given_back (Some t) (result_if (Some t) (held_if (class o) l.kind o)) (cell st f.parameters)) (ap (λ (id : TyId). slice_get types.types id.0) same ∙ there)
        ∙ e)

    uses : AreBits true (ready_of st) (result_uses (class (Some t)) f.parameters)
    uses = subst (λ (o : Option Ty). AreBits true (ready_of st) (result_uses (class o) f.parameters)) there ready

    result_type : ty_of types f.result ≡ t
    result_type = ap or_void there

    number_given : is_value t ≡ true → (is_register l.kind || is_composed t) ≡ true → IsGiven
    number_given value kept =
        let z = kept_number (cell st f.parameters) in
        one_given (Number z.0) (are (Number z.0 ∷ []) (number_back_is t l.kind (cell st f.parameters) value kept ∙ ap (λ v. v ∷ []) z.1)) (ap is_value result_type ∙ value) (λ k. omega arith)

    pointer_given : is_pointer t ≡ true → IsGiven
    pointer_given pointer =
        let p = pointer_cell types f st at_point f.parameters (ap is_pointer own ∙ pointer) (subst (AreBits true (ready_of st)) (pointer_uses t f.parameters pointer) uses).0 in
        one_given (Points p.0)
        (are (Points p.0 ∷ []) (ap (given_back (Some t) (result_if (Some t) (held_if (class (Some t)) l.kind (Some t)))) p.1 ∙ pointer_back_is t l.kind p.0 pointer)) (
          ap is_pointer result_type ∙ pointer,
          subst (λ (id : Option TyId). PointsWell types st.world.content (seen_type types id) p.0) typed (sound.stands.frame.pointers f.parameters p.0 p.1),
          subst (λ (u : Ty). PointerFits u p.0) (own ∙ sym result_type) (sound.sorted f.parameters (Points p.0) p.1).1,
        )
        (λ k. omega arith)

    object_given : is_composed t ≡ true → IsGiven
    object_given composed =
        let n = object_cell types f st at_point f.parameters (composed_is_object types f at_point.kinds f.parameters (ap is_composed own ∙ composed)) (subst (AreBits true (ready_of st)) (object_uses t f.parameters composed) uses).0 in
        one_given (Named n.0)
        (are (Named n.0 ∷ []) (ap (given_back (Some t) (result_if (Some t) (held_if (class (Some t)) l.kind (Some t)))) n.1 ∙ object_back_is t l.kind n.0 composed)) (
          subst (λ (id : Option TyId). IsVariable st.world.content id n.0) typed (sound.stands.frame.objects f.parameters n.0 n.1),
          sound.held f.parameters n.0 f.result n.1 typed,
          ap is_composed result_type ∙ composed,
        )
        (λ k. named_once (drop f.parameters st.cells) 0 n.0 k (dropped_first f.parameters st.cells ∙ n.1))

    by_kind : (is_register l.kind || is_composed t) ≡ true → (is_value t ≡ true) ⊎ ((is_pointer t ≡ true) ⊎ (is_composed t ≡ true)) → IsGiven
    by_kind kept (inl value) = number_given value kept
    by_kind kept (inr (inl pointer)) = pointer_given pointer
    by_kind kept (inr (inr composed)) = object_given composed

  void_given : slice_get types.types f.result.0 ≡ Some ty.Void → IsGiven
  void_given there =
      let none : results types f st ≡ others =
      ap (λ (ws : List Cell). given_back (slice_get types.types f.result.0) (result_sort types f) (cell st f.parameters) ++ ws) slots
      ∙ ap (λ (o : Option Ty). given_back o (result_if o (sort_of types f f.parameters)) (cell st f.parameters) ++ others) there in
      record {
        back = record { first = []; others = others; are = none; given = inl (ap is_void (ap or_void there), refl); suit = suits };
        store = less_in_hand types (λ k. times (named_in st.cells) k + rest k) (λ k. times (named_in (results types f st)) k + rest k) st.world.content (λ k. let a = ap (λ (vs : List Cell). times (named_in vs) k) none in let n = under k in let t = named_parts f.parameters st.cells k in omega (arith, a, n, t)) sound.stands.store;
      }

  pub results_given : IsGiven
  results_given = go (slice_get types.types f.result.0) refl (slice_get f.locals f.parameters) refl formed_result
    where
      of_local : (t : Ty) → slice_get types.types f.result.0 ≡ Some t → is_void t ≡ false → (o : Option Local) → slice_get f.locals f.parameters ≡ o → is_result_local types f.result o ≡ true → IsGiven
      of_local t there solid None local e = absurd (false≢true e)
      of_local t there solid (Some l) local e =
          let outer = and_parts (nat_eq l.ty.0 f.result.0) (is_none l.name && (is_register l.kind || is_composed (ty_of types f.result))) e in
          let inner = and_parts (is_none l.name) (is_register l.kind || is_composed (ty_of types f.result)) outer.1 in
          let same : l.ty ≡ f.result = one_id l.ty f.result outer.0 in
          by_kind t there l local same (subst (λ (u : Ty). (is_register l.kind || is_composed u) ≡ true) (ap or_void there) inner.1)
          (⊎_elim (λ void. absurd (false≢true (sym solid ∙ void))) (λ h. h) (kinds_of_type t))
        where
          one_id : (a b : TyId) → nat_eq a.0 b.0 ≡ true → a ≡ b
          one_id a b h = let e : a.0 ≡ b.0 = grind (arith, nat_tests) in ap (λ n. record { 0 = n }) e

      go : (o : Option Ty) → slice_get types.types f.result.0 ≡ o → (l : Option Local) → slice_get f.locals f.parameters ≡ l → is_result_of types f.result o l ≡ true → IsGiven
      go None there l local e = absurd (false≢true e)
      go (Some ty.Void) there l local e = void_given there
      go (Some ty.Bool) there l local e = of_local ty.Bool there refl l local e
      go (Some ty.Char) there l local e = of_local ty.Char there refl l local e
      go (Some ty.Int) there l local e = of_local ty.Int there refl l local e
      go (Some ty.Long) there l local e = of_local ty.Long there refl l local e
      go (Some ty.Size) there l local e = of_local ty.Size there refl l local e
      go (Some ty.Text) there l local e = of_local ty.Text there refl l local e
      go (Some (ty.Vector element)) there l local e = of_local (ty.Vector element) there refl l local e
      go (Some (ty.Unique target)) there l local e = of_local (ty.Unique target) there refl l local e
      go (Some (ty.Struct number)) there l local e = of_local (ty.Struct number) there refl l local e
      go (Some ty.View) there l local e = of_local ty.View there refl l local e
      go (Some (ty.Raw target constant)) there l local e = of_local (ty.Raw target constant) there refl l local e
      go (Some (ty.Reference target constant)) there l local e = of_local (ty.Reference target constant) there refl l local e
      go (Some (ty.Iterator target constant)) there l local e = of_local (ty.Iterator target constant) there refl l local e
      go (Some (ty.Span target constant)) there l local e = of_local (ty.Span target constant) there refl l local e
