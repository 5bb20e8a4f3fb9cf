-- The kinds of instructions that give a register a number, or write one out, of a whole frame: there is no fault, and the facts behind them
-- cover all pointers.
use Rattle.std.proofs.Common.{◌≡◌, ⊎_elim, ℕ, Bool, true, false, List, [], ◌∷◌, Option, Some, None, refl, sym, ap, subst, ◌∙◌}
use Rattle.std.specs.Prelude.{ℤ, pos, Ok, Err, cond, nat_eq, nat_lt, slice_get, slice_set}
use Rattle.std.proofs.lemmas.Bool.{false≢true}
use Rattle.life_types.specs.TypeTests.{is_pointer, is_void}
use Rattle.life_types.specs.Types.{Types}
use Rattle.life_types.specs.declared.place.Place.{Place}
use Rattle.life_types.specs.declared.ty.Ty.{Ty}
use Rattle.life_types.specs.declared.ty.Ty.TheVariants as ty
use Rattle.life_types.specs.declared.ty.TyId.{TyId}
use Rattle.life_core.specs.declared.operation.Operation.{Operation}
use Rattle.life_core.specs.declared.operation.Operation.TheVariants as operation
use Rattle.life_core.specs.Function.{Function}
use Rattle.life_core.specs.Operands.{Location, Operand}
use Rattle.life_core.specs.Operands as named
use Rattle.life_core.specs.Step.{Eval, Load, Port, Ports, Same, Size, Step, Takes, Writes, WritesView}
use Rattle.life_pset.specs.declared.element.AbsPlace.{AbsPlace}
use Rattle.life_pset.specs.declared.element.Element.{Element}
use Rattle.life_pset.specs.declared.element.Fact.{Fact}
use Rattle.life_pset.specs.declared.element.Root.{Root}
use Rattle.life_contract.specs.Located.{located}
use Rattle.life_contract.specs.Signatures.{Signature}
use Rattle.life_proper.specs.OperandTypes.{are_compared, is_range}
use Rattle.life_proper.specs.Placed.{is_number, type_in, type_of}
use Rattle.life_rules.specs.Carrying.{is_gone, writes}
use Rattle.life_rules.proofs.Giving.{at_head, in_tail}
use Rattle.life_store.specs.Content.{word_at}
use Rattle.life_store.specs.Doing.{compared, computed_into, does, evaluated, input_taken, number_text, on_character, told, with_output}
use Rattle.life_store.specs.Effects.{Attempt, Got, GotTrap, GotFault, GotLost, Effect, Next, Traps, Setting, cell, converted, number_in_word, on_number, put_cell, then_get, type_of as number_type}
use Rattle.life_store.specs.Iterators.{is_one_object, iterator, same_position, standing, start_of}
use Rattle.life_store.specs.Numbers.{Computed, combined, is_zero, negated, truth}
use Rattle.life_store.specs.Parts.{Iterates, Parts, Views, location_parts, parts_if}
use Rattle.life_store.specs.Places.{location_cell, operand_word}
use Rattle.life_store.specs.State.{Characters, Pointer, Cell, Empty, Named, Number, Points, State}
use Rattle.life_store.specs.Views.{are_same, seen_bytes, seen_count, text_size, usable, used}
use Rattle.life_store.specs.declared.run.TrapKind.TheVariants as trap
use Rattle.life_forest.specs.Kinds.{kinds_of}
use Rattle.life_forest.proofs.SeenTypes.{parts_typed}
use Rattle.life_forest.proofs.Steps.{touches_self}
use Rattle.life_forest.proofs.TypedSteps.{location_of}
use Rattle.life_cover.specs.Frames.{FrameCovered, RootStands, look_in}
use Rattle.life_cover.proofs.HeldCells.{put_held}
use Rattle.life_cover.proofs.KnownFrames.{IsKnownFrame, IsRight, hand_of, number_free, reach_at, rooted_of, store_of, used_right}
use Rattle.life_cover.proofs.Looks.{compared_ranged}
use Rattle.life_cover.proofs.OwnerKinds.{number_right}
use Rattle.life_cover.proofs.PointerKinds.{read_right}
use Rattle.life_cover.proofs.Pointers.{IfRight, OnRight, right_then}
use Rattle.life_cover.proofs.Putting.{covered_more, roots_stay}
use Rattle.life_cover.proofs.Reaching.{on_place_right}
use Rattle.life_cover.proofs.Unkilled.{no_foot, unkilled_cover}
use Rattle.life_cover.proofs.Using.{Faultless, NotInvalid, standing_right, usable_right}
use Rattle.life_cover.proofs.Walks.{then_right}
use Rattle.life_cover.specs.Inputs.{may_change, StandsAt}
use Rattle.life_cover.specs.Regions.{Region}

pub if_right : (b : Bool) (x y : Effect) (Q : State → Type 0) → OnRight x Q → OnRight y Q → OnRight (cond b x y) Q
if_right true x y Q h k = h
if_right false x y Q h k = k

pub character_right : (texts : List (List ℕ)) (c : Characters) (go : ℤ → Effect) (Q : State → Type 0) → ((z : ℤ) → OnRight (go z) Q) → OnRight (on_character texts c go) Q
character_right texts c go Q each = if_right (nat_lt c.index (text_size texts c)) _ (Traps trap.Bounds) Q (each _) tt

pub right_of : {A : Type 0} (x : Attempt A) → Faultless x → IfRight x (λ a. Unit {0})
right_of (Got a) h = tt
right_of (GotTrap kind) h = tt
right_of (GotFault kind) h = h
right_of GotLost h = tt

module _ (types : Types) (f : Function) (rest : ℕ → ℕ) (inputs : Root → Option Region) (S : Fact → Type 0) (st : State) (k : IsKnownFrame types f rest inputs S st) where
  -- ---- pointers that are read

  -- a view or a span
  pub range_fit : (q : Location) → is_pointer (type_in types f q) ≡ true → NotInvalid S (located q) → is_range (type_in types f q) ≡ true → (v : Option Cell) → location_cell types f q st ≡ v → IfRight (used st.world.content v) (λ u. Unit {0})
  range_fit q pointer valid is None e = tt
  range_fit q pointer valid is (Some Empty) e = tt
  range_fit q pointer valid is (Some (Named n)) e = tt
  range_fit q pointer valid is (Some (Number z)) e = tt
  range_fit q pointer valid is (Some (Points v)) e =
      right_of (usable st.world.content v) (usable_right types st.world.content (RootStands types f (StandsAt inputs) st.cells) (may_change types f) S (located q) (look_in types f q) valid v is (k.covered q v pointer e))

  -- an iterator
  pub place_fit : (q : Location) → is_pointer (type_in types f q) ≡ true → NotInvalid S (located q) → is_range (type_in types f q) ≡ false → (v : Option Cell) → location_cell types f q st ≡ v → IfRight (iterator st.world.content v) (λ u. Unit {0})
  place_fit q pointer valid is None e = tt
  place_fit q pointer valid is (Some Empty) e = tt
  place_fit q pointer valid is (Some (Named n)) e = tt
  place_fit q pointer valid is (Some (Number z)) e = tt
  place_fit q pointer valid is (Some (Points v)) e =
      right_of (standing st.world.content v) (standing_right types st.world.content (RootStands types f (StandsAt inputs) st.cells) (may_change types f) S (located q) (look_in types f q) valid v is (k.covered q v pointer e))

  -- what is written is a view
  abbrev pub IsPort : Port → Type 0
  IsPort (Writes r) = Unit {0}
  IsPort (WritesView l) = (is_pointer (type_in types f l) ≡ true) × (is_range (type_in types f l) ≡ true)
  IsPort (Takes r) = is_number types f r ≡ true

  module _ (sigs : List Signature) (n : ℕ) (place : Place) (S' : Fact → Type 0) where
    -- ---- nothing is killed, and no pointer is written

    module _ (i : Step) (right : IsRight sigs types n f place i S S') (gone : (e : Element) → is_gone types f place i e ≡ false) (none : (l : AbsPlace) → writes i l ≡ false) where
      -- where content and cells are as they were
      pub still_covered : FrameCovered types f inputs S' st
      still_covered l v pointer held =
          unkilled_cover types k.ordered (hand_of rest st) st.world.content st.world.content (store_of types f rest inputs S st k) (touches_self (kinds_of types) no_foot st.world.content) (RootStands types f (StandsAt inputs) st.cells) (RootStands types f (StandsAt inputs) st.cells) (may_change types f)
          (rooted_of types f rest inputs S st k).fits sigs f place i S S' right.closed gone (λ a r names free s. s) (located l) (look_in types f l) v (none (located l)) (k.covered l v pointer held)

      pub register_covered : (r : ℕ) → is_number types f r ≡ true → (z : ℤ) → FrameCovered types f inputs S' (put_cell r (Number z) st)
      register_covered r is z l v pointer held =
          covered_more types st.world.content (RootStands types f (StandsAt inputs) st.cells) (RootStands types f (StandsAt inputs) (slice_set st.cells r (Number z))) (may_change types f)
          (roots_stay types f (StandsAt inputs) st r (Number z) (number_free types f rest inputs S st k r is)) S' (located l) (look_in types f l) v
          (⊎_elim (λ h. absurd (unlike h.1)) (λ h. still_covered l v pointer h.1) (put_held types f st r (Number z) (λ m e. nameless m e) l v held))
        where
          unlike : Number z ≡ Points v → ⊥
          unlike e = cc

          nameless : (m : ℕ) → Number z ≡ Named m → ⊥
          nameless m e = cc

    -- ---- values

    pub eval_kind : (s : Setting) (r : ℕ) (op : Operation) → IsRight sigs types n f place (Eval r op) S S' → is_number types f r ≡ true → OnRight (does s types f (Eval r op) st) (FrameCovered types f inputs S')
    eval_kind s r op right is = go op (register_covered (Eval r op) right (λ e. refl) (λ l. refl) r is)
      where
        computed : (c : Computed) → ((z : ℤ) → FrameCovered types f inputs S' (put_cell r (Number z) st)) → OnRight (computed_into r c st) (FrameCovered types f inputs S')
        computed (Ok z) each = each z
        computed (Err kind) each = tt

        go : (o : Operation) → ((z : ℤ) → FrameCovered types f inputs S' (put_cell r (Number z) st)) → OnRight (evaluated types f r o st) (FrameCovered types f inputs S')
        go (operation.Number z) each = each z
        go (operation.Convert q) each = number_right (cell st q) (λ z. Next (put_cell r (Number (converted (number_type types f r) z)) st)) (FrameCovered types f inputs S') (λ z. each (converted (number_type types f r) z))
        go (operation.Negate q) each = number_right (cell st q) (λ z. computed_into r (negated (number_type types f r) z) st) (FrameCovered types f inputs S') (λ z. computed (negated (number_type types f r) z) each)
        go (operation.IsZero q) each = number_right (cell st q) (λ z. computed_into r (truth (is_zero z)) st) (FrameCovered types f inputs S') (λ z. computed (truth (is_zero z)) each)
        go (operation.Binary operator a b) each =
            number_right (cell st a) (λ x. on_number (cell st b) (λ y. computed_into r (combined (number_type types f a) operator x y) st)) (FrameCovered types f inputs S')
            (λ x. number_right (cell st b) (λ y. computed_into r (combined (number_type types f a) operator x y) st) (FrameCovered types f inputs S') (λ y. computed (combined (number_type types f a) operator x y) each))

    pub load_kind : (s : Setting) (r : ℕ) (o : Operand) → IsRight sigs types n f place (Load r o) S S' → is_number types f r ≡ true → is_void (type_of types f o) ≡ false → OnRight (does s types f (Load r o) st) (FrameCovered types f inputs S')
    load_kind s r o right is solid =
        on_place_right types f st (StandsAt inputs) (may_change types f) S o (reach_at types f rest inputs S st k right.closed.of o solid (λ p used. used_right sigs types n f place (Load r o) S right.clean p used))
        (λ m j object. Next (put_cell r (Number (number_in_word (word_at object j (operand_word types f o st)))) st)) (λ c. on_character s.texts c (λ z. Next (put_cell r (Number z) st))) (FrameCovered types f inputs S')
        (λ h. put (number_in_word (word_at h.holder h.index (operand_word types f o st))))
        (λ c single. character_right s.texts c (λ z. Next (put_cell r (Number z) st)) (FrameCovered types f inputs S') put)
      where
        put : (z : ℤ) → FrameCovered types f inputs S' (put_cell r (Number z) st)
        put = register_covered (Load r o) right (λ e. refl) (λ l. refl) r is

    pub port_kind : (s : Setting) (p : Port) → IsRight sigs types n f place (Ports p) S S' → IsPort p → OnRight (does s types f (Ports p) st) (FrameCovered types f inputs S')
    port_kind s (Writes r) right is =
        number_right (cell st r) (λ z. Next (with_output (number_text (number_type types f r) z) st)) (FrameCovered types f inputs S') (λ z. still_covered (Ports (Writes r)) right (λ e. refl) (λ l. refl))
    port_kind s (Takes r) right is = taken st.world.input
      where
        taken : (zs : List ℤ) → OnRight (input_taken r zs st) (FrameCovered types f inputs S')
        taken [] = tt
        taken (z ∷ zs) = register_covered (Ports (Takes r)) right (λ e. refl) (λ l. refl) r is _
    port_kind s (WritesView l) right is =
        right_then (used st.world.content (location_cell types f l st)) (λ v. Next (with_output (seen_bytes s.texts st.world.content v) st)) (λ u. Unit {0}) (FrameCovered types f inputs S')
        (range_fit l is.0 (read_right sigs types n f place (Ports (WritesView l)) S right.clean l (at_head l [])) is.1 (location_cell types f l st) refl)
        (λ v h. still_covered (Ports (WritesView l)) right (λ e. refl) (λ a. refl))

    -- ---- sizes and comparisons of pointers

    pub seen_size_kind : (s : Setting) (r : ℕ) (q : Location) → is_pointer (type_in types f q) ≡ true → IsRight sigs types n f place (Size r (named.Pointer q)) S S' → is_number types f r ≡ true → is_range (type_in types f q) ≡ true → OnRight (does s types f (Size r (named.Pointer q)) st) (FrameCovered types f inputs S')
    seen_size_kind s r q pointer right is ranged =
        right_then (used st.world.content (location_cell types f q st)) (λ v. Next (put_cell r (Number (pos (seen_count v))) st)) (λ u. Unit {0}) (FrameCovered types f inputs S')
        (range_fit q pointer (read_right sigs types n f place (Size r (named.Pointer q)) S right.clean q (at_head q [])) ranged (location_cell types f q st) refl)
        (λ v h. register_covered (Size r (named.Pointer q)) right (λ e. refl) (λ l. refl) r is (pos (seen_count v)))

    pub same_kind : (s : Setting) (r : ℕ) (a b : Location) (equal : Bool) → is_pointer (type_in types f a) ≡ true → is_pointer (type_in types f b) ≡ true → IsRight sigs types n f place (Same r a b equal) S S' → is_number types f r ≡ true → are_compared types (type_in types f a) (type_in types f b) ≡ true
        → OnRight (does s types f (Same r a b equal) st) (FrameCovered types f inputs S')
    same_kind s r a b equal pointer_a pointer_b right is alike =
        right_then (compared s types f (location_parts types f a) a b st) (λ same. Next (put_cell r (Number (told same equal)) st)) (λ same. Unit {0}) (FrameCovered types f inputs S')
        (by_type (type_in types f a) refl alike)
        (λ same h. register_covered i right (λ e. refl) (λ l. refl) r is (told same equal))
      where
        i : Step
        i = Same r a b equal

        valid_a : NotInvalid S (located a)
        valid_a = read_right sigs types n f place i S right.clean a (at_head a (b ∷ []))

        valid_b : NotInvalid S (located b)
        valid_b = read_right sigs types n f place i S right.clean b (in_tail a (b ∷ []) b (at_head b []))

        alike_ranged : is_range (type_in types f b) ≡ is_range (type_in types f a)
        alike_ranged = compared_ranged types (type_in types f a) (type_in types f b) alike

        parts_are : (t : Ty) (p : Parts) → type_in types f a ≡ t → is_void t ≡ false → ((id : TyId) → slice_get types.types id.0 ≡ Some t → parts_if types (Some id) ≡ p) → location_parts types f a ≡ p
        parts_are t p e solid made =
            let of = location_of types k.ordered k.once 0 [] f k.shaped a t e solid in
            ap (parts_if types) of.is ∙ made of.number of.there

        position : (u t : Pointer) → IfRight (same_position u t) (λ same. Unit {0})
        position u t = go (is_one_object u t)
          where
            go : (same : Bool) → IfRight (cond same (Got (nat_eq (start_of u) (start_of t))) (GotTrap trap.ForeignIterator)) (λ z. Unit {0})
            go true = tt
            go false = tt

        views : is_range (type_in types f a) ≡ true → IfRight (compared s types f Views a b st) (λ same. Unit {0})
        views ranged =
            then_right (used st.world.content (location_cell types f a st)) (λ v. then_get (used st.world.content (location_cell types f b st)) (λ w. Got (are_same (seen_bytes s.texts st.world.content v) (seen_bytes s.texts st.world.content w)))) (λ u. Unit {0}) (λ same. Unit {0})
            (range_fit a pointer_a valid_a ranged (location_cell types f a st) refl)
            (λ v h. then_right (used st.world.content (location_cell types f b st)) (λ w. Got (are_same (seen_bytes s.texts st.world.content v) (seen_bytes s.texts st.world.content w))) (λ u. Unit {0}) (λ same. Unit {0})
            (range_fit b pointer_b valid_b (alike_ranged ∙ ranged) (location_cell types f b st) refl) (λ w j. tt))

        iterators : is_range (type_in types f a) ≡ false → IfRight (compared s types f Iterates a b st) (λ same. Unit {0})
        iterators single =
            then_right (iterator st.world.content (location_cell types f a st)) (λ v. then_get (iterator st.world.content (location_cell types f b st)) (λ w. same_position v w)) (λ u. Unit {0}) (λ same. Unit {0})
            (place_fit a pointer_a valid_a single (location_cell types f a st) refl)
            (λ v h. then_right (iterator st.world.content (location_cell types f b st)) (λ w. same_position v w) (λ u. Unit {0}) (λ same. Unit {0})
            (place_fit b pointer_b valid_b (alike_ranged ∙ single) (location_cell types f b st) refl) (λ w j. position v w))

        by_type : (t : Ty) → type_in types f a ≡ t → are_compared types t (type_in types f b) ≡ true → IfRight (compared s types f (location_parts types f a) a b st) (λ same. Unit {0})
        by_type (ty.Iterator target constant) e h =
            subst (λ (p : Parts). IfRight (compared s types f p a b st) (λ same. Unit {0})) (sym (parts_are (ty.Iterator target constant) Iterates e refl (λ id there. parts_typed types k.ordered id (ty.Iterator target constant) there)))
            (iterators (ap is_range e))
        by_type ty.View e h =
            subst (λ (p : Parts). IfRight (compared s types f p a b st) (λ same. Unit {0})) (sym (parts_are ty.View Views e refl (λ id there. parts_typed types k.ordered id ty.View there))) (views (ap is_range e))
        by_type _ e h = absurd (false≢true h)
