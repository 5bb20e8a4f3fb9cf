-- Ways to settle: what is done with a number, a pointer, a place or what was got, and a cell that is given a value of its sort.
use Rattle.std.proofs.Common.{◌≡◌, ℕ, Bool, true, false, ◌||◌, not, cond, List, [], ◌∷◌, Option, Some, None, refl, sym, ap, subst, ◌∙◌, ⊎_elim}
use Rattle.std.proofs.lemmas.Bool.{and_parts, false≢true}
use Rattle.std.specs.Prelude.{ℤ, slice_get, slice_set}
use Rattle.life_types.specs.TypeTests.{is_constant, is_pointer, is_raw, is_value, is_view}
use Rattle.life_types.specs.Types.{Types}
use Rattle.life_types.specs.declared.ty.Ty.{Ty}
use Rattle.life_core.specs.Function.{Function}
use Rattle.life_core.specs.Operands.{Location, Operand}
use Rattle.life_core.specs.Ready.{AreBits, Ready, set_bits}
use Rattle.life_core.specs.Touched.{by_members, part_uses, written}
use Rattle.life_pset.specs.Shapes.{members_type, ty_if}
use Rattle.life_pset.specs.Shapes as shapes
use Rattle.life_proper.specs.OperandTypes.{keeps_const}
use Rattle.life_proper.specs.Placed.{is_const_place, is_number, register_at, type_at, type_in}
use Rattle.life_store.specs.Content.{Content}
use Rattle.life_store.specs.Effects.{Effect, Next, Attempt, Got, GotTrap, GotFault, GotLost, cell, got_or, on_got, on_number, on_pointer, put_cell, put_content, then_get}
use Rattle.life_store.specs.Iterators.{at_index, standing}
use Rattle.life_store.specs.Places.{Found, Here, Fixed, Outside, Wrong, Astray, is_valid, member_pointed, on_place, pointed}
use Rattle.life_store.specs.Content.{Object}
use Rattle.life_store.specs.State.{Characters, Pointer, Null, Wild, To, Static, Cell, Named, Number, Points, State, ready_of}
use Rattle.life_store.specs.Views.{is_valid_range, part_of, usable}
use Rattle.life_store.specs.declared.run.FaultKind.{FaultKind}
use Rattle.life_store.specs.declared.run.FaultKind.TheVariants as fault
use Rattle.life_store.proofs.CellLemmas.{cell_cases, ready_set}
use Rattle.life_forest.specs.Settled.{IsPoised, KindsFit, Settles}
use Rattle.life_forest.specs.Sorted.{AreSorted, Fits, PointerFits, SeesFirst, StaticFits, sort_at, sort_if}
use Rattle.life_forest.proofs.ReadyCells.{PlaceWell, member_is_object, object_cell, pointer_no_object, value_points}
use Rattle.life_forest.proofs.SeenTypes.{pointer_solid}
use Rattle.life_forest.proofs.Slots.{register_only}

-- ---- an attempt that isn't lost gives what is well

abbrev pub Well : {A : Type 0} → Attempt A → (A → Type 0) → Type 0
Well (Got a) P = P a
Well (GotTrap kind) P = Unit {0}
Well (GotFault kind) P = Unit {0}
Well GotLost P = ⊥

pub well_if : {A : Type 0} (b : Bool) (x y : Attempt A) (P : A → Type 0) → Well x P → Well y P → Well (cond b x y) P
well_if true x y P h k = h
well_if false x y P h k = k

pub well_then : {A B : Type 0} (x : Attempt A) (go : A → Attempt B) (P : A → Type 0) (Q : B → Type 0) → Well x P → ((a : A) → P a → Well (go a) Q) → Well (then_get x go) Q
well_then (Got a) go P Q well each = each a well
well_then (GotTrap kind) go P Q well each = tt
well_then (GotFault kind) go P Q well each = tt
well_then GotLost go P Q well each = well

pub well_or : {A : Type 0} (o : Option A) (kind : FaultKind) → Well (got_or o (GotFault kind)) (λ a. Unit {0})
well_or None kind = tt
well_or (Some a) kind = tt

-- ---- a pointer that is used isn't null, and is as its type says

abbrev pub IsUsed : Ty → Pointer → Type 0
IsUsed t Null = ⊥
IsUsed t Wild = ⊥
IsUsed t (To target) = SeesFirst t target
IsUsed t (Static s) = StaticFits t s.text

pub static_kept : (t u : Ty) (n : Option ℕ) → keeps_const (is_constant u) (is_constant t) ≡ true → StaticFits t n → StaticFits u n
static_kept t u None keeps fits = tt
static_kept t u (Some n) keeps fits = go (is_constant u) (is_constant t) fits keeps
  where
    go : (a b : Bool) → b ≡ true → (a || not b) ≡ true → a ≡ true
    go true b e h = refl
    go false b e h = absurd (false≢true (sym (ap not e) ∙ h))

pub used_fits : (t u : Ty) (p : Pointer) → keeps_const (is_constant u) (is_constant t) ≡ true → (is_view u ≡ true → is_view t ≡ true) → IsUsed t p → PointerFits u p
used_fits t u Null keeps views is = absurd is
used_fits t u Wild keeps views is = tt
used_fits t u (To target) keeps views is = λ e. is (views e)
used_fits t u (Static s) keeps views is = static_kept t u s.text keeps is

-- .. and so is one at another position, or a part of it
pub index_used : (t : Ty) (now i : ℕ) (p : Pointer) → IsUsed t p → IsUsed t (at_index now i p)
index_used t now i Null is = is
index_used t now i Wild is = is
index_used t now i (To target) is = is
index_used t now i (Static s) is = is

pub part_used : (t : Ty) (now i n : ℕ) (p : Pointer) → IsUsed t p → IsUsed t (part_of now i n p)
part_used t now i n Null is = is
part_used t now i n Wild is = is
part_used t now i n (To target) is = is
part_used t now i n (Static s) is = is

module _ (c : Content) (t : Ty) (other : is_raw t ≡ false) where
  pub used_well : (p : Pointer) → PointerFits t p → Well (usable c p) (IsUsed t)
  used_well Null fits = absurd (false≢true (sym other ∙ fits))
  used_well Wild fits = tt
  used_well (To target) fits = well_if (is_valid_range c target) (Got (To target)) (GotFault fault.Dangling) (IsUsed t) fits tt
  used_well (Static s) fits = fits

  pub standing_well : (p : Pointer) → PointerFits t p → Well (standing c p) (IsUsed t)
  standing_well Null fits = absurd (false≢true (sym other ∙ fits))
  standing_well Wild fits = tt
  standing_well (To target) fits = well_if (is_valid c target) (Got (To target)) (GotFault fault.Dangling) (IsUsed t) fits tt
  standing_well (Static s) fits = fits

module _ (types : Types) (f : Function) (bits : Ready) where
  -- ---- what was got

  pub settle_got : {A : Type 0} (x : Attempt A) (go : A → Effect) (P : A → Type 0) → Well x P → ((a : A) → P a → Settles types f bits (go a)) → Settles types f bits (on_got x go)
  settle_got (Got a) go P well each = each a well
  settle_got (GotTrap kind) go P well each = tt
  settle_got (GotFault kind) go P well each = tt
  settle_got GotLost go P well each = well

  pub settle_number : (o : Option Cell) (go : ℤ → Effect) (z : ℤ) → o ≡ Some (Number z) → Settles types f bits (go z) → Settles types f bits (on_number o go)
  settle_number o go z e h = subst (λ (y : Option Cell). Settles types f bits (on_number y go)) (sym e) h

  pub settle_pointer : (o : Option Cell) (go : Pointer → Effect) (p : Pointer) → o ≡ Some (Points p) → Settles types f bits (go p) → Settles types f bits (on_pointer o go)
  settle_pointer o go p e h = subst (λ (y : Option Cell). Settles types f bits (on_pointer y go)) (sym e) h

  pub settle_place : (o : Operand) (found : Found) (go : ℕ → ℕ → Object → Effect) (fixed : Characters → Effect) → PlaceWell types f o found → ((n i : ℕ) (object : Object) → Settles types f bits (go n i object))
      → ((s : Characters) → is_const_place types f o ≡ true → Settles types f bits (fixed s)) → Settles types f bits (on_place found go fixed)
  settle_place o (Here n i object) go fixed well here text = here n i object
  settle_place o (Fixed s) go fixed well here text = text s well
  settle_place o Outside go fixed well here text = tt
  settle_place o (Wrong kind) go fixed well here text = tt
  settle_place o Astray go fixed well here text = well

  pub settle_if : (b : Bool) (x y : Effect) → Settles types f bits x → Settles types f bits y → Settles types f bits (cond b x y)
  settle_if true x y h k = h
  settle_if false x y h k = k

-- ---- a cell is given a value of its sort

module _ (types : Types) (f : Function) where
  pub sorted_put : (cells : List Cell) (x : ℕ) (v : Cell) → Fits (sort_at types f x) (type_at types f x) v → AreSorted types f cells → AreSorted types f (slice_set cells x v)
  sorted_put cells x v fits sorted y w e =
      ⊎_elim (λ a. subst (λ k. Fits (sort_at types f k) (type_at types f k) w) a.0 (subst (Fits (sort_at types f x) (type_at types f x)) a.1 fits)) (λ b. sorted y w b.1) (cell_cases cells x y v w e)

  pub number_settles : (st : State) (r : ℕ) (z : ℤ) → AreSorted types f st.cells → is_number types f r ≡ true → Settles types f (slice_set (ready_of st) r true) (Next (put_cell r (Number z) st))
  number_settles st r z sorted is =
      let both = and_parts (register_at types f r) (is_value (type_at types f r)) is in (
        ready_set st.cells r (Number z),
        sorted_put st.cells r (Number z)
            (ap (λ b. sort_if b (is_pointer (type_at types f r))) (register_only (slice_get f.locals r) both.0) ∙ ap (sort_if false) (value_points (type_at types f r) both.1)) sorted,
      )

  -- a pointer of its type, to a local or a member of one
  pub pointed_settles : (kinds : KindsFit types f) (st : State) (l : Location) (p : Pointer) → AreSorted types f st.cells → is_pointer (type_in types f l) ≡ true → PointerFits (type_in types f l) p
      → ((m : ℕ) (ms : List ℕ) → l.members ≡ m ∷ ms → (n : ℕ) × (cell st l.local ≡ Some (Named n))) → Settles types f (set_bits true (written l) (ready_of st)) (pointed types f l p st)
  pointed_settles kinds st l p sorted is fits object = go l.members refl is fits
    where
      go : (ms : List ℕ) → l.members ≡ ms → is_pointer (ty_if types (members_type types (shapes.local_type types f l.local) ms)) ≡ true → PointerFits (ty_if types (members_type types (shapes.local_type types f l.local) ms)) p
          → Settles types f (set_bits true (by_members ms (l.local ∷ []) []) (ready_of st)) (member_pointed types f l.local ms (cell st l.local) p st)
      go [] e pointer well = (
        ready_set st.cells l.local (Points p),
        sorted_put st.cells l.local (Points p) (ap (λ b. sort_if b (is_pointer (type_at types f l.local))) (pointer_no_object types f kinds l.local pointer) ∙ ap (sort_if false) pointer, well) sorted,
      )
      go (m ∷ ms) e pointer well =
          let n = object m ms e in
          subst (λ (v : Option Cell). Settles types f (ready_of st) (member_pointed types f l.local (m ∷ ms) v p st)) (sym n.1) (refl, sorted)

  -- .. where the location is there as the instruction asks, whatever became of the content
  pub ready_pointed : (st : State) (at_point : IsPoised types f st) (d : Content) (l : Location) (p : Pointer) → is_pointer (type_in types f l) ≡ true → PointerFits (type_in types f l) p → AreBits true (ready_of st) (part_uses l)
      → Settles types f (set_bits true (written l) (ready_of st)) (pointed types f l p (put_content d st))
  ready_pointed st at_point d l p is fits uses =
      pointed_settles at_point.kinds (put_content d st) l p at_point.sorted is fits
      (λ m ms e. object_cell types f st at_point l.local
      (member_is_object types f at_point.kinds l.local m ms (pointer_solid (ty_if types (members_type types (shapes.local_type types f l.local) (m ∷ ms))) (subst (λ (xs : List ℕ). is_pointer (ty_if types (members_type types (shapes.local_type types f l.local) xs)) ≡ true) e is)))
      (subst (λ (xs : List ℕ). AreBits true (ready_of st) (by_members xs [] (l.local ∷ []))) e uses).0)
