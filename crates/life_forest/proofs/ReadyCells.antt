-- What stands in the cells of locals that are there, and what the places of operands are: no place that is ready is astray.
use Rattle.std.proofs.Common.{◌≡◌, ℕ, Bool, true, false, ◌&&◌, ◌||◌, not, List, [], ◌∷◌, length, option_map, Option, Some, None, refl, sym, ap, subst, ◌∙◌}
use Rattle.std.proofs.lemmas.Bool.{and_from, and_parts, false≢true}
use Rattle.std.proofs.lemmas.Option.{slice_get-map}
use Rattle.std.specs.Prelude.{ℤ, nat_lt, slice_get}
use Rattle.life_types.specs.TypeTests.{is_pointer, is_value, is_void}
use Rattle.life_types.specs.Types.{Types}
use Rattle.life_types.specs.declared.ty.Ty.{Ty}
use Rattle.life_types.specs.declared.ty.Ty.TheVariants as ty
use Rattle.life_types.specs.declared.ty.TyId.{TyId}
use Rattle.life_core.specs.declared.program.Local.{Local}
use Rattle.life_core.specs.declared.program.LocalKind.{LocalKind}
use Rattle.life_core.specs.declared.program.LocalKind.TheVariants as local
use Rattle.life_core.specs.Function.{Function}
use Rattle.life_core.specs.Kinds.{has_kind, is_object}
use Rattle.life_core.specs.Operands.{Location, Operand, Name, Through}
use Rattle.life_core.specs.Ready.{AreBits, IsThere}
use Rattle.life_core.specs.Touched.{place_uses}
use Rattle.life_pset.specs.Shapes.{member_of, member_type, members_type, ty_if}
use Rattle.life_pset.specs.Shapes as shapes
use Rattle.life_proper.specs.OperandTypes.{is_composed, same}
use Rattle.life_proper.specs.Placed.{is_const_place, is_number, is_number_of, is_place, object_at, register_at, type_at, type_in}
use Rattle.life_proper.specs.WellFormedPrograms.{fits_kind}
use Rattle.life_proper.proofs.HeldSorts.{same_is}
use Rattle.life_store.specs.Cells.{at}
use Rattle.life_store.specs.Content.{Object, is_valid_in}
use Rattle.life_store.specs.Effects.{cell}
use Rattle.life_store.specs.Places.{Found, Here, Fixed, Outside, Wrong, Astray, behind_cell, behind_pointer, found_if, found_in, found_text, here_if, is_valid, locate, location_cell, member_cell, named_by, reached_if, reached_in}
use Rattle.life_store.specs.State.{Target, Pointer, Null, Wild, To, Static, Cell, Empty, Named, Number, Points, State, is_there, ready_of}
use Rattle.life_store.proofs.CellLemmas.{none_some, some_same}
use Rattle.life_forest.specs.Settled.{IsPoised, KindsFit}
use Rattle.life_forest.specs.Sorted.{Aims, Counts, Names, PointerFits, Sort, StaticFits, sort_at, sort_if}
use Rattle.life_forest.proofs.SeenTypes.{pointee_points, pointer_solid}
use Rattle.life_forest.proofs.Slots.{register_only}

-- what a cell of the sort holds where its local is there
abbrev Held : Sort → Cell → Type 0
Held Names v = (n : ℕ) × (v ≡ Named n)
Held Aims v = (p : Pointer) × (v ≡ Points p)
Held Counts v = (z : ℤ) × (v ≡ Number z)

pub value_points : (t : Ty) → is_value t ≡ true → is_pointer t ≡ false
value_points ty.Bool e = refl
value_points ty.Char e = refl
value_points ty.Int e = refl
value_points ty.Long e = refl
value_points ty.Size e = refl
value_points _ e = absurd (false≢true e)

pointer_free : (k : LocalKind) (t : Ty) → fits_kind k t ≡ true → is_pointer t ≡ true → is_object k ≡ false
pointer_free local.Object t fits e = absurd (false≢true (sym (ap not e) ∙ fits))
pointer_free local.Register t fits e = refl
pointer_free local.Range t fits e = refl

composed_object : (k : LocalKind) (t : Ty) → fits_kind k t ≡ true → is_composed t ≡ true → is_object k ≡ true
composed_object local.Object t fits e = refl
composed_object local.Register t fits e = absurd (none (is_void t) (is_value t) (is_pointer t) e fits)
  where
    none : (void value pointer : Bool) → not (void || (value || pointer)) ≡ true → (pointer || value) ≡ true → ⊥
    none true value pointer h k = false≢true h
    none false true pointer h k = false≢true h
    none false false true h k = false≢true h
    none false false false h k = false≢true k
composed_object local.Range t fits e = absurd (none (is_void t) (is_value t) (is_pointer t) e fits)
  where
    none : (void value pointer : Bool) → not (void || (value || pointer)) ≡ true → pointer ≡ true → ⊥
    none true value pointer h k = false≢true h
    none false true pointer h k = false≢true h
    none false false true h k = false≢true h
    none false false false h k = false≢true k

composed_solid : (t : Ty) → is_composed t ≡ true → is_void t ≡ false
composed_solid ty.Void e = absurd (false≢true e)
composed_solid _ e = refl

pub number_any : (types : Types) (f : Function) (t : Ty) (r : ℕ) → is_number_of types f t r ≡ true → is_number types f r ≡ true
number_any types f t r e =
    let outer = and_parts (register_at types f r) (is_value t && same t (type_at types f r)) e in
    let inner = and_parts (is_value t) (same t (type_at types f r)) outer.1 in
    and_from (register_at types f r) (is_value (type_at types f r)) outer.0 (subst (λ (u : Ty). is_value u ≡ true) (same_is t (type_at types f r) inner.1) inner.0)

-- no place is astray, and characters of a text are const
abbrev pub PlaceWell : Types → Function → Operand → Found → Type 0
PlaceWell types f o (Here n i object) = Unit {0}
PlaceWell types f o (Fixed s) = is_const_place types f o ≡ true
PlaceWell types f o Outside = Unit {0}
PlaceWell types f o (Wrong kind) = Unit {0}
PlaceWell types f o Astray = ⊥

module _ (types : Types) (f : Function) where
  -- ---- kinds

  -- a local of a type that isn't void is there
  typed_local : (x : ℕ) → is_void (type_at types f x) ≡ false → (l : Local) × (slice_get f.locals x ≡ Some l)
  typed_local x solid = go (slice_get f.locals x) refl solid
    where
      go : (o : Option Local) → slice_get f.locals x ≡ o → is_void (ty_if types (shapes.shape_of types f.parameters x o)) ≡ false → (l : Local) × (slice_get f.locals x ≡ Some l)
      go None e h = absurd (false≢true (sym h))
      go (Some l) e h = (l, e)

  pub pointer_no_object : KindsFit types f → (x : ℕ) → is_pointer (type_at types f x) ≡ true → object_at types f x ≡ false
  pointer_no_object kinds x e = let l = typed_local x (pointer_solid (type_at types f x) e) in ap (has_kind is_object) l.1 ∙ pointer_free l.0.kind (type_at types f x) (kinds x l.0 l.1) e

  pub composed_is_object : KindsFit types f → (x : ℕ) → is_composed (type_at types f x) ≡ true → object_at types f x ≡ true
  composed_is_object kinds x e = let l = typed_local x (composed_solid (type_at types f x) e) in ap (has_kind is_object) l.1 ∙ composed_object l.0.kind (type_at types f x) (kinds x l.0 l.1) e

  -- what has members is a struct
  no_members : (ms : List ℕ) → members_type types None ms ≡ None
  no_members [] = refl
  no_members (m ∷ ms) = no_members ms

  struct_of : (t : Ty) (m : ℕ) (ms : List ℕ) → is_void (ty_if types (members_type types (member_of types t m) ms)) ≡ false → is_composed t ≡ true
  struct_of (ty.Struct number) m ms solid = refl
  struct_of _ m ms solid = absurd (false≢true (sym (ap (λ (id : Option TyId). is_void (ty_if types id)) (sym (no_members ms)) ∙ solid)))

  pub member_is_object : KindsFit types f → (x m : ℕ) (ms : List ℕ) → is_void (ty_if types (members_type types (shapes.local_type types f x) (m ∷ ms))) ≡ false → object_at types f x ≡ true
  member_is_object kinds x m ms solid = composed_is_object kinds x (struct_of (type_at types f x) m ms solid)

  -- an owner or a struct lies in an object
  pub location_is_object : KindsFit types f → (l : Location) → is_composed (type_in types f l) ≡ true → object_at types f l.local ≡ true
  location_is_object kinds l e = go l.members e
    where
      go : (ms : List ℕ) → is_composed (ty_if types (members_type types (shapes.local_type types f l.local) ms)) ≡ true → object_at types f l.local ≡ true
      go [] h = composed_is_object kinds l.local h
      go (m ∷ ms) h = member_is_object kinds l.local m ms (composed_solid (ty_if types (members_type types (shapes.local_type types f l.local) (m ∷ ms))) h)

  module _ (st : State) (at_point : IsPoised types f st) where
    -- ---- cells

    held : (x : ℕ) → IsThere (ready_of st) x → (v : Cell) × (cell st x ≡ Some v) × Held (sort_at types f x) v
    held x there = go (slice_get st.cells x) refl (sym (slice_get-map is_there st.cells x) ∙ there)
      where
        go : (o : Option Cell) → slice_get st.cells x ≡ o → option_map is_there o ≡ Some true → (v : Cell) × (slice_get st.cells x ≡ Some v) × Held (sort_at types f x) v
        go None e i = absurd (none_some i)
        go (Some Empty) e i = absurd (false≢true (some_same i))
        go (Some (Named n)) e i = (Named n, e, subst (λ s. Held s (Named n)) (sym (at_point.sorted x (Named n) e)) (n, refl))
        go (Some (Number z)) e i = (Number z, e, subst (λ s. Held s (Number z)) (sym (at_point.sorted x (Number z) e)) (z, refl))
        go (Some (Points p)) e i = (Points p, e, subst (λ s. Held s (Points p)) (sym (at_point.sorted x (Points p) e).0) (p, refl))

    pub object_cell : (x : ℕ) → object_at types f x ≡ true → IsThere (ready_of st) x → (n : ℕ) × (cell st x ≡ Some (Named n))
    object_cell x is there =
        let h = held x there in
        let k = subst (λ s. Held s h.0) (ap (λ b. sort_if b (is_pointer (type_at types f x))) is) h.2 in
        (k.0, h.1 ∙ ap Some k.1)

    pub number_cell : (r : ℕ) → is_number types f r ≡ true → IsThere (ready_of st) r → (z : ℤ) × (cell st r ≡ Some (Number z))
    number_cell r is there =
        let both = and_parts (register_at types f r) (is_value (type_at types f r)) is in
        let h = held r there in
        let k = subst (λ s. Held s h.0) (ap (λ b. sort_if b (is_pointer (type_at types f r))) (register_only (slice_get f.locals r) both.0) ∙ ap (sort_if false) (value_points (type_at types f r) both.1)) h.2 in
        (k.0, h.1 ∙ ap Some k.1)

    pub pointer_cell : (x : ℕ) → is_pointer (type_at types f x) ≡ true → IsThere (ready_of st) x → (p : Pointer) × (cell st x ≡ Some (Points p))
    pointer_cell x is there =
        let h = held x there in
        let k = subst (λ s. Held s h.0) (ap (λ b. sort_if b (is_pointer (type_at types f x))) (pointer_no_object at_point.kinds x is) ∙ ap (sort_if false) is) h.2 in
        (k.0, h.1 ∙ ap Some k.1)

    -- a pointer that is a local or a member of one
    pub location_pointer : (l : Location) → is_pointer (type_in types f l) ≡ true → IsThere (ready_of st) l.local → (p : Pointer) × (location_cell types f l st ≡ Some (Points p))
    location_pointer l is there = go l.members is
      where
        go : (ms : List ℕ) → is_pointer (ty_if types (members_type types (shapes.local_type types f l.local) ms)) ≡ true → (p : Pointer) × (member_cell types f l.local ms (cell st l.local) st.world.content ≡ Some (Points p))
        go [] h = pointer_cell l.local h there
        go (m ∷ ms) h =
            let n = object_cell l.local (member_is_object at_point.kinds l.local m ms (pointer_solid (ty_if types (members_type types (shapes.local_type types f l.local) (m ∷ ms))) h)) there in
            (_, ap (λ (v : Option Cell). member_cell types f l.local (m ∷ ms) v st.world.content) n.1)

    -- ---- places

    named_well : (x n : ℕ) (o : Operand) → cell st x ≡ Some (Named n) → PlaceWell types f o (named_by st.world.content (cell st x))
    named_well x n o e =
        let v = at_point.frame.objects x n e in
        subst (λ (y : Option Cell). PlaceWell types f o (named_by st.world.content y)) (sym e)
        (subst (λ (y : Option Object). PlaceWell types f o (found_in y n 0)) (sym v.there)
        (subst (λ k. PlaceWell types f o (here_if (nat_lt 0 k) n 0 v.object)) (sym (ap length v.one)) tt))

    target_well : (o : Operand) (t : Target) → PlaceWell types f o (found_if (is_valid st.world.content t) st.world.content t)
    target_well o t = go (at st.world.content.objects t.object) refl (is_valid st.world.content t) refl
      where
        reached : (b : Bool) (x : Object) → PlaceWell types f o (reached_if b t.object t.index x)
        reached true x = tt
        reached false x = tt

        go : (x : Option Object) → at st.world.content.objects t.object ≡ x → (b : Bool) → is_valid st.world.content t ≡ b → PlaceWell types f o (found_if b st.world.content t)
        go x e false v = tt
        go None e true v = absurd (false≢true (sym (ap (is_valid_in t.index 1 t.moment) e) ∙ v))
        go (Some x) e true v = subst (λ (y : Option Object). PlaceWell types f o (reached_in y t.object t.index)) (sym e) (reached (nat_lt t.index (length x.slots)) x)

    through_well : (p : Location) (members : List ℕ) (q : Pointer) → PointerFits (type_in types f p) q → PlaceWell types f (Through p members) (behind_pointer st.world.content q)
    through_well p members Null fits = tt
    through_well p members Wild fits = tt
    through_well p members (To t) fits = target_well (Through p members) t
    through_well p members (Static s) fits = go s.text fits
      where
        go : (n : Option ℕ) → StaticFits (type_in types f p) n → PlaceWell types f (Through p members) (found_text n s)
        go None h = tt
        go (Some n) h = h

    pub place_well : (o : Operand) → is_place types f o ≡ true → AreBits true (ready_of st) (place_uses o) → PlaceWell types f o (locate types f o st)
    place_well (Name l) is b = let n = object_cell l.local is b.0 in named_well l.local n.0 (Name l) n.1
    place_well (Through p members) is b =
        let pointer = pointee_points types (type_in types f p) is in
        let q = location_pointer p pointer b.0 in
        subst (λ (y : Option Cell). PlaceWell types f (Through p members) (behind_cell st.world.content y)) (sym q.1) (through_well p members q.0 (at_point.pointers p q.0 pointer q.1))
