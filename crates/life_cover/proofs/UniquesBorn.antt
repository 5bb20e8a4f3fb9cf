-- The unique_ptrs of a local that comes to life, it or members of it, have nothing, and the facts behind it say so.
use Rattle.std.proofs.Common.{◌≡◌, ⊎_elim, ℕ, ◌+◌, ◌*◌, Bool, true, false, ◌&&◌, List, [], ◌∷◌, Option, Some, None, refl, sym, ap, subst, ◌∙◌, arith}
use Rattle.std.specs.Prelude.{Contains, ◌||◌, cond, nat_lt, not, slice_get, slice_set}
use Rattle.std.proofs.lemmas.Bool.{and_parts, false≢true}
use Rattle.life_types.specs.Pointees.{or_void, ty_of}
use Rattle.life_types.specs.TypeTests.{is_pointer, is_reference}
use Rattle.life_types.specs.Types.{Types}
use Rattle.life_types.specs.declared.place.Place.{Place}
use Rattle.life_types.specs.declared.ty.Ty.{Ty}
use Rattle.life_types.specs.declared.ty.Ty.TheVariants as variant
use Rattle.life_types.specs.declared.ty.TyId.{TyId}
use Rattle.life_core.specs.declared.instr.Form.{Form}
use Rattle.life_core.specs.declared.program.Local.{Local}
use Rattle.life_core.specs.Function.{Function}
use Rattle.life_core.specs.Holdings.{Holding, Blank, AnObject, ANumber, APointer, AView, sort_of}
use Rattle.life_core.specs.Operands.{Location}
use Rattle.life_core.specs.Step.{Live}
use Rattle.life_pset.specs.Elements.{local_locations, local_place}
use Rattle.life_pset.specs.Places.{members_place, path}
use Rattle.life_pset.specs.Shapes.{members_type, shape, shape_of, ty_if}
use Rattle.life_pset.specs.Shapes as shapes
use Rattle.life_pset.specs.declared.element.Element.{Element}
use Rattle.life_pset.specs.declared.element.Element.TheVariants as element
use Rattle.life_pset.specs.declared.element.Fact.{Fact}
use Rattle.life_pset.specs.declared.element.Root.{Root}
use Rattle.life_pset.proofs.Numbers.{is_of_iff}
use Rattle.life_contract.specs.Located.{located}
use Rattle.life_contract.specs.Signatures.{Signature}
use Rattle.life_proper.specs.Placed.{is_slot_local, object_at, register_at, slot_at, type_at, type_in}
use Rattle.life_proper.specs.WellFormed.{can_live}
use Rattle.life_rules.specs.Carrying.{born, born_facts, locations_at, locations_of_local, own_type}
use Rattle.life_rules.specs.Matching.{fact_at, facts_at}
use Rattle.life_rules.proofs.Giving.{at_head, flat_map_into}
use Rattle.life_store.specs.Births.{born_object, born_owner, live_as, live_local, live_of, live_over, with_value_object}
use Rattle.life_store.specs.Content.{Content, live_words_of}
use Rattle.life_store.specs.Doing.{does}
use Rattle.life_store.specs.Effects.{Next, Setting, Traps, cell, put_cell, put_content}
use Rattle.life_store.specs.Kinds.{Owner, kind_in}
use Rattle.life_store.specs.Owners.{born_pointer, empty_view, fresh, object_with}
use Rattle.life_store.specs.Parts.{Parts, Single, Raw, Iterates, Views, Text, Vector, Unique, Member, NoMember, held_type_if, local_type, location_type, parts_at, type_within, width, width_at, word_within}
use Rattle.life_store.specs.State.{Cell, Empty, Named, Number, Pointer, Points, State, Wild}
use Rattle.life_store.specs.declared.run.TrapKind.TheVariants as trap
use Rattle.life_store.proofs.CellLemmas.{cell_cases, some_same}
use Rattle.life_forest.specs.Frames.{OnNext}
use Rattle.life_forest.specs.Within.{LiesWithin}
use Rattle.life_forest.proofs.Frames.{on_got_next}
use Rattle.life_forest.proofs.Members.{path_within}
use Rattle.life_forest.proofs.OneNumber.{IsOfType}
use Rattle.life_forest.proofs.SeenTypes.{parts_typed}
use Rattle.life_forest.proofs.Shaped.{no_slot}
use Rattle.life_forest.proofs.TypedSteps.{location_of}
use Rattle.life_cover.specs.Buffered.{is_buffer_at}
use Rattle.life_cover.specs.Covers.{CoversOwner, IsOwnerTold}
use Rattle.life_cover.specs.Regions.{HasPart, Region, itself}
use Rattle.life_cover.specs.Uniques.{had_at, word_in}
use Rattle.life_cover.proofs.Behind.{TellsLost}
use Rattle.life_cover.proofs.BufferWords.{part_words}
use Rattle.life_cover.proofs.ExactLocations.{exact_path}
use Rattle.life_cover.proofs.FreshUniques.{AreNull, uniques_born}
use Rattle.life_cover.proofs.KeptCopies.{object_parts}
use Rattle.life_cover.proofs.KnownFrames.{IsKnownFrame, IsRight, hand_of, store_of}
use Rattle.life_cover.proofs.Listing.{null_known}
use Rattle.life_cover.proofs.Locals.{named_once}
use Rattle.life_cover.proofs.LocationsListed.{is_told, local_told, location_listed, structured}
use Rattle.life_cover.proofs.ObjectParts.{path_part}
use Rattle.life_cover.proofs.OtherTypes.{unlike_plain}
use Rattle.life_cover.proofs.ShortLocations.{location_short}
use Rattle.life_cover.proofs.UniqueLocations.{unique_is}

nothing : (w : ℕ) → w ≡ w + 0
nothing w = omega arith

begun : (w : ℕ) → 0 + w ≡ w
begun w = omega arith

module _ (types : Types) (f : Function) (rest : ℕ → ℕ) (inputs : Root → Option Region) (S : Fact → Type 0) (st : State) (k : IsKnownFrame types f rest inputs S st) (sigs : List Signature) (n : ℕ) (place : Place) (S' : Fact → Type 0) (s : Setting) (x : ℕ) (form : Form)
    (right : IsRight sigs types n f place (Live x form) S S') (can : can_live types 0 [] f x ≡ true) where
  abbrev Told : State → Type 0
  Told after = TellsLost types f S' (λ (l : Location). x ≡ l.local) after

  module _ (p : Local) (there : slice_get f.locals x ≡ Some p) (own : shape types f.parameters x p ≡ p.ty) where
    typed : local_type types f x ≡ Some p.ty
    typed = sym (k.shaped x) ∙ ap (shape_of types f.parameters x) there ∙ ap Some own

    -- ---- a unique_ptr of it

    module _ (l : Location) (here : x ≡ l.local) (target : TyId) (is : type_in types f l ≡ variant.Unique target) where
      abbrev of : IsOfType types (location_type types f l) (variant.Unique target)
      of = location_of types k.ordered k.once 0 [] f k.shaped l (variant.Unique target) is refl

      typed_at : local_type types f l.local ≡ Some p.ty
      typed_at = ap (local_type types f) (sym here) ∙ typed

      within : type_within types (Some p.ty) l.members ≡ Some of.number
      within = ap (λ (o : Option TyId). type_within types o l.members) (sym typed_at) ∙ of.is

      told : is_told (ty_of types of.number) ≡ true
      told = ap (λ (o : Option Ty). is_told (or_void o)) of.there

      -- its local is no pointer, so an object
      object : object_at types f l.local ≡ true
      object = subst (λ y. object_at types f y ≡ true) here (go (object_at types f x) can)
        where
          by_members : (ms : List ℕ) → type_within types (Some p.ty) ms ≡ Some of.number → is_pointer (ty_of types p.ty) ≡ false
          by_members [] h = ap (λ (i : TyId). is_pointer (ty_of types i)) (some_same h) ∙ ap (λ (o : Option Ty). is_pointer (or_void o)) of.there
          by_members (m ∷ ms) h = ap is_pointer (structured types k.ordered p.ty m ms of.number h).1

          pointerless : is_pointer (type_at types f x) ≡ false
          pointerless = ap (λ (o : Option TyId). is_pointer (ty_if types o)) (k.shaped x ∙ typed) ∙ by_members l.members within

          go : (b : Bool) → (b || (register_at types f x && (is_pointer (type_at types f x) && not (is_reference (type_at types f x))))) ≡ true → b ≡ true
          go true h = refl
          go false h = absurd (false≢true (sym pointerless ∙ (and_parts (is_pointer (type_at types f x)) _ (and_parts (register_at types f x) _ h).1).0))

      exact : path (located l) ≡ l.members
      exact = exact_path l.members (local_place l.local) refl (location_short types k.ordered f k.shaped k.short l of.number object of.is)

      type_is : ty_if types (members_type types (own_type (slice_get f.locals x)) (path (located l))) ≡ variant.Unique target
      type_is =
          ap (λ (o : Option Local). ty_if types (members_type types (own_type o) (path (located l)))) there
          ∙ ap (λ (ms : List ℕ). ty_if types (members_type types (Some p.ty) ms)) exact
          ∙ ap (λ (o : Option TyId). ty_if types (members_type types o l.members)) (sym typed ∙ sym (k.shaped x) ∙ ap (shapes.local_type types f) here) ∙ is

      null_fact : S' (fact_at (located l) element.Null)
      null_fact =
          right.closed.none (fact_at (located l) element.Null) ((is_of_iff types f (fact_at (located l) element.Null)).1 (location_listed types k.ordered f k.shaped l of.number of.is told, null_known types k.ordered f))
          (flat_map_into (born_facts types f place x form) (locations_of_local types f x) (located l) (fact_at (located l) element.Null)
          (subst (λ (o : Option Local). Contains (locations_at types f.parameters x o) (located l)) (sym there) (subst (λ y. Contains (local_locations types f.parameters x p) (members_place (local_place y) l.members)) here
          (local_told types k.ordered f.parameters x p l.members of.number (subst (λ (id : TyId). type_within types (Some id) l.members ≡ Some of.number) (sym own) within) told)))
          (subst (λ (o : Option Element). Contains (facts_at (located l) o) (fact_at (located l) element.Null)) (sym (ap (born place x form) type_is)) (at_head (fact_at (located l) element.Null) [])))

      lies : LiesWithin types p.ty (word_within types (Some p.ty) l.members) of.number
      lies = path_within types k.ordered p.ty of.number l.members within

      parts : parts_at types of.number ≡ Unique target (parts_at types target)
      parts = parts_typed types k.ordered of.number (variant.Unique target) of.there

      one : width_at types of.number ≡ 1
      one = ap width parts

      owner : kind_in (parts_at types p.ty) (word_within types (Some p.ty) l.members) ≡ Owner
      owner = ap (kind_in (parts_at types p.ty)) (nothing (word_within types (Some p.ty) l.members)) ∙ lies.words 0 (omega (arith, one)) ∙ ap (λ (q : Parts). kind_in q 0) parts

      part : HasPart types p.ty (word_within types (Some p.ty) l.members) of.number
      part = subst (λ w. HasPart types p.ty w of.number) (begun (word_within types (Some p.ty) l.members)) (path_part types p.ty p.ty of.number 0 l.members (itself 0 p.ty refl refl) within)

      bufferless : is_buffer_at (parts_at types p.ty) (word_within types (Some p.ty) l.members) ≡ false
      bufferless =
          ap (is_buffer_at (parts_at types p.ty)) (nothing (word_within types (Some p.ty) l.members)) ∙ part_words types k.ordered p.ty (word_within types (Some p.ty) l.members) of.number part 0 (omega (arith, one)) ∙ ap (λ (q : Parts). is_buffer_at q 0) parts

      -- it has nothing in a new object
      null_told : (c : Content) (m : ℕ) → AreNull types p.ty c m → IsOwnerTold S' (located l) true (had_at c m (word_in types f l))
      null_told c m null =
          let has = ap (λ (o : Option TyId). had_at c m (word_within types o l.members)) typed_at ∙ null (word_within types (Some p.ty) l.members) (let fits = lies.fits in omega (arith, fits, one)) owner bufferless in
          record { known = element.Null; holds = null_fact; covers = subst (CoversOwner true element.Null) (sym has) tt }

    -- ---- as it comes to life

    new_named : (y : Cell) (m : ℕ) (l : Location) → x ≡ l.local → slice_get (slice_set st.cells x y) l.local ≡ Some (Named m) → y ≡ Named m
    new_named y m l here e = ⊎_elim (λ h. h.1) (λ h. absurd (h.0 here)) (cell_cases st.cells x l.local y (Named m) e)

    -- a pointer names nothing
    points_told : (v : Pointer) → Told (put_cell x (Points v) st)
    points_told v l m here e unique = absurd (unlike (new_named (Points v) m l here e))
      where
        unlike : Points v ≡ Named m → ⊥
        unlike h = cc

    owner_told : OnNext (born_owner s p.ty (parts_at types p.ty) form x st) Told
    owner_told =
        on_got_next (object_with s p.ty (parts_at types p.ty) (fresh s form (parts_at types p.ty)) st.world.content) (λ b. Next (put_cell x (Named b.0) (put_content b.1 st))) (λ b. AreNull types p.ty b.1 b.0) Told
        (uniques_born types k.ordered (hand_of rest st) st.world.content (store_of types f rest inputs S st k) s p.ty form)
        (λ b null l m here e unique.
        let u = unique_is (type_in types f l) unique in
        subst (λ i. IsOwnerTold S' (located l) true (had_at b.1 i (word_in types f l))) (named_once (new_named (Named b.0) m l here e)) (null_told l here u.0 u.1 b.1 b.0 null))

    -- a value is none
    value_told : parts_at types p.ty ≡ Single → OnNext (born_object s p.ty x st) Told
    value_told single = if_room (nat_lt s.given.cells (live_words_of st.world.content + (2 + 1 * 1)))
      where
        if_room : (b : Bool) → OnNext (cond b (Traps trap.Cells) (Next (put_cell x (Named st.world.content.births) (put_content (with_value_object p.ty st.world.content) st)))) Told
        if_room true = tt
        if_room false = λ l m here e unique. let u = unique_is (type_in types f l) unique in absurd (unlike_plain (sym (ap (λ (q : Parts). kind_in q (word_within types (Some p.ty) l.members)) single) ∙ owner l here u.0 u.1))

    of_parts : (q : Parts) → parts_at types p.ty ≡ q → OnNext (live_of s p.ty q form x st) Told
    of_parts Single e = tt
    of_parts Raw e = tt
    of_parts Iterates e = points_told Wild
    of_parts Views e = points_told empty_view
    of_parts (Text id) e = subst (λ (q : Parts). OnNext (born_owner s p.ty q form x st) Told) e owner_told
    of_parts (Vector id element) e = subst (λ (q : Parts). OnNext (born_owner s p.ty q form x st) Told) e owner_told
    of_parts (Unique id target) e = subst (λ (q : Parts). OnNext (born_owner s p.ty q form x st) Told) e owner_told
    of_parts (Member first others) e = subst (λ (q : Parts). OnNext (born_owner s p.ty q form x st) Told) e owner_told
    of_parts NoMember e = tt

    as_held : (h : Holding) → (h ≡ AnObject → parts_at types p.ty ≡ Single) → OnNext (live_as s types h p.ty form x st) Told
    as_held Blank single = of_parts (parts_at types p.ty) refl
    as_held AnObject single = value_told (single refl)
    as_held ANumber single = tt
    as_held APointer single = points_told (born_pointer form)
    as_held AView single = points_told empty_view

    over_cell : (v : Option Cell) (h : Holding) → (h ≡ AnObject → parts_at types p.ty ≡ Single) → OnNext (live_over s types v h p.ty form x st) Told
    over_cell None h single = tt
    over_cell (Some Empty) h single = as_held h single
    over_cell (Some (Named m)) h single = tt
    over_cell (Some (Number z)) h single = tt
    over_cell (Some (Points v)) h single = tt

  pub live_tells : slot_at types f x ≡ false → OnNext (does s types f (Live x form) st) (TellsLost types f S' (λ (l : Location). x ≡ l.local))
  live_tells free = by_local (slice_get f.locals x) refl
    where
      own : (u : Local) → slice_get f.locals x ≡ Some u → shape types f.parameters x u ≡ u.ty
      own u h = some_same (ap (shape_of types f.parameters x) (sym h) ∙ k.shaped x ∙ ap (held_type_if types) h ∙ ap Some (no_slot types u.ty (slice_get types.types u.ty.0) (ap (is_slot_local types f) (sym h) ∙ free)))

      by_local : (o : Option Local) → slice_get f.locals x ≡ o → OnNext (live_local s types f (slice_get f.locals x) form x st) Told
      by_local None e = subst (λ (o : Option Local). OnNext (live_local s types f o form x st) Told) (sym e) tt
      by_local (Some p) e = subst (λ (o : Option Local). OnNext (live_local s types f o form x st) Told) (sym e) (over_cell p e (own p e) (cell st x) (sort_of types f x) (object_parts types k.ordered f x p e))
