-- Instructions by which locals come to life and end settle.
use Rattle.std.proofs.Common.{◌≡◌, ℕ, ◌+◌, ◌*◌, ◌<◌, Bool, true, false, ◌&&◌, ◌||◌, not, List, [], ◌∷◌, length, option_map, Option, Some, None, refl, sym, ap, subst, ◌∙◌, arith}
use Rattle.std.proofs.lemmas.Bool.{and_parts, false≢true}
use Rattle.std.proofs.lemmas.Option.{slice_get-map}
use Rattle.std.specs.List.{list_all}
use Rattle.std.specs.Prelude.{nat_lt, slice_get, slice_set}
use Rattle.life_types.specs.Pointees.{or_void}
use Rattle.life_types.specs.Trees.{IsOrdered, members_at}
use Rattle.life_types.specs.TypeTests.{is_pointer, is_raw, is_reference}
use Rattle.life_types.specs.Types.{Types, class}
use Rattle.life_types.specs.declared.ty.Ty.{Ty}
use Rattle.life_types.specs.declared.ty.Ty.TheVariants as ty
use Rattle.life_types.specs.declared.ty.TyId.{TyId}
use Rattle.life_core.specs.declared.instr.Form.{Form}
use Rattle.life_core.specs.declared.instr.Form.TheVariants as form
use Rattle.life_core.specs.declared.program.Local.{Local}
use Rattle.life_core.specs.declared.program.LocalKind.{LocalKind}
use Rattle.life_core.specs.declared.program.LocalKind.TheVariants as kind
use Rattle.life_core.specs.Function.{Function}
use Rattle.life_core.specs.Holdings.{Holding, held_by, held_if, sort_of}
use Rattle.life_core.specs.Kinds.{has_kind, is_object, is_register}
use Rattle.life_core.specs.Ready.{CanLeave, IsBit, IsThere, Ready, set_bits}
use Rattle.life_pset.specs.Shapes.{ty_if}
use Rattle.life_proper.specs.Placed.{is_slot_local, object_at, result_at, slot_at, type_at}
use Rattle.life_proper.specs.WellFormed.{can_end, can_live}
use Rattle.life_proper.specs.WellFormedPrograms.{fits_kind}
use Rattle.life_store.specs.Births.{born_object, born_owner, end_cell, end_locals, end_object, live_as, live_local, live_of, live_over, with_value_object}
use Rattle.life_store.specs.Cells.{at}
use Rattle.life_store.specs.Content.{Content, Object, live_words_of}
use Rattle.life_store.specs.Effects.{Setting, Effect, Next, Traps, Faults, Strays, cell, on_next, put_cell, put_content}
use Rattle.life_store.specs.Owners.{born_pointer, empty_view, fresh, object_with}
use Rattle.life_store.specs.Parts.{Parts, Text, Vector, Unique, Member, Iterates, Views, characters_type, held_type_if, local_parts, parts_at, struct_of}
use Rattle.life_store.specs.State.{Pointer, Wild, Cell, Empty, Named, Number, Points, State, is_there, ready_of}
use Rattle.life_store.specs.declared.run.TrapKind.TheVariants as trap
use Rattle.life_store.proofs.CellLemmas.{empty_cell_is, none_some, ready_set, some_same}
use Rattle.life_forest.specs.FrameTypes.{Stands}
use Rattle.life_forest.specs.Frames.{OnNext}
use Rattle.life_forest.specs.Settled.{KindsFit, Settles}
use Rattle.life_forest.specs.Sorted.{AreSorted, Counts, PointerFits, sort_if}
use Rattle.life_forest.proofs.ReadyCells.{pointer_no_object}
use Rattle.life_forest.proofs.SeenTypes.{parts_typed}
use Rattle.life_forest.proofs.Settling.{settle_got, settle_if, sorted_put}
use Rattle.life_forest.proofs.SettlingEdits.{fresh_comes, object_comes}
use Rattle.life_forest.proofs.Shaped.{IsShaped, no_slot}
use Rattle.life_forest.proofs.StandingLives.{end_stands}

-- each struct has a member
abbrev pub HaveMembers : Types → Type 0
HaveMembers types = (number : ℕ) (ids : List TyId) → slice_get types.structs number ≡ Some ids → 0 < length ids

module _ (types : Types) (ordered : IsOrdered types) (f : Function) (kinds : KindsFit types f) where
  -- ---- a local comes to life

  module _ (some : HaveMembers types) (st : State) (sorted : AreSorted types f st.cells) (s : Setting) (x : ℕ) (l : Local) (there : slice_get f.locals x ≡ Some l) (own : type_at types f x ≡ or_void (slice_get types.types l.ty.0)) where
    abbrev behind : Ready
    behind = slice_set (ready_of st) x true

    named : (n : ℕ) (d : Content) → object_at types f x ≡ true → Settles types f behind (Next (put_cell x (Named n) (put_content d st)))
    named n d is = (ready_set st.cells x (Named n), sorted_put types f st.cells x (Named n) (ap (λ b. sort_if b (is_pointer (type_at types f x))) is) sorted)

    pointed : (p : Pointer) → is_pointer (type_at types f x) ≡ true → PointerFits (type_at types f x) p → Settles types f behind (Next (put_cell x (Points p) st))
    pointed p is fits = (
      ready_set st.cells x (Points p),
      sorted_put types f st.cells x (Points p) (ap (λ b. sort_if b (is_pointer (type_at types f x))) (pointer_no_object types f kinds x is) ∙ ap (sort_if false) is, fits) sorted,
    )

    value_born : object_at types f x ≡ true → Settles types f behind (born_object s l.ty x st)
    value_born is = settle_if types f behind (nat_lt s.given.cells (live_words_of st.world.content + (2 + 1 * 1))) (Traps trap.Cells) (Next (put_cell x (Named st.world.content.births) (put_content (with_value_object l.ty st.world.content) st))) tt (named st.world.content.births (with_value_object l.ty st.world.content) is)

    owner_born : (p : Parts) (how : Form) → object_at types f x ≡ true → Settles types f behind (born_owner s l.ty p how x st)
    owner_born p how is =
        settle_got types f behind (object_with s l.ty p (fresh s how p) st.world.content) (λ b. Next (put_cell x (Named b.0) (put_content b.1 st))) (λ b. Unit {0}) (object_comes s l.ty p (fresh s how p) st.world.content (λ d. fresh_comes s how p d)) (λ b h. named b.0 b.1 is)

    -- an owner or a struct, by its parts
    by_parts : (p : Parts) → parts_at types l.ty ≡ p → (how : Form) → Settles types f behind (live_of s l.ty p how x st) → Settles types f behind (live_of s l.ty (parts_at types l.ty) how x st)
    by_parts p is how h = subst (λ (q : Parts). Settles types f behind (live_of s l.ty q how x st)) (sym is) h

    struct_born : (number : ℕ) (how : Form) → slice_get types.types l.ty.0 ≡ Some (ty.Struct number) → object_at types f x ≡ true → Settles types f behind (live_of s l.ty (struct_of (parts_at types) (members_at types number)) how x st)
    struct_born number how e is = let below = ordered.parts l.ty.0 (ty.Struct number) e in go (members_at types number) (rw (below.there) (some number below.members below.there))
      where
        go : (ids : List TyId) → 0 < length ids → Settles types f behind (live_of s l.ty (struct_of (parts_at types) ids) how x st)
        go [] lt = absurd (omega arith)
        go (id ∷ ids) lt = owner_born (Member (parts_at types id) (struct_of (parts_at types) ids)) how is

    object_lives : (o : Option Ty) (how : Form) → slice_get types.types l.ty.0 ≡ o → fits_kind kind.Object (or_void o) ≡ true → object_at types f x ≡ true → Settles types f behind (live_as s types (held_if (class o) kind.Object o) l.ty how x st)
    object_lives (Some ty.Text) how e fits is = by_parts (Text (characters_type types)) (parts_typed types ordered l.ty ty.Text e) how (owner_born (Text (characters_type types)) how is)
    object_lives (Some (ty.Vector element)) how e fits is = by_parts (Vector element (parts_at types element)) (parts_typed types ordered l.ty (ty.Vector element) e) how (owner_born (Vector element (parts_at types element)) how is)
    object_lives (Some (ty.Unique target)) how e fits is = by_parts (Unique target (parts_at types target)) (parts_typed types ordered l.ty (ty.Unique target) e) how (owner_born (Unique target (parts_at types target)) how is)
    object_lives (Some (ty.Struct number)) how e fits is = by_parts (struct_of (parts_at types) (members_at types number)) (parts_typed types ordered l.ty (ty.Struct number) e) how (struct_born number how e is)
    object_lives (Some ty.View) how e fits is = absurd (false≢true fits)
    object_lives (Some (ty.Raw target constant)) how e fits is = absurd (false≢true fits)
    object_lives (Some (ty.Reference target constant)) how e fits is = absurd (false≢true fits)
    object_lives (Some (ty.Iterator target constant)) how e fits is = absurd (false≢true fits)
    object_lives (Some (ty.Span target constant)) how e fits is = absurd (false≢true fits)
    object_lives None how e fits is = value_born is
    object_lives (Some _) how e fits is = value_born is

    -- a pointer that isn't a reference
    null_fits : (t : Ty) (how : Form) → is_raw t ≡ true → PointerFits t (born_pointer how)
    null_fits t form.Plain raw = tt
    null_fits t form.Zero raw = raw

    pointer_lives : (o : Option Ty) (how : Form) → slice_get types.types l.ty.0 ≡ o → (is_pointer (or_void o) && not (is_reference (or_void o))) ≡ true → Settles types f behind (live_as s types (held_if (class o) kind.Register o) l.ty how x st)
    pointer_lives (Some (ty.Raw target constant)) how e h = pointed (born_pointer how) (ap is_pointer (own ∙ ap or_void e)) (null_fits (type_at types f x) how (ap is_raw (own ∙ ap or_void e)))
    pointer_lives (Some ty.View) how e h = pointed empty_view (ap is_pointer (own ∙ ap or_void e)) tt
    pointer_lives (Some (ty.Iterator target constant)) how e h = by_parts Iterates (parts_typed types ordered l.ty (ty.Iterator target constant) e) how (pointed Wild (ap is_pointer (own ∙ ap or_void e)) tt)
    pointer_lives (Some (ty.Span target constant)) how e h = by_parts Views (parts_typed types ordered l.ty (ty.Span target constant) e) how (pointed empty_view (ap is_pointer (own ∙ ap or_void e)) tt)
    pointer_lives None how e h = absurd (false≢true h)
    pointer_lives (Some _) how e h = absurd (false≢true h)

    by_kind : (k : LocalKind) (how : Form) → l.kind ≡ k → (is_object k || (is_register k && (is_pointer (or_void (slice_get types.types l.ty.0)) && not (is_reference (or_void (slice_get types.types l.ty.0)))))) ≡ true
        → Settles types f behind (live_as s types (held_if (class (slice_get types.types l.ty.0)) k (slice_get types.types l.ty.0)) l.ty how x st)
    by_kind kind.Object how e h =
        object_lives (slice_get types.types l.ty.0) how refl (subst (λ (t : Ty). fits_kind kind.Object t ≡ true) own (subst (λ (k : LocalKind). fits_kind k (type_at types f x) ≡ true) e (kinds x l there))) (ap (has_kind is_object) there ∙ ap is_object e)
    by_kind kind.Register how e h = pointer_lives (slice_get types.types l.ty.0) how refl h
    by_kind kind.Range how e h = absurd (false≢true h)

  pub lives_settle : (some : HaveMembers types) (shaped : IsShaped types f) (texts : ℕ) (fs : List Function) (st : State) → AreSorted types f st.cells → (s : Setting) (x : ℕ) (how : Form) → can_live types texts fs f x ≡ true → slot_at types f x ≡ false → IsBit (ready_of st) x false
      → Settles types f (slice_set (ready_of st) x true) (live_local s types f (slice_get f.locals x) how x st)
  lives_settle some shaped texts fs st sorted s x how e free bit = go (slice_get f.locals x) refl e free
    where
      go : (o : Option Local) → slice_get f.locals x ≡ o → (has_kind is_object o || (has_kind is_register o && (is_pointer (type_at types f x) && not (is_reference (type_at types f x))))) ≡ true → is_slot_local types f o ≡ false
          → Settles types f (slice_set (ready_of st) x true) (live_local s types f o how x st)
      go None there h k = absurd (false≢true h)
      go (Some l) there h k =
          let own : type_at types f x ≡ or_void (slice_get types.types l.ty.0) = ap (ty_if types) (shaped x ∙ ap (held_type_if types) there) ∙ ap (λ (id : TyId). or_void (slice_get types.types id.0)) (no_slot types l.ty (slice_get types.types l.ty.0) k) in
          subst (λ (v : Option Cell). Settles types f (slice_set (ready_of st) x true) (live_over s types v (sort_of types f x) l.ty how x st)) (sym (empty_cell_is st.cells x bit))
          (subst (λ (held : Holding). Settles types f (slice_set (ready_of st) x true) (live_as s types held l.ty how x st)) (sym (ap (held_by types) there))
          (by_kind some st sorted s x l there own l.kind how refl (subst (λ (t : Ty). (is_object l.kind || (is_register l.kind && (is_pointer t && not (is_reference t)))) ≡ true) own h)))

  -- ---- what ends

  ends_one : (rest : ℕ → ℕ) (st : State) → Stands types f rest st → AreSorted types f st.cells → (x : ℕ) → (object_at types f x || is_pointer (type_at types f x)) ≡ true → IsThere (ready_of st) x → Settles types f (slice_set (ready_of st) x false) (end_cell (local_parts types f x) (cell st x) x st)
  ends_one rest st stands sorted x e there = go (slice_get st.cells x) refl (sym (slice_get-map is_there st.cells x) ∙ there)
    where
      emptied : (d : Content) → Settles types f (slice_set (ready_of st) x false) (Next (put_cell x Empty (put_content d st)))
      emptied d = (ready_set st.cells x Empty, sorted_put types f st.cells x Empty tt sorted)

      no_number : (object pointer : Bool) → (object || pointer) ≡ true → sort_if object pointer ≡ Counts → ⊥
      no_number true pointer h k = cc
      no_number false true h k = cc
      no_number false false h k = false≢true h

      over : (n : ℕ) (o : Object) (x' : Option Object) → x' ≡ Some o → Settles types f (slice_set (ready_of st) x false) (end_object (local_parts types f x) x' n x st)
      over n o None k = absurd (none_some k)
      over n o (Some q) k = emptied st.world.content

      go : (o : Option Cell) → slice_get st.cells x ≡ o → option_map is_there o ≡ Some true → Settles types f (slice_set (ready_of st) x false) (end_cell (local_parts types f x) o x st)
      go None k i = absurd (none_some i)
      go (Some Empty) k i = absurd (false≢true (some_same i))
      go (Some (Number z)) k i = absurd (no_number (object_at types f x) (is_pointer (type_at types f x)) e (sorted x (Number z) k))
      go (Some (Points p)) k i = emptied st.world.content
      go (Some (Named n)) k i = let v = stands.frame.objects x n k in over n v.object (at st.world.content.objects n) v.there

  pub ends_settle : (texts : ℕ) (fs : List Function) (rest : ℕ → ℕ) (xs : List ℕ) (st : State) → Stands types f rest st → AreSorted types f st.cells → list_all (can_end types texts fs f) xs ≡ true → CanLeave (ready_of st) xs
      → Settles types f (set_bits false xs (ready_of st)) (end_locals types f xs st)
  ends_settle texts fs rest [] st stands sorted e leaves = (refl, sorted)
  ends_settle texts fs rest (x ∷ xs) st stands sorted e leaves =
      let both = and_parts (can_end types texts fs f x) (list_all (can_end types texts fs f) xs) e in
      let can = (and_parts (object_at types f x || is_pointer (type_at types f x)) (not (result_at types f x) && not (slot_at types f x)) both.0).0 in
      go (end_cell (local_parts types f x) (cell st x) x st) (ends_one rest st stands sorted x can leaves.0) (end_stands types ordered f rest st stands x)
      (λ after stands' bits sorted'. subst (λ (b : Ready). Settles types f (set_bits false xs b) (end_locals types f xs after)) bits (ends_settle texts fs rest xs after stands' sorted' both.1 (subst (λ (b : Ready). CanLeave b xs) (sym bits) leaves.1)))
    where
      go : (effect : Effect) → Settles types f (slice_set (ready_of st) x false) effect → OnNext effect (Stands types f rest)
          → ((after : State) → Stands types f rest after → ready_of after ≡ slice_set (ready_of st) x false → AreSorted types f after.cells → Settles types f (set_bits false xs (slice_set (ready_of st) x false)) (end_locals types f xs after))
          → Settles types f (set_bits false xs (slice_set (ready_of st) x false)) (on_next effect (end_locals types f xs))
      go (Next after) settled h more = more after h settled.0 settled.1
      go (Traps kind) settled h more = tt
      go (Faults kind) settled h more = tt
      go Strays settled h more = settled
