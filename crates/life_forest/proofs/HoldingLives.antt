-- Where locals come to life and end, the objects of the frame hold well.
use Rattle.std.proofs.Common.{◌≡◌, inr, ⊎_elim, ℕ, suc, ◌+◌, ◌*◌, Bool, true, false, List, [], ◌∷◌, length, Option, Some, None, refl, sym, ap, subst, ◌∙◌, arith}
use Rattle.std.specs.Prelude.{cond, drop, nat_lt, slice_get, take}
use Rattle.life_types.specs.Trees.{IsOrdered, tree_at}
use Rattle.life_types.specs.Types.{Types}
use Rattle.life_types.specs.declared.ty.TyId.{TyId}
use Rattle.life_core.specs.declared.instr.Form.{Form}
use Rattle.life_core.specs.declared.program.Local.{Local}
use Rattle.life_core.specs.Function.{Function}
use Rattle.life_core.specs.Holdings.{Holding, Blank, AnObject, ANumber, APointer, AView, sort_of}
use Rattle.life_proper.specs.WellFormedPrograms.{may_stand}
use Rattle.life_store.specs.Births.{born_object, born_owner, end_cell, end_locals, end_object, live_as, live_local, live_of, live_over, with_value_object}
use Rattle.life_store.specs.Cells.{at, at-set_same}
use Rattle.life_store.specs.Content.{Object, Content, live_words_of, newborn, with_birth, without}
use Rattle.life_store.specs.Effects.{Setting, Got, Effect, Next, Traps, Faults, Strays, cell, on_next, put_cell, put_content, then_get}
use Rattle.life_store.specs.Held.{pointer_in, resized_at, resized_if, slots_if, words_at, words_if, wrote}
use Rattle.life_store.specs.Owners.{born_pointer, empty_view, ended, fresh, object_with, sized_birth}
use Rattle.life_store.specs.Parts.{Parts, Single, Raw, Iterates, Views, Text, Vector, Unique, Member, NoMember, local_parts, local_type, parts_at, width, width_at}
use Rattle.life_store.specs.State.{Pointer, Null, Wild, To, Static, Cell, Empty, Named, Number, Points, State}
use Rattle.life_store.specs.declared.run.TrapKind.TheVariants as trap
use Rattle.life_store.proofs.CellLemmas.{cell_cases, some_same}
use Rattle.life_forest.specs.Begins.{begins_at}
use Rattle.life_forest.specs.FrameTypes.{IsOfText, PointsWell, Stands, seen_type}
use Rattle.life_forest.specs.Frames.{OnNext, named_in}
use Rattle.life_forest.specs.HeldPointers.{HoldWell, HoldsWell}
use Rattle.life_forest.specs.Kinds.{kinds_of, rank_of}
use Rattle.life_forest.specs.Owned.{times}
use Rattle.life_forest.specs.Sorted.{PointerFits}
use Rattle.life_forest.specs.Typed.{IsStore}
use Rattle.life_forest.proofs.Coming.{CameWords, IfGot, fresh_came, got_then}
use Rattle.life_forest.proofs.Copying.{Sized, sized_birth_came}
use Rattle.life_forest.proofs.FittingBirths.{got_both}
use Rattle.life_forest.proofs.Following.{IsOwned}
use Rattle.life_forest.proofs.Frames.{on_got_next}
use Rattle.life_forest.proofs.FreshPointers.{FreshWords, IsNew, NoReference, fresh_pointers}
use Rattle.life_forest.proofs.Holding.{Holds, KeepsHeld, KeepsOn, held_cell, held_content, held_holds, held_self, keeps_waiting, named_holds, next_holds, on_next_holds}
use Rattle.life_forest.proofs.HoldingWrites.{first_wide, first_written}
use Rattle.life_forest.proofs.Keeping.{BornKeeps, ended_keeps, fresh_keeps, keeps_birth, keeps_resized, keeps_self, keeps_without, object_keeps}
use Rattle.life_forest.proofs.BegunPointers.{begun_at}
use Rattle.life_forest.proofs.Laying.{laid_at}
use Rattle.life_forest.proofs.MemberPointers.{part_back, sets}
use Rattle.life_forest.proofs.Puts.{puts_in, wrote_is}
use Rattle.life_forest.proofs.StandingLives.{end_stands}

-- what points to nothing points well
new_well : (types : Types) (d : Content) (id : Option TyId) (p : Pointer) → IsNew p → PointsWell types d id p
new_well types d id Null new = tt
new_well types d id Wild new = tt
new_well types d id (To t) new = absurd new
new_well types d id (Static s) new = subst (λ (n : Option ℕ). IsOfText types id n) (sym new) tt

-- ---- an object that comes to life

module _ (types : Types) (ordered : IsOrdered types) (hand : ℕ → ℕ) (c : Content) (store : IsStore types hand c) where
  pub born_holds : (s : Setting) (ty : TyId) (how : Form) → NoReference (tree_at types ty) → may_stand (tree_at types ty) ≡ true
      → IfGot (object_with s ty (parts_at types ty) (fresh s how (parts_at types ty)) c) (λ b. HoldsWell types b.1 b.0 ty)
  born_holds s ty how member stand =
      got_then (sized_birth s ty (width (parts_at types ty)) 1 c) (λ b. then_get (fresh s how (parts_at types ty) b.1) (λ v. Got (b.0, wrote b.0 0 0 v.0 v.1)))
      (Sized (kinds_of types) (suc (rank_of types ty)) hand ty (width (parts_at types ty)) 1 c) (λ b. HoldsWell types b.1 b.0 ty)
      (sized_birth_came (kinds_of types) (suc (rank_of types ty)) hand ty (width (parts_at types ty)) 1 c (omega arith) store.forest s)
      (λ b sized. got_then (fresh s how (parts_at types ty) b.1) (λ v. Got (b.0, wrote b.0 0 0 v.0 v.1))
      (λ v. CameWords (kinds_of types) (rank_of types ty) (λ k. times (b.0 ∷ []) k + hand k) (parts_at types ty) b.1 v × FreshWords types (width_at types ty) (begins_at types ty) v.0) (λ x. HoldsWell types x.1 x.0 ty)
      (got_both (fresh s how (parts_at types ty) b.1) (CameWords (kinds_of types) (rank_of types ty) (λ k. times (b.0 ∷ []) k + hand k) (parts_at types ty) b.1) (λ v. FreshWords types (width_at types ty) (begins_at types ty) v.0)
      (fresh_came (kinds_of types) s how (parts_at types ty) (rank_of types ty) (laid_at types ordered ty) (λ k. times (b.0 ∷ []) k + hand k) b.1 sized.came.forest)
      (fresh_pointers types ordered s how ty member stand b.1))
      (λ v h. written b.0 v.1 sized.object (h.0.0.same b.0 (sized.came.forest.births b.0 sized.object sized.there) ∙ sized.there)
      (first_wide (width_at types ty) sized.object.slots (let e = sized.count in omega (arith, e)) sized.wide) v.0 h.1))
    where
      written : (n : ℕ) (d : Content) (o : Object) → at d.objects n ≡ Some o → length (words_if (slice_get o.slots 0)) ≡ width_at types ty → (vs : List ℕ) → FreshWords types (width_at types ty) (begins_at types ty) vs → HoldsWell types (wrote n 0 0 vs d) n ty
      written n d o there long vs words = record {
        aims = λ u q begins. new_well types (wrote n 0 0 vs d) (seen_type types (Some q)) (pointer_in (words_at (wrote n 0 0 vs d) n 0 u 5)) (subst (λ (ws : List ℕ). IsNew (pointer_in ws)) (sym (read u q begins)) (words.new u q begins));
        fits = λ u q t begins type. subst (λ (ws : List ℕ). PointerFits t (pointer_in ws)) (sym (read u q begins)) (words.fits u q t begins type);
      }
        where
          read : (u : ℕ) (q : TyId) → begins_at types ty u ≡ Some q → words_at (wrote n 0 0 vs d) n 0 u 5 ≡ take 5 (drop u vs)
          read u q begins =
              let none : u ≡ 0 + u = omega arith in
              let five = (begun_at types ordered ty u q begins).fits in
              let wide = words.wide in
              ap (λ (e : Content). words_at e n 0 u 5) (wrote_is d n 0 0 vs o there)
              ∙ ap (λ (x : Option Object). take 5 (drop u (words_if (slice_get (slots_if x) 0)))) (at-set_same d.objects n n (record o { slots = puts_in 0 0 vs o.slots }) refl)
              ∙ ap (λ (ws : List ℕ). take 5 (drop u ws)) (first_written 0 vs o.slots)
              ∙ ap (λ (k : ℕ). take 5 (drop k (sets 0 vs (words_if (slice_get o.slots 0))))) none
              ∙ part_back 0 vs (words_if (slice_get o.slots 0)) (omega (arith, long, wide)) u 5 (omega (arith, five, wide))

module _ (types : Types) (ordered : IsOrdered types) (f : Function) (rest : ℕ → ℕ) (st : State) (stands : Stands types f rest st) (held : HoldWell types f st) where
  abbrev c : Content
  c = st.world.content

  abbrev Loose : ℕ → Type 0
  Loose n = IsOwned types st.world.content n

  -- a cell names an object that holds well
  pub object_lives : (x : ℕ) (ty : TyId) (d : Content) (n : ℕ) → local_type types f x ≡ Some ty → KeepsOn types f st d → HoldsWell types d n ty → Holds types f rest st (put_cell x (Named n) (put_content d st))
  object_lives x ty d n typed keeps well = record { well = λ y m id named typed_y. names y m id named typed_y; waits = keeps_waiting types f rest st stands d keeps }
    where
      one : (a b : ℕ) → Named a ≡ Named b → a ≡ b
      one a b e = cc

      names : (y m : ℕ) (id : TyId) → cell (put_cell x (Named n) (put_content d st)) y ≡ Some (Named m) → local_type types f y ≡ Some id → HoldsWell types d m id
      names y m id named typed_y =
          ⊎_elim
          (λ h. subst (λ (k : ℕ). HoldsWell types d k id) (one n m h.1) (subst (HoldsWell types d n) (some_same (sym typed ∙ ap (local_type types f) h.0 ∙ typed_y)) well))
          (λ h. named_holds types f rest st stands d keeps y m id h.1 typed_y (held y m id h.1 typed_y))
          (cell_cases st.cells x y (Named n) (Named m) named)

  pub owner_holds : (s : Setting) (x : ℕ) (ty : TyId) (how : Form) → local_type types f x ≡ Some ty → NoReference (tree_at types ty) → may_stand (tree_at types ty) ≡ true → OnNext (born_owner s ty (parts_at types ty) how x st) (Holds types f rest st)
  owner_holds s x ty how typed member stand =
      on_got_next (object_with s ty (parts_at types ty) (fresh s how (parts_at types ty)) c) (λ b. Next (put_cell x (Named b.0) (put_content b.1 st))) (λ b. BornKeeps types ordered Loose c b × HoldsWell types b.1 b.0 ty) (Holds types f rest st)
      (got_both (object_with s ty (parts_at types ty) (fresh s how (parts_at types ty)) c) (BornKeeps types ordered Loose c) (λ b. HoldsWell types b.1 b.0 ty)
      (object_keeps types ordered Loose c s ty (parts_at types ty) (fresh s how (parts_at types ty)) c (keeps_self types Loose c) (λ e h. fresh_keeps types ordered Loose c s how (parts_at types ty) e h))
      (born_holds types ordered (λ k. times (named_in st.cells) k + rest k) c stands.store s ty how member stand))
      (λ b h. object_lives x ty b.1 b.0 typed h.0.1 h.1)

  -- a value has no pointers
  pub value_holds : (s : Setting) (x : ℕ) (ty : TyId) → local_type types f x ≡ Some ty → width_at types ty ≡ 1 → OnNext (born_object s ty x st) (Holds types f rest st)
  value_holds s x ty typed wide = if_room (nat_lt s.given.cells (live_words_of c + (2 + 1 * 1))) (object_lives x ty (with_value_object ty c) c.births typed keeps none)
    where
      if_room : (b : Bool) → Holds types f rest st (put_cell x (Named st.world.content.births) (put_content (with_value_object ty st.world.content) st))
          → OnNext (cond b (Traps trap.Cells) (Next (put_cell x (Named st.world.content.births) (put_content (with_value_object ty st.world.content) st)))) (Holds types f rest st)
      if_room true h = tt
      if_room false h = h

      no_pointer : (u : ℕ) (q : TyId) → begins_at types ty u ≡ Some q → ⊥
      no_pointer u q begins = let five = (begun_at types ordered ty u q begins).fits in omega (arith, five, wide)

      none : HoldsWell types (with_value_object ty st.world.content) st.world.content.births ty
      none = record { aims = λ u q begins. absurd (no_pointer u q begins); fits = λ u q t begins there. absurd (no_pointer u q begins) }

      keeps : KeepsOn types f st (with_value_object ty st.world.content)
      keeps =
          subst (KeepsOn types f st) same (keeps_resized types ordered Loose c c.births 1 0 (with_birth ty 1 1 c) (inr (omega arith)) (keeps_birth types ordered Loose c ty 1 1 c (keeps_self types Loose c)))
        where
          same : resized_at c.births 1 0 (with_birth ty 1 1 c) ≡ with_value_object ty c
          same = ap (λ (o : Option Object). resized_if o c.births 1 0 (with_birth ty 1 1 c)) (at-set_same c.objects c.births c.births (newborn ty 1 1 c.clock) refl)

  -- ---- a local comes to life

  pointer_lives : (x : ℕ) (p : Pointer) → Holds types f rest st (put_cell x (Points p) st)
  pointer_lives x p = held_holds types f rest st stands (put_cell x (Points p) st) (held_cell types f st st x (Points p) unlike (held_self types f st)) held
    where
      unlike : (n : ℕ) → Points p ≡ Named n → ⊥
      unlike n e = cc

  -- .. by its type
  module _ (s : Setting) (x : ℕ) (how : Form) (ty : TyId) (local : local_type types f x ≡ Some ty) (member : NoReference (tree_at types ty)) (stand : may_stand (tree_at types ty) ≡ true) where
    of_parts : (p : Parts) → parts_at types ty ≡ p → OnNext (live_of s ty p how x st) (Holds types f rest st)
    of_parts Single is = tt
    of_parts Raw is = tt
    of_parts Iterates is = pointer_lives x Wild
    of_parts Views is = pointer_lives x empty_view
    of_parts (Text id) is = subst (λ (p : Parts). OnNext (born_owner s ty p how x st) (Holds types f rest st)) is (owner_holds s x ty how local member stand)
    of_parts (Vector id element) is = subst (λ (p : Parts). OnNext (born_owner s ty p how x st) (Holds types f rest st)) is (owner_holds s x ty how local member stand)
    of_parts (Unique id target) is = subst (λ (p : Parts). OnNext (born_owner s ty p how x st) (Holds types f rest st)) is (owner_holds s x ty how local member stand)
    of_parts (Member first others) is = subst (λ (p : Parts). OnNext (born_owner s ty p how x st) (Holds types f rest st)) is (owner_holds s x ty how local member stand)
    of_parts NoMember is = tt

    of_sort : (sort : Holding) → (sort ≡ AnObject → width_at types ty ≡ 1) → OnNext (live_as s types sort ty how x st) (Holds types f rest st)
    of_sort Blank wide = of_parts (parts_at types ty) refl
    of_sort AnObject wide = value_holds s x ty local (wide refl)
    of_sort ANumber wide = tt
    of_sort APointer wide = pointer_lives x (born_pointer how)
    of_sort AView wide = pointer_lives x empty_view

    lives_over : (o : Option Cell) → (sort_of types f x ≡ AnObject → width_at types ty ≡ 1) → OnNext (live_over s types o (sort_of types f x) ty how x st) (Holds types f rest st)
    lives_over None wide = tt
    lives_over (Some Empty) wide = of_sort (sort_of types f x) wide
    lives_over (Some (Named n)) wide = tt
    lives_over (Some (Number z)) wide = tt
    lives_over (Some (Points p)) wide = tt

  -- what a local is that may come to life: of its type, which is no reference
  pub record IsLiving (x : ℕ) (l : Local) : Type 0 where
    pub local : local_type types f x ≡ Some l.ty
    pub value : sort_of types f x ≡ AnObject → width_at types l.ty ≡ 1
    pub member : NoReference (tree_at types l.ty)
    pub stand : may_stand (tree_at types l.ty) ≡ true

  pub lives_hold : (s : Setting) (x : ℕ) (how : Form) → ((l : Local) → slice_get f.locals x ≡ Some l → IsLiving x l) → OnNext (live_local s types f (slice_get f.locals x) how x st) (Holds types f rest st)
  lives_hold s x how typed = go (slice_get f.locals x) (λ l e. typed l e)
    where
      go : (o : Option Local) → ((l : Local) → o ≡ Some l → IsLiving x l) → OnNext (live_local s types f o how x st) (Holds types f rest st)
      go None h = tt
      go (Some l) h = let t = h l refl in lives_over s x how l.ty t.local t.member t.stand (cell st x) t.value

  -- ---- what ends

  end_holds : (x : ℕ) → OnNext (end_cell (local_parts types f x) (cell st x) x st) (Holds types f rest st)
  end_holds x = next_holds types f rest st stands (end_cell (local_parts types f x) (cell st x) x st) held (over (cell st x))
    where
      unlike : (n : ℕ) → Empty ≡ Named n → ⊥
      unlike n e = cc

      object : (n : ℕ) (o : Option Object) → OnNext (end_object (local_parts types f x) o n x st) (KeepsHeld types f st)
      object n None = tt
      object n (Some o) =
          held_cell types f st (put_content (without n (ended (local_parts types f x) (words_if (slice_get o.slots 0)) c)) st) x Empty unlike
          (held_content types f st _ (keeps_without types ordered Loose c n (ended (local_parts types f x) (words_if (slice_get o.slots 0)) c) (ended_keeps types ordered Loose c (local_parts types f x) (words_if (slice_get o.slots 0)) c (keeps_self types Loose c))))

      over : (v : Option Cell) → OnNext (end_cell (local_parts types f x) v x st) (KeepsHeld types f st)
      over None = tt
      over (Some Empty) = tt
      over (Some (Number z)) = tt
      over (Some (Points p)) = held_cell types f st st x Empty unlike (held_self types f st)
      over (Some (Named n)) = object n (at c.objects n)

-- one after the other
pub ends_hold : (types : Types) (ordered : IsOrdered types) (f : Function) (rest : ℕ → ℕ) (xs : List ℕ) (st : State) → Stands types f rest st → HoldWell types f st → OnNext (end_locals types f xs st) (Holds types f rest st)
ends_hold types ordered f rest [] st stands held = held_holds types f rest st stands st (held_self types f st) held
ends_hold types ordered f rest (x ∷ xs) st stands held =
    go (end_cell (local_parts types f x) (cell st x) x st) (end_stands types ordered f rest st stands x) (end_holds types ordered f rest st stands held x) (λ after h k. ends_hold types ordered f rest xs after h k)
  where
    go : (e : Effect) → OnNext e (Stands types f rest) → OnNext e (Holds types f rest st) → ((after : State) → Stands types f rest after → HoldWell types f after → OnNext (end_locals types f xs after) (Holds types f rest after)) → OnNext (on_next e (end_locals types f xs)) (Holds types f rest st)
    go (Next after) h k more = on_next_holds types f rest st after (end_locals types f xs after) k (more after h k.well)
    go (Traps kind) h k more = tt
    go (Faults kind) h k more = tt
    go Strays h k more = tt
