-- A frame stands where its locals come to life and end.
use Rattle.std.proofs.Common.{◌≡◌, ℕ, suc, ◌+◌, ◌*◌, Bool, true, false, List, [], ◌∷◌, length, Option, Some, None, refl, sym, ap, subst, ◌∙◌, arith, ⊎_elim, inr}
use Rattle.std.specs.Prelude.{cond, nat_lt, slice_get}
use Rattle.life_types.specs.Trees.{IsOrdered}
use Rattle.life_types.specs.Types.{Types}
use Rattle.life_types.specs.declared.ty.TyId.{TyId}
use Rattle.life_core.specs.declared.instr.Form.{Form}
use Rattle.life_core.specs.Function.{Function}
use Rattle.life_store.specs.Births.{born_object, born_owner, end_cell, end_locals, end_object, with_value_object}
use Rattle.life_store.specs.Cells.{at, at-set_same}
use Rattle.life_store.specs.Content.{Object, Content, live_words_of, newborn, with_birth, without}
use Rattle.life_store.specs.Effects.{Setting, Got, Effect, Next, Traps, Faults, Strays, cell, on_next, put_cell, put_content, then_get}
use Rattle.life_store.specs.Held.{resized_at, resized_if, words_if, wrote}
use Rattle.life_store.specs.Owners.{ended, fresh, object_with, sized_birth}
use Rattle.life_store.specs.Parts.{local_parts, local_type, parts_at, parts_if, width, width_at}
use Rattle.life_store.specs.State.{Cell, Empty, Named, Number, Points, State}
use Rattle.life_store.specs.declared.run.TrapKind.TheVariants as trap
use Rattle.life_store.proofs.CellLemmas.{some_same}
use Rattle.life_store.proofs.Housing.{born_cases, value_object}
use Rattle.life_forest.specs.FrameTypes.{IsVariable, Stands}
use Rattle.life_forest.specs.Frames.{OnNext, named_in}
use Rattle.life_forest.specs.Kinds.{kinds_of, rank_of}
use Rattle.life_forest.specs.Owned.{times}
use Rattle.life_forest.proofs.Coming.{IfGot, fresh_came, got_then}
use Rattle.life_forest.proofs.Copying.{Sized, sized_birth_came}
use Rattle.life_forest.proofs.FittingBirths.{got_both}
use Rattle.life_forest.proofs.Frames.{local_ends, on_got_next, owner_lives, value_lives}
use Rattle.life_forest.proofs.Following.{Follows, IsOwned, follows_empty, follows_object, follows_stands, next_stands, one_slot}
use Rattle.life_forest.proofs.Laying.{laid_at}
use Rattle.life_forest.proofs.Objects.{IsThere, object_there}
use Rattle.life_forest.proofs.StandingPointers.{written_keeps}
use Rattle.life_forest.proofs.Staying.{BornStays, Stays, ended_stays, fresh_stays, object_stays, stays_birth, stays_resized, stays_self, stays_without, stays_wrote}

module _ (types : Types) (ordered : IsOrdered types) (f : Function) (rest : ℕ → ℕ) (st : State) (stands : Stands types f rest st) where
  abbrev c : Content
  c = st.world.content

  abbrev has : ℕ → ℕ
  has k = times (named_in st.cells) k + rest k

  -- ---- an owner or a struct

  -- the new object has one slot
  born_one : (s : Setting) (ty : TyId) (form : Form)
      → IfGot (object_with s ty (parts_at types ty) (fresh s form (parts_at types ty)) st.world.content) (λ b. IsThere (kinds_of types) ty (parts_at types ty) (λ u. refl) b → IsVariable b.1 (Some ty) b.0)
  born_one s ty form =
      let p = parts_at types ty in
      got_then (sized_birth s ty (width p) 1 c) (λ b. then_get (fresh s form p b.1) (λ v. Got (b.0, wrote b.0 0 0 v.0 v.1)))
      (Sized (kinds_of types) (suc (rank_of types ty)) (λ k. times (named_in st.cells) k + rest k) ty (width (parts_at types ty)) 1 st.world.content)
      (λ b. IsThere (kinds_of types) ty (parts_at types ty) (λ u. refl) b → IsVariable b.1 (Some ty) b.0)
      (sized_birth_came (kinds_of types) (suc (rank_of types ty)) (λ k. times (named_in st.cells) k + rest k) ty (width p) 1 c (omega arith) stands.store.forest s)
      (λ b sized. got_then (fresh s form p b.1) (λ v. Got (b.0, wrote b.0 0 0 v.0 v.1)) (λ v. Stays (λ n. ⊥) b.1 v.1) (λ x. IsThere (kinds_of types) ty (parts_at types ty) (λ u. refl) x → IsVariable x.1 (Some ty) x.0)
      (fresh_stays (λ n. ⊥) b.1 s form p b.1 (stays_self (λ n. ⊥) b.1))
      (λ v stays there.
      let w = (stays_wrote (λ n. ⊥) b.1 b.0 0 0 v.0 v.1 stays).was b.0 there.object (sized.came.forest.births b.0 sized.object sized.there) there.there in
      let same : w.object ≡ sized.object = some_same (sym w.there ∙ sized.there) in
      let slots = one_slot there.object.slots (sym (w.size (λ k. k)) ∙ ap (λ (o : Object). length o.slots) same ∙ sized.count) in
      record { object = there.object; there = there.there; type = ap Some (sym there.type); slot = slots.0; one = slots.1 }))

  pub owner_stands : (s : Setting) (x : ℕ) (ty : TyId) (form : Form) → local_type types f x ≡ Some ty → cell st x ≡ Some Empty → OnNext (born_owner s ty (parts_at types ty) form x st) (Stands types f rest)
  owner_stands s x ty form typed empty =
      let p = parts_at types ty in
      next_stands types f rest st stands (born_owner s ty p form x st) (owner_lives types ordered rest st x stands.store s ty form empty)
      (on_got_next (object_with s ty p (fresh s form p) c) (λ b. Next (put_cell x (Named b.0) (put_content b.1 st)))
      (λ b. BornStays (IsOwned types st.world.content) st.world.content b × (IsThere (kinds_of types) ty (parts_at types ty) (λ u. refl) b × (IsThere (kinds_of types) ty (parts_at types ty) (λ u. refl) b → IsVariable b.1 (Some ty) b.0))) (Follows types f st)
      (got_both (object_with s ty p (fresh s form p) c) (BornStays (IsOwned types st.world.content) st.world.content)
      (λ b. IsThere (kinds_of types) ty (parts_at types ty) (λ u. refl) b × (IsThere (kinds_of types) ty (parts_at types ty) (λ u. refl) b → IsVariable b.1 (Some ty) b.0))
      (object_stays (IsOwned types c) c s ty p (fresh s form p) c (stays_self (IsOwned types c) c) (λ e h. fresh_stays (IsOwned types c) c s form p e h))
      (got_both (object_with s ty p (fresh s form p) c) (IsThere (kinds_of types) ty (parts_at types ty) (λ u. refl)) (λ b. IsThere (kinds_of types) ty (parts_at types ty) (λ u. refl) b → IsVariable b.1 (Some ty) b.0)
      (object_there (kinds_of types) ty p (λ u. refl) s (suc (rank_of types ty)) (fresh s form p) (omega arith) (λ h d g. fresh_came (kinds_of types) s form p (rank_of types ty) (laid_at types ordered ty) h d g) (λ k. times (named_in st.cells) k + rest k) c stands.store.forest)
      (born_one s ty form)))
      (λ b h. follows_object types f st b.1 x b.0 h.0.1 (subst (λ (id : Option TyId). IsVariable b.1 id b.0) (sym typed) (h.1.1 h.1.0))))

  -- ---- a value

  pub value_stands : (s : Setting) (x : ℕ) (ty : TyId) → local_type types f x ≡ Some ty → width_at types ty ≡ 1 → cell st x ≡ Some Empty → OnNext (born_object s ty x st) (Stands types f rest)
  value_stands s x ty typed wide empty =
      let n = c.births in
      next_stands types f rest st stands (born_object s ty x st) (value_lives types ordered rest st x stands.store s ty wide empty)
      (if_room (nat_lt s.given.cells (live_words_of c + (2 + 1 * 1))) (follows_object types f st (with_value_object ty c) x n stays (subst (λ (id : Option TyId). IsVariable (with_value_object ty c) id n) (sym typed) variable)))
    where
      if_room : (b : Bool) → Follows types f st (put_cell x (Named st.world.content.births) (put_content (with_value_object ty st.world.content) st))
          → OnNext (cond b (Traps trap.Cells) (Next (put_cell x (Named st.world.content.births) (put_content (with_value_object ty st.world.content) st)))) (Follows types f st)
      if_room true h = tt
      if_room false h = h

      there : at (with_value_object ty st.world.content).objects st.world.content.births ≡ Some (value_object ty st.world.content.clock)
      there = ⊎_elim (λ h. h.1) (λ h. absurd (h.0 refl)) (born_cases ty c c.births)

      variable : IsVariable (with_value_object ty st.world.content) (Some ty) st.world.content.births
      variable = record { object = value_object ty c.clock; there = there; type = refl; slot = _; one = refl }

      stays : Stays (IsOwned types st.world.content) st.world.content (with_value_object ty st.world.content)
      stays =
          subst (λ d. Stays (IsOwned types c) c d) same (stays_resized (IsOwned types c) c c.births 1 0 (with_birth ty 1 1 c) (inr (omega arith)) (stays_birth (IsOwned types c) c ty 1 1 c (stays_self (IsOwned types c) c)))
        where
          same : resized_at c.births 1 0 (with_birth ty 1 1 c) ≡ with_value_object ty c
          same = ap (λ (x : Option Object). resized_if x c.births 1 0 (with_birth ty 1 1 c)) (at-set_same c.objects c.births c.births (newborn ty 1 1 c.clock) refl)

  -- ---- what ends

  pub end_stands : (x : ℕ) → OnNext (end_cell (local_parts types f x) (cell st x) x st) (Stands types f rest)
  end_stands x = over (cell st x) refl
    where
      ended_object_follows : (n : ℕ) (o : Option Object) → OnNext (end_object (local_parts types f x) o n x st) (Follows types f st)
      ended_object_follows n None = tt
      ended_object_follows n (Some o) =
          follows_empty types f st (without n (ended (local_parts types f x) (words_if (slice_get o.slots 0)) c)) x
          (stays_without (IsOwned types c) c n (ended (local_parts types f x) (words_if (slice_get o.slots 0)) c) (ended_stays (IsOwned types c) c (local_parts types f x) (words_if (slice_get o.slots 0)) c (stays_self (IsOwned types c) c)))

      over : (v : Option Cell) → cell st x ≡ v → OnNext (end_cell (local_parts types f x) v x st) (Stands types f rest)
      over None e = tt
      over (Some Empty) e = tt
      over (Some (Number z)) e = tt
      over (Some (Points p)) e = follows_stands types f rest st stands (put_cell x Empty st) (written_keeps types ordered f rest st stands x Empty (λ k. refl)) (follows_empty types f st c x (stays_self (IsOwned types c) c))
      over (Some (Named n)) e =
          let v = stands.frame.objects x n e in
          next_stands types f rest st stands (end_cell (local_parts types f x) (Some (Named n)) x st)
          (local_ends types ordered rest st x stands.store (local_parts types f x) n v.object v.slot e v.there v.one (ap (parts_if types) v.type))
          (ended_object_follows n (at c.objects n))

-- one after the other
pub ends_stand : (types : Types) (ordered : IsOrdered types) (f : Function) (rest : ℕ → ℕ) (xs : List ℕ) (st : State) → Stands types f rest st → OnNext (end_locals types f xs st) (Stands types f rest)
ends_stand types ordered f rest [] st stands = stands
ends_stand types ordered f rest (x ∷ xs) st stands = go (end_cell (local_parts types f x) (cell st x) x st) (end_stands types ordered f rest st stands x) (λ after h. ends_stand types ordered f rest xs after h)
  where
    go : (e : Effect) → OnNext e (Stands types f rest) → ((after : State) → Stands types f rest after → OnNext (end_locals types f xs after) (Stands types f rest)) → OnNext (on_next e (end_locals types f xs)) (Stands types f rest)
    go (Next after) h more = more after h
    go (Traps kind) h more = tt
    go (Faults kind) h more = tt
    go Strays h more = tt
