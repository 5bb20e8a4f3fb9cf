-- A frame stands behind changes of vectors.
use Rattle.std.proofs.Common.{◌≡◌, ℕ, ◌+◌, ◌<◌, [], ◌∷◌, Option, Some, None, refl, sym, ap, subst, ◌∙◌, arith}
use Rattle.std.specs.Prelude.{ℤ}
use Rattle.life_types.specs.Trees.{IsOrdered}
use Rattle.life_types.specs.Types.{Types}
use Rattle.life_types.specs.declared.ty.TyId.{TyId}
use Rattle.life_core.specs.Function.{Function}
use Rattle.life_store.specs.Content.{Object, Content}
use Rattle.life_store.specs.Doing.{edits, word_of_number}
use Rattle.life_store.specs.Edits.{Push, Pop, Clear as ClearAll, Reserve as Room, edited, owned_at}
use Rattle.life_store.specs.Effects.{Setting, Attempt, Got, GotTrap, GotFault, GotLost, Next, cell, got_or, on_got, on_next, put_cell, put_content}
use Rattle.life_store.specs.Owners.{Words, consumed}
use Rattle.life_store.specs.Parts.{Parts, Single, Vector, local_type, parts_at, width}
use Rattle.life_store.specs.Places.{Spot}
use Rattle.life_store.specs.State.{Empty, Named, State}
use Rattle.life_store.specs.declared.run.FaultKind.TheVariants as fault
use Rattle.life_store.proofs.CellLemmas.{some_same}
use Rattle.life_forest.specs.FrameTypes.{Stands}
use Rattle.life_forest.specs.Frames.{OnNext, named_in}
use Rattle.life_forest.specs.Kinds.{owned_type, rank_of}
use Rattle.life_store.specs.Kinds.{kind_in}
use Rattle.life_forest.specs.Owned.{times}
use Rattle.life_forest.specs.Values.{owned_of}
use Rattle.life_forest.proofs.Above.{above_apart, above_unowned, owner_above}
use Rattle.life_forest.proofs.Coming.{IfGot}
use Rattle.life_forest.proofs.FrameChanges.{clear_keeps, pop_keeps, push_keeps, push_object_keeps, reserve_keeps}
use Rattle.life_forest.proofs.Following.{Follows, IsOwned, follows_empty, next_stands}
use Rattle.life_forest.proofs.Operands.{IsPlace}
use Rattle.life_forest.proofs.Placed.{place_owns}
use Rattle.life_forest.proofs.StandingChanges.{edits_follow}
use Rattle.life_forest.proofs.Staying.{Stays, consumed_stays_on, stays_self}
use Rattle.life_forest.proofs.StayingEdits.{edited_stays}

module _ (types : Types) (ordered : IsOrdered types) (f : Function) (rest : ℕ → ℕ) (st : State) (stands : Stands types f rest st) (part : TyId) (n i w : ℕ) (o : Object) (place : IsPlace types st.world.content part n i w o) (s : Setting) (id : TyId) (is : parts_at types part ≡ Vector id (parts_at types id)) where
  abbrev spot : Spot
  spot = record { object = n; index = i; word = w }

  abbrev c : Content
  c = st.world.content

  abbrev element : Parts
  element = parts_at types id

  abbrev has : ℕ → ℕ
  has k = times (named_in st.cells) k + rest k

  -- ---- nothing is pushed

  pub pop_stands : OnNext (edits s (Vector id (parts_at types id)) (record { object = n; index = i; word = w }) Pop st) (Stands types f rest)
  pop_stands =
      next_stands types f rest st stands (edits s (Vector id element) spot Pop st)
      (pop_keeps types ordered rest st stands.store n i w part o place.there place.within place.slot s id element is)
      (edits_follow types ordered f rest st stands part n i w o place s (Vector id element) Pop is refl refl (λ value e d h. absurd (unlike value e)))
    where
      unlike : (value : Content → Words) → Pop ≡ Push value → ⊥
      unlike value e = cc

  pub clear_stands : OnNext (edits s (Vector id (parts_at types id)) (record { object = n; index = i; word = w }) ClearAll st) (Stands types f rest)
  clear_stands =
      next_stands types f rest st stands (edits s (Vector id element) spot ClearAll st)
      (clear_keeps types ordered rest st stands.store n i w part o place.there place.within place.slot s id element is)
      (edits_follow types ordered f rest st stands part n i w o place s (Vector id element) ClearAll is refl refl (λ value e d h. absurd (unlike value e)))
    where
      unlike : (value : Content → Words) → ClearAll ≡ Push value → ⊥
      unlike value e = cc

  pub reserve_stands : (capacity : ℕ) → OnNext (edits s (Vector id (parts_at types id)) (record { object = n; index = i; word = w }) (Room capacity) st) (Stands types f rest)
  reserve_stands capacity =
      next_stands types f rest st stands (edits s (Vector id element) spot (Room capacity) st)
      (reserve_keeps types ordered rest st stands.store n i w part o place.there place.within place.slot s id element is capacity)
      (edits_follow types ordered f rest st stands part n i w o place s (Vector id element) (Room capacity) is refl refl (λ value e d h. absurd (unlike value e)))
    where
      unlike : (value : Content → Words) → Room capacity ≡ Push value → ⊥
      unlike value e = cc

  -- ---- a number is

  pub push_number_stands : (z : ℤ) → parts_at types id ≡ Single → OnNext (edits s (Vector id (parts_at types id)) (record { object = n; index = i; word = w }) (Push (λ d. (word_of_number z ∷ [], d))) st) (Stands types f rest)
  push_number_stands z single =
      next_stands types f rest st stands (edits s (Vector id element) spot (Push (λ d. (word_of_number z ∷ [], d))) st)
      (push_keeps types ordered rest st stands.store n i w part o place.there place.within place.slot s id element is (word_of_number z ∷ []) (sym (ap width single))
      (λ k. ap (λ (p : Parts). times (owned_of p (word_of_number z ∷ [])) k) single))
      (edits_follow types ordered f rest st stands part n i w o place s (Vector id element) (Push (λ d. (word_of_number z ∷ [], d))) is refl refl
      (λ value e d h. subst (λ (v : Content → Words). Stays (IsOwned types st.world.content) st.world.content (v d).1) (same value e) h))
    where
      same : (value : Content → Words) → Push (λ d. (word_of_number z ∷ [], d)) ≡ Push value → (λ d. (word_of_number z ∷ [], d)) ≡ value
      same value e = cc

  -- ---- or a temporary, which stands below the vector

  below : rank_of types id < rank_of types o.ty
  below =
      owner_above types ordered has st.world.content stands.store n w part o place.there place.within id (let e = ap width is in omega arith) (ap (λ (p : Parts). kind_in p 0) is) (ap (λ (p : Parts). owned_type p 0) is)

  pub push_object_stands : (x m : ℕ) → local_type types f x ≡ Some id → cell st x ≡ Some (Named m)
      → OnNext (on_next (edits s (Vector id (parts_at types id)) (record { object = n; index = i; word = w }) (Push (consumed (parts_at types id) m)) st) (λ after. Next (put_cell x Empty after))) (Stands types f rest)
  push_object_stands x m typed named =
      let v = stands.frame.objects x m named in
      let m_type : v.object.ty ≡ id = some_same (sym v.type ∙ typed) in
      let lower : rank_of types v.object.ty < rank_of types o.ty = subst (λ ty. rank_of types ty < rank_of types o.ty) (sym m_type) below in
      next_stands types f rest st stands (on_next (edits s (Vector id element) spot (Push (consumed element m)) st) (λ after. Next (put_cell x Empty after)))
      (push_object_keeps types ordered rest st stands.store n i w part o place.there place.within place.slot s id element is x m v.object v.slot named v.there v.one m_type
      (above_apart types ordered has st.world.content stands.store n w part o place.there place.within m v.object v.there lower)
      (above_unowned types ordered has st.world.content stands.store n w part o place.there place.within m v.object v.there lower))
      (on_edit (owned_at c spot) (λ b owned. place_owns types ordered has st.world.content stands.store part n i w o place (ap width is) (ap (λ (p : Parts). kind_in p 0) is) b owned))
    where
      after_edit : (a : Attempt Content) → IfGot a (Stays (IsOwned types st.world.content) st.world.content) → OnNext (on_next (on_got a (λ d. Next (put_content d st))) (λ after. Next (put_cell x Empty after))) (Follows types f st)
      after_edit (Got d) h = follows_empty types f st d x h
      after_edit (GotTrap kind) h = tt
      after_edit (GotFault kind) h = tt
      after_edit GotLost h = tt

      pushes_one : (value d : Content → Words) → Push value ≡ Push d → value ≡ d
      pushes_one value d e = cc

      on_edit : (y : Option ℕ) → ((b : ℕ) → y ≡ Some b → IsOwned types st.world.content b)
          → OnNext (on_next (on_got (got_or y (GotFault fault.Moved)) (λ b. on_got (edited s (Vector id (parts_at types id)) (record { object = n; index = i; word = w }) b (Push (consumed (parts_at types id) m)) st.world.content) (λ d. Next (put_content d st)))) (λ after. Next (put_cell x Empty after))) (Follows types f st)
      on_edit None owned = tt
      on_edit (Some b) owned =
          after_edit (edited s (Vector id element) spot b (Push (consumed element m)) c)
          (edited_stays (IsOwned types st.world.content) st.world.content b (owned b refl) s (Vector id element) spot (Push (consumed element m)) c
          (λ value e d h. subst (λ (v : Content → Words). Stays (IsOwned types st.world.content) st.world.content (v d).1) (pushes_one (consumed element m) value e) (consumed_stays_on (IsOwned types st.world.content) st.world.content element m d h))
          (stays_self (IsOwned types st.world.content) st.world.content))
