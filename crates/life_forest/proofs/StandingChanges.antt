-- A frame stands behind changes of vectors and strings.
use Rattle.std.proofs.Common.{◌≡◌, ℕ, ◌+◌, List, [], ◌∷◌, Option, Some, None, refl, ap, subst, ◌∙◌}
use Rattle.std.specs.Prelude.{ℤ}
use Rattle.std.specs.Int.{cast_unsigned, w64}
use Rattle.life_types.specs.Trees.{IsOrdered}
use Rattle.life_types.specs.Types.{Types}
use Rattle.life_types.specs.declared.ty.TyId.{TyId}
use Rattle.life_core.specs.Function.{Function}
use Rattle.life_core.specs.Operands.{Operand}
use Rattle.life_core.specs.Operands as source
use Rattle.life_core.specs.Step.{Change, PushBack, PopBack, Clear, Reserve, Erase, Set, Append}
use Rattle.life_store.specs.Content.{Object, Content}
use Rattle.life_store.specs.Doing.{changed, edits, erases, on_given, pushes, word_of_number}
use Rattle.life_store.specs.Edits.{Edit, Push, Pop, Clear as ClearAll, Reserve as Room, Put, Add, edited, owned_at}
use Rattle.life_store.specs.Effects.{Setting, Attempt, Got, GotTrap, GotFault, GotLost, Effect, Next, cell, on_got, on_number, put_content}
use Rattle.life_store.specs.Iterators.{iterator}
use Rattle.life_store.specs.Owners.{Words}
use Rattle.life_store.specs.Parts.{Parts, Text, parts_at, width}
use Rattle.life_store.specs.Places.{Spot, location_cell}
use Rattle.life_store.specs.State.{Cell, Empty, Named, Number, Points, State}
use Rattle.life_store.specs.Views.{seen_words, used}
use Rattle.life_forest.specs.FrameTypes.{Stands}
use Rattle.life_forest.specs.Frames.{OnNext, named_in}
use Rattle.life_store.specs.Kinds.{Owner, kind_in}
use Rattle.life_forest.specs.Owned.{times}
use Rattle.life_forest.proofs.FrameChanges.{on_buffer, text_keeps}
use Rattle.life_forest.proofs.Frames.{on_got_next}
use Rattle.life_forest.proofs.Following.{Follows, IsOwned, follows_content, next_stands}
use Rattle.life_forest.proofs.Operands.{IsPlace}
use Rattle.life_forest.proofs.Placed.{place_owns}
use Rattle.life_forest.proofs.Staying.{Stays, stays_self}
use Rattle.life_forest.proofs.StayingEdits.{edited_stays}

-- ---- what an effect gives, one after the other

pub on_number_next : (v : Option Cell) (go : ℤ → Effect) (Q : State → Type 0) → ((z : ℤ) → OnNext (go z) Q) → OnNext (on_number v go) Q
on_number_next None go Q each = tt
on_number_next (Some Empty) go Q each = tt
on_number_next (Some (Named n)) go Q each = tt
on_number_next (Some (Number z)) go Q each = each z
on_number_next (Some (Points p)) go Q each = tt

pub on_got_each : {A : Type 0} (x : Attempt A) (go : A → Effect) (Q : State → Type 0) → ((a : A) → OnNext (go a) Q) → OnNext (on_got x go) Q
on_got_each (Got a) go Q each = each a
on_got_each (GotTrap kind) go Q each = tt
on_got_each (GotFault kind) go Q each = tt
on_got_each GotLost go Q each = tt

module _ (types : Types) (ordered : IsOrdered types) (f : Function) (rest : ℕ → ℕ) (st : State) (stands : Stands types f rest st) where
  abbrev Q : State → Type 0
  Q = Stands types f rest

  abbrev has : ℕ → ℕ
  has k = times (named_in st.cells) k + rest k

  -- ---- one edit of an owner at a place

  module _ (part : TyId) (n i w : ℕ) (o : Object) (place : IsPlace types st.world.content part n i w o) where
    abbrev spot : Spot
    spot = record { object = n; index = i; word = w }

    abbrev c : Content
    c = st.world.content

    pub edits_follow : (s : Setting) (p : Parts) (edit : Edit) → parts_at types part ≡ p → width p ≡ 1 → kind_in p 0 ≡ Owner → ((value : Content → Words) → edit ≡ Push value → (e : Content) → Stays (IsOwned types st.world.content) st.world.content e → Stays (IsOwned types st.world.content) st.world.content (value e).1)
        → OnNext (edits s p (record { object = n; index = i; word = w }) edit st) (Follows types f st)
    edits_follow s p edit is one owner each =
        on_buffer (owned_at c spot) (λ b. on_got (edited s p spot b edit c) (λ d. Next (put_content d st))) (Follows types f st)
        (λ b owned. on_got_next (edited s p spot b edit c) (λ d. Next (put_content d st)) (Stays (IsOwned types st.world.content) st.world.content) (Follows types f st)
        (edited_stays (IsOwned types st.world.content) st.world.content b
        (place_owns types ordered has st.world.content stands.store part n i w o place (ap width is ∙ one) (ap (λ (r : Parts). kind_in r 0) is ∙ owner) b owned) s p spot edit st.world.content each (stays_self (IsOwned types st.world.content) st.world.content))
        (λ d h. follows_content types f st d h))

    -- ---- strings

    text_stands : (s : Setting) (id : TyId) (edit : Edit) → parts_at types part ≡ Text id → ((value : Content → Words) → edit ≡ Push value → (e : Content) → Stays (IsOwned types st.world.content) st.world.content e → Stays (IsOwned types st.world.content) st.world.content (value e).1)
        → OnNext (edits s (Text id) (record { object = n; index = i; word = w }) edit st) (Stands types f rest)
    text_stands s id edit is each =
        next_stands types f rest st stands (edits s (Text id) spot edit st)
        (text_keeps types ordered rest st stands.store n i w part o place.there place.within place.slot s id edit is)
        (edits_follow s (Text id) edit is refl refl each)

    -- a string takes no temporary
    pub text_changes : (s : Setting) (id : TyId) (change : Change) → parts_at types part ≡ Text id → ((x m : ℕ) → change ≡ PushBack x → cell st x ≡ Some (Named m) → ⊥)
        → OnNext (changed s types f (Text id) (record { object = n; index = i; word = w }) change st) (Stands types f rest)
    text_changes s id (PushBack x) is number = pushed_on (cell st x) (λ m e. number x m refl e)
      where
        pushed_on : (v : Option Cell) → ((m : ℕ) → v ≡ Some (Named m) → ⊥) → OnNext (pushes s types f (Text id) (record { object = n; index = i; word = w }) x v st) (Stands types f rest)
        pushed_on None no_object = tt
        pushed_on (Some Empty) no_object = tt
        pushed_on (Some (Named m)) no_object = absurd (no_object m refl)
        pushed_on (Some (Points p)) no_object = tt
        pushed_on (Some (Number z)) no_object = text_stands s id (Push (λ d. (word_of_number z ∷ [], d))) is (λ value e d h. subst (λ (v : Content → Words). Stays (IsOwned types st.world.content) st.world.content (v d).1) (same value e) h)
          where
            same : (value : Content → Words) → Push (λ d. (word_of_number z ∷ [], d)) ≡ Push value → (λ d. (word_of_number z ∷ [], d)) ≡ value
            same value e = cc
    text_changes s id PopBack is number = text_stands s id Pop is (λ value e d h. absurd (unlike value e))
      where
        unlike : (value : Content → Words) → Pop ≡ Push value → ⊥
        unlike value e = cc
    text_changes s id Clear is number = text_stands s id ClearAll is (λ value e d h. absurd (unlike value e))
      where
        unlike : (value : Content → Words) → ClearAll ≡ Push value → ⊥
        unlike value e = cc
    text_changes s id (Reserve r) is number =
        on_number_next (cell st r) (λ z. edits s (Text id) spot (Room (cast_unsigned w64 z)) st) (Stands types f rest) (λ z. text_stands s id (Room (cast_unsigned w64 z)) is (λ value e d h. absurd (unlike z value e)))
      where
        unlike : (z : ℤ) (value : Content → Words) → Room (cast_unsigned w64 z) ≡ Push value → ⊥
        unlike z value e = cc
    text_changes s id (Erase from into) is number = on_got_each (iterator c (location_cell types f from st)) (λ v. erases types f (Text id) spot v into st) (Stands types f rest) (λ v. tt)
    text_changes s id (Set given) is number = given_on given
      where
        unlike : (ws : List ℕ) (value : Content → Words) → Put ws ≡ Push value → ⊥
        unlike ws value e = cc

        each : (ws : List ℕ) → OnNext (edits s (Text id) (record { object = n; index = i; word = w }) (Put ws) st) (Stands types f rest)
        each ws = text_stands s id (Put ws) is (λ value e d h. absurd (unlike ws value e))

        given_on : (g : source.Characters) → OnNext (on_given s types f g st (λ ws. edits s (Text id) (record { object = n; index = i; word = w }) (Put ws) st)) (Stands types f rest)
        given_on (source.View l) = on_got_each (used c (location_cell types f l st)) (λ v. edits s (Text id) (record { object = n; index = i; word = w }) (Put (seen_words s.texts c v)) st) (Stands types f rest) (λ v. each (seen_words s.texts c v))
        given_on (source.Single r) = on_number_next (cell st r) (λ z. edits s (Text id) (record { object = n; index = i; word = w }) (Put (word_of_number z ∷ [])) st) (Stands types f rest) (λ z. each (word_of_number z ∷ []))
    text_changes s id (Append given) is number = given_on given
      where
        unlike : (ws : List ℕ) (value : Content → Words) → Add ws ≡ Push value → ⊥
        unlike ws value e = cc

        each : (ws : List ℕ) → OnNext (edits s (Text id) (record { object = n; index = i; word = w }) (Add ws) st) (Stands types f rest)
        each ws = text_stands s id (Add ws) is (λ value e d h. absurd (unlike ws value e))

        given_on : (g : source.Characters) → OnNext (on_given s types f g st (λ ws. edits s (Text id) (record { object = n; index = i; word = w }) (Add ws) st)) (Stands types f rest)
        given_on (source.View l) = on_got_each (used c (location_cell types f l st)) (λ v. edits s (Text id) (record { object = n; index = i; word = w }) (Add (seen_words s.texts c v)) st) (Stands types f rest) (λ v. each (seen_words s.texts c v))
        given_on (source.Single r) = on_number_next (cell st r) (λ z. edits s (Text id) (record { object = n; index = i; word = w }) (Add (word_of_number z ∷ [])) st) (Stands types f rest) (λ z. each (word_of_number z ∷ []))
