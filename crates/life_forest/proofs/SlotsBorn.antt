-- A parameter that is a slot of a unique_ptr is an object of its own when the callee is entered, with what the caller's had; and the callee's frame is sound.
use Rattle.std.proofs.Common.{◌≡◌, ℕ, suc, ◌+◌, ◌*◌, Bool, true, false, cond, [], ◌∷◌, length, Option, Some, refl, sym, ap, subst, ◌∙◌, arith}
use Rattle.std.specs.Prelude.{nat_lt, slice_set}
use Rattle.life_types.specs.Trees.{IsOrdered}
use Rattle.life_types.specs.TypeTests.{is_pointer}
use Rattle.life_types.specs.Types.{Types}
use Rattle.life_types.specs.declared.ty.TyId.{TyId}
use Rattle.life_core.specs.Function.{Function}
use Rattle.life_proper.specs.Placed.{object_at, type_at}
use Rattle.life_store.specs.Calls.{slot_born}
use Rattle.life_store.specs.Cells.{at, at-set_same}
use Rattle.life_store.specs.Content.{Content, Object, live_words_of, with_birth}
use Rattle.life_store.specs.Effects.{Attempt, Effect, Got, GotTrap, Next, Setting, cell, on_got, put_cell, put_content, then_get}
use Rattle.life_store.specs.Held.{owner_word, resized_at, wrote}
use Rattle.life_store.specs.Owners.{Words, object_with, sized_birth}
use Rattle.life_store.specs.Parts.{Parts, Single, Unique, local_type, parts_at, width, width_at}
use Rattle.life_store.specs.State.{Empty, Named, State, ready_of}
use Rattle.life_store.specs.declared.run.TrapKind.TheVariants as trap
use Rattle.life_store.proofs.CellLemmas.{ready_set}
use Rattle.life_forest.specs.Begins.{begins_at}
use Rattle.life_forest.specs.FrameTypes.{IsVariable, Stands}
use Rattle.life_forest.specs.Frames.{HasStore, OnNext, named_in}
use Rattle.life_forest.specs.HeldPointers.{HoldsWell}
use Rattle.life_forest.specs.Kinds.{kinds_of, rank_of}
use Rattle.life_forest.specs.Owned.{times}
use Rattle.life_forest.specs.Sorted.{sort_if}
use Rattle.life_forest.specs.Values.{listed}
use Rattle.life_forest.proofs.BegunPointers.{begun_at}
use Rattle.life_forest.proofs.Coming.{IfGot, got_then}
use Rattle.life_forest.proofs.Copying.{Sized, sized_birth_came}
use Rattle.life_forest.proofs.EnteredFrames.{GivesOn, less_sound}
use Rattle.life_forest.proofs.Fitting.{Flat}
use Rattle.life_forest.proofs.FittingBirths.{got_both}
use Rattle.life_forest.proofs.Following.{Follows, IsOwned, follows_object, next_stands, one_slot}
use Rattle.life_forest.proofs.FrameCalls.{slot_lives}
use Rattle.life_forest.proofs.Frames.{on_got_next}
use Rattle.life_forest.proofs.HeldPoints.{IsSound}
use Rattle.life_forest.proofs.Holding.{Holds}
use Rattle.life_forest.proofs.HoldingLives.{object_lives}
use Rattle.life_forest.proofs.Keeping.{BornKeeps, keeps_self, object_keeps}
use Rattle.life_forest.proofs.Puts.{puts_in, wrote_is}
use Rattle.life_forest.proofs.Settling.{sorted_put}
use Rattle.life_forest.proofs.SlotSorts.{taken_type}
use Rattle.life_forest.proofs.Staying.{BornStays, object_stays, stays_self}

module _ (types : Types) (ordered : IsOrdered types) (f : Function) (rest : ℕ → ℕ) (st : State) (s : Setting) (id target : TyId) (q : Parts) (is_unique : parts_at types id ≡ Unique target q) (owned : Option ℕ) (x : ℕ) (typed : local_type types f x ≡ Some id) (empty : cell st x ≡ Some Empty) where
  abbrev c : Content
  c = st.world.content

  -- what the new object is given, and the effect of its birth
  abbrev given_word : Content → Attempt Words
  given_word d = Got (owner_word owned ∷ [], d)

  abbrev lives : Attempt (ℕ × Content) → Effect
  lives b = on_got b (λ b. Next (put_cell x (Named b.0) (put_content b.1 st)))

  -- the object has one slot
  one_slotted : (b : ℕ × Content) (o : Object) → at b.1.objects b.0 ≡ Some o → o.ty ≡ id → length o.slots ≡ 1 → IsVariable (wrote b.0 0 0 (owner_word owned ∷ []) b.1) (Some id) b.0
  one_slotted b o there type count =
      let sl = one_slot o.slots count in
      record {
        object = record o { slots = puts_in 0 0 (owner_word owned ∷ []) o.slots };
        there = ap (λ (e : Content). at e.objects b.0) (wrote_is b.1 b.0 0 0 (owner_word owned ∷ []) o there) ∙ at-set_same b.1.objects b.0 b.0 (record o { slots = puts_in 0 0 (owner_word owned ∷ []) o.slots }) refl;
        type = ap Some (sym type);
        slot = _;
        one = ap (puts_in 0 0 (owner_word owned ∷ [])) sl.1;
      }

  variable_born : (hand : ℕ → ℕ) → HasStore types hand st → IfGot (object_with s id Single given_word c) (λ b. IsVariable b.1 (Some id) b.0)
  variable_born hand store =
      got_then (sized_birth s id 1 1 c) (λ b. then_get {A = Words} (Got (owner_word owned ∷ [], b.1)) (λ v. Got (b.0, wrote b.0 0 0 v.0 v.1)))
      (Sized (kinds_of types) (suc (rank_of types id)) (λ k. times (named_in st.cells) k + hand k) id 1 1 c) (λ b. IsVariable b.1 (Some id) b.0)
      (sized_birth_came (kinds_of types) (suc (rank_of types id)) (λ k. times (named_in st.cells) k + hand k) id 1 1 c (omega arith) store.forest s)
      (λ b sized. one_slotted b sized.object sized.there sized.type sized.count)

  -- it holds no pointers
  holds_nothing : (d : Content) (n : ℕ) → HoldsWell types d n id
  holds_nothing d n = record { aims = λ u q begins. absurd (no_pointer u q begins); fits = λ u q t begins there. absurd (no_pointer u q begins) }
    where
      no_pointer : (u : ℕ) (q : TyId) → begins_at types id u ≡ Some q → ⊥
      no_pointer u q begins = let five = (begun_at types ordered id u q begins).fits in let one : width_at types id ≡ 1 = ap width is_unique in omega (arith, five, one)

  module _ (object : object_at types f x ≡ true) (sound : IsSound types f (λ k. times (listed owned) k + rest k) st) (flat : Flat st.world.content (parts_at types id) (owner_word owned ∷ [])) where
    less : IsSound types f rest st
    less = less_sound types f (λ k. times (listed owned) k + rest k) rest st (λ k. omega arith) sound

    stands_born : OnNext (lives (object_with s id Single given_word c)) (HasStore types rest) → OnNext (lives (object_with s id Single given_word c)) (Stands types f rest)
    stands_born store =
        next_stands types f rest st less.stands (lives (object_with s id Single given_word c)) store
        (on_got_next (object_with s id Single given_word c) (λ b. Next (put_cell x (Named b.0) (put_content b.1 st))) (λ b. BornStays (IsOwned types c) c b × IsVariable b.1 (Some id) b.0) (Follows types f st)
        (got_both (object_with s id Single given_word c) (BornStays (IsOwned types c) c) (λ b. IsVariable b.1 (Some id) b.0)
        (object_stays (IsOwned types c) c s id Single given_word c (stays_self (IsOwned types c) c) (λ e h. h)) (variable_born rest less.stands.store))
        (λ b h. follows_object types f st b.1 x b.0 h.0.1 (subst (λ (y : Option TyId). IsVariable b.1 y b.0) (sym typed) h.1)))

    holds_born : OnNext (lives (object_with s id Single given_word c)) (Holds types f rest st)
    holds_born =
        on_got_next (object_with s id Single given_word c) (λ b. Next (put_cell x (Named b.0) (put_content b.1 st))) (BornKeeps types ordered (IsOwned types c) c) (Holds types f rest st)
        (object_keeps types ordered (IsOwned types c) c s id Single given_word c (keeps_self types (IsOwned types c) c) (λ e h. h))
        (λ b h. object_lives types ordered f rest st less.stands less.held x id b.1 b.0 typed h.1 (holds_nothing b.1 b.0))

    -- with room for it or without
    abbrev born_if : Bool → Attempt (ℕ × Content)
    born_if full =
        then_get {A = ℕ × Content} {B = ℕ × Content} (then_get {A = ℕ × Content} {B = ℕ × Content} (cond full (GotTrap trap.Cells) (Got (c.births, with_birth id 1 1 c))) (λ b. Got (b.0, resized_at b.0 1 0 b.1))) (λ b. then_get {A = Words} {B = ℕ × Content} (given_word b.1) (λ v. Got (b.0, wrote b.0 0 0 v.0 v.1)))

    by_room : (full : Bool) → OnNext (lives (born_if full)) (Stands types f rest) → OnNext (lives (born_if full)) (Holds types f rest st) → GivesOn types f rest st.world.content (slice_set (ready_of st) x true) (lives (born_if full))
    by_room true stands holds = tt
    by_room false stands holds = record {
      sound = record {
        stands = stands;
        sorted = sorted_put types f st.cells x (Named st.world.content.births) (ap (λ b. sort_if b (is_pointer (type_at types f x))) object) sound.sorted;
        held = holds.well;
      };
      bits = ready_set st.cells x (Named st.world.content.births);
      waits = holds.waits;
    }

    pub object_gives : OnNext (lives (object_with s id Single given_word c)) (HasStore types rest) → GivesOn types f rest c (slice_set (ready_of st) x true) (lives (object_with s id Single given_word c))
    object_gives store = by_room (nat_lt s.given.cells (live_words_of c + (2 + 1 * 1))) (stands_born store) holds_born

-- .. from what the caller's unique_ptr had
pub slot_gives : (types : Types) (ordered : IsOrdered types) (f : Function) (rest : ℕ → ℕ) (st : State) (s : Setting) (ty target : TyId) (q : Parts) → parts_at types (taken_type types ty) ≡ Unique target q → (owned : Option ℕ) (x : ℕ) → local_type types f x ≡ Some (taken_type types ty) → cell st x ≡ Some Empty
    → object_at types f x ≡ true → IsSound types f (λ k. times (listed owned) k + rest k) st → Flat st.world.content (parts_at types (taken_type types ty)) (owner_word owned ∷ []) → GivesOn types f rest st.world.content (slice_set (ready_of st) x true) (slot_born s types ty owned x st)
slot_gives types ordered f rest st s ty target q is_unique owned x typed empty object sound flat =
    object_gives types ordered f rest st s (taken_type types ty) target q is_unique owned x typed empty object sound flat (slot_lives types ordered rest st s ty target q owned x sound.stands.store is_unique flat empty)
