-- A unique_ptr that is handed over as a slot: null stands in it while the call runs, and it has back what the slot has when the call is over. The caller's frame is sound then.
use Rattle.std.proofs.Common.{◌≡◌, ◌≢◌, inr, ℕ, ◌+◌, ◌≤◌, List, [], ◌∷◌, length, Option, Some, None, refl, sym, ap, subst, ◌∙◌, arith}
use Rattle.std.specs.Prelude.{take}
use Rattle.life_types.specs.Trees.{IsOrdered}
use Rattle.life_types.specs.Types.{Types}
use Rattle.life_types.specs.declared.ty.TyId.{TyId}
use Rattle.life_core.specs.Function.{Function}
use Rattle.life_core.specs.Operands.{Location}
use Rattle.life_store.specs.Calls.{slot_returned, spot_lent}
use Rattle.life_store.specs.Content.{Content, Object, without}
use Rattle.life_store.specs.Edits.{owned_at}
use Rattle.life_store.specs.Effects.{Got, Next, cell, on_got, put_content}
use Rattle.life_store.specs.Held.{owner_word, slot_words}
use Rattle.life_store.specs.Kinds.{kind_in}
use Rattle.life_store.specs.Parts.{Parts, Unique, local_type, location_type, parts_at, width, width_at, word_within}
use Rattle.life_store.specs.Places.{Spot, owner_spot_if, spot_words, wrote_spot}
use Rattle.life_store.specs.State.{Cell, Named, State, ready_of}
use Rattle.life_store.proofs.CellLemmas.{some_same}
use Rattle.life_forest.specs.FrameTypes.{IsVariable}
use Rattle.life_forest.specs.Frames.{HasStore, named_in}
use Rattle.life_forest.specs.Owned.{alive, alive_if, times}
use Rattle.life_forest.specs.Typed.{IsStore}
use Rattle.life_forest.specs.Values.{listed, owned_of}
use Rattle.life_forest.specs.Within.{LiesWithin}
use Rattle.life_forest.proofs.Counting.{one_same}
use Rattle.life_forest.proofs.EnteredFrames.{GivesOn, less_sound}
use Rattle.life_forest.proofs.Following.{in_hand}
use Rattle.life_forest.proofs.FrameCalls.{lent_keeps, slot_returns}
use Rattle.life_forest.proofs.Frames.{less_in_hand}
use Rattle.life_forest.proofs.HeldPoints.{IsNext, IsSound}
use Rattle.life_forest.proofs.HoldingChanges.{narrow_free}
use Rattle.life_forest.proofs.Keeping.{Keeps, keeps_self, keeps_without, keeps_wrote}
use Rattle.life_forest.proofs.LaterFrames.{behind_sound}
use Rattle.life_forest.proofs.Operands.{IsPlace, place_named}
use Rattle.life_forest.proofs.WrittenPointers.{IsNoPointer}

-- one word at most
first_small : (ws : List ℕ) → length (take 1 ws) ≤ 1
first_small [] = omega arith
first_small (w ∷ ws) = omega arith

module _ (types : Types) (ordered : IsOrdered types) (f : Function) (rest : ℕ → ℕ) (st : State) (id target : TyId) (q : Parts) (is_unique : parts_at types id ≡ Unique target q) (n w : ℕ) (o : Object) (place : IsPlace types st.world.content id n 0 w o) where
  abbrev c : Content
  c = st.world.content

  abbrev spot : Spot
  spot = record { object = n; index = 0; word = w }

  wide : width_at types id ≡ 1
  wide = ap width is_unique

  -- a word that is no pointer's is written
  word_keeps : (loose : ℕ → Type 0) (ws : List ℕ) → length ws ≤ 1 → Keeps types loose c (wrote_spot spot ws c)
  word_keeps loose ws le =
      keeps_wrote types ordered loose c n 0 w ws c
      (inr (λ x e j lt. subst (λ (y : Object). IsNoPointer (kind_in (parts_at types y.ty) (w + j))) (some_same (sym place.there ∙ e))
      (subst IsNoPointer (sym (place.within.words j (omega (arith, le, lt, wide)))) (narrow_free (parts_at types id) j (omega (arith, wide)) (omega (arith, le, lt, wide))))))
      (keeps_self types loose c)

  -- ---- what it has is lent

  pub lent_sound : IsSound types f rest st → IsSound types f (λ k. times (listed (owned_at c spot)) k + rest k) (spot_lent (Got spot) st)
  lent_sound sound = behind_sound types f rest st sound st.cells (λ y v there e. e) (spot_lent (Got spot) st).world (λ k. times (listed (owned_at c spot)) k) store (word_keeps (λ k. times (named_in st.cells) k + rest k ≡ 0) (owner_word None ∷ []) (omega arith))
    where
      owned : owned_of (parts_at types id) (spot_words st.world.content (record { object = n; index = 0; word = w }) (width_at types id)) ≡ listed (owned_at st.world.content (record { object = n; index = 0; word = w }))
      owned = ap (λ (p : Parts). owned_of p (spot_words c spot (width p))) is_unique

      store : IsStore types (λ k. times (listed (owned_at st.world.content (record { object = n; index = 0; word = w }))) k + (times (named_in st.cells) k + rest k)) (spot_lent (Got (record { object = n; index = 0; word = w })) st).world.content
      store =
          less_in_hand types (λ k. times (named_in st.cells) k + (times (owned_of (parts_at types id) (spot_words c spot (width_at types id))) k + rest k)) (λ k. times (listed (owned_at c spot)) k + (times (named_in st.cells) k + rest k)) (spot_lent (Got spot) st).world.content
          (λ k. let e = ap (λ (ns : List ℕ). times ns k) owned in omega (arith, e)) (lent_keeps types ordered rest st n 0 w id o sound.stands.store place.there place.within place.slot wide)

  pub lent_waits : (loose : ℕ → Type 0) → Keeps types loose c (spot_lent (Got spot) st).world.content
  lent_waits loose = word_keeps loose (owner_word None ∷ []) (omega arith)

  -- ---- it has its value back

  module _ (x : ℕ) (named : cell st x ≡ Some (Named n)) (m : ℕ) (sound : IsSound types f (λ k. times (m ∷ []) k + rest k) st) (slot : IsVariable st.world.content (Some id) m) where
    type : slot.object.ty ≡ id
    type = sym (some_same slot.type)

    -- the slot isn't the object in which the unique_ptr lies
    apart : n ≢ m
    apart same =
        let held = sound.stands.store.forest.held m in
        let i = in_hand st.cells x m (named ∙ ap (λ k. Some (Named k)) same) in
        let one = one_same m m refl in
        let a : alive c m ≡ 1 = ap alive_if slot.there in
        omega (arith, held, i, one, a)

    abbrev behind : State
    behind = put_content (without m (wrote_spot spot (take 1 (slot_words c m 0)) c)) st

    back_waits : (loose : ℕ → Type 0) → Keeps types loose c behind.world.content
    back_waits loose = keeps_without types ordered loose c m (wrote_spot spot (take 1 (slot_words c m 0)) c) (word_keeps loose (take 1 (slot_words c m 0)) (first_small (slot_words c m 0)))

    back_store : HasStore types rest behind
    back_store = slot_returns types ordered rest st m slot.object slot.slot n 0 w o sound.stands.store slot.there slot.one (ap (width_at types) type ∙ wide) place.there apart (subst (LiesWithin types o.ty w) (sym type) place.within) place.slot

    back_sound : IsSound types f (λ k. 0 + rest k) behind
    back_sound =
        behind_sound types f (λ k. rest k) st (less sound) st.cells (λ y v there e. e) behind.world (λ k. 0)
        (less_in_hand types (λ k. times (named_in st.cells) k + rest k) (λ k. 0 + (times (named_in st.cells) k + rest k)) behind.world.content (λ k. omega arith) back_store)
        (back_waits (λ k. times (named_in st.cells) k + rest k ≡ 0))
      where
        less : IsSound types f (λ k. times (m ∷ []) k + rest k) st → IsSound types f rest st
        less h = less_sound types f (λ k. times (m ∷ []) k + rest k) rest st (λ k. omega arith) h

    pub back_next : IsNext types f rest c (ready_of st) behind
    back_next = record { sound = less_sound types f (λ k. 0 + rest k) rest behind (λ k. omega arith) back_sound; bits = refl; waits = back_waits (λ k. rest k ≡ 0) }

-- .. at a location
pub slot_returns_well : (types : Types) (ordered : IsOrdered types) (f : Function) (rest : ℕ → ℕ) (st : State) (id target : TyId) (q : Parts) → parts_at types id ≡ Unique target q → (l : Location) → location_type types f l ≡ Some id → (n : ℕ) → cell st l.local ≡ Some (Named n)
    → (m : ℕ) → IsSound types f (λ k. times (m ∷ []) k + rest k) st → IsVariable st.world.content (Some id) m → GivesOn types f rest st.world.content (ready_of st) (slot_returned types f l (Named m) st)
slot_returns_well types ordered f rest st id target q is_unique l typed n named m sound slot =
    let place = place_named types ordered f st sound.stands.frame l id typed n named in
    subst (λ (v : Option Cell). GivesOn types f rest st.world.content (ready_of st) (on_got (owner_spot_if types f l v) (λ spot. Next (put_content (without m (wrote_spot spot (take 1 (slot_words st.world.content m 0)) st.world.content)) st)))) (sym named)
    (back_next types ordered f rest st id target q is_unique n (word_within types (local_type types f l.local) l.members) place.0 place.1 l.local named m sound slot)
