-- The frame of a callee is sound when its parameters are given what was handed to them, one after the other.
use Rattle.std.proofs.Common.{◌≡◌, inl, inr, ℕ, zero, suc, ◌+◌, ◌<◌, Bool, true, false, ◌&&◌, cond, not, List, [], ◌∷◌, length, Option, Some, None, refl, sym, ap, subst, ◌∙◌, arith}
use Rattle.std.proofs.lemmas.Bool.{and_parts, false≢true}
use Rattle.std.specs.Prelude.{slice_get, slice_index, slice_set}
use Rattle.life_types.specs.Pointees.{ty_of}
use Rattle.life_types.specs.Trees.{IsOrdered}
use Rattle.life_types.specs.TypeTests.{is_pointer, is_value}
use Rattle.life_types.specs.Types.{Types, is_slot_at}
use Rattle.life_types.specs.declared.ty.Ty.TheVariants as ty
use Rattle.life_types.specs.declared.ty.TyId.{TyId}
use Rattle.life_core.specs.declared.program.Local.{Local}
use Rattle.life_core.specs.declared.program.LocalKind.TheVariants as kind
use Rattle.life_core.specs.Function.{Function}
use Rattle.life_core.specs.Holdings.{sort_of}
use Rattle.life_core.specs.Ready.{IsBit, Ready, given_ready}
use Rattle.life_pset.specs.Shapes.{ty_if}
use Rattle.life_proper.specs.OperandTypes.{is_composed}
use Rattle.life_proper.specs.Placed.{type_at}
use Rattle.life_store.specs.Calls.{given, given_if, given_to, parameters_given, slot_born, target_cell}
use Rattle.life_store.specs.Cells.{at}
use Rattle.life_store.specs.Content.{Content, Object}
use Rattle.life_store.specs.Effects.{Setting, Effect, Next, Strays, cell, put_cell}
use Rattle.life_store.specs.Held.{owner_word}
use Rattle.life_store.specs.Kinds.{Owner, kind_in}
use Rattle.life_store.specs.Parts.{Parts, Unique, held_type_if, local_type, parts_at}
use Rattle.life_store.specs.State.{Cell, Empty, Named, State, ready_of}
use Rattle.life_store.proofs.CellLemmas.{empty_cell_is, none_some, some_same}
use Rattle.life_forest.specs.Frames.{named_in}
use Rattle.life_forest.specs.Kinds.{kinds_of, owned_type}
use Rattle.life_forest.specs.Owned.{alive, times}
use Rattle.life_forest.specs.Settled.{KindsFit}
use Rattle.life_forest.specs.Typed.{IsStore}
use Rattle.life_forest.specs.Values.{listed}
use Rattle.life_forest.proofs.Below.{lives}
use Rattle.life_forest.proofs.Counting.{one_same}
use Rattle.life_forest.proofs.EnteredFrames.{GivesOn, less_sound, local_gives, on_given_next, one_later}
use Rattle.life_forest.proofs.Fitting.{Flat}
use Rattle.life_forest.proofs.Frames.{first_named}
use Rattle.life_forest.proofs.HandedOver.{AreTaken, IsHandedTo, IsTaken, IsTakenIf}
use Rattle.life_forest.proofs.HeldPoints.{IsSound}
use Rattle.life_forest.proofs.Keeping.{Keeps, keeps_self}
use Rattle.life_forest.proofs.OneNumber.{type_there}
use Rattle.life_forest.proofs.ReadyCells.{composed_is_object}
use Rattle.life_forest.proofs.SeenTypes.{parts_typed}
use Rattle.life_forest.proofs.Shaped.{IsShaped}
use Rattle.life_forest.proofs.SlotPlaces.{IsOwnedFor}
use Rattle.life_forest.proofs.SlotSorts.{IsSlotSort, is_owner_slot, slot_sort, taken_type}
use Rattle.life_forest.proofs.SlotsBorn.{slot_gives}

-- ---- what was handed over stays as it is while others are given

module _ (types : Types) (loose : ℕ → Type 0) (hand : ℕ → ℕ) (c d : Content) (store : IsStore types hand c) (keeps : Keeps types loose c d) where
  owned_later : (id : TyId) (owned : Option ℕ) → ((n : ℕ) → target_cell owned ≡ Named n → 0 < alive d n) → IsOwnedFor types c id owned → IsOwnedFor types d id owned
  owned_later id None living owns = tt
  owned_later id (Some n) living owns =
      let x = lives (kinds_of types) d n (living n refl) in
      let was = keeps.stays.was n x.0 (store.forest.births n owns.0 owns.1) x.1 in
      (x.0, x.1, owns.2 ∙ ap (λ (o : Object). Some o.ty) (some_same (sym owns.1 ∙ was.there)) ∙ ap Some was.type)

  taken_one_later : (b : Bool) (id : TyId) (v : Cell) → ((n : ℕ) → v ≡ Named n → (loose n → ⊥) × (0 < alive d n)) → IsTakenIf b types c id v → IsTakenIf b types d id v
  taken_one_later true id v waits taken = (taken.0, taken.1, owned_later id taken.0 (λ n e. (waits n (taken.1 ∙ e)).1) taken.2)
  taken_one_later false id v waits taken = one_later types loose hand c d store keeps id v waits taken

  pub taken_later : (ids : List TyId) (vs : List Cell) → ((n : ℕ) → 0 < times (named_in vs) n → (loose n → ⊥) × (0 < alive d n)) → AreTaken types c ids vs → AreTaken types d ids vs
  taken_later [] [] waits taken = tt
  taken_later [] (v ∷ vs) waits taken = absurd taken
  taken_later (id ∷ ids) [] waits taken = absurd taken
  taken_later (id ∷ ids) (v ∷ vs) waits taken = (
    taken_one_later (is_owner_slot types id) (taken_type types id) v
        (λ n is. waits n (let a = first_named v vs n in let b = ap (λ (u : Cell). times (named_in (u ∷ [])) n) is in let s = one_same n n refl in omega (arith, a, b, s))) taken.0,
    taken_later ids vs (λ n lt. waits n (let a = first_named v vs n in omega (arith, a, lt))) taken.1,
  )

-- ---- a parameter

-- a local of the type, and an object where it is a value
pub record IsParameter (types : Types) (f : Function) (x : ℕ) (l : Local) (id : TyId) : Type 0 where
  pub there : slice_get f.locals x ≡ Some l
  pub type : l.ty ≡ id
  pub value : is_value (ty_of types (taken_type types id)) ≡ true → l.kind ≡ kind.Object

-- .. and so is each from one on
abbrev pub AreParameters : Types → Function → ℕ → List TyId → Type 0
AreParameters types f x [] = Unit {0}
AreParameters types f x (id ∷ ids) = ((l : Local) × IsParameter types f x l id) × AreParameters types f (x + 1) ids

-- the word of a unique_ptr owns what the type says
owned_flat : (types : Types) (c : Content) (id : TyId) (owned : Option ℕ) → ((u : ℕ) → kind_in (parts_at types id) u ≡ Owner → owned_type (parts_at types id) u ≡ owned_type (parts_at types id) 0) → IsOwnedFor types c id owned → Flat c (parts_at types id) (owner_word owned ∷ [])
owned_flat types c id None alike owns u m q k e there = absurd (no_word u e)
  where
    no_word : (u : ℕ) → slice_index (0 ∷ []) u ≡ suc m → ⊥
    no_word zero h = omega (arith, h)
    no_word (suc u) h = omega (arith, h)
owned_flat types c id (Some n) alike owns u m q k e there =
    alike u k ∙ owns.2 ∙ ap (λ (o : Object). Some o.ty) (some_same (sym owns.1 ∙ ap (at c.objects) (same u e) ∙ there))
  where
    same : (u : ℕ) → slice_index (suc n ∷ []) u ≡ suc m → n ≡ m
    same zero h = omega (arith, h)
    same (suc u) h = absurd (omega (arith, h))

module _ (types : Types) (ordered : IsOrdered types) (f : Function) (shaped : IsShaped types f) (kinds : KindsFit types f) (s : Setting) where
  -- ---- one of them

  module _ (rest : ℕ → ℕ) (x : ℕ) (l : Local) (id : TyId) (takes : IsParameter types f x l id) (st : State) (empty : cell st x ≡ Some Empty) (v : Cell) (sound : IsSound types f (λ k. times (named_in (v ∷ [])) k + rest k) st) where
    local : local_type types f x ≡ Some (taken_type types id)
    local = ap (held_type_if types) takes.there ∙ ap (λ (i : TyId). Some (taken_type types i)) takes.type

    own : type_at types f x ≡ ty_of types (taken_type types id)
    own = ap (ty_if types) (shaped x ∙ local)

    plain_gives : is_owner_slot types id ≡ false → IsHandedTo types st.world.content (taken_type types id) v → GivesOn types f rest st.world.content (slice_set (ready_of st) x true) (given s types f v x st)
    plain_gives plain suits =
        local_gives types ordered f shaped kinds rest s x l (taken_type types id)
        (record {
          there = takes.there;
          type = ap (taken_type types) takes.type;
          free = λ other. ap (is_slot_at types) takes.type ∙ no_slot (is_slot_at types id) (ap (λ (b : Bool). is_slot_at types id && not b) (sym other) ∙ plain);
          value = takes.value;
        })
        st empty v sound suits
      where
        no_slot : (b : Bool) → (b && true) ≡ false → b ≡ false
        no_slot true h = absurd (false≢true (sym h))
        no_slot false h = refl

    -- a slot of a unique_ptr is an object of its own
    slot_given : is_owner_slot types id ≡ true → (owned : Option ℕ) → v ≡ target_cell owned → IsOwnedFor types st.world.content (taken_type types id) owned → GivesOn types f rest st.world.content (slice_set (ready_of st) x true) (given s types f v x st)
    slot_given slot owned is owns = by_sort (slot_sort types id both.0)
      where
        both : (is_slot_at types id ≡ true) × (not (is_pointer (ty_of types (taken_type types id))) ≡ true)
        both = and_parts (is_slot_at types id) (not (is_pointer (ty_of types (taken_type types id)))) slot

        -- what is given is born
        born : (o : Option ℕ) → given_to s types (sort_of types f x) id (target_cell o) x st ≡ slot_born s types id o x st
        born None = ap (λ (b : Bool). cond b (slot_born s types id None x st) Strays) both.0
        born (Some n) = ap (λ (b : Bool). cond b (slot_born s types id (Some n) x st) (Next (put_cell x (Named n) st))) both.0

        names : (o : Option ℕ) (k : ℕ) → times (named_in (target_cell o ∷ [])) k ≡ times (listed o) k
        names None k = refl
        names (Some n) k = refl

        by_sort : IsSlotSort (ty_of types (taken_type types id)) → GivesOn types f rest st.world.content (slice_set (ready_of st) x true) (given s types f v x st)
        by_sort (inl pointer) = absurd (false≢true (sym (ap not pointer) ∙ both.1))
        by_sort (inr u) =
            let parts : parts_at types (taken_type types id) ≡ Unique u.0 (parts_at types u.0) = parts_typed types ordered (taken_type types id) (ty.Unique u.0) (type_there types (taken_type types id) (ty.Unique u.0) u.1 refl) in
            subst (λ (e : Effect). GivesOn types f rest st.world.content (slice_set (ready_of st) x true) e)
            (sym (ap (λ (o : Option Local). given_if s types f o v x st) takes.there ∙ ap (λ (i : TyId). given_to s types (sort_of types f x) i v x st) takes.type ∙ ap (λ (w : Cell). given_to s types (sort_of types f x) id w x st) is ∙ born owned))
            (slot_gives types ordered f rest st s id u.0 (parts_at types u.0) parts owned x local empty (composed_is_object types f kinds x (ap is_composed (own ∙ u.1)))
            (less_sound types f (λ k. times (named_in (v ∷ [])) k + rest k) (λ k. times (listed owned) k + rest k) st (λ k. let a = ap (λ (w : Cell). times (named_in (w ∷ [])) k) is in let b = names owned k in omega (arith, a, b)) sound)
            (owned_flat types st.world.content (taken_type types id) owned (subst (λ (p : Parts). (j : ℕ) → kind_in p j ≡ Owner → owned_type p j ≡ owned_type p 0) (sym parts) (λ j k. refl)) owns))

    pub parameter_gives : IsTaken types st.world.content id v → GivesOn types f rest st.world.content (slice_set (ready_of st) x true) (given s types f v x st)
    parameter_gives taken = go (is_owner_slot types id) refl taken
      where
        go : (b : Bool) → is_owner_slot types id ≡ b → IsTakenIf b types st.world.content (taken_type types id) v → GivesOn types f rest st.world.content (slice_set (ready_of st) x true) (given s types f v x st)
        go true is h = slot_given is h.0 h.1 h.2
        go false is h = plain_gives is h

-- ---- all of them

one_given : (x : ℕ) (ls : List Local) → slice_set (given_ready x ls) x true ≡ given_ready (suc x) ls
one_given x [] = refl
one_given zero (l ∷ ls) = refl
one_given (suc x) (l ∷ ls) = ap (λ bits. true ∷ bits) (one_given x ls)

not_given : (x : ℕ) (ls : List Local) (l : Local) → slice_get ls x ≡ Some l → IsBit (given_ready x ls) x false
not_given x [] l e = absurd (none_some e)
not_given zero (m ∷ ls) l e = refl
not_given (suc x) (m ∷ ls) l e = not_given x ls l e

module _ (types : Types) (ordered : IsOrdered types) (f : Function) (shaped : IsShaped types f) (kinds : KindsFit types f) (rest : ℕ → ℕ) (s : Setting) where
  pub parameters_give : (x : ℕ) (ids : List TyId) (vs : List Cell) (st : State) → AreParameters types f x ids → IsSound types f (λ k. times (named_in vs) k + rest k) st → AreTaken types st.world.content ids vs → ready_of st ≡ given_ready x f.locals
      → GivesOn types f rest st.world.content (given_ready (x + length vs) f.locals) (parameters_given s types f x vs st)
  parameters_give x [] [] st taking sound taken bits = record {
    sound = less_sound types f (λ k. 0 + rest k) rest st (λ k. omega arith) sound;
    bits = let e : x ≡ x + 0 = omega arith in bits ∙ ap (λ n. given_ready n f.locals) e;
    waits = keeps_self types (λ k. rest k ≡ 0) st.world.content;
  }
  parameters_give x [] (v ∷ vs) st taking sound taken bits = absurd taken
  parameters_give x (id ∷ ids) [] st taking sound taken bits = absurd taken
  parameters_give x (id ∷ ids) (v ∷ vs) st taking sound taken bits =
      let one : suc x ≡ x + 1 = omega arith in
      let all : x + 1 + length vs ≡ x + suc (length vs) = omega arith in
      let l = taking.0.0 in
      on_given_next types ordered f shaped kinds rest s (λ k. times (named_in vs) k + rest k) st.world.content (slice_set (ready_of st) x true) (given_ready (x + suc (length vs)) f.locals) (given s types f v x st) (parameters_given s types f (x + 1) vs) (λ k. omega arith)
      (parameter_gives types ordered f shaped kinds s (λ k. times (named_in vs) k + rest k) x l id taking.0.1 st (empty_cell_is st.cells x (subst (λ (b : Ready). IsBit b x false) (sym bits) (not_given x f.locals l taking.0.1.there))) v
      (less_sound types f (λ k. times (named_in (v ∷ vs)) k + rest k) (λ k. times (named_in (v ∷ [])) k + (times (named_in vs) k + rest k)) st (λ k. let a = first_named v vs k in omega (arith, a)) sound)
      taken.0)
      (λ st' g. subst (λ n. GivesOn types f rest st'.world.content (given_ready n f.locals) (parameters_given s types f (x + 1) vs st')) all
      (parameters_give (x + 1) ids vs st' taking.1 g.sound
      (taken_later types (λ k. times (named_in vs) k + rest k ≡ 0) (λ k. times (named_in st.cells) k + (times (named_in (v ∷ vs)) k + rest k)) st.world.content st'.world.content sound.stands.store g.waits ids vs
      (λ n lt. (λ z. omega (arith, z, lt), let h = g.sound.stands.store.forest.held n in omega (arith, h, lt))) taken.1)
      (g.bits ∙ ap (λ (b : Ready). slice_set b x true) bits ∙ one_given x f.locals ∙ ap (λ n. given_ready n f.locals) one)))
