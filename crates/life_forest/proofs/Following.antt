-- A frame is as its locals say behind a step: what its cells named and aimed at is of the same types, and what lives has one slot still.
use Rattle.std.proofs.Common.{◌≡◌, ◌⊎◌, inl, inr, ⊎_elim, ℕ, zero, suc, ◌+◌, ◌≤◌, ◌<◌, List, [], ◌∷◌, length, Option, Some, refl, sym, ap, subst, ◌∙◌, arith}
use Rattle.std.specs.Prelude.{ℤ, slice_get}
use Rattle.life_types.specs.Types.{Types}
use Rattle.life_types.specs.declared.ty.TyId.{TyId}
use Rattle.life_core.specs.Function.{Function}
use Rattle.life_store.specs.Content.{Slot, Object, Content}
use Rattle.life_store.specs.Effects.{Effect, Next, Traps, Faults, Strays, put_cell, put_content}
use Rattle.life_store.specs.Parts.{local_type}
use Rattle.life_store.specs.State.{Target, Pointer, Null, Wild, To, Static, Cell, Empty, Named, Number, Points, State}
use Rattle.life_store.proofs.CellLemmas.{cell_cases, none_some, some_same}
use Rattle.life_forest.specs.FrameTypes.{Aims, IsFrame, IsVariable, PointsWell, Stands, seen_type}
use Rattle.life_forest.specs.Frames.{HasStore, OnNext, named_in}
use Rattle.life_forest.specs.Kinds.{kinds_of}
use Rattle.life_forest.specs.Owned.{alive, holders, times}
use Rattle.life_forest.specs.Typed.{IsStore}
use Rattle.life_forest.specs.Within.{LiesWithin}
use Rattle.life_forest.proofs.Below.{lives}
use Rattle.life_forest.proofs.Counting.{one_same}
use Rattle.life_forest.proofs.Frames.{first_named}
use Rattle.life_forest.proofs.Staying.{Stays}
use Rattle.life_forest.proofs.Steps.{alive_le}

-- what is owned may have another size behind a step, and what is in the hand not
abbrev pub IsOwned : Types → Content → ℕ → Type 0
IsOwned types c n = 0 < holders (kinds_of types) c n

-- each cell holds what it held, or something new of its local's type
pub record Follows (types : Types) (f : Function) (st st' : State) : Type 0 where
  pub stays : Stays (IsOwned types st.world.content) st.world.content st'.world.content
  pub named : (x n : ℕ) → slice_get st'.cells x ≡ Some (Named n) → (slice_get st.cells x ≡ Some (Named n)) ⊎ IsVariable st'.world.content (local_type types f x) n
  pub aimed : (x : ℕ) (p : Pointer) → slice_get st'.cells x ≡ Some (Points p) → (slice_get st.cells x ≡ Some (Points p)) ⊎ PointsWell types st'.world.content (seen_type types (local_type types f x)) p

-- ---- what was named and aimed at before

-- what a cell names is in the hand
pub in_hand : (cells : List Cell) (x n : ℕ) → slice_get cells x ≡ Some (Named n) → 0 < times (named_in cells) n
in_hand [] x n e = absurd (none_some e)
in_hand (v ∷ vs) zero n e =
    let a = first_named v vs n in
    let b = ap (λ (y : Cell). times (named_in (y ∷ [])) n) (some_same e) in
    let s = one_same n n refl in
    omega arith
in_hand (v ∷ vs) (suc x) n e = let a = first_named v vs n in let h = in_hand vs x n e in omega arith

pub one_slot : (ss : List Slot) → length ss ≡ 1 → (s : Slot) × (ss ≡ s ∷ [])
one_slot [] e = absurd (omega (arith, e))
one_slot (s ∷ []) e = (s, refl)
one_slot (s ∷ (t ∷ ss)) e = absurd (omega (arith, e))

module _ (types : Types) (loose : ℕ → Type 0) (c d : Content) (stays : Stays loose c d) where
  -- a variable that lives and doesn't change its size is one still
  pub variable_stays : (hand : ℕ → ℕ) → IsStore types hand c → (id : Option TyId) (n : ℕ) → IsVariable c id n → (loose n → ⊥) → 0 < alive d n → IsVariable d id n
  variable_stays hand store id n v fixed living =
      let x = lives (kinds_of types) d n living in
      let born = store.forest.births n v.object v.there in
      let w = stays.was n x.0 born x.1 in
      let same : w.object ≡ v.object = some_same (sym w.there ∙ v.there) in
      let slots = one_slot x.0.slots (sym (w.size fixed) ∙ ap (λ (o : Object). length o.slots) same ∙ ap length v.one) in
      record { object = x.0; there = x.1; type = v.type ∙ ap Some (sym (ap (λ (o : Object). o.ty) same) ∙ w.type); slot = slots.0; one = slots.1 }

  -- what was aimed at is, whatever was done
  pub aims_stay : (id : Option TyId) (t : Target) → Aims types c id t → Aims types d id t
  aims_stay id t a = record {
    given = let b = stays.births in let g = a.given in omega arith;
    place = λ o part there is. let w = stays.was t.object o a.given there in subst (λ ty. LiesWithin types ty t.word part) w.type (a.place w.object part w.there is);
  }

  pub pointer_stays : (id : Option TyId) (p : Pointer) → PointsWell types c id p → PointsWell types d id p
  pointer_stays id Null well = tt
  pointer_stays id Wild well = tt
  pointer_stays id (To t) well = aims_stay id t well
  pointer_stays id (Static s) well = well

  -- a frame that waits is as its locals say still, where what it names lives and doesn't change its size
  pub waiting_stays : (g : Function) (cells : List Cell) (hand left : ℕ → ℕ) → IsStore types hand c → IsStore types left d → ((x n : ℕ) → slice_get cells x ≡ Some (Named n) → loose n → ⊥) → ((k : ℕ) → times (named_in cells) k ≤ left k) → IsFrame types g c cells → IsFrame types g d cells
  waiting_stays g cells hand left store later fixed behind frame = record {
    objects = λ x n e. variable_stays hand store (local_type types g x) n (frame.objects x n e) (fixed x n e) (let i = in_hand cells x n e in let b = behind n in let h = later.forest.held n in omega arith);
    pointers = λ x p e. pointer_stays (seen_type types (local_type types g x)) p (frame.pointers x p e);
  }

-- ---- the frame that runs

module _ (types : Types) (f : Function) (rest : ℕ → ℕ) (st : State) (stands : Stands types f rest st) where
  pub follows_stands : (st' : State) → HasStore types rest st' → Follows types f st st' → Stands types f rest st'
  follows_stands st' store follows = record {
    store = store;
    frame = record {
      objects = λ x n e. ⊎_elim
          (λ old. variable_stays types (IsOwned types st.world.content) st.world.content st'.world.content follows.stays (λ k. times (named_in st.cells) k + rest k) stands.store (local_type types f x) n (stands.frame.objects x n old)
          (λ owned. let i = in_hand st.cells x n old in let h = stands.store.forest.held n in let a = alive_le (kinds_of types) st.world.content n in omega (arith, owned, i, h, a))
          (let i = in_hand st'.cells x n e in let h = store.forest.held n in omega arith))
          (λ new. new)
          (follows.named x n e);
      pointers = λ x p e. ⊎_elim (λ old. pointer_stays types (IsOwned types st.world.content) st.world.content st'.world.content follows.stays (seen_type types (local_type types f x)) p (stands.frame.pointers x p old)) (λ new. new) (follows.aimed x p e);
    };
  }

  pub next_stands : (e : Effect) → OnNext e (HasStore types rest) → OnNext e (Follows types f st) → OnNext e (Stands types f rest)
  next_stands (Next st') store follows = follows_stands st' store follows
  next_stands (Traps kind) store follows = tt
  next_stands (Faults kind) store follows = tt
  next_stands Strays store follows = tt

-- ---- the ways to follow

module _ (types : Types) (f : Function) (st : State) where
  abbrev pub StaysOn : Content → Type 0
  StaysOn d = Stays (IsOwned types st.world.content) st.world.content d

  -- the content alone is another one
  pub follows_content : (d : Content) → StaysOn d → Follows types f st (put_content d st)
  follows_content d stays = record { stays = stays; named = λ x n e. inl e; aimed = λ x t e. inl e }

  -- .. and a cell
  pub follows_cell : (d : Content) (x : ℕ) (v : Cell) → StaysOn d → ((n : ℕ) → v ≡ Named n → IsVariable d (local_type types f x) n) → ((p : Pointer) → v ≡ Points p → PointsWell types d (seen_type types (local_type types f x)) p)
      → Follows types f st (put_cell x v (put_content d st))
  follows_cell d x v stays named aimed = record {
    stays = stays;
    named = λ y n e. ⊎_elim (λ s. inr (subst (λ z. IsVariable d (local_type types f z) n) s.0 (named n s.1))) (λ o. inl o.1) (cell_cases st.cells x y v (Named n) e);
    aimed = λ y p e. ⊎_elim (λ s. inr (subst (λ z. PointsWell types d (seen_type types (local_type types f z)) p) s.0 (aimed p s.1))) (λ o. inl o.1) (cell_cases st.cells x y v (Points p) e);
  }

  -- .. that holds nothing, a number, a pointer, or names an object
  pub follows_empty : (d : Content) (x : ℕ) → StaysOn d → Follows types f st (put_cell x Empty (put_content d st))
  follows_empty d x stays = follows_cell d x Empty stays (λ n e. absurd (unnamed n e)) (λ p e. absurd (unaimed p e))
    where
      unnamed : (n : ℕ) → Empty ≡ Named n → ⊥
      unnamed n e = cc

      unaimed : (p : Pointer) → Empty ≡ Points p → ⊥
      unaimed p e = cc

  pub follows_number : (d : Content) (x : ℕ) (z : ℤ) → StaysOn d → Follows types f st (put_cell x (Number z) (put_content d st))
  follows_number d x z stays = follows_cell d x (Number z) stays (λ n e. absurd (unnamed n e)) (λ p e. absurd (unaimed p e))
    where
      unnamed : (n : ℕ) → Number z ≡ Named n → ⊥
      unnamed n e = cc

      unaimed : (p : Pointer) → Number z ≡ Points p → ⊥
      unaimed p e = cc

  pub follows_pointer : (d : Content) (x : ℕ) (p : Pointer) → StaysOn d → PointsWell types d (seen_type types (local_type types f x)) p → Follows types f st (put_cell x (Points p) (put_content d st))
  follows_pointer d x p stays well = follows_cell d x (Points p) stays (λ n e. absurd (unnamed n e)) (λ q e. subst (PointsWell types d (seen_type types (local_type types f x))) (same q e) well)
    where
      unnamed : (n : ℕ) → Points p ≡ Named n → ⊥
      unnamed n e = cc

      same : (q : Pointer) → Points p ≡ Points q → p ≡ q
      same q e = cc

  pub follows_object : (d : Content) (x n : ℕ) → StaysOn d → IsVariable d (local_type types f x) n → Follows types f st (put_cell x (Named n) (put_content d st))
  follows_object d x n stays variable = follows_cell d x (Named n) stays (λ m e. subst (IsVariable d (local_type types f x)) (same m e) variable) (λ p e. absurd (unaimed p e))
    where
      unaimed : (p : Pointer) → Named n ≡ Points p → ⊥
      unaimed p e = cc

      same : (m : ℕ) → Named n ≡ Named m → n ≡ m
      same m e = cc
