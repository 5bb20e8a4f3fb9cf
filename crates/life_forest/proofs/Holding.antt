-- A step that writes no pointer of an object that its frame names keeps what these hold.
use Rattle.std.proofs.Common.{◌≡◌, ⊎_elim, ℕ, zero, suc, ◌<◌, [], Option, Some, None, refl, sym, ap, subst, ◌∙◌, arith}
use Rattle.std.specs.Prelude.{drop, slice_get, take}
use Rattle.life_types.specs.Types.{Types}
use Rattle.life_types.specs.declared.ty.TyId.{TyId}
use Rattle.life_core.specs.Function.{Function}
use Rattle.life_store.specs.Cells.{at}
use Rattle.life_store.specs.Content.{Object, Content}
use Rattle.life_store.specs.Effects.{Effect, Next, Traps, Faults, Strays, cell, put_cell, put_content}
use Rattle.life_store.specs.Held.{pointer_in, slots_if, words_at, words_if}
use Rattle.life_store.specs.Parts.{local_type}
use Rattle.life_store.specs.State.{Wild, Cell, Named, State}
use Rattle.life_store.proofs.CellLemmas.{cell_cases, some_same}
use Rattle.life_forest.specs.Begins.{begins_at}
use Rattle.life_forest.specs.FrameTypes.{IsVariable, PointsWell, Stands, seen_type}
use Rattle.life_forest.specs.Frames.{OnNext}
use Rattle.life_forest.specs.HeldPointers.{HoldWell, HoldsWell}
use Rattle.life_forest.specs.Kinds.{kinds_of}
use Rattle.life_forest.specs.Sorted.{PointerFits}
use Rattle.life_forest.proofs.Following.{IsOwned, in_hand}
use Rattle.life_forest.proofs.HeldPointers.{holds_stay}
use Rattle.life_forest.proofs.Keeping.{Keeps, keeps_more, keeps_self, keeps_then}
use Rattle.life_forest.proofs.Steps.{alive_le}

-- what isn't there holds wild pointers alone
pub gone_holds : (types : Types) (d : Content) (n : ℕ) (id : TyId) → at d.objects n ≡ None → HoldsWell types d n id
gone_holds types d n id gone = record {
  aims = λ u part begins. subst (PointsWell types d (seen_type types (Some part))) (sym (wild u)) tt;
  fits = λ u part t begins there. subst (PointerFits t) (sym (wild u)) tt;
}
  where
    nothing : (u : ℕ) → pointer_in (take 5 (drop u [])) ≡ Wild
    nothing zero = refl
    nothing (suc u) = refl

    wild : (u : ℕ) → pointer_in (words_at d n 0 u 5) ≡ Wild
    wild u = ap (λ (o : Option Object). pointer_in (take 5 (drop u (words_if (slice_get (slots_if o) 0))))) gone ∙ nothing u

-- pointers stay in what other frames have in the hand
abbrev pub KeepsWaiting : Types → (ℕ → ℕ) → Content → Content → Type 0
KeepsWaiting types rest c d = Keeps types (λ n. rest n ≡ 0) c d

-- what holds behind a step: the frame's objects hold well, and so do those that wait
pub record Holds (types : Types) (f : Function) (rest : ℕ → ℕ) (st st' : State) : Type 0 where
  pub well : HoldWell types f st'
  pub waits : KeepsWaiting types rest st.world.content st'.world.content

module _ (types : Types) (f : Function) (st : State) where
  abbrev pub KeepsOn : Content → Type 0
  KeepsOn d = Keeps types (IsOwned types st.world.content) st.world.content d

  -- pointers stay in what isn't owned, and a cell names what it named
  pub record KeepsHeld (st' : State) : Type 0 where
    pub keeps : KeepsOn st'.world.content
    pub named : (x n : ℕ) → cell st' x ≡ Some (Named n) → cell st x ≡ Some (Named n)

  pub held_self : KeepsHeld st
  held_self = record { keeps = keeps_self types (IsOwned types st.world.content) st.world.content; named = λ x n e. e }

  pub held_content : (d : Content) → KeepsOn d → KeepsHeld (put_content d st)
  held_content d keeps = record { keeps = keeps; named = λ x n e. e }

  -- .. and a cell names nothing any more
  pub held_cell : (st' : State) (x : ℕ) (v : Cell) → ((n : ℕ) → v ≡ Named n → ⊥) → KeepsHeld st' → KeepsHeld (put_cell x v st')
  held_cell st' x v nameless h = record {
    keeps = h.keeps;
    named = λ y n e. ⊎_elim (λ s. absurd (nameless n s.1)) (λ o. h.named y n o.1) (cell_cases st'.cells x y v (Named n) e);
  }

-- a variable that isn't written holds well still
pub variable_holds : (types : Types) (loose : ℕ → Type 0) (c d : Content) → Keeps types loose c d → (n : ℕ) (id : TyId) → IsVariable c (Some id) n → n < c.births → (loose n → ⊥) → HoldsWell types c n id → HoldsWell types d n id
variable_holds types loose c d keeps n id v born fixed well = go (at d.objects n) refl
  where
    go : (y : Option Object) → at d.objects n ≡ y → HoldsWell types d n id
    go None gone = gone_holds types d n id gone
    go (Some y) there =
        let before = keeps.stays.was n y born there in
        let type : id ≡ y.ty = some_same v.type ∙ ap (λ (o : Object). o.ty) (some_same (sym v.there ∙ before.there)) ∙ before.type in
        holds_stay types loose c d n id keeps.stays
        (λ u part begins.
        ap (λ (o : Option Object). take 5 (drop u (words_if (slice_get (slots_if o) 0)))) v.there
        ∙ keeps.kept n v.object y born fixed v.there there u part (ap (λ ty. begins_at types ty u) (sym type) ∙ begins)
        ∙ sym (ap (λ (o : Option Object). take 5 (drop u (words_if (slice_get (slots_if o) 0)))) there))
        well

module _ (types : Types) (f : Function) (rest : ℕ → ℕ) (st : State) (stands : Stands types f rest st) where
  -- .. and so is what a cell named
  pub kept_holds : (loose : ℕ → Type 0) (d : Content) → Keeps types loose st.world.content d → (x n : ℕ) (id : TyId) → (loose n → ⊥) → cell st x ≡ Some (Named n) → local_type types f x ≡ Some id
      → HoldsWell types st.world.content n id → HoldsWell types d n id
  kept_holds loose d keeps x n id fixed named typed well =
      let v = stands.frame.objects x n named in
      variable_holds types loose st.world.content d keeps n id (subst (λ (y : Option TyId). IsVariable st.world.content y n) typed v) (stands.store.forest.births n v.object v.there) fixed well

  -- what a frame names isn't owned
  pub unowned : (x n : ℕ) → cell st x ≡ Some (Named n) → IsOwned types st.world.content n → ⊥
  unowned x n named owned = let i = in_hand st.cells x n named in let h = stands.store.forest.held n in let a = alive_le (kinds_of types) st.world.content n in omega (arith, owned, i, h, a)

  pub named_holds : (d : Content) → KeepsOn types f st d → (x n : ℕ) (id : TyId) → cell st x ≡ Some (Named n) → local_type types f x ≡ Some id → HoldsWell types st.world.content n id → HoldsWell types d n id
  named_holds d keeps x n id named typed well = kept_holds (IsOwned types st.world.content) d keeps x n id (unowned x n named) named typed well

  -- ---- what waits keeps its pointers, too

  pub owned_free : (n : ℕ) → IsOwned types st.world.content n → rest n ≡ 0
  owned_free n owned = let h = stands.store.forest.held n in let a = alive_le (kinds_of types) st.world.content n in omega (arith, owned, h, a)

  pub named_free : (x n : ℕ) → cell st x ≡ Some (Named n) → rest n ≡ 0
  named_free x n named = let i = in_hand st.cells x n named in let h = stands.store.forest.held n in let a = alive_le (kinds_of types) st.world.content n in omega (arith, i, h, a)

  pub keeps_waiting : (d : Content) → KeepsOn types f st d → KeepsWaiting types rest st.world.content d
  keeps_waiting d keeps = keeps_more types (IsOwned types st.world.content) (λ n. rest n ≡ 0) st.world.content d owned_free keeps

  pub held_holds : (st' : State) → KeepsHeld types f st st' → HoldWell types f st → Holds types f rest st st'
  held_holds st' h held = record {
    well = λ x n id named typed. let was = h.named x n named in named_holds st'.world.content h.keeps x n id was typed (held x n id was typed);
    waits = keeps_waiting st'.world.content h.keeps;
  }

  pub next_holds : (e : Effect) → HoldWell types f st → OnNext e (KeepsHeld types f st) → OnNext e (Holds types f rest st)
  next_holds (Next st') held h = held_holds st' h held
  next_holds (Traps kind) held h = tt
  next_holds (Faults kind) held h = tt
  next_holds Strays held h = tt

-- one step after another
pub holds_then : (types : Types) (f : Function) (rest : ℕ → ℕ) (st mid st' : State) → Holds types f rest st mid → Holds types f rest mid st' → Holds types f rest st st'
holds_then types f rest st mid st' first second = record { well = second.well; waits = keeps_then types (λ n. rest n ≡ 0) st.world.content mid.world.content st'.world.content first.waits second.waits }

pub on_next_holds : (types : Types) (f : Function) (rest : ℕ → ℕ) (st mid : State) (e : Effect) → Holds types f rest st mid → OnNext e (Holds types f rest mid) → OnNext e (Holds types f rest st)
on_next_holds types f rest st mid (Next st') first second = holds_then types f rest st mid st' first second
on_next_holds types f rest st mid (Traps kind) first second = tt
on_next_holds types f rest st mid (Faults kind) first second = tt
on_next_holds types f rest st mid Strays first second = tt
