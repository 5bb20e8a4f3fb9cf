-- A frame whose locals come to life and end has a store.
use Rattle.std.proofs.Common.{◌≡◌, ℕ, zero, suc, ◌+◌, ◌*◌, ◌≤◌, Bool, true, false, List, [], ◌∷◌, Option, Some, sym, ap, subst, ◌∙◌, arith}
use Rattle.std.specs.Prelude.{cond, nat_lt, slice_get, slice_set}
use Rattle.life_types.specs.Trees.{IsOrdered}
use Rattle.life_types.specs.Types.{Types}
use Rattle.life_types.specs.declared.ty.TyId.{TyId}
use Rattle.life_core.specs.declared.instr.Form.{Form}
use Rattle.life_store.specs.Births.{born_object, born_owner, end_cell, end_object, with_value_object}
use Rattle.life_store.specs.Cells.{at}
use Rattle.life_store.specs.Content.{Slot, Object, Content, live_words_of, without}
use Rattle.life_store.specs.Effects.{Setting, Attempt, Got, GotTrap, GotFault, GotLost, Effect, Next, Traps, cell, on_got, put_cell, put_content}
use Rattle.life_store.specs.Held.{slots_if, words_if}
use Rattle.life_store.specs.Owners.{ended, ended_object, fresh, object_with}
use Rattle.life_store.specs.Parts.{Parts, parts_at, width_at}
use Rattle.life_store.specs.State.{Cell, Empty, Named, Number, Points, State}
use Rattle.life_store.specs.declared.run.TrapKind.TheVariants as trap
use Rattle.life_store.proofs.CellLemmas.{none_some, some_same}
use Rattle.life_forest.specs.Frames.{HasStore, OnNext, named_in}
use Rattle.life_forest.specs.Kinds.{kinds_of}
use Rattle.life_forest.specs.Owned.{times}
use Rattle.life_forest.specs.Typed.{IsStore}
use Rattle.life_forest.proofs.Below.{empty_handed}
use Rattle.life_forest.proofs.Coming.{IfGot}
use Rattle.life_forest.proofs.Lives.{born_store, ended_store, value_born_store}

-- ---- cells

abbrev named_by : Cell → List ℕ
named_by v = named_in (v ∷ [])

pub first_named : (v : Cell) (vs : List Cell) (k : ℕ) → times (named_in (v ∷ vs)) k ≡ times (named_in (v ∷ [])) k + times (named_in vs) k
first_named Empty vs k = omega arith
first_named (Named n) vs k = omega arith
first_named (Number z) vs k = omega arith
first_named (Points p) vs k = omega arith

-- what a cell named goes, and what it names comes
pub named_put : (cells : List Cell) (x : ℕ) (old v : Cell) (k : ℕ) → slice_get cells x ≡ Some old
    → times (named_in (slice_set cells x v)) k + times (named_in (old ∷ [])) k ≡ times (named_in cells) k + times (named_in (v ∷ [])) k
named_put [] x old v k e = absurd (none_some e)
named_put (c ∷ cs) zero old v k e =
    let a = first_named v cs k in
    let b = first_named c cs k in
    let s = ap (λ (y : Cell). times (named_in (y ∷ [])) k) (some_same e) in
    omega arith
named_put (c ∷ cs) (suc x) old v k e =
    let a = first_named c (slice_set cs x v) k in
    let b = first_named c cs k in
    let h = named_put cs x old v k e in
    omega arith

pub less_in_hand : (types : Types) (hand new : ℕ → ℕ) (c : Content) → ((k : ℕ) → new k ≤ hand k) → IsStore types hand c → IsStore types new c
less_in_hand types hand new c le store = record { forest = empty_handed (kinds_of types) hand new c le store.forest; fit = store.fit }

pub on_got_next : {A : Type 0} (x : Attempt A) (go : A → Effect) (P : A → Type 0) (Q : State → Type 0) → IfGot x P → ((a : A) → P a → OnNext (go a) Q) → OnNext (on_got x go) Q
on_got_next (Got a) go P Q h more = more a h
on_got_next (GotTrap kind) go P Q h more = tt
on_got_next (GotFault kind) go P Q h more = tt
on_got_next GotLost go P Q h more = tt

module _ (types : Types) (ordered : IsOrdered types) (rest : ℕ → ℕ) (st : State) (x : ℕ) (store : HasStore types rest st) where
  -- ---- a local comes to life

  abbrev has : ℕ → ℕ
  has k = times (named_in st.cells) k + rest k

  put_named : (n : ℕ) (k : ℕ) → cell st x ≡ Some Empty → times (named_in (slice_set st.cells x (Named n))) k + rest k ≤ times (n ∷ []) k + (times (named_in st.cells) k + rest k)
  put_named n k empty = let e = named_put st.cells x Empty (Named n) k empty in omega arith

  -- an owner or a struct, with what it owns
  pub owner_lives : (s : Setting) (ty : TyId) (form : Form) → cell st x ≡ Some Empty → OnNext (born_owner s ty (parts_at types ty) form x st) (HasStore types rest)
  owner_lives s ty form empty =
      on_got_next (object_with s ty (parts_at types ty) (fresh s form (parts_at types ty)) st.world.content) (λ b. Next (put_cell x (Named b.0) (put_content b.1 st)))
      (λ b. IsStore types (λ k. times (b.0 ∷ []) k + (times (named_in st.cells) k + rest k)) b.1) (HasStore types rest)
      (born_store types ordered s form ty (λ k. times (named_in st.cells) k + rest k) st.world.content store)
      (λ b h. less_in_hand types (λ k. times (b.0 ∷ []) k + (times (named_in st.cells) k + rest k)) (λ k. times (named_in (slice_set st.cells x (Named b.0))) k + rest k) b.1 (λ k. put_named b.0 k empty) h)

  -- a value
  pub value_lives : (s : Setting) (ty : TyId) → width_at types ty ≡ 1 → cell st x ≡ Some Empty → OnNext (born_object s ty x st) (HasStore types rest)
  value_lives s ty wide empty =
      if_next (nat_lt s.given.cells (live_words_of st.world.content + (2 + 1 * 1))) (Next (put_cell x (Named st.world.content.births) (put_content (with_value_object ty st.world.content) st)))
      (less_in_hand types (λ k. times (st.world.content.births ∷ []) k + (times (named_in st.cells) k + rest k)) (λ k. times (named_in (slice_set st.cells x (Named st.world.content.births))) k + rest k)
      (with_value_object ty st.world.content) (λ k. put_named st.world.content.births k empty)
      (value_born_store types ordered ty (λ k. times (named_in st.cells) k + rest k) st.world.content wide store))
    where
      if_next : (b : Bool) (e : Effect) → OnNext e (HasStore types rest) → OnNext (cond b (Traps trap.Cells) e) (HasStore types rest)
      if_next true e h = tt
      if_next false e h = h

  -- ---- .. and ends, with all beneath it

  pub local_ends : (parts : Parts) (n : ℕ) (o : Object) (s : Slot) → cell st x ≡ Some (Named n) → at st.world.content.objects n ≡ Some o → o.slots ≡ s ∷ [] → parts ≡ parts_at types o.ty
      → OnNext (end_cell parts (Some (Named n)) x st) (HasStore types rest)
  local_ends parts n o s named there one_slot is =
      subst (λ (y : Option Object). OnNext (end_object parts y n x st) (HasStore types rest)) (sym there)
      (subst (λ (d : Content). IsStore types (λ k. times (named_in (slice_set st.cells x Empty)) k + rest k) d) same
      (ended_store types ordered (λ k. times (named_in (slice_set st.cells x Empty)) k + rest k) st.world.content n o s
      (less_in_hand types (λ k. times (named_in st.cells) k + rest k) (λ k. times (n ∷ []) k + (times (named_in (slice_set st.cells x Empty)) k + rest k)) st.world.content
      (λ k. let e = named_put st.cells x (Named n) Empty k named in omega arith) store)
      there one_slot))
    where
      same : ended_object (parts_at types o.ty) n st.world.content ≡ without n (ended parts (words_if (slice_get o.slots 0)) st.world.content)
      same =
          ap (λ p. ended_object p n st.world.content) (sym is)
          ∙ ap (λ (y : Option Object). without n (ended parts (words_if (slice_get (slots_if y) 0)) st.world.content)) there
