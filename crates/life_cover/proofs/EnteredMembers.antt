-- While the parameters of a function are given what a call hands over, a member of one that is a pointer holds what it was handed over with.
use Rattle.std.proofs.Common.{◌≡◌, ℕ, zero, suc, ◌<◌, true, false, List, [], ◌∷◌, map, take, Option, Some, None, refl, sym, ap, subst, ◌∙◌, arith}
use Rattle.std.specs.Prelude.{slice_get}
use Rattle.std.proofs.lemmas.Bool.{false≢true}
use Rattle.life_types.specs.Pointees.{or_void, ty_of}
use Rattle.life_types.specs.Trees.{IsOrdered}
use Rattle.life_types.specs.TypeTests.{is_pointer, is_value}
use Rattle.life_types.specs.Types.{HasEachOnce, Types}
use Rattle.life_types.specs.declared.ty.Ty.{Ty}
use Rattle.life_types.specs.declared.ty.Ty.TheVariants as ty
use Rattle.life_types.specs.declared.ty.TyId.{TyId}
use Rattle.life_core.specs.declared.program.Local.{Local}
use Rattle.life_core.specs.Function.{Function}
use Rattle.life_core.specs.Operands.{Location}
use Rattle.life_pset.specs.declared.element.Root.{Root}
use Rattle.life_proper.specs.Placed.{type_in}
use Rattle.life_proper.specs.WellFormed as formed
use Rattle.life_store.specs.Content.{Content}
use Rattle.life_store.specs.Effects.{cell}
use Rattle.life_store.specs.Parts.{held_type_if, local_type, members_if, type_within}
use Rattle.life_store.specs.Places.{location_cell, member_cell}
use Rattle.life_store.specs.State.{Cell, Empty, Named, Number, Pointer, Points, State, World}
use Rattle.life_store.proofs.CellLemmas.{none_some, some_same}
use Rattle.life_forest.specs.FrameTypes.{IsVariable}
use Rattle.life_forest.specs.Typed.{IsStore}
use Rattle.life_forest.proofs.EntryFrames.{types_held}
use Rattle.life_forest.proofs.HandedOver.{AreHandedTo, IsHandedTo}
use Rattle.life_forest.proofs.SlotSorts.{taken_type}
use Rattle.life_forest.proofs.Shaped.{IsShaped}
use Rattle.life_cover.specs.Regions.{Region}
use Rattle.life_cover.proofs.Begun.{IsBegun}
use Rattle.life_cover.proofs.LocationsListed.{pointer_memberless}
use Rattle.life_cover.proofs.MemberWords.{SparesAt, held_before, is_pointing}
use Rattle.life_cover.proofs.Unkilled.{beneath_nothing, no_foot}

-- ---- what a parameter is handed over

pub record IsHandedAt (types : Types) (c : Content) (n : ℕ) (ls : List Local) (y : ℕ) (v : Cell) : Type 0 where
  pub local : Local
  pub there : slice_get ls y ≡ Some local
  pub lt : y < n
  pub suits : IsHandedTo types c (taken_type types local.ty) v

pub handed_at : (types : Types) (c : Content) (n : ℕ) (ls : List Local) (vs : List Cell) (y : ℕ) (v : Cell) → AreHandedTo types c (map (taken_type types) (map formed.local_type (take n ls))) vs → slice_get vs y ≡ Some v → IsHandedAt types c n ls y v
handed_at types c zero ls [] y v suits here = absurd (none_some here)
handed_at types c zero ls (u ∷ vs) y v suits here = absurd suits
handed_at types c (suc n) [] [] y v suits here = absurd (none_some here)
handed_at types c (suc n) [] (u ∷ vs) y v suits here = absurd suits
handed_at types c (suc n) (l ∷ ls) [] y v suits here = absurd suits
handed_at types c (suc n) (l ∷ ls) (u ∷ vs) zero v suits here = record { local = l; there = refl; lt = omega arith; suits = subst (IsHandedTo types c (taken_type types l.ty)) (some_same here) suits.0 }
handed_at types c (suc n) (l ∷ ls) (u ∷ vs) (suc y) v suits here =
    let h = handed_at types c n ls vs y v suits.1 here in
    let lt = h.lt in
    record { local = h.local; there = h.there; lt = omega (arith, lt); suits = h.suits }

-- a value has no members
nowhere : (types : Types) (ms : List ℕ) (part : TyId) → type_within types None ms ≡ Some part → ⊥
nowhere types [] part h = none_some h
nowhere types (m ∷ ms) part h = none_some h

value_memberless : (types : Types) (id : TyId) (m : ℕ) (ms : List ℕ) (part : TyId) → type_within types (Some id) (m ∷ ms) ≡ Some part → is_value (ty_of types id) ≡ false
value_memberless types id m ms part typed = go (slice_get types.types id.0) typed
  where
    go : (o : Option Ty) → type_within types (slice_get (members_if types o) m) ms ≡ Some part → is_value (or_void o) ≡ false
    go (Some (ty.Struct number)) h = refl
    go None h = absurd (nowhere types ms part h)
    go (Some _) h = absurd (nowhere types ms part h)

-- ---- a frame that begins

module _ (types : Types) (ordered : IsOrdered types) (once : HasEachOnce types) (f : Function) (shaped : IsShaped types f) (inputs : Root → Option Region) (vs : List Cell) (hand : ℕ → ℕ) (w : World) (store : IsStore types hand w.content) (suits : AreHandedTo types w.content (types_held types f) vs)
    (st : State) (begun : IsBegun types f inputs vs w.content st) where
  -- what is handed over, as if it were a frame
  abbrev entry : State
  entry = record { world = w; cells = vs }

  typed : (x : ℕ) (v : Cell) (e : slice_get vs x ≡ Some v) → local_type types f x ≡ Some (taken_type types (handed_at types w.content f.parameters f.locals vs x v suits e).local.ty)
  typed x v e = ap (held_type_if types) (handed_at types w.content f.parameters f.locals vs x v suits e).there

  variables : (x n : ℕ) → slice_get vs x ≡ Some (Named n) → IsVariable w.content (local_type types f x) n
  variables x n e = subst (λ (id : Option TyId). IsVariable w.content id n) (sym (typed x (Named n) e)) (handed_at types w.content f.parameters f.locals vs x (Named n) suits e).suits.0

  module _ (l : Location) (p : Pointer) (pointer : is_pointer (type_in types f l) ≡ true) (held : location_cell types f l st ≡ Some (Points p)) where
    -- nothing is touched
    spared : SparesAt types f entry no_foot l
    spared = record { apart = λ n e low. beneath_nothing types w.content n low; words = λ n j e lt. refl }

    -- the object was handed over, since a value and a pointer have no members
    object_handed : (n m : ℕ) (ms : List ℕ) → l.members ≡ m ∷ ms → cell st l.local ≡ Some (Named n) → slice_get vs l.local ≡ Some (Named n)
    object_handed n m ms members named = by_cell g.0 g.1 (handed_at types w.content f.parameters f.locals vs l.local g.0 suits g.1).suits (typed l.local g.0 g.1) g.2
      where
        g : (v : Cell) × (slice_get vs l.local ≡ Some v) × ((k : ℕ) → v ≡ Named k → n ≡ k)
        g = begun.given l.local n named

        within : (id : TyId) → local_type types f l.local ≡ Some id → type_within types (Some id) (m ∷ ms) ≡ Some (is_pointing types ordered once f shaped l pointer).part
        within id is = ap (λ (o : Option TyId). type_within types o (m ∷ ms)) (sym is) ∙ ap (type_within types (local_type types f l.local)) (sym members) ∙ (is_pointing types ordered once f shaped l pointer).typed

        by_cell : (v : Cell) → slice_get vs l.local ≡ Some v → {id : TyId} → IsHandedTo types w.content id v → local_type types f l.local ≡ Some id → ((k : ℕ) → v ≡ Named k → n ≡ k) → slice_get vs l.local ≡ Some (Named n)
        by_cell Empty e h is same = absurd h
        by_cell (Named k) e h is same = e ∙ ap (λ j. Some (Named j)) (sym (same k refl))
        by_cell (Number z) e {id} h is same = absurd (false≢true (sym (value_memberless types id m ms (is_pointing types ordered once f shaped l pointer).part (within id is)) ∙ h))
        by_cell (Points q) e {id} h is same = absurd (false≢true (sym (pointer_memberless types ordered id m ms (is_pointing types ordered once f shaped l pointer).part (within id is)) ∙ h.0))

    pub member_handed : member_cell types f l.local l.members (slice_get vs l.local) w.content ≡ Some (Points p)
    member_handed = go l.members refl (cell st l.local) refl held
      where
        go : (ms : List ℕ) → l.members ≡ ms → (x : Option Cell) → cell st l.local ≡ x → member_cell types f l.local ms x st.world.content ≡ Some (Points p) → member_cell types f l.local l.members (slice_get vs l.local) w.content ≡ Some (Points p)
        go [] none x e h = ap (λ (ms : List ℕ). member_cell types f l.local ms (slice_get vs l.local) w.content) none ∙ begun.points l.local p (e ∙ h)
        go (m ∷ ms) some (Some (Named n)) e h =
            held_before types ordered once f shaped entry variables l pointer hand store no_foot spared st.world.content begun.quiet p
            (ap (λ (x : Option Cell). member_cell types f l.local l.members x st.world.content) (object_handed n m ms some e ∙ sym e) ∙ held)
        go (m ∷ ms) some None e h = absurd (none_some h)
        go (m ∷ ms) some (Some Empty) e h = absurd (none_some h)
        go (m ∷ ms) some (Some (Number z)) e h = absurd (none_some h)
        go (m ∷ ms) some (Some (Points q)) e h = absurd (none_some h)
