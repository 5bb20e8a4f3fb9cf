-- A unique_ptr that is handed over as a slot: where it lies, and what it has there. Two of them that aren't one location lie in different words, so
-- null in the one leaves the other as it was.
use Rattle.std.proofs.Common.{◌≡◌, ◌≢◌, ◌⊎◌, inl, inr, ℕ, ◌+◌, ◌≤◌, Bool, true, false, ◌&&◌, List, [], ◌∷◌, length, Option, Some, None, refl, sym, ap, ◌∙◌, arith}
use Rattle.std.proofs.lemmas.Bool.{and_from, false≢true}
use Rattle.std.proofs.lemmas.Bool.Decides.{nat_tests}
use Rattle.std.specs.Cmp.Lexicographic.{pointwise}
use Rattle.std.specs.List.{starts_with}
use Rattle.std.specs.Prelude.{drop, nat_eq, slice_get, slice_index, slice_set, take}
use Rattle.life_types.specs.Pointees.{ty_of}
use Rattle.life_types.specs.Trees.{IsOrdered}
use Rattle.life_types.specs.Types.{HasEachOnce, Types}
use Rattle.life_types.specs.declared.ty.Ty.TheVariants as ty
use Rattle.life_types.specs.declared.ty.TyId.{TyId}
use Rattle.life_core.specs.Function.{Function}
use Rattle.life_core.specs.Operands.{Location}
use Rattle.life_core.specs.Ready.{IsThere}
use Rattle.life_pset.specs.Shapes as shapes
use Rattle.life_proper.specs.OperandTypes.{is_composed, same}
use Rattle.life_proper.specs.Placed.{type_in}
use Rattle.life_proper.specs.WellFormed.{are_one}
use Rattle.life_proper.proofs.HeldSorts.{same_is}
use Rattle.life_store.specs.Cells.{at, at-set_other, at-set_same}
use Rattle.life_store.specs.Content.{Content, Object}
use Rattle.life_store.specs.Edits.{owned_at}
use Rattle.life_store.specs.Effects.{cell}
use Rattle.life_store.specs.Held.{owned_in, owner_word, slots_if, words_at, words_if, wrote}
use Rattle.life_store.specs.Parts.{Unique, local_type, location_type, members_if, members_of, parts_at, type_within, width, width_at, word_within}
use Rattle.life_store.specs.Places.{Spot, wrote_spot}
use Rattle.life_store.specs.State.{Cell, Empty, Named, State, ready_of}
use Rattle.life_store.proofs.CellLemmas.{cell_other, none_some}
use Rattle.life_store.proofs.MapLemmas.{one_or_apart}
use Rattle.life_forest.specs.FrameTypes.{IsFrame}
use Rattle.life_forest.specs.Frames.{HasStore, named_in}
use Rattle.life_forest.specs.Kinds.{kinds_of, owned_type}
use Rattle.life_forest.specs.Owned.{times}
use Rattle.life_forest.specs.Settled.{IsPoised}
use Rattle.life_forest.proofs.Below.{lives}
use Rattle.life_forest.proofs.Coming.{below_or}
use Rattle.life_forest.proofs.Counting.{one_same}
use Rattle.life_forest.proofs.Following.{in_hand}
use Rattle.life_forest.proofs.Frames.{named_put}
use Rattle.life_forest.proofs.OneNumber.{also_solid, number_of_type, type_there}
use Rattle.life_forest.proofs.Operands.{IsPlace, place_named}
use Rattle.life_forest.proofs.OwnedAims.{owned_object}
use Rattle.life_forest.proofs.PathsApart.{words_apart}
use Rattle.life_forest.proofs.Placed.{place_owns}
use Rattle.life_forest.proofs.Puts.{puts_in, wrote_is}
use Rattle.life_forest.proofs.ReadyCells.{location_is_object, object_cell}
use Rattle.life_forest.proofs.SeenTypes.{parts_typed, unique_owns}
use Rattle.life_forest.proofs.Shaped.{IsShaped}
use Rattle.life_forest.proofs.Steps.{alive_le}
use Rattle.life_forest.proofs.TypedSteps.{location_of}
use Rattle.life_forest.proofs.WrittenPointers.{puts_apart}

-- a unique_ptr of the type lies at the location
pub record IsOwnerAt (types : Types) (f : Function) (st : State) (l : Location) (id : TyId) : Type 0 where
  pub target : TyId
  pub there : slice_get types.types id.0 ≡ Some (ty.Unique target)
  pub typed : location_type types f l ≡ Some id
  pub number : ℕ
  pub named : cell st l.local ≡ Some (Named number)

-- .. at this spot
abbrev pub spot_in : Types → Function → Location → ℕ → Spot
spot_in types f l n = record { object = n; index = 0; word = word_within types (local_type types f l.local) l.members }

-- nothing, or an object of the type that a unique_ptr of the type owns
abbrev pub IsOwnedFor : Types → Content → TyId → Option ℕ → Type 0
IsOwnedFor types c id None = Unit {0}
IsOwnedFor types c id (Some n) = (o : Object) × (at c.objects n ≡ Some o) × (owned_type (parts_at types id) 0 ≡ Some o.ty)

module _ (types : Types) (ordered : IsOrdered types) (f : Function) where
  -- ---- where it lies

  module _ (once : HasEachOnce types) (shaped : IsShaped types f) (st : State) (at_point : IsPoised types f st) where
    pub owner_at : (id target : TyId) (l : Location) → same (ty_of types id) (type_in types f l) ≡ true → ty_of types id ≡ ty.Unique target → IsThere (ready_of st) l.local → IsOwnerAt types f st l id
    owner_at id target l e is there =
        let inside : type_in types f l ≡ ty.Unique target = sym (same_is (ty_of types id) (type_in types f l) e) ∙ is in
        let of = location_of types ordered once 0 [] f shaped l (type_in types f l) refl (also_solid (ty_of types id) (type_in types f l) e) in
        let object = object_cell types f st at_point l.local (location_is_object types f at_point.kinds l (ap is_composed inside)) there in
        record {
          target = target;
          there = type_there types id (ty.Unique target) is refl;
          typed = of.is ∙ ap Some (sym (number_of_type types once id of.number (type_in types f l) e of.there));
          number = object.0;
          named = object.1;
        }

  -- ---- what it has

  module _ (rest : ℕ → ℕ) (st : State) (store : HasStore types rest st) (frame : IsFrame types f st.world.content st.cells) where
    pub owner_place : (l : Location) (id : TyId) (a : IsOwnerAt types f st l id) → (o : Object) × IsPlace types st.world.content id a.number 0 (word_within types (local_type types f l.local) l.members) o
    owner_place l id a = place_named types ordered f st frame l id a.typed a.number a.named

    pub owned_for : (l : Location) (id : TyId) (a : IsOwnerAt types f st l id) → IsOwnedFor types st.world.content id (owned_at st.world.content (spot_in types f l a.number))
    owned_for l id a = go (owned_at st.world.content (spot_in types f l a.number)) refl
      where
        go : (x : Option ℕ) → owned_at st.world.content (spot_in types f l a.number) ≡ x → IsOwnedFor types st.world.content id x
        go None e = tt
        go (Some n) e =
            let place = owner_place l id a in
            let owns = unique_owns types ordered id a.target a.there in
            let own = place_owns types ordered (λ k. times (named_in st.cells) k + rest k) st.world.content store id a.number 0 (word_within types (local_type types f l.local) l.members) place.0 place.1 owns.one owns.owner n e in
            let held = store.forest.held n in
            let x = lives (kinds_of types) st.world.content n (omega (arith, own, held)) in (
              x.0,
              x.1,
              owns.owned
                  ∙ ap Some (sym (owned_object types ordered (λ k. times (named_in st.cells) k + rest k) st.world.content store id a.number 0 (word_within types (local_type types f l.local) l.members) place.0 place.1 a.target owns n e x.0 x.1)),
            )

    -- ---- two of them

    -- two locals name two objects
    named_twice : (cells : List Cell) (x y n : ℕ) → x ≢ y → slice_get cells x ≡ Some (Named n) → slice_get cells y ≡ Some (Named n) → 2 ≤ times (named_in cells) n
    named_twice cells x y n ne at_x at_y =
        let e = named_put cells x (Named n) Empty n at_x in
        let i = in_hand (slice_set cells x Empty) y n (cell_other cells x y Empty ne ∙ at_y) in
        let one = one_same n n refl in
        omega (arith, e, i, one)

    itself : (n : ℕ) → nat_eq n n ≡ true
    itself n = grind (arith, nat_tests)

    starts_self : (ms : List ℕ) → starts_with nat_eq ms ms ≡ true
    starts_self [] = refl
    starts_self (m ∷ ms) = ap (λ (b : Bool). b && pointwise nat_eq ms (take (length ms) ms)) (itself m) ∙ starts_self ms

    one_location : (l m : Location) → l.local ≡ m.local → l.members ≡ m.members → are_one l m ≡ true
    one_location l m e h =
        and_from (nat_eq l.local m.local) (starts_with nat_eq l.members m.members && starts_with nat_eq m.members l.members) (ap (nat_eq l.local) (sym e) ∙ itself l.local)
        (and_from (starts_with nat_eq l.members m.members) (starts_with nat_eq m.members l.members) (ap (starts_with nat_eq l.members) (sym h) ∙ starts_self l.members)
        (ap (λ (ms : List ℕ). starts_with nat_eq ms l.members) (sym h) ∙ starts_self l.members))

    nowhere : (ms : List ℕ) (id : TyId) → type_within types None ms ≡ Some id → ⊥
    nowhere [] id e = none_some e
    nowhere (m ∷ ms) id e = none_some e

    module _ (l m : Location) (id_l id_m : TyId) (a : IsOwnerAt types f st l id_l) (b : IsOwnerAt types f st m id_m) (apart : are_one l m ≡ false) where
      one_word : (id : TyId) (target : TyId) → slice_get types.types id.0 ≡ Some (ty.Unique target) → width_at types id ≡ 1
      one_word id target there = ap width (parts_typed types ordered id (ty.Unique target) there)

      no_members : (id : TyId) (target : TyId) → slice_get types.types id.0 ≡ Some (ty.Unique target) → members_of types id ≡ []
      no_members id target there = ap (members_if types) there

      words_differ : a.number ≡ b.number → word_within types (local_type types f l.local) l.members ≢ word_within types (local_type types f m.local) m.members
      words_differ numbers words = one_or_apart l.local m.local
          (λ e. one_local e (local_type types f l.local) refl)
          (λ ne.
          let twice = named_twice st.cells l.local m.local a.number ne a.named (b.named ∙ ap (λ n. Some (Named n)) (sym numbers)) in
          let held = store.forest.held a.number in
          let one = alive_le (kinds_of types) st.world.content a.number in
          omega (arith, twice, held, one))
        where
          one_local : l.local ≡ m.local → (t : Option TyId) → local_type types f l.local ≡ t → ⊥
          one_local e None is = nowhere l.members id_l (sym (ap (λ (t : Option TyId). type_within types t l.members) is) ∙ a.typed)
          one_local e (Some whole) is =
              let other : local_type types f m.local ≡ Some whole = ap (local_type types f) (sym e) ∙ is in
              let wide_l = one_word id_l a.target a.there in
              let wide_m = one_word id_m b.target b.there in
              words_apart types ordered l.members m.members whole id_l id_m (sym (ap (λ (t : Option TyId). type_within types t l.members) is) ∙ a.typed) (sym (ap (λ (t : Option TyId). type_within types t m.members) other) ∙ b.typed)
              (no_members id_l a.target a.there) (no_members id_m b.target b.there) (omega (arith, wide_l)) (omega (arith, wide_m))
              (λ members. false≢true (sym apart ∙ one_location l m e members))
              (sym (ap (λ (t : Option TyId). word_within types t l.members) is) ∙ words ∙ ap (λ (t : Option TyId). word_within types t m.members) other)

      abbrev here : ℕ
      here = word_within types (local_type types f l.local) l.members

      abbrev there : ℕ
      there = word_within types (local_type types f m.local) m.members

      words_stay : words_at (wrote a.number 0 (word_within types (local_type types f l.local) l.members) (owner_word None ∷ []) st.world.content) b.number 0 (word_within types (local_type types f m.local) m.members) 1
          ≡ words_at st.world.content b.number 0 (word_within types (local_type types f m.local) m.members) 1
      words_stay =
          ap (λ (d : Content). words_at d b.number 0 there 1) (wrote_is st.world.content a.number 0 here (0 ∷ []) place.0 place.1.there)
          ∙ one_or_apart a.number b.number
          (λ e.
          ap (λ (y : Option Object). take 1 (drop there (words_if (slice_get (slots_if y) 0)))) (at-set_same st.world.content.objects a.number b.number (record (place.0) { slots = puts_in 0 here (0 ∷ []) place.0.slots }) e)
          ∙ puts_apart 0 here (0 ∷ []) place.0.slots there 1 (beside (words_differ e))
          ∙ ap (λ (y : Option Object). take 1 (drop there (words_if (slice_get (slots_if y) 0)))) (sym place.1.there ∙ ap (at st.world.content.objects) e))
          (λ ne. ap (λ (y : Option Object). take 1 (drop there (words_if (slice_get (slots_if y) 0)))) (at-set_other st.world.content.objects a.number b.number (record (place.0) { slots = puts_in 0 here (0 ∷ []) place.0.slots }) ne))
        where
          place : (o : Object) × IsPlace types st.world.content id_l a.number 0 (word_within types (local_type types f l.local) l.members) o
          place = owner_place l id_l a

          beside : here ≢ there → (there + 1 ≤ here) ⊎ (here + 1 ≤ there)
          beside ne = below_or here there (λ lt. inr (omega (arith, lt))) (λ le. below_or there here (λ lt. inl (omega (arith, lt))) (λ ge. absurd (ne (omega (arith, le, ge)))))

      -- where null is written in the one, the other has what it had
      pub owner_stays : owned_at (wrote_spot (spot_in types f l a.number) (owner_word None ∷ []) st.world.content) (spot_in types f m b.number) ≡ owned_at st.world.content (spot_in types f m b.number)
      owner_stays = ap (λ (ws : List ℕ). owned_in (slice_index ws 0)) words_stay
