-- A frame is sound behind what keeps its objects, some of which it may have given over.
use Rattle.std.proofs.Common.{◌≡◌, ℕ, ◌+◌, List, Option, Some, refl, subst, arith, true}
use Rattle.std.specs.Prelude.{slice_get}
use Rattle.life_types.specs.Types.{Types}
use Rattle.life_types.specs.declared.ty.TyId.{TyId}
use Rattle.life_core.specs.Function.{Function}
use Rattle.life_proper.specs.Placed.{type_at}
use Rattle.life_store.specs.Doing.{cell}
use Rattle.life_store.specs.State.{Cell, Empty, Named, Number, Points, State, World, is_there}
use Rattle.life_forest.specs.FrameTypes.{IsFrame, IsVariable}
use Rattle.life_forest.specs.Frames.{named_in}
use Rattle.life_forest.specs.Owned.{times}
use Rattle.life_forest.specs.Sorted.{Fits, sort_at}
use Rattle.life_forest.specs.Typed.{IsStore}
use Rattle.life_forest.proofs.Following.{in_hand, waiting_stays}
use Rattle.life_forest.proofs.Frames.{less_in_hand}
use Rattle.life_forest.proofs.HeldPoints.{IsSound}
use Rattle.life_forest.proofs.Holding.{KeepsWaiting, variable_holds}

module _ (types : Types) (f : Function) (rest : ℕ → ℕ) (st : State) (sound : IsSound types f rest st) (cells : List Cell) (less : (x : ℕ) (v : Cell) → is_there v ≡ true → slice_get cells x ≡ Some v → cell st x ≡ Some v) (w : World) (more : ℕ → ℕ)
    (store : IsStore types (λ k. more k + (times (named_in cells) k + rest k)) w.content) (keeps : KeepsWaiting types (λ k. times (named_in cells) k + rest k) st.world.content w.content) where
  abbrev Loose : ℕ → Type 0
  Loose k = times (named_in cells) k + rest k ≡ 0

  fixed : (x n : ℕ) → slice_get cells x ≡ Some (Named n) → times (named_in cells) n + rest n ≡ 0 → ⊥
  fixed x n e z = let i = in_hand cells x n e in omega (arith, i, z)

  frame_less : IsFrame types f st.world.content cells
  frame_less = record { objects = λ x n e. sound.stands.frame.objects x n (less x (Named n) refl e); pointers = λ x p e. sound.stands.frame.pointers x p (less x (Points p) refl e) }

  pub behind_sound : IsSound types f (λ k. more k + rest k) (record { world = w; cells = cells })
  behind_sound = record {
    stands = record {
      store = less_in_hand types (λ k. more k + (times (named_in cells) k + rest k)) (λ k. times (named_in cells) k + (more k + rest k)) w.content (λ k. omega arith) store;
      frame = waiting_stays types Loose st.world.content w.content keeps.stays f cells (λ k. times (named_in st.cells) k + rest k) (λ k. more k + (times (named_in cells) k + rest k)) sound.stands.store store fixed (λ k. omega arith) frame_less;
    };
    sorted = λ x v e. sorted_less x v e;
    held = λ x n id e typed.
        let v = frame_less.objects x n e in
        variable_holds types Loose st.world.content w.content keeps n id (subst (λ (y : Option TyId). IsVariable st.world.content y n) typed v) (sound.stands.store.forest.births n v.object v.there) (fixed x n e) (sound.held x n id (less x (Named n) refl e) typed);
  }
    where
      sorted_less : (x : ℕ) (v : Cell) → slice_get cells x ≡ Some v → Fits (sort_at types f x) (type_at types f x) v
      sorted_less x Empty e = tt
      sorted_less x (Named n) e = sound.sorted x (Named n) (less x (Named n) refl e)
      sorted_less x (Number z) e = sound.sorted x (Number z) (less x (Number z) refl e)
      sorted_less x (Points p) e = sound.sorted x (Points p) (less x (Points p) refl e)
