-- While the parameters of a function are given what a call hands over, nothing is touched but what was handed over.
use Rattle.std.proofs.Common.{◌≡◌, ⊎_elim, ℕ, suc, ◌+◌, List, [], ◌∷◌, Option, Some, refl, sym, ap, subst, ◌∙◌, arith, inr, inl}
use Rattle.std.specs.Prelude.{slice_get}
use Rattle.std.proofs.lemmas.Bool.{false≢true}
use Rattle.life_types.specs.Pointees.{ty_of}
use Rattle.life_types.specs.Trees.{IsOrdered}
use Rattle.life_types.specs.Types.{Types, is_slot_at}
use Rattle.life_types.specs.declared.ty.TyId.{TyId}
use Rattle.life_core.specs.declared.program.Local.{Local}
use Rattle.life_core.specs.Function.{Function}
use Rattle.life_pset.specs.declared.element.Root.{Root}
use Rattle.life_store.specs.Calls.{given, parameters_given}
use Rattle.life_store.specs.Content.{Content}
use Rattle.life_store.specs.Effects.{Setting, Effect, Next, Traps, Faults, Strays, on_next}
use Rattle.life_store.specs.Meaning.{begun, frame}
use Rattle.life_store.specs.State.{Cell, Empty, Named, Number, Pointer, Points, State, World}
use Rattle.life_store.proofs.CellLemmas.{some_same}
use Rattle.life_store.proofs.Entering.{empty_cells}
use Rattle.life_store.proofs.MapLemmas.{one_or_apart}
use Rattle.life_forest.specs.Frames.{OnNext, named_in}
use Rattle.life_forest.specs.Typed.{IsStore}
use Rattle.life_forest.specs.Kinds.{kinds_of}
use Rattle.life_forest.proofs.EnteredFrames.{IsTaking, AreTaking, composed_points}
use Rattle.life_forest.proofs.HandedOver.{AreHandedTo, IsHandedTo}
use Rattle.life_forest.proofs.Following.{in_hand}
use Rattle.life_forest.proofs.Steps.{touches_then, touches_self}
use Rattle.life_forest.specs.Forest.{Touches}
use Rattle.life_forest.proofs.Feet.{within_self}
use Rattle.life_cover.specs.Buffered.{AreBut}
use Rattle.life_cover.specs.Lacking.{IsLoose}
use Rattle.life_cover.proofs.Owning.{IsOwn}
use Rattle.life_cover.proofs.GivenValues.{IsFilled, IsGiven, TakesNoSlot, value_given}
use Rattle.life_cover.proofs.Unkilled.{no_foot}
use Rattle.life_cover.specs.Inputs.{foot_with, mutated}
use Rattle.life_cover.specs.Regions.{Region}

-- each pointer there was handed over, and so was each object that isn't new; each vector and each string has its buffer to which anybody comes, and
-- nothing that was there is touched
pub record IsBegun (types : Types) (f : Function) (inputs : Root → Option Region) (vs : List Cell) (before : Content) (st : State) : Type 0 where
  pub points : (x : ℕ) (v : Pointer) → slice_get st.cells x ≡ Some (Points v) → slice_get vs x ≡ Some (Points v)
  pub given : (x n : ℕ) → slice_get st.cells x ≡ Some (Named n) → (v : Cell) × (slice_get vs x ≡ Some v) × ((m : ℕ) → v ≡ Named m → n ≡ m)
  pub quiet : Touches (kinds_of types) no_foot before st.world.content
  pub buffered : AreBut types (IsLoose types inputs (named_in vs) before) st.world.content
  pub own : IsOwn types f inputs (named_in vs) before st

module _ (types : Types) (ordered : IsOrdered types) (s : Setting) (f : Function) (inputs : Root → Option Region) (vs : List Cell) (hand : ℕ → ℕ) (before : Content) (store : IsStore types hand before) where
  -- one more is given
  begun_given : (x : ℕ) (v : Cell) (st after : State) → slice_get vs x ≡ Some v → IsBegun types f inputs vs before st → IsGiven types (IsLoose types inputs (named_in vs) before) x v st after → IsBegun types f inputs vs before after
  begun_given x v st after at_x begun h = record {
    points = λ y p e. ⊎_elim (λ new. subst (λ z. slice_get vs z ≡ Some (Points p)) new.0 (at_x ∙ ap Some new.1)) (λ was. begun.points y p was.1) (h.points y p e);
    given = λ y n e. one_or_apart x y
        (λ same. (v, subst (λ z. slice_get vs z ≡ Some v) same at_x, λ m is. (h.object m is).1 n (subst (λ z. slice_get after.cells z ≡ Some (Named n)) (sym same) e)))
        (λ ne. begun.given y n (sym (h.stays y ne) ∙ e));
    quiet =
        touches_then (kinds_of types) hand before store.forest no_foot no_foot no_foot st.world.content after.world.content begun.quiet h.touch
        (within_self (kinds_of types) before no_foot) (within_self (kinds_of types) before no_foot);
    buffered = h.buffered;
    own = record {
      touch =
          touches_then (kinds_of types) hand before store.forest (foot_with types (mutated types f inputs) (named_in vs)) no_foot (foot_with types (mutated types f inputs) (named_in vs)) st.world.content after.world.content begun.own.touch h.touch
          (within_self (kinds_of types) before (foot_with types (mutated types f inputs) (named_in vs)))
          (record { whole = λ n lt e. absurd (false≢true e); part = λ m lt. inr (λ w e. absurd (false≢true e)) });
      named = λ y n e. ⊎_elim
          (λ old. begun.own.named y n old)
          (λ other. ⊎_elim (λ is. inl (in_hand vs x n (at_x ∙ ap Some is))) (λ new. inr (let b = begun.own.touch.births in omega (arith, b, new))) other)
          (h.named y n e);
    };
  }

  -- what is handed over is given to no slot
  no_slot_taken : (x : ℕ) (l : Local) (id : TyId) → IsTaking types f x l id → (v : Cell) → IsHandedTo types before id v → TakesNoSlot types f x v
  no_slot_taken x l id takes v suits lo n there is =
      let composed = (subst (IsHandedTo types before id) is suits).2 in
      ap (λ (u : Local). is_slot_at types u.ty) (some_same (sym there ∙ takes.there)) ∙ takes.free (composed_points (ty_of types id) composed)

  filled : (id : TyId) (v : Cell) → IsHandedTo types before id v → IsFilled v
  filled id Empty suits = suits
  filled id (Named n) suits = tt
  filled id (Number z) suits = tt
  filled id (Points p) suits = tt

  pub parameters_begun : (x : ℕ) (ids : List TyId) (us : List Cell) → AreTaking types f x ids → AreHandedTo types before ids us → ((i : ℕ) (v : Cell) → slice_get us i ≡ Some v → slice_get vs (x + i) ≡ Some v) → (st : State) → IsBegun types f inputs vs before st
      → OnNext (parameters_given s types f x us st) (IsBegun types f inputs vs before)
  parameters_begun x [] [] taking suits inside st begun = begun
  parameters_begun x [] (v ∷ us) taking suits inside st begun = absurd suits
  parameters_begun x (id ∷ ids) [] taking suits inside st begun = absurd suits
  parameters_begun x (id ∷ ids) (v ∷ us) taking suits inside st begun =
      go (given s types f v x st) (value_given types ordered s f x v st (IsLoose types inputs (named_in vs) before) begun.buffered (filled id v suits.0) (no_slot_taken x taking.0.0 id taking.0.1 v suits.0))
      (λ after h. parameters_begun (x + 1) ids us taking.1 suits.1 (λ i u e. let k : x + suc i ≡ x + 1 + i = omega arith in ap (slice_get vs) (sym k) ∙ inside (suc i) u e) after (begun_given x v st after here begun h))
    where
      here : slice_get vs x ≡ Some v
      here = let k : x + 0 ≡ x = omega arith in ap (slice_get vs) (sym k) ∙ inside 0 v refl

      go : (e : Effect) → OnNext e (IsGiven types (IsLoose types inputs (named_in vs) before) x v st) → ((after : State) → IsGiven types (IsLoose types inputs (named_in vs) before) x v st after → OnNext (parameters_given s types f (x + 1) us after) (IsBegun types f inputs vs before))
          → OnNext (on_next e (parameters_given s types f (x + 1) us)) (IsBegun types f inputs vs before)
      go (Next after) h more = more after h
      go (Traps kind) h more = tt
      go (Faults kind) h more = tt
      go Strays h more = tt

-- nothing is there before
pub frame_begun : (types : Types) (f : Function) (inputs : Root → Option Region) (vs : List Cell) (w : World) → AreBut types (IsLoose types inputs (named_in vs) w.content) w.content → IsBegun types f inputs vs w.content (frame f w)
frame_begun types f inputs vs w buffered = record {
  points = λ x v e. absurd (unlike v (empty_cells f.locals x (Points v) e));
  given = λ x n e. absurd (nameless n (empty_cells f.locals x (Named n) e));
  buffered = buffered;
  quiet = touches_self (kinds_of types) no_foot w.content;
  own = record { touch = touches_self (kinds_of types) (foot_with types (mutated types f inputs) (named_in vs)) w.content; named = λ x n e. absurd (nameless n (empty_cells f.locals x (Named n) e)) };
}
  where
    unlike : (v : Pointer) → Empty ≡ Points v → ⊥
    unlike v e = cc

    nameless : (n : ℕ) → Empty ≡ Named n → ⊥
    nameless n e = cc
