-- Each call of a program is sound, however deep calls may stand.
use Rattle.std.proofs.Common.{◌≡◌, ℕ, zero, suc, ◌+◌, true, List, Option, Some, refl, sym, subst}
use Rattle.std.specs.Prelude.{slice_get}
use Rattle.life_types.specs.Trees.{IsOrdered}
use Rattle.life_types.specs.Types.{HasEachOnce, Types}
use Rattle.life_core.specs.Function.{Function, Program}
use Rattle.life_core.specs.Linked.{no_exits}
use Rattle.life_core.specs.Proper.{HasReadyWays}
use Rattle.life_core.specs.Ready.{entry_ready}
use Rattle.life_proper.specs.GivenOver.{all_keep_given}
use Rattle.life_proper.specs.WellFormed.{types_taken}
use Rattle.life_proper.specs.WellFormedPrograms.{is_well_formed_function}
use Rattle.life_proper.proofs.SortedNodes.{formed_parts}
use Rattle.life_store.specs.Calls.{parameters_given, slots_back}
use Rattle.life_store.specs.Content.{Content}
use Rattle.life_store.specs.Doing.{Setting, Effect, Next, Traps, Faults, Strays}
use Rattle.life_store.specs.Meaning.{Answer, Normal, Broke, Continued, Returned, Stopped, Callee, Called, begun, calls, entered, exec, finish, frame}
use Rattle.life_store.specs.State.{Cell, State, World}
use Rattle.life_forest.specs.Frames.{named_in}
use Rattle.life_forest.specs.Owned.{times}
use Rattle.life_forest.specs.Typed.{IsStore}
use Rattle.life_forest.proofs.BodiesGo.{IsLeft, SoundAnswer, body_goes}
use Rattle.life_forest.proofs.CallersGo.{GoodCalled, GoodCallee, calls_sound}
use Rattle.life_forest.proofs.EnteredFrames.{GivesOn}
use Rattle.life_forest.proofs.EntryFrames.{entry_gives, parameters_all}
use Rattle.life_forest.proofs.GivenResults.{results_given}
use Rattle.life_forest.proofs.GivenSlots.{slots_given, slots_named}
use Rattle.life_forest.proofs.HandedOver.{AreTaken}
use Rattle.life_forest.proofs.HeldPoints.{IsNext, poised}
use Rattle.life_forest.proofs.SettledPoints.{formed_at, kinds_fit}
use Rattle.life_forest.proofs.SettlingLives.{HaveMembers}
use Rattle.life_forest.proofs.Shaped.{IsShaped, locals_shaped}
use Rattle.life_forest.proofs.Slots.{ArePointsFormed}

-- ---- one function

-- what is asked of a function, in a program with these types, so many names and texts, and these functions
pub record GoesWell (types : Types) (names texts : ℕ) (fs : List Function) (f : Function) : Type 0 where
  pub formed : is_well_formed_function types names texts fs f ≡ true
  pub points : ArePointsFormed types texts fs f
  pub ready : HasReadyWays types f
  pub given : all_keep_given types f ≡ true

module _ (types : Types) (ordered : IsOrdered types) (once : HasEachOnce types) (some : HaveMembers types) (names texts : ℕ) (fs : List Function) (all : (k : ℕ) (g : Function) → slice_get fs k ≡ Some g → GoesWell types names texts fs g) (s : Setting) where
  module _ (call : Callee) (callees : GoodCallee types fs call) (f : Function) (well : GoesWell types names texts fs f) (rest : ℕ → ℕ) where
    shaped : IsShaped types f
    shaped = locals_shaped types ordered names f (formed_parts types names texts fs f well.formed).locals

    -- what is left gives back what its result takes
    pub left_gives : (before : Content) (n : ℕ) (st : State) → IsLeft types f rest before st → GoodCalled types f rest before (finish types f (Returned n st))
    left_gives before n st left =
        let at_point = poised types ordered once some names texts fs f well.formed well.points well.ready rest st left.sound in
        let suits = slots_given types f shaped st at_point left.sound.held left.slots in
        let given = results_given types ordered f shaped rest st left.sound at_point (slots_back types f 0 f.parameters st) refl suits (λ k. slots_named types f st k)
        (formed_parts types names texts fs f well.formed).result left.ready.uses in
        (given.store, left.waits, given.back)

    finish_good : (before : Content) (a : Answer) → SoundAnswer types f rest before no_exits a → GoodCalled types f rest before (finish types f a)
    finish_good before (Normal n st) g = absurd g
    finish_good before (Broke n st) g = absurd g
    finish_good before (Continued n st) g = absurd g
    finish_good before (Returned n st) g = left_gives before n st g
    finish_good before (Stopped stop w) g = g

    begun_good : (c : Content) (e : Effect) (w : World) (run : State → Called) → GivesOn types f rest c (entry_ready f) e → ((st : State) → IsNext types f rest c (entry_ready f) st → GoodCalled types f rest c (run st)) → GoodCalled types f rest c (begun e w run)
    begun_good c (Next st) w run g k = k st g
    begun_good c (Traps kind) w run g k = tt
    begun_good c (Faults kind) w run g k = absurd g
    begun_good c Strays w run g k = absurd g

    entered_good : (xs : List Cell) (n : ℕ) (w : World) → AreTaken types w.content (types_taken f) xs → IsStore types (λ k. times (named_in xs) k + rest k) w.content → GoodCalled types f rest w.content (entered s types (Some f) call xs n w)
    entered_good xs n w taken store =
        begun_good w.content (parameters_given s types f 0 xs (frame f w)) w (λ st. finish types f (exec s types f call f.body n st))
        (entry_gives types ordered f shaped (kinds_fit types ordered once some names texts fs f well.formed well.points well.ready) rest s xs w
        (parameters_all types names f shaped (formed_at types ordered once some names texts fs f well.formed well.points well.ready)) store taken)
        (λ st next. finish_good w.content (exec s types f call f.body n st)
        (body_goes types ordered once some names texts fs f well.formed well.points well.ready rest w.content s call
        (calls_sound types ordered once some names texts fs f well.formed well.points well.ready rest w.content s call callees well.given)
        n st next.bits next.sound next.waits))

-- ---- all calls of a program

pub calls_good : (s : Setting) (p : Program) (ordered : IsOrdered p.types) (once : HasEachOnce p.types) (some : HaveMembers p.types) (names texts : ℕ) → ((k : ℕ) (g : Function) → slice_get p.functions k ≡ Some g → GoesWell p.types names texts p.functions g) → (depth : ℕ)
    → GoodCallee p.types p.functions (calls s p depth)
calls_good s p ordered once some names texts all zero k g rest xs n w is taken store = tt
calls_good s p ordered once some names texts all (suc depth) k g rest xs n w is taken store =
    subst (λ (o : Option Function). GoodCalled p.types g rest w.content (entered s p.types o (calls s p depth) xs n w)) (sym is)
    (entered_good p.types ordered once some names texts p.functions all s (calls s p depth) (calls_good s p ordered once some names texts all depth) g (all k g is) rest xs n w taken store)
