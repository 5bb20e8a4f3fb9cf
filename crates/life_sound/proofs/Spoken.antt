-- What a program of the kinds that are served has of what the theorem on runs asks.
use Rattle.std.proofs.Common.{◌≡◌, ℕ, zero, suc, true, false, List, [], ◌∷◌, length, map, take, slice_get, Option, Some, None, refl, sym, subst, ◌∙◌}
use Rattle.std.specs.Prelude.{ℤ}
use Rattle.std.specs.List.{list_all}
use Rattle.std.proofs.lemmas.Bool.{and_parts, false≢true}
use Rattle.life_types.specs.Pointees.{ty_of}
use Rattle.life_types.specs.Types.{Types, is_slot_at}
use Rattle.life_types.specs.declared.ty.TyId.{TyId}
use Rattle.life_core.specs.declared.program.FnId.{FnId}
use Rattle.life_core.specs.declared.program.Local.{Local}
use Rattle.life_core.specs.Function.{Function, Program}
use Rattle.life_core.specs.Operands.{Argument, Location, Slot}
use Rattle.life_core_served.specs.Served.{is_no_slot, lacks_slots}
use Rattle.life_core.specs.Step.{Call, Step}
use Rattle.life_core.specs.Tree.{Node}
use Rattle.life_proper.specs.Placed.{is_slot_local, slot_at}
use Rattle.life_core_served.specs.ProperPrograms.{IsProperProgram, IsServedProgram}
use Rattle.life_proper.specs.WellFormed.{are_arguments_for, goes_to, have_own_slots, is_argument_for, is_call, is_well_formed_node, is_well_formed_step, local_type, types_taken}
use Rattle.life_core_served.proofs.PlainCalls.{slot_handed}
use Rattle.life_core_served.proofs.PointsAsked.{point_formed, proper_functions, served_functions}
use Rattle.life_core_served.proofs.ServedLocals.{HaveNoSlot, first_served, not_slot}
use Rattle.life_proper.proofs.SpotTests.{all_at}
use Rattle.life_forest.proofs.HandedOver.{ArePointerSlots}
use Rattle.life_forest.proofs.NeverStrays.{never_strays}
use Rattle.life_store.specs.Doing.{Given}
use Rattle.life_store.specs.Meaning.{IsAdmitted, IsFound, run_of}
use Rattle.life_cover.proofs.Arguments.{AreSlotless, IsSlotless}
use Rattle.life_cover.proofs.CallKinds.{IsPlainTarget}
use Rattle.life_cover.proofs.SafeBodies.{IsSpokenAction, IsSpokenBody}
use Rattle.life_cover.proofs.SafeRuns.{HandsPointerSlots}

-- ---- no slot is there

-- among the first locals, which are those that a call gives
no_slots : (types : Types) (n : ℕ) (ls : List Local) → list_all (is_no_slot types) ls ≡ true → ArePointerSlots types (map local_type (take n ls))
no_slots types zero ls e = tt
no_slots types (suc n) [] e = tt
no_slots types (suc n) (l ∷ ls) e =
    let both = and_parts (is_no_slot types l) (list_all (is_no_slot types) ls) e in
    (λ slot. absurd (false≢true (sym (not_slot types l both.0) ∙ slot)), no_slots types n ls both.1)

-- ---- each instruction

module _ (types : Types) (texts : ℕ) (fs : List Function) (f : Function) where
  argument_spoken : (id : TyId) (x : Argument) → is_slot_at types id ≡ false → is_argument_for types texts fs f id x ≡ true → IsSlotless x
  argument_spoken id (Slot l) slotless e = slot_handed types texts fs f id l slotless e
  argument_spoken id _ slotless e = tt

  arguments_spoken : (ids : List TyId) (xs : List Argument) → HaveNoSlot types ids → are_arguments_for types texts fs f ids xs ≡ true → AreSlotless xs
  arguments_spoken [] [] slotless e = tt
  arguments_spoken [] (x ∷ xs) slotless e = absurd (false≢true e)
  arguments_spoken (id ∷ ids) [] slotless e = absurd (false≢true e)
  arguments_spoken (id ∷ ids) (x ∷ xs) slotless e =
      let both = and_parts (is_argument_for types texts fs f id x) (are_arguments_for types texts fs f ids xs) e in
      (argument_spoken id x slotless.0 both.0, arguments_spoken ids xs slotless.1 both.1)

  module _ (slotless : (n : ℕ) (g : Function) → slice_get fs n ≡ Some g → lacks_slots types g ≡ true) (locals : lacks_slots types f ≡ true) where
    no_slot : (x : ℕ) → slot_at types f x ≡ false
    no_slot x = go (slice_get f.locals x) refl
      where
        go : (o : Option Local) → slice_get f.locals x ≡ o → is_slot_local types f o ≡ false
        go None at = refl
        go (Some l) at = not_slot types l (all_at (is_no_slot types) f.locals x l locals at)

    target_spoken : (n : ℕ) (g : Function) → slice_get fs n ≡ Some g → (target : Option Location) → goes_to types texts fs f (ty_of types g.result) target ≡ true → IsPlainTarget types f target
    target_spoken n g at None e = tt
    target_spoken n g at (Some l) e = no_slot l.local

    call_spoken : (n : ℕ) (g : Option Function) (number : FnId) (target : Option Location) (xs : List Argument) → slice_get fs n ≡ g → is_call types texts fs f g target xs ≡ true → IsSpokenAction types f (Call target number xs)
    call_spoken n None number target xs at e = absurd (false≢true e)
    call_spoken n (Some g) number target xs at e =
        let handed = and_parts (are_arguments_for types texts fs f (types_taken g) xs) _ e in
        let goes = and_parts (have_own_slots types texts fs f xs) (goes_to types texts fs f (ty_of types g.result) target) handed.1 in (
          target_spoken n g at target goes.1,
          arguments_spoken (types_taken g) xs (first_served types g.parameters g.locals (slotless n g at)) handed.0,
        )

    step_spoken : (i : Step) → is_well_formed_step types texts fs f i ≡ true → IsSpokenAction types f i
    step_spoken (Call target g xs) e = call_spoken g.0 (slice_get fs g.0) g target xs refl e
    step_spoken _ e = tt

-- ---- each function

module _ (p : Program) (proper : IsProperProgram p) (served : IsServedProgram p) (n : ℕ) (f : Function) (at : slice_get p.functions n ≡ Some f) where
  pub body_spoken : IsSpokenBody p.types f
  body_spoken m l i here is =
      step_spoken p.types (length p.texts) p.functions f (served_functions p served) (served_functions p served n f at) i
      (subst (λ (node : Node). is_well_formed_node p.types (length p.texts) p.functions f node ≡ true) is (point_formed p.types (length p.texts) p.functions f (proper_functions p proper n f at) m l here))

pub hands_no_slots : (p : Program) → IsServedProgram p → HandsPointerSlots p
hands_no_slots p served = record { free = λ k g at. no_slots p.types g.parameters g.locals (served_functions p served k g at) }

-- .. so no run of it strays
pub never_lost : (p : Program) (given : Given) (entry : ℕ) (f : Function) (input : List ℤ) (n : ℕ) → IsProperProgram p → slice_get p.functions entry ≡ Some f → IsAdmitted p f input
    → IsFound (run_of given p entry f input n).outcome
never_lost p given entry f input n proper is admitted = never_strays p given entry f input n proper.well_formed proper.ready proper.given is admitted
