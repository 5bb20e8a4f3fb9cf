-- The first frame of a run is sound.
use Rattle.std.proofs.Common.{◌≡◌, ℕ, ◌+◌, Bool, true, false, List, [], length, refl, subst, arith, Some}
use Rattle.std.proofs.lemmas.Bool.{and_parts, false≢true}
use Rattle.std.specs.Prelude.{ℤ, not, slice_get}
use Rattle.life_types.specs.Pointees.{ty_of}
use Rattle.life_types.specs.TypeTests.{is_void}
use Rattle.life_core.specs.declared.program.Local.{Local}
use Rattle.life_core.specs.Function.{Function, Program}
use Rattle.life_core.specs.Linked.{enter, no_exits}
use Rattle.life_core.specs.Ready.{entry_ready}
use Rattle.life_core_served.specs.ProperPrograms.{IsProperProgram}
use Rattle.life_proper.proofs.SortedNodes.{formed_parts}
use Rattle.life_store.specs.Calls.{entry_arguments, parameters_given}
use Rattle.life_store.specs.Content.{empty_content}
use Rattle.life_store.specs.Doing.{Setting, Next}
use Rattle.life_store.specs.Meaning.{IsAdmitted, first_world, frame}
use Rattle.life_store.specs.State.{Cell, State}
use Rattle.life_forest.specs.Frames.{named_in}
use Rattle.life_forest.specs.Owned.{times}
use Rattle.life_forest.proofs.EnteredFrames.{GivesOn}
use Rattle.life_forest.proofs.EntryFrames.{entry_gives, parameters_all}
use Rattle.life_forest.proofs.Frames.{less_in_hand}
use Rattle.life_forest.proofs.HeldPoints.{IsNext}
use Rattle.life_forest.proofs.NeverStrays.{none_named, numbers_handed}
use Rattle.life_forest.proofs.SettledPoints.{formed_at, kinds_fit}
use Rattle.life_forest.proofs.Shaped.{local_formed, locals_shaped}
use Rattle.life_forest.proofs.Worked.{empty_store}
use Rattle.life_interp.specs.Sound.{AreSound, in_waiting}
use Rattle.life_interp.proofs.SoundCalls.{first_reached}
use Rattle.life_interp.proofs.SoundPrograms.{goes_well, members}

not_true : (b : Bool) → not b ≡ true → b ≡ false
not_true true k = absurd (false≢true k)
not_true false k = refl

module _ (p : Program) (entry : ℕ) (f : Function) (input : List ℤ) (proper : IsProperProgram p) (there : slice_get p.functions entry ≡ Some f) (admitted : IsAdmitted p f input) (s : Setting) (st : State) where
  abbrev arguments : List Cell
  arguments = entry_arguments p.types f 0 f.parameters input

  pub first_sound : parameters_given s p.types f 0 (entry_arguments p.types f 0 f.parameters input) (frame f (first_world f input)) ≡ Next st → AreSound p [] f (enter f.body 1 no_exits) st
  first_sound e =
      let names = length p.names in
      let texts = length p.texts in
      let table = proper.well_formed.table in
      let some = members p proper in
      let one = goes_well p proper entry f there in
      let shaped = locals_shaped p.types table names f (formed_parts p.types names texts p.functions f one.formed).locals in
      let next : IsNext p.types f (in_waiting []) empty_content (entry_ready f) st =
      subst (GivesOn p.types f (in_waiting []) empty_content (entry_ready f)) e
      (entry_gives p.types table f shaped (kinds_fit p.types table proper.well_formed.once some names texts p.functions f one.formed one.points one.ready) (in_waiting []) s arguments (first_world f input)
      (parameters_all p.types names f shaped (formed_at p.types table proper.well_formed.once some names texts p.functions f one.formed one.points one.ready))
      (less_in_hand p.types (λ k. 0) (λ k. times (named_in arguments) k + in_waiting [] k) empty_content (λ k. let z = none_named p.types f empty_content 0 f.parameters input k in omega (arith, z)) (empty_store p.types))
      (numbers_handed p.types f empty_content f.parameters f.locals 0 input admitted.values admitted.room admitted.enough solid)) in
      record {
        proper = proper;
        own = entry;
        there = there;
        sound = next.sound;
        reached = first_reached p.types f st (enter f.body 1 no_exits) refl one.ready.begins next.bits;
        waiting = tt;
      }
    where
      solid : (i : ℕ) (l : Local) → slice_get f.locals i ≡ Some l → is_void (ty_of p.types l.ty) ≡ false
      solid i l at =
          let one = goes_well p proper entry f there in
          not_true (is_void (ty_of p.types l.ty)) (and_parts (not (is_void (ty_of p.types l.ty))) _ (local_formed p.types proper.well_formed.table (length p.names) f.parameters f.locals i l (formed_parts p.types (length p.names) (length p.texts) p.functions f one.formed).locals at)).0
