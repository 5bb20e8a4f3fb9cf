-- Where the first of two facts isn't about the pointer through which an instruction uses an owner, nothing is wrong with that use.
use Rattle.std.proofs.Common.{◌≡◌, ◌∙◌, ◌++◌, ℕ, false, List, [], ◌∷◌, append-nil, ap, refl, sym}
use Rattle.std.specs.List.{flat_map}
use Rattle.life_types.specs.Types.{Types}
use Rattle.life_types.specs.declared.place.Place.{Place}
use Rattle.life_core.specs.Function.{Function}
use Rattle.life_core.specs.Operands.{Base, Name, Operand, Source, Through}
use Rattle.life_core.specs.Operands as named
use Rattle.life_core.specs.Step.{Step, Copy, Aim, Cursor, Size, Changes}
use Rattle.life_core.specs.Step as step
use Rattle.life_pset.specs.declared.element.Fact.{Fact}
use Rattle.life_rules.proofs.Nothing.{cond_none, flat_map_empty}
use Rattle.life_rules.specs.Along.{base_tells_first, is_target_of, source_tells_first, tells_first}
use Rattle.life_rules.specs.Carrying.{is_location}
use Rattle.life_rules.specs.Diagnosing.{moved_target, moved_through, owner_of_base, owner_of_source, owners}
use Rattle.life_rules.specs.Pairs.{moved_uses}
use Rattle.life_rules.specs.declared.diag.Diag.{Diag}

one_none : {A B : Type 0} (g : A → List B) (x : A) → g x ≡ [] → flat_map g (x ∷ []) ≡ []
one_none g x none = append-nil (g x) ∙ none

module _ (types : Types) (function : ℕ) (f : Function) (place : Place) (a b : Fact) where
  abbrev told : Operand → List Diag
  told = moved_through types function f place a b

  through_none : (o : Operand) → is_target_of o a ≡ false → told o ≡ []
  through_none (Name l) h = refl
  through_none (Through p members) h = cond_none (is_location p a.location) (moved_target types function f place p members a.element b) h

  base_none : (base : Base) → base_tells_first base a ≡ false → flat_map told (owner_of_base base) ≡ []
  base_none (named.Owner o) h = one_none told o (through_none o h)
  base_none (named.Pointer l) h = refl

  source_none : (s : Source) → source_tells_first s a ≡ false → flat_map told (owner_of_source s) ≡ []
  source_none (named.Whole o) h = one_none told o (through_none o h)
  source_none _ h = refl

  step_none : (i : Step) → tells_first i a ≡ false → flat_map told (owners i) ≡ []
  step_none (Copy to from) h = one_none told from (through_none from h)
  step_none (Aim p s) h = source_none s h
  step_none (step.Element p base which) h = base_none base h
  step_none (Cursor p base end) h = base_none base h
  step_none (Size r base) h = base_none base h
  step_none (Changes o change) h = one_none told o (through_none o h)
  step_none _ h = refl

pub none_used_of_first : (types : Types) (function : ℕ) (f : Function) (place : Place) (i : Step) (a : Fact) (facts : List Fact) (out : List Diag) → tells_first i a ≡ false → out ≡ out ++ flat_map (moved_uses types function f place i a) facts
none_used_of_first types function f place i a facts out h =
    let none = flat_map_empty (moved_uses types function f place i a) facts (λ b. step_none types function f place a b i h) in
    sym (ap (λ (ds : List Diag). out ++ ds) none ∙ append-nil out)
