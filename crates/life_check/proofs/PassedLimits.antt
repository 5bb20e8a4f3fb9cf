-- A translation that passes no limit is within those that proper programs are within.
use Rattle.std.proofs.Common.{◌≡◌, ◌≤◌, ◌<◌, ◌^◌, ℕ, zero, suc, ◌+◌, List, [], ◌∷◌, Option, None, Some, arith, length, refl, subst, sym, slice_get}
use Rattle.std.specs.Prelude.{option_map}
use Rattle.std.proofs.lemmas.List.{length-append}
use Rattle.std.proofs.lemmas.Option.{none-some, same_Some}
use Rattle.life_types.specs.Types.{Types}
use Rattle.life_tree.specs.declared.limit.LimitName.TheVariants.{Functions, Locations, Points, Elements}
use Rattle.life_core.specs.Function.{Function, Program}
use Rattle.life_core.specs.Linked.{points_of}
use Rattle.life_elab.specs.Bounds.{HaveNumberedLocals, HaveShortPlaces}
use Rattle.life_elab.specs.Functions.{function_from}
use Rattle.life_elab.specs.Over as over
use Rattle.life_elab.specs.Over.{first_of, over_function, over_functions, over_locals, over_parts, over_structs, passes}
use Rattle.life_elab.specs.ProgramForms.{functions, translated, written}
use Rattle.life_elab.specs.Programs.{Functions as Written, around, with_function}
use Rattle.life_typed.specs.Programs.{FunctionForm, ProgramForm}
use Rattle.life_core_served.specs.ProperPrograms.{IsProperProgram}
use Rattle.life_elab_laws.proofs.PassedNone.{first_none, not_passed}
use Rattle.life_pset.specs.Limits.{IsProgramWithinLimits}
use Rattle.life_pset.specs.Elements.{AreShort, IsWithinLimits, elements_of, locations_of}

-- ---- functions

within : (types : Types) (f : Function) → over_function types f ≡ None → length f.locals < 2 ^ 32 → AreShort (elements_of types f) → IsWithinLimits types f
within types f none numbered short =
    let locations = passes (length (locations_of types f)) 256 Locations f.place in
    let points = passes (points_of f) 1024 Points f.place in
    let elements = passes (length (elements_of types f)) 2048 Elements f.place in
    let first = first_none locations (first_of points elements) none in
    let second = first_none points elements first.1 in
    record {
      points = not_passed (points_of f) 1024 Points f.place second.0;
      locals = numbered;
      locations = not_passed (length (locations_of types f)) 256 Locations f.place first.0;
      elements = not_passed (length (elements_of types f)) 2048 Elements f.place second.1;
      steps = short;
    }

each_within : (types : Types) (fs : List Function) → over_functions types fs ≡ None → HaveNumberedLocals fs → HaveShortPlaces types fs → (i : ℕ) (f : Function) → slice_get fs i ≡ Some f → IsWithinLimits types f
each_within types [] none numbered short i f at = absurd (none-some f at)
each_within types (g ∷ gs) none numbered short zero f at =
    let first = (first_none (over_parts types g) (over_functions types gs) none).0 in
    subst (IsWithinLimits types) (same_Some g f at) (within types g (first_none (over_locals types g.locals) (over_function types g) first).1 numbered.0 short.0)
each_within types (g ∷ gs) none numbered short (suc i) f at =
    each_within types gs (first_none (over_parts types g) (over_functions types gs) none).1 numbered.1 short.1 i f at

-- ---- translated programs

count_functions : (p : ProgramForm) (fs : List FunctionForm) (w : Written) → length (functions p fs w).functions ≡ length w.functions + length fs
count_functions p [] w = omega arith
count_functions p (f ∷ fs) w =
    let s = written (around p f) w.types in
    omega (arith, count_functions p fs (with_function f s w), length-append w.functions (function_from f s ∷ []))

none_past : {A : Type 0} (xs : List A) (n : ℕ) → slice_get xs n ≡ None → length xs ≤ n
none_past [] n none = omega arith
none_past (x ∷ xs) zero none = absurd (none-some x (sym none))
none_past (x ∷ xs) (suc n) none = omega (arith, none_past xs n none)

none_mapped : {A B : Type 0} (g : A → B) (o : Option A) → option_map g o ≡ None → o ≡ None
none_mapped g None h = refl
none_mapped g (Some x) h = absurd (none-some (g x) (sym h))

module _ (p : ProgramForm) (core : Program) (is : core ≡ translated p) (none : over.over p (translated p) ≡ None) (numbered : HaveNumberedLocals core.functions) (short : HaveShortPlaces (translated p).types (translated p).functions) where
  its_limits : IsProgramWithinLimits (translated p)
  its_limits =
      let both = first_none (over.too_many p) (over.over_each (translated p).types p.structs (translated p).functions) none in
      let functions_pass = (first_none (over_structs (translated p).types 0 p.structs) (over_functions (translated p).types (translated p).functions) both.1).1 in
      let past = none_past p.functions 1024 (none_mapped (λ (f : FunctionForm). over.limit Functions f.first_place) (slice_get p.functions 1024) both.0) in
      record {
        few = omega (arith, count_functions p p.functions (record { types = p.types; functions = [] }), past);
        each = each_within (translated p).types (translated p).functions functions_pass (subst (λ (c : Program). HaveNumberedLocals c.functions) is numbered) short;
      }

  -- so it is proper where it is proper within them
  pub translated_proper : (IsProgramWithinLimits (translated p) → IsProperProgram (translated p)) → IsProperProgram core
  translated_proper proper = subst IsProperProgram (sym is) (proper its_limits)

-- a proper program is within them
pub proper_within : (p : Program) → IsProperProgram p → IsProgramWithinLimits p
proper_within p proper = proper.limits
