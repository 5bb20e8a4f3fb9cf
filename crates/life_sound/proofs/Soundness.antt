-- No run of a proper program of which nothing is diagnosed ends in a fault.
use Rattle.std.proofs.Common.{◌≡◌, List, [], ◌∷◌, length, refl, subst, arith}
use Rattle.life_core.specs.Function.{Program}
use Rattle.life_core_served.specs.ProperPrograms.{IsProperProgram, IsServedProgram}
use Rattle.life_core_served.proofs.PointsAsked.{proper_functions}
use Rattle.life_rules.specs.Listing.{IsProgramDiagnosed, AreProgramDiagnostics}
use Rattle.life_rules.specs.declared.diag.Diag.{Diag}
use Rattle.life_rules.proofs.Unique.{nothing_wrong}
use Rattle.life_store.specs.NoFault.{NoFault}
use Rattle.life_cover.proofs.SafeRuns.{safe_runs}
use Rattle.life_sound.proofs.Spoken.{body_spoken, hands_no_slots}

pub soundness : (p : Program) → IsProperProgram p → IsServedProgram p → ((d : Diag) → IsProgramDiagnosed p d → ⊥) → NoFault p
soundness p proper served none given entry f input n is admitted =
    safe_runs p given entry f input n proper.well_formed (λ k g at. (proper_functions p proper k g at).ready) proper.given (hands_no_slots p served)
    (λ k g at. (
      (proper.limits.each k g at).steps,
      ((proper.limits.each k g at).locations, body_spoken p proper served k g at),
    ))
    none is admitted

-- where the list of the diagnostics is empty, nothing is diagnosed
no_items : {A : Type 0} (xs : List A) → length xs ≡ 0 → xs ≡ []
no_items [] e = refl
no_items (x ∷ xs) e = absurd (omega (arith, e))

pub sound_if_empty : (p : Program) (ds : List Diag) → IsProperProgram p → IsServedProgram p → AreProgramDiagnostics p ds → length ds ≡ 0 → NoFault p
sound_if_empty p ds proper served all empty = soundness p proper served (nothing_wrong (subst (AreProgramDiagnostics p) (no_items ds empty) all))
