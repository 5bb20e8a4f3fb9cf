-- The arms of a command, by what is diagnosed.
use Rattle.std.proofs.Common.{◌≡◌, ℕ, Bool, true, false, List, [], ◌∷◌, map, Option, Some, Result, refl, sym, subst}
use Rattle.std.specs.Prelude.{option_map}
use Rattle.life_base.specs.Edges.{Directory}
use Rattle.life_core.specs.Function.{Program}
use Rattle.life_report.specs.Reports.{report_text}
use Rattle.life_rules.specs.Listing.{listed_diag}
use Rattle.life_rules.specs.declared.diag.Diag.{Diag}
use Rattle.life_rules.specs.declared.diag.ListedDiag.{ListedDiag}
use Rattle.life_store.specs.NoFault.{NoFault}
use Rattle.life_cli.proofs.Files.{files_then, for_any}
use Rattle.life_cli.proofs.Served.{text_serves}
use Rattle.life_cli.proofs.Statuses.{Fits, faultless_fits, fits_as, summary_fits, verdict_faultless}
use Rattle.life_cli.proofs.Working.{are_asked, on_as, serves_on}
use Rattle.life_cli.specs.Answer.{Answer}
use Rattle.life_cli.specs.Concluding.{Concludes, IsTabled, RanDiagnosed, RanJob, not_run, reported, tabled, verdict}
use Rattle.life_cli.specs.Ends.{Port, Reports, Serves, WorksOn}
use Rattle.life_cli.specs.InputFile.{input_of}
use Rattle.life_cli.specs.Made.{SumsUp}
use Rattle.life_cli.specs.Question.{OfFiles, OfProgram, OfRun, program_asked, run_asked}
use Rattle.life_job.specs.Job.{RunJob}
use Rattle.life_cli.specs.Words.{Check, Command, IsUnchecked, Made, Psets, Run}
use Rattle.life_cli.specs.declared.status.Status.TheVariants.{Diagnosed, Done}
use Rattle.life_cli.specs.declared.stop.Ending.{Ending}
use Rattle.life_cli.specs.declared.stop.Stop.{Stop}

none_of : {P : Type 0} (d : Diag) (ds : List Diag) → d ∷ ds ≡ [] → P
none_of d ds e = absurd (clash e)
  where
    clash : d ∷ ds ≡ [] → ⊥
    clash h = cc

-- where something is listed, something is diagnosed
pub some_diagnosed : (xs : List ListedDiag) → (xs ≡ [] → ⊥) → map listed_diag xs ≡ [] → ⊥
some_diagnosed [] some e = some refl
some_diagnosed (x ∷ xs) some e = none_of x.diag (map listed_diag xs) e

module _ (p : Program) (held : Option Directory) (reads reads' : ℕ) (out out' : Port) (result : Result Ending Stop) where
  -- a report on out
  report_on_in : (json : Bool) (ds : List Diag) (MayFault : Type 0) → (ds ≡ [] → NoFault p) → reads' ≡ reads → Serves (λ a. a ≡ reported json p ds) out out' result
      → WorksOn (program_asked (Check json) p ds held) MayFault reads reads' out out' result
  unfolding program_asked
  report_on_in json ds MayFault safe quiet serves =
      serves_on (option_map (λ d. OfProgram (Check json) d p ds) held) MayFault (λ a. a ≡ reported json p ds)
      (are_asked held (λ d. OfProgram (Check json) d p ds) (λ a. a ≡ reported json p ds) (λ d a is. record { safe = safe; concluded = is }) (λ d a is. is.concluded))
      (λ a is. fits_as MayFault a (reported json p ds) is (faultless_fits MayFault (verdict ds) (verdict_faultless ds))) reads reads' quiet out out' result serves

  -- the table of sets on out
  sets_on_in : (ds : List Diag) (MayFault : Type 0) → (ds ≡ [] → NoFault p) → reads' ≡ reads → Serves (IsTabled p) out out' result → WorksOn (program_asked Psets p ds held) MayFault reads reads' out out' result
  unfolding program_asked
  sets_on_in ds MayFault safe quiet serves =
      serves_on (option_map (λ d. OfProgram Psets d p ds) held) MayFault (IsTabled p)
      (are_asked held (λ d. OfProgram Psets d p ds) (IsTabled p) (λ d a is. record { safe = safe; concluded = is }) (λ d a is. is.concluded))
      (λ a is. fits_as MayFault a (tabled p is.sets) is.is (faultless_fits MayFault Done tt)) reads reads' quiet out out' result serves

  safe_fits : NoFault p → (bytes : ℕ) (a : Answer) → SumsUp bytes p a → Fits ⊥ a.status
  safe_fits safe bytes a is = let fits = summary_fits p bytes a is in (fits.0, λ e. absurd (fits.1 e safe))

  -- how a made file's run went, on out
  summary_on_in : (bytes : ℕ) → NoFault p → reads' ≡ reads → Serves (SumsUp bytes p) out out' result → WorksOn (program_asked (Made bytes) p [] held) ⊥ reads reads' out out' result
  unfolding program_asked
  summary_on_in bytes safe quiet serves =
      serves_on (option_map (λ d. OfProgram (Made bytes) d p []) held) ⊥ (SumsUp bytes p)
      (are_asked held (λ d. OfProgram (Made bytes) d p []) (SumsUp bytes p) (λ d a is. record { safe = λ _. safe; concluded = is }) (λ d a is. is.concluded))
      (safe_fits safe bytes) reads reads' quiet out out' result serves

  -- a run that answers the command
  run_on : (run : RunJob) (ds : List Diag) → ((d : Directory) (a : Answer) → RanJob run d p a → Concludes (Run run) d p ds a) → ((d : Directory) (a : Answer) → Concludes (Run run) d p ds a → RanJob run d p a)
      → (ds ≡ [] → NoFault p) → ((NoFault p → ⊥) → IsUnchecked (Run run)) → WorksOn (run_asked run.options run.function p run.input held) (NoFault p → ⊥) reads reads' out out' result
      → WorksOn (program_asked (Run run) p ds held) (IsUnchecked (Run run)) reads reads' out out' result
  unfolding program_asked run_asked
  run_on run ds to back safe may on =
      on_as held (λ d. OfRun run.options run.function p (input_of run.input d)) (λ d. OfProgram (Run run) d p ds)
      (λ d a is. record { safe = safe; concluded = to d a is }) (λ d a is. back d a is.concluded)
      (NoFault p → ⊥) (IsUnchecked (Run run)) may reads reads' out out' result on

  accepted_run_in : (run : RunJob) → NoFault p → WorksOn (run_asked run.options run.function p run.input held) (NoFault p → ⊥) reads reads' out out' result
      → WorksOn (program_asked (Run run) p [] held) (IsUnchecked (Run run)) reads reads' out out' result
  accepted_run_in run safe on = run_on run [] (λ d a is. is) (λ d a is. is) (λ _. safe) (λ unsafe. absurd (unsafe safe)) on

  unchecked_run_in : (run : RunJob) → run.options.unchecked ≡ true → (ds : List Diag) → (ds ≡ [] → ⊥) → WorksOn (run_asked run.options run.function p run.input held) (NoFault p → ⊥) reads reads' out out' result
      → WorksOn (program_asked (Run run) p ds held) (IsUnchecked (Run run)) reads reads' out out' result
  unchecked_run_in run checks [] some on = absurd (some refl)
  unchecked_run_in run checks (x ∷ xs) some on =
      run_on run (x ∷ xs)
      (λ d a is. subst (λ b. RanDiagnosed b run d p (x ∷ xs) a) (sym checks) is)
      (λ d a is. subst (λ b. RanDiagnosed b run d p (x ∷ xs) a) checks is)
      (λ e. none_of x xs e) (λ _. checks) on

-- a report on err, in place of a run, of these files
not_run_in : (p : Program) (held : Option Directory) (reads reads' : ℕ) (out : Port) (told : Result Ending Stop) (run : RunJob) (MayFault : Type 0) → run.options.unchecked ≡ false → (ds : List Diag) → (ds ≡ [] → ⊥)
    → reads' ≡ reads → Reports Diagnosed (report_text p ds) told → WorksOn (program_asked (Run run) p ds held) MayFault reads reads' out out told
unfolding program_asked
not_run_in p held reads reads' out told run MayFault checks [] some quiet reports = absurd (some refl)
not_run_in p held reads reads' out told run MayFault checks (x ∷ xs) some quiet reports =
    serves_on (option_map (λ d. OfProgram (Run run) d p (x ∷ xs)) held) MayFault (λ a. a ≡ not_run p (x ∷ xs))
    (are_asked held (λ d. OfProgram (Run run) d p (x ∷ xs)) (λ a. a ≡ not_run p (x ∷ xs))
    (λ d a is. record { safe = λ e. none_of x xs e; concluded = subst (λ b. RanDiagnosed b run d p (x ∷ xs) a) (sym checks) is })
    (λ d a is. subst (λ b. RanDiagnosed b run d p (x ∷ xs) a) checks is.concluded))
    (λ a is. fits_as MayFault a (not_run p (x ∷ xs)) is (faultless_fits MayFault Diagnosed tt)) reads reads' quiet out out told
    (text_serves (λ a. a ≡ not_run p (x ∷ xs)) Diagnosed (report_text p (x ∷ xs)) out told refl reports)

made_not_run_in : (p : Program) (held : Option Directory) (reads reads' : ℕ) (out : Port) (told : Result Ending Stop) (bytes : ℕ) (MayFault : Type 0) (ds : List Diag) → (ds ≡ [] → ⊥)
    → reads' ≡ reads → Reports Diagnosed (report_text p ds) told → WorksOn (program_asked (Made bytes) p ds held) MayFault reads reads' out out told
unfolding program_asked
made_not_run_in p held reads reads' out told bytes MayFault [] some quiet reports = absurd (some refl)
made_not_run_in p held reads reads' out told bytes MayFault (x ∷ xs) some quiet reports =
    serves_on (option_map (λ d. OfProgram (Made bytes) d p (x ∷ xs)) held) MayFault (λ a. a ≡ not_run p (x ∷ xs))
    (are_asked held (λ d. OfProgram (Made bytes) d p (x ∷ xs)) (λ a. a ≡ not_run p (x ∷ xs))
    (λ d a is. record { safe = λ e. none_of x xs e; concluded = is }) (λ d a is. is.concluded))
    (λ a is. fits_as MayFault a (not_run p (x ∷ xs)) is (faultless_fits MayFault Diagnosed tt)) reads reads' quiet out out told
    (text_serves (λ a. a ≡ not_run p (x ∷ xs)) Diagnosed (report_text p (x ∷ xs)) out told refl reports)

-- ---- of the files that are told, or some

module _ (p : Program) (told : Option Directory) (reads reads' : ℕ) (out out' : Port) (result : Result Ending Stop) where
  -- the work on the program's question
  abbrev OnProgram : Command → List Diag → Type 0 → Option Directory → Type 0
  OnProgram command ds MayFault held = WorksOn (program_asked command p ds held) MayFault reads reads' out out' result

  -- .. and on that of its run
  abbrev OnRun : RunJob → Option Directory → Type 0
  OnRun run held = WorksOn (run_asked run.options run.function p run.input held) (NoFault p → ⊥) reads reads' out out' result

  pub report_on : (json : Bool) (ds : List Diag) (MayFault : Type 0) → (ds ≡ [] → NoFault p) → reads' ≡ reads → Serves (λ a. a ≡ reported json p ds) out out' result → OfFiles told (OnProgram (Check json) ds MayFault)
  report_on json ds MayFault safe quiet serves = for_any told (OnProgram (Check json) ds MayFault) (λ d. report_on_in p (Some d) reads reads' out out' result json ds MayFault safe quiet serves)

  pub sets_on : (ds : List Diag) (MayFault : Type 0) → (ds ≡ [] → NoFault p) → reads' ≡ reads → Serves (IsTabled p) out out' result → OfFiles told (OnProgram Psets ds MayFault)
  sets_on ds MayFault safe quiet serves = for_any told (OnProgram Psets ds MayFault) (λ d. sets_on_in p (Some d) reads reads' out out' result ds MayFault safe quiet serves)

  pub summary_on : (bytes : ℕ) → NoFault p → reads' ≡ reads → Serves (SumsUp bytes p) out out' result → OfFiles told (OnProgram (Made bytes) [] ⊥)
  summary_on bytes safe quiet serves = for_any told (OnProgram (Made bytes) [] ⊥) (λ d. summary_on_in p (Some d) reads reads' out out' result bytes safe quiet serves)

  pub accepted_run : (run : RunJob) → NoFault p → OfFiles told (OnRun run) → OfFiles told (OnProgram (Run run) [] (IsUnchecked (Run run)))
  accepted_run run safe on =
      files_then told (OnRun run) (OnProgram (Run run) [] (IsUnchecked (Run run))) (λ d on_run. accepted_run_in p (Some d) reads reads' out out' result run safe on_run) on

  pub unchecked_run : (run : RunJob) → run.options.unchecked ≡ true → (ds : List Diag) → (ds ≡ [] → ⊥) → OfFiles told (OnRun run) → OfFiles told (OnProgram (Run run) ds (IsUnchecked (Run run)))
  unchecked_run run checks ds some on =
      files_then told (OnRun run) (OnProgram (Run run) ds (IsUnchecked (Run run))) (λ d on_run. unchecked_run_in p (Some d) reads reads' out out' result run checks ds some on_run) on

-- a report on err, in place of a run
pub not_run_on : (p : Program) (told : Option Directory) (reads reads' : ℕ) (out : Port) (result : Result Ending Stop) (run : RunJob) (MayFault : Type 0) → run.options.unchecked ≡ false → (ds : List Diag) → (ds ≡ [] → ⊥)
    → reads' ≡ reads → Reports Diagnosed (report_text p ds) result → OfFiles told (OnProgram p told reads reads' out out result (Run run) ds MayFault)
not_run_on p told reads reads' out result run MayFault checks ds some quiet reports =
    for_any told (OnProgram p told reads reads' out out result (Run run) ds MayFault) (λ d. not_run_in p (Some d) reads reads' out result run MayFault checks ds some quiet reports)

pub made_not_run : (p : Program) (told : Option Directory) (reads reads' : ℕ) (out : Port) (result : Result Ending Stop) (bytes : ℕ) (MayFault : Type 0) (ds : List Diag) → (ds ≡ [] → ⊥)
    → reads' ≡ reads → Reports Diagnosed (report_text p ds) result → OfFiles told (OnProgram p told reads reads' out out result (Made bytes) ds MayFault)
made_not_run p told reads reads' out result bytes MayFault ds some quiet reports =
    for_any told (OnProgram p told reads reads' out out result (Made bytes) ds MayFault) (λ d. made_not_run_in p (Some d) reads reads' out result bytes MayFault ds some quiet reports)
