-- A run with the input of a file, or without one.
use Rattle.std.proofs.Common.{◌≡◌, ◌≤◌, ◌++◌, ℕ, ℤ, List, [], Option, None, Some, IfSome, Result, Ok, Err, length, refl, sym, subst}
use Rattle.std.specs.Prelude.{codes, decimal, option_map}
use Rattle.life_base.specs.Edges.{Directory}
use Rattle.life_core.specs.Function.{Program}
use Rattle.life_input.specs.Input.{numbers_in}
use Rattle.life_store.specs.NoFault.{NoFault}
use Rattle.life_cli.proofs.Files.{WithText, for_any, has_file}
use Rattle.life_cli.proofs.Served.{text_serves}
use Rattle.life_cli.proofs.Statuses.{IsInput, numbers_input, run_fits}
use Rattle.life_cli.proofs.Working.{are_asked, refusal_on, serves_on, stopped_on}
use Rattle.life_cli.specs.Answer.{line, refusal}
use Rattle.life_cli.specs.Ends.{Port, Serves, Tells, WorksOn}
use Rattle.life_cli.specs.Entry.{entry_of}
use Rattle.life_cli.specs.FileText.{Absent, Fetches, FileText, Holds, TooLong, file_text, most_bytes}
use Rattle.life_cli.specs.InputFile.{Numbers, input_in, numbers_or}
use Rattle.life_cli.specs.Question.{OfFiles, OfRun, no_files, run_asked}
use Rattle.life_cli.specs.Runs.{RanFrom, RanWith}
use Rattle.life_cli.specs.Status.{IsFaultless}
use Rattle.life_cli.specs.declared.fetch.Fetched.TheVariants as fetched
use Rattle.life_job.specs.declared.job.RunOptions.{RunOptions}
use Rattle.life_cli.specs.declared.status.Status.{Status}
use Rattle.life_cli.specs.declared.status.Status.TheVariants.{Input, Limit, NoFile}
use Rattle.life_cli.specs.declared.stop.Ending.{Ending}
use Rattle.life_cli.specs.declared.stop.Stop.{Stop}

module _ (options : RunOptions) (entry : List ℕ) (p : Program) (told : Option Directory) (reads reads' : ℕ) (out : Port) where
  -- the work on the question of a run
  abbrev OnRun : Option (List ℕ) → Port → Result Ending Stop → Option Directory → Type 0
  OnRun name out' result held = WorksOn (run_asked options entry p name held) (NoFault p → ⊥) reads reads' out out' result

  -- .. whose input is this
  abbrev OnNumbers : Numbers → Port → Result Ending Stop → Type 0
  OnNumbers numbers out' result = WorksOn (Some (OfRun options entry p numbers)) (NoFault p → ⊥) reads reads' out out' result

  numbers_on : (numbers : Numbers) → IsInput numbers → reads' ≡ reads → (out' : Port) (result : Result Ending Stop) → Serves (RanWith options entry p numbers) out out' result → OnNumbers numbers out' result
  numbers_on numbers good quiet out' result serves =
      serves_on (Some (OfRun options entry p numbers)) (NoFault p → ⊥) (RanWith options entry p numbers)
      (are_asked (Some no_files) (λ d. OfRun options entry p numbers) (RanWith options entry p numbers) (λ d a is. is) (λ d a is. is))
      (λ a is. run_fits p options entry numbers a good is) reads reads' quiet out out' result serves

  -- an empty input
  pub without_file : reads' ≡ reads → (out' : Port) (result : Result Ending Stop) → Serves (RanFrom options entry p [] (entry_of p entry)) out out' result → OfFiles told (OnRun None out' result)
  unfolding run_asked
  without_file quiet out' result serves = for_any told (OnRun None out' result) (λ d. numbers_on (Ok []) tt quiet out' result serves)

  module _ (name : List ℕ) where
    -- what works on the input of a text works on that of the file that has it
    of_text : (text : FileText) → WithText told name text → (out' : Port) (result : Result Ending Stop) → OnNumbers (input_in name text) out' result → OfFiles told (OnRun (Some name) out' result)
    unfolding run_asked
    of_text text files out' result on =
        record { directory = files.directory; agrees = files.agrees; is = subst (λ t. OnNumbers (input_in name t) out' result) (sym files.is) on }

    refused_input : (status : Status) (text : List ℕ) → IsFaultless status → (numbers : Numbers) → numbers ≡ Err (refusal status text) → reads' ≡ reads → (result : Result Ending Stop) → Tells status text result → OnNumbers numbers out result
    refused_input status text faultless numbers is quiet result tells =
        subst (λ n. OnNumbers n out result) (sym is)
        (refusal_on (Some no_files) (λ d. OfRun options entry p (Err (refusal status text))) (NoFault p → ⊥) status text (λ d a same. same) (λ d a same. same) faultless reads reads' quiet out result tells)

    pub absent_input : (result : Result Ending Stop) → Fetches (option_map (λ directory. file_text (directory name)) told) reads reads' (Ok fetched.Absent) → Tells NoFile (codes "no file " ++ name) result → OfFiles told (OnRun (Some name) out result)
    absent_input result got tells =
        of_text Absent (has_file told name Absent got.1.0 tt) out result (refused_input NoFile (codes "no file " ++ name) tt (input_in name Absent) refl got.0 result tells)

    pub long_input : (result : Result Ending Stop) → Fetches (option_map (λ directory. file_text (directory name)) told) reads reads' (Ok fetched.TooLong) → Tells Limit (codes "limit: input") result → OfFiles told (OnRun (Some name) out result)
    long_input result got tells =
        of_text TooLong (has_file told name TooLong got.1.0 tt) out result (refused_input Limit (codes "limit: input") tt (input_in name TooLong) refl got.0 result tells)

    pub bytes_input : (bytes : List ℕ) → reads' ≡ reads → IfSome (option_map (λ directory. file_text (directory name)) told) (λ t. t ≡ Holds bytes) → length bytes ≤ most_bytes → (out' : Port) (result : Result Ending Stop)
        → Serves (RanWith options entry p (numbers_or (numbers_in bytes))) out out' result → OfFiles told (OnRun (Some name) out' result)
    bytes_input bytes quiet is short out' result serves =
        of_text (Holds bytes) (has_file told name (Holds bytes) is short) out' result (numbers_on (numbers_or (numbers_in bytes)) (numbers_input (numbers_in bytes)) quiet out' result serves)

    -- memory was wanted, or the files' count rose
    pub stopped_input : (text : Option FileText) (reason : Stop) → Fetches text reads reads' (Err reason) → OfFiles told (OnRun (Some name) out (Err reason))
    stopped_input text reason h =
        for_any told (OnRun (Some name) out (Err reason)) (λ d. stopped_on (run_asked options entry p (Some name) (Some d)) (NoFault p → ⊥) text reads reads' out reason h)

-- ---- numbers

module _ (options : RunOptions) (entry : List ℕ) (p : Program) (wanted : Result (List ℤ) ℕ) (out : Port) where
  pub numbers_serve : (numbers : List ℤ) (out' : Port) (result : Result Ending Stop) → wanted ≡ Ok numbers → Serves (RanFrom options entry p numbers (entry_of p entry)) out out' result
      → Serves (RanWith options entry p (numbers_or wanted)) out out' result
  numbers_serve numbers out' result is serves = subst (λ w. Serves (RanWith options entry p (numbers_or w)) out out' result) (sym is) serves

  pub word_serves : (offset : ℕ) (told : Result Ending Stop) → wanted ≡ Err offset → Tells Input (codes "input offset " ++ decimal offset ++ codes ": refused") told
      → Serves (RanWith options entry p (numbers_or wanted)) out out told
  word_serves offset told is tells =
      subst (λ w. Serves (RanWith options entry p (numbers_or w)) out out told) (sym is)
      (text_serves (RanWith options entry p (numbers_or (Err offset))) Input (line (codes "input offset " ++ decimal offset ++ codes ": refused")) out told refl tells)
