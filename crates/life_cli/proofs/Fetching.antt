-- From the bytes that were read to the file of a name.
use Rattle.std.proofs.Common.{◌≡◌, ◌<◌, ℕ, Bool, true, cond, List, Option, None, Some, IsSome, IfSome, Result, Ok, Err, length, take, sym, ap, subst, ◌∙◌, inl, inr, arith}
use Rattle.std.specs.Prelude.{nat_lt, option_map}
use Rattle.std.proofs.lemmas.Bool.{cases_lt}
use Rattle.std.proofs.lemmas.Bool.Decides.{nat_tests}
use Rattle.std.proofs.lemmas.List.{length-take, take_all}
use Rattle.life_base.specs.Edges.{Directory, IsAbsent, Starts}
use Rattle.life_cli.specs.FileText.{Absent, Fetches, FileText, Holds, TooLong, bytes_text, file_text, most_bytes, text_fetched}
use Rattle.life_cli.specs.declared.fetch.Fetched.{Fetched}
use Rattle.life_cli.specs.declared.fetch.Fetched.TheVariants as fetched
use Rattle.life_cli.specs.declared.stop.Stop.{Stop}
use Rattle.life_cli.specs.declared.stop.Stop.TheVariants as stop

is_less : (a b : ℕ) → a < b → nat_lt a b ≡ true
is_less a b h = grind (arith, nat_tests)

pub is_long : (bytes : List ℕ) → most_bytes < length bytes → bytes_text bytes ≡ TooLong
is_long bytes many = ap (λ (b : Bool). cond b TooLong (Holds bytes)) (is_less most_bytes (length bytes) many)

-- one byte more than a file may have says as much as all that there are
cut_text : (all : List ℕ) → bytes_text (take 1048577 all) ≡ bytes_text all
cut_text all = elim (cases_lt most_bytes (length all)) [
  | inl many ↦ is_long (take 1048577 all) (omega (arith, length-take 1048577 all)) ∙ sym (is_long all many)
  | inr few ↦ ap bytes_text (take_all 1048577 all (omega arith))
]

-- what was read of the started file is its text
pub read_fetches : (rest : Option (List ℕ)) (bytes : List ℕ) (got : Fetched) → IfSome rest (λ all. bytes ≡ take 1048577 all) → text_fetched got ≡ bytes_text bytes
    → IfSome (option_map bytes_text rest) (λ t. t ≡ text_fetched got)
read_fetches None bytes got read same = tt
read_fetches (Some all) bytes got read same = sym (same ∙ ap bytes_text read ∙ cut_text all)

unknown_fetches : (text : Option FileText) (reads reads' : ℕ) (result : Result Fetched Stop) → Fetches text reads reads' result → Fetches None reads reads' result
unknown_fetches text reads reads' (Ok got) h = (h.0, (tt, h.1.1))
unknown_fetches text reads reads' (Err stop.NoMemory) h = h
unknown_fetches text reads reads' (Err stop.ReadFault) h = h
unknown_fetches text reads reads' (Err stop.WriteFault) h = h

-- the file that was started is the file of the name
same_file : (directory : Directory) (name : List ℕ) (rest : Option (List ℕ)) → IsSome (directory name) × (rest ≡ directory name) → option_map bytes_text rest ≡ Some (file_text (directory name))
same_file directory name rest starts = elim (directory name) as (λ there. IsSome there → rest ≡ there → option_map bytes_text rest ≡ Some (file_text there)) [
  | None ↦ λ there same. cc
  | Some bytes ↦ λ there same. ap (option_map bytes_text) same
] starts.0 starts.1

module _ (held : Option Directory) (name : List ℕ) (reads reads' : ℕ) where
  pub started_fetches : (rest : Option (List ℕ)) (result : Result Fetched Stop) → Starts held name true rest → Fetches (option_map bytes_text rest) reads reads' result
      → Fetches (option_map (λ directory. file_text (directory name)) held) reads reads' result
  started_fetches rest result starts h = elim held as (λ d. Starts d name true rest → Fetches (option_map (λ directory. file_text (directory name)) d) reads reads' result) [
    | None ↦ λ _. unknown_fetches (option_map bytes_text rest) reads reads' result h
    | Some directory ↦ λ s. subst (λ text. Fetches text reads reads' result) (same_file directory name rest s) h
  ] starts

  pub absent_fetches : IsAbsent held name → reads' ≡ reads → Fetches (option_map (λ directory. file_text (directory name)) held) reads reads' (Ok fetched.Absent)
  absent_fetches absent quiet = (
    quiet,
    (
      elim held as (λ d. IsAbsent d name → IfSome (option_map (λ directory. file_text (directory name)) d) (λ t. t ≡ Absent)) [
        | None ↦ λ _. tt
        | Some directory ↦ λ is. ap file_text is
      ] absent,
      tt,
    ),
  )
