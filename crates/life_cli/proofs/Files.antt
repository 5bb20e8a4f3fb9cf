-- Files as they are told, or some where nothing is told.
use Rattle.std.proofs.Common.{◌≡◌, ◌<◌, ◌≤◌, ℕ, zero, suc, Bool, false, cond, List, [], ◌∷◌, Option, None, Some, IfSome, length, refl, sym, ap, arith}
use Rattle.std.specs.Prelude.{nat_lt, option_map}
use Rattle.std.proofs.lemmas.Bool.Decides.{nat_tests}
use Rattle.life_base.specs.Edges.{Directory}
use Rattle.life_cli.proofs.Fetching.{is_long}
use Rattle.life_cli.specs.FileText.{Absent, FileText, Holds, TooLong, bytes_text, file_text, most_bytes}
use Rattle.life_cli.specs.Question.{OfFile, OfFiles, OfJob, Question, no_files}
use Rattle.life_cli.specs.Words.{Job}

-- the files that are told, or no files
any_files : (told : Option Directory) → (d : Directory) × IfSome told (λ held. d ≡ held)
any_files None = (no_files, tt)
any_files (Some d) = (d, refl)

-- what holds of all files
pub for_any : (told : Option Directory) (P : Option Directory → Type 0) → ((d : Directory) → P (Some d)) → OfFiles told P
for_any told P all = record { directory = (any_files told).0; agrees = (any_files told).1; is = all (any_files told).0 }

-- what follows of the same files
pub files_then : (told : Option Directory) (P Q : Option Directory → Type 0) → ((d : Directory) → P (Some d) → Q (Some d)) → OfFiles told P → OfFiles told Q
files_then told P Q step of = record { directory = of.directory; agrees = of.agrees; is = step of.directory of.is }

-- ---- a file of a text

abbrev pub IsShortText : FileText → Type 0
IsShortText Absent = Unit {0}
IsShortText TooLong = Unit {0}
IsShortText (Holds bytes) = length bytes ≤ most_bytes

-- files of which that of the name has this text
pub record WithText (told : Option Directory) (name : List ℕ) (text : FileText) : Type 0 where
  pub directory : Directory
  pub agrees : IfSome told (λ held. directory ≡ held)
  pub is : file_text (directory name) ≡ text

is_not_less : (a b : ℕ) → b ≤ a → nat_lt a b ≡ false
is_not_less a b h = grind (arith, nat_tests)

pub is_short : (bytes : List ℕ) → length bytes ≤ most_bytes → bytes_text bytes ≡ Holds bytes
is_short bytes few = ap (λ (b : Bool). cond b TooLong (Holds bytes)) (is_not_less most_bytes (length bytes) few)

long_list : (n : ℕ) → (bytes : List ℕ) × (n < length bytes)
long_list zero = (0 ∷ [], omega arith)
long_list (suc n) = (0 ∷ (long_list n).0, omega (arith, (long_list n).1))

-- there is a file of each text
file_of : (text : FileText) → IsShortText text → (o : Option (List ℕ)) × (file_text o ≡ text)
file_of Absent short = (None, refl)
file_of TooLong short = let long = long_list most_bytes in (Some long.0, is_long long.0 long.1)
file_of (Holds bytes) short = (Some bytes, is_short bytes short)

pub has_file : (told : Option Directory) (name : List ℕ) (text : FileText) → IfSome (option_map (λ directory. file_text (directory name)) told) (λ t. t ≡ text) → IsShortText text → WithText told name text
has_file None name text same short = let file = file_of text short in record { directory = λ _. file.0; agrees = tt; is = file.1 }
has_file (Some d) name text same short = record { directory = d; agrees = refl; is = same }

-- ---- the file of a job

pub text_read : (told : Option Directory) (name : List ℕ) (text : FileText) → IfSome (option_map (λ directory. file_text (directory name)) told) (λ t. t ≡ text) → IfSome told (λ held. text ≡ file_text (held name))
text_read None name text same = tt
text_read (Some d) name text same = sym same

-- what holds whatever else there is, where the job's file has this text
pub for_text : (job : Job) (told : Option Directory) (text : FileText) (P : Option Question → Type 0) → IfSome (option_map (λ directory. file_text (directory job.file)) told) (λ t. t ≡ text)
    → ((d : Directory) → P (Some (OfFile job d text))) → OfJob job told P
for_text job told text P same all =
    record { directory = (any_files told).0; text = text; agrees = (any_files told).1; read = text_read told job.file text same; is = all (any_files told).0 }

own_text : (told : Option Directory) (name : List ℕ) → (text : FileText) × IfSome told (λ held. text ≡ file_text (held name))
own_text None name = (Absent, tt)
own_text (Some d) name = (file_text (d name), refl)

-- what holds of any text
pub for_job : (job : Job) (told : Option Directory) (P : Option Question → Type 0) → ((d : Directory) (text : FileText) → P (Some (OfFile job d text))) → OfJob job told P
for_job job told P all =
    let own = own_text told job.file in
    record { directory = (any_files told).0; text = own.0; agrees = (any_files told).1; read = own.1; is = all (any_files told).0 own.0 }
