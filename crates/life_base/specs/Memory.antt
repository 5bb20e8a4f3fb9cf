-- Files in memory and a sink in memory, as contracts see them.
use Rattle.std.specs.Prelude.{ℕ, List, [], ◌∷◌, map, slice_get, Some, None, if◌then◌else◌, Vec, String, string_bytes}
use Rattle.std.specs.Str.{bytes_eq}
use Rattle.std.specs.Option.{option_map_or}
use Rattle.life_base.specs.Calls.{Calls}
use Rattle.life_base.specs.Edges.{Directory}

-- a name and the bytes of its file
abbrev pub NamedFile : Type 0
NamedFile = List ℕ × List ℕ

-- the files that a program's list has
abbrev pub named_files : {Y Z : Type 0} → List (String Y × Vec ℕ Z) → List NamedFile
named_files files = map (λ file. (string_bytes file.0, file.1.items)) files

-- the files as a directory: the first file of a name counts
abbrev pub directory_of : List NamedFile → Directory
directory_of [] name = None
directory_of (file ∷ files) name = if bytes_eq file.0 name then Some file.1 else directory_of files name

-- the bytes of the file with this number, none where there is no such file
abbrev pub bytes_at : List NamedFile → ℕ → List ℕ
bytes_at files number = option_map_or (λ file. file.1) (slice_get files number) []

-- the files, what is left of the one that was started, the most that a read gives, and the calls
pub record FilesInMemory : Type 0 where
  pub files : List NamedFile
  pub rest : List ℕ
  pub most : ℕ
  pub calls : Calls

-- the bytes that were taken, how many more fit, the most that a write takes, and the calls
pub record SinkInMemory : Type 0 where
  pub held : List ℕ
  pub room : ℕ
  pub most : ℕ
  pub calls : Calls
