-- The files from a place on as a directory, and what a read moves.
use Rattle.std.proofs.Common.{◌≡◌, ◌+◌, ◌≤◌, ◌<◌, ◌++◌, ◌-◌, min, ℕ, List, [], ◌∷◌, Vec, String, None, Some, string_bytes, length, take, drop, refl, zero, suc, ap, sym, ◌∙◌, arith, add-one, add-zero, true, false, length-append, length-drop}
use Rattle.std.proofs.lemmas.List.{take-append-drop, drop-drop, drop_all, take_at, length-take, nil_from_length}
use Rattle.std.proofs.lemmas.Option.{slice_get-map}
use Rattle.std.specs.Prelude.{slice_get, option_map, if◌then◌else◌}
use Rattle.std.specs.Str.{bytes_eq}
use Rattle.life_base.specs.Memory.{bytes_at, directory_of, named_files, NamedFile}

directory_step : (files : List NamedFile) (i : ℕ) (file : NamedFile) (name : List ℕ) → slice_get files i ≡ Some file
    → directory_of (drop i files) name ≡ (if bytes_eq file.0 name then Some file.1 else directory_of (drop (suc i) files) name)
directory_step [] i file name here = cc
directory_step (x ∷ xs) zero file name here = let same : x ≡ file = cc in
    ap (λ (f : NamedFile). if bytes_eq f.0 name then Some f.1 else directory_of xs name) same
directory_step (x ∷ xs) (suc i) file name here = directory_step xs i file name here

module _ {Y Z : Type 0} (files : List (String Y × Vec ℕ Z)) (i : ℕ) where
  named_get : slice_get (named_files files) i ≡ option_map (λ (f : String Y × Vec ℕ Z). (string_bytes f.0, f.1.items)) (slice_get files i)
  named_get = slice_get-map (λ (f : String Y × Vec ℕ Z). (string_bytes f.0, f.1.items)) files i

  -- past the end of a file, and where there is no file, nothing is left
  pub nothing_past : (file : String Y × Vec ℕ Z) (at : ℕ) → slice_get files i ≡ Some file → length file.1.items ≤ at → drop at (bytes_at (named_files files) i) ≡ []
  nothing_past file at here past = rw (named_get, here) (drop_all at file.1.items past)

  pub nothing_absent : (at : ℕ) → slice_get files i ≡ None → drop at (bytes_at (named_files files) i) ≡ []
  nothing_absent at absent = rw (named_get, absent) (drop_all at [] (omega arith))

module _ {Y Z : Type 0} (files : List (String Y × Vec ℕ Z)) (i : ℕ) (file : String Y × Vec ℕ Z) (name : List ℕ) (here : slice_get files i ≡ Some file) where
  named_here : slice_get (named_files files) i ≡ Some (string_bytes file.0, file.1.items)
  named_here = named_get files i ∙ ap (option_map (λ (f : String Y × Vec ℕ Z). (string_bytes f.0, f.1.items))) here

  -- a file of the name is what a directory answers
  pub directory_here : bytes_eq (string_bytes file.0) name ≡ true → directory_of (drop i (named_files files)) name ≡ directory_of (named_files files) name
      → directory_of (named_files files) name ≡ Some (bytes_at (named_files files) i)
  directory_here is passed = sym passed ∙ directory_step (named_files files) i _ name named_here ∙ rw (is, named_here) refl

  -- a file of another name is passed over
  pub directory_past : bytes_eq (string_bytes file.0) name ≡ false → directory_of (drop i (named_files files)) name ≡ directory_of (named_files files) name
      → directory_of (drop (i + 1) (named_files files)) name ≡ directory_of (named_files files) name
  directory_past is passed = rw add-one
      (let step : directory_of (drop i (named_files files)) name ≡ directory_of (drop (suc i) (named_files files)) name = directory_step (named_files files) i _ name named_here ∙ rw is refl in sym step ∙ passed)

-- a read takes the front of what is left
pub read_moves : (bytes into moved rest : List ℕ) (at n : ℕ) → rest ≡ drop at bytes → moved ≡ take n rest → n ≤ length rest
    → drop at bytes ≡ take n (moved ++ drop n into) ++ drop (at + n) bytes
read_moves bytes into moved rest at n r m le =
    let len : length moved ≡ n = rw m (omega (arith, length-take {A = ℕ})) in
    rw (take_at moved (drop n into) n len, m, r) (sym (take-append-drop n (drop at bytes)) ∙ ap (λ l. take n (drop at bytes) ++ l) (drop-drop n at bytes))

-- a read with room that moves nothing is at the end
pub read_ends : (bytes into moved rest : List ℕ) (at n most : ℕ) → rest ≡ drop at bytes → moved ≡ take n rest → 1 ≤ most
    → n ≡ min (min (length into) most) (length rest) → n ≡ 0 → 0 < length (moved ++ drop n into) → drop (at + n) bytes ≡ []
read_ends bytes into moved rest at n most r m some is none room =
    let room' : 0 < length moved + (length into - n) = omega (arith, length-append moved (drop n into), length-drop n into) in
    let small : length moved ≤ n = rw m (omega (arith, length-take {A = ℕ})) in
    let empty : length (drop at bytes) ≡ 0 = rw (← r) (omega arith) in
    rw none (rw add-zero (nil_from_length _ empty))
