-- The function of a name, and whether a run may begin with it.
use Rattle.std.proofs.Common.{◌≡◌, ◌+◌, ℕ, zero, suc, Bool, true, false, cond, List, [], ◌∷◌, Some, map, drop, sym, ap, subst, ◌∙◌, add-one}
use Rattle.std.specs.Prelude.{slice_get, option_map}
use Rattle.std.proofs.lemmas.Option.{slice_get-map}
use Rattle.life_core.specs.Function.{Function, Program, function_of}
use Rattle.life_core.specs.declared.program.CoreFn.{CoreFn}
use Rattle.life_cli.specs.Entry.{Begins, IsEntry, IsEntryAt, NotValue, entry_at, entry_numbered, entry_of, function_number, is_named, number_from}
use Rattle.life_cli.specs.declared.entry.Entry.{Entry as Found}
use Rattle.life_cli.specs.declared.entry.Entry.TheVariants as found

module _ (names : List (List ℕ)) (text : List ℕ) where
  number_step : (fs : List Function) (n i : ℕ) (f : Function) → slice_get fs i ≡ Some f
      → number_from names text n (drop i fs) ≡ cond (is_named names text f) (Some n) (number_from names text (n + 1) (drop (suc i) fs))
  number_step [] n i f here = cc
  number_step (x ∷ xs) n zero f here = let same : x ≡ f = cc in
      ap (λ (g : Function). cond (is_named names text g) (Some n) (number_from names text (n + 1) xs)) same
  number_step (x ∷ xs) n (suc i) f here = number_step xs n i f here

  module _ (fs : List CoreFn) (i : ℕ) (f : CoreFn) (here : slice_get fs i ≡ Some f) where
    seen_here : slice_get (map function_of fs) i ≡ Some (function_of f)
    seen_here = slice_get-map function_of fs i ∙ ap (option_map function_of) here

    -- a function of the name is the first
    pub named_here : is_named names text (function_of f) ≡ true → number_from names text i (drop i (map function_of fs)) ≡ number_from names text 0 (map function_of fs)
        → Some i ≡ number_from names text 0 (map function_of fs)
    named_here is passed = sym (number_step (map function_of fs) i i (function_of f) seen_here ∙ ap (λ (b : Bool). cond b (Some i) (number_from names text (i + 1) (drop (suc i) (map function_of fs)))) is) ∙ passed

    -- one of another name is passed over
    pub named_past : is_named names text (function_of f) ≡ false → number_from names text i (drop i (map function_of fs)) ≡ number_from names text 0 (map function_of fs)
        → number_from names text (i + 1) (drop (i + 1) (map function_of fs)) ≡ number_from names text 0 (map function_of fs)
    named_past is passed =
        let step : number_from names text i (drop i (map function_of fs)) ≡ number_from names text (i + 1) (drop (suc i) (map function_of fs)) =
        number_step (map function_of fs) i i (function_of f) seen_here ∙ ap (λ (b : Bool). cond b (Some i) (number_from names text (i + 1) (drop (suc i) (map function_of fs)))) is in
        let along : drop (i + 1) (map function_of fs) ≡ drop (suc i) (map function_of fs) = ap (λ (k : ℕ). drop k (map function_of fs)) (add-one i) in
        ap (number_from names text (i + 1)) along ∙ sym step ∙ passed

-- ---- the entry

by_test : (p : Program) (n : ℕ) (f : Function) (got : Found) → slice_get p.functions n ≡ Some f → IsEntryAt p.types n f got → IsEntry p (entry_at p.types n (Some f)) got
by_test p n f found.Absent there at = absurd at
by_test p n f found.NotValue there at = ap (λ (b : Bool). cond b (Begins n f) NotValue) at
by_test p n f (found.Begins number parameters) there at =
    (f, (ap (λ (b : Bool). cond b (Begins n f) NotValue) at.0 ∙ ap (λ (k : ℕ). Begins k f) (sym at.1.0), (ap (slice_get p.functions) at.1.0 ∙ there, (sym at.1.1, at.0))))

-- what is found at the function of the name is the entry
pub entry_found : (p : Program) (text : List ℕ) (n : ℕ) (f : Function) (got : Found) → Some n ≡ function_number p text → slice_get p.functions n ≡ Some f → IsEntryAt p.types n f got
    → IsEntry p (entry_of p text) got
entry_found p text n f got is there at =
    subst (λ o. IsEntry p (entry_numbered p o) got) is
    (subst (λ o. IsEntry p (entry_at p.types n o) got) (sym there) (by_test p n f got there at))
