-- The diagnostics of a program's functions, one function after the other, beside the lines that they print.
use Rattle.std.proofs.Common.{◌≡◌, ◌↔◌, ◌<◌, ◌≤◌, ℕ, ◌+◌, arith, refl, ap, sym, ◌∙◌, inl, inr, subst, List, [], ◌++◌, length, map, Option, Some, Contains, slice_get}
use Rattle.std.proofs.lemmas.Bool.{cases_eq}
use Rattle.std.proofs.lemmas.List.{map-append}
use Rattle.std.proofs.lemmas.List.Elements.{Contains-append_cases, Contains-append_left, Contains-append_right}
use Rattle.std.proofs.lemmas.Option.{slice_get_within}
use Rattle.life_core.specs.Function.{Function, Program}
use Rattle.life_contract.specs.Signatures.{signatures_of}
use Rattle.life_pset.proofs.Members.{none_in_empty}
use Rattle.life_rules.proofs.OneFunction.{map_same, own_function}
use Rattle.life_rules.specs.Diagnosing.{IsDiagnosed}
use Rattle.life_rules.specs.Lines.{line_of}
use Rattle.life_rules.specs.Listing.{IsProgramDiagnosed, line_in, program_line}
use Rattle.life_rules.specs.Texts.{naming_in}
use Rattle.life_rules.specs.declared.diag.Diag.{Diag}
use Rattle.life_fix.specs.Candidates.{Lined, lined}
use Rattle.life_fix.specs.Programs.{AddsDiagnosed}

-- it is diagnosed in one of the first k functions
abbrev pub IsDiagnosedUpTo : Program → ℕ → Diag → Type 0
IsDiagnosedUpTo p k d = (i : ℕ) × ((i < k) × ((f : Function) × ((slice_get p.functions i ≡ Some f) × IsDiagnosed (signatures_of p.functions) p.types i f d)))

-- these lines are those of what is diagnosed there
pub record AreFoundIn (IsFound : Diag → Type 0) (p : Program) (lines : List Lined) : Type 0 where
  pub found : List Diag
  pub all : (d : Diag) → Contains found d ↔ IsFound d
  pub are : lines ≡ map (lined (program_line p)) found

none_before : (i : ℕ) → i < 0 → ⊥
none_before i lt = omega (arith, lt)

pub found_in_none : (p : Program) → AreFoundIn (IsDiagnosedUpTo p 0) p []
found_in_none p = record {
  found = [];
  all = λ d. (λ h. absurd (none_in_empty d h), λ h. absurd (none_before h.0 h.1.0));
  are = refl;
}

one_of : {f g : Function} → Some f ≡ Some g → f ≡ g
one_of h = cc

-- the next function
pub found_in_next : (p : Program) (k : ℕ) (f : Function) (before after : List Lined) → slice_get p.functions k ≡ Some f → AddsDiagnosed (naming_in p) p.types k f before after
    → AreFoundIn (IsDiagnosedUpTo p k) p before → AreFoundIn (IsDiagnosedUpTo p (k + 1)) p after
found_in_next p k f before after at adds was = record {
  found = was.found ++ adds.found;
  all = λ d. (forth d, back d);
  are = adds.behind ∙ ap (λ (ls : List Lined). ls ++ map (lined (line_of (naming_in p) p.types f)) adds.found) was.are
      ∙ ap (λ (ls : List Lined). map (lined (program_line p)) was.found ++ ls) (map_same (lined (line_of (naming_in p) p.types f)) (lined (program_line p)) adds.found same_line)
      ∙ sym (map-append (lined (program_line p)) was.found adds.found);
}
  where
    same_line : (d : Diag) → Contains adds.found d → lined (line_of (naming_in p) p.types f) d ≡ lined (program_line p) d
    same_line d h =
        let own : d.function ≡ k = own_function (signatures_of p.functions) p.types k f d ((adds.all d).0 h) in
        sym (ap (λ (o : Option Function). lined (line_in p o) d) (ap (slice_get p.functions) own ∙ at))

    forth : (d : Diag) → Contains (was.found ++ adds.found) d → IsDiagnosedUpTo p (k + 1) d
    forth d h =
        elim (Contains-append_cases was.found adds.found d h) [
          | inl old ↦ let r = (was.all d).0 old in (r.0, (omega (arith, r.1.0), r.1.1))
          | inr new ↦ (k, (omega arith, (f, (at, (adds.all d).0 new))))
        ]

    back : (d : Diag) → IsDiagnosedUpTo p (k + 1) d → Contains (was.found ++ adds.found) d
    back d h =
        elim (cases_eq h.0 k) [
          | inl here ↦
              let same : h.1.1.0 ≡ f = one_of (sym h.1.1.1.0 ∙ ap (slice_get p.functions) here ∙ at) in
              let mine : IsDiagnosed (signatures_of p.functions) p.types k f d = subst (λ (g : Function). IsDiagnosed (signatures_of p.functions) p.types k g d) same (subst (λ (i : ℕ). IsDiagnosed (signatures_of p.functions) p.types i h.1.1.0 d) here h.1.1.1.1) in
              Contains-append_right was.found adds.found d ((adds.all d).1 mine)
          | inr other ↦ Contains-append_left was.found adds.found d ((was.all d).1 (h.0, (omega (arith, h.1.0, other), h.1.1)))
        ]

-- .. and all of them
pub found_in_all : (p : Program) (k : ℕ) (lines : List Lined) → length p.functions ≤ k → AreFoundIn (IsDiagnosedUpTo p k) p lines → AreFoundIn (IsProgramDiagnosed p) p lines
found_in_all p k lines past was = record {
  found = was.found;
  all = λ d. (
    λ h.
        let r = (was.all d).0 h in
        let own : d.function ≡ r.0 = own_function (signatures_of p.functions) p.types r.0 r.1.1.0 d r.1.1.1.1 in
        (r.1.1.0, (ap (slice_get p.functions) own ∙ r.1.1.1.0, subst (λ (i : ℕ). IsDiagnosed (signatures_of p.functions) p.types i r.1.1.0 d) (sym own) r.1.1.1.1)),
    λ h. (was.all d).1 (d.function, (omega (arith, past, slice_get_within p.functions d.function h.0 h.1.0), h)),
  );
  are = was.are;
}
