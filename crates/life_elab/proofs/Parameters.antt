-- The parameters of a function, where there are no more locals.
use Rattle.std.proofs.Common.{◌≡◌, ◌≤◌, ℕ, List, [], ◌∷◌, drop, length, refl, sym, ap, ◌∙◌}
use Rattle.std.proofs.lemmas.List.{drop_all}
use Rattle.life_typed.specs.declared.typed_program.ParameterPromise.{ParameterPromise}
use Rattle.life_typed.specs.declared.typed_program.TypedLocal.{TypedLocal}
use Rattle.life_writer.specs.Around.{Around}
use Rattle.life_writer.specs.Writing.{State}
use Rattle.life_elab.specs.Functions.{with_parameters}

none_left : (a : Around) (ps : List ParameterPromise) (s : State) → with_parameters a ps [] s ≡ s
none_left a [] s = refl
none_left a (p ∷ ps) s = refl

pub no_locals : (a : Around) (ps : List ParameterPromise) (all locals : List TypedLocal) (n : ℕ) (s total : State) → length locals ≤ n → locals ≡ all
    → with_parameters a (drop n ps) (drop n all) s ≡ total → s ≡ total
no_locals a ps all locals n s total past are rest =
    sym (none_left a (drop n ps) s) ∙ ap (λ (vs : List TypedLocal). with_parameters a (drop n ps) vs s) (sym (drop_all n locals past) ∙ ap (drop n) are) ∙ rest
