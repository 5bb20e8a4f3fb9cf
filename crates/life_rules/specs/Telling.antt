-- How something is told that is wrong.
use Rattle.std.specs.Prelude.{ℕ, List, [], ◌∷◌, Some, None}
use Rattle.life_types.specs.declared.place.Place.{Place}
use Rattle.life_pset.specs.declared.element.AbsPlace.{AbsPlace}
use Rattle.life_rules.specs.declared.diag.Diag.{Diag}
use Rattle.life_rules.specs.declared.diag.DiagKind.{DiagKind}
use Rattle.life_rules.specs.declared.diag.Why.{Why}

-- of a location of the function
abbrev pub told : ℕ → Place → DiagKind → AbsPlace → Why → List Diag
told function place kind l why = record { function = function; place = place; kind = kind; name = l; called = None; why = why } ∷ []

-- .. of a location of a parameter of the function that is called
abbrev pub told_of : ℕ → Place → (callee : ℕ) → DiagKind → AbsPlace → Why → List Diag
told_of function place g kind l why = record { function = function; place = place; kind = kind; name = l; called = Some g; why = why } ∷ []
