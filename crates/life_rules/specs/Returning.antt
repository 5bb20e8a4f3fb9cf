-- What is wrong with a result.
use Rattle.std.specs.Prelude.{ℕ, Bool, false, cond, not, ◌&&◌, List, [], ◌++◌}
use Rattle.std.specs.List.{list_any}
use Rattle.life_types.specs.TypeTests.{is_pointer, is_raw}
use Rattle.life_types.specs.Types.{Types}
use Rattle.life_types.specs.declared.place.Place.{Place}
use Rattle.life_types.specs.declared.ty.Ty.{Ty}
use Rattle.life_core.specs.Function.{Function}
use Rattle.life_pset.specs.contracts.element.AbsPlacePartialEq.TheImpl.{ghosts as compared}
use Rattle.life_pset.specs.declared.element.AbsPlace.{AbsPlace}
use Rattle.life_pset.specs.declared.element.Element.{Element}
use Rattle.life_pset.specs.declared.element.Element.TheVariants as element
use Rattle.life_pset.specs.declared.element.Fact.{Fact}
use Rattle.life_contract.specs.Located.{is_rooted}
use Rattle.life_contract.specs.Promises.{admits_static, lists_null, promised_places, result_type}
use Rattle.life_contract.specs.Signatures.{Signature, signature_of}
use Rattle.life_rules.specs.Telling.{told}
use Rattle.life_rules.specs.Texts.{is_result}
use Rattle.life_rules.specs.declared.diag.Diag.{Diag}
use Rattle.life_rules.specs.declared.diag.DiagKind.TheVariants.{ReturnDangling, ReturnWidens}
use Rattle.life_rules.specs.declared.diag.Why.TheVariants as why

-- a result that is invalid, or has such a member
abbrev pub dangling_result : ℕ → Place → AbsPlace → Element → List Diag
dangling_result function place l (element.Invalid c) = told function place ReturnDangling l (why.Cause c)
dangling_result function place l _ = []

-- what a pointer of this type may not be by the promise
abbrev pub is_wide : Types → Signature → Ty → Element → Bool
is_wide types sig t element.Null = is_raw t && not (lists_null sig.promise)
is_wide types sig t element.Static = not (admits_static types sig t)
is_wide types sig t (element.At a) = not (list_any (λ b. compared.eq b a) (promised_places types sig t))
is_wide types sig t _ = false

abbrev pub widened_as : Types → Signature → ℕ → Place → AbsPlace → Ty → Element → List Diag
widened_as types sig function place l t e = cond (is_pointer t && is_wide types sig t e) (told function place ReturnWidens l (why.Points e)) []

abbrev pub widened_result : Types → Signature → ℕ → Place → AbsPlace → Element → List Diag
widened_result types sig function place l e = widened_as types sig function place l (result_type types sig l) e

abbrev pub return_diags : Types → ℕ → Function → Place → Fact → List Diag
return_diags types function f place fact =
    cond (is_result types f f.parameters && is_rooted f.parameters fact.location)
    (dangling_result function place fact.location fact.element ++ widened_result types (signature_of f) function place fact.location fact.element)
    []
