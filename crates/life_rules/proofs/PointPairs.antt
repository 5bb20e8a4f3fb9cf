-- What each two facts make wrong at a point, by what stands there.
use Rattle.std.proofs.Common.{◌≡◌, ℕ, List, Option, Some, None, option_map, subst, sym}
use Rattle.std.proofs.lemmas.Option.{same_Some}
use Rattle.life_types.specs.Types.{Types}
use Rattle.life_types.specs.declared.place.Place.{Place}
use Rattle.life_core.specs.Function.{Function}
use Rattle.life_core.specs.Operands.{Argument}
use Rattle.life_core.specs.Step.{Step}
use Rattle.life_core.specs.Tree.{Action, Node, Spot}
use Rattle.life_pset.specs.declared.element.Fact.{Fact}
use Rattle.life_contract.specs.Signatures.{Signature}
use Rattle.life_rules.specs.Arguing.{broken_by_two}
use Rattle.life_rules.specs.Callees.{with_types}
use Rattle.life_rules.specs.Diagnosing.{diags_of_two, node_diags_of_two, step_diags_of_two}
use Rattle.life_rules.specs.Pairs.{Adds, IsOfPair}
use Rattle.life_rules.specs.declared.diag.Diag.{Diag}

-- an instruction
pub at_step : (sigs : List Signature) (types : Types) (function : ℕ) (f : Function) (spot : Spot) (i : Step) (facts : List Fact) (before after : List Diag) → spot.node ≡ Action i → Adds (IsOfPair (step_diags_of_two sigs types function f spot.place i) facts) before after
    → Adds (IsOfPair (diags_of_two sigs types function f (Some spot)) facts) before after
at_step sigs types function f spot i facts before after is added = subst (λ (n : Node). Adds (IsOfPair (node_diags_of_two sigs types function f spot.place n) facts) before after) (sym is) added

-- a call, of the function with the signature that was found
pub at_call : (types found_types : Types) (function : ℕ) (f : Function) (place : Place) (callee : ℕ) (found : Signature) (told : Option Signature) (xs ys : List Argument) (facts : List Fact) (before after : List Diag) → Some (found, found_types) ≡ option_map (with_types types) told → ys ≡ xs
    → Adds (IsOfPair (broken_by_two found_types function f place callee (Some found) ys) facts) before after → Adds (IsOfPair (broken_by_two types function f place callee told xs) facts) before after
at_call types found_types function f place callee found None xs ys facts before after is same added = absurd (nothing is)
  where
    nothing : {A : Type 0} {x : A} → Some x ≡ None → ⊥
    nothing h = cc
at_call types found_types function f place callee found (Some sig) xs ys facts before after is same added =
    subst (λ (zs : List Argument). Adds (IsOfPair (broken_by_two types function f place callee (Some sig) zs) facts) before after) same
    (subst (λ (p : Signature × Types). Adds (IsOfPair (broken_by_two p.1 function f place callee (Some p.0) ys) facts) before after) (same_Some (found, found_types) (sig, types) is) added)
