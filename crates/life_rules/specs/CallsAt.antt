-- What is wrong with the arguments of a call, where the call is one value.
use Rattle.std.specs.Prelude.{List, map}
use Rattle.life_core.specs.Function.{function_of}
use Rattle.life_core.specs.Operands.{argument_of}
use Rattle.life_pset.specs.Elements.{Input}
use Rattle.life_pset.specs.declared.element.Fact.{Fact}
use Rattle.life_rules.specs.Arguing.{broken_at, moved_at, overlapping_at}
use Rattle.life_rules.specs.declared.arguing.CallAt.{CallAt}
use Rattle.life_rules.specs.declared.diag.Diag.{Diag}

abbrev pub broken_in : CallAt → Fact → Input → List Diag
broken_in c fact = broken_at c.callee.now.types.now c.at.now.function c.at.now.spot.place c.number c.callee.now.sig.now (map argument_of c.arguments.now) fact

abbrev pub moved_in : CallAt → (argument owner : Fact) → Input → List Diag
moved_in c argument owner =
    moved_at c.callee.now.types.now c.at.now.function (function_of c.at.now.f.now) c.at.now.spot.place c.number (map argument_of c.arguments.now) argument owner

abbrev pub overlapping_in : CallAt → (first second : Fact) → (i j : Input) → List Diag
overlapping_in c first second =
    overlapping_at c.callee.now.types.now c.at.now.function c.at.now.spot.place c.number c.callee.now.sig.now (map argument_of c.arguments.now) first second
