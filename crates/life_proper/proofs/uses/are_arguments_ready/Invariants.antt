use Rattle.std.proofs.Common.{◌≡◌, drop, map}
use Rattle.std.specs.Prelude.{flat_map}
use Rattle.life_core.specs.Function.{function_of}
use Rattle.life_core.specs.Operands.{argument_of}
use Rattle.life_core.specs.Touched.{argument_uses}
use Rattle.life_proper.specs.declared.known.Known.TheVariants as known
use Rattle.life_proper.specs.ReadyKnown.{are_known}
use Rattle.life_proper.proofs.uses.are_arguments_ready.Given as goal

-- what is left decides
abbrev pub invariant-loop-argument : goal.invariant-loop-argument
invariant-loop-argument l =
    are_known known.Ready l.known (flat_map (argument_uses (function_of l.f)) (map argument_of (drop l.argument-index l.arguments)))
    ≡ are_known known.Ready l.known (flat_map (argument_uses (function_of l.f)) (map argument_of l.arguments))
