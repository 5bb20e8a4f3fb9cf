use Rattle.std.proofs.Common.{◌≡◌, ◌&&◌, drop, map}
use Rattle.std.specs.Prelude.{flat_map}
use Rattle.life_core.specs.Function.{function_of}
use Rattle.life_core.specs.Operands.{argument_of}
use Rattle.life_core.specs.Touched.{argument_leaves}
use Rattle.life_proper.specs.declared.known.Known.TheVariants as known
use Rattle.life_proper.specs.ReadyKnown.{can_leave, set_known}
use Rattle.life_proper.proofs.passing.give_all.Given as goal

-- what is gone and what is left
abbrev pub invariant-loop-argument : goal.invariant-loop-argument
invariant-loop-argument l =
    let left = flat_map (argument_leaves (function_of l.f)) (map argument_of (drop l.argument-index l.arguments)) in
    let all = flat_map (argument_leaves (function_of l.f)) (map argument_of l.arguments) in
    record {
      ready : (l.ready && can_leave l.known.items left) ≡ can_leave l.fn.known.items all;
      known : set_known known.Blank left l.known.items ≡ set_known known.Blank all l.fn.known.items;
    }
