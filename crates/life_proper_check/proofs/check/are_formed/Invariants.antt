use Rattle.std.proofs.Common.{◌≡◌, drop, length, map}
use Rattle.std.specs.List.{list_all}
use Rattle.life_core.specs.Function.{function_of}
use Rattle.life_proper_check.specs.Deciding.{is_formed_function}
use Rattle.life_proper_check.proofs.check.are_formed.Given as goal

-- what is left decides
abbrev pub invariant-loop-f : goal.invariant-loop-f
invariant-loop-f l =
    let test = is_formed_function l.p.types (length l.p.names.texts.items) (length l.p.texts.items) (map function_of l.p.functions.items) in
    list_all test (map function_of (drop l.f-index l.p.functions.items)) ≡ list_all test (map function_of l.p.functions.items)
