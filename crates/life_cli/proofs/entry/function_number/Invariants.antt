use Rattle.std.proofs.Common.{◌≡◌, drop, map}
use Rattle.life_core.specs.Function.{function_of, name_bytes}
use Rattle.life_cli.specs.Entry.{number_from}
use Rattle.life_cli.proofs.entry.function_number.Given as goal

-- no function that was passed has the name
abbrev pub invariant-loop-number : goal.invariant-loop-number
invariant-loop-number l =
    number_from (map name_bytes l.names.texts.items) l.name l.number (drop l.number (map function_of l.functions))
    ≡ number_from (map name_bytes l.names.texts.items) l.name 0 (map function_of l.functions)
