use Rattle.std.proofs.Common.{drop, map}
use Rattle.life_core.specs.Holdings.{sort_of_local}
use Rattle.life_store.specs.Meaning.{AreObjects}
use Rattle.life_run_rows.proofs.entry.are_objects.Given as goal

-- what is left decides
abbrev pub invariant-loop-local : goal.invariant-loop-local
invariant-loop-local l = AreObjects (map (sort_of_local l.types) (drop l.local-index l.locals)) → AreObjects (map (sort_of_local l.types) l.locals)
