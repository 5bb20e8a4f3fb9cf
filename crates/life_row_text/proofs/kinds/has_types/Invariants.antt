use Rattle.life_types.specs.Types.{HasTypes}
use Rattle.std.proofs.Common.{◌↔◌, drop}
use Rattle.life_row_text.proofs.kinds.has_types.Given as goal

-- what is left decides
abbrev pub invariant-loop-id : goal.invariant-loop-id
invariant-loop-id l = HasTypes l.types (drop l.id-index l.ids) ↔ HasTypes l.types l.ids
