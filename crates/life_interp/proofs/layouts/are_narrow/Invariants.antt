use Rattle.std.proofs.Common.{◌≡◌, drop}
use Rattle.std.specs.List.{list_all}
use Rattle.life_interp.specs.Layouts.{is_narrow}
use Rattle.life_interp.proofs.layouts.are_narrow.Given as goal

-- what is left decides
abbrev pub invariant-loop-layout : goal.invariant-loop-layout
invariant-loop-layout l = list_all is_narrow (drop l.layout-index l.layouts) ≡ list_all is_narrow l.layouts
