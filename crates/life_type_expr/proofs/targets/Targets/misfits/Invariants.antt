use Rattle.std.proofs.Common.{◌≡◌, drop, map}
use Rattle.life_typed.specs.TypedForm.{typed_view}
use Rattle.life_type_expr.specs.Lists.{misfits}
use Rattle.life_type_expr.specs.TargetViews.{targets_view}
use Rattle.life_type_expr.proofs.targets.Targets.misfits.Given as goal

abbrev pub invariant-list : goal.invariant-list
invariant-list l =
    misfits l.general (targets_view l.self) l.types l.lowest l.number (map typed_view (drop l.number l.fn.list))
    ≡ misfits l.general (targets_view l.self) l.types l.initial.lowest 0 (map typed_view l.fn.list)
