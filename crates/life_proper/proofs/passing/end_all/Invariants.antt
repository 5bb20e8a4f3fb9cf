use Rattle.std.proofs.Common.{◌≡◌, ◌&&◌, drop}
use Rattle.life_proper.specs.declared.known.Known.TheVariants as known
use Rattle.life_proper.specs.ReadyKnown.{can_leave, set_known}
use Rattle.life_proper.proofs.passing.end_all.Given as goal

-- what is gone and what is left
abbrev pub invariant-loop-x : goal.invariant-loop-x
invariant-loop-x l = record {
  ready : (l.ready && can_leave l.known.items (drop l.x-index l.locals)) ≡ can_leave l.fn.known.items l.locals;
  known : set_known known.Blank (drop l.x-index l.locals) l.known.items ≡ set_known known.Blank l.locals l.fn.known.items;
}
