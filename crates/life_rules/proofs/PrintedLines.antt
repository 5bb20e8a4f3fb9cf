-- The order of printed lines is that of what is seen of them.
use Rattle.std.proofs.Common.{◌≡◌, refl, ap}
use Rattle.std.specs.Cmp.Lexicographic.{slice_cmp}
use Rattle.std.specs.Ordering.{nat_cmp, ordering_then}
use Rattle.std.specs.declared.cmp.Ordering.{Ordering}
use Rattle.life_rules.specs.Lines.{kind_number, line_cmp, line_seen}
use Rattle.life_rules.specs.contracts.diag.DiagKindOrd.TheImpl.{ghosts as kind}
use Rattle.life_rules.specs.contracts.diag.PrintedLineOrd.TheImpl.{ghosts as printed}
use Rattle.life_rules.specs.declared.diag.DiagKind.{DiagKind}
use Rattle.life_rules.specs.declared.diag.DiagKind.TheVariants.{NullUse, DanglingUse, MovedUse, ArgNull, ArgDangling, ArgOverlap, ReturnDangling, ReturnWidens, KeepsBroken}
use Rattle.life_rules.specs.declared.diag.PrintedLine.{PrintedLine}

kind_cmp : (x y : DiagKind) → kind.cmp x y ≡ nat_cmp (kind_number x) (kind_number y)
kind_cmp NullUse NullUse = refl
kind_cmp NullUse _ = refl
kind_cmp DanglingUse NullUse = refl
kind_cmp DanglingUse _ = refl
kind_cmp MovedUse NullUse = refl
kind_cmp MovedUse _ = refl
kind_cmp ArgNull NullUse = refl
kind_cmp ArgNull _ = refl
kind_cmp ArgDangling NullUse = refl
kind_cmp ArgDangling _ = refl
kind_cmp ArgOverlap NullUse = refl
kind_cmp ArgOverlap _ = refl
kind_cmp ReturnDangling NullUse = refl
kind_cmp ReturnDangling _ = refl
kind_cmp ReturnWidens NullUse = refl
kind_cmp ReturnWidens _ = refl
kind_cmp KeepsBroken NullUse = refl
kind_cmp KeepsBroken _ = refl

pub printed_cmp : (x y : PrintedLine) → printed.cmp x y ≡ line_cmp (line_seen x) (line_seen y)
printed_cmp x y =
    ap (λ (o : Ordering). ordering_then (nat_cmp x.line y.line) (ordering_then (nat_cmp x.column y.column) (ordering_then o (ordering_then (slice_cmp nat_cmp x.name.items y.name.items) (slice_cmp nat_cmp x.why.items y.why.items)))))
    (kind_cmp x.kind y.kind)
