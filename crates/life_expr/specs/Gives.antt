-- How reading goes, which nobody need believe: what a function of the program returned, against what reading on lists gives.
use Rattle.std.specs.Prelude.{◌≡◌, Result, Ok, Err}
use Rattle.life_expr.specs.declared.stop.Stop.{Stop as Fault}
use Rattle.life_expr.specs.declared.stop.Stop.TheVariants as faults
use Rattle.life_expr.specs.Read.{Stop, refused, deep}

-- Memory ran out, or reading stops in the same way.
abbrev pub Fails : {Y : Type 0} → Fault → Result Y Stop → Type 0
Fails faults.Memory read = Unit {0}
Fails (faults.Refused r) read = read ≡ Err (refused r.now)
Fails (faults.Deep r) read = read ≡ Err (deep r.now)

-- What was returned, seen by view, is what reading gives, unless memory ran out.
abbrev pub Gives : {X Y : Type 0} → (X → Y) → Result X Fault → Result Y Stop → Type 0
Gives view (Ok x) read = read ≡ Ok (view x)
Gives view (Err e) read = Fails e read
