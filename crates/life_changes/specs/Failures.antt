-- Why nothing came to life.
use Rattle.life_store.specs.declared.object.BirthFault.{BirthFault}
use Rattle.life_store.specs.declared.object.BirthFault.TheVariants as fault
use Rattle.life_store.specs.declared.run.TrapKind.TheVariants as trap
use Rattle.life_pointers.specs.declared.stop.Stop.TheVariants as stop
use Rattle.life_changes.specs.declared.failure.Failure.{Failure}
use Rattle.life_changes.specs.declared.failure.Failure.TheVariants as failure

abbrev pub unborn : BirthFault → Failure
unborn fault.Cells = failure.Stopped (stop.Trap trap.Cells)
unborn fault.NoMemory = failure.NoMemory
