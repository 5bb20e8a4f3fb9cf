-- Why the work stopped, after a file was not read.
use Rattle.life_base.specs.declared.pieces.ReadError.{ReadError}
use Rattle.life_base.specs.declared.pieces.ReadError.TheVariants as read_error
use Rattle.life_cli.specs.declared.stop.Stop.{Stop}
use Rattle.life_cli.specs.declared.stop.Stop.TheVariants.{NoMemory, ReadFault}

abbrev pub stop_of : ReadError → Stop
stop_of read_error.Failed = ReadFault
stop_of read_error.NoMemory = NoMemory
