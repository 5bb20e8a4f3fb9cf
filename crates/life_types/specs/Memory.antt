-- The want of memory as a value.
use Rattle.life_types.specs.declared.memory.NoMemory.{NoMemory}

abbrev pub no_memory : NoMemory
no_memory = record {}
