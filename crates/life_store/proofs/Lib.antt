pub mod Ascending
pub mod Bodies
pub mod CellLemmas
pub mod CodeLemmas
pub mod Entering
pub mod Found
pub mod Going
pub mod Housing
pub mod LaidOut
pub mod MapLemmas
pub mod Onward
pub mod Past
pub mod RowLemmas
pub mod SlotLemmas
pub mod StoreLemmas
pub mod WholeLocals
mod Worked
mod WorkedCalls
mod WorkedOwners
mod WorkedValues
mod WorkedViews
