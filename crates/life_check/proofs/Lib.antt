pub mod Checking
pub mod ListedPrograms
pub mod OneFinding
pub mod PassedLimits
