pub mod ProperFunctions
pub mod ProperPrograms
pub mod Served
