pub mod Definitions
pub mod Elses
pub mod Fronts
pub mod Simples
pub mod Statements
