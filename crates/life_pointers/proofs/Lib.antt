pub mod Later
pub mod MeantSteps
pub mod Owning
pub mod Placing
pub mod Reading
pub mod Short
pub mod Validity
pub mod ViewedBytes
