pub mod Digits
pub mod Interned
pub mod KeyedSteps
pub mod WordNumbers
