pub mod Expressions
pub mod Lists
pub mod Members
pub mod Named
pub mod Operands
pub mod TargetViews
