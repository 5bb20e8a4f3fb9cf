pub mod Behind
pub mod Characters
pub mod Copied
pub mod Copyable
pub mod Given
pub mod Grown
pub mod Operands
pub mod Steps
