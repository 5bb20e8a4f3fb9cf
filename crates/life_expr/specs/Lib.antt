pub mod Exprs
pub mod Gives
pub mod Heads
pub mod Read
pub mod Readers
pub mod Types
