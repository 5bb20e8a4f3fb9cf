pub mod Breaks
pub mod Facts
