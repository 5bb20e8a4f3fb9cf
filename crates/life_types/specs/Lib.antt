pub mod Facts
pub mod Memory
pub mod Places
pub mod Pointees
pub mod Trees
pub mod TypeTests
pub mod Types
