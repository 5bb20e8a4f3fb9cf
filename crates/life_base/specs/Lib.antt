pub mod Causes
pub mod Edges
pub mod Calls
pub mod Memory
pub mod Pieces
