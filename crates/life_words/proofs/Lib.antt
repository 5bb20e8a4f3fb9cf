pub mod Owning
pub mod Renaming
pub mod Rowing
pub mod Sized
pub mod Writing
