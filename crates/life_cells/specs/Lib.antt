pub mod Asked
pub mod Cells
pub mod Compared
pub mod Fits
pub mod Owners
pub mod Scopes
pub mod Steps
pub mod Typed
