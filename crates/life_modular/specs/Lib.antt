pub mod Modular
pub mod Renaming
pub mod Renumbering
pub mod Spelled
pub mod Vocabulary
