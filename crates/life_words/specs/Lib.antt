pub mod Numbers
pub mod Owning
