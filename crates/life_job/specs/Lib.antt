pub mod Command
pub mod Job
pub mod Matched
pub mod Numbers
pub mod Refusals
pub mod Texts
pub mod Words
