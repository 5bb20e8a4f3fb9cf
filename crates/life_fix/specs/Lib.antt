pub mod Candidates
pub mod Finding
pub mod Programs
pub mod Solution
pub mod Solving
pub mod Told
