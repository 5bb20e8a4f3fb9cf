pub mod States
pub mod Worked
