pub mod CheckedText
pub mod Faults
pub mod Findings
pub mod Laws
pub mod Steps
