pub mod CandidateLemmas
pub mod CountLemmas
pub mod Members
pub mod Numbering
pub mod Numbers
