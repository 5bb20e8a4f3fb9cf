pub mod Alternatives
pub mod CallLemmas
pub mod ChainLemmas
pub mod FormLemmas
pub mod ListLemmas
pub mod Meanings
pub mod OperandLemmas
