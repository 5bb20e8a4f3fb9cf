pub mod FactLemmas
pub mod Numbers
pub mod TreeLemmas
