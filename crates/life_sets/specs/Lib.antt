pub mod BitSets
pub mod Listed
pub mod NumberSets
pub mod PairSets
pub mod Pairs
