pub mod SetTexts
pub mod Sets
