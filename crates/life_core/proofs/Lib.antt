pub mod EdgeLemmas
pub mod EntryLemmas
pub mod MemberLemmas
pub mod ReadyLemmas
pub mod ShapeLemmas
pub mod SpotLemmas
pub mod TouchedRows
pub mod WorkedRows
