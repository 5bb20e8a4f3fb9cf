pub mod Deciding
pub mod OwnSlots
pub mod Results
