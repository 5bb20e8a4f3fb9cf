pub mod Branches
pub mod Grammar
pub mod Rules
pub mod Separated
pub mod Tree
pub mod Views
