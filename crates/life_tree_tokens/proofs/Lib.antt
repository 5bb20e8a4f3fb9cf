pub mod BranchKeys
pub mod SeparatedKeys
pub mod Written
