pub mod Checked
pub mod Environment
pub mod Found
pub mod Table
pub mod WrittenTypes
