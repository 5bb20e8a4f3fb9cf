pub mod CopiedTo
pub mod MovedTo
