pub mod Housed
pub mod Kinds
pub mod Mapped
pub mod Named
pub mod Owned
pub mod Rowed
pub mod Seen
