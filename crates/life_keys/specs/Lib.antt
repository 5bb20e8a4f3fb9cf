pub mod Keys
pub mod NamedTokens
pub mod Values
pub mod Words
