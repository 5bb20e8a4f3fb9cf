pub mod Ends
pub mod ParsesTokens
pub mod Source
pub mod Tails
