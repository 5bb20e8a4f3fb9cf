pub mod Carried
pub mod Crossing
pub mod Noted
pub mod Noting
pub mod Numbered
pub mod Still
pub mod Tabulated
