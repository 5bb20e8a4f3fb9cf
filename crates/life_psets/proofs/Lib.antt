pub mod Adding
pub mod InTurn
pub mod Numbered
pub mod OneTable
pub mod Tables
