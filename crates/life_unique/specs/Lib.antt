pub mod SettledDeclarations
pub mod SettledExpressions
pub mod SettledPrograms
pub mod SettledSimples
pub mod SettledStatements
pub mod SettledTypes
pub mod Standing
