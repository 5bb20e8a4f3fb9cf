pub mod EachInTurn
pub mod InTurn
pub mod Inside
pub mod SeenStatements
pub mod StatementAnswers
pub mod StatementMeanings
