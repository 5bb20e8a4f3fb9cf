pub mod Below
pub mod Chained
pub mod ExprShrinks
pub mod Loop
pub mod Shrinks
pub mod WorkedExpr
