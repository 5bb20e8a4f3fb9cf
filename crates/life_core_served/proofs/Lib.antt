pub mod PlainCalls
pub mod PointsAsked
pub mod ServedLocals
