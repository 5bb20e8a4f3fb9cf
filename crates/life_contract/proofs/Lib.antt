pub mod LookUps
pub mod OuterPlaces
