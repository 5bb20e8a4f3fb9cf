pub mod Numbers
pub mod Steps
pub mod TypeMeanings
pub mod Views
