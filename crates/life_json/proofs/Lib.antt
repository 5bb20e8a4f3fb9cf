pub mod ListedJson
pub mod NoFloats
