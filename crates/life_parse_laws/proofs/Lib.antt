pub mod NamedFiles
