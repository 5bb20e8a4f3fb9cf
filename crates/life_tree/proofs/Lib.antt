pub mod SeparatedTrees
