pub mod Inspect
pub mod Edges
