pub mod Clean
pub mod Claims
pub mod Widths
pub mod Front
