pub mod Operators
pub mod Internal
pub mod Claims
