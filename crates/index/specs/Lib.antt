pub mod Select
pub mod Index
pub mod AnyIndex
pub mod Claims
pub mod Internal
