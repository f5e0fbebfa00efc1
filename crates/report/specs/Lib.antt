pub mod Text
pub mod Write
pub mod Claims
