pub mod Digits
pub mod Room
pub mod Parts
pub mod Output
pub mod RefusalText
