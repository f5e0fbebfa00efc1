pub mod File
pub mod TypeRules
pub mod Read
pub mod Sound
pub mod Refusals
