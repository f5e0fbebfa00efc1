pub mod Tables
pub mod Hash
pub mod Names
pub mod Progress
