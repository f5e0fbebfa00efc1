pub mod Check
pub mod Report
pub mod Replies
pub mod Internal
pub mod Claims
