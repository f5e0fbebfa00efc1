pub mod Step
pub mod Gate
pub mod Change
pub mod Internal
pub mod Run
pub mod WholeRun
pub mod Through
