pub mod Verdict
pub mod Judge
pub mod InUse
pub mod Claims
pub mod Fitting
