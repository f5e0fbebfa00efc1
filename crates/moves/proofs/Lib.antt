-- Laws that belong to no one function.
pub mod RenewLaws
pub mod GateLaws
pub mod ChangeLaws
pub mod FreshLaws
pub mod ColumnLaws
pub mod RunLaws
pub mod TouchLaws
pub mod WholeLaws
pub mod DemandLaws
pub mod ThroughLaws
