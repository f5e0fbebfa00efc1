-- Laws that belong to no one function.
pub mod HeadLaws
pub mod UnfitLaws
pub mod RuleLaws
pub mod FitLaws
pub mod VerdictLaws
pub mod ResultLaws
pub mod OverallLaws
pub mod HeldLaws
pub mod RoomLaws
