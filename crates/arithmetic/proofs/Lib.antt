-- Laws that belong to no one function.
pub mod Powers
pub mod PlaceLaws
pub mod SignedLaws
pub mod ModuloLaws
pub mod DivisionLaws
pub mod OrderLaws
pub mod RuleLaws
pub mod AlikeLaws
pub mod ResultLaws
pub mod ReadingLaws
pub mod NumberLaws
