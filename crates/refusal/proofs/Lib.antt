-- Laws that belong to no one function.
pub mod ResultLaws
pub mod ListLaws
pub mod BoolLaws
pub mod RefusesLaws
pub mod EndsLaws
pub mod OneOfLaws
pub mod ManyLaws
