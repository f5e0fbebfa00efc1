-- Laws that belong to no one function.
pub mod ConstantLaws
pub mod TakenLaws
pub mod VariableUseLaws
