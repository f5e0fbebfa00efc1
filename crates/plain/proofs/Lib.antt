-- Laws that belong to no one function.
pub mod TokenLaws
pub mod OperatorLaws
pub mod LineLaws
pub mod KindLaws
pub mod OthersLaws
pub mod HeaderLaws
pub mod SaysLaws
pub mod SameContentsLaws
