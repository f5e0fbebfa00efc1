-- Laws that belong to no one function.
pub mod JoinedLaws
pub mod TokenLaws
pub mod LineLaws
pub mod TextLaws
pub mod WidthLaws
pub mod CallLaws
pub mod ClaimLaws
