-- Laws that belong to no one function.
pub mod Weights
pub mod CutCosts
pub mod DigitCosts
pub mod RespeltLaws
pub mod SpokenLaws
pub mod HeaderLaws
pub mod StatementLaws
pub mod SaysAgain
pub mod NeverLonger
pub mod CleanLaws
