-- Laws that belong to no one function.
pub mod ListLaws
pub mod SettingLaws
pub mod LoopLaws
pub mod AnswerLaws
pub mod PrintableLaws
pub mod PrintedLines
pub mod PrintedTokens
pub mod TextSets
pub mod WritingLaws
pub mod RoundTripLaws
pub mod SatisfiesLaws
