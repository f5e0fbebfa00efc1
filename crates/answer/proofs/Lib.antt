-- Laws that belong to no one function.
pub mod EntryLaws
pub mod SolutionLaws
pub mod SettingLaws
pub mod SettingValueLaws
pub mod ValueLaws
pub mod ReaderLaws
pub mod CallLaws
pub mod SettingTokenLaws
pub mod SettingsListLaws
pub mod SolutionLineLaws
pub mod LineKindLaws
pub mod AcceptedLinesLaws
pub mod OnceLaws
pub mod AcceptsLaws
pub mod SameContentsLaws
pub mod FitLaws
pub mod AnswerRefusesLaws
