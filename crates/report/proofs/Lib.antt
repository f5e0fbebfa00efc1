-- Laws that belong to no one function.
pub mod ReportLaws
pub mod CaseLaws
pub mod PrintedLaws
