-- Laws that belong to no one function.
pub mod KnownLaws
pub mod CheckingLaws
pub mod RepliesLaws
pub mod SatisfiedLaws
pub mod SameContentsLaws
pub mod ExampleLaws
pub mod CheckLaws
pub mod ReportLaws
pub mod ReportedLaws
