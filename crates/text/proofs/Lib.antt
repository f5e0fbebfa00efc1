-- Laws that belong to no one function.
pub mod RunLaws
pub mod ScanLaws
pub mod StopLaws
pub mod SeenLaws
pub mod ContentLaws
pub mod EndingLaws
pub mod LineLaws
pub mod TokenLaws
pub mod NumberLaws
pub mod NameLaws
pub mod CompareLaws
pub mod AppendLaws
pub mod FoundLineLaws
pub mod ReadingLaws
pub mod TypeLaws
pub mod PartLaws
pub mod FirstByteLaws
