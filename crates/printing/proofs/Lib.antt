-- Laws that belong to no one function.
pub mod PlaceLaws
pub mod RowLaws
pub mod PartLaws
pub mod DigitLaws
pub mod DecimalLaws
pub mod CountLaws
pub mod OutputLaws
pub mod RefusalLaws
