-- Laws that belong to no one function.
pub mod EachLaws
pub mod AllowedLinesLaws
pub mod VariableLaws
pub mod NamedLaws
pub mod TokenLaws
pub mod SpacedLaws
pub mod DeclarationLaws
pub mod OperationLaws
pub mod SoundLaws
pub mod WithinLaws
pub mod FileRefusesLaws
