-- Laws that belong to no one function.
pub mod TypingLaws
pub mod OperandLaws
