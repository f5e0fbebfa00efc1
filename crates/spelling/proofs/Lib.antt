-- Laws that belong to no one function.
pub mod SpeltLaws
pub mod SymbolLaws
pub mod ReservedLaws
pub mod SpellsLaws
