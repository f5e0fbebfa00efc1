-- Laws that belong to no one function.
pub mod TableLaws
pub mod LineTableLaws
pub mod VariableTableLaws
pub mod LookupLaws
pub mod HashLaws
pub mod ChainLaws
pub mod SearchLaws
pub mod ExitLaws
