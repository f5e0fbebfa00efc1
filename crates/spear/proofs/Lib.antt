-- Laws that belong to no one function.
pub mod PackLaws
pub mod FileNumberLaws
pub mod MostLaws
pub mod RefusalFitsLaws
pub mod KeptLaws
pub mod CodeLaws
