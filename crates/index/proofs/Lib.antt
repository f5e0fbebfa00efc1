-- Laws that belong to no one function.
pub mod CountLaws
pub mod TallyLaws
pub mod ListingLaws
pub mod FillLaws
pub mod OutcomeLaws
pub mod NamesLaws
pub mod NeighbourLaws
pub mod SelectLaws
pub mod AlongLaws
pub mod ListedLaws
pub mod IndexLaws
pub mod OwnIndexLaws
pub mod BuiltLaws
