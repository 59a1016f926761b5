pub mod Accepted
pub mod Found
pub mod LawsDemands
pub mod LawsPlaces
pub mod LawsShape
pub mod LawsTree
