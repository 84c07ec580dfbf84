pub mod TellLemmas
pub mod ApartLaws
pub mod PlaceLemmas
