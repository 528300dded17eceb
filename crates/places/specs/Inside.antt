-- Sets of places as two words, and arrays over the places
pub mod PlaceSets
