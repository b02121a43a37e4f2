pub mod ReturnPieces
pub mod ReturnPlaces
pub mod ReturnSums
