pub mod Exactly
pub mod Orders
pub mod Passes
pub mod Pieces
pub mod SealLemmas
pub mod StampLines
pub mod Standing
pub mod WholeExport
