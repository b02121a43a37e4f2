pub mod Pushed
pub mod PieceReads
pub mod Handing
