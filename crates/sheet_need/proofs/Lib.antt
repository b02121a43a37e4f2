pub mod Adding
pub mod NeedFound
pub mod NeedPieces
pub mod NeedSame
