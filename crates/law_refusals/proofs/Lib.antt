pub mod AtEveryLimit
pub mod Beyond
