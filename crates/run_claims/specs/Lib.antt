pub mod Office
pub mod Filed
pub mod AtOnce
pub mod Written
pub mod Rules
