mod Rulings
pub mod Oldest
