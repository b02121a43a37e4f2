pub mod Kept
pub mod Turns
pub mod Calls
pub mod Memory
pub mod Laws
pub mod Wires
pub mod Held
