pub mod Going
pub mod Reaching
pub mod Turning
pub mod Rowing
pub mod Ahead
pub mod Gathering
pub mod Working
