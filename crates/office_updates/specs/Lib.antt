pub mod After
pub mod Changed
pub mod Moved
pub mod Enrollments
pub mod Links
pub mod Placed
pub mod Walks
