pub mod Asked
pub mod CellTests
pub mod Terms
