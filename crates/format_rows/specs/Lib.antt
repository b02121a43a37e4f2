pub mod Causes
pub mod Fields
pub mod Left
pub mod Lines
pub mod Meanings
pub mod Numbers
pub mod TableRowFormat
