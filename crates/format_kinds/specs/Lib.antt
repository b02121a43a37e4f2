pub mod Drafts
pub mod Kinds
pub mod Book
pub mod Sections
