pub mod Brought
pub mod Filings
pub mod Forms
pub mod Drafts
pub mod Bodies
pub mod Replies
pub mod Values
