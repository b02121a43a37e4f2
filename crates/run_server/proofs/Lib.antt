pub mod WebCauses
pub mod WebAnswers
pub mod Target
pub mod Posting
pub mod Exchanges
pub mod Replies
pub mod InFewWords
