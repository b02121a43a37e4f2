pub mod RanWeb
pub mod Posted
pub mod Exchanged
pub mod RanPorts
pub mod WebAnswers
pub mod WebLaws
pub mod OfficeApi
