pub mod AwardLaws
pub mod CeilingLaws
