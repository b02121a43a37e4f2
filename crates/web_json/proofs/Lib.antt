pub mod BodyLemmas
pub mod FilingLemmas
pub mod DraftLemmas
pub mod MemberLemmas2
pub mod MemberLemmas
pub mod NumberLemmas
pub mod ValueLemmas
