pub mod CountLemmas
pub mod FieldsLemmas
pub mod NumbersLemmas
pub mod ReadingLemmas
pub mod RecordsLemmas
pub mod TableFormLemmas
pub mod TextLaws
pub mod WholeFields
