pub mod RangeLemmas
pub mod RowLemmas
pub mod SameBook
pub mod TableLemmas
