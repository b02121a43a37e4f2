pub mod Fronts
mod RowLemmas
