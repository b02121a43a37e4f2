mod FieldLemmas
mod Owed
