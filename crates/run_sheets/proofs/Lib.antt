mod Firsts
mod Noted
mod Ran
mod RowLemmas
mod RunningTotals
