pub mod SameFiling
