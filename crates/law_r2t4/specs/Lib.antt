pub mod Worksheet
