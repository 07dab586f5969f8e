pub mod Store
pub mod Entries
