pub mod Fate
pub mod Landing
pub mod Hearing
