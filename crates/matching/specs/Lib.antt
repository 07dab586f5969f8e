pub mod Scores
pub mod Ports
pub mod Routes
pub mod Plain
