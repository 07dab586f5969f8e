pub mod Crossing
pub mod Requests
