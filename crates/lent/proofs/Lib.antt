pub mod Opened
pub mod OneResult
